-- The carried tempo walk: a point was passed because the beat is not at or before it, and then no later beat is; so where the walk for a beat stops, that for a later one may go on.
use Rattle.std.proofs.Common.{sym, ◌≡◌, refl, subst, Bool, true, false, List, [], ◌∷◌, ℕ, zero, suc, ◌+◌, ◌≤◌, ◌<◌, arith, T, ℤ, pos, length, get_or, set, Float}
use lib.Ieee.{le}
use Rattle.numbers.proofs.Laws.{holds}
use Rattle.rounding.specs.Floats.{float0}
use Rattle.beats.specs.Frames.{beat_float}
use Rattle.tempo.specs.Tempos.{Parallel, tempo_of, elapsed, reaches, seconds_to}
use Rattle.tempo.proofs.Laws.{begins, ends, stops, goes}
use Rattle.filler.specs.declared.stands.Stand.{Stand}
use Rattle.filler.specs.Carried.{Answers, Serves, ServesAll, Stopped}
use Rattle.rounding.proofs.Laws.{le_trans_float}

abbrev pub stand : Float → Float → Float → Float → ℕ → Stand
stand beat secs from tempo next = record { beat = beat; secs = secs; from = from; tempo = tempo; next = next }

-- a stand whose own beat and next point these are
pub as_stand : (w : Stand) (beat : Float) (i : ℕ) → w.beat ≡ beat → w.next ≡ i → stand beat w.secs w.from w.tempo i ≡ w
as_stand w beat i own next = λ t. stand (sym own t) w.secs w.from w.tempo (sym next t)

module _ (nums : List ℤ) (dens tempos : List ℕ) (even : Parallel nums dens tempos) where
  -- ---- from one beat to another

  -- the beginning serves every beat
  pub serves_begin : (tempo : Float) → (0 < length nums → tempo ≡ tempo_of (get_or tempos 0 0)) → ServesAll nums dens tempos (stand float0 float0 float0 tempo 1)
  serves_begin tempo is beat = record { own = answers beat; later = λ further h. answers further }
    where
      answers : (b : Float) → Answers nums dens tempos b (stand float0 float0 float0 tempo 1)
      answers b h = begins nums dens tempos even (reaches b) (seconds_to b) h tempo (is h)

  -- what serves a beat serves each that is not before it
  pub serves_later : (last beat : Float) (w : Stand) → le last beat ≡ true → Serves nums dens tempos last w → Serves nums dens tempos beat w
  serves_later last beat w e s =
      let h = holds (le last beat) e in
      record { own = s.later beat h; later = λ further k. s.later further (le_trans_float last beat further h k) }

  -- ---- the walk

  -- what is taken to a beat has that as its own
  pub serves_own : (beat : Float) (w : Stand) → Serves nums dens tempos beat w → Serves nums dens tempos beat (stand beat w.secs w.from w.tempo w.next)
  serves_own beat w s = record { own = s.own; later = s.later }

  module _ (beat secs from tempo : Float) (i : ℕ) (s : Serves nums dens tempos beat (stand beat secs from tempo i)) where
    pub stopped_end : length nums ≤ i → Stopped nums dens tempos (stand beat secs from tempo i)
    stopped_end h =
        record { serves = s; seconds = λ p. ends nums dens tempos even (reaches beat) (seconds_to beat) i secs from tempo _ (s.own p) h }

    module _ (h : i < length nums) (num : ℤ) (reads : num ≡ get_or nums i (pos 0)) (at : Float) (is : at ≡ beat_float num (get_or dens i 0)) where
      pub stopped_here : le beat at ≡ true → Stopped nums dens tempos (stand beat secs from tempo i)
      stopped_here t =
          record { serves = s; seconds = λ p. stops nums dens tempos even (reaches beat) (seconds_to beat) i secs from tempo _ (s.own p) h num reads at is t }

      pub serves_on : le beat at ≡ false → (there next : Float) → there ≡ elapsed secs from at tempo → next ≡ tempo_of (get_or tempos i 0) → Serves nums dens tempos beat (stand beat there at next (i + 1))
      serves_on t there next e f =
          record {
            own = on beat s.own t;
            later = λ further k. on further (s.later further k) (not_stopped further k (le further at) refl);
          }
        where
          on : (b : Float) → Answers nums dens tempos b (stand beat secs from tempo i) → le b at ≡ false → Answers nums dens tempos b (stand beat there at next (i + 1))
          on b answers u p = rw e (goes nums dens tempos even (reaches b) (seconds_to b) i secs from tempo _ (answers p) h num reads at is next f u)

          not_stopped : (further : Float) → T (le beat further) → (b : Bool) → le further at ≡ b → le further at ≡ false
          not_stopped further k true u = absurd (subst T t (le_trans_float beat further at k (holds (le further at) u)))
          not_stopped further k false u = u

-- ---- walks that are kept

module _ (nums : List ℤ) (dens tempos : List ℕ) where
  -- each serves its own beat
  abbrev pub AllServe : List Stand → Type 0
  AllServe [] = Unit
  AllServe (w ∷ rest) = Serves nums dens tempos w.beat w × AllServe rest

  pub one_serves : (kept : List Stand) (place : ℕ) (none : Stand) → place < length kept → AllServe kept → Serves nums dens tempos (get_or kept place none).beat (get_or kept place none)
  one_serves [] place none h s = absurd (omega arith)
  one_serves (w ∷ rest) zero none h s = s.0
  one_serves (w ∷ rest) (suc place) none h s = one_serves rest place none (omega arith) s.1

  -- another takes the place of one
  pub placed_serve : (kept : List Stand) (place : ℕ) (w : Stand) → Serves nums dens tempos w.beat w → AllServe kept → AllServe (set kept place w)
  placed_serve [] place w h s = tt
  placed_serve (first ∷ rest) zero w h s = (h, s.1)
  placed_serve (first ∷ rest) (suc place) w h s = (s.0, placed_serve rest place w h s.1)
