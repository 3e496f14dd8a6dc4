-- The three stretches of a plan, counted, and written one after the other.
use Rattle.std.proofs.Common.{◌≡◌, refl, sym, ap, ◌∙◌, Bool, true, false, cond, List, ◌++◌, ℕ, ◌+◌, ◌*◌, ◌/◌, ◌≤◌, ◌<◌, zero-add, div-mul-le_self, arith, leb-true, leb-false, le-leb, leb, length, drop, length-append}
use Rattle.std.proofs.lemmas.Bool.{lt-leb}
use Rattle.std.proofs.lemmas.List.Edits.{sets, sets-eq}
use lib.Seq.{length-sets}
use Rattle.numbers.proofs.Laws.{sets_append}
use Rattle.numbers.specs.Answers.{over}
use Rattle.lines.specs.Lines.{ascends, between}
use Rattle.lines.specs.Places.{Splits}
use Rattle.cues.specs.declared.plan.Plan.{Plan}
use Rattle.std.specs.Prelude.{Option, Some, None}
use Rattle.cues.specs.CueCall.{flat}
use Rattle.cues.specs.Plans.{plan_cues, Fitting, counted_to, written, part_words, lap_words, Within, Writes, WritesLaps}
use Rattle.cues.proofs.Parts.{length_between, length_plan, length_flat, within, plan_words}

-- ---- what a count says

pub counted_many : (room count : ℕ) → counted_to room count ≡ None → room < count
counted_many room count h = go (leb count room) refl h
  where
    go : (b : Bool) → leb count room ≡ b → cond b (Some count) None ≡ None → room < count
    go true e q = absurd (let z : ◌≡◌ {A = ℕ} 0 1 = cc in omega arith)
    go false e q = leb-false count room e

pub counted_fits : (room count found : ℕ) → counted_to room count ≡ Some found → (found ≡ count) × (count ≤ room)
counted_fits room count found h = go (leb count room) refl h
  where
    go : (b : Bool) → leb count room ≡ b → cond b (Some count) None ≡ Some found → (found ≡ count) × (count ≤ room)
    go true e q = (cc, leb-true count room e)
    go false e q = absurd (let z : ◌≡◌ {A = ℕ} 0 1 = cc in omega arith)

-- ---- what `fill` has found: the places of the stretches' first lines, and the parts

pub record Found (lines : List ℕ) (p : Plan) (place again : ℕ) (first lap last : List ℕ) : Type 0 where
  pub up : ascends lines ≡ true
  pub few : length lines ≤ 65536
  pub fits : Fitting p
  pub place_at : Splits p.from lines place
  pub again_at : Splits p.start lines again
  pub first_is : first ≡ between p.from (p.from + p.first) lines
  pub lap_is : lap ≡ between p.start (p.start + p.lap) lines
  pub last_is : last ≡ between p.start (p.start + p.last) lines

-- from what the calls ask and give
pub found : (lines : List ℕ) (p : Plan) (place again : ℕ) (first lap last : List ℕ)
    → ascends lines ≡ true → length lines ≤ 65536 → Fitting p
    → Splits p.from lines place
    → first ≡ between p.from (p.from + p.first) lines
    → Splits p.start lines again
    → lap ≡ between p.start (p.start + p.lap) lines
    → last ≡ between p.start (p.start + p.last) lines
    → Found lines p place again first lap last
found lines p place again first lap last up few fits place_at first_is again_at lap_is last_is = record {
  up = up;
  few = few;
  fits = fits;
  place_at = place_at;
  again_at = again_at;
  first_is = first_is;
  lap_is = lap_is;
  last_is = last_is;
}

-- a part, its place and its lines
module _ (lines : List ℕ) (few : length lines ≤ 65536) (from frames place : ℕ) (s : Splits from lines place) (part : List ℕ) (e : part ≡ between from (from + frames) lines) where
  part_few : place + length part ≤ 131072
  part_few = omega (arith, s.within, ap length e, length_between from (from + frames) lines)

  part_within : Within from frames part
  part_within = rw e (within from frames lines)

  part_writes : (out : List ℕ) (at time : ℕ) → time + frames ≤ 18446744073709551615 → at + length (part_words time from place part) ≤ length out → Writes part out at from place time
  part_writes out at time h room = record {
    starts = part_within.starts;
    times = λ i l. omega (arith, part_within.starts i l, part_within.ends i l);
    places = part_few;
    room = room;
  }

module _ (lines : List ℕ) (p : Plan) (place again : ℕ) (first lap last : List ℕ) (f : Found lines p place again first lap last) where
  abbrev total : ℕ
  total = length first + (p.laps * length lap + length last)

  pub ends_few : length first + length last ≤ 131072
  ends_few = omega (arith, ap length f.first_is, ap length f.last_is, f.few, length_between p.from (p.from + p.first) lines, length_between p.start (p.start + p.last) lines)

  total_is : total ≡ length (plan_cues lines p)
  total_is = rw (f.first_is, f.lap_is, f.last_is) (sym (length_plan lines p))

  pub count_is : (room : ℕ) (counted : Option ℕ) → counted ≡ counted_to room total → counted ≡ counted_to room (length (plan_cues lines p))
  count_is room counted e = e ∙ ap (counted_to room) total_is

  -- ---- no room: nothing is written
  pub none_left : (out : List ℕ) (counted : Option ℕ) → counted ≡ counted_to (length out / 2) total → counted ≡ None → out ≡ written (plan_cues lines p) out
  none_left out counted e g =
      sym (ap (λ (b : Bool). cond b (over (flat (plan_cues lines p)) out) out) (lt-leb (length (plan_cues lines p)) (length out / 2) many))
    where
      many : length out / 2 < length (plan_cues lines p)
      many = counted_many (length out / 2) (length (plan_cues lines p)) (sym (count_is (length out / 2) counted e) ∙ g)

  -- ---- room: the three stretches are written
  module _ (before : List ℕ) (counted : Option ℕ) (n : ℕ) (e : counted ≡ counted_to (length before / 2) total) (g : counted ≡ Some n) where
    abbrev first_words : List ℕ
    first_words = part_words 0 p.from place first

    abbrev laps_words : List ℕ
    laps_words = lap_words p.lap p.start again lap p.first p.laps

    abbrev last_words : List ℕ
    last_words = part_words (p.first + p.laps * p.lap) p.start again last

    enough : length (plan_cues lines p) ≤ length before / 2
    enough = (counted_fits (length before / 2) (length (plan_cues lines p)) n (sym (count_is (length before / 2) counted e) ∙ g)).1

    whole : flat (plan_cues lines p) ≡ first_words ++ (laps_words ++ last_words)
    whole = rw (f.first_is, f.lap_is, f.last_is) (plan_words lines f.up p place again f.place_at f.again_at)

    long : length (flat (plan_cues lines p)) ≡ length first_words + (length laps_words + length last_words)
    long = ap length whole ∙ length-append first_words (laps_words ++ last_words) ∙ ap (λ (m : ℕ). length first_words + m) (length-append laps_words last_words)

    room : length (flat (plan_cues lines p)) ≤ length before
    room = omega (arith, enough, length_flat (plan_cues lines p), div-mul-le_self (length before) 2)

    pub first_writes : Writes first before 0 p.from place 0
    first_writes = part_writes lines f.few p.from p.first place f.place_at first f.first_is before 0 0 (omega (arith, f.fits.run_fits)) (omega (arith, room, long))

    module _ (at : ℕ) (out : List ℕ) (one : (at ≡ 0 + length first_words) × (out ≡ sets before 0 first_words)) where
      out_long : length out ≡ length before
      out_long = ap length one.1 ∙ length-sets before 0 first_words

      pub laps_write : WritesLaps lap out at p.start p.lap again p.first p.laps
      laps_write = record {
        lines = part_within lines f.few p.start p.lap again f.again_at lap f.lap_is;
        places = part_few lines f.few p.start p.lap again f.again_at lap f.lap_is;
        times = omega (arith, f.fits.run_fits);
        room = omega (arith, room, long, one.0, out_long);
      }

      module _ (next : ℕ) (out' : List ℕ) (two : (next ≡ at + length laps_words) × (out' ≡ sets out at laps_words)) where
        pub last_writes : Writes last out' next p.start again (p.first + p.laps * p.lap)
        last_writes = part_writes lines f.few p.start p.last again f.again_at last f.last_is out' next (p.first + p.laps * p.lap)
            (omega (arith, f.fits.run_fits)) (omega (arith, room, long, one.0, two.0, out_long, ap length two.1, length-sets out at laps_words))

        -- what the three calls leave
        pub all_written : (out'' : List ℕ) → out'' ≡ sets out' next last_words → out'' ≡ written (plan_cues lines p) before
        all_written out'' three =
            three
            ∙ rw (two.1, two.0, one.1, one.0) (sym (sets_append (sets before 0 first_words) (0 + length first_words) laps_words last_words))
            ∙ sym (sets_append before 0 first_words (laps_words ++ last_words)) ∙ sym (ap (sets before 0) whole)
            ∙ sets-eq (flat (plan_cues lines p)) before 0 (omega (arith, room)) ∙ ap (λ (m : ℕ). flat (plan_cues lines p) ++ drop m before) (zero-add (length (flat (plan_cues lines p))))
            ∙ sym (ap (λ (b : Bool). cond b (over (flat (plan_cues lines p)) before) before) (le-leb (length (plan_cues lines p)) (length before / 2) enough))
