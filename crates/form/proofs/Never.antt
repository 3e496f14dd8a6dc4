-- The writer refuses nothing that a text says: its beats are in lowest terms, and its points within the limits.
use Rattle.std.proofs.Common.{Option, None, Some, Result, Ok, Err}
use mathlib.Core.Path.{◌≡◌, refl, ap, ◌∙◌}
use mathlib.Core.Bool.{Bool, true, false, cond, ◌&&◌}
use mathlib.Core.List.{List, [], ◌∷◌, ◌++◌}
use Prim.Native.Nat.{ℕ, zero, suc, ◌+◌, ◌≤◌}
use native.Mathlib.Omega.{arith}
use borrow.Author.Tests.{le-leb, ltb-true}
use lib.Dec.{ltb}
use lib.IntN.{ℤ}
use lib.ListN.{length, take, length-append}
use Rattle.numbers.specs.Answers.{accepted, refused}
use Rattle.numbers.proofs.Laws.{and_left, and_right}
use Rattle.beats.specs.declared.Beat.{Beat}
use Rattle.beats.specs.Beats.{is_beat}
use Rattle.meter.specs.Meters.{sound_pickup}
use Rattle.tempo.specs.Answers.{all_beats}
use Rattle.score.specs.declared.Score.{Score}
use Rattle.score_writer.specs.Answers.{few_points, in_lowest_terms, write_answer}
use Rattle.splits.specs.Splits.{words, body, lines}
use Rattle.items.specs.declared.Reason.{Reason}
use Rattle.items.specs.declared.Reason.TheVariants.{Twice, ManyMeters, ManyTempos, NoRate, NoBeats, NoTempo, Unwritten}
use Rattle.items.specs.declared.Item.{Item}
use Rattle.items.specs.declared.Item.TheVariants as I
use Rattle.items.specs.Items.{item_of}
use Rattle.items.proofs.Laws.{Told, Fine, item_fine}
use Rattle.form.specs.declared.WrongLine.{WrongLine}
use Rattle.form.specs.declared.draft.Draft.{Draft}
use Rattle.form.specs.Drafts.{empty, unless_said, with_rate, with_beats, with_tempo, with_pickup, more_meters, more_tempos, with_meter, with_point, needed, finished}
use Rattle.form.specs.Forms.{Sofar, Taken, going, halted, keeping, metered, pointed, taken_by, taken}
use Rattle.form.specs.Forms.{wrong_at, Outcome, done, wrong, onward, walk, start, outcome, last_line, written_by, file_answer, end_answer, form_answer}
use Rattle.form.specs.Promise.{NeverUnwritten}

-- ---- beats of points

both : {x y : Bool} → x ≡ true → y ≡ true → (x && y) ≡ true
both e f = rw (e, f)

more_beats : (nums : List ℤ) (dens : List ℕ) (num : ℤ) (den : ℕ) → length nums ≡ length dens → all_beats nums dens ≡ true
    → is_beat (record { num = num; den = den }) ≡ true → all_beats (nums ++ (num ∷ [])) (dens ++ (den ∷ [])) ≡ true
unfolding all_beats
more_beats [] [] num den l h e = both e refl
more_beats [] (d ∷ dens) num den l h e = let z : ⊥ = omega arith in absurd z
more_beats (n ∷ nums) [] num den l h e = let z : ⊥ = omega arith in absurd z
more_beats (n ∷ nums) (d ∷ dens) num den l h e =
    let first = is_beat (record { num = n; den = d }) in
    both {x = first} (and_left first (all_beats nums dens) h) (more_beats nums dens num den (omega arith) (and_right first (all_beats nums dens) h) e)

front_beats : (k : ℕ) (nums : List ℤ) (dens : List ℕ) → all_beats nums dens ≡ true → all_beats (take k nums) (take k dens) ≡ true
unfolding all_beats
front_beats zero nums dens h = refl
front_beats (suc k) [] dens h = refl
front_beats (suc k) (n ∷ nums) [] h = refl
front_beats (suc k) (n ∷ nums) (d ∷ dens) h =
    let first = is_beat (record { num = n; den = d }) in
    both {x = first} (and_left first (all_beats nums dens) h) (front_beats k nums dens (and_right first (all_beats nums dens) h))

-- ---- what the lines so far have said

pub record SoundDraft (draft : Draft) : Type 0 where
  pub pickup_lowest : sound_pickup draft.pickup ≡ true
  pub few_meters : draft.meters ≤ 256
  pub few_tempos : draft.tempos ≤ 1024

pub record Sound (sofar : Sofar) : Type 0 where
  pub sound_draft : SoundDraft sofar.draft
  pub even : length sofar.nums ≡ length sofar.dens
  pub lowest : all_beats sofar.nums sofar.dens ≡ true

abbrev SoundStep : Result Draft Reason → Type 0
SoundStep (Ok draft) = SoundDraft draft
SoundStep (Err reason) = Told reason

abbrev SoundTaken : Taken → Type 0
SoundTaken (going sofar) = Sound sofar
SoundTaken (halted reason) = Told reason

abbrev SoundOutcome : Outcome → Type 0
SoundOutcome (done behind sofar) = Sound sofar
SoundOutcome (wrong line reason) = Told reason

twice_told : Told Twice
twice_told e = cc

said_sound : {A : Type 0} (next : Draft) (said : Option A) → SoundDraft next → SoundStep (unless_said said next)
unfolding unless_said
said_sound next None h = h
said_sound next (Some a) h = twice_told

module _ (draft : Draft) (h : SoundDraft draft) where
  meter_sound : SoundStep (with_meter draft)
  unfolding with_meter more_meters
  meter_sound = go (ltb draft.meters 256) refl
    where
      full : Told ManyMeters
      full e = cc

      go : (b : Bool) → ltb draft.meters 256 ≡ b → SoundStep (cond b (Ok (more_meters draft)) (Err ManyMeters))
      go true e = let l = ltb-true draft.meters 256 e in record { pickup_lowest = h.pickup_lowest; few_meters = omega arith; few_tempos = h.few_tempos }
      go false e = full

  tempo_sound : SoundStep (with_point draft)
  unfolding with_point more_tempos
  tempo_sound = go (ltb draft.tempos 1024) refl
    where
      full : Told ManyTempos
      full e = cc

      go : (b : Bool) → ltb draft.tempos 1024 ≡ b → SoundStep (cond b (Ok (more_tempos draft)) (Err ManyTempos))
      go true e = let l = ltb-true draft.tempos 1024 e in record { pickup_lowest = h.pickup_lowest; few_meters = h.few_meters; few_tempos = omega arith }
      go false e = full

-- ---- a line more

module _ (sofar : Sofar) (h : Sound sofar) where
  keeps : (step : Result Draft Reason) → SoundStep step → SoundTaken (keeping sofar step)
  unfolding keeping
  keeps (Ok draft) d = record { sound_draft = d; even = h.even; lowest = h.lowest }
  keeps (Err reason) d = d

  meters : (bar num den : ℕ) (step : Result Draft Reason) → SoundStep step → SoundTaken (metered sofar bar num den step)
  unfolding metered
  meters bar num den (Ok draft) d = record { sound_draft = d; even = h.even; lowest = h.lowest }
  meters bar num den (Err reason) d = d

  points : (beat : Beat) (bpm : ℕ) → is_beat beat ≡ true → (step : Result Draft Reason) → SoundStep step → SoundTaken (pointed sofar beat bpm step)
  unfolding pointed
  points beat bpm e (Ok draft) d = record {
    sound_draft = d;
    even = simp length-append (ap (λ (k : ℕ). k + 1) h.even);
    lowest = more_beats sofar.nums sofar.dens beat.num beat.den h.even h.lowest e;
  }
  points beat bpm e (Err reason) d = d

  numbers : (next : Draft) → next.pickup ≡ sofar.draft.pickup → next.meters ≡ sofar.draft.meters → next.tempos ≡ sofar.draft.tempos → SoundDraft next
  numbers next p m t =
      let d = h.sound_draft in
      record { pickup_lowest = ap sound_pickup p ∙ d.pickup_lowest; few_meters = omega (arith, d.few_meters); few_tempos = omega (arith, d.few_tempos) }

  item_sound : (item : Result (Option Item) Reason) → Fine item → SoundTaken (taken_by sofar item)
  unfolding taken_by with_rate with_beats with_tempo with_pickup
  item_sound (Ok None) f = h
  item_sound (Ok (Some (I.Rate n))) f = keeps _ (said_sound _ sofar.draft.rate (numbers _ refl refl refl))
  item_sound (Ok (Some (I.Beats n))) f = keeps _ (said_sound _ sofar.draft.beats (numbers _ refl refl refl))
  item_sound (Ok (Some (I.Tempo n))) f = keeps _ (said_sound _ sofar.draft.tempo (numbers _ refl refl refl))
  item_sound (Ok (Some (I.Pickup beat))) f =
      keeps _ (said_sound _ sofar.draft.pickup (record { pickup_lowest = f; few_meters = h.sound_draft.few_meters; few_tempos = h.sound_draft.few_tempos }))
  item_sound (Ok (Some (I.MeterPoint bar num den))) f = meters bar num den _ (meter_sound sofar.draft h.sound_draft)
  item_sound (Ok (Some (I.TempoPoint beat bpm))) f = points beat bpm f _ (tempo_sound sofar.draft h.sound_draft)
  item_sound (Err reason) f = f

  line_sound : (line : List ℕ) → SoundTaken (taken sofar line)
  unfolding taken
  line_sound line = item_sound (item_of (words (body line))) (item_fine (words (body line)))

walk_sound : (text : List (List ℕ)) (behind : ℕ) (sofar : Sofar) → Sound sofar → SoundOutcome (walk text behind sofar)
unfolding walk onward
walk_sound [] behind sofar h = h
walk_sound (line ∷ rest) behind sofar h = go (λ s q. walk_sound rest (behind + 1) s q) (taken sofar line) (line_sound sofar h line)
  where
    go : ((s : Sofar) → Sound s → SoundOutcome (walk rest (behind + 1) s)) → (t : Taken) → SoundTaken t → SoundOutcome (onward (behind + 1) (walk rest (behind + 1)) t)
    go more (going s) q = more s q
    go more (halted reason) q = q

-- ---- the file

abbrev TellsNot : Result ℕ WrongLine → Type 0
TellsNot (Ok size) = 0 ≤ 0
TellsNot (Err told) = Told told.reason

module _ (line : ℕ) (sofar : Sofar) (h : Sound sofar) where
  whole : (score : Score) → score.pickup ≡ sofar.draft.pickup → score.meters ≡ sofar.draft.meters → score.tempos ≡ sofar.draft.tempos
      → TellsNot (file_answer line sofar (Ok score))
  unfolding file_answer written_by write_answer
  whole score p m t = go _ (few_points score) (in_lowest_terms score sofar.meter sofar.nums sofar.dens sofar.bits) few_points_lem lowest_terms
    where
      few_points_lem : few_points score ≡ true
      few_points_lem = both (le-leb score.meters 256 (omega (arith, h.sound_draft.few_meters))) (le-leb score.tempos 1024 (omega (arith, h.sound_draft.few_tempos)))

      lowest_terms : in_lowest_terms score sofar.meter sofar.nums sofar.dens sofar.bits ≡ true
      lowest_terms = both (ap sound_pickup p ∙ h.sound_draft.pickup_lowest) (front_beats score.tempos sofar.nums sofar.dens h.lowest)

      go : (size : ℕ) (x y : Bool) → x ≡ true → y ≡ true → TellsNot (written_by line (cond x (cond y (accepted size) (refused 1 [])) (refused 4 [])))
      go size true true e f = omega arith
      go size true false e f = cc
      go size false y e f = cc

  needs : (said : Option ℕ) (reason : Reason) (go : ℕ → Result Score Reason) → Told reason
      → ((n : ℕ) → TellsNot (file_answer line sofar (go n))) → TellsNot (file_answer line sofar (needed said reason go))
  unfolding needed file_answer
  needs None reason go t f = t
  needs (Some n) reason go t f = f n

  file_sound : TellsNot (file_answer line sofar (finished sofar.draft))
  unfolding finished
  file_sound =
      needs sofar.draft.rate NoRate _ rate_told
      (λ rate. needs sofar.draft.beats NoBeats _ beats_told (λ beats. needs sofar.draft.tempo NoTempo _ tempo_told (λ bpm. whole _ refl refl refl)))
    where
      rate_told : Told NoRate
      rate_told e = cc

      beats_told : Told NoBeats
      beats_told e = cc

      tempo_told : Told NoTempo
      tempo_told e = cc

-- no text is refused by the writer
pub never_unwritten : NeverUnwritten
unfolding form_answer end_answer outcome start empty all_beats
never_unwritten text line e = told (form_answer text) (ends (outcome text) (walk_sound (lines text) 0 start begin)) e
  where
    begin : Sound start
    begin = record { sound_draft = record { pickup_lowest = refl; few_meters = omega arith; few_tempos = omega arith }; even = refl; lowest = refl }

    ends : (o : Outcome) → SoundOutcome o → TellsNot (end_answer o)
    ends (done behind sofar) h = file_sound (last_line behind) sofar h
    ends (wrong line reason) h = h

    unwritten : {why : WrongLine} → ◌≡◌ {A = Result ℕ WrongLine} (Err why) (wrong_at line Unwritten) → why.reason ≡ Unwritten
    unwritten {why} f = let q : why ≡ record { line = line; reason = Unwritten } = cc in ap (λ (w : WrongLine). w.reason) q

    told : (answer : Result ℕ WrongLine) → TellsNot answer → answer ≡ wrong_at line Unwritten → ⊥
    told (Ok size) h f = cc
    told (Err why) h f = h (unwritten f)
