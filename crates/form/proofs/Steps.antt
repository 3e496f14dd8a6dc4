-- What a line does, by what it says: the points stand at the front of longer lists.
use Rattle.std.proofs.Common.{Option, None, Some, Result, Ok, Err}
use mathlib.Core.Path.{◌≡◌, refl, ap, ◌∙◌}
use mathlib.Core.List.{List}
use Prim.Native.Nat.{ℕ, ◌≤◌, ◌<◌}
use native.Mathlib.Omega.{arith}
use borrow.Author.Tests.{ltb-true}
use lib.Dec.{ltb}
use native.Mathlib.Nat.{mul-add}
use Rattle.numbers.proofs.Laws.{cases}
use Rattle.beats.specs.declared.Beat.{Beat}
use Rattle.splits.specs.Splits.{words, body}
use Rattle.items.specs.declared.Reason.{Reason}
use Rattle.items.specs.declared.Item.{Item}
use Rattle.items.specs.declared.Item.TheVariants as I
use Rattle.items.specs.Items.{item_of}
use Rattle.score.specs.declared.music.Points.{Points}
use Rattle.form.specs.declared.draft.Draft.{Draft}
use Rattle.form.specs.Drafts.{unless_said, with_rate, with_beats, with_tempo, with_pickup, more_meters, more_tempos, with_meter, with_point}
use Rattle.form.specs.Forms.{MeterBehind, TempoBehind, Sofar, Taken, keeping, metered, pointed, taken_by, taken, front, read_step}

-- ---- a line that counts no point

abbrev Kept : Draft → Result Draft Reason → Type 0
Kept draft (Ok next) = (next.meters ≡ draft.meters) × (next.tempos ≡ draft.tempos)
Kept draft (Err reason) = 0 ≤ 0

said_kept : {A : Type 0} (draft next : Draft) (said : Option A) → next.meters ≡ draft.meters → next.tempos ≡ draft.tempos → Kept draft (unless_said said next)
unfolding unless_said
said_kept draft next None e f = (e, f)
said_kept draft next (Some a) e f = omega arith

module _ (draft : Draft) (points : Points) where
  kept : (step : Result Draft Reason) → Kept draft step → read_step step points ≡ keeping (front draft points) step
  unfolding read_step keeping front
  kept (Ok next) (e, f) = rw (e, f)
  kept (Err reason) e = refl

  pub nothing_step : read_step (Ok draft) points ≡ taken_by (front draft points) (Ok None)
  unfolding read_step taken_by
  nothing_step = refl

  pub wrong_step : (reason : Reason) → read_step (Err reason) points ≡ taken_by (front draft points) (Err reason)
  unfolding read_step taken_by
  wrong_step reason = refl

  pub rate_step : (n : ℕ) {step : Result Draft Reason} → step ≡ with_rate draft n → read_step step points ≡ taken_by (front draft points) (Ok (Some (I.Rate n)))
  unfolding taken_by with_rate front
  rate_step n e = ap (λ (s : Result Draft Reason). read_step s points) e ∙ kept (with_rate draft n) (said_kept draft _ draft.rate refl refl)

  pub beats_step : (n : ℕ) {step : Result Draft Reason} → step ≡ with_beats draft n → read_step step points ≡ taken_by (front draft points) (Ok (Some (I.Beats n)))
  unfolding taken_by with_beats front
  beats_step n e = ap (λ (s : Result Draft Reason). read_step s points) e ∙ kept (with_beats draft n) (said_kept draft _ draft.beats refl refl)

  pub tempo_step : (n : ℕ) {step : Result Draft Reason} → step ≡ with_tempo draft n → read_step step points ≡ taken_by (front draft points) (Ok (Some (I.Tempo n)))
  unfolding taken_by with_tempo front
  tempo_step n e = ap (λ (s : Result Draft Reason). read_step s points) e ∙ kept (with_tempo draft n) (said_kept draft _ draft.tempo refl refl)

  pub pickup_step : (beat : Beat) {step : Result Draft Reason} → step ≡ with_pickup draft beat → read_step step points ≡ taken_by (front draft points) (Ok (Some (I.Pickup beat)))
  unfolding taken_by with_pickup front
  pickup_step beat e = ap (λ (s : Result Draft Reason). read_step s points) e ∙ kept (with_pickup draft beat) (said_kept draft _ draft.pickup refl refl)

  -- ---- points

  pub meter_step : (later : Points) (bar num den : ℕ) {step : Result Draft Reason} → step ≡ with_meter draft
      → (draft.meters < 256 → MeterBehind draft.meters bar num den points later)
      → read_step step later ≡ taken_by (front draft points) (Ok (Some (I.MeterPoint bar num den)))
  unfolding read_step taken_by metered front with_meter more_meters
  meter_step later bar num den e h =
      ap (λ (s : Result Draft Reason). read_step s later) e
      ∙ cases (ltb draft.meters 256)
      (λ t. let p = h (ltb-true draft.meters 256 t) in rw t (rw (mul-add 3 draft.meters 1, p.words_are, p.nums_are, p.dens_are, p.bpms_are)))
      (λ t. rw t)

  pub point_step : (later : Points) (beat : Beat) (bpm : ℕ) {step : Result Draft Reason} → step ≡ with_point draft
      → (draft.tempos < 1024 → TempoBehind draft.tempos beat bpm points later)
      → read_step step later ≡ taken_by (front draft points) (Ok (Some (I.TempoPoint beat bpm)))
  unfolding read_step taken_by pointed front with_point more_tempos
  point_step later beat bpm e h =
      ap (λ (s : Result Draft Reason). read_step s later) e
      ∙ cases (ltb draft.tempos 1024)
      (λ t. let p = h (ltb-true draft.tempos 1024 t) in rw t (rw (p.meter_is, p.num_behind, p.den_behind, p.bpm_behind)))
      (λ t. rw t)

-- ---- any line

pub taken_is : (sofar : Sofar) (line : List ℕ) {item : Result (Option Item) Reason} {answer : Taken} → answer ≡ taken_by sofar item → item ≡ item_of (words (body line)) → answer ≡ taken sofar line
unfolding taken
taken_is sofar line e f = e ∙ ap (taken_by sofar) f

-- what a line says, by the cases of the code
pub told_is : {held : Option Item} {item one : Item} {said all : Result (Option Item) Reason} → held ≡ Some item → item ≡ one → said ≡ Ok held → said ≡ all
    → ◌≡◌ {A = Result (Option Item) Reason} (Ok (Some one)) all
told_is p q e f = cc

pub none_is : {held : Option Item} {said all : Result (Option Item) Reason} → held ≡ None → said ≡ Ok held → said ≡ all → ◌≡◌ {A = Result (Option Item) Reason} (Ok None) all
none_is p e f = cc
