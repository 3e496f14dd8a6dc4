-- The end of a walk: what is missing, or the file of the points so far.
use Rattle.std.proofs.Common.{Option, None, Some, Result, Ok, Err, max}
use mathlib.Core.Path.{◌≡◌, refl, sym, ap, ◌∙◌}
use mathlib.Core.List.{List}
use Prim.Native.Nat.{ℕ, zero, suc, ◌*◌}
use native.Mathlib.Omega.{arith}
use lib.IntN.{ℤ}
use lib.ListN.{take}
use lib.Seq.{take-take}
use Rattle.score.specs.declared.Score.{Score}
use Rattle.score_writer.specs.Answers.{write_answer, written_into}
use Rattle.items.specs.declared.Reason.{Reason}
use Rattle.items.specs.declared.Reason.TheVariants.{NoRate, NoBeats, NoTempo}
use Rattle.score.specs.declared.music.Points.{Points}
use Rattle.form.specs.declared.WrongLine.{WrongLine}
use Rattle.form.specs.declared.fold.Read.{Read}
use Rattle.form.specs.declared.draft.Draft.{Draft}
use Rattle.form.specs.Drafts.{needed, finished}
use Rattle.form.specs.Forms.{Sofar, wrong_at, outcome, last_line, written_by, file_answer, file_bytes, end_answer, end_bytes, form_answer, form_bytes, front, read_walk}

module _ (draft : Draft) where
  -- ---- the end

  pub no_rate : draft.rate ≡ None → Err NoRate ≡ finished draft
  unfolding finished needed
  no_rate e = rw e

  module _ (rate : ℕ) (r : draft.rate ≡ Some rate) where
    pub no_beats : draft.beats ≡ None → Err NoBeats ≡ finished draft
    unfolding finished needed
    no_beats e = rw (r, e)

    module _ (beats : ℕ) (b : draft.beats ≡ Some beats) where
      pub no_tempo : draft.tempo ≡ None → Err NoTempo ≡ finished draft
      unfolding finished needed
      no_tempo e = rw (r, b, e)

      pub all_said : (bpm : ℕ) → draft.tempo ≡ Some bpm
          → Ok (record { rate = rate; beats = beats; bpm = bpm; pickup = draft.pickup; meters = draft.meters; tempos = draft.tempos }) ≡ finished draft
      unfolding finished needed
      all_said bpm e = rw (r, b, e)

  -- a whole score counts the draft's points
  pub counts : (score : Score) → Ok score ≡ finished draft → (score.meters ≡ draft.meters) × (score.tempos ≡ draft.tempos)
  unfolding finished needed
  counts score e = go draft.rate draft.beats draft.tempo refl refl refl
    where
      meters : Result Score Reason → ℕ
      meters (Ok s) = s.meters
      meters (Err reason) = draft.meters

      tempos : Result Score Reason → ℕ
      tempos (Ok s) = s.tempos
      tempos (Err reason) = draft.tempos

      never : (reason : Reason) → Ok score ≡ Err reason → (score.meters ≡ draft.meters) × (score.tempos ≡ draft.tempos)
      never reason q = cc

      go : (r b t : Option ℕ) → draft.rate ≡ r → draft.beats ≡ b → draft.tempo ≡ t → (score.meters ≡ draft.meters) × (score.tempos ≡ draft.tempos)
      go None b t p q s = never NoRate (e ∙ sym (no_rate p))
      go (Some r) None t p q s = never NoBeats (e ∙ sym (no_beats r p q))
      go (Some r) (Some b) None p q s = never NoTempo (e ∙ sym (no_tempo r p b q s))
      go (Some r) (Some b) (Some t) p q s = let f = e ∙ sym (all_said r p b q t s) in (ap meters f, ap tempos f)

pub last_is : (n : ℕ) → max n 1 ≡ last_line n
unfolding last_line
last_is zero = omega arith
last_is (suc n) = omega arith

-- ---- the writer goes by the points that count

module _ (score : Score) (meter : List ℕ) (nums : List ℤ) (dens bits : List ℕ) {m t : ℕ} (p : score.meters ≡ m) (q : score.tempos ≡ t) where
  twice : {A : Type 0} (n : ℕ) (l : List A) → take n (take n l) ≡ take n l
  twice n l = take-take n n l (omega arith)

  pub answer_front : write_answer score meter nums dens bits ≡ write_answer score (take (3 * m) meter) (take t nums) (take t dens) (take t bits)
  unfolding write_answer
  answer_front = rw (sym p, sym q) (rw (twice (3 * score.meters) meter, twice score.tempos nums, twice score.tempos dens, twice score.tempos bits))

  pub bytes_front : (old : List ℕ) → written_into score meter nums dens bits old ≡ written_into score (take (3 * m) meter) (take t nums) (take t dens) (take t bits) old
  unfolding write_answer written_into
  bytes_front old = rw (sym p, sym q) (rw (twice (3 * score.meters) meter, twice score.tempos nums, twice score.tempos dens, twice score.tempos bits))

-- ---- the answer

module _ (draft : Draft) (line lines : ℕ) where
  pub end_wrong : (sofar : Sofar) (old : List ℕ) {reason : Reason} → line ≡ last_line lines → Err reason ≡ finished draft
      → (wrong_at line reason ≡ file_answer (last_line lines) sofar (finished draft)) × (old ≡ file_bytes sofar (finished draft) old)
  unfolding file_answer file_bytes
  end_wrong sofar old e f = rw (sym e, sym f) (refl, refl)

  pub end_whole : (points : Points) (old : List ℕ) {score : Score} {answer : Result ℕ WrongLine} {after : List ℕ} → line ≡ last_line lines
      → Ok score ≡ finished draft → answer ≡ written_by line (write_answer score points.meter points.nums points.dens points.bpms) → after ≡ written_into score points.meter points.nums points.dens points.bpms old
      → (answer ≡ file_answer (last_line lines) (front draft points) (finished draft))
      × (after ≡ file_bytes (front draft points) (finished draft) old)
  unfolding file_answer file_bytes front
  end_whole points old {score} {answer} {after} e f g h =
      let n = counts draft score f in
      rw (sym e, sym f)
      (g ∙ ap (written_by line) (answer_front score points.meter points.nums points.dens points.bpms n.0 n.1), h ∙ bytes_front score points.meter points.nums points.dens points.bpms n.0 n.1 old)

module _ (text : List ℕ) (points : Points) (old : List ℕ) {walk : Result Read WrongLine} (e : read_walk walk points ≡ outcome text) where
  pub walk_wrong : {told : WrongLine} → walk ≡ Err told → (Err told ≡ form_answer text) × (old ≡ form_bytes text old)
  unfolding form_answer form_bytes end_answer end_bytes read_walk
  walk_wrong f = let q = sym (ap (λ (w : Result Read WrongLine). read_walk w points) f) ∙ e in rw (sym q) (refl, refl)

  pub walk_done : {read : Read} {answer : Result ℕ WrongLine} {after : List ℕ} → walk ≡ Ok read
      → answer ≡ file_answer (last_line read.lines) (front read.draft points) (finished read.draft)
      → after ≡ file_bytes (front read.draft points) (finished read.draft) old
      → (answer ≡ form_answer text) × (after ≡ form_bytes text old)
  unfolding form_answer form_bytes end_answer end_bytes read_walk front
  walk_done f g h = let q = sym (ap (λ (w : Result Read WrongLine). read_walk w points) f) ∙ e in rw (sym q) (g, h)
