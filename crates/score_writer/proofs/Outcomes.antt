-- The outcomes of writing a score, by the tests that led to each.
use mathlib.Core.Path.{◌≡◌, ap, ◌∙◌}
use mathlib.Core.Bool.{true, false}
use mathlib.Core.List.{List, [], ◌++◌}
use Prim.Native.Nat.{ℕ, ◌≤◌, ◌<◌}
use native.Mathlib.Nat.{zero-add}
use borrow.Author.Tests.{le-leb, lt-leb}
use lib.IntN.{ℤ}
use lib.ListN.{length, take, drop}
use Rattle.numbers.specs.Answers.{accepted, refused}
use Rattle.meter.specs.Meters.{sound_pickup}
use Rattle.tempo.specs.Answers.{all_beats}
use Rattle.score.specs.declared.Score.{Score}
use Rattle.text.specs.Texts.{Puts}
use Rattle.score_writer.specs.Answers.{file_from, write_answer, written_into, Writes}

module _ (score : Score) (meter : List ℕ) (nums : List ℤ) (dens bits old : List ℕ) where
  pub many_meters_lem : 256 < score.meters → Writes score meter nums dens bits old (refused 4 []) old
  unfolding write_answer written_into
  many_meters_lem h = let t = lt-leb score.meters 256 h in record { answer_is = simp t; bytes_are = simp t }

  module _ (few : score.meters ≤ 256) where
    pub many_tempos_lem : 1024 < score.tempos → Writes score meter nums dens bits old (refused 4 []) old
    unfolding write_answer written_into
    many_tempos_lem h = let t = lt-leb score.tempos 1024 h in let m = le-leb score.meters 256 few in record { answer_is = simp (m, t); bytes_are = simp (m, t) }

    module _ (short : score.tempos ≤ 1024) where
      pub bad_pickup : sound_pickup score.pickup ≡ false → Writes score meter nums dens bits old (refused 1 []) old
      unfolding write_answer written_into
      bad_pickup e =
          let m = le-leb score.meters 256 few in
          let t = le-leb score.tempos 1024 short in
          record { answer_is = simp (m, t, e); bytes_are = simp (m, t, e) }

      module _ (sound : sound_pickup score.pickup ≡ true) where
        pub bad_beats : all_beats (take score.tempos nums) (take score.tempos dens) ≡ false → Writes score meter nums dens bits old (refused 1 []) old
        unfolding write_answer written_into
        bad_beats e =
            let m = le-leb score.meters 256 few in
            let t = le-leb score.tempos 1024 short in
            record { answer_is = simp (m, t, sound, e); bytes_are = simp (m, t, sound, e) }

        pub written : all_beats (take score.tempos nums) (take score.tempos dens) ≡ true → {r : ℕ} {after : List ℕ}
            → Puts 0 (file_from score meter nums dens bits) old r after
            → Writes score meter nums dens bits old (accepted r) after
        unfolding write_answer written_into
        written e x =
            let m = le-leb score.meters 256 few in
            let t = le-leb score.tempos 1024 short in
            let file = file_from score meter nums dens bits in
            let z = zero-add (length file) in
            record {
              answer_is = simp (m, t, sound, e) (ap accepted (x.next_is ∙ z));
              bytes_are = simp (m, t, sound, e) (x.after_is ∙ ap (λ (k : ℕ). file ++ drop k old) z);
            }
