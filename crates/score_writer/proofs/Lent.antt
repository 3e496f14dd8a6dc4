-- What an accepted call writes is read back: its tests are those of `Writable`, and the front of a list that fits its type fits it too.
use mathlib.Core.Path.{◌≡◌, refl, sym}
use mathlib.Core.Bool.{true}
use mathlib.Core.List.{List, [], ◌∷◌}
use Prim.Native.Nat.{ℕ, zero, suc, ◌*◌, ◌<◌, ◌^◌}
use native.Mathlib.Omega.{arith}
use borrow.Author.Tests.{leb-true}
use lib.Dec.{leb}
use lib.IntN.{ℤ, pos}
use lib.ListN.{take, get_or}
use lib.Seq.{length-take-le}
use Rattle.numbers.specs.Signs.{fits_i64}
use Rattle.numbers.proofs.Laws.{both}
use Rattle.meter.specs.Meters.{sound_pickup}
use Rattle.tempo.specs.Answers.{all_beats}
use Rattle.score_writer.specs.Promise.{AllBelow, AcceptedReadsBack}
use Rattle.score_writer.proofs.Accepted.{written_file}
use Rattle.score_writer.proofs.Back.{reads_back_lem}

-- what holds of each element, and of the one past the end, holds of a front's
front : {A : Type 0} (past : A) (holds : A → Type 0) → holds past → (n : ℕ) (list : List A)
    → ((place : ℕ) → holds (get_or list place past)) → (place : ℕ) → holds (get_or (take n list) place past)
front past holds p zero list h place = p
front past holds p (suc n) [] h place = p
front past holds p (suc n) (x ∷ list) h zero = h 0
front past holds p (suc n) (x ∷ list) h (suc place) = front past holds p n list (λ k. h (suc k)) place

small : (n : ℕ) (list : List ℕ) → AllBelow (2 ^ 32) list → AllBelow (2 ^ 32) (take n list)
small n list = front 0 (λ (x : ℕ). x < 2 ^ 32) (omega arith) n list

pub accepted_reads_back : AcceptedReadsBack
accepted_reads_back score meter nums dens bits m n d b t bytes e =
    let w = written_file score meter nums dens bits bytes (sym e) in
    let few = both (leb score.meters 256) (leb score.tempos 1024) w.few in
    let few_meters = leb-true score.meters 256 few.0 in
    let few_tempos = leb-true score.tempos 1024 few.1 in
    let lowest = both (sound_pickup score.pickup) (all_beats (take score.tempos nums) (take score.tempos dens)) w.lowest in
    reads_back_lem score (take (3 * score.meters) meter) (take score.tempos nums) (take score.tempos dens) (take score.tempos bits)
    (record {
      few = w.few;
      all_meters = length-take-le (3 * score.meters) meter (omega arith);
      all_nums = length-take-le score.tempos nums (omega arith);
      all_dens = length-take-le score.tempos dens (omega arith);
      all_bits = length-take-le score.tempos bits (omega arith);
      sound_pickup_lem = lowest.0;
      sound_beats = lowest.1;
      typed = record {
        rate_fits = t.rate_fits;
        beats_fits = t.beats_fits;
        bpm_fits = t.bpm_fits;
        pickup_num_fits = t.pickup_num_fits;
        pickup_den_fits = t.pickup_den_fits;
        meter_fits = small (3 * score.meters) meter t.meter_fits;
        nums_fit = front (pos 0) (λ (x : ℤ). fits_i64 x ≡ true) refl score.tempos nums t.nums_fit;
        dens_fit = small score.tempos dens t.dens_fit;
        bits_fit = small score.tempos bits t.bits_fit;
      };
    })
