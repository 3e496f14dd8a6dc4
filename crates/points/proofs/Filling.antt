-- A loop that stores the points of flat words, one after another: those that are stored, and those that are left.
use Rattle.std.proofs.Common.{◌≡◌, refl, sym, ap, ◌∙◌, arith, List, [], ◌∷◌, ◌++◌, ℕ, ◌+◌, ◌*◌, ◌/◌, ◌<◌, length, take, append_assoc, append-nil, add-one, length-append}
use Rattle.std.proofs.Math.ListN.{set, replicate, length-set, length-replicate}
use Rattle.std.proofs.Math.Seq.{take-suc-set}
use Rattle.meter.specs.declared.MeterPoint.{MeterPoint}
use Rattle.meter.specs.Meters.{points_of, point_at}
use Rattle.meter.proofs.Laws.{points_step, points_end}

-- in an array of so many points, the first k are stored, and these words are left
pub record Filled (most k : ℕ) (words : List ℕ) (points : List MeterPoint) (rest : List ℕ) : Type 0 where
  pub long : length points ≡ most
  pub left : k * 3 + length rest ≡ length words
  pub stored : take k points ++ points_of rest ≡ points_of words

-- the array is made of zeros
pub none : (most : ℕ) (words : List ℕ) → Filled most 0 words (replicate most (record { bar = 0; numerator = 0; denominator = 0 })) words
none most words = record { long = length-replicate most _; left = omega arith; stored = refl }

-- three words are a point, before those that are behind them
ahead : (three later : List ℕ) → length three ≡ 3 → points_of (three ++ later) ≡ point_at three 0 ∷ points_of later
ahead [] later e = absurd (omega arith)
ahead (a ∷ []) later e = absurd (omega arith)
ahead (a ∷ b ∷ []) later e = absurd (omega arith)
ahead (a ∷ b ∷ c ∷ []) later e = points_step (a ∷ b ∷ c ∷ later) 0 (omega arith)
ahead (a ∷ b ∷ c ∷ d ∷ more) later e = absurd (omega arith)

module _ {most k : ℕ} {words rest : List ℕ} {points : List MeterPoint} (F : Filled most k words points rest) where
  pub one_more : (three later : List ℕ) (point : MeterPoint) → rest ≡ three ++ later → length three ≡ 3 → k < most → point ≡ point_at three 0 → Filled most (k + 1) words (set points k point) later
  one_more three later point split by_three inside e = record {
    long = length-set points k point ∙ F.long;
    left = omega (arith, F.left, ap length split, length-append three later);
    stored = behind ∙ F.stored;
  }
    where
      first : take (k + 1) (set points k point) ≡ take k points ++ (point ∷ [])
      first = ap (λ j. take j (set points k point)) (add-one k) ∙ take-suc-set points k point (omega (arith, F.long, inside))

      behind : take (k + 1) (set points k point) ++ points_of later ≡ take k points ++ points_of rest
      behind = rw (first, e, split, ahead three later by_three) (append_assoc (take k points) (point_at three 0 ∷ []) (points_of later))

  pub all : length rest < 3 → take (length words / 3) points ≡ points_of words
  all end =
      ap (λ n. take n points) (let e : length words / 3 ≡ k = omega (arith, F.left) in e) ∙ sym (append-nil (take k points))
      ∙ ap (λ map. take k points ++ map) (sym (points_end rest 0 (omega arith))) ∙ F.stored
