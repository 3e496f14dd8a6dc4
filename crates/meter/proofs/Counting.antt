-- The count's two cases, and the first bar that reaches a beat where starts never fall: the test then stays true once it is.
use Rattle.std.proofs.Common.{Option}
use mathlib.Core.Path.{◌≡◌, refl, sym, ap, ◌∙◌}
use mathlib.Core.Bool.{Bool, true, false, not}
use mathlib.Core.List.{List}
use Prim.Native.Nat.{ℕ, ◌≤◌}
use native.Mathlib.Omega.{arith}
use borrow.Author.Tests.{not-true}
use native.Mathlib.Nat.{not-suc-le-zero}
use Rattle.numbers.proofs.Laws.{cases, not_both}
use Rattle.beats.specs.declared.Beat.{Beat}
use Rattle.beats.specs.Beats.{is_beat, zero_beat}
use Rattle.beats.specs.Sums.{below_beat}
use Rattle.beats.proofs.Laws.{not_below}
use Rattle.meter.specs.declared.MeterPoint.{MeterPoint}
use Rattle.meter.specs.Starts.{start_of}
use Rattle.meter.specs.Counts.{doubling, within, searched, Least, reaches, count_at}
use Rattle.meter.proofs.Searching.{Stays, searched_least, searched_none}

module _ (map : List MeterPoint) (default : ℕ) (pickup : Option Beat) (beat : Beat) where
  abbrev test : ℕ → Bool
  test = reaches map default pickup beat

  count_searched : below_beat zero_beat beat ≡ true → count_at map default pickup beat ≡ searched test
  unfolding count_at
  count_searched t = rw (t, count_at)

  pub count_zero : below_beat zero_beat beat ≡ false → count_at map default pickup beat ≡ 0
  unfolding count_at
  count_zero t = rw (t, count_at)

  -- from what doubling found
  pub count_within : (upper : Option ℕ) → below_beat zero_beat beat ≡ true → upper ≡ doubling test 32 1 → within test upper ≡ count_at map default pickup beat
  unfolding searched
  count_within upper t e = ap (within test) e ∙ sym (count_searched t)

-- ---- where starts never fall

-- up to 2^31, each start is a beat, and none is below an earlier one
pub record Rising (start : ℕ → Beat) : Type 0 where
  pub beats : (bar : ℕ) → bar ≤ 2147483648 → is_beat (start bar) ≡ true
  pub rises : (i j : ℕ) → i ≤ j → j ≤ 2147483648 → below_beat (start j) (start i) ≡ false

module _ (map : List MeterPoint) (default : ℕ) (pickup : Option Beat) (rising : Rising (start_of map default pickup)) (beat : Beat) (fine : is_beat beat ≡ true) where
  abbrev start : ℕ → Beat
  start = start_of map default pickup

  reaches_stays : Stays (test map default pickup beat)
  unfolding reaches
  reaches_stays i j h l e =
      ap not (not_below (start i) beat (start j) (rising.beats i (omega arith)) fine (rising.beats j l) (rising.rises i j h l) (not-true (below_beat (start i) beat) e))

  at_zero : below_beat (start 0) beat ≡ below_beat zero_beat beat
  unfolding start_of
  at_zero = refl

  -- the first bar that reaches the beat, where bar 2^31 does
  pub count_least : reaches map default pickup beat 2147483648 ≡ true → Least (reaches map default pickup beat) (count_at map default pickup beat)
  unfolding reaches
  count_least e =
      cases (below_beat zero_beat beat)
      (λ t. rw (count_searched map default pickup beat t) (searched_least (test map default pickup beat) reaches_stays (ap not (at_zero ∙ t)) e))
      (λ t. rw (count_zero map default pickup beat t) (record { passes = ap not (at_zero ∙ t); fails = λ bar h. absurd (not-suc-le-zero h) }))

  -- 2^32 - 1, where bar 2^31 does not
  pub count_past : reaches map default pickup beat 2147483648 ≡ false → count_at map default pickup beat ≡ 4294967295
  unfolding reaches
  count_past e =
      cases (below_beat zero_beat beat)
      (λ t. count_searched map default pickup beat t ∙ searched_none (test map default pickup beat) reaches_stays e)
      (λ t. not_both (test map default pickup beat 2147483648) (reaches_stays 0 2147483648 (omega arith) (omega arith) (ap not (at_zero ∙ t))) e)
