-- The parts of the lines, put one behind another, and how long they are at most.
use mathlib.Core.Path.{◌≡◌, ap}
use mathlib.Core.Bool.{Bool, true, false}
use mathlib.Core.List.{[], ◌∷◌, ◌++◌}
use Prim.Native.Nat.{ℕ, min, ◌+◌, ◌-◌, ◌≤◌, ◌<◌}
use native.Mathlib.Numerals.{add-one}
use borrow.Author.Tests.{lt-leb, le-leb, eq-eqb, ne_eqb}
use lib.ListN.{length}
use Rattle.beats.specs.declared.Beat.{Beat}
use Rattle.text.specs.declared.page.Page.{Page}
use Rattle.text.specs.Texts.{decimal, beat_text}
use Rattle.text.specs.Pages.{Appends}
use Rattle.text.proofs.Laws.{append_nothing, append_behind, append_as}
use Rattle.count_text.specs.Answers.{more_text, amount_text, unit_text, to_beat_text, count_line, sure_text, unsure_text, fits_line, repeated, row_text, over_word, over_text, row_line, lines_text}

-- ---- the count

module _ (count less : ℕ) where
  pub unsearched : count ≡ 4294967295 → more_text ++ decimal (2147483648 - less) ≡ amount_text count less
  unfolding amount_text
  unsearched e = simp (eq-eqb count 4294967295 e)

  pub searched : (count ≡ 4294967295 → ⊥) → decimal (count - less) ≡ amount_text count less
  unfolding amount_text
  searched n = simp (ne_eqb count 4294967295 n)

module _ (count : ℕ) where
  pub one_bar_lem : count ≡ 1 → 32 ∷ 98 ∷ 97 ∷ 114 ∷ [] ≡ unit_text count
  unfolding unit_text
  one_bar_lem e = simp (eq-eqb count 1 e)

  pub more_bars : (count ≡ 1 → ⊥) → 32 ∷ 98 ∷ 97 ∷ 114 ∷ 115 ∷ [] ≡ unit_text count
  unfolding unit_text
  more_bars n = simp (ne_eqb count 1 n)

  pub count_put : {p : Page} → p.place ≤ length p.out.now → (beat : Beat) {q r s t u : Page} → Appends (amount_text count 0) p q → Appends (unit_text count) q r → Appends to_beat_text r s
      → Appends (beat_text beat) s t → Appends (10 ∷ []) t u → Appends (count_line count beat) p u
  unfolding count_line
  count_put h beat a b c d e = append_behind (append_behind (append_behind (append_behind a b h) c h) d h) e h

-- ---- whether it is sure

pub sure : (fits : Bool) → fits ≡ true → sure_text ≡ fits_line fits
unfolding fits_line
sure fits e = simp e

pub unsure : (fits : Bool) → fits ≡ false → unsure_text ≡ fits_line fits
unfolding fits_line
unsure fits e = simp e

-- ---- the row

pub no_squares : (square : ℕ) (page : Page) → Appends (repeated square 0) page page
unfolding repeated
no_squares square = append_nothing

pub one_square : (square count : ℕ) {p q r : Page} → p.place ≤ length p.out.now → Appends (repeated square count) p q → Appends (square ∷ []) q r → Appends (repeated square (count + 1)) p r
unfolding repeated
one_square square count h x y = append_as (rw (add-one count)) (append_behind x y h)

module _ (count : ℕ) where
  pub none_over : (page : Page) → count ≤ 20 → Appends (over_text count) page page
  unfolding over_text
  none_over page h = append_as (simp (le-leb count 20 h)) (append_nothing page)

  module _ {p : Page} (h : p.place ≤ length p.out.now) where
    pub row_put : {full : ℕ} {q r s t : Page} → full ≡ min count 20 → Appends (91 ∷ []) p q → Appends (repeated 35 full) q r → Appends (repeated 46 (20 - full)) r s → Appends (93 ∷ []) s t
        → Appends (row_text count) p t
    unfolding row_text
    row_put {full} e a b c d =
        append_as (ap (λ (k : ℕ). (((91 ∷ []) ++ repeated 35 k) ++ repeated 46 (20 - k)) ++ (93 ∷ [])) e) (append_behind (append_behind (append_behind a b h) c h) d h)

    pub some_over : {q r s : Page} → 20 < count → Appends (32 ∷ []) p q → Appends (amount_text count 20) q r → Appends over_word r s → Appends (over_text count) p s
    unfolding over_text
    some_over m a b c = append_as (simp (lt-leb count 20 m)) (append_behind (append_behind a b h) c h)

    pub row_line_put : {q r s : Page} → Appends (row_text count) p q → Appends (over_text count) q r → Appends (10 ∷ []) r s → Appends (row_line count) p s
    unfolding row_line
    row_line_put a b c = append_behind (append_behind a b h) c h

    pub lines_put : (fits : Bool) (beat : Beat) {q r s : Page} → Appends (count_line count beat) p q → Appends (fits_line fits) q r → Appends (row_line count) r s → Appends (lines_text count fits beat) p s
    unfolding lines_text
    lines_put fits beat a b c = append_behind (append_behind a b h) c h
