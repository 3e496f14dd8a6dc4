-- The one test for 2: both numbers are looked at as they stand, before they are reduced.
use Rattle.std.proofs.Common.{◌≡◌, ℕ, ◌<◌, ◌≤◌, Bool, true, false, cond, ◌&&◌, leb, [], ℤ, pos, ◌*ℤ◌, sym, ap, ◌∙◌, le-leb}
use mathlib.Core.Bool.{and-false}
use borrow.Author.Tests.{lt-leb}
use Rattle.numbers.specs.declared.exact.Exact.{Exact}
use Rattle.numbers.specs.Answers.{accepted, refused}
use Rattle.numbers.specs.Signs.{fits_i64, to_i64}
use Rattle.numbers.specs.Exacts.{value_of, exact_of}
use Rattle.numbers.proofs.Laws.{unstopped, valued}
use Rattle.beats.specs.declared.Beat.{Beat}
use Rattle.beats.specs.Beats.{new_beat}
use Rattle.beats.specs.Sums.{storable, fitted}

module _ (num : ℤ) (den : ℕ) where
  -- refused exactly where the two numbers do not fit as they stand
  pub unfit : storable num den ≡ false → refused 2 [] ≡ fitted num den
  unfolding fitted
  unfit e = sym (ap (λ (t : Bool). cond t (accepted (new_beat num den)) (refused 2 [])) e)

  pub fit : storable num den ≡ true → accepted (new_beat num den) ≡ fitted num den
  unfolding fitted
  fit e = sym (ap (λ (t : Bool). cond t (accepted (new_beat num den)) (refused 2 [])) e)

  pub too_large : fits_i64 num ≡ false → refused 2 [] ≡ fitted num den
  too_large e = unfit (ap (λ (t : Bool). t && leb den 4294967295) e)

  pub too_fine : 4294967295 < den → refused 2 [] ≡ fitted num den
  too_fine h = unfit (ap (λ (t : Bool). fits_i64 num && t) (lt-leb den 4294967295 h) ∙ and-false (fits_i64 num))

  -- made is the new beat of the number, stopped at the ends of an i64, at which it does not stop
  pub done : (made : Beat) → fits_i64 num ≡ true → den ≤ 4294967295 → made ≡ new_beat (to_i64 num) den → accepted made ≡ fitted num den
  done made e h m =
      ap accepted (m ∙ ap (λ (z : ℤ). new_beat z den) (unstopped num e)) ∙ fit (λ i. e i && le-leb den 4294967295 h i)

-- a number worked out of two cross products, whose numerators came through the machine's bits
pub crossed : (op : ℤ → ℤ → ℤ) (e : Exact) (x y a b : ℤ) (d f : ℕ) → x ≡ a → y ≡ b → e ≡ exact_of (op (x *ℤ pos d) (y *ℤ pos f)) → value_of e ≡ op (a *ℤ pos d) (b *ℤ pos f)
crossed op e x y a b d f p q h = valued e (op (x *ℤ pos d) (y *ℤ pos f)) h ∙ (λ i. op (p i *ℤ pos d) (q i *ℤ pos f))
