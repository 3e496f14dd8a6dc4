-- The test `x != x`: only a NaN differs from itself.
use Rattle.std.proofs.Common.{◌≡◌, Bool, true, false, not, T, sym, subst, true≢false, refl, ◌∙◌}
use lib.Ieee.{Float, nan, inf, fin, ne, is_nan}
use lib.Ieee.Compare.{differs_from_itself}

pub is_nan_lem : (x : Float) → ne x x ≡ true → x ≡ nan
is_nan_lem x h = differs_from_itself x (subst T (sym h) tt)

pub no_nan : (x : Float) → ne x x ≡ false → T (not (is_nan x))
unfolding ne is_nan
no_nan nan h = absurd (true≢false h)
no_nan (inf s) h = tt
no_nan (fin s m e) h = tt

same : (x : Float) (u : Bool) → ne x x ≡ u → (x ≡ nan → ⊥) → ne x x ≡ false
same x false e h = e
same x true e h = absurd (h (is_nan_lem x e))

-- it is std's test
pub differs : (x : Float) (t : Bool) → is_nan x ≡ t → ne x x ≡ t
unfolding ne is_nan
differs nan t e = e
differs (inf s) t e = same (inf s) (ne (inf s) (inf s)) refl (λ q. cc) ∙ e
differs (fin s m n) t e = same (fin s m n) (ne (fin s m n) (fin s m n)) refl (λ q. cc) ∙ e
