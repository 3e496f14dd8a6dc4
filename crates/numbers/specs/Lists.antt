-- Lists by their entries.
use Rattle.std.specs.Prelude.{ℕ, zero, suc, List, [], ◌∷◌}

-- n entries: f k, f (k + 1) and so on
unfoldable pub entries : {A : Type 0} → (ℕ → A) → ℕ → ℕ → List A
entries f k zero = []
entries f k (suc n) = f k ∷ entries f (suc k) n
