-- A list whose element k is f k makes f 0, f 1 and so on. Assumes nothing.
use Rattle.std.proofs.Common.{◌≡◌, ℕ, ◌<◌, List, length, get_or, ap, ◌∙◌, arith}
use Rattle.numbers.specs.Lists.{entries}
use Rattle.numbers.proofs.Laws.{are_entries}

pub filled : {A : Type 0} (d : A) (f : ℕ → A) (xs : List A) (n : ℕ) → length xs ≡ n → ((j : ℕ) → j < n → get_or xs j d ≡ f j) → xs ≡ entries f 0 n
filled d f xs n long each =
    are_entries f d xs (λ j l. each j (omega arith)) ∙ ap (entries f 0) long
