-- What a text says can be written: its beats are in lowest terms and its points within the limits, so that of all reasons the writer's is never told. proofs/Never.antt proves it.
use Rattle.std.specs.Prelude.{◌≡◌, List, ℕ}
use Rattle.items.specs.declared.Reason.TheVariants.{Unwritten}
use Rattle.form.specs.Forms.{wrong_at, form_answer}

abbrev pub NeverUnwritten : Type 0
NeverUnwritten = (text : List ℕ) (line : ℕ) → form_answer text ≡ wrong_at line Unwritten → ⊥
