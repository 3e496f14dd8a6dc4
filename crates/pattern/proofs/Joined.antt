-- How many notes two lists make, one behind the other.
use Rattle.std.proofs.Common.{List, ◌++◌, ◌≡◌, ℕ, ◌+◌, ◌*◌, arith, length, length-append}
use Rattle.std.proofs.Math.ListN.{length-map}
use Rattle.notes.specs.Notes.{notes_of}
use Rattle.notes.proofs.Laws.{Two, length_notes}
use Rattle.rhythm.specs.Joins.{joined}

module _ (a b : List ℕ) (both : Two (length a) (length b)) where
  pub count_joined : (off : ℕ) → 4 * length (joined off (notes_of a) (notes_of b)) ≡ length a + length b
  count_joined off = simp (length-append, length-map, length_notes) (omega arith)

  pub count_both : 4 * length (notes_of a ++ notes_of b) ≡ length a + length b
  count_both = simp (length-append, length_notes) (omega arith)
