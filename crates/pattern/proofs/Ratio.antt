-- What a stretch gives where its ratio has no 0 and nothing is off the grid.
use Rattle.std.proofs.Common.{◌≡◌, ℕ, Bool, true, false, ◌||◌, eqb, List, [], ◌∷◌, map, length, refl, ap, ◌∙◌, ne_eqb}
use Rattle.numbers.specs.Answers.{Answer, accepted, refused}
use Rattle.notes.specs.Notes.{notes_of, refusal_of, passed_by}
use Rattle.rhythm.specs.Cuts.{grid_of, grid_answer, stretched}
use Rattle.rhythm.specs.Values.{stretched_by}
use Rattle.pattern.specs.declared.Pattern.{Pattern}
use Rattle.pattern.specs.Calls.{on_grid, stretch_of}
use Rattle.pattern.specs.Phrases.{Phrase, phrase}
use Rattle.pattern.proofs.Outcomes.{one_passes}

all_on : (found : List ℕ) (v : Unit {0}) (made : Answer Phrase) → accepted v ≡ grid_answer found → on_grid found made ≡ made
all_on [] v made e = refl
all_on (what ∷ found) v made e = cc

module _ (p : Pattern) (words : List ℕ) (num den : ℕ) {v : Unit {0}} (e : accepted v ≡ passed_by (refusal_of (length words ∷ []))) where
  abbrev pub made : Answer Phrase
  made = accepted (phrase (map (stretched num den) (notes_of words)) (stretched_by num den p.bars))

  ratio : (b : Bool) → eqb num 0 || eqb den 0 ≡ b → stretch_of p words num den ≡ elim b [ true ↦ refused 6 [] | false ↦ on_grid (grid_of num den p.bars (notes_of words)) made ]
  ratio b q = one_passes words e _ ∙ ap (λ (t : Bool). elim t [ true ↦ refused 6 [] | false ↦ on_grid (grid_of num den p.bars (notes_of words)) made ]) q

  -- neither number is 0, and nothing is off the grid
  pub fits : (num ≡ 0 → ⊥) → (den ≡ 0 → ⊥) → {u : Unit {0}} → accepted u ≡ grid_answer (grid_of num den p.bars (notes_of words)) → stretch_of p words num den ≡ made
  fits n d {u} q = ratio false (simp (ne_eqb _ _ n, ne_eqb _ _ d)) ∙ all_on _ u made q
