-- What `euclidean` gives of good numbers: its pulses one by one.
use Rattle.std.proofs.Common.{Bool, true, false, ◌||◌, List, [], ◌≡◌, sym, ap, ◌∙◌, ℕ, ◌≤◌, ltb, eqb, le-ltb, ne_eqb}
use Rattle.numbers.specs.Lists.{entries}
use Rattle.numbers.specs.Answers.{Answer, accepted, refused}
use Rattle.notes.specs.declared.Note.{Note}
use Rattle.rhythm.specs.Makes.{hit, hits_from, pulse_step}
use Rattle.rhythm.specs.Values.{bars_for}
use Rattle.rhythm.proofs.Laws.{even_hits}
use Rattle.pattern.specs.Calls.{euclidean_of}
use Rattle.pattern.specs.Phrases.{Phrase, phrase}

module _ (pulses steps tag len stepsPerBar : ℕ) where
  abbrev made : Answer Phrase
  made = accepted (phrase (hits_from pulses steps (hit len tag) 0 steps) (bars_for steps stepsPerBar))

  numbers : (b : Bool) → eqb steps 0 || ltb steps pulses ≡ b → euclidean_of pulses steps tag len stepsPerBar ≡ elim b [ true ↦ refused 6 [] | false ↦ made ]
  numbers b q = ap (λ (t : Bool). elim t [ true ↦ refused 6 [] | false ↦ made ]) q

  module _ (s : steps ≡ 0 → ⊥) where
    pub spread : pulses ≤ steps → euclidean_of pulses steps tag len stepsPerBar ≡ accepted (phrase (entries (λ k. hit len tag (pulse_step pulses steps k)) 0 pulses) (bars_for steps stepsPerBar))
    spread h =
        numbers false (simp (ne_eqb _ _ s, le-ltb _ _ h))
        ∙ ap (λ (l : List Note). accepted (phrase l (bars_for steps stepsPerBar))) (sym (even_hits pulses steps h (hit len tag)))
