-- Two ways in which a call that writes notes ends, no room and the notes written; and what the test of its words says. A refusal needs no lemma.
use Rattle.std.proofs.Common.{◌≡◌, ℕ, ◌*◌, ◌/◌, ◌≤◌, ◌<◌, Bool, true, false, cond, leb, eqb, List, [], ◌∷◌, ◌++◌, length, drop, Ok, Err, refl, sym, ap, ◌∙◌, eqb-true, le-leb}
use borrow.Author.Tests.{lt-leb}
use Rattle.numbers.specs.Answers.{Answer, accepted, refused, over}
use Rattle.numbers.specs.declared.refusal.Refusal.TheVariants.{NoRoom}
use Rattle.notes.specs.declared.Note.{Note}
use Rattle.notes.specs.Notes.{words_of, refusal_of_one, refusal_of_two, refusal_of, passed_by}
use Rattle.notes.proofs.Laws.{length_words, One, one, Two, two, of_one, of_two}
use Rattle.pattern.specs.declared.Wrote.{Wrote}
use Rattle.pattern.specs.Phrases.{Phrase, phrase, wrote_of, answered, written, unless, if_notes, if_both}
use Rattle.pattern.specs.Readings.{Outcome}

-- ---- what the test of the words says

zero_is : (want : ℕ) (v : Unit {0}) → accepted v ≡ passed_by want → want ≡ 0
zero_is want v e = go (eqb want 0) refl e
  where
    go : (b : Bool) → eqb want 0 ≡ b → accepted v ≡ cond b (accepted tt) (refused want []) → want ≡ 0
    go true t f = eqb-true want 0 t
    go false t f = cc

module _ (ws : List ℕ) where
  module _ {v : Unit {0}} (e : accepted v ≡ passed_by (refusal_of (length ws ∷ []))) where
    none : refusal_of_one (length ws) ≡ 0
    none = sym (of_one (length ws)) ∙ zero_is _ v e

    pub one_sound : One (length ws)
    one_sound = one (length ws) none

    pub one_passes : (answer : Answer Phrase) → if_notes ws answer ≡ answer
    one_passes answer = ap (λ (n : ℕ). unless n answer) none

module _ (ws ms : List ℕ) where
  module _ {v : Unit {0}} (e : accepted v ≡ passed_by (refusal_of (length ws ∷ length ms ∷ []))) where
    neither : refusal_of_two (length ws) (length ms) ≡ 0
    neither = sym (of_two (length ws) (length ms)) ∙ zero_is _ v e

    pub two_sound : Two (length ws) (length ms)
    two_sound = two (length ws) (length ms) neither

    pub two_pass : (answer : Answer Phrase) → if_both ws ms answer ≡ answer
    two_pass answer = ap (λ (n : ℕ). unless n answer) neither

-- ---- accepted, but for the room

module _ (gives : Answer Phrase) (ns : List Note) (bars : ℕ) (out : List ℕ) (e : gives ≡ accepted (phrase ns bars)) where
  pub no_room : length out / 4 < length ns → Outcome gives (Err NoRoom) out out
  no_room h =
      let t : leb (length ns) (length out / 4) ≡ false = lt-leb _ _ h in record {
        answers = sym (ap (λ (x : Answer Phrase). answered x out) e ∙ simp t);
        leaves = sym (ap (λ (x : Answer Phrase). written x out) e ∙ ap (λ (room : Bool). cond room (over (words_of ns) out) out) t);
      }

  pub wrote : length ns ≤ length out / 4 → (w : Wrote) {n b : ℕ} {after : List ℕ} → w ≡ wrote_of n b → n ≡ length ns → b ≡ bars
      → after ≡ words_of ns ++ drop (4 * length ns) out → Outcome gives (Ok w) out after
  wrote h w {n} {b} {after} q en eb ea =
      let t : leb (length ns) (length out / 4) ≡ true = le-leb _ _ h in record {
        answers = ap accepted q ∙ (λ i. accepted (wrote_of (en i) (eb i))) ∙ sym (ap (λ (x : Answer Phrase). answered x out) e ∙ simp t);
        leaves = ea ∙ ap (λ (k : ℕ). words_of ns ++ drop k out) (sym (length_words ns)) ∙ sym (ap (λ (x : Answer Phrase). written x out) e ∙ simp t);
      }
