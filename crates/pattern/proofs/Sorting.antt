-- The call that sorts answers what the call without the sort answers, and leaves its notes sorted.
use Rattle.std.proofs.Common.{◌≡◌, ℕ, ◌*◌, ◌/◌, Bool, true, false, cond, leb, eqb, List, [], ◌++◌, map, length, take, drop, Ok, Err, refl, sym, ap, ◌∙◌, arith}
use Rattle.numbers.specs.Answers.{Answer, accepted, refused, over}
use Rattle.numbers.specs.Refusals.{number_of, facts_of}
use Rattle.numbers.specs.declared.refusal.Refusal.{Refusal}
use Rattle.notes.specs.declared.Note.{Note}
use Rattle.notes.specs.Notes.{notes_of, words_of, refusal_of_one}
use Rattle.notes.specs.Sorting.{sort_by_step}
use Rattle.notes.proofs.Laws.{length_words, length_sort, sort_front, sorted}
use Rattle.pattern.specs.declared.Pattern.{Pattern}
use Rattle.pattern.specs.declared.Wrote.{Wrote}
use Rattle.pattern.specs.Calls.{mapped, mapped_sorted}
use Rattle.pattern.specs.Phrases.{Phrase, answered, written}
use Rattle.pattern.specs.Readings.{Outcome}

-- a phrase of these notes, unless a number refuses it
abbrev given_by : Pattern → ℕ → Bool → List Note → Answer Phrase
given_by p number b ns = cond b (accepted (record { notes = ns; pattern = p })) (refused number [])

-- how many notes there are is all that the answer tells of them
same : (p : Pattern) (number : ℕ) (b : Bool) (ns : List Note) (out : List ℕ) → answered (given_by p number b ns) out ≡ answered (given_by p number b (sort_by_step ns)) out
same p number true ns out =
    ap (λ (k : ℕ). cond (leb k (length out / 4)) (accepted (record { notes = k; pattern = p })) (refused 8 [])) (sym (length_sort ns))
same p number false ns out = refl

module _ (how : Note → Note) (p : Pattern) (ws out after : List ℕ) where
  abbrev ns : List Note
  ns = map how (notes_of ws)

  abbrev number : ℕ
  number = refusal_of_one (length ws)

  pub err_sorted : (why : Refusal) → Outcome (mapped how p ws) (Err why) out after → Outcome (mapped_sorted how p ws) (Err why) out after
  err_sorted why o = record { answers = o.answers ∙ same p number (eqb number 0) ns out; leaves = go (eqb number 0) o.answers o.leaves }
    where
      kept : (r : Bool) → ◌≡◌ {A = Answer Wrote} (refused (number_of why) (facts_of why)) (cond r (accepted (record { notes = length ns; pattern = p })) (refused 8 []))
          → after ≡ cond r (over (words_of ns) out) out → r ≡ leb (length ns) (length out / 4) → after ≡ cond (leb (length (sort_by_step ns)) (length out / 4)) (over (words_of (sort_by_step ns)) out) out
      kept true a l e = cc
      kept false a l e = l ∙ ap (λ (b : Bool). cond b (over (words_of (sort_by_step ns)) out) out) (e ∙ ap (λ (k : ℕ). leb k (length out / 4)) (sym (length_sort ns)))

      go : (b : Bool) → ◌≡◌ {A = Answer Wrote} (refused (number_of why) (facts_of why)) (answered (given_by p number b ns) out)
          → after ≡ written (given_by p number b ns) out → after ≡ written (given_by p number b (sort_by_step ns)) out
      go true a l = kept (leb (length ns) (length out / 4)) a l refl
      go false a l = l

  pub ok_sorted : (w : Wrote) (part : List ℕ) → 4 * w.notes ≡ length ws → part ≡ sorted (take (length ws) after) → Outcome (mapped how p ws) (Ok w) out after
      → Outcome (mapped_sorted how p ws) (Ok w) out (part ++ drop (length ws) after)
  ok_sorted w part m q o = record { answers = o.answers ∙ same p number (eqb number 0) ns out; leaves = go (eqb number 0) o.answers o.leaves }
    where
      kept : (r : Bool) → ◌≡◌ {A = Answer Wrote} (accepted w) (cond r (accepted (record { notes = length ns; pattern = p })) (refused 8 []))
          → after ≡ cond r (over (words_of ns) out) out → r ≡ leb (length ns) (length out / 4)
          → part ++ drop (length ws) after ≡ cond (leb (length (sort_by_step ns)) (length out / 4)) (over (words_of (sort_by_step ns)) out) out
      kept true a l e =
          let n : w.notes ≡ length ns = cc in
          let k : length (words_of ns) ≡ length ws = omega (arith, length_words ns, n, m) in
          let s : length (words_of (sort_by_step ns)) ≡ length ws = omega (arith, length_words (sort_by_step ns), length_sort ns, n, m) in
          sort_front ns out after part (length ws) k (l ∙ ap (λ (i : ℕ). words_of ns ++ drop i out) k) q
          ∙ ap (λ (i : ℕ). words_of (sort_by_step ns) ++ drop i out) (sym s)
          ∙ ap (λ (b : Bool). cond b (over (words_of (sort_by_step ns)) out) out) (e ∙ ap (λ (i : ℕ). leb i (length out / 4)) (sym (length_sort ns)))
      kept false a l e = cc

      go : (b : Bool) → ◌≡◌ {A = Answer Wrote} (accepted w) (answered (given_by p number b ns) out)
          → after ≡ written (given_by p number b ns) out → part ++ drop (length ws) after ≡ written (given_by p number b (sort_by_step ns)) out
      go true a l = kept (leb (length ns) (length out / 4)) a l refl
      go false a l = cc
