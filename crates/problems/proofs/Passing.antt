-- A pass is made of parts: what is ready for two runs of records is ready for each, and two runs that are passed one behind the other are passed as one.
use mathlib.Core.Path.{◌≡◌, refl, sym, ap, ◌∙◌}
use mathlib.Core.Bool.{Bool, true, false, cond}
use mathlib.Core.List.{List, [], ◌∷◌, ◌++◌}
use Prim.Native.Nat.{ℕ, ◌+◌, ◌*◌, ◌/◌, ◌≤◌}
use native.Mathlib.Nat.{zero-add, add-zero}
use native.Mathlib.Omega.{arith}
use lib.ListN.{length, drop, length-append}
use lib.Seq.{sets, length-sets, sets-eq}
use Rattle.numbers.specs.Answers.{over}
use Rattle.numbers.proofs.Laws.{sets_append, cond_same}
use Rattle.problems.specs.Problems.{Problem, problem_if, flat}
use Rattle.problems.specs.Passes.{put, Ready, Passed}

-- ---- the words of records

pub flat_length : (problems : List Problem) → length (flat problems) ≡ 3 * length problems
unfolding flat
flat_length [] = refl
flat_length (problem ∷ rest) = let more : length (flat rest) ≡ 3 * length rest = flat_length rest in omega arith

flat_append : (xs ys : List Problem) → flat (xs ++ ys) ≡ flat xs ++ flat ys
unfolding flat
flat_append [] ys = refl
flat_append (x ∷ xs) ys = ap (λ (l : List ℕ). x.code ∷ x.index ∷ x.value ∷ l) (flat_append xs ys)

-- ---- parts of a pass

put_length : (writing : Bool) (out : List ℕ) (count : ℕ) (problems : List Problem) → length (put writing out count problems) ≡ length out
put_length true out count problems = length-sets out (3 * count) (flat problems)
put_length false out count problems = refl

put_append : (writing : Bool) (out : List ℕ) (count : ℕ) (xs ys : List Problem)
    → put writing out count (xs ++ ys) ≡ put writing (put writing out count xs) (count + length xs) ys
put_append true out count xs ys =
    ap (sets out (3 * count)) (flat_append xs ys)
    ∙ sets_append out (3 * count) (flat xs) (flat ys)
    ∙ ap (λ (n : ℕ). sets (sets out (3 * count) (flat xs)) n (flat ys)) (place count (length xs) (length (flat xs)) (flat_length xs))
  where
    place : (a b c : ℕ) → c ≡ 3 * b → 3 * a + c ≡ 3 * (a + b)
    place a b c e = omega arith
put_append false out count xs ys = refl

pub ready_first : {writing : Bool} {out : List ℕ} {count : ℕ} (xs ys : List Problem) → Ready writing out count (xs ++ ys) → Ready writing out count xs
ready_first xs ys ready = record {
  fits = let long = length-append xs ys in omega (arith, ready.fits);
  room = λ w. let long = length-append xs ys in omega (arith, ready.room w);
}

pub ready_then : {writing : Bool} {out : List ℕ} {count : ℕ} (xs ys : List Problem) {after : List ℕ} {next : ℕ}
    → Ready writing out count (xs ++ ys) → Passed writing out count xs after next → Ready writing after next ys
ready_then {writing} {out} {count} xs ys ready passed = record {
  fits = omega (arith, ready.fits, length-append xs ys, passed.counted);
  room = λ w. omega (arith, ready.room w, length-append xs ys, passed.counted, ap length passed.words, put_length writing out count xs);
}

pub passed_then : {writing : Bool} {out : List ℕ} {count : ℕ} (xs ys : List Problem) {middle after : List ℕ} {between next : ℕ}
    → Passed writing out count xs middle between → Passed writing middle between ys after next → Passed writing out count (xs ++ ys) after next
passed_then {writing} {out} {count} xs ys {middle} {after} {between} {next} one two = record {
  counted = omega (arith, one.counted, two.counted, length-append xs ys);
  words = two.words ∙ ap (λ (l : List ℕ). put writing l between ys) one.words ∙ ap (λ (n : ℕ). put writing (put writing out count xs) n ys) one.counted ∙ sym (put_append writing out count xs ys);
}

-- ---- one record

pub passed_none : {writing : Bool} {out : List ℕ} {count : ℕ} → Passed writing out count [] out count
unfolding flat
passed_none {writing} {out} {count} = record { counted = sym (add-zero count); words = sym (cond_same writing out) }

-- nothing is found
pub none : {writing : Bool} {out : List ℕ} {count : ℕ} (code index value : ℕ) (found : Bool) → found ≡ false → Passed writing out count (problem_if found code index value) out count
none code index value found e = rw e passed_none

-- a record is
pub one : {writing : Bool} {out : List ℕ} {count : ℕ} (code index value : ℕ) (found : Bool) {after : List ℕ} → found ≡ true
    → after ≡ cond writing (sets out (3 * count) (code ∷ index ∷ value ∷ [])) out → Passed writing out count (problem_if found code index value) after (count + 1)
unfolding flat
one code index value found e h = rw e (record { counted = refl; words = h })

pub ready_one : {writing : Bool} {out : List ℕ} {count : ℕ} (code index value : ℕ) (found : Bool) → found ≡ true
    → Ready writing out count (problem_if found code index value) → (count + 1 ≤ 4294967295) × (writing ≡ true → 3 * count + 3 ≤ length out)
ready_one {writing} {out} {count} code index value found e ready =
    (more.fits, λ w. let room = more.room w in omega arith)
  where
    more : Ready writing out count (record { code = code; index = index; value = value } ∷ [])
    more = rw e at ready

-- ---- a whole pass

-- a pass that has come to a count: what is left will make the words that the whole makes
pub record Passing (writing : Bool) (before out : List ℕ) (count : ℕ) (left whole : List Problem) : Type 0 where
  pub long : length out ≡ length before
  pub sum : count + length left ≡ length whole
  pub same : put writing out count left ≡ put writing before 0 whole

pub begin : {writing : Bool} {out : List ℕ} {left whole : List Problem} → left ≡ whole → Passing writing out out 0 left whole
begin {writing} {out} e = record { long = refl; sum = zero-add _ ∙ ap length e; same = ap (put writing out 0) e }

module _ {writing : Bool} {before out : List ℕ} {count : ℕ} {left whole : List Problem} (now rest : List Problem) (split : left ≡ now ++ rest) (at : Passing writing before out count left whole) where
  -- the next records may be passed
  pub ready_next : Ready writing before 0 whole → Ready writing out count now
  ready_next ready = ready_first now rest (record {
    fits = omega (arith, ready.fits, at.sum, ap length split);
    room = λ w. omega (arith, ready.room w, at.sum, at.long, ap length split);
  })

  -- and then the others are left
  pub on : {after : List ℕ} {next : ℕ} → Passed writing out count now after next → Passing writing before after next rest whole
  on {after} {next} passed = record {
    long = ap length passed.words ∙ put_length writing out count now ∙ at.long;
    sum = omega (arith, passed.counted, at.sum, ap length split, length-append now rest);
    same =
        ap (λ (l : List ℕ). put writing l next rest) passed.words
        ∙ ap (λ (n : ℕ). put writing (put writing out count now) n rest) passed.counted
        ∙ sym (ap (put writing out count) split ∙ put_append writing out count now rest)
        ∙ at.same;
  }

pub done : {writing : Bool} {before out : List ℕ} {count : ℕ} {whole : List Problem} → Passing writing before out count [] whole → Passed writing before 0 whole out count
unfolding flat
done {writing} {before} {out} {count} {whole} at = record {
  counted = omega (arith, at.sum);
  words = (passed_none {writing = writing} {out = out} {count = count}).words ∙ at.same;
}

-- a pass that counts changes nothing; with room for the records, one that writes leaves what the definition says
pub counts : {out after : List ℕ} {count : ℕ} {whole : List Problem} → Passed false out 0 whole after count → (count ≡ length whole) × (after ≡ out)
counts passed = (omega (arith, passed.counted), passed.words)

-- where there is nothing to write, all words stand
pub unwritten : (out : List ℕ) (whole : List Problem) → length whole ≡ 0 → put true out 0 whole ≡ out
unfolding flat
unwritten out [] e = refl
unwritten out (problem ∷ rest) e = absurd (omega arith)

pub writes : (out : List ℕ) (whole : List Problem) → length whole ≤ length out / 3 → put true out 0 whole ≡ over (flat whole) out
writes out whole fits =
    sets-eq (flat whole) out 0 (omega (arith, flat_length whole))
    ∙ ap (λ (n : ℕ). flat whole ++ drop n out) (zero-add (length (flat whole)))
