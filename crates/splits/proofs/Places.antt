-- Lines and words by their places in a text.
use mathlib.Core.Path.{◌≡◌, refl, sym, ap, ◌∙◌}
use mathlib.Core.Bool.{Bool, ◌&&◌}
use mathlib.Core.List.{List, [], ◌∷◌}
use Prim.Native.Nat.{ℕ, suc, ◌+◌, ◌-◌, ◌≤◌, ◌<◌}
use native.Mathlib.Omega.{arith}
use lib.Dec.{eqb}
use lib.Pointwise.{pointwise}
use lib.ListN.{length, take, drop, length-drop, drop_of_length-le}
use lib.Seq.{drop-drop, drop-length, take_all}
use Rattle.splits.specs.Splits.{blank, inked, other, run, past, part, split, filled, lines, words, body, single, double, neither, few, same}
use Rattle.splits.proofs.Runs.{past_front}
use Rattle.splits.proofs.Parts.{split_first, skip, begins, word_first}

-- ---- lines

pub no_lines : (text : List ℕ) (place : ℕ) → length text ≤ place → lines (drop place text) ≡ []
unfolding lines split
no_lines text place h = ap lines (drop_of_length-le text h)

pub next_line : (text : List ℕ) (place end : ℕ) → place < length text → end ≡ past (other 10) text place
    → lines (drop place text) ≡ part text place end ∷ lines (drop (end + 1) text)
unfolding lines past
next_line text place end h e =
    let n = run (other 10) (drop place text) in
    let size : end - place ≡ n = omega arith in
    let behind : place + suc n ≡ end + 1 = omega arith in
    let long = length-drop place text in
    split_first (λ byte. eqb byte 10) (drop place text) (omega arith)
    ∙ ap (λ (k : ℕ). take k (drop place text) ∷ split (λ byte. eqb byte 10) (drop (suc n) (drop place text))) (sym size)
    ∙ ap (λ (l : List ℕ). part text place end ∷ split (λ byte. eqb byte 10) l) (drop-drop (suc n) place text ∙ ap (λ (k : ℕ). drop k text) behind)

-- a part up to the end
pub part_rest : (from : ℕ) (text : List ℕ) → part text from (length text) ≡ drop from text
part_rest from text = take_all (length text - from) (drop from text) (simp length-drop (omega arith))

-- ---- the comment cut off

pub body_is : (line : List ℕ) (end : ℕ) → end ≡ past (other 35) line 0 → take end line ≡ body line
unfolding body
body_is line end e = ap (λ (k : ℕ). take k line) (e ∙ past_front (other 35) line)

-- ---- words

module _ (line : List ℕ) (from : ℕ) where
  skipped : (first : ℕ) → first ≡ past blank line from → words (drop from line) ≡ words (drop first line)
  unfolding words past
  skipped first e =
      skip blank (drop from line)
      ∙ ap (λ (l : List ℕ). filled (split blank l)) (drop-drop (run blank (drop from line)) from line ∙ ap (λ (k : ℕ). drop k line) (sym e))

  pub no_word : (first : ℕ) → first ≡ past blank line from → first ≡ length line → words (drop from line) ≡ []
  unfolding words split filled
  no_word first e h = skipped first e ∙ ap words (ap (λ (k : ℕ). drop k line) h ∙ drop-length line)

  starts : (first : ℕ) → first ≡ past blank line from → first < length line → 0 < run inked (drop first line)
  unfolding past
  starts first e h =
      let n = run blank (drop from line) in
      let l = length-drop from line in
      let b = begins blank (drop from line) (omega arith) in
      let d : drop n (drop from line) ≡ drop first line = drop-drop n from line ∙ ap (λ (k : ℕ). drop k line) (sym e) in
      rw (sym d) b

  at_word : (first end : ℕ) → end ≡ past inked line first → 0 < run inked (drop first line) → words (drop first line) ≡ part line first end ∷ words (drop end line)
  unfolding words past
  at_word first end f s =
      let n = run inked (drop first line) in
      let size : n ≡ end - first = omega arith in
      word_first blank (drop first line) s
      ∙ ap (λ (k : ℕ). take k (drop first line) ∷ filled (split blank (drop n (drop first line)))) size
      ∙ ap (λ (l : List ℕ). part line first end ∷ filled (split blank l)) (drop-drop n first line ∙ ap (λ (k : ℕ). drop k line) (sym f))

  pub next_word : (first end : ℕ) → first ≡ past blank line from → first < length line → end ≡ past inked line first
      → words (drop from line) ≡ part line first end ∷ words (drop end line)
  next_word first end e h f = skipped first e ∙ at_word first end f (starts first e h)

-- ---- how many

module _ (line : List ℕ) (from : ℕ) where
  pub found_none : words (drop from line) ≡ [] → neither ≡ few (words (drop from line))
  unfolding few
  found_none e = sym (ap few e)

  module _ (first end : ℕ) (one : words (drop from line) ≡ part line first end ∷ words (drop end line)) where
    pub found_one : words (drop end line) ≡ [] → single (part line first end) ≡ few (words (drop from line))
    unfolding few
    found_one e = sym (ap few (one ∙ ap (λ (rest : List (List ℕ)). part line first end ∷ rest) e))

    module _ (second close : ℕ) (two : words (drop end line) ≡ part line second close ∷ words (drop close line)) where
      both : words (drop from line) ≡ part line first end ∷ part line second close ∷ words (drop close line)
      both = one ∙ ap (λ (rest : List (List ℕ)). part line first end ∷ rest) two

      pub found_two : words (drop close line) ≡ [] → double (part line first end) (part line second close) ≡ few (words (drop from line))
      unfolding few
      found_two e = sym (ap few (both ∙ ap (λ (rest : List (List ℕ)). part line first end ∷ part line second close ∷ rest) e))

      pub found_more : {word : List ℕ} {rest : List (List ℕ)} → words (drop close line) ≡ word ∷ rest → neither ≡ few (words (drop from line))
      unfolding few
      found_more e = sym (ap few (both ∙ ap (λ (rest : List (List ℕ)). part line first end ∷ part line second close ∷ rest) e))

-- ---- words compared

pub same_is : (word key : List ℕ) → pointwise eqb word key ≡ same word key
unfolding same
same_is [] [] = refl
same_is [] (byte ∷ key) = refl
same_is (byte ∷ word) [] = refl
same_is (byte ∷ word) (other ∷ key) = ap (λ (t : Bool). eqb byte other && t) (same_is word key)
