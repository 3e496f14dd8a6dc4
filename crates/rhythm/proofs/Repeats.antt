-- Copies of a pattern, one behind another: what a turn of the loop writes, and what is left.
use Rattle.std.proofs.Common.{◌≡◌, ℕ, zero, suc, ◌+◌, ◌-◌, ◌*◌, ◌%◌, ◌^◌, ◌<◌, ◌≤◌, min, List, [], ◌∷◌, ◌++◌, map, length, get_or, sym, refl, ap, ◌∙◌, mul_assoc, suc-mul, mul-zero, mul-suc, add-one, arith, length-append}
use Rattle.std.proofs.Math.Nat.{sub-zero}
use Rattle.std.proofs.Math.ListN.{length-map}
use Rattle.notes.specs.declared.Note.{Note}
use Rattle.notes.specs.Notes.{notes_of, words_of}
use Rattle.notes.proofs.Laws.{length_notes, length_words, words_append}
use Rattle.rhythm.specs.Joins.{later, copies_from}
use Rattle.rhythm.specs.Values.{most_step}

-- an offset stopped at 2^64 - 1 moves a note as far
pub stopped_later : (x : ℕ) → later (min x (2 ^ 64 - 1)) ≡ later x
stopped_later x = λ j. λ n. record { step = same n.step j; len = n.len; gain = n.gain; tag = n.tag }
  where
    same : (s : ℕ) → min (s + min x (2 ^ 64 - 1)) most_step ≡ min (s + x) most_step
    same s = omega arith

-- one stride more, stopped
pub stopped_more : (i s off : ℕ) → off ≡ min (i * s) (2 ^ 64 - 1) → min (off + s) (2 ^ 64 - 1) ≡ min ((i + 1) * s) (2 ^ 64 - 1)
stopped_more i s off e = let m : (i + 1) * s ≡ i * s + s = rw (add-one i) (suc-mul i s) in rw m (omega arith)

-- what is written in the turn at i, and what is left
pub copies_turn : (ws : List ℕ) (stride i t off : ℕ) → i < t → off ≡ min (i * stride) (2 ^ 64 - 1)
    → words_of (copies_from stride (notes_of ws) i (t - i)) ≡ words_of (map (later off) (notes_of ws)) ++ words_of (copies_from stride (notes_of ws) (i + 1) (t - (i + 1)))
unfolding copies_from
copies_turn ws stride i t off h e =
    let k : t - i ≡ suc (t - (i + 1)) = omega arith in
    rw (k, add-one)
    (words_append (map (later (i * stride)) (notes_of ws)) _
    ∙ ap (λ (f : Note → Note). words_of (map f (notes_of ws)) ++ words_of (copies_from stride (notes_of ws) (suc i) (t - suc i))) (sym (ap later e ∙ stopped_later (i * stride))))

pub length_copy : (f : Note → Note) (ws : List ℕ) → length ws % 4 ≡ 0 → length (words_of (map f (notes_of ws))) ≡ length ws
length_copy f ws h = length_words (map f (notes_of ws)) ∙ simp (length-map, length_notes) (omega arith)

pub length_copies : (ns : List Note) (stride i k : ℕ) → length (copies_from stride ns i k) ≡ length ns * k
unfolding copies_from
length_copies ns stride i zero = sym (mul-zero (length ns))
length_copies ns stride i (suc k) = simp (length-append, length-map, mul-suc, length_copies ns stride (suc i) k) (omega arith)

-- at the beginning and at the end
pub copies_all : (ws : List ℕ) (stride t : ℕ) → words_of (copies_from stride (notes_of ws) 0 (t - 0)) ≡ words_of (copies_from stride (notes_of ws) 0 t)
copies_all ws stride t = rw sub-zero

pub copies_none : (ws : List ℕ) (stride i t : ℕ) → t ≤ i → words_of (copies_from stride (notes_of ws) i (t - i)) ≡ []
unfolding copies_from words_of
copies_none ws stride i t h = let e : t - i ≡ 0 = omega arith in rw e

pub count_copies : (ws : List ℕ) (stride t : ℕ) → length ws % 4 ≡ 0 → 4 * length (copies_from stride (notes_of ws) 0 t) ≡ length ws * t
count_copies ws stride t h =
    let e : 4 * length (notes_of ws) ≡ length ws = omega (arith, length_notes ws) in
    ap (λ (k : ℕ). 4 * k) (length_copies (notes_of ws) stride 0 t) ∙ sym (mul_assoc 4 (length (notes_of ws)) t) ∙ ap (λ (k : ℕ). k * t) e

-- no notes stay none, however often
pub copies_of_none : (stride i k : ℕ) → copies_from stride [] i k ≡ []
unfolding copies_from
copies_of_none stride i zero = refl
copies_of_none stride i (suc k) = copies_of_none stride (suc i) k

min_stays : (s : ℕ) → s < 2 ^ 32 → min (s + 0) most_step ≡ s
min_stays s h = omega arith

-- moved by no step, where each step fits a word
pub later_zero : (ws : List ℕ) → ((i : ℕ) → get_or ws i 0 < 2 ^ 32) → map (later 0) (notes_of ws) ≡ notes_of ws
unfolding notes_of
later_zero (a ∷ b ∷ c ∷ d ∷ ws) h =
    let note : ℕ → Note = λ k. record { step = k; len = b; gain = c; tag = d } in
    ap (λ (k : ℕ). note k ∷ map (later 0) (notes_of ws)) (min_stays a (h 0))
    ∙ ap (λ (l : List Note). note a ∷ l) (later_zero ws (λ i. h (suc (suc (suc (suc i))))))
later_zero (a ∷ b ∷ c ∷ []) h = refl
later_zero (a ∷ b ∷ []) h = refl
later_zero (a ∷ []) h = refl
later_zero [] h = refl
