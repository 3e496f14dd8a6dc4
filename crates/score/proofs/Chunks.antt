-- A part of the bytes, and what comes behind it: what stands in either is read there, so a walk over places is a walk over parts.
use Rattle.std.proofs.Common.{◌≡◌, refl, sym, ap, ◌∙◌, Bool, ◌&&◌, ℕ, zero, suc, ◌+◌, ◌-◌, ◌*◌, ◌/◌, ◌<◌, ◌≤◌, List, ◌++◌, length, get_or, take, drop, true, arith}
use Rattle.std.proofs.lemmas.List.{get_or_append_left, get_or-append-add, length-append, length-drop, length-take-le, take-append-drop, take_all}
use Rattle.beats.specs.declared.Beat.{Beat}
use Rattle.beats.specs.Beats.{is_beat}
use Rattle.score.specs.Bytes.{word_at, number_at, each}
use Rattle.score.specs.Format.{beat_at, beats_good}

module _ (x ys : List ℕ) where
  pub word_in : (p : ℕ) → p + 4 ≤ length x → word_at (x ++ ys) p ≡ word_at x p
  unfolding word_at
  word_in p h =
      rw (get_or_append_left x ys 0 p (omega arith), get_or_append_left x ys 0 (p + 1) (omega arith), get_or_append_left x ys 0 (p + 2) (omega arith), get_or_append_left x ys 0 (p + 3) (omega arith))

  pub number_in : (p : ℕ) → p + 8 ≤ length x → number_at (x ++ ys) p ≡ number_at x p
  unfolding number_at
  number_in p h = rw (word_in p (omega arith), word_in (p + 4) (omega arith))

  pub beat_in : (p : ℕ) → p + 12 ≤ length x → beat_at (x ++ ys) p ≡ beat_at x p
  unfolding beat_at
  beat_in p h = rw (number_in p (omega arith), word_in (p + 8) (omega arith))

  pub word_behind : (p q : ℕ) → q ≡ length x + p → word_at (x ++ ys) q ≡ word_at ys p
  unfolding word_at
  word_behind p q e =
      let at : (k : ℕ) → get_or (x ++ ys) (q + k) 0 ≡ get_or ys (p + k) 0 = λ k. let same : q + k ≡ length x + (p + k) = omega arith in ap (λ n. get_or (x ++ ys) n 0) same ∙ get_or-append-add x ys (p + k) 0 in
      let first : get_or (x ++ ys) q 0 ≡ get_or ys p 0 = ap (λ n. get_or (x ++ ys) n 0) e ∙ get_or-append-add x ys p 0 in
      rw (first, at 1, at 2, at 3)

  pub number_behind : (p q : ℕ) → q ≡ length x + p → number_at (x ++ ys) q ≡ number_at ys p
  unfolding number_at
  number_behind p q e = rw (word_behind p q e, word_behind (p + 4) (q + 4) (omega arith))

  pub beat_behind : (p q : ℕ) → q ≡ length x + p → beat_at (x ++ ys) q ≡ beat_at ys p
  unfolding beat_at
  beat_behind p q e = rw (number_behind p q e, word_behind (p + 8) (q + 8) (omega arith))

  pub good_behind : (n p q : ℕ) → q ≡ length x + p → beats_good (x ++ ys) q n ≡ beats_good ys p n
  unfolding beats_good
  good_behind zero p q e = refl
  good_behind (suc n) p q e = rw (beat_behind p q e, good_behind n (p + 16) (q + 16) (omega arith))

  module _ {A : Type 0} (read : List ℕ → ℕ → A) (behind : (p q : ℕ) → q ≡ length x + p → read (x ++ ys) q ≡ read ys p) where
    pub each_behind : (step n p q : ℕ) → q ≡ length x + p → each (read (x ++ ys)) q step n ≡ each (read ys) p step n
    unfolding each
    each_behind step zero p q e = refl
    each_behind step (suc n) p q e = rw (behind p q e, each_behind step n (p + step) (q + step) (omega arith))

-- ---- whole parts

-- all tempo points of the bytes are good
abbrev pub all_good : List ℕ → Bool
all_good b = beats_good b 0 (length b / 16)

pub good_part : (b x ys : List ℕ) → b ≡ x ++ ys → length x ≡ 16 → all_good b ≡ is_beat (beat_at x 0) && all_good ys
unfolding beats_good
good_part b x ys e h =
    let m : ℕ = length ys / 16 in
    let n : length b / 16 ≡ suc m = rw e (rw (length-append x ys) (omega arith)) in
    ap (beats_good b 0) n
    ∙ ap (λ (l : List ℕ). beats_good l 0 (suc m)) e
    ∙ ap (λ (t : Beat). is_beat t && beats_good (x ++ ys) (0 + 16) m) (beat_in x ys 0 (omega arith))
    ∙ ap (λ (t : Bool). is_beat (beat_at x 0) && t) (good_behind x ys m 0 (0 + 16) (omega arith))

-- the points from a place to the end
pub good_from : (b : List ℕ) (p n : ℕ) → p + 16 * n ≡ length b → all_good (take (length b - p) (drop p b)) ≡ beats_good b p n
good_from b p n h =
    let all : take (length b - p) (drop p b) ≡ drop p b = take_all (length b - p) (drop p b) (rw (length-drop p b) (omega arith)) in
    let m : length (drop p b) / 16 ≡ n = rw (length-drop p b) (omega arith) in
    let l : length (take p b) ≡ p = length-take-le p b (omega arith) in
    ap all_good all
    ∙ ap (beats_good (drop p b) 0) m
    ∙ sym (good_behind (take p b) (drop p b) n 0 p (omega (arith, l)))
    ∙ ap (λ (l : List ℕ). beats_good l p n) (take-append-drop p b)

-- a short rest has none
pub good_end : (b : List ℕ) → length b < 16 → all_good b ≡ true
unfolding beats_good
good_end b h = let none : length b / 16 ≡ 0 = omega arith in ap (beats_good b 0) none
