-- (Option ℕ) one by one: what the first of those that are left adds, and what ends the reading.
use Rattle.std.proofs.Common.{◌≡◌, ℕ, suc, ◌+◌, ◌-◌, ◌*◌, ◌<◌, ◌≤◌, Bool, true, false, cond, ◌&&◌, eqb, ltb, leb, List, [], ◌∷◌, ◌++◌, length, get_or, drop, sym, refl, ap, ◌∙◌, mul-le-mul_left, add-one, arith, drop-cons, le-ltb, lt-ltb, eq-eqb, ne_eqb, le-leb, leb-false, leb-true, Option, None, Some}
use Rattle.std.specs.Char.{digit_value}
use Rattle.std.proofs.lemmas.Bool.Decides.{nat_tests}
use borrow.Author.Tests.{lt-leb}
use Rattle.spelling.specs.Words.{digit_of, all_are_digits, value_from, number_by, some_digits}

-- ---- one byte

module _ (byte : ℕ) where
  pub before_0 : byte < 48 → 16 ≡ digit_of byte
  unfolding digit_of
  before_0 h = simp (lt-leb 48 byte h, lt-leb 65 byte (omega arith), lt-leb 97 byte (omega arith))

  pub digit_0 : 48 ≤ byte → byte ≤ 57 → byte - 48 ≡ digit_of byte
  unfolding digit_of
  digit_0 h k = simp (le-leb 48 byte h, le-leb byte 57 k)

  pub before_upper_a : 57 < byte → byte < 65 → 16 ≡ digit_of byte
  unfolding digit_of
  before_upper_a h k = simp (le-leb 48 byte (omega arith), lt-leb byte 57 h, lt-leb 65 byte k, lt-leb 97 byte (omega arith))

  pub digit_upper_a : 65 ≤ byte → byte ≤ 70 → byte - 55 ≡ digit_of byte
  unfolding digit_of
  digit_upper_a h k = simp (le-leb 48 byte (omega arith), lt-leb byte 57 (omega arith), le-leb 65 byte h, le-leb byte 70 k)

  pub before_a : 70 < byte → byte < 97 → 16 ≡ digit_of byte
  unfolding digit_of
  before_a h k = simp (le-leb 48 byte (omega arith), lt-leb byte 57 (omega arith), le-leb 65 byte (omega arith), lt-leb byte 70 h, lt-leb 97 byte k)

  pub digit_a : 97 ≤ byte → byte ≤ 102 → byte - 87 ≡ digit_of byte
  unfolding digit_of
  digit_a h k =
      simp (le-leb 48 byte (omega arith), lt-leb byte 57 (omega arith), le-leb 65 byte (omega arith), lt-leb byte 70 (omega arith), le-leb 97 byte h, le-leb byte 102 k)

  pub behind_f : 102 < byte → 16 ≡ digit_of byte
  unfolding digit_of
  behind_f h =
      simp (le-leb 48 byte (omega arith), lt-leb byte 57 (omega arith), le-leb 65 byte (omega arith), lt-leb byte 70 (omega arith), le-leb 97 byte (omega arith), lt-leb byte 102 h)

  -- the digit that std reads is this one, in a base up to 16
  module _ (base : ℕ) (small : base ≤ 16) where
    pub read_alike : digit_value byte < base → digit_of byte ≡ digit_value byte
    unfolding digit_of
    read_alike h = grind (arith, nat_tests)

    pub reads_alike : digit_of byte < base → digit_of byte ≡ digit_value byte
    unfolding digit_of
    reads_alike h = grind (arith, nat_tests)

-- ---- a word

-- a number only grows
pub grows : (base : ℕ) → 1 ≤ base → (front : ℕ) (word : List ℕ) → front ≤ value_from base front word
unfolding value_from
grows base h front [] = omega arith
grows base h front (byte ∷ word) =
    let more = mul-le-mul_left front h in
    let rest = grows base h (front * base + digit_of byte) word in
    omega arith

module _ (base limit : ℕ) where
  pub none_left : (n : ℕ) → n ≤ limit → number_by base limit n [] ≡ Some n
  unfolding number_by all_are_digits value_from
  none_left n h = simp (le-leb n limit h)

  pub one_more : (n byte : ℕ) (word : List ℕ) → digit_of byte < base → number_by base limit n (byte ∷ word) ≡ number_by base limit (n * base + digit_of byte) word
  unfolding number_by all_are_digits value_from
  one_more n byte word h = simp (lt-ltb (digit_of byte) base h)

  pub no_digit : (n byte : ℕ) (word : List ℕ) → base ≤ digit_of byte → number_by base limit n (byte ∷ word) ≡ None
  unfolding number_by all_are_digits value_from
  no_digit n byte word h = simp (le-ltb (digit_of byte) base h)

  pub too_large : 1 ≤ base → (n : ℕ) (word : List ℕ) → limit < n → number_by base limit n word ≡ None
  unfolding number_by
  too_large b n word h = go (all_are_digits base word)
    where
      over : leb (value_from base n word) limit ≡ false
      over = lt-leb (value_from base n word) limit (omega (arith, grows base b n word))

      go : (all : Bool) → cond (all && leb (value_from base n word) limit) (Some (value_from base n word)) None ≡ None
      go true = simp over
      go false = refl

  -- the same, at a place of a word

  module _ (n : ℕ) (word : List ℕ) (i : ℕ) (inside : i < length word) where
    first : number_by base limit n (drop i word) ≡ number_by base limit n (get_or word i 0 ∷ drop (suc i) word)
    first = ap (number_by base limit n) (drop-cons word i 0 inside)

    pub stops : (digit_of (get_or word i 0) < base → ⊥) → number_by base limit n (drop i word) ≡ None
    stops h = first ∙ no_digit n (get_or word i 0) (drop (suc i) word) (omega (arith, h))

    pub goes_on : (m : ℕ) → digit_of (get_or word i 0) < base → m ≡ n * base + digit_of (get_or word i 0)
        → number_by base limit n (drop i word) ≡ number_by base limit m (drop (i + 1) word)
    goes_on m h e = first ∙ one_more n (get_or word i 0) (drop (suc i) word) h
        ∙ ap (λ (k : ℕ). number_by base limit k (drop (suc i) word)) (sym e)
        ∙ ap (λ (k : ℕ). number_by base limit m (drop k word)) (sym (add-one i))

    pub passes : 1 ≤ base → digit_of (get_or word i 0) < base → limit < n * base + digit_of (get_or word i 0) → number_by base limit n (drop i word) ≡ None
    passes b h over = goes_on (n * base + digit_of (get_or word i 0)) h refl ∙ too_large b (n * base + digit_of (get_or word i 0)) (drop (i + 1) word) over

-- ---- what is known of an answer

pub most : (base limit front : ℕ) (word : List ℕ) (n : ℕ) → Some n ≡ number_by base limit front word → n ≤ limit
unfolding number_by
most base limit front word n e = go (all_are_digits base word) (leb (value_from base front word) limit) refl e
  where
    go : (all small : Bool) → leb (value_from base front word) limit ≡ small
        → Some n ≡ cond (all && small) (Some (value_from base front word)) None → n ≤ limit
    go true true s q =
        let v : n ≡ value_from base front word = cc in
        let w = leb-true (value_from base front word) limit s in
        omega arith
    go true false s q = let z : ◌≡◌ {A = ℕ} 0 1 = cc in omega arith
    go false small s q = let z : ◌≡◌ {A = ℕ} 0 1 = cc in omega arith

pub all_digits : (base limit front : ℕ) (word : List ℕ) (n : ℕ) → number_by base limit front word ≡ Some n → all_are_digits base word ≡ true
unfolding number_by
all_digits base limit front word n e = go (all_are_digits base word) (leb (value_from base front word) limit) e
  where
    go : (all small : Bool) → cond (all && small) (Some (value_from base front word)) None ≡ Some n → all ≡ true
    go true small q = refl
    go false small q = cc

module _ (limit : ℕ) (word : List ℕ) where
  pub no_word : length word ≡ 0 → None ≡ some_digits limit word
  unfolding some_digits
  no_word e = simp (eq-eqb (length word) 0 e)

  pub some_word : (length word ≡ 0 → ⊥) → number_by 10 limit 0 word ≡ some_digits limit word
  unfolding some_digits
  some_word n = simp (ne_eqb (length word) 0 n)

  pub some_most : (n : ℕ) → Some n ≡ some_digits limit word → n ≤ limit
  unfolding some_digits
  some_most n e = go (eqb (length word) 0) e
    where
      go : (empty : Bool) → Some n ≡ cond empty None (number_by 10 limit 0 word) → n ≤ limit
      go true q = let z : ◌≡◌ {A = ℕ} 0 1 = cc in omega arith
      go false q = most 10 limit 0 word n q

-- ---- one word behind another

unfoldable pub carried : ℕ → ℕ → Option ℕ → List ℕ → Option ℕ
carried base limit (Some n) word = number_by base limit n word
carried base limit None word = None

pub all_append : (base : ℕ) (front back : List ℕ) → all_are_digits base (front ++ back) ≡ all_are_digits base front && all_are_digits base back
unfolding all_are_digits
all_append base [] back = refl
all_append base (byte ∷ front) back = go (ltb (digit_of byte) base) (all_append base front back)
  where
    go : (t : Bool) → all_are_digits base (front ++ back) ≡ all_are_digits base front && all_are_digits base back
        → (t && all_are_digits base (front ++ back)) ≡ ((t && all_are_digits base front) && all_are_digits base back)
    go true e = e
    go false e = refl

value_append : (base n : ℕ) (front back : List ℕ) → value_from base n (front ++ back) ≡ value_from base (value_from base n front) back
unfolding value_from
value_append base n [] back = refl
value_append base n (byte ∷ front) back = value_append base (n * base + digit_of byte) front back

pub number_append : (base limit : ℕ) → 1 ≤ base → (n : ℕ) (front back : List ℕ)
    → number_by base limit n (front ++ back) ≡ carried base limit (number_by base limit n front) back
unfolding number_by carried
number_append base limit b n front back =
    ap (λ (all : Bool). cond (all && leb (value_from base n (front ++ back)) limit) (Some (value_from base n (front ++ back))) None) (all_append base front back)
    ∙ ap (λ (v : ℕ). cond ((all_are_digits base front && all_are_digits base back) && leb v limit) (Some v) None) (value_append base n front back)
    ∙ go (all_are_digits base front) (leb (value_from base n front) limit) refl
  where
    whole : Bool → Option ℕ
    whole all = cond ((all && all_are_digits base back) && leb (value_from base (value_from base n front) back) limit) (Some (value_from base (value_from base n front) back)) None

    go : (all small : Bool) → leb (value_from base n front) limit ≡ small
        → whole all ≡ carried base limit (cond (all && small) (Some (value_from base n front)) None) back
    go true true s = refl
    go true false s = too_large base limit b (value_from base n front) back (leb-false (value_from base n front) limit s)
    go false small s = refl
