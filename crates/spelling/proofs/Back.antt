-- Reading what the crate `text` writes gives it back; and a tempo is read by the number that its digits are.
use Rattle.std.proofs.Common.{◌≡◌, ℕ, zero, suc, ◌+◌, ◌*◌, ◌/◌, ◌%◌, ◌^◌, ◌<◌, ◌≤◌, min, Bool, true, false, cond, ◌&&◌, eqb, ltb, List, [], ◌∷◌, ◌++◌, length, get_or, take, drop, ℤ, pos, negsuc, sym, refl, ap, ◌∙◌, arith, length-append, take_at, w64, SFits, ltb-true, le-ltb, lt-ltb, eqb-true, le-leb, Option, Some, Ok, Err}
use mathlib.Core.Bool.{and-false}
use borrow.Author.Tests.{eqb-false}
use lib.Seq.{drop-append-add}
use Rattle.numbers.proofs.Laws.{and_left, and_right, cases}
use Rattle.beats.specs.declared.Beat.{Beat}
use Rattle.beats.specs.Beats.{is_beat}
use Rattle.text.specs.Texts.{digits_by, decimal, signed_text, beat_text}
use Rattle.splits.specs.Splits.{other, run}
use Rattle.splits.proofs.Laws.{run_nil, run_append, at_mark, before_mark}
use Rattle.spelling.specs.declared.BeatError.TheVariants.{NotBeat}
use Rattle.spelling.specs.Words.{digit_of, all_are_digits, number_by, some_digits, number_of, sign_by, numerator_of, denominator_of, beat_of}
use Rattle.spelling.specs.Words.{quotient, tempo_by, point_tempo, decimal_tempo, is_bits, tempo_of}
use Rattle.spelling.proofs.Reading.{before_0, digit_0, behind_f, one_more, none_left, all_digits, some_word, carried, all_append, number_append}
use Rattle.spelling.proofs.Tempos.{bits_is, by_x, by_bits, by_digits}
use Rattle.spelling.proofs.Ratios.{minus, plus, whole, beat_is}

-- ---- digits

-- a text whose number is m, and one digit behind it
pub and_digit : (base limit m byte n : ℕ) (text : List ℕ) → number_by base limit 0 text ≡ Some m → digit_of byte < base → n ≡ m * base + digit_of byte → n ≤ limit
    → number_by base limit 0 (text ++ (byte ∷ [])) ≡ Some n
unfolding carried
and_digit base limit m byte n text e h s k =
    number_append base limit (omega arith) 0 text (byte ∷ [])
    ∙ ap (λ (read : Option ℕ). carried base limit read (byte ∷ [])) e
    ∙ one_more base limit m byte [] h ∙ none_left base limit (m * base + digit_of byte) (omega arith) ∙ ap Some (sym s)

-- the digits of n / 10, and behind them the last
last_digit : (limit n : ℕ) (text : List ℕ) → number_by 10 limit 0 text ≡ Some (n / 10) → n ≤ limit → number_by 10 limit 0 (text ++ ((48 + n % 10) ∷ [])) ≡ Some n
last_digit limit n text e k =
    let d : digit_of (48 + n % 10) ≡ n % 10 = omega (arith, digit_0 (48 + n % 10) (omega arith) (omega arith)) in
    and_digit 10 limit (n / 10) (48 + n % 10) n text e (omega arith) (omega arith) k

digits_back : (limit most n : ℕ) → n ≤ most → n ≤ limit → number_by 10 limit 0 (digits_by most n) ≡ Some n
unfolding digits_by
digits_back limit zero n h k = let e : 0 ≡ n = omega arith in none_left 10 limit 0 (omega arith) ∙ ap Some e
digits_back limit (suc most) zero h k = none_left 10 limit 0 (omega arith)
digits_back limit (suc most) (suc n) h k =
    last_digit limit (suc n) (digits_by most (suc n / 10)) (digits_back limit most (suc n / 10) (omega arith) (omega arith)) k

pub decimal_long : (n : ℕ) → length (decimal n) ≡ 0 → ⊥
unfolding decimal
decimal_long n e = omega (arith, length-append (digits_by n (n / 10)) ((48 + n % 10) ∷ []))

pub all_back : (limit n : ℕ) → n ≤ limit → number_by 10 limit 0 (decimal n) ≡ Some n
unfolding decimal
all_back limit n k = last_digit limit n (digits_by n (n / 10)) (digits_back limit n (n / 10) (omega arith) (omega arith)) k

pub some_back : (limit n : ℕ) → n ≤ limit → some_digits limit (decimal n) ≡ Some n
some_back limit n k = sym (some_word limit (decimal n) (decimal_long n)) ∙ all_back limit n k

-- the number that a decimal says
pub number_back : (n : ℕ) → n < 2 ^ 32 → number_of (decimal n) ≡ Some n
unfolding number_of
number_back n h = some_back 4294967295 n (omega arith)

-- ---- no mark stands among digits

-- a byte that is no digit is not among digits
no_mark : (base mark : ℕ) → base ≤ digit_of mark → (word : List ℕ) → all_are_digits base word ≡ true → run (other mark) word ≡ length word
unfolding all_are_digits
no_mark base mark h [] e = run_nil (other mark)
no_mark base mark h (byte ∷ word) e =
    let small = ltb-true (digit_of byte) base (and_left (ltb (digit_of byte) base) (all_are_digits base word) e) in
    before_mark mark byte word (λ q. omega (arith, ap digit_of q)) ∙ ap suc (no_mark base mark h word (and_right (ltb (digit_of byte) base) (all_are_digits base word) e))

not_in : (mark n : ℕ) → mark < 48 → run (other mark) (decimal n) ≡ length (decimal n)
not_in mark n h = no_mark 10 mark (omega (arith, before_0 mark h)) (decimal n) (all_digits 10 n 0 (decimal n) n (all_back n n (omega arith)))

first_not : (mark : ℕ) (text : List ℕ) → run (other mark) text ≡ length text → (length text ≡ 0 → ⊥) → get_or text 0 0 ≡ mark → ⊥
first_not mark [] e n q = n refl
first_not mark (byte ∷ text) e n q = omega (arith, at_mark mark byte text q)

-- ---- signed numbers

pub signed_back : (z : ℤ) → SFits w64 z → numerator_of (signed_text z) ≡ Some z
unfolding signed_text
signed_back (pos n) f =
    let e : min n 9223372036854775807 ≡ n = omega (arith, f.sfits) in
    sym (plus (decimal n) (first_not 45 (decimal n) (not_in 45 n (omega arith)) (decimal_long n)))
    ∙ ap (sign_by false) (some_back 9223372036854775807 n (omega (arith, f.sfits))) ∙ ap (λ (k : ℕ). Some (pos k)) e
signed_back (negsuc n) f =
    let e : min n 9223372036854775807 ≡ n = omega (arith, f.sfits) in
    sym (minus (45 ∷ decimal (suc n)) refl)
    ∙ ap (sign_by true) (some_back 9223372036854775808 (suc n) (omega (arith, f.sfits))) ∙ ap (λ (k : ℕ). Some (negsuc k)) e

no_slash : (z : ℤ) → run (other 47) (signed_text z) ≡ length (signed_text z)
unfolding signed_text
no_slash (pos n) = not_in 47 n (omega arith)
no_slash (negsuc n) = before_mark 47 45 (decimal (suc n)) (λ q. omega arith) ∙ ap suc (not_in 47 (suc n) (omega arith))

-- ---- beats

past_mark : (front back : List ℕ) (mark : ℕ) → drop (suc (length front)) (front ++ (mark ∷ back)) ≡ back
past_mark front back mark =
    let e : suc (length front) ≡ length front + 1 = omega arith in
    ap (λ (k : ℕ). drop k (front ++ (mark ∷ back))) e ∙ drop-append-add front (mark ∷ back) 1

behind_slash : (front back : List ℕ) → denominator_of (front ++ (47 ∷ back)) (length front) ≡ number_of back
unfolding denominator_of
behind_slash front back =
    simp (lt-ltb (length front) (length (front ++ (47 ∷ back))) (omega (arith, length-append front (47 ∷ back)))) (ap number_of (past_mark front back 47))

module _ (b : Beat) (is : is_beat b ≡ true) (f : SFits w64 b.num) where
  -- a word whose numerator's text is followed by nothing or by a slash
  read_back : (back : List ℕ) → run (other 47) back ≡ 0 → Some b.den ≡ denominator_of (signed_text b.num ++ back) (length (signed_text b.num))
      → beat_of (signed_text b.num ++ back) ≡ Ok b
  read_back back e den =
      let num = signed_text b.num in
      let place : length num ≡ run (other 47) (num ++ back) = omega (arith, run_append (other 47) num back (no_slash b.num)) in
      let top = ap numerator_of (take_at num back (length num) refl) ∙ signed_back b.num f in
      sym (beat_is (num ++ back) (length num) place (Some b.num) (Some b.den) (sym top) den)
      ∙ ap (λ (t : Bool). cond t (Ok b) (Err NotBeat)) is

  -- the beat that its text says
  pub beat_back : b.den < 2 ^ 32 → beat_of (beat_text b) ≡ Ok b
  unfolding beat_text
  beat_back h = go (eqb b.den 1) refl
    where
      go : (t : Bool) → eqb b.den 1 ≡ t → beat_of (signed_text b.num ++ cond t [] (47 ∷ decimal b.den)) ≡ Ok b
      go true e =
          let num = signed_text b.num in
          read_back [] (run_nil (other 47)) (ap Some (eqb-true b.den 1 e) ∙ whole (num ++ []) (length num) (omega (arith, length-append num [])))
      go false e =
          read_back (47 ∷ decimal b.den) (at_mark 47 47 (decimal b.den) refl)
          (sym (behind_slash (signed_text b.num) (decimal b.den) ∙ number_back b.den h))

-- ---- tempos

-- a word without an x (byte 120) is not taken for bits
not_bits : (word : List ℕ) → run (other 120) word ≡ length word → is_bits word ≡ false
unfolding is_bits
not_bits [] e = refl
not_bits (a ∷ []) e = refl
not_bits (a ∷ b ∷ rest) e = go (eqb b 120) refl
  where
    go : (t : Bool) → eqb b 120 ≡ t → (eqb (suc (suc (length rest))) 10 && (eqb a 48 && t)) ≡ false
    go true q =
        let second = at_mark 120 b rest (eqb-true b 120 q) in
        let z : ⊥ = cases (eqb a 120) (λ t. omega (arith, at_mark 120 a (b ∷ rest) (eqb-true a 120 t))) (λ t. omega (arith, before_mark 120 a (b ∷ rest) (eqb-false a 120 t))) in
        absurd z
    go false q = simp and-false

no_x : (word : List ℕ) → all_are_digits 10 word ≡ true → run (other 120) word ≡ length word
no_x = no_mark 10 120 (omega (arith, behind_f 120 (omega arith)))

no_point : (word : List ℕ) → all_are_digits 10 word ≡ true → run (other 46) word ≡ length word
no_point = no_mark 10 46 (omega (arith, before_0 46 (omega arith)))

no_x_around : (front back : List ℕ) → all_are_digits 10 front ≡ true → all_are_digits 10 back ≡ true → run (other 120) (front ++ (46 ∷ back)) ≡ length (front ++ (46 ∷ back))
no_x_around front back f b =
    omega (arith, run_append (other 120) front (46 ∷ back) (no_x front f), before_mark 120 46 back (λ q. omega arith), no_x back b, length-append front (46 ∷ back))

-- digits without a point
pub whole_tempo : (word : List ℕ) (n : ℕ) → (length word ≡ 0 → ⊥) → number_by 10 16777215 0 word ≡ Some n → tempo_of word ≡ Some (quotient n 0)
unfolding decimal_tempo
whole_tempo word n some e =
    let all = all_digits 10 16777215 0 word n e in
    sym (by_digits word (not_bits word (no_x word all)))
    ∙ simp (le-ltb (run (other 46) word) (length word) (omega (arith, no_point word all))) (ap (tempo_by 0) (sym (some_word 16777215 word some) ∙ e))

-- digits before a point and behind it
pub point_tempo_lem : (front back : List ℕ) (n : ℕ) → (length front ≡ 0 → ⊥) → (length back ≡ 0 → ⊥) → length back ≤ 10 → number_by 10 16777215 0 (front ++ back) ≡ Some n
    → tempo_of (front ++ (46 ∷ back)) ≡ Some (quotient n (length back))
unfolding decimal_tempo point_tempo
point_tempo_lem front back n f b h e =
    let word = front ++ (46 ∷ back) in
    let all = sym (all_append 10 front back) ∙ all_digits 10 16777215 0 (front ++ back) n e in
    let before = and_left (all_are_digits 10 front) (all_are_digits 10 back) all in
    let behind = and_right (all_are_digits 10 front) (all_are_digits 10 back) all in
    let point : run (other 46) word ≡ length front = omega (arith, run_append (other 46) front (46 ∷ back) (no_point front before), at_mark 46 46 back refl) in
    sym (by_digits word (not_bits word (no_x_around front back before behind)))
    ∙ simp (lt-ltb (run (other 46) word) (length word) (omega (arith, length-append front (46 ∷ back))))
    (ap (λ (p : ℕ). point_tempo (take p word) (drop (suc p) word)) point
    ∙ ap (λ (l : List ℕ). point_tempo l (drop (suc (length front)) word)) (take_at front (46 ∷ back) (length front) refl)
    ∙ ap (point_tempo front) (past_mark front back 46)
    ∙ simp (lt-ltb 0 (length front) (omega arith), lt-ltb 0 (length back) (omega arith), le-leb (length back) 10 h) (ap (tempo_by (length back)) e))

-- `0x` and eight digits
pub bits_tempo_lem : (word : List ℕ) (n : ℕ) → length word ≡ 8 → number_by 16 4294967295 0 word ≡ Some n → tempo_of (48 ∷ 120 ∷ word) ≡ Some n
bits_tempo_lem word n h e = sym (by_bits (48 ∷ 120 ∷ word) (sym (by_x (48 ∷ 120 ∷ word) (omega arith) refl))) ∙ sym (bits_is word) ∙ e
