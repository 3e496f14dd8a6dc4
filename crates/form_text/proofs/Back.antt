-- Reading the text of a tempo gives it back: a decimal was chosen because it does, and else the bits are written, digit by digit.
use mathlib.Core.Path.{◌≡◌, refl, sym, ap, ◌∙◌}
use mathlib.Core.Bool.{true, false}
use mathlib.Core.List.{List, [], ◌∷◌, ◌++◌, append-nil, append_assoc}
use Prim.Native.Nat.{ℕ, zero, suc, ◌+◌, ◌/◌, ◌%◌, ◌^◌, ◌≤◌, ◌<◌}
use native.Mathlib.Nat.{pow-zero, pow-suc, mul_comm, div-one, div-add-mod', div-div-eq-div-mul, div-le_self, mod-lt}
use native.Mathlib.Omega.{arith}
use borrow.Author.Tests.{lt-ltb, le-ltb, eqb-true, eqb-false}
use lib.Dec.{eqb}
use Rattle.numbers.proofs.Laws.{by_order, cases}
use Rattle.text.specs.Texts.{decimal}
use Rattle.std.proofs.Common.{Some}
use Rattle.spelling.specs.Words.{digit_of, number_by, quotient, tempo_of}
use Rattle.spelling.proofs.Laws.{digit_0, digit_a, none_left, and_digit, all_back, decimal_long, whole_tempo, point_tempo_lem, bits_tempo_lem}
use Rattle.form_text.specs.TempoTexts.{digits_for, places_from, digit_byte, last_digits, point_text, tempo_text}
use Rattle.form_text.proofs.Digits.{back_small, back_same, back_at, digits_length, point_whole, point_parts, tempo_decimal, tempo_bits_lem}

-- ---- digits

digit_back : (d : ℕ) → d < 16 → digit_of (digit_byte d) ≡ d
digit_back d h =
    by_order d 10 (λ l. simp (lt-ltb d 10 l) (omega (arith, digit_0 (48 + d) (omega arith) (omega arith))))
    (λ l. simp (le-ltb d 10 l) (omega (arith, digit_a (87 + d) (omega arith) (omega arith))))

without_last : (base count n : ℕ) → n / base ^ suc count ≡ n / base / base ^ count
without_last base count n = ap (λ (m : ℕ). n / m) (pow-suc base count ∙ mul_comm (base ^ count) base) ∙ sym (div-div-eq-div-mul n base (base ^ count))

-- a text whose number is n without its last digits, and those behind it
digits_back : (base limit : ℕ) → 0 < base → base ≤ 16 → (front : List ℕ) (count n : ℕ) → number_by base limit 0 front ≡ Some (n / base ^ count) → n ≤ limit
    → number_by base limit 0 (front ++ last_digits base count n) ≡ Some n
unfolding last_digits
digits_back base limit b h front zero n e k = ap (number_by base limit 0) (append-nil front) ∙ e ∙ ap Some (ap (λ (m : ℕ). n / m) (pow-zero base) ∙ div-one n)
digits_back base limit b h front (suc count) n e k =
    let small : n % base < base = mod-lt n b in
    let last = digit_back (n % base) (omega arith) in
    let rest = digits_back base limit b h front count (n / base) (e ∙ ap Some (without_last base count n)) (omega (arith, div-le_self n base)) in
    ap (number_by base limit 0) (sym (append_assoc front (last_digits base count (n / base)) (digit_byte (n % base) ∷ [])))
    ∙ and_digit base limit (n / base) (digit_byte (n % base)) n (front ++ last_digits base count (n / base)) rest (omega arith) (omega (arith, div-add-mod' n base)) k

-- ---- decimals

point_back : (digits places : ℕ) → digits ≤ 16777215 → places ≤ 10 → tempo_of (point_text digits places) ≡ Some (quotient digits places)
point_back digits places h l = cases (eqb places 0) whole point
  where
    front : List ℕ
    front = decimal (digits / 10 ^ places)

    front_back : number_by 10 16777215 0 front ≡ Some (digits / 10 ^ places)
    front_back = all_back 16777215 (digits / 10 ^ places) (omega (arith, div-le_self digits (10 ^ places)))

    whole : eqb places 0 ≡ true → tempo_of (point_text digits places) ≡ Some (quotient digits places)
    whole t =
        let z = eqb-true places 0 t in
        let one : digits / 10 ^ places ≡ digits = ap (λ (k : ℕ). digits / 10 ^ k) z ∙ div-one digits in
        ap tempo_of (sym (point_whole digits places refl z))
        ∙ whole_tempo front digits (decimal_long (digits / 10 ^ places)) (front_back ∙ ap Some one)
        ∙ ap (λ (k : ℕ). Some (quotient digits k)) (sym z)

    point : eqb places 0 ≡ false → tempo_of (point_text digits places) ≡ Some (quotient digits places)
    point t =
        let z = eqb-false places 0 t in
        let back = last_digits 10 places digits in
        let long = digits_length 10 places digits in
        ap tempo_of (sym (point_parts digits places refl z) ∙ append_assoc front (46 ∷ []) back)
        ∙ point_tempo_lem front back digits (decimal_long (digits / 10 ^ places)) (λ q. z (sym long ∙ q)) (omega arith)
        (digits_back 10 16777215 (omega arith) (omega arith) front places digits front_back h)
        ∙ ap (λ (k : ℕ). Some (quotient digits k)) long

-- ---- tempos

-- the bits that a tempo's text says
pub tempo_back : (bits : ℕ) → bits < 2 ^ 32 → tempo_of (tempo_text bits) ≡ Some bits
tempo_back bits h = by_order places 5 decimals others
  where
    places : ℕ
    places = places_from bits 0 5

    decimals : places < 5 → tempo_of (tempo_text bits) ≡ Some bits
    decimals l =
        let back = back_at bits 0 5 (omega arith) in
        ap tempo_of (sym (tempo_decimal bits refl l refl))
        ∙ point_back (digits_for bits places) places (omega (arith, back_small bits places back)) (omega arith)
        ∙ ap Some (back_same bits places back)

    others : 5 ≤ places → tempo_of (tempo_text bits) ≡ Some bits
    others l =
        let none : bits / 16 ^ 8 ≡ 0 = omega arith in
        ap tempo_of (sym (tempo_bits_lem bits refl l))
        ∙ bits_tempo_lem (last_digits 16 8 bits) bits (digits_length 16 8 bits)
        (digits_back 16 4294967295 (omega arith) (omega arith) [] 8 bits (none_left 16 4294967295 0 (omega arith) ∙ ap Some (sym none)) (omega arith))
