-- Texts put one behind another are one text put; and the digits of a number, from the last on.
use mathlib.Core.Path.{◌≡◌, refl, sym, ap, ◌∙◌}
use mathlib.Core.List.{List, [], ◌∷◌, ◌++◌, append_assoc}
use Prim.Native.Nat.{ℕ, zero, suc, ◌+◌, ◌/◌, ◌%◌, ◌≤◌, ◌<◌}
use native.Mathlib.Omega.{arith}
use native.Mathlib.Numerals.{add-one}
use lib.ListN.{length, take, drop, set, length-append, length-drop, take-append-drop}
use lib.Seq.{take_at, drop_at, length-take-le, drop-drop, set_split}
use native.Mathlib.Nat.{add-zero}
use Rattle.text.specs.Texts.{put, Puts, digits_by, decimal}

-- the length stays
pub length_put : (at : ℕ) (t out : List ℕ) → at + length t ≤ length out → length (put at t out) ≡ length out
length_put at t out h = simp (length-append, length-take-le at out (omega arith), length-drop) (omega arith)

pub same : {at next : ℕ} {t out after : List ℕ} → at + length t ≤ length out → Puts at t out next after → length after ≡ length out
same {at} {next} {t} {out} h p = ap length p.after_is ∙ length_put at t out h

-- a text put at the front, and how many bytes it has
pub counted : {r : ℕ} {t out now : List ℕ} → Puts 0 t out r now → r ≤ length out → (r ≤ length now) × (r ≡ length (take r now))
counted {r} {t} {out} {now} x h =
    let e : length now ≡ length out = same (omega (arith, x.next_is)) x in
    let f : r ≤ length now = omega arith in
    (f, sym (length-take-le r now f))

-- a byte stored
pub one : (out : List ℕ) (at b : ℕ) → at + 1 ≤ length out → Puts at (b ∷ []) out (at + 1) (set out at b)
one out at b h = record {
  next_is = refl;
  after_is = set_split out at b (omega arith) ∙ ap (λ (k : ℕ). take at out ++ b ∷ drop k out) (sym (add-one at));
}

-- nothing
pub nothing : (out : List ℕ) (at : ℕ) → Puts at [] out at out
nothing out at = record { next_is = sym (add-zero at); after_is = sym (ap (λ (k : ℕ). take at out ++ drop k out) (add-zero at) ∙ take-append-drop at out) }

-- t behind s
pub behind : {at p r : ℕ} {s t out mid after : List ℕ} → at ≤ length out
    → Puts at s out p mid → Puts p t mid r after → Puts at (s ++ t) out r after
behind {at} {p} {r} {s} {t} {out} {mid} {after} room x y =
    let front : length (take at out ++ s) ≡ at + length s = simp (length-append, length-take-le at out room) in
    let m : mid ≡ (take at out ++ s) ++ drop (at + length s) out = x.after_is ∙ sym (append_assoc (take at out) s (drop (at + length s) out)) in
    let f : take p mid ≡ take at out ++ s = ap (take p) m ∙ take_at (take at out ++ s) (drop (at + length s) out) p (front ∙ sym x.next_is) in
    let k : drop p mid ≡ drop (at + length s) out = ap (drop p) m ∙ drop_at (take at out ++ s) (drop (at + length s) out) p (front ∙ sym x.next_is) in
    let len : at + length s + length t ≡ at + length (s ++ t) = simp length-append (omega arith) in
    let back : drop (p + length t) mid ≡ drop (at + length (s ++ t)) out =
    sym (drop-drop (length t) p mid) ∙ ap (drop (length t)) k ∙ drop-drop (length t) (at + length s) out ∙ ap (λ (n : ℕ). drop n out) len in
    record {
      next_is = y.next_is ∙ ap (λ (n : ℕ). n + length t) x.next_is ∙ len;
      after_is = y.after_is ∙ ap (λ (l : List ℕ). l ++ (t ++ drop (p + length t) mid)) f
          ∙ append_assoc (take at out) s (t ++ drop (p + length t) mid)
          ∙ ap (λ (l : List ℕ). take at out ++ (s ++ (t ++ l))) back
          ∙ ap (λ (l : List ℕ). take at out ++ l) (sym (append_assoc s t (drop (at + length (s ++ t)) out)));
    }

pub then : {at p r : ℕ} {s t out mid after : List ℕ} → at + length s + length t ≤ length out
    → Puts at s out p mid → Puts p t mid r after → Puts at (s ++ t) out r after
then h x y = behind (omega arith) x y

-- the text, said in another way
pub retext : {at r : ℕ} {s t out after : List ℕ} → s ≡ t → Puts at s out r after → Puts at t out r after
retext {at} {r} {s} {t} {out} {after} e x = rw e at x

-- ---- digits

no_digits : (k : ℕ) → digits_by k 0 ≡ []
unfolding digits_by
no_digits zero = refl
no_digits (suc k) = refl

-- any two bounds from n on give one answer
enough : (k j n : ℕ) → n ≤ k → n ≤ j → digits_by k n ≡ digits_by j n
unfolding digits_by
enough zero zero n p q = refl
enough zero (suc j) zero p q = refl
enough zero (suc j) (suc n) p q = let z : ⊥ = omega arith in absurd z
enough (suc k) zero zero p q = refl
enough (suc k) zero (suc n) p q = let z : ⊥ = omega arith in absurd z
enough (suc k) (suc j) zero p q = refl
enough (suc k) (suc j) (suc n) p q = ap (λ (l : List ℕ). l ++ ((48 + suc n % 10) ∷ [])) (enough k j (suc n / 10) (omega arith) (omega arith))

last_digit : (k m : ℕ) → 0 < m → m ≤ k → digits_by k m ≡ decimal m
unfolding digits_by decimal
last_digit k zero h p = let z : ⊥ = omega arith in absurd z
last_digit zero (suc m) h p = let z : ⊥ = omega arith in absurd z
last_digit (suc k) (suc m) h p = ap (λ (l : List ℕ). l ++ ((48 + suc m % 10) ∷ [])) (enough k (suc m) (suc m / 10) (omega arith) (omega arith))

pub digit : (n : ℕ) → n < 10 → decimal n ≡ (48 + n) ∷ []
unfolding decimal
digit n h =
    let d : n / 10 ≡ 0 = omega arith in
    let m : n % 10 ≡ n = omega arith in
    ap (λ (k : ℕ). digits_by n k ++ ((48 + n % 10) ∷ [])) d ∙ ap (λ (l : List ℕ). l ++ ((48 + n % 10) ∷ [])) (no_digits n)
    ∙ ap (λ (k : ℕ). (48 + k) ∷ []) m

-- a number below 10 is its own last digit
pub only_digit : (n : ℕ) → n < 10 → decimal n ≡ (48 + n % 10) ∷ []
only_digit n h =
    let m : n ≡ n % 10 = omega arith in
    digit n h ∙ ap (λ (k : ℕ). (48 + k) ∷ []) m

first : (n : ℕ) → decimal n ≡ digits_by n (n / 10) ++ ((48 + n % 10) ∷ [])
unfolding decimal
first n = refl

pub more_digits : (n : ℕ) → 10 ≤ n → decimal n ≡ decimal (n / 10) ++ ((48 + n % 10) ∷ [])
more_digits n h = first n ∙ ap (λ (l : List ℕ). l ++ ((48 + n % 10) ∷ [])) (last_digit n (n / 10) (omega arith) (omega arith))

pub digit_length : (n : ℕ) → n < 10 → length (decimal n) ≡ 1
digit_length n h = ap length (digit n h)

pub digits_length : (n : ℕ) → 10 ≤ n → length (decimal n) ≡ length (decimal (n / 10)) + 1
digits_length n h = ap length (more_digits n h) ∙ length-append (decimal (n / 10)) ((48 + n % 10) ∷ [])
