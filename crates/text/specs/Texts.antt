-- Numbers and beats as text, which is a list of ASCII bytes, and what it is to write a text into lent bytes.
use Rattle.std.specs.Prelude.{◌≡◌, cond, List, [], ◌∷◌, ◌++◌, ℕ, zero, suc, ◌+◌, ◌/◌, ◌%◌, eqb, ℤ, pos, negsuc, length, take, drop}
use Rattle.beats.specs.declared.Beat.{Beat}

-- ---- texts

-- the decimal digits of n, none for 0; the first argument bounds their number. (48 is the digit 0.)
unfoldable pub digits_by : ℕ → ℕ → List ℕ
digits_by zero n = []
digits_by (suc most) zero = []
digits_by (suc most) (suc n) = digits_by most (suc n / 10) ++ ((48 + suc n % 10) ∷ [])

-- the digits of n / 10, and behind them the last digit
unfoldable pub decimal : ℕ → List ℕ
decimal n = digits_by n (n / 10) ++ ((48 + n % 10) ∷ [])

-- a minus in front of a number below 0. (negsuc n is -(n + 1).)
unfoldable pub signed_text : ℤ → List ℕ
signed_text (pos n) = decimal n
signed_text (negsuc n) = 45 ∷ decimal (suc n)

-- n where the denominator is 1, and else n/d
unfoldable pub beat_text : Beat → List ℕ
beat_text beat = signed_text beat.num ++ cond (eqb beat.den 1) [] (47 ∷ decimal beat.den)

-- ---- written

-- the bytes `out` after a text was put at a place: those before and behind it stay
abbrev pub put : ℕ → List ℕ → List ℕ → List ℕ
put place text out = take place out ++ (text ++ drop (place + length text) out)

-- what a call does that puts a text at a place and answers the next place
pub record Puts (place : ℕ) (text out : List ℕ) (next : ℕ) (after : List ℕ) : Type 0 where
  pub next_is : next ≡ place + length text
  pub after_is : after ≡ put place text out
