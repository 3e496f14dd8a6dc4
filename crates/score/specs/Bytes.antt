-- Words and numbers in a list of bytes, the lowest byte first, and words as bytes. A byte past the end counts as 0.
use Rattle.std.specs.Prelude.{◌≡◌, ◌<◌, ℕ, zero, suc, ◌+◌, ◌*◌, ◌/◌, ◌%◌, List, [], ◌∷◌, ◌++◌, ℤ, get_or}
use Rattle.numbers.specs.Bits.{signed_of}

-- ---- read

-- the 32-bit word of the four bytes from a place on
unfoldable pub word_at : List ℕ → ℕ → ℕ
word_at bytes place = get_or bytes place 0 + get_or bytes (place + 1) 0 * 256 + get_or bytes (place + 2) 0 * 65536 + get_or bytes (place + 3) 0 * 16777216

-- the number of the two words from a place on, the lower one first
unfoldable pub number_at : List ℕ → ℕ → ℤ
number_at bytes place = signed_of (word_at bytes place + word_at bytes (place + 4) * 4294967296)

-- what is read at `count` places, the first at `place` and each `step` bytes behind the one before it
module _ {A : Type 0} (read : ℕ → A) where
  unfoldable pub each : ℕ → ℕ → ℕ → List A
  each place step zero = []
  each place step (suc count) = read place ∷ each (place + step) step count

-- what may be read at each of those places is what `at` says
abbrev pub Reads : {A : Type 0} → ℕ → ℕ → ℕ → (ℕ → A → Type 0) → (ℕ → A) → Type 0
Reads {A} count place step given at = (k : ℕ) (x : A) → k < count → given (place + step * k) x → x ≡ at (place + step * k)

-- ---- written

unfoldable pub word_bytes : ℕ → List ℕ
word_bytes word = (word % 256) ∷ (word / 256 % 256) ∷ (word / 65536 % 256) ∷ (word / 16777216 % 256) ∷ []

unfoldable pub words_bytes : List ℕ → List ℕ
words_bytes [] = []
words_bytes (word ∷ words) = word_bytes word ++ words_bytes words
