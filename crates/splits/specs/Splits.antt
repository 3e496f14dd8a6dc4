-- A text split at marks: its lines, and the words of a line. A text is a list of ASCII bytes.
use Rattle.std.specs.Prelude.{Bool, true, false, not, ◌&&◌, ◌||◌, List, [], ◌∷◌, ℕ, suc, ◌+◌, ◌-◌, eqb, take, drop}

-- ---- kinds of bytes

-- blank, tab, carriage return
abbrev pub blank : ℕ → Bool
blank byte = eqb byte 32 || (eqb byte 9 || eqb byte 13)

abbrev pub inked : ℕ → Bool
inked byte = not (blank byte)

-- all but one
abbrev pub other : ℕ → ℕ → Bool
other mark byte = not (eqb byte mark)

-- ---- runs

-- one more where the byte in front is of the kind, and else none
unfoldable pub longer : Bool → ℕ → ℕ
longer true n = suc n
longer false n = 0

-- how many bytes at the front are of a kind
unfoldable pub run : (ℕ → Bool) → List ℕ → ℕ
run kind [] = 0
run kind (byte ∷ rest) = longer (kind byte) (run kind rest)

-- the place behind the bytes of a kind that stand from a place on
unfoldable pub past : (ℕ → Bool) → List ℕ → ℕ → ℕ
past kind text from = from + run kind (drop from text)

-- the bytes from one place up to another
abbrev pub part : List ℕ → ℕ → ℕ → List ℕ
part text from end = take (end - from) (drop from text)

-- ---- parts

-- a byte in front of parts: a mark ends a part, another byte belongs to the first part
unfoldable pub in_front : Bool → ℕ → List (List ℕ) → List (List ℕ)
in_front true byte parts = [] ∷ parts
in_front false byte [] = (byte ∷ []) ∷ []
in_front false byte (first ∷ parts) = (byte ∷ first) ∷ parts

-- the parts of a text between marks; behind a mark at the very end there is none
unfoldable pub split : (ℕ → Bool) → List ℕ → List (List ℕ)
split mark [] = []
split mark (byte ∷ rest) = in_front (mark byte) byte (split mark rest)

-- without the empty ones
unfoldable pub filled : List (List ℕ) → List (List ℕ)
filled [] = []
filled ([] ∷ parts) = filled parts
filled ((byte ∷ rest) ∷ parts) = (byte ∷ rest) ∷ filled parts

-- the lines of a text, which line feeds end
unfoldable pub lines : List ℕ → List (List ℕ)
lines text = split (λ byte. eqb byte 10) text

-- the words of a line, which blanks part
unfoldable pub words : List ℕ → List (List ℕ)
words line = filled (split blank line)

-- a line up to its comment, which begins with #
unfoldable pub body : List ℕ → List ℕ
body line = take (run (other 35) line) line

-- ---- few words

-- one word, two words, or another number of words
pub data Few : Type 0 where
  single : List ℕ → Few
  double : List ℕ → List ℕ → Few
  neither : Few

unfoldable pub few : List (List ℕ) → Few
few [] = neither
few (one ∷ []) = single one
few (one ∷ two ∷ []) = double one two
few (one ∷ two ∷ more ∷ rest) = neither

-- ---- words compared

-- whether two words have the same bytes
unfoldable pub same : List ℕ → List ℕ → Bool
same [] [] = true
same [] (byte ∷ word) = false
same (byte ∷ word) [] = false
same (byte ∷ word) (key ∷ rest) = eqb byte key && same word rest
