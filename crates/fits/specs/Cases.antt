-- Scores on both sides of each edge, as one table. proofs/Holds.antt has the one statement, that the call answers each as it is given here.
use Rattle.std.specs.Prelude.{Bool, true, false, List, [], ◌∷◌, ℕ, pos, negsuc, None, Option, Some}
use Rattle.beats.specs.declared.Beat.{Beat}
use Rattle.numbers.specs.Answers.{Answer, accepted, refused}
use Rattle.fits.specs.Answers.{fits_answer}

-- the words of a map, and the pickup; the default is 4
abbrev pub Case : Type 0
Case = List ℕ × Option Beat

abbrev pub case_answer : Case → Answer Bool
case_answer case = fits_answer case.0 4 case.1

-- a pickup of a natural number over another
abbrev pub of : ℕ → ℕ → Option Beat
of num den = Some (record { num = pos num; den = den })

-- each row a score, and what the call answers
unfoldable pub cases : List (Case × Answer Bool)
cases =
    -- 4/4 without a map
    (([], None), accepted true)
    -- bars of 4 * numerator beats: 2^31 of them reach 2^63
    ∷ ((0 ∷ 1073741823 ∷ 1 ∷ [], None), accepted true)
    ∷ ((0 ∷ 1073741824 ∷ 1 ∷ [], None), accepted false)
    -- document 01's fine pickup: bar 2 would have the denominator 2^34
    ∷ ((0 ∷ 5 ∷ 64 ∷ [], of 1 1073741824), accepted false)
    ∷ ((0 ∷ 5 ∷ 64 ∷ [], of 1 268435455), accepted true)
    -- of all starts that of bar 2 alone is refused: a half is added to a denominator above 2^31
    ∷ ((0 ∷ 1 ∷ 8 ∷ 3 ∷ 1 ∷ 4 ∷ [], of 1 2147483649), accepted false)
    ∷ ((0 ∷ 1 ∷ 8 ∷ 3 ∷ 1 ∷ 4 ∷ [], of 1 2147483647), accepted true)
    -- a point behind bar 2^31 changes nothing, and one at bar 1 is no segment of its own
    ∷ ((0 ∷ 4 ∷ 4 ∷ 2147483649 ∷ 4294967295 ∷ 1 ∷ [], None), accepted true)
    ∷ ((0 ∷ 4294967295 ∷ 1 ∷ 1 ∷ 4 ∷ 4 ∷ [], None), accepted true)
    -- pickups at 0 and below it, and one that is no beat
    ∷ (([], of 0 1), accepted true)
    ∷ (([], Some (record { num = negsuc 0; den = 2 })), accepted false)
    ∷ (([], of 2 4), refused 1 [])
    -- problems: a denominator over 64, a first bar that is not 0, a numerator 0
    ∷ ((0 ∷ 4 ∷ 64 ∷ [], None), accepted true)
    ∷ ((0 ∷ 4 ∷ 128 ∷ [], None), accepted false)
    ∷ ((1 ∷ 4 ∷ 4 ∷ [], None), accepted false)
    ∷ ((0 ∷ 0 ∷ 4 ∷ [], None), accepted false)
    -- words that are no points
    ∷ ((0 ∷ 4 ∷ [], of 2 4), refused 3 [])
    ∷ []
