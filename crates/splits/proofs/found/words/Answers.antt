-- Each test at the end of the blanks says whether there is one word more.
use mathlib.Core.Path.{◌≡◌, refl}
use Rattle.std.specs.Prelude.{◌≢◌}
use mathlib.Core.List.{List, ◌∷◌}
use Prim.Native.Nat.{ℕ, ◌≤◌, ◌<◌}
use native.Mathlib.Omega.{arith}
use lib.ListN.{length, drop}
use Rattle.splits.specs.Readings.{read_found}
use Rattle.splits.specs.Splits.{blank, inked, past, part, words}
use Rattle.splits.proofs.Places.{no_word, next_word, found_none, found_one, found_two, found_more}
use Rattle.splits.proofs.found.words.Goals as goal

-- a word behind the blanks
word_there : (line : List ℕ) (from place end : ℕ) → (place ≡ past blank line from) × (from ≤ place) × (place ≤ length line) → place ≢ length line
    → (end ≡ past inked line place) × (place ≤ end) × (end ≤ length line) → words (drop from line) ≡ part line place end ∷ words (drop end line)
word_there line from place end b n w = next_word line from place end b.0 (omega (arith, b, n)) w.0

pub returns-then-first-line : goal.returns-then-first-line
unfolding read_found
returns-then-first-line c =
    found_none c.args.line.now c.args.from (no_word c.args.line.now c.args.from c.blanks-first.result c.blanks-first.ensures.0 c.if-first-line.true)

pub returns-then-second-line : goal.returns-then-second-line
unfolding read_found
returns-then-second-line c =
    let none = no_word c.args.line.now c.word-end.result c.blanks-second.result c.blanks-second.ensures.0 c.if-second-line.true in
    found_one c.args.line.now c.args.from c.blanks-first.result c.word-end.result (word_there c.args.line.now c.args.from _ _ c.blanks-first.ensures c.if-first-line.false c.word-end.ensures) none

pub returns-then-third-line : goal.returns-then-third-line
unfolding read_found
returns-then-third-line c =
    let none = no_word c.args.line.now c.word-close.result c.blanks-third.result c.blanks-third.ensures.0 c.if-third-line.true in
    found_two c.args.line.now c.args.from c.blanks-first.result c.word-end.result (word_there c.args.line.now c.args.from _ _ c.blanks-first.ensures c.if-first-line.false c.word-end.ensures)
    c.blanks-second.result c.word-close.result (word_there c.args.line.now c.word-end.result _ _ c.blanks-second.ensures c.if-second-line.false c.word-close.ensures) none

pub returns : goal.returns
unfolding read_found
returns c =
    let less : c.blanks-third.result < length c.args.line.now = omega (arith, c.blanks-third.ensures, c.if-third-line.false) in
    let more = next_word c.args.line.now c.word-close.result c.blanks-third.result (past inked c.args.line.now c.blanks-third.result) c.blanks-third.ensures.0 less refl in
    found_more c.args.line.now c.args.from c.blanks-first.result c.word-end.result (word_there c.args.line.now c.args.from _ _ c.blanks-first.ensures c.if-first-line.false c.word-end.ensures)
    c.blanks-second.result c.word-close.result (word_there c.args.line.now c.word-end.result _ _ c.blanks-second.ensures c.if-second-line.false c.word-close.ensures) more

pub word-end-requires : goal.word-end-requires
word-end-requires c = omega arith

pub blanks-second-requires : goal.blanks-second-requires
blanks-second-requires c = omega arith

pub word-close-requires : goal.word-close-requires
word-close-requires c = omega arith

pub blanks-third-requires : goal.blanks-third-requires
blanks-third-requires c = omega arith
