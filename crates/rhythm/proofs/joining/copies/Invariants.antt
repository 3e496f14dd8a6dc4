-- The copies so far are written, and those that are left stand behind them; the offset is stopped at 2^64 - 1, which moves a note as far.
use Rattle.std.proofs.Common.{◌≡◌, ◌-◌, ◌*◌, ◌^◌, min, length}
use Rattle.notes.specs.Notes.{notes_of, words_of}
use Rattle.notes.proofs.Laws.{Writing}
use Rattle.rhythm.specs.Joins.{copies_from}
use Rattle.rhythm.proofs.joining.copies.Given as goal

abbrev pub invariant-loop-i : goal.invariant-loop-i
invariant-loop-i l =
    (l.off ≡ min (l.i * l.stride) (2 ^ 64 - 1))
    × Writing l.initial.out l.out (length l.words * l.i) (words_of (copies_from l.stride (notes_of l.words) l.i (l.times - l.i))) (words_of (copies_from l.stride (notes_of l.words) 0 l.times))
