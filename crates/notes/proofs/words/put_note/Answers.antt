-- Four stores in a row.
use Rattle.std.proofs.Common.{arith, length-set}
use Rattle.notes.proofs.FourWords.{put_four}
use Rattle.notes.proofs.words.put_note.Goals as goal

pub bounds-out-i-2 : goal.bounds-out-i-2
bounds-out-i-2 c = simp length-set (omega arith)

pub bounds-out-i-3 : goal.bounds-out-i-3
bounds-out-i-3 c = simp length-set (omega arith)

pub bounds-out-i-4 : goal.bounds-out-i-4
bounds-out-i-4 c = simp length-set (omega arith)

pub returns : goal.returns
returns c = put_four _ _ c.requires _ _ _ _
