-- The words so far are put.
use Rattle.std.proofs.Common.{◌≡◌, length, take}
use Rattle.text.specs.Pages.{Appends}
use Rattle.score.specs.Bytes.{words_bytes}
use Rattle.score_writer.proofs.words.words.Given as goal

abbrev pub invariant-loop-w : goal.invariant-loop-w
invariant-loop-w l = (length l.page.out.now ≡ length l.initial.page.out.now) × Appends (words_bytes (take l.w-index l.words)) l.initial.page l.page
