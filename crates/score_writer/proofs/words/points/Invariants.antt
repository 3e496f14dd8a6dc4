-- The points so far are put.
use Rattle.std.proofs.Common.{◌≡◌, length, take}
use Rattle.text.specs.Pages.{Appends}
use Rattle.score.specs.Bytes.{words_bytes}
use Rattle.score_writer.specs.Files.{tempo_words}
use Rattle.score_writer.proofs.words.points.Given as goal

abbrev pub invariant-loop-k : goal.invariant-loop-k
invariant-loop-k l =
    (length l.page.out.now ≡ length l.initial.page.out.now) × Appends (words_bytes (tempo_words (take l.k l.map.nums.now) (take l.k l.map.dens.now) (take l.k l.map.tempos.now))) l.initial.page l.page
