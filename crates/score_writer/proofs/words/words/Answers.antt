-- After k turns the first k words are put.
use Rattle.std.proofs.Common.{◌≡◌, refl, ap, ◌∙◌, arith, length, get_or, take_all}
use Rattle.text.proofs.Laws.{append_as, room_kept}
use Rattle.score.specs.Bytes.{words_bytes}
use Rattle.score_writer.proofs.Putting.{word_length, no_words, next_word, words_place}
use Rattle.score_writer.proofs.words.words.Goals as goal

pub loop-w-init : goal.loop-w-init
loop-w-init c = (refl, no_words _)

pub word-requires : goal.word-requires
word-requires c = omega (arith, words_place c.args.words.now c.loop-w.w-index c.loop-w.auto.w-index-end c.loop-w.invariant.1)

pub loop-w-preserved : goal.loop-w-preserved
loop-w-preserved c =
    let x = c.loop-w.invariant.1 in
    let place = words_place c.args.words.now c.loop-w.w-index c.loop-w.auto.w-index-end x in
    let room : length c.word.new.page.out.now ≡ length c.loop-w.page.out.now = room_kept c.word.ensures (omega (arith, place, word_length (get_or c.args.words.now c.loop-w.w-index 0))) in
    (room ∙ c.loop-w.invariant.0, next_word c.args.words.now c.loop-w.w-index c.loop-w-test.true (omega arith) x c.word.ensures)

pub returns : goal.returns
returns c = append_as (ap words_bytes (take_all c.loop-w.w-index c.args.words.now c.loop-w-test.false)) c.loop-w.invariant.1
