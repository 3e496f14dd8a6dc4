-- No word says nothing; else the first word is the key, and the words are those behind it.
use Rattle.std.proofs.Common.{◌<◌, length, sym, ap, ◌∙◌, arith}
use Rattle.std.proofs.lemmas.Result.{err_from_is_err_and}
use Rattle.splits.proofs.Laws.{no_word, next_word}
use Rattle.items.specs.Items.{key_item, held, item_of}
use Rattle.items.proofs.keys.of_body.Goals as goal

pub returns-then-first-line : goal.returns-then-first-line
unfolding item_of
returns-then-first-line c = sym (ap item_of (no_word c.args.line.now 0 c.blanks-first.result c.blanks-first.ensures.0 c.if-first-line.true))

pub returns-in_err-item : goal.returns-in_err-item
unfolding item_of
returns-in_err-item c =
    let p = err_from_is_err_and c.from_residual.result c.from_residual.ensures.1 in
    let less : c.blanks-first.result < length c.args.line.now = omega (arith, c.blanks-first.ensures, c.if-first-line.false) in
    rw (p.1, p.2) (ap held (sym c.in_err-item.was ∙ c.keyed.ensures ∙ ap (key_item _) c.words.ensures)
    ∙ sym (ap item_of (next_word c.args.line.now 0 c.blanks-first.result c.word-end.result c.blanks-first.ensures.0 less c.word-end.ensures.0)))

pub returns : goal.returns
unfolding item_of
returns c =
    let less : c.blanks-first.result < length c.args.line.now = omega (arith, c.blanks-first.ensures, c.if-first-line.false) in
    ap held (sym c.in_ok-item.was ∙ c.keyed.ensures ∙ ap (key_item _) c.words.ensures)
    ∙ sym (ap item_of (next_word c.args.line.now 0 c.blanks-first.result c.word-end.result c.blanks-first.ensures.0 less c.word-end.ensures.0))
