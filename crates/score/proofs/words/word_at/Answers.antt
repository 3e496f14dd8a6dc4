-- The four bytes are those of the definition.
use Rattle.score.proofs.Places.{word_is}
use Rattle.score.proofs.words.word_at.Goals as goal

pub returns : goal.returns
returns c =
    word_is _ _ _ _ _ _ c.wide-a.ensures.0 c.wide-b.ensures.0 c.wide-c.ensures.0 c.wide-d.ensures.0
