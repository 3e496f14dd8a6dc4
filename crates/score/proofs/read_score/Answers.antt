-- Nothing is written before the test has passed; behind it the counts are those of the header, and each copy fills its list.
use Rattle.std.proofs.Common.{refl, sym, ◌∙◌, arith}
use Rattle.score.proofs.Whole.{score_laid, known, refused_is, kept, accepted_is, meter_filled, nums_filled, dens_filled, bits_filled}
use Rattle.score.proofs.read_score.Goals as goal

pub returns-then-not-is_score : goal.returns-then-not-is_score
returns-then-not-is_score c =
    let bad = sym c.is_score.ensures ∙ c.if-not-is_score.true in
    record { result_value = refused_is _ bad; leaves = record { meter_is = kept _ bad _ _; nums_is = kept _ bad _ _; dens_is = kept _ bad _ _; bits_is = kept _ bad _ _ } }

pub header-score-requires : goal.header-score-requires
header-score-requires c = let l = score_laid _ (sym c.is_score.ensures ∙ c.if-not-is_score.false) in omega (arith, l)

pub word_at-place-requires : goal.word_at-place-requires
word_at-place-requires c = let l = score_laid _ (sym c.is_score.ensures ∙ c.if-not-is_score.false) in omega (arith, l)

pub overflow_mul-meters : goal.overflow_mul-meters
overflow_mul-meters c = let k = known _ _ _ (sym c.is_score.ensures ∙ c.if-not-is_score.false) c.header-score.ensures c.word_at-place.ensures in record { fits = omega arith }

pub copy_words-requires : goal.copy_words-requires
copy_words-requires c = let k = known _ _ _ (sym c.is_score.ensures ∙ c.if-not-is_score.false) c.header-score.ensures c.word_at-place.ensures in (omega arith, omega arith, omega arith, omega arith)

pub copy_numbers-requires : goal.copy_numbers-requires
copy_numbers-requires c = let k = known _ _ _ (sym c.is_score.ensures ∙ c.if-not-is_score.false) c.header-score.ensures c.word_at-place.ensures in (omega arith, omega arith)

pub copy_words-requires-2 : goal.copy_words-requires-2
copy_words-requires-2 c = let k = known _ _ _ (sym c.is_score.ensures ∙ c.if-not-is_score.false) c.header-score.ensures c.word_at-place.ensures in (omega arith, omega arith, omega arith, omega arith)

pub copy_words-requires-3 : goal.copy_words-requires-3
copy_words-requires-3 c = let k = known _ _ _ (sym c.is_score.ensures ∙ c.if-not-is_score.false) c.header-score.ensures c.word_at-place.ensures in (omega arith, omega arith, omega arith, omega arith)

pub returns : goal.returns
returns c =
    let is = sym c.is_score.ensures ∙ c.if-not-is_score.false in
    let k = known _ _ _ (sym c.is_score.ensures ∙ c.if-not-is_score.false) c.header-score.ensures c.word_at-place.ensures in record {
      result_value = accepted_is _ is _ c.header-score.ensures;
      leaves = record {
        meter_is = meter_filled _ is _ k.m_is refl c.copy_words.ensures;
        nums_is = nums_filled _ is k.at_is k.t_is _ c.copy_numbers.ensures;
        dens_is = dens_filled _ is k.at_is k.t_is _ c.copy_words-2.ensures;
        bits_is = bits_filled _ is k.at_is k.t_is _ c.copy_words-3.ensures;
      };
    }
