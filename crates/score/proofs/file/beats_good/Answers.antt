-- The points that are left are good exactly where all are, since those behind are.
use Rattle.std.proofs.Common.{rules, arith, ◌≡◌, sym, ap, ◌∙◌, ◌&&◌, ◌≤◌, true, false, List, ℕ, ◌-◌, length, take, drop}
use Rattle.beats.specs.Beats.{is_beat}
use Rattle.score.specs.Format.{beat_at}
use Rattle.score.proofs.Chunks.{all_good, good_from, good_part, good_end}
use Rattle.score.proofs.Whole.{laid}
use Rattle.score.proofs.file.beats_good.Goals as goal

pub slice_bounds-chunks_exact-count : goal.slice_bounds-chunks_exact-count
slice_bounds-chunks_exact-count c = let l = laid _ c.requires.1 in omega (arith, l, c.word_at-place.ensures)

pub slice_bounds-chunks_exact-start : goal.slice_bounds-chunks_exact-start
slice_bounds-chunks_exact-start c =
    let l = laid _ c.requires.1 in
    let h : c.word_at-place.result ≤ length c.args.bytes.now = omega (arith, l, c.word_at-place.ensures) in
    search (rules, h)

pub loop-point-init : goal.loop-point-init
loop-point-init c =
    let l = laid _ c.requires.1 in
    let at : ℕ → List ℕ = λ p. take (length c.args.bytes.now - p) (drop p c.args.bytes.now) in
    let e : c.into_iter-point-iterator.result.rest.now ≡ at c.word_at-place.result = search rules in
    (search rules, ap all_good e ∙ ap (λ p. all_good (at p)) c.word_at-place.ensures ∙ good_from c.args.bytes.now _ _ (omega (arith, l)))

pub returns-then-not-is_beat : goal.returns-then-not-is_beat
returns-then-not-is_beat c =
    let s = c.in-Some.ensures.steps in
    let e = good_part _ _ _ s.1.0 (s.1.1 ∙ c.loop-point.invariant.0) in
    let bad : is_beat (beat_at c.in-Some.point.now 0) ≡ false = ap is_beat (sym c.beat_of.ensures) ∙ sym c.is_beat.ensures ∙ c.if-not-is_beat.true in
    sym (e ∙ ap (λ t. t && all_good c.next.new.self.rest.now) bad) ∙ c.loop-point.invariant.1

pub loop-point-preserved : goal.loop-point-preserved
loop-point-preserved c =
    let s = c.in-Some.ensures.steps in
    let e = good_part _ _ _ s.1.0 (s.1.1 ∙ c.loop-point.invariant.0) in
    let good : is_beat (beat_at c.in-Some.point.now 0) ≡ true = ap is_beat (sym c.beat_of.ensures) ∙ sym c.is_beat.ensures ∙ c.if-not-is_beat.false in
    (s.0 ∙ c.loop-point.invariant.0, sym (e ∙ ap (λ t. t && all_good c.next.new.self.rest.now) good) ∙ c.loop-point.invariant.1)

pub returns : goal.returns
returns c = sym (good_end c.loop-point.point-iterator.rest.now (omega (arith, c.in-None.ensures, c.loop-point.invariant))) ∙ c.loop-point.invariant.1
