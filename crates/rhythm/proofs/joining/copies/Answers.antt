-- The copies so far are written, and those that are left stand behind them; the offset is stopped at 2^64 - 1, which moves a note as far.
use Rattle.std.proofs.Common.{◌≡◌, ℕ, ◌+◌, ◌*◌, ◌<◌, ◌≤◌, List, [], ◌∷◌, ◌++◌, map, length, drop, sym, ap, ◌∙◌, zero-mul, mul-suc, add-one, arith, rules}
use Rattle.numbers.proofs.Laws.{one_more}
use Rattle.notes.specs.declared.Note.{Note}
use Rattle.notes.specs.Notes.{notes_of, words_of}
use Rattle.notes.proofs.Laws.{more_part, move, finish}
use Rattle.rhythm.specs.Joins.{later, copies_from}
use Rattle.rhythm.proofs.Repeats.{stopped_more, copies_turn, copies_none, copies_of_none, length_copy}
use Rattle.rhythm.proofs.joining.copies.Goals as goal

-- the turn's copy has room
room : (n i times held : ℕ) → i < times → n * times ≤ held → n * i + n ≤ held
room n i times held h f = omega (arith, one_more n i times h)

-- no notes, no copies
nothing : (ws out : List ℕ) (stride times : ℕ) → length ws ≡ 0 → out ≡ words_of (copies_from stride (notes_of ws) 0 times) ++ drop (length ws * times) out
unfolding notes_of words_of
nothing [] out stride times e =
    let z : drop (0 * times) out ≡ out = ap (λ (k : ℕ). drop k out) (zero-mul times) in
    sym (ap (λ (l : List Note). words_of l ++ drop (0 * times) out) (copies_of_none stride 0 times) ∙ z)
nothing (w ∷ ws) out stride times e = absurd (omega arith)

pub returns-then-n-eq0 : goal.returns-then-n-eq0
returns-then-n-eq0 c =
    nothing c.args.words.now c.args.out.now c.args.stride c.args.times c.if-n-eq0.true

pub loop-i-preserved : goal.loop-i-preserved
loop-i-preserved c =
    let m : length c.args.words.now * c.loop-i.i + length c.args.words.now ≡ length c.args.words.now * (c.loop-i.i + 1) = rw (add-one c.loop-i.i) (omega (arith, mul-suc (length c.args.words.now) c.loop-i.i)) in (
      c.saturating_add-off.ensures ∙ stopped_more c.loop-i.i c.args.stride c.loop-i.off c.loop-i.invariant.0,
      move m
          (more_part (words_of (map (later c.loop-i.off) (notes_of c.args.words.now))) (length c.args.words.now) (length_copy (later c.loop-i.off) c.args.words.now c.requires.0) (room (length c.args.words.now) c.loop-i.i c.args.times (length c.loop-i.out) c.loop-i-test.true (omega (arith, c.loop-i.invariant.1.same)))
          (copies_turn c.args.words.now c.args.stride c.loop-i.i c.args.times c.loop-i.off c.loop-i-test.true c.loop-i.invariant.0) (c.copy.ensures (later c.loop-i.off) (λ n m given. search rules)) c.loop-i.invariant.1),
    )

pub returns : goal.returns
returns c =
    let e : c.loop-i.i ≡ c.args.times = omega arith in
    finish _ _ _ _ _ (copies_none c.args.words.now c.args.stride c.loop-i.i c.args.times c.loop-i-test.false) c.loop-i.invariant.1
    ∙ ap (λ (k : ℕ). words_of (copies_from c.args.stride (notes_of c.args.words.now) 0 c.args.times) ++ drop k c.args.out.now) (ap (λ (k : ℕ). length c.args.words.now * k) e)
