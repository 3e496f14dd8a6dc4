-- Records that are noted one behind another: what is ready for two runs is ready for the second behind the first, and both are added.
use Rattle.std.proofs.Common.{◌≡◌, List, [], ◌++◌, sym, subst, ◌∙◌, refl}
use Rattle.problems.specs.declared.records.Records.{Records}
use Rattle.problems.specs.Problems.{Problem}
use Rattle.problems.specs.Passes.{Ready, Passed}
use Rattle.problems.specs.Records.{IsReady, Same, Adds}
use Rattle.problems.proofs.Passing.{ready_then, passed_then, Passing, begin, ready_next, on, done}

module _ {r s : Records} (xs ys : List Problem) where
  pub ready_more : IsReady r (xs ++ ys) → Adds r xs s → IsReady s ys
  ready_more ready a = subst (λ w. Ready w s.out.now s.count ys) (sym a.same.writing) (ready_then xs ys ready a.passed)

  pub adds_more : {t : Records} → Adds r xs s → Adds s ys t → Adds r (xs ++ ys) t
  adds_more {t} a b = record {
    passed = passed_then xs ys a.passed (subst (λ w. Passed w s.out.now s.count ys t.out.now t.count) a.same.writing b.passed);
    same = record { lent = b.same.lent ∙ a.same.lent; writing = b.same.writing ∙ a.same.writing };
  }

pub same_own : (r : Records) → Same r r
same_own r = record { lent = refl; writing = refl }

-- ---- a pass from its first records on: those that it stands at, and what is left of the whole

pub record UnderWay (first now : Records) (left whole : List Problem) : Type 0 where
  pub same : Same first now
  pub passing : Passing first.writing first.out.now now.out.now now.count left whole

pub under_way : (first : Records) {left whole : List Problem} → first.count ≡ 0 → left ≡ whole → UnderWay first first left whole
under_way first none e = record { same = same_own first; passing = rw none (begin e) }

module _ {first now : Records} {left whole : List Problem} (problems rest : List Problem) (split : left ≡ problems ++ rest) (u : UnderWay first now left whole) where
  -- the next records may be noted
  pub next_ready : Ready first.writing first.out.now 0 whole → IsReady now problems
  next_ready ready = subst (λ w. Ready w now.out.now now.count problems) (sym u.same.writing) (ready_next problems rest split u.passing ready)

  -- and then the others are left
  pub next_on : {next : Records} → Adds now problems next → UnderWay first next rest whole
  next_on {next} a = record {
    same = record { lent = a.same.lent ∙ u.same.lent; writing = a.same.writing ∙ u.same.writing };
    passing = on problems rest split u.passing (subst (λ w. Passed w now.out.now now.count problems next.out.now next.count) u.same.writing a.passed);
  }

-- where nothing is left, all is passed
pub all_passed : {first now : Records} {left whole : List Problem} → left ≡ [] → UnderWay first now left whole → Passed first.writing first.out.now 0 whole now.out.now now.count
all_passed {first} {now} {left} {whole} e u = done (subst (λ l. Passing first.writing first.out.now now.out.now now.count l whole) e u.passing)
