-- The output has room for a file that is written.
use Rattle.std.proofs.Common.{Result, Ok, Err}
use mathlib.Core.Path.{◌≡◌, refl}
use mathlib.Core.List.{List}
use Prim.Native.Nat.{ℕ, ◌≤◌}
use native.Mathlib.Omega.{arith}
use lib.ListN.{length}
use Rattle.numbers.specs.Answers.{Answer, accepted, refused}
use Rattle.score_writer.specs.Answers.{write_answer, written_into}
use Rattle.score_writer.proofs.Laws.{written_room}
use Rattle.score.specs.declared.Score.{Score}
use Rattle.items.specs.declared.Reason.{Reason}
use Rattle.form.specs.declared.WrongLine.{WrongLine}
use Rattle.form.specs.Drafts.{finished}
use Rattle.form.specs.Forms.{Sofar, Outcome, done, wrong, outcome, last_line, written_by, file_answer, file_bytes, end_answer, end_bytes, form_answer, form_bytes, FileFits}

-- an answer whose file, if it has one, fits into the output
abbrev Short : Result ℕ WrongLine → List ℕ → Type 0
Short (Ok size) out = size ≤ length out
Short (Err told) out = 0 ≤ 0

writer : (line : ℕ) (answer : Answer ℕ) (out : List ℕ) → ((size : ℕ) → accepted size ≡ answer → size ≤ length out) → Short (written_by line answer) out
unfolding written_by
writer line (accepted size) out h = h size refl
writer line (refused number facts) out h = omega arith

file : (line : ℕ) (sofar : Sofar) (finish : Result Score Reason) (old : List ℕ) → Short (file_answer line sofar finish) (file_bytes sofar finish old)
unfolding file_answer file_bytes
file line sofar (Err reason) old = omega arith
file line sofar (Ok score) old =
    writer line (write_answer score sofar.meter sofar.nums sofar.dens sofar.bits) (written_into score sofar.meter sofar.nums sofar.dens sofar.bits old)
    (λ size e. written_room score sofar.meter sofar.nums sofar.dens sofar.bits size e old)

end : (o : Outcome) (old : List ℕ) → Short (end_answer o) (end_bytes o old)
unfolding end_answer end_bytes
end (done behind sofar) old = file (last_line behind) sofar (finished sofar.draft) old
end (wrong line reason) old = omega arith

told : (answer : Result ℕ WrongLine) (out : List ℕ) → Short answer out → FileFits answer out
told (Ok n) out h size e = let z : n ≡ size = cc in omega arith
told (Err why) out h size e = cc

pub short : (text old : List ℕ) {answer : Result ℕ WrongLine} {out : List ℕ} → (answer ≡ form_answer text) × (out ≡ form_bytes text old) → FileFits answer out
unfolding form_answer form_bytes
short text old {answer} {out} e = told answer out (rw (e.0, e.1) (end (outcome text) old))
