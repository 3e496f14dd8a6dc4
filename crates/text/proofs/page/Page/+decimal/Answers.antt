-- Each call has a tenth of the number, whose text is the definition's without the last digit.
use Rattle.std.proofs.Common.{arith, sym}
use Rattle.text.proofs.Puts.{only_digit, more_digits, digits_length}
use Rattle.text.proofs.Pages.{room_rest, append_then, append_as, room_as}
use Rattle.text.proofs.page.Page.+decimal.Goals as goal
use Rattle.text.proofs.page.Page.+decimal.Goals.{then-n-ge10, else-n-ge10}

pub decimal-requires : goal.decimal-requires
decimal-requires t c = (omega arith, omega (arith, digits_length c.args.n c.if-n-ge10.true))

pub byte-requires : goal.byte-requires
byte-requires t c =
    elim c.if-n-ge10.branch [
      | then-n-ge10 w ↦ rw w.self-is (room_rest _ w.decimal.ensures (room_as c.args.self.now (more_digits c.args.n w.if-n-ge10.true) c.requires))
      | else-n-ge10 w ↦ rw w.self-is (room_as c.args.self.now (only_digit c.args.n w.if-n-ge10.false) c.requires)
    ]

pub returns : goal.returns
returns t c =
    elim c.if-n-ge10.branch [
      | then-n-ge10 w ↦
          (let more = more_digits c.args.n w.if-n-ge10.true in
          append_as (sym more) (append_then w.decimal.ensures (rw w.self-is at c.byte.ensures) (room_as c.args.self.now more c.requires)))
      | else-n-ge10 w ↦ append_as (sym (only_digit c.args.n w.if-n-ge10.false)) (rw w.self-is at c.byte.ensures)
    ]
