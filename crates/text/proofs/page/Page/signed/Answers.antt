-- By the sign: a minus and the digits of the magnitude, or those alone.
use Rattle.std.proofs.Common.{refl, sym, ap, arith, length, w64}
use mir.ValLaws.{to_z-of_z}
use Rattle.text.proofs.Pages.{room_rest, append_then, append_as, room_as}
use Rattle.text.proofs.Parts.{below_zero, from_zero}
use Rattle.text.proofs.page.Page.signed.Goals as goal
use Rattle.text.proofs.page.Page.signed.Goals.{then-x-lt0, else-x-lt0}

pub byte-requires : goal.byte-requires
byte-requires c =
    let text = below_zero c.args.x _ _ (to_z-of_z w64 c.args.x c.ranges.x) c.if-x-lt0.true refl in
    omega (arith, ap length text)

pub decimal-requires : goal.decimal-requires
decimal-requires c =
    elim c.if-x-lt0.branch [
      | then-x-lt0 w ↦
          (let text = below_zero c.args.x _ _ (to_z-of_z w64 c.args.x c.ranges.x) w.if-x-lt0.true c.unsigned_abs.ensures.value in
          rw w.self-is (room_rest _ w.byte.ensures (room_as c.args.self.now text c.requires)))
      | else-x-lt0 w ↦
          (let text = from_zero c.args.x _ _ (to_z-of_z w64 c.args.x c.ranges.x) w.if-x-lt0.false c.unsigned_abs.ensures.value in
          rw w.self-is (room_as c.args.self.now text c.requires))
    ]

pub returns : goal.returns
returns c =
    elim c.if-x-lt0.branch [
      | then-x-lt0 w ↦
          (let text = below_zero c.args.x _ _ (to_z-of_z w64 c.args.x c.ranges.x) w.if-x-lt0.true c.unsigned_abs.ensures.value in
          append_as (sym text) (append_then w.byte.ensures (rw w.self-is at c.decimal.ensures) (room_as c.args.self.now text c.requires)))
      | else-x-lt0 w ↦
          append_as (sym (from_zero c.args.x _ _ (to_z-of_z w64 c.args.x c.ranges.x) w.if-x-lt0.false c.unsigned_abs.ensures.value)) (rw w.self-is at c.decimal.ensures)
    ]
