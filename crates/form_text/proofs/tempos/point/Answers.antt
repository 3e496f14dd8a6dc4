-- The whole part, and where there are places a point and their figures.
use Rattle.std.proofs.Common.{ℕ, ◌/◌, ◌≤◌, ◌<◌, ◌^◌, length, arith, div-le_self}
use Rattle.text.specs.Texts.{decimal}
use Rattle.text.proofs.Laws.{append_behind, append_as, digits32}
use Rattle.form_text.proofs.Digits.{point_whole, point_parts, digits_length}
use Rattle.form_text.proofs.tempos.point.Goals as goal

-- the whole part's figures
short : (digits scale : ℕ) → digits < 2 ^ 32 → length (decimal (digits / scale)) ≤ 10
short digits scale h =
    let q = div-le_self digits scale in
    digits32 (digits / scale) (omega arith)

pub decimal-requires : goal.decimal-requires
decimal-requires c = omega (arith, short c.args.digits c.ten.result (omega arith))

pub byte-requires : goal.byte-requires
byte-requires c = omega (arith, short c.args.digits c.ten.result (omega arith))

pub last_digits-requires : goal.last_digits-requires
last_digits-requires c = (omega (arith, short c.args.digits c.ten.result (omega arith)), omega arith, omega arith)

pub returns-then-places-gt0 : goal.returns-then-places-gt0
returns-then-places-gt0 c =
    let put = append_behind (append_behind c.decimal.ensures c.byte.ensures (omega arith)) c.last_digits.ensures (omega arith) in
    record { puts = append_as (point_parts c.args.digits c.args.places c.ten.ensures.0 (λ z. omega arith)) put; upper_bound = omega (arith, short c.args.digits c.ten.result (omega arith), digits_length 10 c.args.places c.args.digits) }

pub returns-else-places-gt0 : goal.returns-else-places-gt0
returns-else-places-gt0 c =
    record { puts = append_as (point_whole c.args.digits c.args.places c.ten.ensures.0 (omega arith)) c.decimal.ensures; upper_bound = omega (arith, short c.args.digits c.ten.result (omega arith)) }
