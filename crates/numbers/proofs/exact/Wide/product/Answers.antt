-- By columns of 32 bits: none of the partial sums leaves 64 bits.
use native.Mathlib.Omega.{arith}
use Prim.Native.Nat.{◌*◌}
use Rattle.numbers.proofs.Words as W
use Rattle.numbers.proofs.exact.Wide.product.Goals as goal

pub overflow_mul-w0 : goal.overflow_mul-w0
overflow_mul-w0 c = omega (arith, W.b00 c.args.u c.args.v c.ranges.u.fits c.ranges.v.fits)

pub overflow_mul-t : goal.overflow_mul-t
overflow_mul-t c = omega (arith, W.b10 c.args.u c.args.v c.ranges.u.fits c.ranges.v.fits)

pub overflow_add-t : goal.overflow_add-t
overflow_add-t c = record { fits = W.t_small c.args.u c.args.v c.ranges.u.fits c.ranges.v.fits }

pub overflow_mul-w1 : goal.overflow_mul-w1
overflow_mul-w1 c = omega (arith, W.b01 c.args.u c.args.v c.ranges.u.fits c.ranges.v.fits)

pub overflow_add-w1 : goal.overflow_add-w1
overflow_add-w1 c = record { fits = W.w1_small c.args.u c.args.v c.ranges.u.fits c.ranges.v.fits }

pub overflow_mul-result : goal.overflow_mul-result
overflow_mul-result c = omega (arith, W.b11 c.args.u c.args.v c.ranges.u.fits c.ranges.v.fits)

pub overflow_add-result : goal.overflow_add-result
overflow_add-result c = record { fits = W.high_part c.args.u c.args.v c.ranges.u.fits c.ranges.v.fits }

pub overflow_add-result-2 : goal.overflow_add-result-2
overflow_add-result-2 c = record { fits = W.high_small c.args.u c.args.v c.ranges.u.fits c.ranges.v.fits }

pub returns : goal.returns
returns c =
    W.words (c.args.u * c.args.v) (W.high c.args.u c.args.v) (W.low c.args.u c.args.v) (W.low_small c.args.u c.args.v c.ranges.u.fits c.ranges.v.fits) (W.product_is c.args.u c.args.v)
