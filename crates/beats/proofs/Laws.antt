-- What crates above may use of beats. They go by "accepted" and by the value, and unfold neither the test for 2 nor the reduction.

-- `new` answers lowest terms and the same value; beats with one value are the same two numbers
pub use Rattle.beats.proofs.Values.{new_is_beat, new_value, own_value, own_value_left, value_same, one_beat}
-- `new` at any two numbers, and the denominator of a beat divides that of any fraction with its value
pub use Rattle.beats.proofs.Lowest.{same_value, den_divides}
-- what a beat is
pub use Rattle.beats.proofs.Refusing.{beat_above, beat_lowest}
-- the refusal by 1 comes before everything else
pub use Rattle.beats.proofs.Refusing.{not_fine, is_fine}
-- an accepted sum, difference or multiple is a beat and has the exact value
pub use Rattle.beats.proofs.Values.{accepted_is, accepted_beat, accepted_value, cross, sum_value, difference_value, multiple_value, scaled_value}
-- and stays within the limits
pub use Rattle.beats.proofs.Values.{accepted_storable}
-- refused by 2 exactly where the two numbers do not fit as they stand
pub use Rattle.beats.proofs.Values.{accepted_fits, refused_unfit}
pub use Rattle.beats.proofs.Fitted.{fit, unfit}
-- the order is total and that of the exact values; equal beats are the same two numbers
pub use Rattle.beats.proofs.Ordering.{below_is, order_same, order_exchanged, order_equal, below_trans, order_values}
-- sums and multiples keep it
pub use Rattle.beats.proofs.Ordering.{sum_order, scale_order}
-- a beat that is a natural number over d; sums of any size; the order over one denominator
pub use Rattle.beats.proofs.Fractions.{value_forward, zero_beat_lem, sum_beat, sum_is, sum_has, below_values, below_same, not_below}
-- a multiple and a sum of beats that are not below 0 are accepted within the limits
pub use Rattle.beats.proofs.Fractions.{Is, is_same, scaled, added}

-- no two cases of an answer read alike
