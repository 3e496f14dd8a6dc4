-- The records of a meter map, point by point.
use Rattle.std.proofs.Common.{◌≡◌, ℕ, ◌+◌, ◌<◌, ◌≤◌, List, [], ◌++◌, length, get_or, drop, drop-cons, drop_of_length-le, ap, add-one}
use Rattle.meter.specs.declared.MeterPoint.{MeterPoint}
use Rattle.problems.specs.Passes.{point_of, records_at, meter_from}

pub meter_next : (points : List MeterPoint) (n i low : ℕ) → i < length points
    → let point = get_or points i (point_of 0 0 0) in meter_from n i low (drop i points) ≡ records_at n i low point ++ meter_from n (i + 1) (point.bar + 1) (drop (i + 1) points)
unfolding meter_from
meter_next points n i low h =
    rw (add-one i, add-one (get_or points i (point_of 0 0 0)).bar) (ap (meter_from n i low) (drop-cons points i (point_of 0 0 0) h))

pub meter_end : (points : List MeterPoint) (n i low : ℕ) → length points ≤ i → meter_from n i low (drop i points) ≡ []
unfolding meter_from
meter_end points n i low h = ap (meter_from n i low) (drop_of_length-le points {i = i} h)
