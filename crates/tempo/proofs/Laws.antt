-- What crates above may use of tempo maps: they unfold neither the points nor the walks.

-- what the test of a map found, and what is known of a map that passes it
pub use Rattle.tempo.proofs.Testing.{finding, walkable}
-- the points: none without numerators, and one at a time
pub use Rattle.tempo.proofs.Walking.{no_points, points_step}
-- a walk over the points from index i on: how it begins, where it ends or stops, and how it goes on
pub use Rattle.tempo.proofs.Walking.{points_from, begins, ends, stops, goes}
-- lists are a map in one way, or in none
pub use Rattle.tempo.proofs.Readings.{Made, lists_of, one_map}
-- seconds never fall as the beat rises; of the tempos only an infinity is excluded
pub use Rattle.tempo.proofs.Rising.{seconds_up, seconds_at_up, seconds_rise, finite_tempo}
