-- The composition of the steps.
use Rattle.std.proofs.Common.{ℤ, ap, ◌∙◌, w64}
use mir.ValLaws.{to_z-of_z}
use Rattle.beats.specs.Beats.{new_beat}
use Rattle.timeline.specs.Places.{nearest_beat}
use Rattle.timeline.proofs.places.nearest_beat.Goals as goal

pub returns : goal.returns
unfolding nearest_beat
returns c =
    c.new.ensures
    ∙ ap (λ (n : ℤ). new_beat n 1000000000) (to_z-of_z w64 c.round_to_i64.result (record { sfits = c.round_to_i64.type_inv }) ∙ c.round_to_i64.ensures)
