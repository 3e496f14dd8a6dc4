-- A note turned round the pattern, mirrored, snapped to a grid, scaled or gated.
use Rattle.std.specs.Prelude.{◌≡◌, ℕ, ℤ, Float}
use Rattle.notes.specs.declared.Note.{Note}
use Rattle.notes.specs.Notes.{placed}
use Rattle.rhythm.specs.Values.{rotated_step, mirrored_step, snapped_step, scaled_gain, gated_len}

abbrev pub rotated : ℤ → ℕ → Note → Note
rotated shift total n = placed (rotated_step shift total n.step) n

abbrev pub mirrored : ℕ → Note → Note
mirrored total n = placed (mirrored_step total n.len n.step) n

abbrev pub snapped : ℕ → Note → Note
snapped grid n = placed (snapped_step grid n.step) n

abbrev pub scaled : Float → Note → Note
scaled scale n = record { step = n.step; len = n.len; gain = scaled_gain scale n.gain; tag = n.tag }

abbrev pub gated : Float → Note → Note
gated factor n = record { step = n.step; len = gated_len factor n.len; gain = n.gain; tag = n.tag }

-- ---- what the copier does to each note

-- whatever is given for a note is what `how` gives
abbrev pub Gives : (Note → Note → Type 0) → (Note → Note) → Type 0
Gives given how = (n m : Note) → given n m → m ≡ how n
