-- Notes made from numbers, every one at full gain.
use Rattle.std.specs.Prelude.{◌≡◌, ℕ, zero, suc, ◌*◌, ◌%◌, ◌<◌, min, max, true, false, List, [], ◌∷◌, nat_lt}
use Rattle.rounding.specs.Floats.{half_up, whole_above}
use Rattle.notes.specs.declared.Note.{Note}
use Rattle.rhythm.specs.Values.{most_step}

-- a note of gain 1.0, at least one step long
abbrev pub hit : ℕ → ℕ → ℕ → Note
hit len tag step = record { step = step; len = max len 1; gain = 0x3f80_0000; tag = tag }

-- ---- euclidean

-- of so many steps from i on, those with (i * pulses) mod steps < pulses
unfoldable pub hits_from : ℕ → ℕ → (ℕ → Note) → ℕ → ℕ → List Note
hits_from pulses steps note i zero = []
hits_from pulses steps note i (suc more) =
    elim (nat_lt (i * pulses % steps) pulses) [
      | true ↦ note i ∷ hits_from pulses steps note (suc i) more
      | false ↦ hits_from pulses steps note (suc i) more
    ]

-- ---- tuplet

-- note k of `count` stands at the step nearest to k * steps / count, of two that are as near at the later
abbrev pub tuplet_step : ℕ → ℕ → ℕ → ℕ
tuplet_step count steps k = min (half_up (k * steps) count) most_step

-- ---- the filler of both

-- pulse k stands at the least step that is not below k * steps / pulses (proofs/Even.antt: these are euclidean's hits)
abbrev pub pulse_step : ℕ → ℕ → ℕ → ℕ
pulse_step pulses steps k = whole_above (k * steps) pulses

-- whatever is given for one of so many notes is what `at` gives
abbrev pub Places : ℕ → (ℕ → ℕ → Type 0) → (ℕ → ℕ) → Type 0
Places count given at = (k step : ℕ) → k < count → given k step → step ≡ at k
