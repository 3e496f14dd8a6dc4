-- What the code asks of a tempo, with its own zero and infinity, is what the definition asks.
use mathlib.Core.Path.{◌≡◌, refl, sym, ap, ◌∙◌}
use mathlib.Core.Bool.{Bool, true, false, ◌&&◌}
use lib.Ieee.{Float, inf, lt, div, odd, binary32, of_bits, of_fields}
use Rattle.rounding.proofs.Laws.{zero_bits}
use Rattle.problems.specs.Problems.{sound_tempo}

infinity_is : div binary32 (of_bits binary32 1065353216) (of_bits binary32 0) ≡ inf false
unfolding of_bits of_fields odd div
infinity_is = refl

pub above_zero : (t : Float) → lt (of_bits binary32 0) t ≡ true → lt t (div binary32 (of_bits binary32 1065353216) (of_bits binary32 0)) ≡ sound_tempo t
above_zero t h = ap (lt t) infinity_is ∙ ap (λ (b : Bool). b && lt t (inf false)) (sym h ∙ ap (λ (zero : Float). lt zero t) zero_bits)

pub not_above_lem : (t : Float) → lt (of_bits binary32 0) t ≡ false → lt (of_bits binary32 0) t ≡ sound_tempo t
not_above_lem t h = h ∙ ap (λ (b : Bool). b && lt t (inf false)) (sym h ∙ ap (λ (zero : Float). lt zero t) zero_bits)
