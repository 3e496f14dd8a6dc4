-- The position in bars from its steps, and the bar of the next line.
use Rattle.std.proofs.Common.{◌≡◌, ℕ, ◌+◌, ◌*◌, ◌/◌, ◌<◌, ◌≤◌, max, Bool, List, pos, sym, ap, ◌∙◌, div-add-mod', div-one, arith}
use lib.Ieee.{Float, binary64, of_int, add}
use Rattle.rounding.specs.Floats.{clamp, float0, float1}
use Rattle.beats.specs.declared.Beat.{Beat}
use Rattle.beats.specs.Beats.{zero_beat}
use Rattle.beats.specs.Sums.{below_beat}
use Rattle.meter.specs.declared.MeterPoint.{MeterPoint}
use Rattle.meter.specs.Meters.{bar_len}
use Rattle.meter.specs.Starts.{start_of}
use Rattle.transport.specs.declared.Transport.{Transport}
use Rattle.timeline.specs.Places.{current_bar, within, bars_at, grid_bar}

-- whether a bar lasts any time, as the code finds it
pub lasts : (len zero : Beat) (answer found : Bool) → zero ≡ zero_beat → answer ≡ below_beat zero len → answer ≡ found → below_beat zero_beat len ≡ found
lasts len zero answer found z e is = ap (λ (x : Beat). below_beat x len) (sym z) ∙ sym e ∙ is

-- each step by what it is
pub record Steps (t : Transport) (map : List MeterPoint) (beat : Beat) (bar : ℕ) (start len : Beat) (part kept : Float) : Type 0 where
  pub bar_is : bar ≡ current_bar t map beat
  pub start_is : start ≡ start_of map t.beats_per_bar t.pickup bar
  pub len_is : len ≡ bar_len map t.beats_per_bar t.pickup bar
  pub part_is : part ≡ within beat start len
  pub kept_is : kept ≡ clamp part float0 float1

pub bars_are : (t : Transport) (map : List MeterPoint) (now beat : Beat) → now ≡ beat → (bar : ℕ) (start len : Beat) (part kept : Float) → Steps t map now bar start len part kept
    → add binary64 (of_int binary64 (pos bar)) kept ≡ bars_at t map beat
unfolding bars_at
bars_are t map now beat e bar start len part kept s = rw (s.kept_is, s.part_is, s.start_is, s.len_is, s.bar_is, e)

-- ---- the grid

module _ (bar every : ℕ) where
  pub grid_of_none : every ≡ 0 → bar + 1 ≡ grid_bar bar every
  grid_of_none none = rw none (omega (arith, div-one bar))

  module _ (some : 0 < every) where
    pub grid_is : (bar / every + 1) * every ≡ grid_bar bar every
    grid_is = let e : max every 1 ≡ every = omega arith in rw e

    -- it is at most a step after the bar
    pub grid_near : (bar / every + 1) * every ≤ bar + every
    grid_near = omega (arith, div-add-mod' bar every)
