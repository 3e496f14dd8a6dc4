-- The loop over the lines: the entries before k are lines, those from k on are still marks, and what is carried holds: the segment, and the walks.
use Rattle.std.proofs.Common.{◌≡◌, refl, ap, ◌∙◌, List, ℕ, ◌+◌, ◌≤◌, ◌<◌, ne_of_lt, arith, below_none, below_more, ℤ, length, get_or, set, replicate, length-set, get_or-set_same, get_or-set_other, Float}
use Rattle.numbers.specs.Lists.{entries}
use Rattle.numbers.proofs.Laws.{are_entries}
use Rattle.beats.specs.declared.Beat.{Beat}
use Rattle.meter.specs.Meters.{points_of}
use Rattle.tempo.specs.Tempos.{tempo_points}
use Rattle.transport.specs.declared.Transport.{Transport}
use Rattle.timeline.specs.Places.{float_of, frame_at_beat, frame_at_bar}
use Rattle.filler.specs.declared.segments.Segment.{Segment}
use Rattle.filler.specs.declared.stands.Stand.{Stand}
use Rattle.filler.specs.Fills.{bar_lines}
use Rattle.filler.specs.Numbers.{mark_of, Marked}
use Rattle.filler.specs.Carried.{start_in, Before, Has, Serves, ServesAll, Stopped}
use Rattle.filler.proofs.Serving.{AllServe, one_serves, placed_serve}

-- ---- the loop

module _ (t : Transport) (words : List ℕ) (nums : List ℤ) (dens tempos : List ℕ) where
  abbrev line : ℕ → ℕ
  line = frame_at_bar t (points_of words) (tempo_points nums dens tempos)

  pub record Filled (n : ℕ) (out : List ℕ) (seg : Segment) (ahead : Stand) (behind : List Stand) (k : ℕ) : Type 0 where
    pub long : length out ≡ n
    pub below : (j : ℕ) → j < k → get_or out j 0 ≡ line j
    pub marks : (j : ℕ) → k ≤ j → j < n → get_or out j 0 ≡ mark_of (points_of words) j
    pub segment : Before (points_of words) t.beats_per_bar t.pickup k seg
    pub first : Serves nums dens tempos ahead.beat ahead
    pub places : length behind ≡ 4
    pub others : AllServe nums dens tempos behind

  pub filled_none : (n : ℕ) (out : List ℕ) (seg : Segment) (stand : Stand) → Marked (points_of words) n out
      → Before (points_of words) t.beats_per_bar t.pickup 0 seg → ServesAll nums dens tempos stand → Filled (length out) out seg stand (replicate 4 stand) 0
  filled_none n out seg stand m b s =
      record {
        long = refl;
        below = below_none (λ (j : ℕ). get_or out j 0 ≡ line j);
        marks = λ j h l. m.marks j (omega (arith, m.long));
        segment = b;
        first = s stand.beat;
        places = refl;
        others = (s stand.beat, (s stand.beat, (s stand.beat, (s stand.beat, tt))));
      }

module _ {t : Transport} {words : List ℕ} {nums : List ℤ} {dens tempos : List ℕ} {n : ℕ} {out : List ℕ} {seg : Segment} {ahead : Stand} {behind : List Stand} {k : ℕ}
    (f : Filled t words nums dens tempos n out seg ahead behind k) where
  pub filled_all : length out ≤ k → out ≡ bar_lines t (points_of words) (tempo_points nums dens tempos) n
  filled_all h = let at = line t words nums dens tempos in are_entries at 0 out (λ j l. f.below j (omega arith)) ∙ ap (entries at 0) f.long

  pub place_serves : (place : ℕ) (none : Stand) → place < 4 → Serves nums dens tempos (get_or behind place none).beat (get_or behind place none)
  place_serves place none h = one_serves nums dens tempos behind place none (omega (arith, f.places)) f.others

  module _ (inside : k < length out) where
    pub mark_here : get_or out k 0 ≡ mark_of (points_of words) k
    mark_here = f.marks k (omega arith) (omega (arith, f.long))

    -- what the calls of one turn ensure
    module _ {seg' : Segment} {start : Beat} {beat : Float} {stand : Stand} {v : ℕ}
        (has : Has (points_of words) t.beats_per_bar t.pickup k seg') (e : start ≡ start_in seg' k) (g : beat ≡ float_of start)
        (own : stand.beat ≡ beat) (stopped : Stopped nums dens tempos stand) (is : v ≡ frame_at_beat t (tempo_points nums dens tempos) stand.beat) where
      value : v ≡ line t words nums dens tempos k
      unfolding frame_at_bar
      value = is ∙ ap (frame_at_beat t (tempo_points nums dens tempos)) (own ∙ g ∙ ap float_of (e ∙ has.start))

      filled : {first : Stand} {others : List Stand} → Serves nums dens tempos first.beat first → length others ≡ 4 → AllServe nums dens tempos others
          → Filled t words nums dens tempos n (set out k v) seg' first others (k + 1)
      filled s p u =
          record {
            long = length-set out k v ∙ f.long;
            below = below_more (λ (j : ℕ). get_or (set out k v) j 0 ≡ line t words nums dens tempos j) k (λ j l. get_or-set_other out k j v 0 (ne_of_lt l) ∙ f.below j l)
                (get_or-set_same out k v 0 inside ∙ value);
            marks = λ j h l. get_or-set_other out k j v 0 (λ d. omega arith) ∙ f.marks j (omega arith) l;
            segment = has.next;
            first = s;
            places = p;
            others = u;
          }

      -- the walk that was taken takes the place of the one ahead
      pub filled_ahead : Filled t words nums dens tempos n (set out k v) seg' stand behind (k + 1)
      filled_ahead = filled stopped.serves f.places f.others

      -- or of another
      pub filled_behind : (place : ℕ) → Filled t words nums dens tempos n (set out k v) seg' ahead (set behind place stand) (k + 1)
      filled_behind place = filled f.first (length-set behind place stand ∙ f.places) (placed_serve nums dens tempos behind place stand stopped.serves f.others)
