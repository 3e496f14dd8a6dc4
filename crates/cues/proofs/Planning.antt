-- The cues of a playing run are those of its plan.
use Rattle.std.proofs.Common.{min, subst, ◌≡◌, refl, sym, ap, ◌∙◌, true, List, ◌++◌, map, append-nil, ℕ, zero, suc, ◌+◌, ◌-◌, ◌*◌, ◌/◌, ◌%◌, ◌≤◌, ◌<◌, zero-le, add-zero, zero-add, zero-mul, suc-mul, mod-lt, div-add-mod', le_of_lt, arith, le-leb}
use Rattle.std.proofs.lemmas.Bool.{lt-leb}
use Rattle.numbers.proofs.Laws.{by_order}
use Rattle.transport.specs.declared.PlayState.{PlayState}
use Rattle.transport.specs.declared.PlayState.TheVariants.{Stopped, Playing, Paused}
use Rattle.std.specs.Prelude.{Some, None}
use Rattle.transport.specs.declared.LoopRange.{LoopRange}
use Rattle.transport.specs.declared.playhead.Stands.TheVariants.{Wrapped}
use Rattle.transport.specs.declared.playhead.Run.{Run}
use Rattle.transport.specs.declared.Transport.{Transport}
use Rattle.transport.specs.Transports.{sound, playing, moved_to}
use Rattle.transport.specs.Advances.{fold, standing, came, advanced}
use Rattle.transport.proofs.Laws.{on_sound, fold_lt, sound_loop_lem, moved_sound, plays_on}
use Rattle.lines.specs.Lines.{ascends}
use Rattle.cues.specs.Sounding.{Cue, cues, later}
use Rattle.cues.specs.Plans.{stretch, lap_cues, plan_cues, straight_plan, loop_plan, Fitting, Plays, Planned}
use Rattle.cues.proofs.Sounding.{later_zero, cues_on}
use Rattle.cues.proofs.Stretches.{no_frames, straight_off, straight_on, wraps_on, ends_off}

-- a stretch alone
pub straight_plan_lem : (from frames : ℕ) (lines : List ℕ) → stretch from frames 0 lines ≡ plan_cues lines (straight_plan from frames)
straight_plan_lem from frames lines = sym (ap (λ (c : List Cue). stretch from frames 0 lines ++ map (later frames) c) (no_frames 0 0 lines) ∙ append-nil (stretch from frames 0 lines))

-- ---- in a loop

module _ (lines : List ℕ) (up : ascends lines ≡ true) (t : Transport) (is : sound t ≡ true) (start end : ℕ) (on : t.looping ≡ Some (record { start = start; end = end })) where
  good : (start < end) × (end ≤ t.length)
  good = on_sound t.length t.looping start end on (sound_loop_lem t is)

  here : (from : ℕ) → from ≤ end → sound (moved_to t from Playing) ≡ true
  here from h = moved_sound t is from Playing (omega (arith, good.1))

  -- so many laps and a part of one, from the loop's start
  laps_are : (last : ℕ) → last ≤ end - start → (laps : ℕ) → start + (laps * (end - start) + last) ≤ 18446744073709551615
      → cues lines (moved_to t start Playing) (laps * (end - start) + last) ≡ lap_cues start (end - start) last lines laps
  laps_are last k zero h =
      ap (cues lines (moved_to t start Playing)) none
      ∙ straight_on lines (moved_to t start Playing) up (here start (omega (arith, good.0))) refl start end last on good.1 (omega (arith, good.0)) (omega (arith, none))
    where
      none : zero * (end - start) + last ≡ last
      none = ap (λ (n : ℕ). n + last) (zero-mul (end - start)) ∙ zero-add last
  laps_are last k (suc laps) h =
      ap (cues lines (moved_to t start Playing)) more
      ∙ wraps_on lines (moved_to t start Playing) up (here start (omega (arith, good.0))) refl start end (end - start) (laps * (end - start) + last) on good.1
      (omega (arith, good.0)) (omega (arith, more))
      ∙ ap (λ (c : List Cue). stretch start (end - start) 0 lines ++ map (later (end - start)) c) (laps_are last k laps (omega (arith, more)))
    where
      more : suc laps * (end - start) + last ≡ (end - start) + (laps * (end - start) + last)
      more = omega (arith, suc-mul laps (end - start))

  -- from a frame before the loop's end
  loop_is : (from frames : ℕ) → from < end → from + frames ≤ 18446744073709551615 → cues lines (moved_to t from Playing) frames ≡ plan_cues lines (loop_plan start end from frames)
  loop_is from frames i h = by_order (end - from) frames
      (λ k. simp (lt-leb frames (end - from) k) (
      ap (cues lines (moved_to t from Playing)) (cut k)
      ∙ wraps_on lines (moved_to t from Playing) up (here from (omega arith)) refl start end (end - from) (whole * (end - start) + part) on good.1 (omega arith) (omega (arith, cut k))
      ∙ ap (λ (c : List Cue). stretch from (end - from) 0 lines ++ map (later (end - from)) c)
      (laps_are part (le_of_lt (mod-lt (frames - (end - from)) (omega (arith, good.0)))) whole (omega (arith, cut k, good.0)))))
      (λ k. simp (le-leb frames (end - from) k) (
      straight_on lines (moved_to t from Playing) up (here from (omega arith)) refl start end frames on good.1 (omega arith) h ∙ straight_plan_lem from frames lines))
    where
      whole : ℕ
      whole = (frames - (end - from)) / (end - start)

      part : ℕ
      part = (frames - (end - from)) % (end - start)

      cut : end - from < frames → frames ≡ (end - from) + (whole * (end - start) + part)
      cut k = omega (arith, div-add-mod' (frames - (end - from)) (end - start))

-- ---- the numbers of a plan

straight_fits : (from frames : ℕ) → from + frames ≤ 18446744073709551615 → Fitting (straight_plan from frames)
straight_fits from frames h = record { from_fits = h; lap_fits = omega arith; last_short = zero-le; run_fits = omega arith }

loop_fits : (start end from frames : ℕ) → start < end → from < end → from + frames ≤ 18446744073709551615 → Fitting (loop_plan start end from frames)
loop_fits start end from frames h i k = by_order (end - from) frames
    (λ l. simp (lt-leb frames (end - from) l) (record {
      from_fits = omega arith;
      lap_fits = omega arith;
      last_short = le_of_lt (mod-lt (frames - (end - from)) (omega arith));
      run_fits = omega (arith, div-add-mod' (frames - (end - from)) (end - start));
    }))
    (λ l. simp (le-leb frames (end - from) l) (straight_fits from frames k))

-- ---- the plan of each case of `make`

-- a playing transport is itself, moved to where it is
stays : (t : Transport) (state : PlayState) → t.state ≡ state → playing state ≡ true → t ≡ moved_to t t.position Playing
stays t Playing e p = ap (λ (s : PlayState). moved_to t t.position s) e
stays t Stopped e p = absurd (let z : ◌≡◌ {A = ℕ} 0 1 = cc in omega arith)
stays t Paused e p = absurd (let z : ◌≡◌ {A = ℕ} 0 1 = cc in omega arith)

module _ (t : Transport) (frames : ℕ) (go : Plays t frames) where
  module _ (range : LoopRange) (on : t.looping ≡ Some range) where
    abbrev start : ℕ
    start = range.start

    abbrev end : ℕ
    end = range.end

    pub loop_good : (start < end) × (end ≤ t.length)
    loop_good = on_sound t.length t.looping start end on (sound_loop_lem t go.fit)

    pub before_end : t.position < end → Planned t frames (loop_plan start end t.position frames)
    before_end i = record {
      fits = loop_fits start end t.position frames loop_good.0 i go.reach;
      same = λ lines up.
          ap (λ (u : Transport). cues lines u frames) (stays t t.state refl go.plays) ∙ loop_is lines up t go.fit start end on t.position frames i go.reach;
    }

    pub past_end : end ≤ t.position → Planned t frames (loop_plan start end (fold start end t.position) frames)
    past_end i = record {
      fits = loop_fits start end from frames loop_good.0 low (omega (arith, go.reach, low));
      same = λ lines up.
          ap (cues lines t) (sym (zero-add frames)) ∙ cues_on lines t 0 frames go.fit (omega (arith, go.reach)) ∙ later_zero (cues lines (advanced t 0).transport frames)
          ∙ ap (λ (run : Run). cues lines run.transport frames) (plays_on t 0 go.plays (omega (arith, go.reach)) ∙ ap (came t) stood)
          ∙ loop_is lines up t go.fit start end on from frames low (omega (arith, go.reach, low));
    }
      where
        from : ℕ
        from = fold start end t.position

        low : from < end
        low = fold_lt start end t.position loop_good.0

        stood : standing t.length t.looping (t.position + 0) ≡ Wrapped from
        stood = simp (on, add-zero, le-leb end t.position i)

  -- with no loop: so many frames as there are before the length
  module _ (off : t.looping ≡ None) (k : t.position ≤ t.length) where
    all_sound : frames ≤ t.length - t.position → Planned t frames (straight_plan t.position frames)
    all_sound h = record {
      fits = straight_fits t.position frames go.reach;
      same = λ lines up. straight_off lines t up go.fit go.plays frames off (omega arith) go.reach ∙ straight_plan_lem t.position frames lines;
    }

    some_sound : t.length - t.position < frames → Planned t frames (straight_plan t.position (t.length - t.position))
    some_sound h = record {
      fits = straight_fits t.position (t.length - t.position) (omega (arith, go.reach));
      same = λ lines up.
          ap (cues lines t) cut
          ∙ ends_off lines t up go.fit go.plays (t.length - t.position) (frames - (t.length - t.position)) off (omega arith) (omega (arith, cut, go.reach))
          ∙ straight_plan_lem t.position (t.length - t.position) lines;
    }
      where
        cut : frames ≡ (t.length - t.position) + (frames - (t.length - t.position))
        cut = omega arith

    pub no_loop : Planned t frames (straight_plan t.position (min frames (t.length - t.position)))
    no_loop = by_order (t.length - t.position) frames
        (λ h. subst (λ (n : ℕ). Planned t frames (straight_plan t.position n)) (let e : t.length - t.position ≡ min frames (t.length - t.position) = omega arith in e) (some_sound h))
        (λ h. subst (λ (n : ℕ). Planned t frames (straight_plan t.position n)) (let e : frames ≡ min frames (t.length - t.position) = omega arith in e) (all_sound h))
