-- The cues of a stretch are those of the part of the lines in its range: how many there are, and their words.
use Rattle.std.proofs.Common.{◌≡◌, refl, sym, ap, ◌∙◌, true, List, [], ◌∷◌, ◌++◌, map, append_assoc, ℕ, zero, suc, ◌+◌, ◌-◌, ◌*◌, ◌≤◌, ◌<◌, zero-le, add-zero, zero-add, zero-mul, suc-mul, add_assoc, suc-add, le_of_suc-le-suc, not-suc-le-zero, arith, length, get_or, length-append}
use Rattle.numbers.proofs.Laws.{by_order}
use Rattle.lines.specs.Lines.{ascends_from, ascends, between}
use Rattle.lines.specs.Places.{Splits}
use Rattle.lines.proofs.Laws.{up_step, line_in, line_before, line_past, tail_splits, tail_none}
use Rattle.cues.specs.declared.plan.Plan.{Plan}
use Rattle.cues.specs.Sounding.{Cue, later}
use Rattle.cues.specs.CueCall.{flat}
use Rattle.cues.specs.Plans.{stretch, lap_cues, plan_cues, part_words, lap_words, Within}
use Rattle.cues.proofs.Sounding.{later_append, later_zero, length_later}
use Rattle.cues.proofs.Stretches.{stretch_below, stretch_past, stretch_in}

-- by the three cases of a line: before the range, past it, in it
by_line : {P : Type 0} (start end line : ℕ) → (line < start → P) → (start ≤ line → end ≤ line → P) → (start ≤ line → line < end → P) → P
by_line start end line low high inside = by_order line start low (λ h. by_order line end (λ k. inside h k) (λ k. high h k))

none_past : (start end low : ℕ) (lines : List ℕ) → ascends_from low lines ≡ true → end ≤ low → between start end lines ≡ []
unfolding between
none_past start end low [] up k = refl
none_past start end low (line ∷ rest) up k =
    let s = up_step low line rest up in
    let m : end ≤ line = omega (arith, s.0) in
    line_past start end line rest m ∙ none_past start end line rest s.1 m

-- ---- how many

pub length_between : (start end : ℕ) (lines : List ℕ) → length (between start end lines) ≤ length lines
unfolding between
length_between start end [] = zero-le
length_between start end (line ∷ rest) = by_line start end line
    (λ h. omega (arith, ap length (line_before start end line rest h), length_between start end rest))
    (λ h k. omega (arith, ap length (line_past start end line rest k), length_between start end rest))
    (λ h k. omega (arith, ap length (line_in start end line rest h k), length_between start end rest))

length_stretch : (from frames place : ℕ) (lines : List ℕ) → length (stretch from frames place lines) ≡ length (between from (from + frames) lines)
unfolding between
length_stretch from frames place [] = refl
length_stretch from frames place (line ∷ rest) =
    let ih : length (stretch from frames (suc place) rest) ≡ length (between from (from + frames) rest) = length_stretch from frames (suc place) rest in
    by_line from (from + frames) line
    (λ h. ap length (stretch_below from frames place line rest h) ∙ ih ∙ sym (ap length (line_before from (from + frames) line rest h)))
    (λ h k. ap length (stretch_past from frames place line rest k) ∙ ih ∙ sym (ap length (line_past from (from + frames) line rest k)))
    (λ h k. ap length (stretch_in from frames place line rest h k) ∙ ap suc ih ∙ sym (ap length (line_in from (from + frames) line rest h k)))

length_laps : (start lap last : ℕ) (lines : List ℕ) (laps : ℕ)
    → length (lap_cues start lap last lines laps) ≡ laps * length (between start (start + lap) lines) + length (between start (start + last) lines)
length_laps start lap last lines zero = length_stretch start last 0 lines ∙ omega (arith, zero-mul (length (between start (start + lap) lines)))
length_laps start lap last lines (suc laps) =
    length-append (stretch start lap 0 lines) (map (later lap) (lap_cues start lap last lines laps))
    ∙ omega (
      arith,
      length_stretch start lap 0 lines,
      length_later lap (lap_cues start lap last lines laps),
      length_laps start lap last lines laps,
      suc-mul laps (length (between start (start + lap) lines)),
    )

pub length_plan : (lines : List ℕ) (p : Plan) → length (plan_cues lines p)
    ≡ length (between p.from (p.from + p.first) lines) + (p.laps * length (between p.start (p.start + p.lap) lines) + length (between p.start (p.start + p.last) lines))
length_plan lines p =
    length-append (stretch p.from p.first 0 lines) (map (later p.first) laps)
    ∙ omega (arith, length_stretch p.from p.first 0 lines, length_later p.first laps, length_laps p.start p.lap p.last lines p.laps)
  where
    laps : List Cue
    laps = lap_cues p.start p.lap p.last lines p.laps

pub length_flat : (xs : List Cue) → length (flat xs) ≡ length xs + length xs
length_flat [] = refl
length_flat (x ∷ xs) = omega (arith, length_flat xs)

-- ---- every line of a range is in it

abbrev In : ℕ → ℕ → List ℕ → ℕ → Type 0
In start end lines i = i < length lines → (start ≤ get_or lines i 0) × (get_or lines i 0 < end)

in_cons : (start end line : ℕ) (rest : List ℕ) → start ≤ line → line < end → ((i : ℕ) → In start end rest i) → (i : ℕ) → In start end (line ∷ rest) i
in_cons start end line rest g k ih zero m = (g, k)
in_cons start end line rest g k ih (suc j) m = ih j (le_of_suc-le-suc m)

in_range : (start end : ℕ) (lines : List ℕ) (i : ℕ) → In start end (between start end lines) i
unfolding between
in_range start end [] i h = absurd (not-suc-le-zero h)
in_range start end (line ∷ rest) i h = by_line start end line
    (λ g. rw (line_before start end line rest g) (in_range start end rest i (rw (line_before start end line rest g) at h)))
    (λ g k. rw (line_past start end line rest k) (in_range start end rest i (rw (line_past start end line rest k) at h)))
    (λ g k. rw (line_in start end line rest g k) (in_cons start end line (between start end rest) g k (in_range start end rest) i (rw (line_in start end line rest g k) at h)))

pub within : (from frames : ℕ) (lines : List ℕ) → Within from frames (between from (from + frames) lines)
within from frames lines = record { starts = λ i h. (in_range from (from + frames) lines i h).0; ends = λ i h. (in_range from (from + frames) lines i h).1 }

-- ---- the words of a stretch are those of the part, from its first place on

abbrev Worded : ℕ → ℕ → ℕ → ℕ → ℕ → List ℕ → Type 0
Worded time from frames place a lines = flat (map (later time) (stretch from frames place lines)) ≡ part_words time from (place + a) (between from (from + frames) lines)

part_words_lem : (time from frames place a low : ℕ) (lines : List ℕ) → ascends_from low lines ≡ true → Splits from lines a → Worded time from frames place a lines
unfolding between
part_words_lem time from frames place a low [] up s = refl
part_words_lem time from frames place zero low (line ∷ rest) up s = by_order line (from + frames)
    (λ g.
    ap (λ (c : List Cue). flat (map (later time) c)) (stretch_in from frames place line rest begins g)
    ∙ ap (λ (w : List ℕ). (time + (line - from)) ∷ place ∷ w) (part_words_lem time from frames (suc place) zero line rest u.1 (tail_none from line rest s))
    ∙ ap (λ (n : ℕ). (time + (line - from)) ∷ place ∷ part_words time from n (between from (from + frames) rest)) (suc-add place zero)
    ∙ ap (λ (n : ℕ). (time + (line - from)) ∷ n ∷ part_words time from (suc (place + zero)) (between from (from + frames) rest)) (sym (add-zero place))
    ∙ sym (ap (part_words time from (place + zero)) (line_in from (from + frames) line rest begins g)))
    (λ g.
    ap (λ (c : List Cue). flat (map (later time) c)) (stretch_past from frames place line rest g)
    ∙ part_words_lem time from frames (suc place) zero line rest u.1 (tail_none from line rest s)
    ∙ ap (part_words time from (suc place + zero)) (none_past from (from + frames) line rest u.1 g)
    ∙ sym (ap (part_words time from (place + zero)) (line_past from (from + frames) line rest g ∙ none_past from (from + frames) line rest u.1 g)))
  where
    u : (low ≤ line) × (ascends_from line rest ≡ true)
    u = up_step low line rest up

    begins : from ≤ line
    begins = s.from zero zero-le (omega arith)
part_words_lem time from frames place (suc a) low (line ∷ rest) up s =
    ap (λ (c : List Cue). flat (map (later time) c)) (stretch_below from frames place line rest before)
    ∙ part_words_lem time from frames (suc place) a line rest (up_step low line rest up).1 (tail_splits from line rest a s)
    ∙ ap (λ (n : ℕ). part_words time from n (between from (from + frames) rest)) (let e : suc place + a ≡ place + suc a = omega arith in e)
    ∙ sym (ap (part_words time from (place + suc a)) (line_before from (from + frames) line rest before))
  where
    before : line < from
    before = s.below zero (omega arith)

-- ---- the words of a plan

flat_append : (xs ys : List Cue) → flat (xs ++ ys) ≡ flat xs ++ flat ys
flat_append [] ys = refl
flat_append (x ∷ xs) ys = ap (λ (l : List ℕ). x.0 ∷ x.1 ∷ l) (flat_append xs ys)

later_later : (a b : ℕ) (xs : List Cue) → map (later a) (map (later b) xs) ≡ map (later (a + b)) xs
later_later a b [] = refl
later_later a b (x ∷ xs) = ap (λ (n : ℕ). (n, x.1) ∷ map (later a) (map (later b) xs)) (sym (add_assoc a b x.0)) ∙ ap (λ (l : List Cue). later (a + b) x ∷ l) (later_later a b xs)

module _ (lines : List ℕ) (up : ascends lines ≡ true) where
  one_part : (time from frames place : ℕ) → Splits from lines place → flat (map (later time) (stretch from frames 0 lines)) ≡ part_words time from place (between from (from + frames) lines)
  one_part time from frames place s = part_words_lem time from frames 0 place 0 lines up s ∙ ap (λ (n : ℕ). part_words time from n (between from (from + frames) lines)) (zero-add place)

  module _ (start lap last place : ℕ) (s : Splits start lines place) where
    abbrev lap_part : List ℕ
    lap_part = between start (start + lap) lines

    abbrev last_part : List ℕ
    last_part = between start (start + last) lines

    laps_words_lem : (laps time : ℕ) → flat (map (later time) (lap_cues start lap last lines laps)) ≡ lap_words lap start place lap_part time laps ++ part_words (time + laps * lap) start place last_part
    laps_words_lem zero time = one_part time start last place s ∙ ap (λ (n : ℕ). part_words n start place last_part) (let e : time ≡ time + zero * lap = omega (arith, zero-mul lap) in e)
    laps_words_lem (suc laps) time =
        ap flat (later_append time (stretch start lap 0 lines) (map (later lap) more))
        ∙ flat_append (map (later time) (stretch start lap 0 lines)) (map (later time) (map (later lap) more))
        ∙ ap (λ (w : List ℕ). w ++ flat (map (later time) (map (later lap) more))) (one_part time start lap place s)
        ∙ ap (λ (c : List Cue). now ++ flat c) (later_later time lap more)
        ∙ ap (λ (w : List ℕ). now ++ w) (laps_words_lem laps (time + lap))
        ∙ ap (λ (n : ℕ). now ++ (then ++ part_words n start place last_part)) (let e : time + lap + laps * lap ≡ time + suc laps * lap = omega (arith, suc-mul laps lap) in e)
        ∙ sym (append_assoc now then (part_words (time + suc laps * lap) start place last_part))
      where
        more : List Cue
        more = lap_cues start lap last lines laps

        now : List ℕ
        now = part_words time start place lap_part

        then : List ℕ
        then = lap_words lap start place lap_part (time + lap) laps

  pub plan_words : (p : Plan) (place again : ℕ) → Splits p.from lines place → Splits p.start lines again → flat (plan_cues lines p)
      ≡ part_words 0 p.from place (between p.from (p.from + p.first) lines)
      ++ (lap_words p.lap p.start again (between p.start (p.start + p.lap) lines) p.first p.laps
      ++ part_words (p.first + p.laps * p.lap) p.start again (between p.start (p.start + p.last) lines))
  plan_words p place again f g =
      flat_append first (map (later p.first) laps)
      ∙ ap (λ (w : List ℕ). w ++ flat (map (later p.first) laps)) (sym (ap flat (later_zero first)) ∙ one_part 0 p.from p.first place f)
      ∙ ap (λ (w : List ℕ). part_words 0 p.from place (between p.from (p.from + p.first) lines) ++ w) (laps_words_lem p.start p.lap p.last again g p.laps p.first)
    where
      first : List Cue
      first = stretch p.from p.first 0 lines

      laps : List Cue
      laps = lap_cues p.start p.lap p.last lines p.laps
