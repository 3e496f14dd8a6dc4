-- The loops that write: what is still to be written, put over the output as it is now, gives what the whole gives.
use Rattle.std.proofs.Common.{◌≡◌, refl, sym, ap, ◌∙◌, List, [], ◌∷◌, ◌++◌, ℕ, zero, suc, ◌+◌, ◌-◌, ◌*◌, ◌≤◌, ◌<◌, suc-mul, arith, length, get_or, drop, length-append}
use Rattle.std.proofs.lemmas.List.Edits.{sets}
use Rattle.numbers.proofs.Laws.{sets_append}
use Rattle.cues.specs.Plans.{part_words, lap_words, Writes, WritesLaps}

-- ---- a part

module _ (part before : List ℕ) (at from place time : ℕ) where
  abbrev words : List ℕ
  words = part_words time from place part

  -- the words of the lines from i on
  abbrev left : ℕ → List ℕ
  left i = part_words time from (place + i) (drop i part)

  -- the time of a line
  abbrev time_of : ℕ → ℕ
  time_of i = time + (get_or part i 0 - from)

  pub record Wrote (out : List ℕ) (word i : ℕ) : Type 0 where
    pub within : i ≤ length part
    pub long : length out ≡ length before
    pub next : word + length (left i) ≡ at + length words
    pub same : sets out word (left i) ≡ sets before at words

-- ---- the laps

-- laps of no lines are no words
no_laps : (part : List ℕ) (lap start place time laps : ℕ) → length part ≡ 0 → lap_words lap start place part time laps ≡ []
no_laps part lap start place time zero h = refl
no_laps [] lap start place time (suc laps) h = no_laps [] lap start place (time + lap) laps h
no_laps (line ∷ rest) lap start place time (suc laps) h = absurd (omega arith)

module _ (part before : List ℕ) (at start lap place time laps : ℕ) where
  abbrev all : List ℕ
  all = lap_words lap start place part time laps

  pub none_written : length part ≡ 0 → (at ≡ at + length all) × (before ≡ sets before at all)
  none_written h = (omega (arith, ap length (no_laps part lap start place time laps h)), sym (ap (sets before at) (no_laps part lap start place time laps h)))

  -- the words of so many laps from a time on
  abbrev more : ℕ → ℕ → List ℕ
  more begins left = lap_words lap start place part begins left

  pub record Lapped (out : List ℕ) (word begins left : ℕ) : Type 0 where
    pub sum : begins + left * lap ≡ time + laps * lap
    pub long : length out ≡ length before
    pub next : word + length (more begins left) ≡ at + length all
    pub same : sets out word (more begins left) ≡ sets before at all

  pub laps_begin : Lapped before at time laps
  laps_begin = record { sum = refl; long = refl; next = refl; same = refl }

  module _ (out : List ℕ) (word begins left : ℕ) (w : Lapped out word begins left) (h : 0 < left) where
    abbrev now : List ℕ
    now = part_words begins start place part

    one_less : left ≡ suc (left - 1)
    one_less = omega arith

    split : more begins left ≡ now ++ more (begins + lap) (left - 1)
    split = ap (more begins) one_less

    product : left * lap ≡ (left - 1) * lap + lap
    product = ap (λ (n : ℕ). n * lap) one_less ∙ suc-mul (left - 1) lap

    pub lap_time : time + laps * lap ≤ 18446744073709551615 → begins + lap ≤ 18446744073709551615
    lap_time k = omega (arith, w.sum, product)

    pub lap_writes : WritesLaps part before at start lap place time laps → Writes part out word start place begins
    lap_writes k = record {
      starts = k.lines.starts;
      times = λ i l. omega (arith, k.lines.starts i l, k.lines.ends i l, lap_time k.times);
      places = k.places;
      room = omega (arith, k.room, w.next, w.long, ap length split, length-append now (more (begins + lap) (left - 1)));
    }

    pub laps_again : (word' : ℕ) (out' : List ℕ) → length out' ≡ length out → (word' ≡ word + length now) × (out' ≡ sets out word now) → Lapped out' word' (begins + lap) (left - 1)
    laps_again word' out' l e = record {
      sum = omega (arith, w.sum, product);
      long = l ∙ w.long;
      next = omega (arith, e.0, w.next, ap length split, length-append now (more (begins + lap) (left - 1)));
      same = rw (e.0, e.1) (sym (sets_append out word now (more (begins + lap) (left - 1))) ∙ sym (ap (sets out word) split) ∙ w.same);
    }

  pub laps_end : (out : List ℕ) (word begins left : ℕ) → Lapped out word begins left → left ≤ 0 → (word ≡ at + length all) × (out ≡ sets before at all)
  laps_end out word begins left w h = (omega (arith, w.next, ap length none), sym (ap (sets out word) none) ∙ w.same)
    where
      none : more begins left ≡ []
      none = ap (more begins) (let z : left ≡ 0 = omega arith in z)
