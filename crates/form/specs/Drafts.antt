-- What the lines so far have said, in numbers, and how a line adds to it: rate, beats, tempo and pickup once, and points up to the file's limits.
use Rattle.std.specs.Prelude.{cond, ℕ, ◌+◌, ltb, Option, None, Some, Result, Ok, Err}
use Rattle.beats.specs.declared.Beat.{Beat}
use Rattle.score.specs.declared.Score.{Score}
use Rattle.items.specs.declared.Reason.{Reason}
use Rattle.items.specs.declared.Reason.TheVariants.{Twice, ManyMeters, ManyTempos, NoRate, NoBeats, NoTempo}
use Rattle.form.specs.declared.draft.Draft.{Draft}

-- nothing said
unfoldable pub empty : Draft
empty = record { rate = None; beats = None; tempo = None; pickup = None; meters = 0; tempos = 0 }

-- ---- said once

-- what was said before is not said again
unfoldable pub unless_said : {A : Type 0} → Option A → Draft → Result Draft Reason
unless_said None draft = Ok draft
unless_said (Some a) draft = Err Twice

module _ (draft : Draft) where
  unfoldable pub with_rate : ℕ → Result Draft Reason
  with_rate n = unless_said draft.rate (record {
    rate = Some n;
    beats = draft.beats;
    tempo = draft.tempo;
    pickup = draft.pickup;
    meters = draft.meters;
    tempos = draft.tempos;
  })

  unfoldable pub with_beats : ℕ → Result Draft Reason
  with_beats n = unless_said draft.beats (record {
    rate = draft.rate;
    beats = Some n;
    tempo = draft.tempo;
    pickup = draft.pickup;
    meters = draft.meters;
    tempos = draft.tempos;
  })

  unfoldable pub with_tempo : ℕ → Result Draft Reason
  with_tempo bits = unless_said draft.tempo (record {
    rate = draft.rate;
    beats = draft.beats;
    tempo = Some bits;
    pickup = draft.pickup;
    meters = draft.meters;
    tempos = draft.tempos;
  })

  unfoldable pub with_pickup : Beat → Result Draft Reason
  with_pickup beat = unless_said draft.pickup (record {
    rate = draft.rate;
    beats = draft.beats;
    tempo = draft.tempo;
    pickup = Some beat;
    meters = draft.meters;
    tempos = draft.tempos;
  })

  -- ---- points, at most 256 and 1,024

  unfoldable pub more_meters : Draft
  more_meters = record {
    rate = draft.rate;
    beats = draft.beats;
    tempo = draft.tempo;
    pickup = draft.pickup;
    meters = draft.meters + 1;
    tempos = draft.tempos;
  }

  unfoldable pub more_tempos : Draft
  more_tempos = record {
    rate = draft.rate;
    beats = draft.beats;
    tempo = draft.tempo;
    pickup = draft.pickup;
    meters = draft.meters;
    tempos = draft.tempos + 1;
  }

  unfoldable pub with_meter : Result Draft Reason
  with_meter = cond (ltb draft.meters 256) (Ok more_meters) (Err ManyMeters)

  unfoldable pub with_point : Result Draft Reason
  with_point = cond (ltb draft.tempos 1024) (Ok more_tempos) (Err ManyTempos)

-- ---- at the end

-- what goes on with a number, where it was said
unfoldable pub needed : Option ℕ → Reason → (ℕ → Result Score Reason) → Result Score Reason
needed None reason go = Err reason
needed (Some n) reason go = go n

-- the score, where rate, beats and tempo were said
unfoldable pub finished : Draft → Result Score Reason
finished draft = needed draft.rate NoRate (λ rate. needed draft.beats NoBeats (λ beats. needed draft.tempo NoTempo (λ bpm. Ok (record {
  rate = rate;
  beats = beats;
  bpm = bpm;
  pickup = draft.pickup;
  meters = draft.meters;
  tempos = draft.tempos;
}))))
