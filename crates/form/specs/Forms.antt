-- The text form of a score: what the lines of a text say together, and the score file of it.
use Rattle.std.specs.Prelude.{◌≡◌, List, [], ◌∷◌, ◌++◌, ℕ, zero, suc, ◌+◌, ◌*◌, ◌≤◌, ℤ, length, take, Option, None, Some, Result, Ok, Err}
use Rattle.numbers.specs.Answers.{Answer, accepted, refused}
use Rattle.beats.specs.declared.Beat.{Beat}
use Rattle.score.specs.declared.Score.{Score}
use Rattle.score.specs.declared.music.Points.{Points}
use Rattle.score_writer.specs.Answers.{write_answer, written_into}
use Rattle.splits.specs.Splits.{lines, words, body}
use Rattle.items.specs.declared.Reason.{Reason}
use Rattle.items.specs.declared.Reason.TheVariants.{Unwritten}
use Rattle.items.specs.declared.Item.{Item}
use Rattle.items.specs.declared.Item.TheVariants as I
use Rattle.form.specs.declared.WrongLine.{WrongLine}
use Rattle.form.specs.declared.draft.Draft.{Draft}
use Rattle.form.specs.declared.fold.Read.{Read}
use Rattle.items.specs.Items.{item_of}
use Rattle.form.specs.Drafts.{empty, with_rate, with_beats, with_tempo, with_pickup, with_meter, with_point, finished}

-- ---- line by line

-- what the lines so far have said: numbers, and the points of both maps in the order written
pub record Sofar : Type 0 where
  pub draft : Draft
  pub meter : List ℕ
  pub nums : List ℤ
  pub dens : List ℕ
  pub bits : List ℕ

-- after a line: what was said with it, or why it is wrong
pub data Taken : Type 0 where
  going : Sofar → Taken
  halted : Reason → Taken

-- a line without points, by what it does to the numbers
unfoldable pub keeping : Sofar → Result Draft Reason → Taken
keeping sofar (Ok draft) = going (record { draft = draft; meter = sofar.meter; nums = sofar.nums; dens = sofar.dens; bits = sofar.bits })
keeping sofar (Err reason) = halted reason

-- a meter point: bar, numerator and denominator behind the words so far
unfoldable pub metered : Sofar → ℕ → ℕ → ℕ → Result Draft Reason → Taken
metered sofar bar num den (Ok draft) = going (record {
  draft = draft;
  meter = sofar.meter ++ (bar ∷ num ∷ den ∷ []);
  nums = sofar.nums;
  dens = sofar.dens;
  bits = sofar.bits;
})
metered sofar bar num den (Err reason) = halted reason

-- a tempo point: its beat, and the bits of the tempo from there on
unfoldable pub pointed : Sofar → Beat → ℕ → Result Draft Reason → Taken
pointed sofar beat bpm (Ok draft) = going (record {
  draft = draft;
  meter = sofar.meter;
  nums = sofar.nums ++ (beat.num ∷ []);
  dens = sofar.dens ++ (beat.den ∷ []);
  bits = sofar.bits ++ (bpm ∷ []);
})
pointed sofar beat bpm (Err reason) = halted reason

-- a line, by what it says
unfoldable pub taken_by : Sofar → Result (Option Item) Reason → Taken
taken_by sofar (Ok None) = going sofar
taken_by sofar (Ok (Some (I.Rate n))) = keeping sofar (with_rate sofar.draft n)
taken_by sofar (Ok (Some (I.Beats n))) = keeping sofar (with_beats sofar.draft n)
taken_by sofar (Ok (Some (I.Tempo bpm))) = keeping sofar (with_tempo sofar.draft bpm)
taken_by sofar (Ok (Some (I.Pickup beat))) = keeping sofar (with_pickup sofar.draft beat)
taken_by sofar (Ok (Some (I.MeterPoint bar num den))) = metered sofar bar num den (with_meter sofar.draft)
taken_by sofar (Ok (Some (I.TempoPoint beat bpm))) = pointed sofar beat bpm (with_point sofar.draft)
taken_by sofar (Err reason) = halted reason

-- one line more
unfoldable pub taken : Sofar → List ℕ → Taken
taken sofar line = taken_by sofar (item_of (words (body line)))

-- what all lines say, with their number; or the first wrong one
pub data Outcome : Type 0 where
  done : ℕ → Sofar → Outcome
  wrong : ℕ → Reason → Outcome

unfoldable pub onward : ℕ → (Sofar → Outcome) → Taken → Outcome
onward line go (going sofar) = go sofar
onward line go (halted reason) = wrong line reason

-- the lines that are left, behind so many that have been read
unfoldable pub walk : List (List ℕ) → ℕ → Sofar → Outcome
walk [] behind sofar = done behind sofar
walk (line ∷ rest) behind sofar = onward (behind + 1) (walk rest (behind + 1)) (taken sofar line)

unfoldable pub start : Sofar
start = record { draft = empty; meter = []; nums = []; dens = []; bits = [] }

unfoldable pub outcome : List ℕ → Outcome
outcome text = walk (lines text) 0 start

-- ---- the file

-- a line that is wrong, and why
abbrev pub wrong_at : {A : Type 0} → ℕ → Reason → Result A WrongLine
wrong_at line reason = Err (record { line = line; reason = reason })

-- the last line's number; a text without lines counts as one
unfoldable pub last_line : ℕ → ℕ
last_line zero = 1
last_line (suc n) = suc n

-- the writer's answer, where a refusal is told at a line
unfoldable pub written_by : ℕ → Answer ℕ → Result ℕ WrongLine
written_by line (accepted size) = Ok size
written_by line (refused number facts) = wrong_at line Unwritten

-- something missing is told at the last line
unfoldable pub file_answer : ℕ → Sofar → Result Score Reason → Result ℕ WrongLine
file_answer line sofar (Err reason) = wrong_at line reason
file_answer line sofar (Ok score) = written_by line (write_answer score sofar.meter sofar.nums sofar.dens sofar.bits)

unfoldable pub file_bytes : Sofar → Result Score Reason → List ℕ → List ℕ
file_bytes sofar (Err reason) old = old
file_bytes sofar (Ok score) old = written_into score sofar.meter sofar.nums sofar.dens sofar.bits old

-- what a call does that writes the file of a score: its answer, a refusal told at a line, and the bytes that were `old` afterwards
abbrev pub WrittenAt : ℕ → Score → Points → List ℕ → Result ℕ WrongLine → List ℕ → Type 0
WrittenAt line score points old answer new =
    (answer ≡ written_by line (write_answer score points.meter points.nums points.dens points.bpms))
    × (new ≡ written_into score points.meter points.nums points.dens points.bpms old)

-- and one that writes the file of what was said, where nothing is missing
abbrev pub Finished : ℕ → Sofar → Result Score Reason → List ℕ → Result ℕ WrongLine → List ℕ → Type 0
Finished line sofar finish old answer new = (answer ≡ file_answer line sofar finish) × (new ≡ file_bytes sofar finish old)

unfoldable pub end_answer : Outcome → Result ℕ WrongLine
end_answer (done behind sofar) = file_answer (last_line behind) sofar (finished sofar.draft)
end_answer (wrong line reason) = wrong_at line reason

unfoldable pub end_bytes : Outcome → List ℕ → List ℕ
end_bytes (done behind sofar) old = file_bytes sofar (finished sofar.draft) old
end_bytes (wrong line reason) old = old

-- the answer to a text: how many bytes its file has, or the first wrong line and why
unfoldable pub form_answer : List ℕ → Result ℕ WrongLine
form_answer text = end_answer (outcome text)

-- the output, afterwards; where the text is wrong, as it was
unfoldable pub form_bytes : List ℕ → List ℕ → List ℕ
form_bytes text old = end_bytes (outcome text) old

-- a file, where there is one, has no more bytes than the output
abbrev pub FileFits : Result ℕ WrongLine → List ℕ → Type 0
FileFits answer out = (size : ℕ) → answer ≡ Ok size → size ≤ length out

-- ---- in lent lists

-- a list afterwards: the first elements, as many as the number says, are those before, and new ones are behind them
abbrev pub Behind : {A : Type 0} → ℕ → List A → List A → List A → Type 0
Behind n new old out = take (n + length new) out ≡ take n old ++ new

-- the same of a meter point, behind so many
pub record MeterBehind (count bar num den : ℕ) (old new : Points) : Type 0 where
  pub words_are : Behind (3 * count) (bar ∷ num ∷ den ∷ []) old.meter new.meter
  pub nums_are : new.nums ≡ old.nums
  pub dens_are : new.dens ≡ old.dens
  pub bpms_are : new.bpms ≡ old.bpms

-- and of a tempo point
pub record TempoBehind (count : ℕ) (beat : Beat) (bpm : ℕ) (old new : Points) : Type 0 where
  pub meter_is : new.meter ≡ old.meter
  pub num_behind : Behind count (beat.num ∷ []) old.nums new.nums
  pub den_behind : Behind count (beat.den ∷ []) old.dens new.dens
  pub bpm_behind : Behind count (bpm ∷ []) old.bpms new.bpms

-- what was said, where the points stand at the front of longer lists
unfoldable pub front : Draft → Points → Sofar
front draft points = record {
  draft = draft;
  meter = take (3 * draft.meters) points.meter;
  nums = take draft.tempos points.nums;
  dens = take draft.tempos points.dens;
  bits = take draft.tempos points.bpms;
}

unfoldable pub read_step : Result Draft Reason → Points → Taken
read_step (Ok draft) points = going (front draft points)
read_step (Err reason) points = halted reason

unfoldable pub read_walk : Result Read WrongLine → Points → Outcome
read_walk (Ok read) points = done read.lines (front read.draft points)
read_walk (Err told) points = wrong told.line told.reason
