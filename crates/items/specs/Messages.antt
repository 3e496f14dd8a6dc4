-- What is written of a reason.
use Rattle.std.specs.Prelude.{ℕ, List, codes}
use Rattle.items.specs.declared.Reason.{Reason}
use Rattle.items.specs.declared.Reason.TheVariants.{Unknown, Words, NotNumber, NotBeat, NotLowest, NotTempo, NotMeter, Twice, ManyMeters, ManyTempos, NoRate, NoBeats, NoTempo, Unwritten}

abbrev pub reason_text : Reason → List ℕ
reason_text Unknown = codes "the first word is not known"
reason_text Words = codes "words are missing, or there are too many"
reason_text NotNumber = codes "not a number from 0 to 4294967295"
reason_text NotBeat = codes "not a beat: n or n/d"
reason_text NotLowest = codes "the beat is not in lowest terms, or its denominator is 0"
reason_text NotTempo = codes "not a tempo: a decimal whose digits are together below 16777216, at most ten behind the point, or 0x and eight hexadecimal digits"
reason_text NotMeter = codes "not a meter: n/d"
reason_text Twice = codes "said twice"
reason_text ManyMeters = codes "over 256 meter points"
reason_text ManyTempos = codes "over 1024 tempo points"
reason_text NoRate = codes "rate is missing"
reason_text NoBeats = codes "beats is missing"
reason_text NoTempo = codes "tempo is missing"
reason_text Unwritten = codes "the score cannot be written"
