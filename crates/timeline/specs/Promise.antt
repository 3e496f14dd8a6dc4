-- What is promised of the calls that change a transport beyond each call's own answer; proofs/Sound.antt proves it.
use Rattle.std.specs.Prelude.{◌≡◌, ℕ, true, List, ℤ, Float}
use Rattle.transport.specs.declared.Transport.{Transport}
use Rattle.transport.specs.Transports.{sound}
use Rattle.timeline.specs.Answers.{seek_beat_answer, seek_bar_answer, loop_bars_answer}

pub record StaysSound (t : Transport) (words : List ℕ) (nums : List ℤ) (dens tempos : List ℕ) : Type 0 where
  pub sought_beat : (beat : Float) → sound (seek_beat_answer t beat nums dens tempos).transport ≡ true
  pub sought_bar : (bar : ℕ) → sound (seek_bar_answer t bar words nums dens tempos).transport ≡ true
  pub looped_bars : (start end : ℕ) → sound (loop_bars_answer t start end words nums dens tempos).transport ≡ true

-- a sound transport stays sound, whatever maps are lent
abbrev pub Promised : Type 0
Promised = (t : Transport) (words : List ℕ) (nums : List ℤ) (dens tempos : List ℕ) → sound t ≡ true → StaysSound t words nums dens tempos
