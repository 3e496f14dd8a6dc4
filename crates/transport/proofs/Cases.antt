-- How a call goes by whether the transport is sound.
use mathlib.Core.Path.{◌≡◌, sym, ap}
use mathlib.Core.Bool.{Bool, true, false, cond}
use mathlib.Core.List.{[]}
use Prim.Native.Nat.{ℕ}
use Rattle.numbers.specs.Answers.{Answer, refused}
use Rattle.numbers.specs.declared.refusal.Refusal.TheVariants.{Unsound}
use Rattle.transport.specs.declared.Transport.{Transport}
use Rattle.transport.specs.Transports.{sound}
use Rattle.transport.specs.Changes.{Handed, handed, if_sound}
use Rattle.transport.specs.Advances.{Moves, moves_of, advanced, advance_answer}
use Rattle.transport.specs.Readings.{read_handed, refused_by}

-- a change
module _ (t : Transport) (change : Answer Transport) where
  pub unfit : sound t ≡ false → read_handed (refused_by t Unsound) ≡ if_sound t change
  unfit e = sym (ap (λ (q : Bool). handed t (cond q change (refused 12 []))) e)

  pub fit : sound t ≡ true → handed t change ≡ if_sound t change
  fit e = sym (ap (λ (q : Bool). handed t (cond q change (refused 12 []))) e)

-- an advance
module _ (t : Transport) (frames : ℕ) where
  abbrev halted : Handed Moves
  halted = record { transport = t; answer = refused 12 [] }

  pub advance_unfit : sound t ≡ false → halted ≡ advance_answer t frames
  advance_unfit e = sym (ap (λ (q : Bool). cond q (moves_of (advanced t frames)) halted) e)

  pub advance_fit : sound t ≡ true → moves_of (advanced t frames) ≡ advance_answer t frames
  advance_fit e = sym (ap (λ (q : Bool). cond q (moves_of (advanced t frames)) halted) e)
