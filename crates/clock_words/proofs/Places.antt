-- The words of a clock that is placed are read as the transport where it was placed: of eleven words two are new. Assumes nothing.
use mathlib.Core.Path.{◌≡◌, refl, sym, ap, subst, ◌∙◌}
use mathlib.Core.Bool.{Bool, true, false, ◌&&◌}
use mathlib.Core.List.{List, [], ◌∷◌}
use Prim.Native.Nat.{ℕ, zero, suc}
use native.Mathlib.Omega.{arith}
use lib.Dec.{leb}
use lib.ListN.{length, get_or, drop, set, length-set}
use Rattle.numbers.proofs.Laws.{both}
use Rattle.transport.specs.declared.PlayState.{PlayState}
use Rattle.transport.specs.declared.PlayState.TheVariants.{Stopped, Playing, Paused}
use Rattle.transport.specs.declared.Transport.{Transport}
use Rattle.transport.specs.Transports.{sound, moved_to}
use Rattle.transport.proofs.Laws.{sound_position}
use Rattle.transport.specs.Words.{state_word}
use Rattle.clock_words.specs.Clocks.{short, clock_words, unfit, transport_of, clock_of, placed}
use Rattle.clock_words.proofs.Words.{reads, reads_none}

-- words that are no clock are unsound
pub no_clock_unsound : (words : List ℕ) → clock_words words ≡ false → sound (clock_of words) ≡ true → ⊥
no_clock_unsound words h s = let past = sound_position unfit (rw (reads_none words h) at s) in omega arith

-- six tests pass where they passed before one of them was asked anew
anew : (a b c d e e' f : Bool) → (a && (b && (c && (d && (e && f))))) ≡ true → e' ≡ true → (a && (b && (c && (d && (e' && f))))) ≡ true
anew a b c d e e' f is h =
    let p = both a (b && (c && (d && (e && f)))) is in
    let q = both b (c && (d && (e && f))) p.1 in
    let r = both c (d && (e && f)) q.1 in
    let s = both d (e && f) r.1 in
    let t = both e f s.1 in
    rw (p.0, q.0, r.0, s.0, h, t.1)

is_state : (play : PlayState) → leb (state_word play) 2 ≡ true
is_state Stopped = refl
is_state Playing = refl
is_state Paused = refl

module _ (rate bpm beats length position state loop start end num den : ℕ) where
  -- a clock's words, one by one
  abbrev pub words_of : List ℕ
  words_of = rate ∷ bpm ∷ beats ∷ length ∷ position ∷ state ∷ loop ∷ start ∷ end ∷ num ∷ den ∷ []

  module _ (is : clock_words words_of ≡ true) (frame : ℕ) where
    -- it is a clock still
    still : (play : PlayState) → clock_words (placed words_of (moved_to (transport_of words_of) frame play)) ≡ true
    unfolding clock_words placed
    still play =
        anew (short rate) (short bpm) (short beats) (short den) (leb state 2) (leb (state_word play) 2) (leb loop 1) is (is_state play)

    there : (play : PlayState) → transport_of (placed words_of (moved_to (transport_of words_of) frame play)) ≡ moved_to (transport_of words_of) frame play
    unfolding placed
    there Stopped = refl
    there Playing = refl
    there Paused = refl

    pub reads_placed : (play : PlayState) → clock_of (placed words_of (moved_to (clock_of words_of) frame play)) ≡ moved_to (clock_of words_of) frame play
    reads_placed play = rw (reads words_of is) (reads _ (still play) ∙ there play)

-- ---- any eleven words

-- so many words, one by one
abbrev one_by_one_lem : ℕ → List ℕ → List ℕ
one_by_one_lem zero words = []
one_by_one_lem (suc n) words = get_or words 0 0 ∷ one_by_one_lem n (drop 1 words)

one_by_one : (n : ℕ) (words : List ℕ) → length words ≡ n → words ≡ one_by_one_lem n words
one_by_one zero [] h = refl
one_by_one zero (word ∷ rest) h = absurd (omega (arith, h))
one_by_one (suc n) [] h = absurd (omega (arith, h))
one_by_one (suc n) (word ∷ rest) h = ap (λ (l : List ℕ). word ∷ l) (one_by_one n rest (omega (arith, h)))

pub by_words_lem : (P : List ℕ → Type 0) → ((rate bpm beats length position state loop start end num den : ℕ) → P (words_of rate bpm beats length position state loop start end num den))
    → (words : List ℕ) → length words ≡ 11 → P words
by_words_lem P all words h = subst P (sym (one_by_one 11 words h)) (all _ _ _ _ _ _ _ _ _ _ _)

-- a clock that is placed twice stands where it was placed last
pub placed_twice : (u v : Transport) (words : List ℕ) → length words ≡ 11 → placed (placed words u) v ≡ placed words v
unfolding placed
placed_twice u v = by_words_lem (λ words. placed (placed words u) v ≡ placed words v) (λ rate bpm beats length position state loop start end num den. refl)

pub placed_long : (words : List ℕ) (t : Transport) → length (placed words t) ≡ length words
unfolding placed
placed_long words t = length-set (set words 4 t.position) 5 (state_word t.state) ∙ length-set words 4 t.position
