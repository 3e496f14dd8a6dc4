-- A score file that is read and written again is the same: its words, in order, are the header's, the meter points' and the tempo points'.
use mathlib.Core.Path.{◌≡◌, sym, ap, ◌∙◌}
use mathlib.Core.Bool.{true}
use mathlib.Core.List.{List, ◌++◌}
use Prim.Native.Nat.{ℕ, ◌+◌, ◌*◌}
use native.Mathlib.Omega.{arith}
use borrow.Author.Tests.{eqb-true}
use lib.Dec.{leb, eqb}
use lib.ListN.{length}
use lib.Seq.{take_all}
use Rattle.numbers.proofs.Laws.{both}
use Rattle.score.specs.Bytes.{word_at, each, words_bytes}
use Rattle.score.specs.Format.{is_score, laid_out, pickup_good, score_of, meter_words, tempo_nums, tempo_dens, tempo_bits}
use Rattle.score_writer.specs.Files.{header_words, tempo_words, file_of}
use Rattle.score_writer.specs.Promise.{AllBelow, WritesAgain}
use Rattle.score_writer.proofs.Places.{each_split, bytes_again, tempo_again}
use Rattle.score_writer.proofs.Headers.{HeaderSaid, header_said, header_again}

-- the length is the total
whole : (b : List ℕ) → laid_out b ≡ true → length b ≡ word_at b 44
unfolding laid_out
whole b laid =
    let m = word_at b 28 in
    let e = both (eqb (word_at b 0) 1) _ laid in
    let f = both (leb m 256) _ e.1 in
    let o = both (eqb (word_at b 32) 48) _ f.1 in
    let s = both (leb (word_at b 36) 1024) _ o.1 in
    let p = both (eqb (word_at b 40) (48 + 12 * m)) _ s.1 in
    let n = both (eqb (word_at b 44) (48 + 12 * m + 16 * word_at b 36)) _ p.1 in
    eqb-true (length b) (word_at b 44) n.1

total : (b : List ℕ) → HeaderSaid b (score_of b) → word_at b 44 ≡ 48 + 12 * word_at b 28 + 16 * word_at b 36
unfolding score_of
total b said = said.total

module _ (b : List ℕ) (all : AllBelow 256 b) (said : HeaderSaid b (score_of b)) where
  -- the words of the three parts are all the words
  words_again : header_words (score_of b) ++ (meter_words b ++ tempo_words (tempo_nums b) (tempo_dens b) (tempo_bits b))
      ≡ each (word_at b) 0 4 (12 + (3 * word_at b 28 + 4 * word_at b 36))
  unfolding score_of meter_words tempo_nums tempo_dens tempo_bits
  words_again =
      let m = word_at b 28 in
      let t = word_at b 36 in
      let read = word_at b in
      let place : word_at b 40 ≡ 48 + 4 * (3 * m) = said.tempo_at_lem ∙ omega arith in
      let points = tempo_again b all (word_at b 40) t ∙ ap (λ (p : ℕ). each read p 4 (4 * t)) place in
      ap (λ (l : List ℕ). l ++ (meter_words b ++ tempo_words (tempo_nums b) (tempo_dens b) (tempo_bits b))) (header_again b (score_of b) said)
      ∙ ap (λ (l : List ℕ). each read 0 4 12 ++ (each read 48 4 (3 * m) ++ l)) points
      ∙ ap (λ (l : List ℕ). each read 0 4 12 ++ l) (sym (each_split read 48 (3 * m) (4 * t)))
      ∙ sym (each_split read 0 12 (3 * m + 4 * t))

pub writes_again : WritesAgain
unfolding is_score file_of
writes_again b all score =
    let l = both (leb 48 (length b)) _ score in
    let p = both (laid_out b) _ l.1 in
    let g = both (pickup_good b) _ p.1 in
    let said = header_said b all p.0 g.0 in
    let n = 12 + (3 * word_at b 28 + 4 * word_at b 36) in
    let long : length b ≡ 48 + 12 * word_at b 28 + 16 * word_at b 36 = whole b p.0 ∙ total b said in
    ap words_bytes (words_again b all said)
    ∙ bytes_again b all n 0 (omega arith)
    ∙ take_all (4 * n) b (omega arith)
