-- Six texts put one behind another are a line, a line has at most 64 bytes, and a line behind the lines of the bars before it is one more line.
use Rattle.std.proofs.Common.{◌≡◌, List, [], ◌∷◌, ℕ, ◌+◌, ◌^◌, ◌≤◌, ◌<◌, arith, length, length-append, w64, ℤ}
use mathlib.Core.List.{append_assoc}
use native.Mathlib.Numerals.{add-one}
use mir.Val.{SFits}
use Rattle.beats.specs.declared.Beat.{Beat}
use Rattle.meter.specs.declared.MeterPoint.{MeterPoint}
use Rattle.meter.specs.Meters.{points_of}
use Rattle.meter.specs.Starts.{start_of}
use Rattle.tempo.specs.Tempos.{TempoPoint, tempo_points}
use Rattle.transport.specs.declared.Transport.{Transport}
use Rattle.timeline.specs.Places.{frame_at_bar}
use Rattle.text.specs.declared.page.Page.{Page}
use Rattle.text.specs.Texts.{decimal, beat_text}
use Rattle.text.specs.Pages.{Appends}
use Rattle.text.proofs.Laws.{append_nothing, append_behind, append_as, digits64, digits32, beat_short}
use Rattle.sheet_text.specs.Sheets.{label, line_text, line_of, lines_of, header_text, sheet_of}

module _ (l : ℕ) (b : Beat) (f : ℕ) where
  pub line_length : length (line_text l b f) ≡ length (decimal l) + 1 + length (beat_text b) + 1 + length (decimal f) + 1
  unfolding line_text
  line_length = simp length-append (omega arith)

  -- six texts put one behind another are a line
  pub line_put : {p q r s t u v : Page} → p.place ≤ length p.out.now → Appends (decimal l) p q → Appends (32 ∷ []) q r → Appends (beat_text b) r s → Appends (32 ∷ []) s t
      → Appends (decimal f) t u → Appends (10 ∷ []) u v → Appends (line_text l b f) p v
  unfolding line_text
  line_put h x₁ x₂ x₃ x₄ x₅ x₆ = append_as (simp append_assoc) (append_behind (append_behind (append_behind (append_behind (append_behind x₁ x₂ h) x₃ h) x₄ h) x₅ h) x₆ h)

  pub line_short : l < 2 ^ 32 → SFits w64 b.num → b.den < 2 ^ 32 → f < 2 ^ 64 → length (line_text l b f) ≤ 64
  line_short hl hn hd hf =
      let x = digits32 l hl in
      let y = beat_short b hn hd in
      let z = digits64 f hf in
      omega (arith, line_length)

-- ---- the lines of several bars

module _ (t : Transport) (map : List MeterPoint) (points : List TempoPoint) where
  pub no_lines : (page : Page) → Appends (lines_of t map points 0) page page
  unfolding lines_of
  no_lines = append_nothing

  pub next_line : (k : ℕ) {p q r : Page} → p.place ≤ length p.out.now → Appends (lines_of t map points k) p q → Appends (line_of t map points k) q r → Appends (lines_of t map points (k + 1)) p r
  unfolding lines_of
  next_line k h x y = append_as (rw (add-one k)) (append_behind x y h)

  pub sheet_put : {p q r : Page} → p.place ≤ length p.out.now → Appends header_text p q → Appends (lines_of t map points 8) q r → Appends (sheet_of t map points) p r
  unfolding sheet_of
  sheet_put h x y = append_behind x y h

  -- the line of a bar, by what was worked out for it
  pub line_is : {bar l f : ℕ} {b : Beat} → l ≡ label bar → b ≡ start_of map t.beats_per_bar t.pickup bar → f ≡ frame_at_bar t map points bar
      → line_text l b f ≡ line_of t map points bar
  line_is e g h = rw (e, g, h)

-- the sheet, by equal parts
pub same_sheet : {t t′ : Transport} {words words′ : List ℕ} {nums nums′ : List ℤ} {dens dens′ bits bits′ : List ℕ} → t ≡ t′ → words ≡ words′ → nums ≡ nums′ → dens ≡ dens′ → bits ≡ bits′
    → sheet_of t (points_of words) (tempo_points nums dens bits) ≡ sheet_of t′ (points_of words′) (tempo_points nums′ dens′ bits′)
same_sheet e f g h i = cc
