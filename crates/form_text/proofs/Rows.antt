-- Texts put one behind another are a line, and lines one behind another the form.
use Rattle.std.proofs.Common.{◌≡◌, refl, sym, ap, ◌∙◌, List, [], ◌∷◌, Option, Some, None, ℕ, ◌+◌, ◌*◌, ◌≤◌, ℤ, pos, length, get_or, drop, ◌++◌, ◌<◌, length-append, length-drop, get_or-drop, drop-drop, drop_at, arith}
use Rattle.std.proofs.lemmas.List.{get_or_append_left}
use mathlib.Core.List.{append_assoc}
use native.Mathlib.Numerals.{add-one}
use Rattle.beats.specs.declared.Beat.{Beat}
use Rattle.score.specs.declared.Score.{Score}
use Rattle.text.specs.declared.page.Page.{Page}
use Rattle.text.specs.Texts.{decimal, beat_text}
use Rattle.text.specs.Pages.{Appends}
use Rattle.text.proofs.Laws.{append_nothing, append_behind, append_as}
use Rattle.form_text.specs.TempoTexts.{tempo_text}
use Rattle.form_text.specs.Forms.{rate_word, beats_word, tempo_word, pickup_word, number_line, pickup_line, meter_word, meter_line, tempo_line, head_text, meter_lines, tempo_lines, form_of}

-- ---- lines

module _ {p : Page} (h : p.place ≤ length p.out.now) where
  pub number_put : (word : List ℕ) (number : ℕ) {q r s : Page} → Appends word p q → Appends (decimal number) q r → Appends (10 ∷ []) r s → Appends (number_line word number) p s
  unfolding number_line
  number_put word number a b c = append_as (append_assoc word (decimal number) (10 ∷ [])) (append_behind (append_behind a b h) c h)

  pub pickup_put : {pickup : Option Beat} (beat : Beat) {q r s : Page} → pickup ≡ Some beat
      → Appends pickup_word p q → Appends (beat_text beat) q r → Appends (10 ∷ []) r s → Appends (pickup_line pickup) p s
  unfolding pickup_line
  pickup_put beat e a b c = append_as (append_assoc pickup_word (beat_text beat) (10 ∷ []) ∙ ap pickup_line (sym e)) (append_behind (append_behind a b h) c h)

  pub meter_put : (bar num den : ℕ) {q r s t u v w : Page} → Appends meter_word p q → Appends (decimal bar) q r → Appends (32 ∷ []) r s → Appends (decimal num) s t
      → Appends (47 ∷ []) t u → Appends (decimal den) u v → Appends (10 ∷ []) v w → Appends (meter_line bar num den) p w
  unfolding meter_line
  meter_put bar num den a b c d e f g =
      append_as (simp append_assoc) (append_behind (append_behind (append_behind (append_behind (append_behind (append_behind a b h) c h) d h) e h) f h) g h)

  pub tempo_put : (beat : Beat) (bits : ℕ) {q r s t u : Page} → Appends tempo_word p q → Appends (beat_text beat) q r → Appends (32 ∷ []) r s → Appends (tempo_text bits) s t
      → Appends (10 ∷ []) t u → Appends (tempo_line beat bits) p u
  unfolding tempo_line
  tempo_put beat bits a b c d e = append_as (simp append_assoc) (append_behind (append_behind (append_behind (append_behind a b h) c h) d h) e h)

  pub head_put : (score : Score) {q r s t u v : Page} → Appends (number_line rate_word score.rate) p q → Appends (number_line beats_word score.beats) q r → Appends tempo_word r s
      → Appends (tempo_text score.bpm) s t → Appends (10 ∷ []) t u → Appends (pickup_line score.pickup) u v → Appends (head_text score) p v
  unfolding head_text
  head_put score a b c d e f = append_as (simp append_assoc) (append_behind (append_behind (append_behind (append_behind (append_behind a b h) c h) d h) e h) f h)

  -- ---- the lines of the points

  pub next_meter : (words : List ℕ) (k : ℕ) {bar num den : ℕ} {q r : Page} → Appends (meter_lines words k) p q
      → bar ≡ get_or words (3 * k) 0 → num ≡ get_or words (3 * k + 1) 0 → den ≡ get_or words (3 * k + 2) 0 → Appends (meter_line bar num den) q r → Appends (meter_lines words (k + 1)) p r
  unfolding meter_lines
  next_meter words k x e f g y = append_as (rw (add-one k, e, f, g) refl) (append_behind x y h)

  pub next_tempo : (nums : List ℤ) (dens bits : List ℕ) (k : ℕ) {num : ℤ} {q r : Page} → Appends (tempo_lines nums dens bits k) p q → num ≡ get_or nums k (pos 0)
      → Appends (tempo_line (record { num = num; den = get_or dens k 0 }) (get_or bits k 0)) q r → Appends (tempo_lines nums dens bits (k + 1)) p r
  unfolding tempo_lines
  next_tempo nums dens bits k x e y =
      let line : ℤ → List ℕ = λ num. tempo_line (record { num = num; den = get_or dens k 0 }) (get_or bits k 0) in
      append_as (rw (add-one k)) (append_behind x (append_as (ap line e) y) h)

  -- ---- the whole

  pub form_put : (score : Score) (meter : List ℕ) (nums : List ℤ) (dens bits : List ℕ) {q r s : Page}
      → Appends (head_text score) p q → Appends (meter_lines meter score.meters) q r → Appends (tempo_lines nums dens bits score.tempos) r s → Appends (form_of score meter nums dens bits) p s
  unfolding form_of
  form_put score meter nums dens bits a b c =
      append_as (append_assoc (head_text score) (meter_lines meter score.meters) (tempo_lines nums dens bits score.tempos)) (append_behind (append_behind a b h) c h)

pub pickup_none : {pickup : Option Beat} (page : Page) → pickup ≡ None → Appends (pickup_line pickup) page page
unfolding pickup_line
pickup_none page e = append_as (ap pickup_line (sym e)) (append_nothing page)

pub no_meters : (words : List ℕ) (page : Page) → Appends (meter_lines words 0) page page
unfolding meter_lines
no_meters words = append_nothing

pub no_tempos : (nums : List ℤ) (dens bits : List ℕ) (page : Page) → Appends (tempo_lines nums dens bits 0) page page
unfolding tempo_lines
no_tempos nums dens bits = append_nothing

-- ---- a part of the words that are left, and what is left behind it

module _ (words x rest : List ℕ) (k : ℕ) (e : drop k words ≡ x ++ rest) where
  pub word_of : (j n : ℕ) → j < length x → n ≡ k + j → get_or x j 0 ≡ get_or words n 0
  word_of j n h f = sym (ap (λ i. get_or words i 0) f ∙ sym (get_or-drop k words j 0) ∙ ap (λ l. get_or l j 0) e ∙ get_or_append_left x rest 0 j h)

  pub left_behind : (n : ℕ) → n ≡ k + length x → rest ≡ drop n words
  left_behind n f = sym (ap (λ i. drop i words) f ∙ sym (drop-drop (length x) k words) ∙ ap (drop (length x)) e ∙ drop_at x rest (length x) refl)

  pub words_long : 0 < length x → length x + k ≤ length words
  words_long h = omega (arith, ap length e, length-append x rest, length-drop k words)

pub same_lines : {nums nums′ : List ℤ} {dens dens′ bits bits′ : List ℕ} {k k′ : ℕ} → nums ≡ nums′ → dens ≡ dens′ → bits ≡ bits′ → k ≡ k′ → tempo_lines nums dens bits k ≡ tempo_lines nums′ dens′ bits′ k′
same_lines e f g h = cc
