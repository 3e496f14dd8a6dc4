-- What it is to write a text on a page of lent bytes.
use Rattle.std.specs.Prelude.{◌≡◌, List, ℕ, ◌+◌, ◌≤◌, length}
use Rattle.text.specs.declared.page.Page.{Page}
use Rattle.text.specs.Texts.{Puts}

-- there is room for a text
abbrev pub Room : List ℕ → Page → Type 0
Room text page = page.place + length text ≤ length page.out.now

-- what a call does that writes a text: the page has the same bytes, as many as before, and the text stands behind what was written
pub record Appends (text : List ℕ) (old new : Page) : Type 0 where
  pub same_reference : new.out.ghost_name ≡ old.out.ghost_name
  pub same_length : length new.out.now ≡ length old.out.now
  pub puts : Puts old.place text old.out.now new.place new.out.now
