-- No second place or output meets the contract of a call that puts a text.
use mathlib.Core.Path.{◌≡◌, sym, ◌∙◌}
use mathlib.Core.List.{List}
use Prim.Native.Nat.{ℕ}
use Rattle.text.specs.Texts.{Puts}
use Rattle.text.specs.Pages.{Appends}
use Rattle.text.specs.declared.page.Page.{Page}

pub one_put : {place : ℕ} {text out : List ℕ} {r s : ℕ} {after later : List ℕ} → Puts place text out r after → Puts place text out s later → (r ≡ s) × (after ≡ later)
one_put p q = (p.next_is ∙ sym q.next_is, p.after_is ∙ sym q.after_is)

-- and none that of a call that writes on a page
pub one_append : {text : List ℕ} {page new later : Page} → Appends text page new → Appends text page later
    → (new.out.ghost_name ≡ later.out.ghost_name) × (new.place ≡ later.place) × (new.out.now ≡ later.out.now)
one_append p q = let e = one_put p.puts q.puts in (p.same_reference ∙ sym q.same_reference, e.0, e.1)
