-- Texts written on a page, one behind another, are one text.
use Rattle.std.proofs.Common.{◌≡◌, refl, sym, ◌∙◌, List, [], ◌++◌, ℕ, ◌≤◌, length, length-append, arith}
use Rattle.text.specs.declared.page.Page.{Page}
use Rattle.text.specs.Pages.{Appends, Room}
use Rattle.text.specs.Texts.{Puts}
use Rattle.text.proofs.Puts as put

-- the page has as many bytes as before
pub room_kept : {s : List ℕ} {old new : Page} → Appends s old new → Room s old → length new.out.now ≡ length old.out.now
room_kept x room = put.same room x.puts

-- the room for a text and one behind it is room for each
pub room_first : (s t : List ℕ) (page : Page) → Room (s ++ t) page → Room s page
room_first s t page room = omega (arith, length-append s t)

pub room_rest : {s : List ℕ} {old mid : Page} (t : List ℕ) → Appends s old mid → Room (s ++ t) old → Room t mid
room_rest {s} {old} {mid} t x room = omega (arith, length-append s t, room_kept x (room_first s t old room), x.puts.next_is)

-- t behind s
pub append_behind : {s t : List ℕ} {old mid new : Page} → Appends s old mid → Appends t mid new → old.place ≤ length old.out.now → Appends (s ++ t) old new
append_behind x y room = record { same_reference = y.same_reference ∙ x.same_reference; same_length = y.same_length ∙ x.same_length; puts = put.behind room x.puts y.puts }

pub append_then : {s t : List ℕ} {old mid new : Page} → Appends s old mid → Appends t mid new → Room (s ++ t) old → Appends (s ++ t) old new
append_then x y room = append_behind x y (omega arith)

-- nothing
pub append_nothing : (page : Page) → Appends [] page page
append_nothing page = record { same_reference = refl; same_length = refl; puts = put.nothing page.out.now page.place }

-- the text, said in another way
pub append_as : {s t : List ℕ} {old new : Page} → s ≡ t → Appends s old new → Appends t old new
append_as e x = record { same_reference = x.same_reference; same_length = x.same_length; puts = put.retext e x.puts }

pub room_as : {s t : List ℕ} (page : Page) → s ≡ t → Room s page → Room t page
room_as page e room = rw (sym e) room

-- what was written on a page from its front on is a text put at the front of the lent bytes
pub append_front : {s out : List ℕ} {page new : Page} → (page.out.now ≡ out) × (page.place ≡ 0) → Appends s page new → Puts 0 s out new.place new.out.now
append_front e x = let p = x.puts in rw (sym e.0, sym e.1) p
