-- By whether the denominator is 1: the numerator alone, or with a slash and the denominator behind it.
use Rattle.std.proofs.Common.{◌≡◌, ap, ◌∙◌, ◌∷◌, ◌++◌, ℤ, rules, w64, to_z, of_z, sym, []}
use Rattle.text.specs.Texts.{decimal, signed_text}
use Rattle.text.proofs.Pages.{room_first, room_rest, append_then, append_as, room_as}
use Rattle.text.proofs.Parts.{beat_whole, beat_parts, beat_front}
use Rattle.text.proofs.page.Page.beat.Goals as goal

-- in each answer `held`: the numerator comes back from its bits
pub signed-requires : goal.signed-requires
signed-requires c =
    let held : to_z w64 (of_z w64 c.args.b.num) ≡ c.args.b.num = search rules in
    beat_front c.args.b _ c.args.self.now held c.requires

pub byte-requires : goal.byte-requires
byte-requires c =
    let held : to_z w64 (of_z w64 c.args.b.num) ≡ c.args.b.num = search rules in
    let text = ap (λ (z : ℤ). signed_text z ++ (47 ∷ decimal c.args.b.den)) held ∙ beat_parts c.args.b c.if-b-ne1.true in
    room_first (47 ∷ []) (decimal c.args.b.den) c.signed.new.self (room_rest (47 ∷ decimal c.args.b.den) c.signed.ensures (room_as c.args.self.now (sym text) c.requires))

pub decimal-requires : goal.decimal-requires
decimal-requires c =
    let held : to_z w64 (of_z w64 c.args.b.num) ≡ c.args.b.num = search rules in
    let text = ap (λ (z : ℤ). signed_text z ++ (47 ∷ decimal c.args.b.den)) held ∙ beat_parts c.args.b c.if-b-ne1.true in
    room_rest (decimal c.args.b.den) c.byte.ensures (room_rest (47 ∷ decimal c.args.b.den) c.signed.ensures (room_as c.args.self.now (sym text) c.requires))

pub returns-then-b-ne1 : goal.returns-then-b-ne1
returns-then-b-ne1 c =
    let held : to_z w64 (of_z w64 c.args.b.num) ≡ c.args.b.num = search rules in
    let text = ap (λ (z : ℤ). signed_text z ++ (47 ∷ decimal c.args.b.den)) held ∙ beat_parts c.args.b c.if-b-ne1.true in
    let room = room_as c.args.self.now (sym text) c.requires in
    append_as text (append_then {t = 47 ∷ decimal c.args.b.den} c.signed.ensures (append_then {t = decimal c.args.b.den} c.byte.ensures c.decimal.ensures (room_rest (47 ∷ decimal c.args.b.den) c.signed.ensures room)) room)

pub returns-else-b-ne1 : goal.returns-else-b-ne1
returns-else-b-ne1 c =
    let held : to_z w64 (of_z w64 c.args.b.num) ≡ c.args.b.num = search rules in
    append_as (ap signed_text held ∙ beat_whole c.args.b c.if-b-ne1.false) c.signed.ensures
