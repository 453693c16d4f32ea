-- `fields::text::check_char` meets its contract: tab and LF are on the list as controls, and any other character is looked up.
-- Assumes nothing.
use Rattle.std.proofs.Common.{◌≡◌, ◌<◌, ◌≤◌, length, slice_index_or, sym, ◌∙◌, refl, arith}
use Rattle.characters.proofs.RoundTrip.{decode_size}
use Rattle.fields.proofs.Texts.{text_kept, text_on, text_off, text_bad}
use Rattle.fields.proofs.text.check_char.Goals as goal

pub returns-then-first-le10 : goal.returns-then-first-le10
returns-then-first-le10 c =
    let some : 0 < length c.args.text.now = c.in-Some.ensures.item.3.0 in
    let first : c.in-Some.first.now ≡ slice_index_or c.args.text.now 0 0 = c.in-Some.ensures.item.3.1 0 in
    let low : 9 ≤ slice_index_or c.args.text.now 0 0 = let h = c.if-first-ge9.true in omega arith in
    let high : slice_index_or c.args.text.now 0 0 ≤ 10 = let h = c.if-first-le10.true in omega arith in
    rw c.if-controls.true (λ _. omega arith, some, text_kept _ some low high)

pub returns-in-Some-decode : goal.returns-in-Some-decode
returns-in-Some-decode c =
    let e = sym c.decode.ensures ∙ c.in-Some-decode.is in
    let (lo, hi, inside) = decode_size _ _ _ e in
    (λ some. lo, inside, text_on _ _ _ _ e (sym c.allowed.ensures ∙ c.if-allowed.true))

pub returns-in_default-decode : goal.returns-in_default-decode
returns-in_default-decode c =
    (refl, text_off _ _ _ _ (sym c.decode.ensures ∙ c.in-Some-decode.is) (sym c.allowed.ensures ∙ c.if-allowed.false))

pub returns-in_default-decode-2 : goal.returns-in_default-decode-2
returns-in_default-decode-2 c =
    (refl, text_bad _ _ c.in-Some.ensures.item.3.0 (sym c.decode.ensures ∙ c.in_default-decode.is))
