-- `fields::judge::check_string` meets its contract: an annotation and text that is not empty.
-- Assumes nothing.
use Rattle.std.proofs.Common.{◌≡◌, refl, ◌∙◌, ◌-◌, ◌<◌, length, take, drop, length-drop, ap, arith}
use Rattle.std.proofs.lemmas.Bool.Decides.{nat_tests}
use Rattle.fields.proofs.Sheets.{text_piece, short_piece}
use Rattle.fields.proofs.Texts.{rest}
use Rattle.fields.proofs.judge.check_string.Goals as goal

pub returns-in-len1-up : goal.returns-in-len1-up
returns-in-len1-up c =
    let some : 0 < length (take (length c.args.content.now - 1) (drop 1 c.args.content.now)) = grind (arith, nat_tests) in
    c.check_text.ensures ∙ text_piece _ _ refl (omega (arith, ap length (rest c.args.content.now 1), length-drop 1 c.args.content.now))

pub returns-in_default : goal.returns-in_default
returns-in_default c =
    short_piece _ _ refl (omega (arith, c.in_default.len_below))

pub returns-in_default-2 : goal.returns-in_default-2
returns-in_default-2 c =
    let none : length (take (length c.args.content.now - 1) (drop 1 c.args.content.now)) ≡ 0 = grind (arith, nat_tests) in
    short_piece _ _ refl (omega (arith, ap length (rest c.args.content.now 1), length-drop 1 c.args.content.now))
