-- `fields::judge::check_piece` meets its contract, letter by letter.
-- Assumes nothing.
use Rattle.std.proofs.Common.{◌≡◌, ◌∙◌, arith}
use Rattle.fields.proofs.Sheets.{name_piece, string_piece, no_piece}
use Rattle.fields.proofs.judge.check_piece.Goals as goal

pub returns-in-70 : goal.returns-in-70
returns-in-70 c =
    c.check_text.ensures ∙ name_piece _ _ c.in-70.is

pub returns-in-83 : goal.returns-in-83
returns-in-83 c =
    c.check_string.ensures ∙ string_piece _ _ c.in-83.is

pub returns-in_default : goal.returns-in_default
returns-in_default c =
    no_piece _ _ (λ (e : c.args.letter ≡ 0x46). omega arith) (λ (e : c.args.letter ≡ 0x53). omega arith)
