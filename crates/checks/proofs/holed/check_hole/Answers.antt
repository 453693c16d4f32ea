-- `checks::holed::check_hole` meets its contract: a field that does not pass, a name, a text.
-- Assumes nothing.
use Rattle.std.proofs.Common.{◌∙◌, arith}
use Rattle.fields.proofs.First.{handed_on, is_some}
use Rattle.checks.proofs.HoleLaws.{hole_refused, hole_name, hole_text}
use Rattle.checks.proofs.holed.check_hole.Goals as goal

pub returns-in_err-check_piece : goal.returns-in_err-check_piece
returns-in_err-check_piece c =
    handed_on _ _ c.from_residual.ensures ∙ hole_refused _ _ _ _ c.in_err-check_piece.ensures (λ e. omega (arith, is_some c.in_err-check_piece.field-0.0, e))

pub returns-then-letter-eq70 : goal.returns-then-letter-eq70
returns-then-letter-eq70 c =
    rw (← c.from-place.ensures) (c.check_end.ensures ∙ hole_name _ _ _ _ c.in_ok-check_piece.ensures c.if-letter-eq70.true)

pub returns : goal.returns
returns c =
    rw (← c.from-place.ensures) (c.check_end-2.ensures ∙ hole_text _ _ _ _ _ c.in_ok-check_piece.ensures c.if-letter-eq70.false c.text_width.ensures.value)
