-- `fields::field::field_at` meets its contract: each answer is the definition's at the bytes from the place on.
-- Assumes nothing.
use Rattle.std.proofs.Common.{◌-◌, ◌<◌, length, take, drop, arith}
use lib.ListN.{length-drop}
use Rattle.fields.specs.Field.{raws}
use Rattle.fields.proofs.Fields.{at_end_lem, at_broken, at_field}
use Rattle.fields.proofs.Texts.{rest}
use Rattle.fields.proofs.field.field_at.Goals as goal

pub returns-then-s-at-clause-value : goal.returns-then-s-at-clause-value
returns-then-s-at-clause-value c = at_end_lem _ _ c.if-s-at.true

pub returns-in_default-clause-value : goal.returns-in_default-clause-value
returns-in_default-clause-value c =
    let s = c.args.s.now in
    let some : 0 < length (take (length s - c.args.at) (drop c.args.at s)) = rw (rest s c.args.at) (simp length-drop (omega (arith, c.if-s-at.false))) in
    at_broken _ _ (rw (rest s c.args.at) at (c.in_default.ensures.splits_off some))

pub returns-clause-value : goal.returns-clause-value
returns-clause-value c =
    let field = c.in-Some.field in
    at_field _ _ field.letter field.content.now (raws c.in-Some.field-0-1.now) (rw (rest c.args.s.now c.args.at) at c.in-Some.ensures.splits_off)
