-- `render::body::add_fields` meets its contract: the fields left, from the block as it now stands, give what all fields give.
-- Assumes nothing.
use Rattle.std.proofs.Common.{refl, arith}
use borrow.Author.Rules.{rules}
use Rattle.render.proofs.Adding.{added_start, added_end, added_broken, units_left, added_on, added_narrow}
use Rattle.render.proofs.body.add_fields.Goals as goal

pub loop-field-init : goal.loop-field-init
loop-field-init c =
    record {
      stays = search rules;
      added = rw (c.into_iter-field-iterator.ensures.into_iter_gives, c.new-field-items.ensures) (added_start c.args.block.now _ _ c.requires.counts_within_units.0 refl);
    }

pub add_field-requires-clause-counts_within_units : goal.add_field-requires-clause-counts_within_units
add_field-requires-clause-counts_within_units c = (c.loop-field.invariant.added.small, search rules)

pub add_field-requires-clause-content_bound : goal.add_field-requires-clause-content_bound
add_field-requires-clause-content_bound c =
    let i = c.loop-field.invariant in
    let u = units_left c.args.block.now _ _ _ i.added i.stays _ _ (rw c.in-Ok.is at c.in-Some.ensures.steps) in
    omega (arith, u, c.requires.body_bound)

pub loop-field-preserved-in-Continue-1 : goal.loop-field-preserved-in-Continue-1
loop-field-preserved-in-Continue-1 c =
    let i = c.loop-field.invariant in
    record {
      stays = search rules;
      added = added_on c.args.block.now _ _ _ i.added i.stays _ _ (rw c.in-Ok.is at c.in-Some.ensures.steps) c.add_field.new.block c.in_ok-add_field.ensures.text_small c.in_ok-add_field.ensures.adds_field;
    }

pub returns-in_err-add_field-clause-stays : goal.returns-in_err-add_field-clause-stays
returns-in_err-add_field-clause-stays c = search rules

pub returns-in_err-add_field-clause-adds_fields : goal.returns-in_err-add_field-clause-adds_fields
returns-in_err-add_field-clause-adds_fields c =
    let i = c.loop-field.invariant in
    added_narrow c.args.block.now _ _ _ i.added i.stays _ _ (rw c.in-Ok.is at c.in-Some.ensures.steps) _ _ c.add_field.new.block c.in_err-add_field.ensures.adds_field c.from_residual.ensures.0

pub loop-field-preserved : goal.loop-field-preserved
loop-field-preserved c =
    let i = c.loop-field.invariant in
    record { stays = i.stays; added = added_broken c.args.block.now _ _ _ i.added _ (rw c.in_default.is at c.in-Some.ensures.steps) }

pub returns-clause-text_small : goal.returns-clause-text_small
returns-clause-text_small c = (c.loop-field.invariant.added.small, omega (arith, c.loop-field.invariant.added.units))

pub returns-clause-adds_fields : goal.returns-clause-adds_fields
returns-clause-adds_fields c = added_end c.args.block.now _ _ _ c.loop-field.invariant.added c.in-None.ensures.steps.0
