-- `render::body::add_field` meets its contract, letter by letter.
-- Assumes nothing.
use Rattle.std.proofs.Common.{◌≡◌, arith}
use Rattle.fields.proofs.Jobs.{name_units, other_read}
use Rattle.render.proofs.Adding.{adds_name, adds_nothing}
use Rattle.render.proofs.body.add_field.Goals as goal

pub add_element-requires-clause-name_bound : goal.add_element-requires-clause-name_bound
add_element-requires-clause-name_bound c =
    omega (arith, name_units c.args.field.letter c.args.field.content.now c.in-70.is, c.requires.content_bound)

pub returns-in-70-clause-text_small : goal.returns-in-70-clause-text_small
returns-in-70-clause-text_small c =
    let small = c.add_element.ensures.counts_within_units_2 in
    (small.0, omega (arith, small.1, name_units c.args.field.letter c.args.field.content.now c.in-70.is))

pub returns-in-70-clause-adds_field : goal.returns-in-70-clause-adds_field
returns-in-70-clause-adds_field c =
    adds_name c.args.block.now c.args.field.content.now c.args.field.letter c.add_element.new.block c.in-70.is c.add_element.ensures.adds_element

pub returns-in_default-clause-adds_field : goal.returns-in_default-clause-adds_field
returns-in_default-clause-adds_field c =
    adds_nothing c.args.block.now _ c.args.field.letter
    (other_read _ _ (λ (e : c.args.field.letter ≡ 0x46). omega arith) (λ (e : c.args.field.letter ≡ 0x54). omega arith))
