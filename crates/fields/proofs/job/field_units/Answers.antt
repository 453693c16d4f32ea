-- `fields::job::field_units` meets its contract, letter by letter.
-- Assumes nothing.
use Rattle.std.proofs.Common.{◌≡◌, ◌∙◌, arith}
use Rattle.fields.proofs.Jobs.{name_units, run_units_is, other_units}
use Rattle.fields.proofs.job.field_units.Goals as goal

pub returns-in-70-clause-value : goal.returns-in-70-clause-value
returns-in-70-clause-value c =
    name_units _ _ c.in-70.is

pub returns-in-84-clause-value : goal.returns-in-84-clause-value
returns-in-84-clause-value c =
    c.run_units.ensures.value ∙ run_units_is _ _ c.in-84.is

pub returns-in_default-clause-value : goal.returns-in_default-clause-value
returns-in_default-clause-value c =
    other_units _ _ (λ (e : c.args.field.letter ≡ 0x46). omega arith) (λ (e : c.args.field.letter ≡ 0x54). omega arith)
