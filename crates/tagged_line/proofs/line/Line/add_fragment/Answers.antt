-- `Line::add_fragment` meets its contract: an F field at the end of the line.
-- Assumes nothing.
use Rattle.tagged_line.proofs.Laying.{laid_fragment}
use Rattle.tagged_line.proofs.line.Line.add_fragment.Goals as goal

pub returns-clause-adds_fragment : goal.returns-clause-adds_fragment
returns-clause-adds_fragment c = laid_fragment _ _ _ _ _ c.put_field-end.ensures
