-- `fields::text::is_readable` meets its contract: what is left to read, past a run and past a character, is as good as the whole text.
-- Assumes nothing.
use Rattle.std.proofs.Common.{◌-◌, length}
use Rattle.fields.proofs.Texts.{Left}
use Rattle.fields.proofs.text.is_readable.Given as goal

abbrev pub invariant-loop-at : goal.invariant-loop-at
invariant-loop-at l = Left l.controls l.text l.at

abbrev pub decreases-loop-at : goal.decreases-loop-at
decreases-loop-at l = length l.text - l.at
