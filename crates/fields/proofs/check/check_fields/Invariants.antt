-- `fields::check::check_fields` meets its contract: the refusal so far and those of the fields left give that of the whole.
-- Assumes nothing.
use Rattle.std.proofs.Common.{◌≡◌, ℕ}
use Rattle.fields.specs.Field.{Raw, raws}
use Rattle.fields.specs.List.{left}
use Rattle.fields.specs.First.{first_of, first_over}
use Rattle.fields.specs.Refusal.{number_of}
use Rattle.fields.specs.Judged.{Judges}
use Rattle.fields.proofs.check.check_fields.Given as goal

abbrev pub invariant-loop-field : goal.invariant-loop-field
invariant-loop-field g l =
    record {
      can : (goal.iterator-loop-field g).can_next l.field-iterator;
      ends : (goal.iterator-loop-field g).is_finite l.field-iterator;
      so_far : (judge : Raw → ℕ) → Judges (goal.F-post g) l.check judge → first_of (number_of l.worst) (first_over judge (left l.field-iterator)) ≡ first_over judge (raws l.bytes);
    }
