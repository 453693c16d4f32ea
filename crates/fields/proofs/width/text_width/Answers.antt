-- `width::text_width` meets its contract: where the whole text is one run, the run's columns are the text's.
-- Assumes nothing.
use native.Mathlib.Omega.{arith}
use Rattle.fields.proofs.Counting.{run_width}
use Rattle.fields.proofs.width.text_width.Goals as goal

pub returns-then-n-text : goal.returns-then-n-text
returns-then-n-text c =
    record { upper_bound = omega arith; value = run_width c.ascii_run-n.ensures.1 c.if-n-text.true }
