-- `add_text::runs::add_plain` meets its contract: the run's characters are pushed as they were taken.
-- Assumes nothing.
use native.Mathlib.Omega.{arith}
use Rattle.characters.proofs.Runs.{run_whole}
use Rattle.add_text.proofs.Running.{run_most, plain_taken}
use Rattle.add_text.proofs.runs.add_plain.Goals as goal

pub returns-clause-adds_plain : goal.returns-clause-adds_plain
returns-clause-adds_plain c =
    plain_taken c.args.block.now c.args.run c.args.ann c.args.text.now c.take_of-take.result c.plain_run-plain.result.len c.plain_run-plain.result.cols c.tag-tag.result
    (run_whole c.args.text.now c.min-end.result c.plain_run-plain.ensures.plain_run) c.push_chars.new.block (omega arith) c.tag-tag.ensures c.take_of-take.ensures.0
    c.push_chars.ensures.pushes_chars c.take_of-take.ensures
    (run_most c.args.text.now c.min-end.result _ (omega arith) c.plain_run-plain.ensures.len_in_bounds.0 _ _ (omega arith) c.plain_run-plain.ensures.len_in_bounds.1)
