-- `glyph::plain_within` meets its contract: a run in a text's front is one of the text, and has no more columns than bytes. Assumes nothing.
use mathlib.Core.Path.{sym}
use native.Mathlib.Omega.{arith}
use lib.Seq.{length-take-le}
use Rattle.characters.proofs.Runs.{run_whole}
use Rattle.hard_wrap.proofs.glyph.plain_within.Goals as goal

pub slice_bounds-plain_run-end : goal.slice_bounds-plain_run-end
slice_bounds-plain_run-end c =
    sym (length-take-le _ _ (omega (arith, c.min-end.ensures)))

pub returns : goal.returns
returns c =
    let n = length-take-le c.min-end.result c.args.part.now (omega (arith, c.min-end.ensures)) in
    record { len_in_bounds = (omega (arith, c.plain_run.ensures.len_in_bounds, n, c.min-end.ensures), omega (arith, c.plain_run.ensures.len_in_bounds, n, c.min-end.ensures)); plain_run = run_whole c.args.part.now c.min-end.result c.plain_run.ensures.plain_run }
