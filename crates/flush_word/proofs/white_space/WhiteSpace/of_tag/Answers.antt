-- `of_tag` meets its contract: the number of the mode is what the tag has above the annotation. Assumes nothing.
use native.Mathlib.Omega.{arith}
use Rattle.fields.specs.Job.{normal, pre}
use Rattle.flush_word.proofs.Modes.{tag_mode, tag_wrap}
use Rattle.flush_word.proofs.white_space.WhiteSpace.of_tag.Goals as goal

pub returns-in-0 : goal.returns-in-0
returns-in-0 c = tag_mode c.args.tag normal c.in-0.is

pub returns-in-1 : goal.returns-in-1
returns-in-1 c = tag_mode c.args.tag pre c.in-1.is

pub returns-in_default : goal.returns-in_default
returns-in_default c = tag_wrap c.args.tag (omega arith)
