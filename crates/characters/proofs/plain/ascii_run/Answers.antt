-- `characters::plain::ascii_run` meets its contract: it counts the bytes at the front that are printable ASCII.
-- Assumes nothing.
use Rattle.std.proofs.Common.{◌∙◌, rules, tests}
use Rattle.std.proofs.lemmas.Iterator.{YieldsList-from_slice}
use Rattle.std.proofs.lemmas.Iterator.Consumers.{count_from_yields_List}
use Rattle.std.proofs.lemmas.Iterator.Search.{YieldsList-from_take_while}
use Rattle.std.proofs.lemmas.List.Folds.{length-prefix_len}
use Rattle.characters.specs.Ranges.{within}
use Rattle.characters.proofs.Runs.{ascii_front}
use Rattle.characters.proofs.plain.ascii_run.Goals as goal

pub returns : goal.returns
returns c =
    ascii_front c.args.s.now
    (count_from_yields_List c.take_while.result _ c.count.ensures.ran
    (YieldsList-from_take_while _ (within 0x20 0x7E) (YieldsList-from_slice c.args.s.now cc) c.take_while.ensures.closure c.take_while.ensures.done (λ x b q k. search (rules, tests)))
    ∙ length-prefix_len (within 0x20 0x7E) c.args.s.now)
