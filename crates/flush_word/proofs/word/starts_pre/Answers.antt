-- `starts_pre` meets its contract: the first text is what `find` finds. Assumes nothing.
use borrow.Author.Rules.{rules}
use borrow.Author.Tests.{tests}
use lib.Dec.{ltb}
use Rattle.std.proofs.lemmas.Iterator.{YieldsList-from_slice}
use Rattle.std.proofs.lemmas.Iterator.Search.{find_from_yields_List}
use Rattle.lines.specs.Items.{mark_tag}
use Rattle.flush_word.proofs.Trimming.{pre_found, pre_none}
use Rattle.flush_word.proofs.word.starts_pre.Goals as goal

pub returns-in-Some : goal.returns-in-Some
returns-in-Some c =
    let f = find_from_yields_List (λ t. ltb t mark_tag) _ _ c.find.result c.find.ensures.ran (YieldsList-from_slice c.tags.result.now c.iter.ensures.rest) (λ x b q k. search (rules, tests)) in
    pre_found c.args.word.now.items c.tags.result.now c.tags.ensures _ (rw c.in-Some.is at f) c.of_tag.result c.of_tag.ensures c.eq.result c.eq.ensures

pub returns-in-None : goal.returns-in-None
returns-in-None c =
    let f = find_from_yields_List (λ t. ltb t mark_tag) _ _ c.find.result c.find.ensures.ran (YieldsList-from_slice c.tags.result.now c.iter.ensures.rest) (λ x b q k. search (rules, tests)) in
    pre_none c.args.word.now.items c.tags.result.now c.tags.ensures (rw c.in-None.is at f)
