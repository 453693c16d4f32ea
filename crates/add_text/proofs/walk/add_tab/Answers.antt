-- `add_text::walk::add_tab` meets its contract: a tab after the word. Assumes nothing.
use Rattle.add_text.proofs.Breaking.{tab_done}
use Rattle.add_text.proofs.walk.add_tab.Goals as goal

pub returns-clause-adds_tab : goal.returns-clause-adds_tab
returns-clause-adds_tab c =
    tab_done c.args.block.now c.flush_word.new.self c.tab.new.block c.args.ann c.tag.result c.args.mode c.flush_word.ensures.stays c.in_ok-flush_word.ensures.flushes_word
    c.requires.ann c.tag.ensures c.tab.ensures.tabbing
