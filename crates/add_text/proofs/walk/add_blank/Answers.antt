-- `add_text::walk::add_blank` meets its contract: white space collapses in Normal; else it is LF, a tab, or a blank that is kept.
-- Assumes nothing.
use native.Mathlib.Omega.{arith}
use Rattle.add_text.proofs.Walking.{walk_more, blank_collapses, blank_closes, blank_tabs, blank_stays}
use Rattle.add_text.proofs.walk.add_blank.Goals as goal

pub returns-in-Normal-default-clause-adds_blank : goal.returns-in-Normal-default-clause-adds_blank
returns-in-Normal-default-clause-adds_blank c =
    blank_collapses c.args.block.now c.args.run c.args.ann c.args.code c.tag.result c.collapse.new.block c.in-Normal-default.is-0 c.tag.ensures c.requires.ready.ann c.collapse.ensures.collapses

pub returns-in_default-eq10 : goal.returns-in_default-eq10
returns-in_default-eq10 c =
    record {
      stays = c.add_newline.ensures.stays;
      walk_small = walk_more _ _ c.add_newline.result c.add_newline.new.block (omega (arith, c.requires.ready.some)) c.add_newline.ensures.walk_small;
      adds_blank = blank_closes c.args.block.now c.args.run c.args.ann c.args.code c.in_default-eq10.not-Normal-0 c.add_newline.result c.add_newline.new.block
          c.in_default-eq10.is-1 c.add_newline.ensures.adds_newline;
    }

pub returns-in_default-eq9 : goal.returns-in_default-eq9
returns-in_default-eq9 c =
    record {
      stays = c.add_tab.ensures.stays;
      walk_small = walk_more _ _ c.add_tab.result c.add_tab.new.block (omega (arith, c.requires.ready.some)) c.add_tab.ensures.walk_small;
      adds_blank = blank_tabs c.args.block.now c.args.run c.args.ann c.args.code c.in_default-eq9.not-Normal-0 c.add_tab.result c.add_tab.new.block
          (omega (arith, c.in_default-eq9.is-1)) c.in_default-eq9.is-1 c.add_tab.ensures.adds_tab;
    }

pub returns-in_default : goal.returns-in_default
returns-in_default c =
    record {
      stays = c.add_kept.ensures.stays;
      walk_small = c.add_kept.ensures.walked_small;
      adds_blank = blank_stays c.args.block.now c.args.run c.args.ann c.args.code c.in_default.not-Normal-0 c.add_kept.new.block
          (omega (arith, c.in_default.is-1)) (omega (arith, c.in_default.is-1)) c.add_kept.ensures.adds_kept;
    }
