-- `add_text::walk::add_kept` meets its contract: a blank with a column count is kept, and any other is dropped.
-- Assumes nothing.
use borrow.Author.Rules.{rules}
use Rattle.add_text.proofs.WordChars.{width_none, width_some, fits_cols, kept_some, kept_none}
use Rattle.add_text.proofs.walk.add_kept.Goals as goal

pub keep_blank-requires-clause-among_units : goal.keep_blank-requires-clause-among_units
keep_blank-requires-clause-among_units c =
    fits_cols c.args.part.now c.args.code _ _ c.requires.char_is c.requires.ready c.columns_of.ensures c.in-Cols.is c.from.ensures

pub returns-in-Cols-clause-adds_kept : goal.returns-in-Cols-clause-adds_kept
returns-in-Cols-clause-adds_kept c =
    kept_some c.args.block.now c.args.mode c.args.ann c.args.part.now c.args.code _ c.tag.result c.keep_blank.new.block c.requires.char_is c.requires.ready.ann c.tag.ensures
    (width_some c.args.code _ _ c.columns_of.ensures c.in-Cols.is c.from.ensures) c.keep_blank.ensures.keeps_blank

pub returns-in-Control : goal.returns-in-Control
returns-in-Control c =
    record {
      stays = search rules;
      walked_small = search rules;
      adds_kept = kept_none c.args.block.now c.args.mode c.args.ann c.args.code (width_none c.args.code c.columns_of.ensures c.in-Control.is);
    }
