-- `add_text::walk::add_word_char` meets its contract: a character with a column count is added, and any other is dropped.
-- Assumes nothing.
use borrow.Author.Rules.{rules}
use Rattle.add_text.proofs.WordChars.{width_none, width_some, fits_cols, word_char_some, word_char_none}
use Rattle.add_text.proofs.walk.add_word_char.Goals as goal

pub add_cols-requires-clause-char_is : goal.add_cols-requires-clause-char_is
add_cols-requires-clause-char_is c =
    (c.requires.char_is.0, c.requires.char_is.1, fits_cols c.args.part.now c.args.code _ _ c.requires.char_is.0 c.requires.ready c.columns_of.ensures c.in-Cols.is c.from.ensures)

pub returns-in-Cols-clause-adds_word_char : goal.returns-in-Cols-clause-adds_word_char
returns-in-Cols-clause-adds_word_char c =
    word_char_some c.args.block.now c.args.run c.args.ann c.add_cols.result c.args.code _ c.add_cols.new.block
    (width_some c.args.code _ _ c.columns_of.ensures c.in-Cols.is c.from.ensures) c.add_cols.ensures.adds_word_char

pub returns-in-Control : goal.returns-in-Control
returns-in-Control c =
    record {
      stays = search rules;
      walked_small = search rules;
      adds_word_char = word_char_none c.args.block.now c.args.run c.args.ann c.args.code (width_none c.args.code c.columns_of.ensures c.in-Control.is);
    }
