-- `encode::put_line` meets its contract: the content is written first, and the head in front of it. Assumes nothing.
use borrow.Author.Rules.{rules}
use Rattle.lines.specs.Items.{zip}
use Rattle.lines.proofs.Pieces.{line_put}
use Rattle.lines.proofs.encode.put_line.Goals as goal

pub returns : goal.returns
returns c =
    record { lower_bound = search rules; wrote = line_put (zip c.args.bytes.now c.args.tags.now) c.args.out.now _ _ c.args.at _ _ c.put_pieces-end.ensures.wrote c.put_head.ensures }
