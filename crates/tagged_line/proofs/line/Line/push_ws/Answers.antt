-- `Line::push_ws` meets its contract: the spaces stand where room was made for them. Assumes nothing.
use Rattle.tagged_line.proofs.Holding.{pushed_spaces}
use borrow.Author.Rules.{rules}
use Rattle.tagged_line.proofs.line.Line.push_ws.Goals as goal

pub returns : goal.returns
returns c =
    record { line_grown = search rules; pushes_spaces = pushed_spaces _ _ _ _ _ _ _ _ c.open_text-next.ensures.makes_room c.put_repeat.ensures }
