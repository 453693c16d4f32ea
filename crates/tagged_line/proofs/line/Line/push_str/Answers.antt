-- `Line::push_str` meets its contract: the text stands where room was made for it. Assumes nothing.
use Rattle.tagged_line.proofs.Holding.{pushed}
use borrow.Author.Rules.{rules}
use Rattle.tagged_line.proofs.line.Line.push_str.Goals as goal

pub returns : goal.returns
returns c =
    record { line_grown = search rules; pushes = pushed _ _ _ _ _ _ _ _ _ c.open_text-next.ensures.makes_room c.put_bytes.ensures }
