-- `Line::push_bar` meets its contract: the three bytes stand where room was made for them. Assumes nothing.
use Rattle.fields.proofs.Sets.{wrote_then}
use Rattle.tagged_line.proofs.Holding.{pushed}
use borrow.Author.Rules.{rules}
use Rattle.tagged_line.proofs.line.Line.push_bar.Goals as goal

pub returns : goal.returns
returns c =
    record { line_grown = search rules; pushes = pushed _ _ _ _ _ _ _ _ _ c.open_text-next.ensures.makes_room (wrote_then c.put_byte-second.ensures c.put_two.ensures) }
