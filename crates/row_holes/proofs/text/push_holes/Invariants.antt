-- `text::push_holes` meets its contract: the holes of the seats passed are on the line, and the others are left. Assumes nothing.
use Rattle.row_holes.proofs.TextLaws.{TextLaid}
use Rattle.row_holes.proofs.text.push_holes.Given as goal

abbrev pub invariant-loop-seat : goal.invariant-loop-seat
invariant-loop-seat l = TextLaid l.initial.out l.initial.line l.annotation l.segs l.initial.seat-iterator l.collapse l.height l.out l.line l.seat-iterator l.x
