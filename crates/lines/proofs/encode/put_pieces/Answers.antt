use mathlib.Core.Path.{refl}
use borrow.Author.Rules.{rules}
use Rattle.lines.proofs.Pieces.{pieces_turn, pieces_done}
use Rattle.lines.proofs.encode.put_pieces.Goals as goal

pub loop-i-init : goal.loop-i-init
loop-i-init c =
    (search rules, refl, search rules, λ d n w. w)

pub loop-i-preserved : goal.loop-i-preserved
loop-i-preserved c = (
  search rules,
  search rules,
  search rules,
  pieces_turn c.args.bytes.now c.args.tags.now c.args.out.now c.loop-i.out _ c.args.at c.loop-i.i c.run_end-j.result c.loop-i.k _ c.put_piece-k.ensures.wrote c.run_end-j.ensures.value (search rules) (search rules) c.loop-i.invariant.3,
)

pub returns : goal.returns
returns c =
    record { upper_bound = search rules; wrote = pieces_done c.args.bytes.now c.args.tags.now c.args.out.now c.loop-i.out c.args.at c.loop-i.i c.loop-i.k (search rules) c.loop-i.invariant.3 }
