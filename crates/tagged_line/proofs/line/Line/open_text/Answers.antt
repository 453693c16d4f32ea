-- `Line::open_text` meets its contract: nothing to put in, the open piece made longer, or a new piece. Assumes nothing.
use native.Mathlib.Omega.{arith}
use borrow.Author.Rules.{rules}
use Rattle.tagged_line.proofs.Holding.{open_none, open_same, open_new}
use Rattle.tagged_line.proofs.line.Line.open_text.Goals as goal

pub returns-then-n-eq0-clause-makes_room : goal.returns-then-n-eq0-clause-makes_room
returns-then-n-eq0-clause-makes_room c =
    open_none c.args.out.now c.args.self c.args.annotation c.args.n c.args.cols c.if-n-eq0.true

pub returns-then-self-annotation-clause-makes_room : goal.returns-then-self-annotation-clause-makes_room
returns-then-self-annotation-clause-makes_room c =
    open_same _ _ c.args.self c.args.annotation c.args.n c.args.cols _ c.if-n-eq0.false c.if-self.true c.if-self-annotation.true
    (omega (arith, c.if-self.true)) c.put_two.ensures.store

pub returns : goal.returns
returns c =
    record {
      line_grown = (search rules, search rules);
      makes_room = open_new _ _ _ c.args.self c.args.annotation c.args.n c.args.cols _ _ c.if-n-eq0.false c.else-self.either c.put_head-first.ensures c.put_byte-start.ensures;
    }
