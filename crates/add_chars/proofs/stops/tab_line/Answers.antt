-- `add_chars::stops::tab_line` meets its contract: every turn is one of the tab's, and at a stop or without turns left the tab is made.
-- Assumes nothing.
use mathlib.Core.Path.{◌≡◌}
use Prim.Native.Nat.{◌+◌, ◌-◌}
use native.Mathlib.Omega.{arith}
use borrow.Author.Rules.{rules}
use Rattle.add_chars.proofs.Stopping.{no_space, off_stop, goes_turn, goes_stops, goes_ends}
use Rattle.add_chars.proofs.stops.tab_line.Goals as goal
use Rattle.add_chars.proofs.stops.tab_line.Goals.{else-at-eq0-via-then-at-eq0+else-at, else-at-eq0-via-else-at-eq0}

pub returns-then-at-clause-tabs : goal.returns-then-at-clause-tabs
returns-then-at-clause-tabs c =
    goes_stops c.args.line.now c.args.start c.args.tag _ c.loop-turn.line c.loop-turn.at c.loop-turn.invariant.goes c.if-at-eq0.true c.if-at.true

pub loop-turn-preserved : goal.loop-turn-preserved
loop-turn-preserved c =
    let i = c.loop-turn.invariant in
    let e : 10 - (c.loop-turn._turn + 1) ≡ 10 - c.loop-turn._turn - 1 = omega arith in
    record {
      stays = search rules;
      fits = search rules;
      n = search rules;
      place = search rules;
      goes = rw e (goes_turn c.args.line.now c.args.start c.args.tag (10 - c.loop-turn._turn) c.loop-turn.line c.loop-turn.at i.goes
          c.tab_turn-at.new.line c.tab_turn-at.result i.stays.frame (omega arith)
          (elim c.else-at-eq0.branch [
            | else-at-eq0-via-then-at-eq0+else-at w ↦ no_space c.loop-turn.at.pos c.loop-turn.at.one w.if-at.false
            | else-at-eq0-via-else-at-eq0 w ↦ off_stop c.loop-turn.at.pos c.loop-turn.at.one w.if-at-eq0.false
          ])
          c.tab_turn-at.ensures.turns);
    }

pub returns-clause-tabs : goal.returns-clause-tabs
returns-clause-tabs c =
    goes_ends c.args.line.now c.args.start c.args.tag _ c.loop-turn.line c.loop-turn.at c.loop-turn.invariant.goes (omega arith)
