use mathlib.Core.Path.{◌≡◌}
use native.Mathlib.Omega.{arith}
use borrow.Author.Rules.{rules}
use Rattle.hard_wrap.proofs.Blanks.{writes_none, writes_more}
use Rattle.hard_wrap.proofs.line.OpenLine.write_blanks.Goals as goal

pub loop-written-init : goal.loop-written-init
loop-written-init c =
    record { stays = search rules; blanked = search rules; writes = writes_none c.args.self.now c.args.tag }

pub loop-written-preserved : goal.loop-written-preserved
loop-written-preserved c =
    record { stays = search rules; blanked = search rules; writes = writes_more c.args.self.now c.loop-written.self c.write_blank.new.self c.loop-written._written c.args.tag c.loop-written.invariant.stays.frame c.loop-written.invariant.writes c.write_blank.ensures.writes }

pub returns-clause-writes : goal.returns-clause-writes
returns-clause-writes c =
    let e : c.loop-written._written ≡ c.args.count = omega arith in
    rw (← e) c.loop-written.invariant.writes
