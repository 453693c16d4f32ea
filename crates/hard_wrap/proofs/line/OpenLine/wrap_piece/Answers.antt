use Prim.Native.Nat.{◌+◌, ◌-◌, ◌≤◌}
use native.Mathlib.Omega.{arith}
use Rattle.std.proofs.lemmas.Result.{MatchResult-from_err}
use Rattle.hard_wrap.proofs.Walks.{part, Stopped, walk_start, walk_run, walk_end, walk_char, walk_stop}
use Rattle.hard_wrap.proofs.Piecewise.{walked_start, walked_on, walked_stuck, walked_rest, walked_end}
use Rattle.hard_wrap.proofs.line.OpenLine.wrap_piece.Goals as goal
use Rattle.hard_wrap.proofs.line.OpenLine.wrap_piece.Goals.{then-idx-rest, else-idx-rest+then-left-used, then-loop-bpos-test+else-wpos-self, else-loop-bpos-test}

pub loop-bpos-init : goal.loop-bpos-init
loop-bpos-init c =
    walked_start c.args.self.now c.args.piece.now c.args.tag c.requires.cols_le_width c.requires.room.lines

pub walk-init : goal.walk-init
walk-init c = walk_start _ _

pub walk-preserved : goal.walk-preserved
walk-preserved c =
    let on = walk_run _ _ _ _ c.walk.invariant _ _ c.plain_within-run.ensures.len_in_bounds c.plain_within-run.ensures.plain_run in
    walk_char _ _ _ _ on _ _ c.if-idx-rest.false c.glyph-g.ensures.shows c.glyph-g.ensures.len_nonzero.1 c.if-left-used.false

pub loop-bpos-preserved : goal.loop-bpos-preserved
loop-bpos-preserved c =
    let on = walk_run _ _ _ _ c.walk.invariant _ _ c.plain_within-run.ensures.len_in_bounds c.plain_within-run.ensures.plain_run in
    let stop : Stopped (part c.args.piece.now c.loop-bpos.bpos) (c.loop-bpos.self.frame.width - c.loop-bpos.self.cols) c.if-idx-rest.split (c.walk.used + c.plain_within-run.result.cols) =
    elim c.if-idx-rest.branch [
      | then-idx-rest y ↦ rw y.split-is (walk_end _ _ _ _ on y.if-idx-rest.true)
      | else-idx-rest+then-left-used y ↦ rw y.split-is (walk_stop _ _ _ _ on _ _ y.if-idx-rest.false y.glyph-g.ensures.shows y.if-left-used.true)
    ] in
    walked_on _ _ _ _ _ _ c.loop-bpos.invariant c.width_of-w.result _ _ c.width_of-w.ensures.widths c.if-wpos-self.true stop
    c.in_ok-step.step c.wrap_line.new.self c.in_ok-step.ensures.stays c.in_ok-step.ensures.forward c.in_ok-step.ensures.wraps_line

pub returns-in_err-step-clause-pieces : goal.returns-in_err-step-clause-pieces
returns-in_err-step-clause-pieces c =
    let on = walk_run _ _ _ _ c.walk.invariant _ _ c.plain_within-run.ensures.len_in_bounds c.plain_within-run.ensures.plain_run in
    let stop : Stopped (part c.args.piece.now c.loop-bpos.bpos) (c.loop-bpos.self.frame.width - c.loop-bpos.self.cols) c.if-idx-rest.split (c.walk.used + c.plain_within-run.result.cols) =
    elim c.if-idx-rest.branch [
      | then-idx-rest y ↦ rw y.split-is (walk_end _ _ _ _ on y.if-idx-rest.true)
      | else-idx-rest+then-left-used y ↦ rw y.split-is (walk_stop _ _ _ _ on _ _ y.if-idx-rest.false y.glyph-g.ensures.shows y.if-left-used.true)
    ] in
    λ d₀ base b t cs h ta ann sc e.
    MatchResult-from_err _ _ _ c.from_residual.ensures.0
    (λ n. walked_stuck _ _ _ _ _ _ c.loop-bpos.invariant c.width_of-w.result _ _ c.width_of-w.ensures.widths c.if-wpos-self.true stop
    n c.wrap_line.new.self c.in_err-step.ensures.wraps_line d₀ base b t cs h ta ann sc e)

pub returns-then-bpos-piece-clause-pieces : goal.returns-then-bpos-piece-clause-pieces
returns-then-bpos-piece-clause-pieces c =
    let fit : c.width_of-w.result ≤ c.loop-bpos.wpos + (c.loop-bpos.self.frame.width - c.loop-bpos.self.cols) =
    elim c.loop-bpos-test.branch [ then-loop-bpos-test+else-wpos-self y ↦ y.if-wpos-self.false | else-loop-bpos-test y ↦ absurd (omega (arith, y.loop-bpos-test.false, c.if-bpos-piece.true)) ] in
    walked_rest _ _ _ _ _ _ c.loop-bpos.invariant c.width_of-w.result c.saturating_sub-used.result c.put_text.new.self c.width_of-w.ensures.widths c.saturating_sub-used.ensures fit c.put_text.ensures.puts_text

pub returns-else-bpos-piece-clause-pieces : goal.returns-else-bpos-piece-clause-pieces
returns-else-bpos-piece-clause-pieces c =
    walked_end _ _ _ _ _ _ c.loop-bpos.invariant c.if-bpos-piece.false
