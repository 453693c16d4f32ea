-- `characters::plain::plain_run` meets its contract: the bytes that are passed over are a run of plain characters, and each turn adds one.
-- Assumes nothing.
use native.Mathlib.Omega.{arith}
use Prim.Native.Nat.{◌≤◌, ◌<◌}
use lib.ListN.{get_or}
use Rattle.std.proofs.lemmas.Bool.Decides.{nat_tests}
use Rattle.characters.proofs.Runs.{run_none, run_ascii, run_three, front_at}
use Rattle.characters.proofs.plain.plain_run.Goals as goal

pub loop-at-init : goal.loop-at-init
loop-at-init c =
    (omega arith, omega arith, run_none)

pub loop-at-preserved-then-contains : goal.loop-at-preserved-then-contains
loop-at-preserved-then-contains c =
    let low : c.least_plain-low.result ≤ get_or c.args.s.now c.loop-at.at 0 = grind (arith, nat_tests) in
    let high : get_or c.args.s.now c.loop-at.at 0 < 0x7F = grind (arith, nat_tests) in
    (omega arith, omega arith, run_ascii c.loop-at.invariant.2 c.loop-at-test.true (omega (arith, c.least_plain-low.ensures)) high)

pub overflow_add-cols-else-contains : goal.overflow_add-cols-else-contains
overflow_add-cols-else-contains c =
    let (l, k, p) = front_at c.args.s.now c.loop-at.at _ c.loop-at.invariant.0 c.in-Some.ensures in
    omega arith

pub loop-at-preserved : goal.loop-at-preserved
loop-at-preserved c =
    let (l, k, p) = front_at c.args.s.now c.loop-at.at _ c.loop-at.invariant.0 c.in-Some.ensures in
    (l, omega arith, run_three c.loop-at.invariant.2 _ p)
