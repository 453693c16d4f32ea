use mathlib.Core.Path.{◌≡◌, sym, ◌∙◌}
use mathlib.Core.List.{List}
use Prim.Native.Nat.{ℕ, ◌+◌, ◌-◌}
use native.Mathlib.Omega.{arith}
use lib.ListN.{length, take, drop}
use Rattle.characters.specs.Utf8.{char, decode_of}
use Rattle.fields.proofs.Counting.{Counted, count_start, count_run, counted_size, count_on, count_bad, count_end}
use Rattle.fields.proofs.width.walked_width.Goals as goal

pub loop-at-init : goal.loop-at-init
loop-at-init c =
    count_start _

pub overflow_add-cols : goal.overflow_add-cols
overflow_add-cols c =
    let whole : List ℕ = c.args.text.now in
    let past : ℕ = c.loop-at.at + c.plain_run-run.result.len in
    let sum : ℕ = c.loop-at.cols + c.plain_run-run.result.cols in
    let ran : Counted (whole) (past) (sum) = count_run _ _ _ c.loop-at.invariant _ _ _ c.plain_run-run.ensures.len_in_bounds.0 c.plain_run-run.ensures.len_in_bounds.1 c.plain_run-run.ensures.plain_run in
    omega (arith, (ran).inside, (ran).few)

pub overflow_add-at : goal.overflow_add-at
overflow_add-at c =
    let whole : List ℕ = c.args.text.now in
    let past : ℕ = c.loop-at.at + c.plain_run-run.result.len in
    let sum : ℕ = c.loop-at.cols + c.plain_run-run.result.cols in
    let ran : Counted (whole) (past) (sum) = count_run _ _ _ c.loop-at.invariant _ _ _ c.plain_run-run.ensures.len_in_bounds.0 c.plain_run-run.ensures.len_in_bounds.1 c.plain_run-run.ensures.plain_run in
    omega (arith, (ran).inside)

pub returns-then-at-text : goal.returns-then-at-text
returns-then-at-text c =
    let whole : List ℕ = c.args.text.now in
    let past : ℕ = c.loop-at.at + c.plain_run-run.result.len in
    let sum : ℕ = c.loop-at.cols + c.plain_run-run.result.cols in
    let ran : Counted (whole) (past) (sum) = count_run _ _ _ c.loop-at.invariant _ _ _ c.plain_run-run.ensures.len_in_bounds.0 c.plain_run-run.ensures.len_in_bounds.1 c.plain_run-run.ensures.plain_run in
    let w = ran in
    record { upper_bound = omega (arith, w.inside, w.few); value = count_end _ _ _ w c.if-at-text.true }

pub overflow_add-cols-in-loop-at : goal.overflow_add-cols-in-loop-at
overflow_add-cols-in-loop-at c =
    let whole : List ℕ = c.args.text.now in
    let past : ℕ = c.loop-at.at + c.plain_run-run.result.len in
    let sum : ℕ = c.loop-at.cols + c.plain_run-run.result.cols in
    let ran : Counted (whole) (past) (sum) = count_run _ _ _ c.loop-at.invariant _ _ _ c.plain_run-run.ensures.len_in_bounds.0 c.plain_run-run.ensures.len_in_bounds.1 c.plain_run-run.ensures.plain_run in
    let w = ran in omega (arith, w.inside, w.few)

pub overflow_add-at-in-loop-at : goal.overflow_add-at-in-loop-at
overflow_add-at-in-loop-at c =
    let whole : List ℕ = c.args.text.now in
    let past : ℕ = c.loop-at.at + c.plain_run-run.result.len in
    let sum : ℕ = c.loop-at.cols + c.plain_run-run.result.cols in
    let ran : Counted (whole) (past) (sum) = count_run _ _ _ c.loop-at.invariant _ _ _ c.plain_run-run.ensures.len_in_bounds.0 c.plain_run-run.ensures.len_in_bounds.1 c.plain_run-run.ensures.plain_run in
    let passed : decode_of (take (length (whole) - past) (drop (past) (whole)))
    ≡ char c.in-Some.first.code c.in-Some.first.len = sym c.decode.ensures ∙ c.in-Some.is in
    omega (arith, (counted_size _ _ _ (ran) _ _ (passed)).1)

pub loop-at-smaller : goal.loop-at-smaller
loop-at-smaller c =
    let whole : List ℕ = c.args.text.now in
    let past : ℕ = c.loop-at.at + c.plain_run-run.result.len in
    let sum : ℕ = c.loop-at.cols + c.plain_run-run.result.cols in
    let ran : Counted (whole) (past) (sum) = count_run _ _ _ c.loop-at.invariant _ _ _ c.plain_run-run.ensures.len_in_bounds.0 c.plain_run-run.ensures.len_in_bounds.1 c.plain_run-run.ensures.plain_run in
    let passed : decode_of (take (length (whole) - past) (drop (past) (whole)))
    ≡ char c.in-Some.first.code c.in-Some.first.len = sym c.decode.ensures ∙ c.in-Some.is in
    let (lo, hi) = counted_size _ _ _ (ran) _ _ (passed) in
    omega (arith, lo, hi)

pub loop-at-preserved : goal.loop-at-preserved
loop-at-preserved c =
    let whole : List ℕ = c.args.text.now in
    let past : ℕ = c.loop-at.at + c.plain_run-run.result.len in
    let sum : ℕ = c.loop-at.cols + c.plain_run-run.result.cols in
    let ran : Counted (whole) (past) (sum) = count_run _ _ _ c.loop-at.invariant _ _ _ c.plain_run-run.ensures.len_in_bounds.0 c.plain_run-run.ensures.len_in_bounds.1 c.plain_run-run.ensures.plain_run in
    let passed : decode_of (take (length (whole) - past) (drop (past) (whole)))
    ≡ char c.in-Some.first.code c.in-Some.first.len = sym c.decode.ensures ∙ c.in-Some.is in
    count_on _ _ _ (ran) _ _ _ (passed) c.char_width-cols.ensures.upper_bound c.char_width-cols.ensures.value

pub returns-in_default : goal.returns-in_default
returns-in_default c =
    let whole : List ℕ = c.args.text.now in
    let past : ℕ = c.loop-at.at + c.plain_run-run.result.len in
    let sum : ℕ = c.loop-at.cols + c.plain_run-run.result.cols in
    let ran : Counted (whole) (past) (sum) = count_run _ _ _ c.loop-at.invariant _ _ _ c.plain_run-run.ensures.len_in_bounds.0 c.plain_run-run.ensures.len_in_bounds.1 c.plain_run-run.ensures.plain_run in
    let e = sym c.decode.ensures ∙ c.in_default.is in
    record { upper_bound = omega arith; value = count_bad _ _ _ (ran) c.if-at-text.false e }
