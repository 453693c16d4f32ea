use mathlib.Core.List.{List}
use mathlib.Core.Path.{◌≡◌}
use Prim.Native.Nat.{ℕ, ◌+◌}
use native.Mathlib.Omega.{arith}
use borrow.Author.Rules.{rules}
use Rattle.characters.specs.Utf8.{text_bytes}
use Rattle.characters.proofs.RoundTrip.{Scalars}
use Rattle.hard_wrap.specs.Walk.{Going}
use Rattle.hard_wrap.proofs.Walks.{part_len, going_start, going_run, going_on, going_end}
use Rattle.hard_wrap.proofs.glyph.width_of.Goals as goal

pub loop-i-init : goal.loop-i-init
loop-i-init c =
    (search rules, search rules, λ cs v e. going_start c.args.part.now cs e)

pub returns-then-i-part : goal.returns-then-i-part
returns-then-i-part c =
    let past : (cs : List ℕ) → Scalars cs → c.args.part.now ≡ text_bytes cs
    → Going c.args.part.now cs (c.loop-i.i + c.plain_run-run.result.len)
    (c.loop-i.used + c.plain_run-run.result.cols) = λ cs v e. going_run c.args.part.now cs c.loop-i.i c.loop-i.used c.plain_run-run.result.len c.plain_run-run.result.cols v c.plain_run-run.ensures.plain_run (c.loop-i.invariant.2 cs v e) in
    record { upper_bound = search rules; widths = λ cs v e. (going_end c.args.part.now cs (c.loop-i.i + c.plain_run-run.result.len) (c.loop-i.used + c.plain_run-run.result.cols) 0 c.if-i-part.true (past cs v e)).1 }

pub loop-i-preserved : goal.loop-i-preserved
loop-i-preserved c =
    let past : (cs : List ℕ) → Scalars cs → c.args.part.now ≡ text_bytes cs
    → Going c.args.part.now cs (c.loop-i.i + c.plain_run-run.result.len)
    (c.loop-i.used + c.plain_run-run.result.cols) = λ cs v e. going_run c.args.part.now cs c.loop-i.i c.loop-i.used c.plain_run-run.result.len c.plain_run-run.result.cols v c.plain_run-run.ensures.plain_run (c.loop-i.invariant.2 cs v e) in (
      omega (arith, c.glyph-g.ensures, part_len c.args.part.now (c.loop-i.i + c.plain_run-run.result.len)),
      omega (arith, c.glyph-g.ensures, c.plain_run-run.ensures.len_in_bounds, c.loop-i.invariant),
      λ cs v e.
          going_on c.args.part.now cs (c.loop-i.i + c.plain_run-run.result.len) (c.loop-i.used + c.plain_run-run.result.cols) c.glyph-g.result.len c.glyph-g.result.cols v c.if-i-part.false c.glyph-g.ensures.shows (past cs v e),
    )
