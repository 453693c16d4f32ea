use mathlib.Core.Path.{◌≡◌, ap, sym, ◌∙◌}
use Prim.Native.Nat.{◌+◌, ◌-◌}
use native.Mathlib.Omega.{arith}
use Rattle.std.proofs.lemmas.List.{take_all}
use Rattle.flush_word.proofs.Trimming.{trim, back_none, back_non_space, back_name, back_space, back_done}
use Rattle.flush_word.proofs.trim.trimmed_end.Goals as goal
use Rattle.flush_word.proofs.trim.trimmed_end.Goals.{then-bytes-i-ne32-via-then-bytes-i-ne32, then-bytes-i-ne32-via-else-bytes-i-ne32+then-tags-i-ge-MARK}

pub loop-i-init : goal.loop-i-init
loop-i-init c = sym (ap trim (take_all c.len-i.result c.args.line.now.items (omega (arith, c.len-i.ensures))))

pub returns-then-bytes-i-ne32-clause-trims_back : goal.returns-then-bytes-i-ne32-clause-trims_back
returns-then-bytes-i-ne32-clause-trims_back c =
    let e : c.loop-i.i - 1 + 1 ≡ c.loop-i.i = omega arith in
    rw e (back_done c.args.line.now.items c.loop-i.i (omega arith) c.loop-i.invariant
    (elim c.then-bytes-i-ne32.branch [
      | then-bytes-i-ne32-via-then-bytes-i-ne32 w ↦ back_non_space c.args.line.now.items c.loop-i.i (omega arith) (omega arith) _ _ c.bytes-bytes.ensures c.tags-tags.ensures w.if-bytes-i-ne32.true
      | then-bytes-i-ne32-via-else-bytes-i-ne32+then-tags-i-ge-MARK w ↦ back_name c.args.line.now.items c.loop-i.i (omega arith) (omega arith) _ _ c.bytes-bytes.ensures c.tags-tags.ensures w.if-tags-i-ge-MARK.true
    ]))

pub loop-i-preserved : goal.loop-i-preserved
loop-i-preserved c =
    c.loop-i.invariant ∙ back_space c.args.line.now.items c.loop-i.i (omega arith) (omega arith) _ _ c.bytes-bytes.ensures c.tags-tags.ensures c.if-bytes-i-ne32.false c.if-tags-i-ge-MARK.false

pub returns-clause-trims_back : goal.returns-clause-trims_back
returns-clause-trims_back c =
    let e : c.loop-i.i ≡ 0 = omega arith in
    let done = back_done c.args.line.now.items c.loop-i.i (omega arith) c.loop-i.invariant (back_none c.args.line.now.items c.loop-i.i (omega arith)) in
    rw e at done
