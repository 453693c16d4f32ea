use native.Mathlib.Omega.{arith}
use Rattle.flush_word.proofs.Trimming.{rest_start, front_end, front_name, front_stop, front_on}
use Rattle.flush_word.proofs.trim.white_front.Goals as goal

pub loop-i-init : goal.loop-i-init
loop-i-init c = (omega arith, rest_start c.args.word.now.items)

pub returns-then-tags-i-ge-MARK-clause-trims_front : goal.returns-then-tags-i-ge-MARK-clause-trims_front
returns-then-tags-i-ge-MARK-clause-trims_front c =
    front_name c.args.word.now.items c.loop-i.i c.loop-i.invariant.1 c.tags-tags.result.now c.tags-tags.ensures c.if-tags-i-ge-MARK.true

pub returns-then-k-eq0-clause-trims_front : goal.returns-then-k-eq0-clause-trims_front
returns-then-k-eq0-clause-trims_front c =
    front_stop c.args.word.now.items c.loop-i.i c.loop-i.invariant.1 c.bytes-bytes.result.now c.bytes-bytes.ensures c.white_len-k.result c.white_len-k.ensures.white c.if-k-eq0.true

pub loop-i-preserved : goal.loop-i-preserved
loop-i-preserved c =
    front_on c.args.word.now.items c.loop-i.i c.loop-i.invariant.1 c.bytes-bytes.result.now c.bytes-bytes.ensures c.white_len-k.result c.white_len-k.ensures.white (omega (arith, c.if-k-eq0.false)) c.white_len-k.ensures.upper_bound c.loop-i.invariant.0

pub returns-clause-trims_front : goal.returns-clause-trims_front
returns-clause-trims_front c =
    front_end c.args.word.now.items c.loop-i.i c.loop-i.invariant.1 c.tags-tags.result.now c.tags-tags.ensures c.loop-i-test.false
