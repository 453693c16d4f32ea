-- `read_full` meets its contract: each read goes on behind what the reads before it filled. Assumes nothing.
use Rattle.std.proofs.Common.{◌≡◌, ℕ, ◌+◌, ◌-◌, ◌≤◌, List, ◌++◌, rules, length, take, sym, ap, ◌∙◌, subst, le_refl, drop_at, length-take-le}
use mathlib.Core.Path.{ap₂}
use Rattle.std.proofs.lemmas.Slice.{take-put_mid_below}
use Rattle.std.specs.Io.KnownBytes.{Consumes}
use Rattle.std.proofs.KnownBytes.{Consumes-trans}
use borrow.Rule.Slice.PartMut.{put_mid, post_of}
use lib.Seq.{take-add, take-append-le}
use Rattle.input.proofs.read_full.Goals as goal

-- what is filled after a read: what was before, and then what the read gave
filled : (at k n : ℕ) (old new : List ℕ) → at ≤ length old → n ≤ length new → take (at + n) (put_mid at k old new) ≡ take at old ++ take n new
filled at k n old new h e =
    let behind = drop_at (take at old) (new ++ post_of at k old) at (length-take-le at old h) in
    take-add at n (put_mid at k old new)
    ∙ ap₂ (λ l m. l ++ m) (take-put_mid_below _ _ _ _ _ (le_refl _) h) (ap (take n) behind ∙ take-append-le n new (post_of at k old) e)

pub loop-at-preserved : goal.loop-at-preserved
loop-at-preserved g c =
    let same = filled c.loop-at.at (length c.loop-at.bytes - c.loop-at.at) c.in_ok-n.n c.loop-at.bytes c.read.new.buf c.loop-at.invariant.0 c.in_ok-n.ensures.bound.0 in
    (search rules, subst (Consumes _ _) (sym same) (Consumes-trans _ _ _ _ _ c.loop-at.invariant.1 c.in_ok-n.ensures.bytes.0))
