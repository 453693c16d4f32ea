-- `push` meets its contract: there is room for one entry more. Assumes nothing.
use mathlib.Core.Path.{ap}
use native.Mathlib.Omega.{arith}
use lib.ListN.{length, length-set}
use Rattle.lines.specs.Items.{Entries}
use Rattle.lines.proofs.Buffers.{items_length}
use Rattle.lines.proofs.line.TaggedLine.push.Goals as goal

pub invariant_of-self : goal.invariant_of-self
invariant_of-self c =
    let len = items_length c.self.inside.bytes.now c.self.inside.tags.now c.self.inside.len (omega arith) (omega arith) in
    let room = ap (λ (e : Entries). e.room) c.self.view_is in
    let size = ap (λ (e : Entries). length e.items) c.self.view_is in
    simp length-set (omega arith, omega arith)
