-- `consume` meets its contract: the other line's entries stand behind those there. Assumes nothing.
use mathlib.Core.Path.{◌∙◌, ap, sym}
use native.Mathlib.Omega.{arith}
use lib.ListN.{length, length-map}
use Rattle.lines.specs.Items.{Entries, byte_of, tag_of}
use Rattle.lines.proofs.Buffers.{items_put, items_length, zip_copies}
use Rattle.lines.proofs.line.TaggedLine.consume.Goals as goal

pub returns-clause-items : goal.returns-clause-items
returns-clause-items c =
    let len = items_length c.self.inside.bytes.now c.self.inside.tags.now c.self.inside.len (omega arith) (omega arith) in
    let room = ap (λ (e : Entries). e.room) c.self.view_is in
    let size = ap (λ (e : Entries). length e.items) c.self.view_is in
    let bytes = c.copy_slice.ensures.after ∙ c.bytes.ensures in
    let tags = c.copy_slice-2.ensures.after ∙ c.tags.ensures in
    rw (← c.self.view_is)
    (items_put c.self.inside.bytes.now c.self.inside.tags.now _ _ c.self.inside.len c.len.result _ _ (omega arith) (omega arith) (ap length bytes ∙ length-map c.args.more.now.items byte_of ∙ sym c.len.ensures) (ap length tags ∙ length-map c.args.more.now.items tag_of ∙ sym c.len.ensures)
    (zip_copies c.args.more.now.items _ _ bytes tags))
