-- `push_str` meets its contract: the bytes stand behind the entries, each with the tag. Assumes nothing.
use mathlib.Core.Path.{◌∙◌, ap}
use native.Mathlib.Omega.{arith}
use lib.ListN.{length}
use Rattle.lines.specs.Items.{Entries}
use Rattle.lines.proofs.Buffers.{items_put, items_length, part_length, zip_text}
use Rattle.lines.proofs.line.TaggedLine.push_str.Goals as goal

pub returns-clause-items : goal.returns-clause-items
returns-clause-items c =
    let len = items_length c.self.inside.bytes.now c.self.inside.tags.now c.self.inside.len (omega arith) (omega arith) in
    let room = ap (λ (e : Entries). e.room) c.self.view_is in
    let size = ap (λ (e : Entries). length e.items) c.self.view_is in
    let bytes = c.copy_slice.ensures.after in
    let tags = part_length c.self.inside.tags.now c.self.inside.len (length c.args.text.now) (omega arith) in
    rw (← c.self.view_is)
    (items_put c.self.inside.bytes.now c.self.inside.tags.now _ _ c.self.inside.len (length c.args.text.now) _ _ (omega arith) (omega arith) (ap length bytes) (c.fill.ensures.len ∙ tags)
    (zip_text c.args.text.now _ _ c.args.tag _ bytes (c.fill.ensures.after (λ y e. e)) tags))
