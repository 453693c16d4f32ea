-- `push_ws` meets its contract: the spaces stand behind the entries. Assumes nothing.
use mathlib.Core.Path.{◌∙◌, ap}
use native.Mathlib.Omega.{arith}
use lib.ListN.{length}
use Rattle.lines.specs.Items.{Entries}
use Rattle.lines.proofs.Buffers.{items_put, items_length, part_length, zip_filled}
use Rattle.lines.proofs.line.TaggedLine.push_ws.Goals as goal

pub returns-clause-items : goal.returns-clause-items
returns-clause-items c =
    let len = items_length c.self.inside.bytes.now c.self.inside.tags.now c.self.inside.len (omega arith) (omega arith) in
    let room = ap (λ (e : Entries). e.room) c.self.view_is in
    let size = ap (λ (e : Entries). length e.items) c.self.view_is in
    let bytes = part_length c.self.inside.bytes.now c.self.inside.len c.args.count (omega arith) in
    let tags = part_length c.self.inside.tags.now c.self.inside.len c.args.count (omega arith) in
    rw (← c.self.view_is)
    (items_put c.self.inside.bytes.now c.self.inside.tags.now _ _ c.self.inside.len c.args.count _ _ (omega arith) (omega arith) (c.fill.ensures.len ∙ bytes) (c.fill-2.ensures.len ∙ tags)
    (zip_filled _ _ 32 c.args.tag c.args.count _ _ (c.fill.ensures.after (λ y e. e)) (c.fill-2.ensures.after (λ y e. e)) bytes tags))
