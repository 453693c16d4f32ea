-- `render::body::add_run` meets its contract: three bytes and text, of a mode that there is.
-- Assumes nothing.
use Rattle.std.proofs.Common.{refl, arith}
use Rattle.render.proofs.Adding.{short_wrong, mode_wrong, text_bytes_lem, adds_nothing, adds_text}
use Rattle.render.proofs.body.add_run.Goals as goal

pub returns-in_default-clause-adds_field : goal.returns-in_default-clause-adds_field
returns-in_default-clause-adds_field c = adds_nothing c.args.block.now _ 0x54 (short_wrong 0x54 _ refl c.in_default.len_below)

pub returns-in_default-try_from-clause-adds_field : goal.returns-in_default-try_from-clause-adds_field
returns-in_default-try_from-clause-adds_field c =
    adds_nothing c.args.block.now _ 0x54 (mode_wrong 0x54 _ refl c.in_default-try_from.ensures)

pub add_text-requires-clause-run_small : goal.add_text-requires-clause-run_small
add_text-requires-clause-run_small c =
    let bytes = text_bytes_lem c.in-Ok.mode _ c.in-len3-up.len_at_least c.in-Ok.ensures in
    let main = (c.type_inv.content 1).fits in
    let wrap = (c.type_inv.content 2).fits in
    (record { main = omega (arith, main, c.from.ensures); wrap = omega (arith, wrap, c.from-2.ensures) }, omega (arith, bytes, c.requires.content_bound))

pub returns-clause-text_small : goal.returns-clause-text_small
returns-clause-text_small c = rw (text_bytes_lem c.in-Ok.mode _ c.in-len3-up.len_at_least c.in-Ok.ensures) at c.add_text.ensures.text_small

pub returns-clause-adds_field : goal.returns-clause-adds_field
returns-clause-adds_field c =
    adds_text c.args.block.now _ _ c.add_text.result c.add_text.new.block c.in-len3-up.len_at_least c.in-Ok.ensures c.from.ensures c.from-2.ensures c.add_text.ensures.adds_text
