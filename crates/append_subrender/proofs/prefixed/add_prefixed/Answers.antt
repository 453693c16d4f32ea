-- `prefixed::add_prefixed` meets its contract: names that are too long make the line too long; else the line begins with them, the prefix
-- is pushed, and then the pieces of a text are laid or a border is drawn.
-- Assumes nothing.
use mathlib.Core.Path.{refl}
use native.Mathlib.Omega.{arith}
use borrow.Author.Rules.{rules}
use Rattle.rows.proofs.Reading.{Bytes}
use Rattle.extend_lines.proofs.Handing.{bytes_known}
use Rattle.append_subrender.proofs.Adding.{new_within, grown_within, grown_fits, grown_twice, prefixed_long, prefixed_text, prefixed_border}
use Rattle.append_subrender.proofs.prefixed.add_prefixed.Goals as goal

pub too_long-requires : goal.too_long-requires
too_long-requires c =
    c.requires

pub returns-then-names-gt65535 : goal.returns-then-names-gt65535
returns-then-names-gt65535 c =
    let known : Bytes c.args.names.now = bytes_known c.args.names.now (λ i. omega (arith, c.type_inv.names i)) in
    record { one_line_more = c.too_long.ensures.0; adds_prefixed = prefixed_long _ _ _ _ c.args.names.now _ _ _ _ (known) c.if-names-gt65535.true c.too_long.ensures.0 c.too_long.ensures.1 }

pub begin_line-line-requires : goal.begin_line-line-requires
begin_line-line-requires c =
    (c.requires, omega (arith, c.if-names-gt65535.false))

pub push_str-head-requires : goal.push_str-head-requires
push_str-head-requires c =
    new_within _ _ _ c.requires c.begin_line-line.ensures.line_begun.0 (omega (arith, c.args.prefix.short, c.args.prefix.narrow))

pub add_pieces-whole-requires : goal.add_pieces-whole-requires
add_pieces-whole-requires c =
    grown_within _ _ _ _ _ c.requires c.begin_line-line.ensures.line_begun.0 c.push_str-head.ensures.line_grown (omega (arith, c.args.prefix.short, c.args.prefix.narrow, c.args.field.short))

pub add_text_line-requires : goal.add_text_line-requires
add_text_line-requires c =
    (c.requires, grown_fits _ _ _ _ c.begin_line-line.ensures.line_begun.0 (grown_twice _ _ _ _ _ c.push_str-head.ensures.line_grown c.add_pieces-whole.ensures.line_grown) (omega (arith, c.args.prefix.short, c.args.prefix.narrow, c.args.field.short)))

pub returns-then-field-eq76 : goal.returns-then-field-eq76
returns-then-field-eq76 c =
    let known : Bytes c.args.names.now = bytes_known c.args.names.now (λ i. omega (arith, c.type_inv.names i)) in
    record { one_line_more = c.add_text_line.ensures.one_line_more; adds_prefixed = prefixed_text _ _ _ _ _ _ _ _ c.args.names.now _ _ _ _ _ _ _ _ (known) refl c.if-field-eq76.true (search rules) c.begin_line-line.ensures.begins_line c.push_str-head.ensures.pushes c.add_pieces-whole.ensures.adds_pieces c.add_text_line.ensures.adds_text_line }

pub push_holed-drawn-requires : goal.push_holed-drawn-requires
push_holed-drawn-requires c =
    (omega arith, grown_within _ _ _ _ _ c.requires c.begin_line-line.ensures.line_begun.0 c.push_str-head.ensures.line_grown (omega (arith, c.args.prefix.short, c.args.prefix.narrow, c.args.field.short, c.of.ensures.within)))

pub add_text_line-requires-2 : goal.add_text_line-requires-2
add_text_line-requires-2 c =
    (c.requires, grown_fits _ _ _ _ c.begin_line-line.ensures.line_begun.0 (grown_twice _ _ _ _ _ c.push_str-head.ensures.line_grown c.push_holed-drawn.ensures.line_grown) (omega (arith, c.args.prefix.short, c.args.prefix.narrow, c.args.field.short, c.of.ensures.within)))

pub returns : goal.returns
returns c =
    record { one_line_more = c.add_text_line-2.ensures.one_line_more; adds_prefixed = prefixed_border _ _ _ _ _ _ _ _ _ _ _ _ _ _ _ _ _ c.if-field-eq76.false (search rules) c.begin_line-line.ensures.begins_line c.push_str-head.ensures.pushes c.of.ensures.reads_border c.push_holed-drawn.ensures.pushes_holed c.add_text_line-2.ensures.adds_text_line }
