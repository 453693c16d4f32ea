-- `row::RowLine::add` meets its contract: the names and then the seats are on the line, or it is only counted where it is too long.
-- Assumes nothing.
use mathlib.Core.Path.{sym, ◌∙◌}
use native.Mathlib.Omega.{arith}
use borrow.Author.Rules.{rules}
use Rattle.extend_lines.proofs.Handing.{bytes_known}
use Rattle.row_lines.proofs.FullLaws.{names_counted, line_added, line_counted}
use Rattle.row_lines.proofs.row.RowLine.add.Goals as goal

pub returns-then-names-gt65535-clause-adds_line : goal.returns-then-names-gt65535-clause-adds_line
returns-then-names-gt65535-clause-adds_line c =
    names_counted _ _ _ c.args.options c.args.self.row.now c.args.self.collapse _ _ _ (bytes_known _ (λ i. omega (arith, c.type_inv.names i))) c.if-names-gt65535.true
    c.too_long.ensures.0.count c.too_long.ensures.1

pub returns-then-is_long-clause-adds_line : goal.returns-then-is_long-clause-adds_line
returns-then-is_long-clause-adds_line c =
    line_counted _ _ _ c.args.options c.args.self.row.now c.args.self.collapse _ _ _ _ _ _ _ _ c.begin_line-begun.ensures.begins_line c.lay_seats-line.ensures.lays_seats (search rules)
    (sym c.is_long.ensures ∙ c.if-is_long.true) c.too_long-then-is_long.ensures.0.count c.too_long-then-is_long.ensures.1

pub returns-clause-adds_line : goal.returns-clause-adds_line
returns-clause-adds_line c =
    line_added _ _ _ c.args.options c.args.self.row.now c.args.self.collapse _ _ _ _ _ _ _ _ c.begin_line-begun.ensures.begins_line c.lay_seats-line.ensures.lays_seats (search rules) _
    (sym c.is_long.ensures ∙ c.if-is_long.false) c.add_text_line.ensures.adds_text_line
