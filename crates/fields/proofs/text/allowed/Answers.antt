-- `fields::text::allowed` meets its contract: a control, a character with columns, and one off the list.
-- Assumes nothing.
use mathlib.Core.Path.{sym, ◌∙◌}
use Rattle.fields.proofs.Texts.{control_allowed, cols_allowed, off_list}
use Rattle.fields.proofs.text.allowed.Goals as goal

pub returns-in-Control : goal.returns-in-Control
returns-in-Control c =
    sym (control_allowed _ _ (sym c.columns_of.ensures ∙ c.in-Control.is))

pub returns-in-Cols : goal.returns-in-Cols
returns-in-Cols c =
    sym (cols_allowed _ _ _ (sym c.columns_of.ensures ∙ c.in-Cols.is))

pub returns-in-OffList : goal.returns-in-OffList
returns-in-OffList c =
    sym (off_list _ _ (sym c.columns_of.ensures ∙ c.in-OffList.is))
