-- `fields::prefixes::check_prefixes` meets its contract: the refusal of its fields is that of the whole.
-- Assumes nothing.
use borrow.Author.Rules.{rules}
use Rattle.std.proofs.Common.{◌∙◌}
use Rattle.fields.specs.Walk.{prefix_refusal}
use Rattle.fields.proofs.Sheets.{prefix_crooked, prefixes_all}
use Rattle.fields.proofs.prefixes.check_prefixes.Goals as goal

pub returns : goal.returns
returns c =
    c.check_fields.ensures prefix_refusal (record { answers = λ f r p. search rules; crooked = prefix_crooked }) ∙ prefixes_all _
