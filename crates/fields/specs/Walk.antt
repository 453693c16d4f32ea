-- The refusals of fields as they stand, as the code walks them: a field is judged by what its list holds (document 01, "What is refused").
-- Assumes nothing: these are definitions.
use Rattle.std.specs.Prelude.{false, ℕ, if◌then◌else◌}
use Rattle.fields.specs.Field.{Raw}
use Rattle.fields.specs.Text.{readable_text}
use Rattle.fields.specs.First.{refusal_of, unless}
use Rattle.fields.specs.Job.{read_field, is_wrong, readable}
use Rattle.fields.specs.Sheet.{read_piece, read_prefix, readable_piece}
use Rattle.fields.specs.Spans.{read_name}

-- 1 or 3 of a T or an F field of a job
unfoldable pub field_refusal : Raw → ℕ
field_refusal r = if is_wrong (read_field r) then 1 else unless (readable (read_field r))

-- 1 or 3 of a piece
unfoldable pub piece_refusal : Raw → ℕ
piece_refusal r = refusal_of (λ p. unless (readable_piece p)) (read_piece r)

-- 1 or 3 of a prefix
unfoldable pub prefix_refusal : Raw → ℕ
prefix_refusal r = refusal_of (λ p. unless (readable_text false p)) (read_prefix r)

-- 1 or 3 of a name that waits
unfoldable pub name_refusal : Raw → ℕ
name_refusal r = refusal_of (λ n. unless (readable_text false n)) (read_name r)
