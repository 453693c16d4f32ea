-- A line of the sheet as it reads back: its texts are characters that pass refusal 3, and they have the columns of the flat line.
-- Assumes nothing.
use Rattle.std.proofs.Common.{◌≡◌, ℕ, ◌≤◌, true, false, List, [], ◌∷◌, map, length, refl, ap, ◌∙◌, arith}
use Rattle.characters.specs.Utf8.{Scalar}
use Rattle.characters.proofs.Tests.{by_if}
use Rattle.characters.proofs.RoundTrip.{Scalars, bytes_chars}
use Rattle.fields.specs.Field.{all}
use Rattle.fields.specs.Text.{allowed_in, readable_text}
use Rattle.fields.specs.Widths.{text_width, width}
use Rattle.fields.proofs.Back.{Every}
use Rattle.block.specs.Tag.{Tag, same_tag}
use Rattle.block.specs.TaggedLine.{sum_widths}
use Rattle.block.specs.Demands.{AllTextWithin}
use Rattle.block.specs.Flat.{Item, char, name, Line, columns, Run, run, mark, join, runs, run_piece, flat_sheet_line}
use Rattle.block.proofs.Width.{Within}
use Rattle.block.proofs.Group.{group_width}
use Rattle.block.proofs.Equal.{kept, kept_runs}

-- ---- what stands on a line

-- a character that is a scalar value, on the list and no control; a name that passes refusal 3
abbrev pub Fine : Item → Type 0
Fine (char c t) = Scalar c × (allowed_in false c ≡ true)
Fine (name n) = readable_text false n ≡ true

-- a run has characters, each of them fine
abbrev pub FineRun : Run → Type 0
FineRun (run t cs) = (1 ≤ length cs) × Scalars cs × (all (allowed_in false) cs ≡ true)
FineRun (mark n) = readable_text false n ≡ true

fine_one : (c : ℕ) (t : Tag) → Fine (char c t) → FineRun (run t (c ∷ []))
unfolding all
fine_one c t h = (omega arith, (h.0, tt), rw h.1)

fine_more : (c : ℕ) (t : Tag) (cs : List ℕ) → Fine (char c t) → FineRun (run t cs) → FineRun (run t (c ∷ cs))
unfolding all
fine_more c t cs h (n, k, a) = (omega arith, (h.0, k), rw h.1 a)

fine_join : (c : ℕ) (t : Tag) (ps : List Run) → Fine (char c t) → Every FineRun ps → Every FineRun (join c t ps)
fine_join c t [] h k = (fine_one c t h, tt)
fine_join c t (mark n ∷ ps) h k = (fine_one c t h, k)
fine_join c t (run u cs ∷ ps) h k =
    by_if (Every FineRun) (same_tag t u) (λ _. (fine_more c u cs h k.0, k.1)) (λ _. (fine_one c t h, k))

pub fine_runs : (l : Line) → Every Fine l → Every FineRun (runs l)
unfolding runs
fine_runs [] h = tt
fine_runs (name n ∷ l) h = (h.0, fine_runs l h.1)
fine_runs (char c t ∷ l) h = fine_join c t (runs l) h.0 (fine_runs l h.1)

-- ---- its columns

-- the texts of runs have the columns of their characters
runs_width : (ps : List Run) → Every FineRun ps → width (map run_piece ps) ≡ sum_widths (map kept ps)
unfolding width text_width sum_widths
runs_width [] h = refl
runs_width (run t cs ∷ ps) ((n, k, a), h) = rw (bytes_chars cs k, runs_width ps h)
runs_width (mark n ∷ ps) h = omega (arith, runs_width ps h.1)

-- those of a line, the line's columns
line_width_back : (l : Line) → Every Fine l → width (map run_piece (runs l)) ≡ columns l
line_width_back l h = runs_width (runs l) (fine_runs l h) ∙ ap sum_widths (kept_runs l) ∙ group_width l

-- The texts of the sheet's lines have at most as many columns as the flat lines may have.
pub lines_within : (w : ℕ) (ls : List Line) → Every (Every Fine) ls → Within w ls → AllTextWithin w (map flat_sheet_line ls)
unfolding flat_sheet_line
lines_within w [] h k = tt
lines_within w (l ∷ ls) h k = (rw (line_width_back l h.0) k.0, lines_within w ls h.1 k.1)
