-- A row of plain cells: refusal 10 cannot be, its border has no holes, and nothing hangs on.
-- Assumes nothing.
use mathlib.Core.Path.{◌≡◌, refl, ap, ap₂, ◌∙◌}
use mathlib.Core.Bool.{Bool, true, false, ◌||◌}
use mathlib.Core.Option.{Option, none, some}
use mathlib.Core.List.{List, [], ◌∷◌, map}
use Prim.Native.Nat.{ℕ, zero, suc, ◌+◌, ◌≤◌}
use lib.ListN.{length}
use borrow.Author.Tests.{le-leb}
use Rattle.characters.proofs.Tests.{and_left, and_right, clash}
use Rattle.fields.specs.Field.{all}
use Rattle.fields.proofs.Back.{Every}
use Rattle.rows.specs.declared.RenderOptions.{RenderOptions}
use Rattle.fields.specs.Spans.{RenderLine, text, border}
use Rattle.rows.specs.SubRenderer.{rest}
use Rattle.rows.specs.Columns.{Slot, Column, column_of, overlaps, too_wide, cell_misfit, next_column, columns_height, column_misfit, any_misfit, holes_of, any_past, hangs_of, row_misfit}
use Rattle.rows.proofs.Columns.{misfit_columns}
use Rattle.bodies.specs.Walk.{unholed}
use Rattle.seats.specs.Survey.{PlainSlot}
use Rattle.seats.proofs.SurveyLaws.{column_span, column_width}

-- ---- refusal 10

-- no wider than the row
fits_wide : (total w : ℕ) (o : Option (List ℕ)) → w ≤ total → too_wide total w o ≡ false
fits_wide total w none h = rw (le-leb w total h)
fits_wide total w (some b) h = refl

-- without holes
fits_line : (total : ℕ) (c : Column) (ls : List RenderLine) → c.width ≤ total → all unholed ls ≡ true → cell_misfit total c ls ≡ false
unfolding all overlaps
fits_line total c [] h k = fits_wide total c.width c.bottom h
fits_line total c (text ps ∷ ls) h k = refl
fits_line total c (border a segs [] ∷ ls) h k = refl
fits_line total c (border a segs (x ∷ hs) ∷ ls) h k = absurd (clash (and_left false (all unholed ls) k) refl)

bare_rest : (ls : List RenderLine) → all unholed ls ≡ true → all unholed (rest ls) ≡ true
unfolding all
bare_rest [] h = h
bare_rest (l ∷ ls) h = and_right (unholed l) (all unholed ls) h

fits_column : (total n : ℕ) (c : Column) → c.width ≤ total → all unholed c.lines ≡ true → column_misfit total n c ≡ false
unfolding column_misfit next_column
fits_column total zero c h k = refl
fits_column total (suc n) c h k =
    ap₂ (λ (x y : Bool). x || y) (fits_line total c c.lines h k) (fits_column total n (next_column c) h (bare_rest c.lines k))

fits_columns : (total n : ℕ) (collapse : Bool) (xs : List Slot) → Every (PlainSlot collapse total) xs
    → any_misfit total n (map (column_of collapse) xs) ≡ false
unfolding any_misfit
fits_columns total n collapse [] p = refl
fits_columns total n collapse (x ∷ xs) p =
    let q = p.0 in
    ap₂ (λ (y z : Bool). y || z) (fits_column total n (column_of collapse x) (rw (column_width collapse x) q.narrow) q.bare)
    (fits_columns total n collapse xs p.1)

-- ---- holes and what hangs

-- NO HOLES: each cell ends above the border.
pub plain_holes : (o : RenderOptions) (n pos total : ℕ) (collapse : Bool) (xs : List Slot) → Every (PlainSlot collapse total) xs
    → holes_of o n pos (map (column_of collapse) xs) ≡ []
unfolding holes_of
plain_holes o n pos total collapse [] p = refl
plain_holes o n pos total collapse (x ∷ xs) p =
    let s : (column_of collapse x).span ≡ 1 = column_span collapse x ∙ p.0.one in
    rw s (plain_holes o n (pos + (column_of collapse x).width + 1) total collapse xs p.1)

-- NOTHING HANGS ON.
pub plain_hangs : (o : RenderOptions) (n total : ℕ) (collapse : Bool) (xs : List Slot) → Every (PlainSlot collapse total) xs
    → hangs_of o n (map (column_of collapse) xs) ≡ []
unfolding hangs_of
plain_hangs o n total collapse [] p = refl
plain_hangs o n total collapse (x ∷ xs) p =
    let s : (column_of collapse x).span ≡ 1 = column_span collapse x ∙ p.0.one in
    rw s (plain_hangs o n total collapse xs p.1)

-- THE ROW FITS OVER ANY BORDER.
pub plain_fits : (o : RenderOptions) (total : ℕ) (collapse : Bool) (xs : List Slot) (b : List ℕ) → Every (PlainSlot collapse total) xs
    → row_misfit o total (map (column_of collapse) xs) b ≡ false
unfolding row_misfit any_past
plain_fits o total collapse xs b p =
    let cols = map (column_of collapse) xs in
    let n = columns_height cols in
    ap₂ (λ (x y : Bool). x || y) (misfit_columns total n cols ∙ fits_columns total n collapse xs p)
    (ap (any_past (length b)) (plain_holes o n 0 total collapse xs p))
