-- Laws of the border that lines start with.
-- Assumes nothing.
use mathlib.Core.Path.{◌≡◌, refl, sym, ap, ◌∙◌}
use mathlib.Core.Bool.{true, false}
use Rattle.std.proofs.Math.Option.{some}
use mathlib.Core.List.{List, [], ◌∷◌}
use Prim.Native.Nat.{ℕ, ◌<◌}
use lib.ListN.{length}
use Rattle.std.specs.Prelude.{Some, None}
use Rattle.characters.proofs.Tests.{clash}
use Rattle.fields.specs.Field.{broken, raws}
use Rattle.fields.specs.List.{whole_of}
use Rattle.fields.specs.Spans.{Hole, RenderLine, text, border}
use Rattle.fields.specs.declared.raw.Field.{Field}
use Rattle.rows.specs.SubRenderer.{is_border, top}
use Rattle.places.specs.declared.border.Border.{Border}
use Rattle.places.specs.Border.{ReadsBorder}
use Rattle.bodies.proofs.LineLaws.{first_line, no_lines, none_first, line_border, line_text}
use Rattle.row_borders.specs.Merge.{FindsFirst}

-- a line that is a border
record Bordered (l : RenderLine) : Type 0 where
  pub annotation : ℕ
  pub segs : List ℕ
  pub holes : List Hole
  pub is : l ≡ border annotation segs holes

bordered : (l : RenderLine) → is_border l ≡ true → Bordered l
bordered (text ps) e = absurd (clash e refl)
bordered (border a segs hs) e = record { annotation = a; segs = segs; holes = hs; is = refl }

-- A border stands first.
pub first_there : (lines rest : List ℕ) (f : Field) (r : Border) → raws lines ≡ whole_of f ∷ raws rest → (f.letter ≡ 0x4C → ⊥)
    → ReadsBorder f.letter f.content.now r → FindsFirst lines (Some r)
first_there lines rest f r e k reads ls l =
    let q = first_line lines rest f ls e l in
    let d = bordered q.one (line_border f.letter f.content.now q.one q.reads k) in
    let is = reads d.annotation d.segs d.holes (q.reads ∙ ap some d.is) in
    ap top q.are ∙ ap (λ (z : RenderLine). top (z ∷ q.more)) d.is ∙ sym is.segments

of_text : (l : RenderLine) (ls : List RenderLine) → is_border l ≡ false → top (l ∷ ls) ≡ []
of_text (text ps) ls e = refl
of_text (border a segs hs) ls e = absurd (clash refl e)

-- A text stands first.
pub first_text : (lines rest : List ℕ) (f : Field) → raws lines ≡ whole_of f ∷ raws rest → f.letter ≡ 0x4C → FindsFirst lines None
first_text lines rest f e k ls l =
    let q = first_line lines rest f ls e l in
    ap top q.are ∙ of_text q.one q.more (line_text f.letter f.content.now q.one q.reads k)

-- No line stands there.
pub first_none : (lines : List ℕ) → (0 < length lines → raws lines ≡ broken ∷ []) → FindsFirst lines None
first_none lines e ls l = ap top (no_lines lines ls (none_first lines ls e l) l)
