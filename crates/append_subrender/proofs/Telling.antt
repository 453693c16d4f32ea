-- Laws of refusal 10 as the code tells it: of one line, of the first lines of a list, of a guest, of cells.
-- Assumes nothing.
use mathlib.Core.Path.{◌≡◌, refl, sym, ap, ap₂, ◌∙◌}
use mathlib.Core.Bool.{Bool, true, false, ◌||◌}
use mathlib.Core.Option.{some}
use mathlib.Core.List.{List, [], ◌∷◌}
use Prim.Native.Nat.{ℕ, zero, suc, ◌≤◌}
use native.Mathlib.Omega.{arith}
use lib.ListN.{length, take}
use Rattle.fields.specs.Field.{Raw, whole, broken, raws, read_all}
use Rattle.fields.specs.Sheet.{read_prefix}
use Rattle.fields.proofs.Fields.{raws_few}
use Rattle.fields.proofs.Readings.{read_first, read_none, read_size}
use Rattle.fields.specs.Spans.{RenderLine, text, border, Cell, read_line, read_plain_cell}
use Rattle.rows.specs.Columns.{overlaps}
use Rattle.holes.specs.Overlap.{any_overlaps, TellsLines}
use Rattle.append_subrender.specs.Misfit.{any_overlapping, cells_misfit, TellsGuest, TellsCell, TellsCellFields, TellsCells}
use Rattle.append_subrender.proofs.Pairing.{guest_none, guest_all, guest_first, cell_whole, cells_misfit_on, cells_misfit_none}
use Rattle.append_subrender.proofs.Adding.{own_segments}
use Rattle.append_subrender.proofs.Stacking.{cell_lines_lem, no_width_lem, no_cells_read}

-- ---- lines

-- the first lines, so many at most, stretched to no width
first_lines : (most : ℕ) (gs : List RenderLine) → any_overlaps 0 most gs ≡ any_overlapping (take most gs)
unfolding any_overlaps any_overlapping
first_lines zero gs = refl
first_lines (suc most) [] = refl
first_lines (suc most) (text ps ∷ gs) = first_lines most gs
first_lines (suc most) (border a segs hs ∷ gs) =
    ap₂ (λ (x y : Bool). x || y) (ap (λ (ss : List ℕ). overlaps ss 0 hs) (own_segments segs)) (first_lines most gs)

lines_told : (bytes : List ℕ) (most : ℕ) (r : Bool) → TellsLines bytes most 0 r → (gs : List RenderLine) → read_all read_line (raws bytes) ≡ some gs
    → r ≡ any_overlapping (take most gs)
lines_told bytes most r told gs read = told gs (record { reads = read }) ∙ first_lines most gs

-- ---- a guest

lines_few : (bs : List ℕ) (gs : List RenderLine) → read_all read_line (raws bs) ≡ some gs → length gs ≤ length bs
lines_few bs gs e = omega (arith, read_size read_line (raws bs) gs e, raws_few bs)

pub guest_has_none : (guest prefixes : List ℕ) (rep : Bool) (n : ℕ) → n ≡ length (raws prefixes) → n ≡ 0 → TellsGuest guest prefixes rep false
guest_has_none guest prefixes rep n k z gs ps read reads =
    guest_none rep gs ps (sym (read_size read_prefix (raws prefixes) ps reads) ∙ sym k ∙ z)

pub guest_repeats : (guest prefixes : List ℕ) (rep : Bool) (n : ℕ) (r : Bool) → n ≡ length (raws prefixes) → (n ≡ 0 → ⊥) → rep ≡ true
    → TellsLines guest (length guest) 0 r → TellsGuest guest prefixes rep r
guest_repeats guest prefixes rep n r k h so told gs ps read reads =
    lines_told guest (length guest) r told gs read
    ∙ guest_all rep gs ps (length guest) so (λ z. h (k ∙ read_size read_prefix (raws prefixes) ps reads ∙ z)) (lines_few guest gs read)

pub guest_counts : (guest prefixes : List ℕ) (rep : Bool) (n : ℕ) (r : Bool) → n ≡ length (raws prefixes) → rep ≡ false
    → TellsLines guest n 0 r → TellsGuest guest prefixes rep r
guest_counts guest prefixes rep n r k clear told gs ps read reads =
    lines_told guest n r told gs read ∙ guest_first rep gs ps n clear (k ∙ read_size read_prefix (raws prefixes) ps reads)

-- ---- cells

-- a cell's lines tell
pub cell_told : (letter w : ℕ) (bytes body : List ℕ) (t : Bool) → bytes ≡ w ∷ body → TellsLines body (length body) 0 t → TellsCell (whole letter bytes) t
cell_told letter w bytes body t is told c read =
    let reads = cell_lines_lem letter w body c (rw is at read) in
    lines_told body (length body) t told c.lines reads ∙ cell_whole c.lines (length body) (lines_few body c.lines reads)

-- what has no width is no cell
pub cell_empty : (letter : ℕ) (bytes : List ℕ) (t : Bool) → bytes ≡ [] → TellsCell (whole letter bytes) t
cell_empty letter bytes t is c read = absurd (no_width_lem letter c (rw is at read))

pub cells_none_left : TellsCellFields [] false
cells_none_left cs read = sym (ap cells_misfit (read_none read_plain_cell cs read) ∙ cells_misfit_none)

pub cells_broken : (rest : List Raw) (r : Bool) → TellsCellFields (broken ∷ rest) r
cells_broken rest r cs read = absurd (no_cells_read rest cs read)

-- the first cell tells
first_cell : (field : Raw) (rest : List Raw) (t : Bool) → TellsCell field t → (cs : List Cell) → read_all read_plain_cell (field ∷ rest) ≡ some cs
    → (more : List Cell) × (read_all read_plain_cell rest ≡ some more) × (cells_misfit cs ≡ (t || cells_misfit more))
first_cell field rest t told cs read =
    let x = read_first read_plain_cell field rest cs read in
    (x.more, x.later, ap cells_misfit x.are ∙ cells_misfit_on x.one x.more ∙ ap (λ (b : Bool). b || cells_misfit x.more) (sym (told x.one x.first)))

-- The cells so far do not overlap, and those that are left tell.
pub record LookedCells (cells : List ℕ) (left : List Raw) : Type 0 where
  pub rest : (r : Bool) → TellsCellFields left r → TellsCells cells r

pub cells_start : (cells : List ℕ) (left : List Raw) → left ≡ raws cells → LookedCells cells left
cells_start cells left e = rw e (record { rest = λ r t. t })

module _ (cells : List ℕ) (left : List Raw) (w : LookedCells cells left) where
  pub cells_found : (field : Raw) (others : List Raw) (t : Bool) → left ≡ field ∷ others → t ≡ true → TellsCell field t → TellsCells cells true
  cells_found field others t is so told =
      w.rest true (rw is (λ cs read.
      let (more, later, first) = first_cell field others t told cs read in
      sym (first ∙ ap (λ (b : Bool). b || cells_misfit more) so)))

  pub cells_on : (field : Raw) (others : List Raw) (t : Bool) → left ≡ field ∷ others → t ≡ false → TellsCell field t → LookedCells cells others
  cells_on field others t is clear told =
      record {
        rest = λ r all_others. w.rest r (rw is (λ cs read.
            let (more, later, first) = first_cell field others t told cs read in
            all_others more later ∙ sym (first ∙ ap (λ (b : Bool). b || cells_misfit more) clear)));
      }

  pub cells_skip : (others : List Raw) → left ≡ broken ∷ others → LookedCells cells others
  cells_skip others is = record { rest = λ r told. w.rest r (rw is (cells_broken others r)) }

  pub cells_end : left ≡ [] → TellsCells cells false
  cells_end is = w.rest false (rw is cells_none_left)
