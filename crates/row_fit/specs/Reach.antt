-- How far the border below a row and its holes reach. Positions have no bound, so that the code keeps how far they reach past a place.
-- Assumes nothing: these are definitions.
use Rattle.std.specs.Prelude.{Option as Maybe, Some, None, ◌≡◌, Bool, true, false, List, [], ◌∷◌, ℕ, ◌+◌, ◌-◌, max, ltb}
use Rattle.rows.specs.declared.RenderOptions.{RenderOptions}
use Rattle.rows.specs.Columns.{Column, bottom_of}
use Rattle.holes.specs.Cols.{cols_of}
use Rattle.row_fit.specs.declared.reach.SeatFit.{SeatFit}
use Rattle.row_fit.specs.declared.reach.Reach.{Reach}
use Rattle.row_fit.specs.Seat.{last_join, pieces_below}

-- ---- one more than where a seat at x makes the border and its holes end, or 0

-- the edge before it, if that is joined
abbrev pub edge_to : ℕ → Bool → ℕ
edge_to x false = 0
edge_to x true = x + 1

-- the last border that was taken off it, whose last join stands there
abbrev pub join_to : ℕ → Maybe ℕ → ℕ
join_to x None = 0
join_to x (Some i) = x + i + 2

-- the line that hangs through the border, of so many columns
abbrev pub hole_to : ℕ → Maybe ℕ → ℕ
hole_to x None = 0
hole_to x (Some cols) = x + cols + 1

-- ---- one more than where the border and its holes end, over all columns from x on

-- b is so for the columns before
unfoldable pub border_from : Bool → Bool → ℕ → List Column → ℕ → ℕ
border_from joined edge x [] b = b
border_from joined edge x (c ∷ cs) b =
    border_from joined joined (x + c.width + 1) cs (max (max b (edge_to x edge)) (join_to x (last_join (bottom_of c))))

-- h likewise, and 0 where there is no hole
unfoldable pub holes_from : RenderOptions → ℕ → ℕ → List Column → ℕ → ℕ
holes_from o n x [] h = h
holes_from o n x (c ∷ cs) h = holes_from o n (x + c.width + 1) cs (max h (hole_to x (cols_of (pieces_below o n c))))

-- ---- the running reach

-- past x, where the border ends before b and its holes end before h
pub record ReachIs (r : Reach) (x b h : ℕ) : Type 0 where
  pub border_is : r.border ≡ b - x
  pub holes_is : r.holes ≡ h - x
  pub over_is : r.over ≡ ltb b h
  pub any_is : r.any ≡ ltb 0 h

-- `past`
abbrev pub Reaches : Reach → Bool → SeatFit → ℕ → Reach → Type 0
Reaches r edge fit width n =
    (x b h : ℕ) → ReachIs r x b h → ReachIs n (x + width + 1) (max (max b (edge_to x edge)) (join_to x fit.join)) (max h (hole_to x fit.through))
