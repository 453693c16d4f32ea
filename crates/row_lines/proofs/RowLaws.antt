-- Laws of a line of a row.
-- Assumes nothing.
use mathlib.Core.Path.{◌≡◌, refl, sym, ap, subst, ◌∙◌}
use mathlib.Core.Bool.{Bool, true, false}
use mathlib.Core.List.{List, [], ◌∷◌, ◌++◌, append_assoc, append-nil}
use Prim.Native.Nat.{ℕ, zero, suc, ◌+◌, ◌/◌, ◌≤◌, ◌<◌}
use native.Mathlib.Omega.{arith}
use lib.ListN.{length, length-append}
use Rattle.characters.proofs.Tests.{clash, or_left, or_right}
use Rattle.fields.specs.Sheet.{Piece}
use Rattle.fields.specs.TaggedLine.{push_str}
use Rattle.rows.proofs.Reading.{Bytes}
use Rattle.rows.specs.declared.RenderOptions.{RenderOptions}
use Rattle.rows.specs.SubRenderer.{edge}
use Rattle.rows.specs.Columns.{Slot, Column, cell_misfit, add_column, column_line, line_misfit}
use Rattle.slots.specs.declared.seat.Seat.{Seat}
use Rattle.slots.specs.Seat.{SeatIs}
use Rattle.seats.specs.declared.row.Row.{Row}
use Rattle.seats.specs.declared.row.Seats.{Seats}
use Rattle.seats.specs.Row.{RowIs, SeatsLeft, FirstSeat}
use Rattle.tagged_line.specs.Held.{Within, LineGrown, Held}
use Rattle.tagged_line.specs.declared.line.Line.{Line}
use Rattle.extend_lines.proofs.Growing.{size_of}
use Rattle.row_lines.specs.Seat.{LeftIn, AddsSeat, opened, OpensSeat}
use Rattle.row_lines.specs.Left.{down, column_down, last, StandsAt}
use Rattle.row_lines.specs.Mark.{Marked, EndsAt, FindsMarked, MarkSet, AllMarked}
use Rattle.row_lines.specs.Row.{place_most, MarkedAdded, AddsMarked, is_long, line_most, columns_down, LaysSeats}
use Rattle.row_lines.proofs.Growing.{columns_from, grow_columns, short_line}
use Rattle.row_lines.proofs.MarkLaws.{lines_of, last_of_last, mark_put, marks_stay, marks_more, Numbered, numbered_none, Behind, numbered_on, number_mark, mark_number}

-- ---- columns one after the other

-- Behind the first column their number does not matter.
columns_later : (s : RenderOptions) (j k : ℕ) (l : List Piece) (cs : List Column) → columns_from s (suc j) l cs ≡ columns_from s (suc k) l cs
unfolding columns_from
columns_later s j k l [] = refl
columns_later s j k l (c ∷ cs) = columns_later s (suc j) (suc k) (add_column s (opened s (suc j) l) c c.lines) cs

columns_behind : (s : RenderOptions) (j k : ℕ) (l : List Piece) (cs : List Column) → 0 < j → 0 < k → columns_from s j l cs ≡ columns_from s k l cs
columns_behind s zero k l cs h i = absurd (omega arith)
columns_behind s (suc j) zero l cs h i = absurd (omega arith)
columns_behind s (suc j) (suc k) l cs h i = columns_later s j k l cs

-- From the first column on they give the line.
columns_line : (s : RenderOptions) (l : List Piece) (cs : List Column) → columns_from s 0 l cs ≡ column_line s l cs
unfolding columns_from column_line
columns_line s l [] = refl
columns_line s l (c ∷ []) = refl
columns_line s l (c ∷ d ∷ cs) =
    columns_later s 1 0 (add_column s (push_str (add_column s l c c.lines) s.annotation (edge s)) d d.lines) cs
    ∙ columns_line s (push_str (add_column s l c c.lines) s.annotation (edge s)) (d ∷ cs)

-- ---- one seat

-- What a seat gives from its mark on, and the mark behind it.
pub marked_added : (out mid out' : List ℕ) (p q r : Line) (s : RenderOptions) (seat : Seat) (k : ℕ) (collapse : Bool) (i : ℕ) (marks marks' left behind : List ℕ)
    → OpensSeat out p s k mid q → Bytes seat.lines.now → EndsAt marks k seat.lines.now left → FindsMarked marks k seat.lines.now collapse i left
    → behind ≡ last (length behind) left → AddsSeat mid q s seat.width seat.to left collapse out' r behind → MarkSet marks k (length behind) marks'
    → AddsMarked out p s seat k collapse i marks out' marks' r
unfolding down
marked_added out mid out' p q r s seat k collapse i marks marks' left behind o known ends f on g set =
    record { n = length behind; set = set; adds = adds }
  where
    adds : (x : Slot) → SeatIs seat x → Marked marks k collapse i x → MarkedAdded out p s k collapse i out' marks' r x
    adds x is m =
        let l = lines_of seat x known is in
        let at : LeftIn left seat.width seat.to collapse (column_down collapse i x) =
        subst (λ (n : ℕ). LeftIn left n seat.to collapse (column_down collapse i x)) is.width_is
        (subst (λ (n : ℕ). LeftIn left x.width n collapse (column_down collapse i x)) is.to_is (f x l m)) in
        let t = g (column_down collapse i x) at in
        let goes : StandsAt behind collapse (suc i) x =
        subst (λ (n : ℕ). LeftIn behind n x.to collapse (column_down collapse (suc i) x)) (sym is.width_is)
        (subst (λ (n : ℕ). LeftIn behind seat.width n collapse (column_down collapse (suc i) x)) (sym is.to_is) t.goes) in
        record {
          held = λ total fine st z h. t.held total fine st (opened s k z) (o st z h);
          moved = mark_put marks k seat.lines.now behind marks' collapse (suc i) x set l (λ h. last_of_last seat.lines.now left behind (ends h) on) goes;
        }

-- ---- all of them

module _ (out₀ : List ℕ) (line₀ : Line) (s : RenderOptions) (row : Row) (collapse : Bool) (i : ℕ) (marks₀ : List ℕ) where
  -- some seats are on the line, and their marks one line further
  pub record SomeLaid (out marks : List ℕ) (line : Line) (it : Seats) (k : ℕ) (xs : List Slot) (total width : ℕ) (st : List ℕ) (l : List Piece) : Type 0 where
    pub ys : List Slot
    pub zs : List Slot
    pub are : xs ≡ ys ++ zs
    pub ahead : SeatsLeft it zs total
    pub number : Numbered (length marks / 2) k (length ys)
    pub pieces : List Piece
    pub held : Held st pieces out line
    pub goes : columns_from s k pieces (columns_down collapse i zs) ≡ column_line s l (columns_down collapse i xs)
    pub fine : line_misfit width (columns_down collapse i zs) ≡ false
    pub gone : AllMarked marks 0 collapse (suc i) ys
    pub waits : AllMarked marks (length ys) collapse i zs

  -- with the numbers
  pub record LaidTo (out marks : List ℕ) (line : Line) (it : Seats) (k : ℕ) : Type 0 where
    pub size : length out ≡ length out₀
    pub marks_size : length marks ≡ length marks₀
    pub grown : LineGrown line₀ line line_most
    pub left : (xs : List Slot) (total : ℕ) → RowIs row xs total → AllMarked marks₀ 0 collapse i xs
        → (width : ℕ) → line_misfit width (columns_down collapse i xs) ≡ false → (st : List ℕ) (l : List Piece) → Held st l out₀ line₀
        → SomeLaid out marks line it k xs total width st l

  -- None at first.
  pub laid_start : (it : Seats) → Within line₀ (line_most + place_most) → ((xs : List Slot) (total : ℕ) → RowIs row xs total → SeatsLeft it xs total)
      → LaidTo out₀ marks₀ line₀ it 0
  laid_start it b f =
      record {
        size = refl;
        marks_size = refl;
        grown = record { base = refl; piece = b.piece; on = omega arith; at = omega arith; wider = omega arith; cols = omega arith };
        left = λ xs total a m width fine st l h.
            record {
              ys = [];
              zs = xs;
              are = refl;
              ahead = f xs total a;
              number = numbered_none (length marks₀ / 2);
              pieces = l;
              held = h;
              goes = columns_line s l (columns_down collapse i xs);
              fine = fine;
              gone = tt;
              waits = m;
            };
      }

  module _ (out marks : List ℕ) (line : Line) (it : Seats) (k : ℕ) (w : LaidTo out marks line it k) where
    -- Room for a seat.
    pub laid_room : Within line₀ (line_most + place_most) → Within line place_most
    laid_room b =
        record {
          base = omega (arith, w.grown.base, w.grown.on, b.base);
          piece = w.grown.piece;
          room = omega (arith, w.grown.at, b.room);
          cols = omega (arith, w.grown.cols, b.cols);
        }

    -- A line in order.
    pub laid_order : Within line₀ (line_most + place_most) → line.base ≤ line.at
    laid_order b = omega (arith, w.grown.base, w.grown.on, b.base)

    -- The line is too long.
    pub laid_long : is_long line ≡ true → LaysSeats out₀ line₀ s row collapse i marks₀ out marks line
    laid_long e xs total a m width fine st l h =
        let t = w.left xs total a m width fine st l h in
        record {
          pieces = t.pieces;
          held = t.held;
          grows = omega (arith, grow_columns s k t.pieces (columns_down collapse i t.zs), ap size_of t.goes);
          whole = λ x. absurd (clash e x);
          moved = λ x. absurd (clash e x);
        }

    -- No seat is left.
    pub laid_end : ((xs : List Slot) (total : ℕ) → SeatsLeft it xs total → xs ≡ []) → LaysSeats out₀ line₀ s row collapse i marks₀ out marks line
    unfolding columns_from
    laid_end f xs total a m width fine st l h =
        let t = w.left xs total a m width fine st l h in
        let none : t.zs ≡ [] = f t.zs total t.ahead in
        let all_of : xs ≡ t.ys = t.are ∙ ap (λ (z : List Slot). t.ys ++ z) none ∙ append-nil t.ys in
        let is : t.pieces ≡ column_line s l (columns_down collapse i xs) = ap (λ (z : List Slot). columns_from s k t.pieces (columns_down collapse i z)) (sym none) ∙ t.goes in
        record {
          pieces = t.pieces;
          held = t.held;
          grows = omega (arith, ap size_of is);
          whole = λ _. is;
          moved = λ _. subst (λ (z : List Slot). AllMarked marks 0 collapse (suc i) z) (sym all_of) t.gone;
        }

    -- One seat more.
    pub laid_on : (out' marks' : List ℕ) (r : Line) (seat : Seat) (rest : Seats) (j : ℕ) → Within line₀ (line_most + place_most) → is_long line ≡ false
        → ((xs : List Slot) (total : ℕ) → SeatsLeft it xs total → FirstSeat seat rest xs total) → length out' ≡ length out → LineGrown line r place_most
        → AddsMarked out line s seat k collapse i marks out' marks' r → Behind (length marks / 2) k j → LaidTo out' marks' r rest j
    unfolding columns_from line_misfit
    laid_on out' marks' r seat rest j room short next size g f b =
        let n = short_line line short in
        record {
          size = size ∙ w.size;
          marks_size = f.set.size ∙ w.marks_size;
          grown =
              record {
                base = g.base ∙ w.grown.base;
                piece = g.piece;
                on = omega (arith, g.on, w.grown.on);
                at = omega (arith, g.at, n.1, w.grown.base, w.grown.on, room.base);
                wider = omega (arith, g.wider, w.grown.wider);
                cols = omega (arith, g.cols, n.0);
              };
          left = λ xs total a m width fine st l h.
              let t = w.left xs total a m width fine st l h in
              let x = next t.zs total t.ahead in
              let c = column_down collapse i x.one in
              let cs = columns_down collapse i x.more in
              let M = length marks / 2 in
              let same : length marks' / 2 ≡ M = ap (λ (z : ℕ). z / 2) f.set.size in
              let count : length (t.ys ++ (x.one ∷ [])) ≡ length t.ys + 1 = length-append t.ys (x.one ∷ []) in
              let draws : line_misfit width (c ∷ cs) ≡ false = sym (ap (λ (z : List Slot). line_misfit width (columns_down collapse i z)) x.are) ∙ t.fine in
              let waits : AllMarked marks (length t.ys) collapse i (x.one ∷ x.more) = subst (λ (z : List Slot). AllMarked marks (length t.ys) collapse i z) x.are t.waits in
              let y = f.adds x.one x.seat_is (mark_number marks k (length t.ys) collapse i x.one t.number waits.0) in
              let number : Numbered (length marks' / 2) k (length t.ys) = subst (λ (m : ℕ). Numbered m k (length t.ys)) (sym same) t.number in
              let mark : Marked marks' (length t.ys) collapse (suc i) x.one = number_mark marks' k (length t.ys) collapse (suc i) x.one number y.moved in
              let at_k : (z : ℕ) → z < M → z ≡ k → z ≡ length t.ys = λ z v e. e ∙ t.number.here (subst (λ (b : ℕ). b < M) e v) in
              let others : AllMarked marks' 0 collapse (suc i) t.ys =
              marks_stay marks marks' 0 collapse (suc i) t.ys f.set.size (λ z _ h v. f.set.others z (λ e. omega (arith, h, at_k z v e))) t.gone in
              let later : AllMarked marks' (suc (length t.ys)) collapse i x.more =
              marks_stay marks marks' (suc (length t.ys)) collapse i x.more f.set.size (λ z h _ v. f.set.others z (λ e. omega (arith, h, at_k z v e))) waits.1 in
              record {
                ys = t.ys ++ (x.one ∷ []);
                zs = x.more;
                are = t.are ∙ ap (λ (z : List Slot). t.ys ++ z) x.are ∙ sym (append_assoc t.ys (x.one ∷ []) x.more);
                ahead = x.goes;
                number = subst (λ (m : ℕ). Numbered m j (length (t.ys ++ (x.one ∷ [])))) (sym same)
                    (subst (λ (z : ℕ). Numbered M j z) (sym count) (numbered_on M k (length t.ys) j t.number b));
                pieces = add_column s (opened s k t.pieces) c c.lines;
                held = y.held width (or_left (cell_misfit width c c.lines) (line_misfit width cs) draws) st t.pieces t.held;
                goes = columns_behind s j (suc k) (add_column s (opened s k t.pieces) c c.lines) cs b.some (omega arith)
                    ∙ sym (ap (λ (z : List Slot). columns_from s k t.pieces (columns_down collapse i z)) x.are) ∙ t.goes;
                fine = or_right (cell_misfit width c c.lines) (line_misfit width cs) draws;
                gone = marks_more marks' 0 collapse (suc i) t.ys x.one others (subst (λ (z : ℕ). Marked marks' z collapse (suc i) x.one) (omega arith) mark);
                waits = subst (λ (z : ℕ). AllMarked marks' z collapse i x.more) (omega (arith, count)) later;
              };
        }
