-- Laws of the lines of a row.
-- Assumes nothing.
use mathlib.Core.Path.{◌≡◌, refl, sym, ap, ap₂, subst, ◌∙◌}
use mathlib.Core.Bool.{Bool, true, false, ◌&&◌}
use mathlib.Core.Option.{some}
use mathlib.Core.List.{List, [], ◌∷◌, ◌++◌, map, append-nil, append_assoc}
use Prim.Native.Nat.{ℕ, zero, suc, ◌+◌, ◌-◌, ◌≤◌, ◌<◌}
use native.Mathlib.Omega.{arith}
use lib.ListN.{length, length-append, length-map}
use Rattle.characters.proofs.Tests.{and_left, clash, or_true, or_left, or_right}
use Rattle.fields.specs.Field.{raws, read_all, all}
use Rattle.fields.specs.Sheet.{fragment}
use Rattle.fields.specs.Spans.{RenderLine, text, border, read_name}
use Rattle.fields.proofs.Fields.{raws_nil}
use Rattle.rows.specs.declared.RenderOptions.{RenderOptions}
use Rattle.rows.specs.SubRenderer.{with_names, padded}
use Rattle.rows.specs.Named.{named_lines}
use Rattle.rows.specs.Answer.{fits}
use Rattle.rows.specs.Columns.{Slot, Column, column_of, column_line, next_column, line_misfit, lines_misfit, column_lines}
use Rattle.rows.proofs.Front.{named_row}
use Rattle.rows.proofs.Reading.{Bytes}
use Rattle.rows.proofs.Adding.{named_none}
use Rattle.seats.specs.declared.row.Row.{Row}
use Rattle.seats.specs.Row.{RowIs}
use Rattle.tagged_line.specs.declared.line.Line.{Line}
use Rattle.extend_lines.specs.Emitted.{InBounds, OneLineMore, Emitted, BeginsLine, AddsTextLine}
use Rattle.extend_lines.specs.declared.line.Lines.{Lines}
use Rattle.extend_lines.proofs.Emitting.{one_more}
use Rattle.extend_lines.proofs.Growing.{long_unfit}
use Rattle.extend_lines.proofs.Naming.{names_back, named_unfit}
use Rattle.row_lines.specs.Left.{down, column_down}
use Rattle.row_lines.specs.Mark.{AllMarked, StartsMarks}
use Rattle.row_lines.specs.Row.{is_long, columns_down, LaysSeats, LineAdded, AddsLine}
use Rattle.row_lines.specs.Full.{AddsRow}
use Rattle.row_lines.proofs.Growing.{long_size}

-- ---- one line

-- It is laid from the names on.
pub line_named : (s : RenderOptions) (ns : List (List ℕ)) (cs : List Column) → with_names ns (text (column_line s [] cs)) ≡ text (column_line s (map fragment ns) cs)
line_named s [] cs = refl
line_named s (n ∷ ns) cs = ap text (named_row s (n ∷ ns) cs)

-- a line of the row: the store and the lines before it, and after it the lines r
module _ (out : List ℕ) (p : Lines) (names : List ℕ) (s : RenderOptions) (row : Row) (collapse : Bool) (i : ℕ) (marks : List ℕ) (r : Lines) where
  -- one that does not fit is counted
  counted : (mid marks' : List ℕ) (ns : List (List ℕ)) (xs : List Slot) (st : List ℕ) (ls : List RenderLine) → Emitted st ls [] [] out p → length mid ≡ length out
      → fits (padded s (with_names ns (text (column_line s [] (columns_down collapse i xs))))) ≡ false → r.count ≡ p.count + 1 → r.long ≡ true
      → LineAdded ns s collapse i mid marks' r xs st ls
  counted mid marks' ns xs st ls em size x count long =
      record {
        emitted =
            one_more st out mid ls (padded s (with_names ns (text (column_line s [] (columns_down collapse i xs))))) p r em size count
            (long ∙ sym (rw x (or_true p.long))) (λ y. absurd (clash y x));
        moved = λ y. absurd (clash long y);
      }

  -- One with more names than it holds is counted.
  pub names_counted : Bytes names → 65535 < length names → r.count ≡ p.count + 1 → r.long ≡ true → AddsLine out p names s row collapse i marks out marks r
  names_counted known many count long ns reads xs total a m width fine st ls em =
      counted out marks ns xs st ls em refl
      (named_unfit s ns (column_line s [] (columns_down collapse i xs)) (omega (arith, ap length (names_back names ns known reads)))) count long

  -- the line that is begun, and all seats on it
  module _ (begun line : Line) (new mid marks' : List ℕ) (b : BeginsLine out names new begun) (f : LaysSeats new begun s row collapse i marks mid marks' line)
      (size : length mid ≡ length out) where
    -- A line that is not too long is added.
    pub line_added : (out' : List ℕ) → is_long line ≡ false → AddsTextLine mid p line s out' r → AddsLine out p names s row collapse i marks out' marks' r
    line_added out' e g ns reads xs total a m width fine st ls em =
        let t = f xs total a m width fine out (map fragment ns) (b ns reads) in
        let is = ap text (t.whole e) ∙ sym (line_named s ns (columns_down collapse i xs)) in
        record {
          emitted = subst (λ (l : RenderLine). Emitted st (ls ++ (padded s l ∷ [])) [] [] out' r) is (g st out ls t.pieces em size t.held);
          moved = λ _. t.moved e;
        }

    -- One that is too long is counted.
    pub line_counted : is_long line ≡ true → r.count ≡ p.count + 1 → r.long ≡ true → AddsLine out p names s row collapse i marks mid marks' r
    line_counted e count long ns reads xs total a m width fine st ls em =
        let t = f xs total a m width fine out (map fragment ns) (b ns reads) in
        let l = column_line s (map fragment ns) (columns_down collapse i xs) in
        let x : fits (padded s (text l)) ≡ false = long_unfit s l (omega (arith, t.grows, long_size out t.pieces mid line t.held e)) in
        counted mid marks' ns xs st ls em size (ap (λ (y : RenderLine). fits (padded s y)) (line_named s ns (columns_down collapse i xs)) ∙ x) count long

-- ---- all lines

lines_count : (s : RenderOptions) (m : ℕ) (cs : List Column) → length (column_lines s m cs) ≡ m
unfolding column_lines
lines_count s zero cs = refl
lines_count s (suc m) cs = ap suc (lines_count s m (map next_column cs))

-- Names do not change their number.
named_count : (ns : List (List ℕ)) (ls : List RenderLine) → length (named_lines ns ls) ≡ length ls
unfolding named_lines
named_count ns [] = refl
named_count ns (text ps ∷ ls) = refl
named_count ns (border a segs hs ∷ ls) = ap suc (named_count ns ls)

-- The first line takes the names, and the others come behind it.
lines_first : (s : RenderOptions) (ns : List (List ℕ)) (m : ℕ) (cs : List Column)
    → named_lines ns (column_lines s (suc m) cs) ≡ with_names ns (text (column_line s [] cs)) ∷ column_lines s m (map next_column cs)
unfolding column_lines named_lines
lines_first s ns m cs = refl

misfit_first : (total m : ℕ) (cs : List Column) → lines_misfit total (suc m) cs ≡ false → (line_misfit total cs ≡ false) × (lines_misfit total m (map next_column cs) ≡ false)
unfolding lines_misfit
misfit_first total m cs e = (or_left (line_misfit total cs) (lines_misfit total m (map next_column cs)) e, or_right (line_misfit total cs) (lines_misfit total m (map next_column cs)) e)

both_unfit : (a b c : Bool) → (b ≡ false → c ≡ false) → (a && b) ≡ false → (a && c) ≡ false
both_unfit true b c f e = f e
both_unfit false b c f e = refl

unfit_more : (ls ms : List RenderLine) → all fits ls ≡ false → all fits (ls ++ ms) ≡ false
unfolding all
unfit_more [] ms e = absurd (clash refl e)
unfit_more (l ∷ ls) ms e = both_unfit (fits l) (all fits ls) (all fits (ls ++ ms)) (λ x. unfit_more ls ms x) e

-- Behind a line that is too long the others only count.
long_more : (st : List ℕ) (ls ms : List RenderLine) (out : List ℕ) (q r : Lines) → Emitted st ls [] [] out q → q.long ≡ true → r.long ≡ true → r.count ≡ q.count + length ms
    → Emitted st (ls ++ ms) [] [] out r
unfolding all
long_more st ls ms out q r e long rlong count =
    record {
      size = e.size;
      count = count ∙ ap (λ (i : ℕ). i + length ms) e.count ∙ sym (length-append ls ms);
      long = rlong ∙ sym (rw unfit);
      place = λ ok. absurd (clash (and_left (all fits (ls ++ ms)) true ok) unfit);
      bytes = λ ok. absurd (clash (and_left (all fits (ls ++ ms)) true ok) unfit);
    }
  where
    go : (b : Bool) → all fits ls ≡ b → all fits ls ≡ false
    go true x = absurd (clash (sym e.long ∙ long) (rw x))
    go false x = x

    unfit : all fits (ls ++ ms) ≡ false
    unfit = unfit_more ls ms (go (all fits ls) refl)

-- all columns one line further
all_next : (collapse : Bool) (i : ℕ) (xs : List Slot) → map next_column (columns_down collapse i xs) ≡ columns_down collapse (i + 1) xs
unfolding down
all_next collapse i [] = refl
all_next collapse i (x ∷ xs) =
    let one : suc i ≡ i + 1 = omega arith in
    ap₂ (λ (c : Column) (cs : List Column). c ∷ cs) (ap (λ (n : ℕ). column_down collapse n x) one) (all_next collapse i xs)

-- all columns at their first lines
all_first : (collapse : Bool) (xs : List Slot) → map (column_of collapse) xs ≡ columns_down collapse 0 xs
unfolding down
all_first collapse [] = refl
all_first collapse (x ∷ xs) = ap (λ (cs : List Column). column_of collapse x ∷ cs) (all_first collapse xs)

module _ (out₀ : List ℕ) (p : Lines) (names : List ℕ) (s : RenderOptions) (row : Row) (collapse : Bool) (height : ℕ) where
  -- some lines are added, and the others come behind them, the first of which takes the names that wait still
  pub record AddedTo (out marks : List ℕ) (q : Lines) (waiting : List ℕ) (i : ℕ) (ns : List (List ℕ)) (xs : List Slot) (width : ℕ) (st : List ℕ) (ls : List RenderLine) :
      Type 0 where
    pub wait : List (List ℕ)
    pub reads : read_all read_name (raws waiting) ≡ some wait
    pub ms : List RenderLine
    pub later : List RenderLine
    pub emitted : Emitted st ms [] [] out q
    pub count : length later ≡ height - i
    pub are : ms ++ later ≡ ls ++ map (padded s) (named_lines ns (column_lines s height (columns_down collapse 0 xs)))
    pub goes : q.long ≡ false
        → AllMarked marks 0 collapse i xs × (lines_misfit width (height - i) (columns_down collapse i xs) ≡ false)
        × (later ≡ map (padded s) (named_lines wait (column_lines s (height - i) (columns_down collapse i xs))))

  -- the lines of the columns at their first lines
  first_new : (xs : List Slot) (ls : List RenderLine) (ns : List (List ℕ)) → ls ++ map (padded s) (named_lines ns (column_lines s height (columns_down collapse 0 xs)))
      ≡ ls ++ map (padded s) (named_lines ns (column_lines s height (map (column_of collapse) xs)))
  first_new xs ls ns = ap (λ (z : List Column). ls ++ map (padded s) (named_lines ns (column_lines s height z))) (sym (all_first collapse xs))

  -- with the numbers
  pub record LinesTo (out marks : List ℕ) (q : Lines) (waiting : List ℕ) (i : ℕ) : Type 0 where
    pub bounds : InBounds q
    pub count : q.count ≡ p.count + i
    pub size : length out ≡ length out₀
    pub left : (ns : List (List ℕ)) → read_all read_name (raws names) ≡ some ns → (xs : List Slot) (total : ℕ) → RowIs row xs total
        → (width : ℕ) → lines_misfit width height (columns_down collapse 0 xs) ≡ false → (st : List ℕ) (ls : List RenderLine) → Emitted st ls [] [] out₀ p
        → AddedTo out marks q waiting i ns xs width st ls

  -- None at first.
  pub lines_start : (marks : List ℕ) → InBounds p → StartsMarks row collapse marks → LinesTo out₀ marks p names 0
  lines_start marks b f =
      let none : height - 0 ≡ height = omega arith in
      record {
        bounds = b;
        count = omega arith;
        size = refl;
        left = λ ns reads xs total a width fine st ls e.
            let new = column_lines s height (columns_down collapse 0 xs) in
            record {
              wait = ns;
              reads = reads;
              ms = ls;
              later = map (padded s) (named_lines ns new);
              emitted = e;
              count = length-map (named_lines ns new) (padded s) ∙ named_count ns new ∙ lines_count s height (columns_down collapse 0 xs) ∙ sym none;
              are = refl;
              goes = λ _. (f xs total a, rw none fine, rw none refl);
            };
      }

  module _ (out marks : List ℕ) (q : Lines) (waiting : List ℕ) (i : ℕ) (w : LinesTo out marks q waiting i) where
    -- One line more.
    pub lines_on : (out' marks' : List ℕ) (r : Lines) → i < height → p.count + height < 1000000 → q.long ≡ false → length out' ≡ length out → OneLineMore q r
        → AddsLine out q waiting s row collapse i marks out' marks' r → LinesTo out' marks' r [] (i + 1)
    unfolding read_all
    lines_on out' marks' r h room short size on f =
        let m : height - i ≡ suc (height - (i + 1)) = omega arith in
        record {
          bounds = record { at = omega (arith, on.count, on.at, w.bounds.at); count = omega (arith, on.count, w.count) };
          count = omega (arith, on.count, w.count);
          size = size ∙ w.size;
          left = λ ns reads xs total a width fine st ls e.
              let t = w.left ns reads xs total a width fine st ls e in
              let (marked, draws, later) = t.goes short in
              let cs = columns_down collapse i xs in
              let k = misfit_first width (height - (i + 1)) cs (rw m at draws) in
              let x = padded s (with_names t.wait (text (column_line s [] cs))) in
              let b = f t.wait t.reads xs total a marked width k.0 st t.ms t.emitted in
              let next = columns_down collapse (i + 1) xs in
              let others = map (padded s) (column_lines s (height - (i + 1)) next) in
              let one : suc i ≡ i + 1 = omega arith in
              let split : t.later ≡ x ∷ others = later ∙ ap (λ (z : ℕ). map (padded s) (named_lines t.wait (column_lines s z cs))) m
              ∙ ap (map (padded s)) (lines_first s t.wait (height - (i + 1)) cs)
              ∙ ap (λ (z : List Column). x ∷ map (padded s) (column_lines s (height - (i + 1)) z)) (all_next collapse i xs) in
              record {
                wait = [];
                reads = rw raws_nil refl;
                ms = t.ms ++ (x ∷ []);
                later = others;
                emitted = b.emitted;
                count = length-map (column_lines s (height - (i + 1)) next) (padded s) ∙ lines_count s (height - (i + 1)) next;
                are = append_assoc t.ms (x ∷ []) others ∙ ap (λ (z : List RenderLine). t.ms ++ z) (sym split) ∙ t.are;
                goes = λ y. (
                  subst (λ (z : ℕ). AllMarked marks' 0 collapse z xs) one (b.moved y),
                  sym (ap (lines_misfit width (height - (i + 1))) (all_next collapse i xs)) ∙ k.1,
                  ap (map (padded s)) (sym (named_none (column_lines s (height - (i + 1)) next))),
                );
              };
        }

    -- A line is too long: the others are counted.
    pub lines_long : (r : Lines) → q.long ≡ true → r.long ≡ true → r.count ≡ q.count + (height - i) → AddsRow out₀ p names s row collapse height out r
    lines_long r long rlong count ns reads xs total a width fine st ls e =
        let t = w.left ns reads xs total a width (sym (ap (lines_misfit width height) (all_first collapse xs)) ∙ fine) st ls e in
        subst (λ (z : List RenderLine). Emitted st z [] [] out r) (t.are ∙ first_new xs ls ns)
        (long_more st t.ms t.later out q r t.emitted long rlong (count ∙ ap (λ (z : ℕ). q.count + z) (sym t.count)))

    -- All lines.
    pub lines_end : height ≤ i → AddsRow out₀ p names s row collapse height out q
    lines_end h ns reads xs total a width fine st ls e =
        let t = w.left ns reads xs total a width (sym (ap (lines_misfit width height) (all_first collapse xs)) ∙ fine) st ls e in
        let none : t.later ≡ [] = empty t.later (omega (arith, t.count)) in
        let all_of = sym (append-nil t.ms) ∙ ap (λ (z : List RenderLine). t.ms ++ z) (sym none) ∙ t.are in
        subst (λ (z : List RenderLine). Emitted st z [] [] out q) (all_of ∙ first_new xs ls ns) t.emitted
      where
        empty : (ys : List RenderLine) → length ys ≡ 0 → ys ≡ []
        empty [] x = refl
        empty (y ∷ ys) x = absurd (omega arith)
