-- Laws of the marks.
-- Assumes nothing.
use mathlib.Core.Path.{◌≡◌, refl, sym, ap, subst, ◌∙◌}
use mathlib.Core.Bool.{Bool}
use mathlib.Core.List.{List, [], ◌∷◌, ◌++◌, append_assoc, append-nil}
use mathlib.Core.Logic.{⊎_elim}
use Prim.Native.Nat.{ℕ, suc, min, ◌+◌, ◌-◌, ◌/◌, ◌≤◌, ◌<◌}
use native.Mathlib.Omega.{arith}
use lib.ListN.{length, drop, length-append, length-drop}
use lib.Seq.{drop-drop}
use Rattle.std.proofs.Math.Nat.{min-eq_left, min-eq_right}
use Rattle.characters.proofs.Tests.{lt_or_le}
use Rattle.fields.specs.Field.{raws, read_all}
use Rattle.fields.specs.Spans.{read_line, lines_bytes}
use Rattle.rows.proofs.Reading.{some_of, Bytes}
use Rattle.rows.proofs.Same.{lines_same}
use Rattle.rows.specs.Columns.{Slot}
use Rattle.slots.specs.declared.seat.Seat.{Seat}
use Rattle.slots.specs.Seat.{SeatIs}
use Rattle.seats.specs.declared.row.Row.{Row}
use Rattle.seats.specs.declared.row.Seats.{Seats}
use Rattle.seats.specs.Row.{RowIs, SeatsLeft, FirstSeat}
use Rattle.row_lines.specs.Left.{last, LinesOf, StandsAt, FindsFirst}
use Rattle.row_lines.specs.Mark.{mark_at, Marked, EndsAt, MarkSet, AllMarked, StartsMarks}

-- ---- one mark

-- The lines of a seat, by their bytes.
pub lines_of : (seat : Seat) (x : Slot) → Bytes seat.lines.now → SeatIs seat x → LinesOf seat.lines.now x
lines_of seat x known is =
    record {
      same = sym (some_of (λ ls. lines_bytes ls ≡ seat.lines.now) (read_all read_line (raws seat.lines.now)) x.lines is.lines_in.reads (lines_same seat.lines.now known));
      lines_in = is.lines_in;
      readable = is.readable;
    }

-- An end of an end.
pub last_of_last : (bytes left r : List ℕ) → left ≡ last (length left) bytes → r ≡ last (length r) left → r ≡ last (length r) bytes
last_of_last bytes left r e f =
    let n : length left ≡ length bytes - (length bytes - length left) = ap length e ∙ length-drop (length bytes - length left) bytes in
    let m : length r ≡ length left - (length left - length r) = ap length f ∙ length-drop (length left - length r) left in
    f ∙ ap (λ (z : List ℕ). drop (length left - length r) z) e ∙ drop-drop (length left - length r) (length bytes - length left) bytes
    ∙ ap (λ (k : ℕ). drop k bytes) (omega (arith, n, m))

-- A mark that is set.
pub mark_put : (marks : List ℕ) (k : ℕ) (bytes left marks' : List ℕ) (collapse : Bool) (i : ℕ) (x : Slot) → MarkSet marks k (length left) marks' → LinesOf bytes x
    → EndsAt marks k bytes left → StandsAt left collapse i x → Marked marks' k collapse i x
mark_put marks k bytes left marks' collapse i x set l e is h =
    let low : k < length marks / 2 = subst (λ (z : ℕ). k < z / 2) set.size h in
    subst (λ (z : List ℕ). StandsAt (last (mark_at marks' k) z) collapse i x) l.same
    (subst (λ (n : ℕ). StandsAt (last n bytes) collapse i x) (sym (set.put low)) (subst (λ (z : List ℕ). StandsAt z collapse i x) (e low) is))

-- ---- the marks of some seats

-- a mark that stays
mark_stays : (marks marks' : List ℕ) (j : ℕ) (collapse : Bool) (i : ℕ) (x : Slot) → length marks' ≡ length marks → mark_at marks' j ≡ mark_at marks j
    → Marked marks j collapse i x → Marked marks' j collapse i x
mark_stays marks marks' j collapse i x size e m h =
    subst (λ (n : ℕ). StandsAt (last n (lines_bytes x.lines)) collapse i x) (sym e) (m (subst (λ (z : ℕ). j < z / 2) size h))

-- Marks of other seats stay.
pub marks_stay : (marks marks' : List ℕ) (j : ℕ) (collapse : Bool) (i : ℕ) (xs : List Slot) → length marks' ≡ length marks
    → ((n : ℕ) → j ≤ n → n < j + length xs → n < length marks / 2 → mark_at marks' n ≡ mark_at marks n) → AllMarked marks j collapse i xs → AllMarked marks' j collapse i xs
marks_stay marks marks' j collapse i [] size f m = tt
marks_stay marks marks' j collapse i (x ∷ xs) size f m = (
  λ h. mark_stays marks marks' j collapse i x size (f j (omega arith) (omega arith) (subst (λ (z : ℕ). j < z / 2) size h)) m.0 h,
  marks_stay marks marks' (suc j) collapse i xs size (λ n low high. f n (omega (arith, low)) (omega (arith, high))) m.1,
)

-- One more.
pub marks_more : (marks : List ℕ) (j : ℕ) (collapse : Bool) (i : ℕ) (ys : List Slot) (x : Slot) → AllMarked marks j collapse i ys → Marked marks (j + length ys) collapse i x
    → AllMarked marks j collapse i (ys ++ (x ∷ []))
marks_more marks j collapse i [] x m f = (subst (λ (n : ℕ). Marked marks n collapse i x) (omega arith) f, tt)
marks_more marks j collapse i (y ∷ ys) x m f =
    (m.0, marks_more marks (suc j) collapse i ys x m.1 (subst (λ (n : ℕ). Marked marks n collapse i x) (omega arith) f))

-- ---- the number of a seat

-- k is the number of seats before, or no mark has a number so high
pub record Numbered (m k n : ℕ) : Type 0 where
  pub here : k < m → k ≡ n
  pub past : m ≤ k → m ≤ n

-- None.
pub numbered_none : (m : ℕ) → Numbered m 0 0
numbered_none m = record { here = λ h. refl; past = λ h. h }

-- r is the number behind k, below some height
pub record Behind (m k r : ℕ) : Type 0 where
  pub some : 0 < r
  pub low : k < m → r ≡ k + 1
  pub high : m ≤ k → m ≤ r

-- One more, as far as a machine counts.
pub one_behind : (m k r : ℕ) → r ≡ min (k + 1) 18446744073709551615 → m < 18446744073709551615 → Behind m k r
one_behind m k r e h =
    ⊎_elim (λ (v : k < 18446744073709551615).
    let is : r ≡ k + 1 = e ∙ min-eq_left (omega (arith, v)) in record { some = omega (arith, is); low = λ _. is; high = λ x. omega (arith, is, x) })
    (λ (v : 18446744073709551615 ≤ k).
    let is : r ≡ 18446744073709551615 = e ∙ min-eq_right (omega (arith, v)) in
    record { some = omega (arith, is); low = λ x. absurd (omega (arith, x, v, h)); high = λ x. omega (arith, is, h) })
    (lt_or_le k 18446744073709551615)

pub numbered_on : (m k n r : ℕ) → Numbered m k n → Behind m k r → Numbered m r (n + 1)
numbered_on m k n r w b =
    record {
      here = λ h. ⊎_elim (λ (v : k < m). b.low v ∙ ap (λ (z : ℕ). z + 1) (w.here v)) (λ (v : m ≤ k). absurd (omega (arith, b.high v, h))) (lt_or_le k m);
      past = λ h. ⊎_elim (λ (v : k < m). omega (arith, h, b.low v, w.here v)) (λ (v : m ≤ k). omega (arith, w.past v)) (lt_or_le k m);
    }

-- A mark of a seat, by the number of seats before it.
pub number_mark : (marks : List ℕ) (k n : ℕ) (collapse : Bool) (i : ℕ) (x : Slot) → Numbered (length marks / 2) k n → Marked marks k collapse i x
    → Marked marks n collapse i x
number_mark marks k n collapse i x w f h =
    ⊎_elim (λ (v : k < length marks / 2). subst (λ (j : ℕ). Marked marks j collapse i x) (w.here v) f h)
    (λ (v : length marks / 2 ≤ k). absurd (omega (arith, w.past v, h))) (lt_or_le k (length marks / 2))

-- and back
pub mark_number : (marks : List ℕ) (k n : ℕ) (collapse : Bool) (i : ℕ) (x : Slot) → Numbered (length marks / 2) k n → Marked marks n collapse i x
    → Marked marks k collapse i x
mark_number marks k n collapse i x w f h = subst (λ (j : ℕ). Marked marks j collapse i x) (sym (w.here h)) f h

-- ---- the marks at the first lines

module _ (row : Row) (collapse : Bool) where
  -- the marks of some seats are set
  pub record SomeMarked (marks : List ℕ) (it : Seats) (k : ℕ) (xs : List Slot) (total : ℕ) : Type 0 where
    pub ys : List Slot
    pub zs : List Slot
    pub are : xs ≡ ys ++ zs
    pub ahead : SeatsLeft it zs total
    pub number : Numbered (length marks / 2) k (length ys)
    pub gone : AllMarked marks 0 collapse 0 ys

  -- of each list of seats that the row is
  abbrev pub MarksSet : List ℕ → Seats → ℕ → Type 0
  MarksSet marks it k = (xs : List Slot) (total : ℕ) → RowIs row xs total → SomeMarked marks it k xs total

  -- None at first.
  pub marks_start : (marks : List ℕ) (it : Seats) → ((xs : List Slot) (total : ℕ) → RowIs row xs total → SeatsLeft it xs total) → MarksSet marks it 0
  marks_start marks it f xs total a =
      record { ys = []; zs = xs; are = refl; ahead = f xs total a; number = numbered_none (length marks / 2); gone = tt }

  module _ (marks : List ℕ) (it : Seats) (k : ℕ) (w : MarksSet marks it k) where
    -- All of them.
    pub marks_end : ((xs : List Slot) (total : ℕ) → SeatsLeft it xs total → xs ≡ []) → StartsMarks row collapse marks
    marks_end f xs total a =
        let t = w xs total a in
        let all_of : xs ≡ t.ys = t.are ∙ ap (λ (z : List Slot). t.ys ++ z) (f t.zs total t.ahead) ∙ append-nil t.ys in
        subst (λ (z : List Slot). AllMarked marks 0 collapse 0 z) (sym all_of) t.gone

    -- One more.
    pub marks_on : (seat : Seat) (rest : Seats) (left marks' : List ℕ) (r : ℕ) → ((xs : List Slot) (total : ℕ) → SeatsLeft it xs total → FirstSeat seat rest xs total)
        → Bytes seat.lines.now → FindsFirst seat.lines.now collapse left → left ≡ last (length left) seat.lines.now → MarkSet marks k (length left) marks'
        → Behind (length marks / 2) k r → MarksSet marks' rest r
    marks_on seat rest left marks' r next known first ends set b xs total a =
        let t = w xs total a in
        let x = next t.zs total t.ahead in
        let M = length marks / 2 in
        let same : length marks' / 2 ≡ M = ap (λ (z : ℕ). z / 2) set.size in
        let l = lines_of seat x.one known x.seat_is in
        let count : length (t.ys ++ (x.one ∷ [])) ≡ length t.ys + 1 = length-append t.ys (x.one ∷ []) in
        let number : Numbered (length marks' / 2) k (length t.ys) = subst (λ (m : ℕ). Numbered m k (length t.ys)) (sym same) t.number in
        let mark : Marked marks' (length t.ys) collapse 0 x.one =
        number_mark marks' k (length t.ys) collapse 0 x.one number (mark_put marks k seat.lines.now left marks' collapse 0 x.one set l (λ _. ends) (first x.one l)) in
        let others : AllMarked marks' 0 collapse 0 t.ys =
        marks_stay marks marks' 0 collapse 0 t.ys set.size (λ n _ h v. set.others n (λ e. omega (arith, h, t.number.here (subst (λ (z : ℕ). z < M) e v), e))) t.gone in
        record {
          ys = t.ys ++ (x.one ∷ []);
          zs = x.more;
          are = t.are ∙ ap (λ (z : List Slot). t.ys ++ z) x.are ∙ sym (append_assoc t.ys (x.one ∷ []) x.more);
          ahead = x.goes;
          number = subst (λ (m : ℕ). Numbered m r (length (t.ys ++ (x.one ∷ [])))) (sym same)
              (subst (λ (n : ℕ). Numbered M r n) (sym count) (numbered_on M k (length t.ys) r t.number b));
          gone = marks_more marks' 0 collapse 0 t.ys x.one others (subst (λ (n : ℕ). Marked marks' n collapse 0 x.one) (omega arith) mark);
        }
