-- One walk over the seats of a row: what is found of those so far, and what those that are left add.
-- Assumes nothing.
use Rattle.std.proofs.Common.{◌≡◌, Bool, true, false, ◌||◌, ℕ, ◌-◌, ◌≤◌, leb, List, [], ◌∷◌, length, refl, sym, ap, subst, ◌∙◌, arith, le-leb, leb-true, leb-false}
use Rattle.std.specs.Prelude.{if◌then◌else◌, map, Some, None}
use Rattle.std.proofs.Math.Bool.{or-false, or_assoc}
use Rattle.characters.proofs.Tests.{by_if}
use Rattle.fields.proofs.Back.{Every}
use Rattle.rows.specs.SubRenderer.{max, starts_border}
use Rattle.rows.specs.Columns.{Slot, column_of, columns_height, any_top}
use Rattle.slots.specs.declared.seat.Seat.{Seat}
use Rattle.seats.specs.declared.row.Row.{Row}
use Rattle.seats.specs.declared.row.Seats.{Seats}
use Rattle.seats.specs.declared.survey.Seen.{Seen}
use Rattle.seats.specs.Row.{RowIs, SeatsLeft, GivesSeats, NextSeat}
use Rattle.seats.specs.Survey.{share_of, PlainSlot, LookIs, Looks, SurveyIs}

-- ---- the larger of two numbers

max_left : (m n : ℕ) → n ≤ m → max m n ≡ m
max_left m n h = by_if (λ (z : ℕ). z ≡ m) (leb m n) (λ e. omega (arith, leb-true m n e)) (λ _. refl)

max_right : (m n : ℕ) → m ≤ n → max m n ≡ n
max_right m n h = rw (le-leb m n h)

max_assoc : (a b c : ℕ) → max a (max b c) ≡ max (max a b) c
max_assoc a b c = go (leb a b) refl (leb b c) refl
  where
    go : (p : Bool) → leb a b ≡ p → (q : Bool) → leb b c ≡ q → max a (if q then c else b) ≡ max (if p then b else a) c
    go true h true k = let x = leb-true a b h in let y = leb-true b c k in max_right a c (omega arith) ∙ sym (max_right b c y)
    go true h false k = let x = leb-true a b h in let y = leb-false b c k in max_right a b x ∙ sym (max_left b c (omega arith))
    go false h true k = refl
    go false h false k = let x = leb-false a b h in let y = leb-false b c k in max_left a b (omega arith) ∙ sym (max_left a c (omega arith))

left_most : (m n : ℕ) → m ≤ max m n
left_most m n = by_if (λ (z : ℕ). m ≤ z) (leb m n) (λ e. leb-true m n e) (λ _. omega arith)

right_most : (m n : ℕ) → n ≤ max m n
right_most m n = by_if (λ (z : ℕ). n ≤ z) (leb m n) (λ _. omega arith) (λ e. omega (arith, leb-false m n e))

-- ---- what is found so far

-- a column spans what its cell does
pub column_span : (collapse : Bool) (x : Slot) → (column_of collapse x).span ≡ x.span
unfolding column_of
column_span true x = refl
column_span false x = refl

-- it is as wide
pub column_width : (collapse : Bool) (x : Slot) → (column_of collapse x).width ≡ x.width
unfolding column_of
column_width true x = refl
column_width false x = refl

-- it is filled to as many columns
pub column_to : (collapse : Bool) (x : Slot) → (column_of collapse x).to ≡ x.to
unfolding column_of
column_to true x = refl
column_to false x = refl

-- what is known of some cells of a row, and those that are left
pub record Found (seen : Seen) (collapse : Bool) (left xs : List Slot) : Type 0 where
  pub tops : any_top xs ≡ (seen.top || any_top left)
  pub heights : columns_height (map (column_of collapse) xs) ≡ max seen.height (columns_height (map (column_of collapse) left))
  pub plain : (total : ℕ) → seen.single ≡ true → seen.widest ≤ total → Every (PlainSlot collapse total) left → Every (PlainSlot collapse total) xs

-- one cell more
found_on : (seen r : Seen) (collapse : Bool) (x : Slot) (left xs : List Slot) → LookIs seen collapse r x → Found seen collapse (x ∷ left) xs → Found r collapse left xs
unfolding any_top columns_height
found_on seen r collapse x left xs l f =
    let t = any_top left in
    let h = columns_height (map (column_of collapse) left) in
    let n = length (column_of collapse x).lines in
    record {
      tops = f.tops ∙ sym (or_assoc seen.top (starts_border x.lines) t) ∙ ap (λ (z : Bool). z || t) (sym l.top_is);
      heights =
          f.heights ∙ ap (λ (z : ℕ). max seen.height (max (share_of n z) h)) (column_span collapse x)
          ∙ max_assoc seen.height (share_of n x.span) h ∙ ap (λ (z : ℕ). max z h) (sym l.height_is);
      plain =
          λ total single wide others.
          let (before, one, bare) = l.single_is single in
          f.plain total before (omega (arith, wide, l.widest_is, left_most seen.widest x.width))
          (record { one = one; narrow = omega (arith, wide, l.widest_is, right_most seen.widest x.width); bare = bare }, others);
    }

-- those that are left of a row, behind those that are seen
pub record Seeing (collapse : Bool) (seen : Seen) (seats : Seats) (xs : List Slot) (total : ℕ) : Type 0 where
  pub left : List Slot
  pub goes : SeatsLeft seats left total
  pub found : Found seen collapse left xs

-- whatever the row
abbrev pub SoFar : Row → Bool → Seen → Seats → Type 0
SoFar row collapse seen seats = (xs : List Slot) (total : ℕ) → RowIs row xs total → Seeing collapse seen seats xs total

-- None is seen at first.
pub sees_none : (row : Row) (collapse : Bool) (seats : Seats) → GivesSeats row seats
    → SoFar row collapse (record { top = false; widest = 0; height = 0; single = true }) seats
sees_none row collapse seats g xs total r =
    record {
      left = xs;
      goes = g xs total r;
      found = record { tops = refl; heights = sym (max_right 0 (columns_height (map (column_of collapse) xs)) (omega arith)); plain = λ total single wide others. others };
    }

-- One seat more is seen.
pub sees_more : (row : Row) (collapse : Bool) (seen r : Seen) (seats rest : Seats) (seat : Seat) → NextSeat seats (Some seat) rest → Looks seen seat collapse r
    → SoFar row collapse seen seats → SoFar row collapse r rest
sees_more row collapse seen r seats rest seat n l s xs total i =
    let b = s xs total i in
    let f = n b.left total b.goes in
    record {
      left = f.more;
      goes = f.goes;
      found = found_on seen r collapse f.one f.more xs (l f.one f.seat_is) (subst (λ (z : List Slot). Found seen collapse z xs) f.are b.found);
    }

-- ALL SEATS ARE SEEN.
pub sees_all : (row : Row) (collapse : Bool) (seen : Seen) (seats rest : Seats) (width : ℕ) (plain : Bool) → NextSeat seats None rest
    → ((total : ℕ) → SeatsLeft rest [] total → width ≡ total - 1) → (plain ≡ true → (seen.single ≡ true) × (seen.widest ≤ width)) → SoFar row collapse seen seats
    → (xs : List Slot) (total : ℕ) → RowIs row xs total → SurveyIs collapse (record { top = seen.top; total = width; height = seen.height; plain = plain }) xs total
unfolding any_top columns_height
sees_all row collapse seen seats rest width plain n w p s xs total i =
    let b = s xs total i in
    let (none, end) = n b.left total b.goes in
    let f : Found seen collapse [] xs = subst (λ (z : List Slot). Found seen collapse z xs) none b.found in
    let t = w total end in
    record {
      top_is = sym (f.tops ∙ or-false seen.top);
      total_is = t;
      height_is = sym (f.heights ∙ max_left seen.height 0 (omega arith));
      plain_is = λ e. let (single, wide) = p e in f.plain (total - 1) single (omega (arith, wide, t)) tt;
    }
