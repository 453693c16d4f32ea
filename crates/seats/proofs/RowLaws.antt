-- Laws of a row: its first seats are kept one after the other, the others are ahead.
-- Assumes nothing.
use Rattle.std.proofs.Common.{◌≡◌, ℕ, ◌+◌, ◌<◌, List, [], ◌∷◌, ◌++◌, length, take, set, refl, sym, ap, ◌∙◌, arith, Bor, append_assoc}
use Rattle.std.proofs.lemmas.List.{take_more_set}
use Rattle.std.specs.Prelude.{Option, Some, None, MatchOption}
use Rattle.rows.specs.Columns.{Slot}
use Rattle.slots.specs.declared.seat.Seat.{Seat}
use Rattle.slots.specs.declared.iter.Slots.{Slots}
use Rattle.slots.specs.Seat.{SeatIs}
use Rattle.slots.specs.Iter.{SlotsLeft, NextSlot}
use Rattle.seats.specs.Row.{SeatsAre, RowLeft, FirstSeat}

-- ---- the seats that are kept

-- one seat more
seats_more : (ss : List Seat) (ys : List Slot) (s : Seat) (y : Slot) → SeatsAre ss ys → SeatIs s y → SeatsAre (ss ++ (s ∷ [])) (ys ++ (y ∷ []))
seats_more [] [] s y a i = (i, tt)
seats_more [] (z ∷ ys) s y a i = absurd a
seats_more (t ∷ ss) [] s y a i = absurd a
seats_more (t ∷ ss) (z ∷ ys) s y a i = (a.0, seats_more ss ys s y a.1 i)

-- what is kept of the seats that are ahead at first
abbrev pub Keeps : Slots → List Seat → ℕ → Slots → Type 0
Keeps first seats len rest = (xs : List Slot) (total : ℕ) → SlotsLeft first xs total → RowLeft (take len seats) rest xs total

-- None is kept at first.
pub keeps_none : (first : Slots) (seats : List Seat) → Keeps first seats 0 first
keeps_none first seats xs total l = record { ys = []; zs = xs; are = refl; kept_are = tt; ahead = l }

-- A seat that is the cell of another may stand for it.
pub given_as : (st rest : Slots) (seat kept : Seat) → ((x : Slot) → SeatIs seat x → SeatIs kept x) → NextSlot st (Some seat) rest → NextSlot st (Some kept) rest
given_as st rest seat kept same n xs total l =
    let f = n xs total l in
    record { one = f.one; more = f.more; are = f.are; seat_is = same f.one f.seat_is; goes = f.goes }

-- A seat that is given is kept behind the others.
pub keeps_more : (first : Slots) (seats : List Seat) (len : ℕ) (st rest : Slots) (seat : Seat) → len < length seats → NextSlot st (Some seat) rest
    → Keeps first seats len st → Keeps first (set seats len seat) (len + 1) rest
keeps_more first seats len st rest seat low n k xs total l =
    let i = k xs total l in
    let f = n i.zs total i.ahead in
    let one = f.one ∷ [] in
    record {
      ys = i.ys ++ one;
      zs = f.more;
      are = i.are ∙ ap (λ (z : List Slot). i.ys ++ z) f.are ∙ sym (append_assoc i.ys one f.more);
      kept_are = rw (take_more_set seats len seat low) (seats_more (take len seats) i.ys seat f.one i.kept_are f.seat_is);
      ahead = f.goes;
    }

-- None is left behind them.
pub keeps_all : (first : Slots) (seats : List Seat) (len : ℕ) (st rest : Slots) → NextSlot st None rest → Keeps first seats len st → Keeps first seats len rest
keeps_all first seats len st rest n k xs total l =
    let i = k xs total l in
    let (none, end) = n i.zs total i.ahead in
    record { ys = i.ys; zs = []; are = i.are ∙ ap (λ (z : List Slot). i.ys ++ z) none; kept_are = i.kept_are; ahead = end }

-- ---- the walk over all seats

-- none of those that are kept is left
none_kept : (kept : List Seat) (rest : Slots) (xs : List Slot) (total : ℕ) → length kept < 1 → RowLeft kept rest xs total → SlotsLeft rest xs total
none_kept [] rest xs total h l = go l.ys l.kept_are l.are
  where
    go : (ys : List Slot) → SeatsAre [] ys → xs ≡ ys ++ l.zs → SlotsLeft rest xs total
    go [] a e = rw e l.ahead
    go (y ∷ ys) a e = absurd a
none_kept (s ∷ ss) rest xs total h l = absurd (omega arith)

-- and what is ahead is all
all_ahead : (kept : List Seat) (rest : Slots) (xs : List Slot) (total : ℕ) → length kept < 1 → SlotsLeft rest xs total → RowLeft kept rest xs total
all_ahead [] rest xs total h l = record { ys = []; zs = xs; are = refl; kept_are = tt; ahead = l }
all_ahead (s ∷ ss) rest xs total h l = absurd (omega arith)

-- Behind those that are kept come the others.
pub next_ahead : (kept : Bor (List Seat)) (st rest : Slots) (r : Option Seat) → length kept.now < 1 → NextSlot st r rest
    → (xs : List Slot) (total : ℕ) → RowLeft kept.now st xs total
    → MatchOption r ((xs ≡ []) × RowLeft kept.now rest [] total) (λ seat. FirstSeat seat (record { kept = kept; rest = rest }) xs total)
next_ahead kept st rest None h n xs total l =
    let (none, end) = n xs total (none_kept kept.now st xs total h l) in
    (none, all_ahead kept.now rest [] total h end)
next_ahead kept st rest (Some seat) h n xs total l =
    let f = n xs total (none_kept kept.now st xs total h l) in
    record { one = f.one; more = f.more; are = f.are; seat_is = f.seat_is; goes = all_ahead kept.now rest f.more total h f.goes }
