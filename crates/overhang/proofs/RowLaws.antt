-- The laws of a loop over the cells of a row: what hangs on of those that it passed stands, and the others are left.
-- Assumes nothing.
use mathlib.Core.Path.{◌≡◌, refl, sym, ap, ◌∙◌}
use mathlib.Core.Bool.{Bool, true, ◌&&◌}
use mathlib.Core.List.{List, [], ◌∷◌, ◌++◌, map, append_assoc, append-nil}
use Prim.Native.Nat.{ℕ, ◌+◌, ◌^◌, ◌≤◌}
use native.Mathlib.Omega.{arith}
use lib.ListN.{length, length-append}
use Rattle.std.specs.Prelude.{Some}
use Rattle.characters.proofs.Tests.{and_left, and_right, and_assoc}
use Rattle.fields.specs.Field.{field, all}
use Rattle.rows.specs.declared.RenderOptions.{RenderOptions}
use Rattle.fields.specs.Spans.{RenderLine, Hanging, Cell, lines_bytes, names_bytes, hanging_content, overhang_bytes}
use Rattle.rows.specs.Answer.{fits, fits_hanging}
use Rattle.rows.specs.Columns.{Slot, row_slots, column_of, column_hangs, hangs_of}
use Rattle.slots.specs.declared.seat.Seat.{Seat}
use Rattle.seats.specs.declared.row.Row.{Row}
use Rattle.seats.specs.declared.row.Seats.{Seats}
use Rattle.seats.specs.Row.{RowIs, SeatsLeft, GivesSeats, NextSeat}
use Rattle.extend_lines.specs.Emitted.{Emitted, all_fit}
use Rattle.extend_lines.specs.declared.line.Lines.{Lines}
use Rattle.overhang.specs.Hang.{HangsSeat, StartsIn, HangsAll}
use Rattle.overhang.proofs.SpentLaws.{spent, spent_all, row_spent}
use Rattle.tagged_line.proofs.Tests.{all_append}

-- ---- lists

overhang_append : (vs ws : List Hanging) → length (overhang_bytes (vs ++ ws)) ≡ length (overhang_bytes vs) + length (overhang_bytes ws)
unfolding overhang_bytes
overhang_append [] ws = omega arith
overhang_append (v ∷ vs) ws =
    let f = field 0x56 (hanging_content v) in
    omega (arith, length-append f (overhang_bytes (vs ++ ws)), length-append f (overhang_bytes vs), overhang_append vs ws)

-- ---- the loop

module _ (s : RenderOptions) (height : ℕ) (collapse : Bool) where
  -- the V fields of some cells
  abbrev hangs_from : List Slot → List Hanging
  hangs_from xs = hangs_of s height (map (column_of collapse) xs)

  -- what hangs on of the cells passed stands, the others are left, and there is room for what hangs on of them
  pub record Hung (xs : List Slot) (st : List ℕ) (ls : List RenderLine) (ns : List (List ℕ)) (left : Seats) (out : List ℕ) (q : Lines) : Type 0 where
    pub ys : List Slot
    pub gone : List Hanging
    pub total : ℕ
    pub ahead : SeatsLeft left ys total
    pub whole : gone ++ hangs_from ys ≡ hangs_from xs
    pub room : all_fit ls gone ≡ true → q.at + spent_all s height collapse ys ≤ 2 ^ 63 + 2 ^ 62
    pub stands : Emitted st ls ns gone out q

  -- one cell more
  hung_on : (xs : List Slot) (st : List ℕ) (ls : List RenderLine) (ns : List (List ℕ)) (left rest : Seats) (seat : Seat) (out out' : List ℕ) (q r : Lines)
      → Hung xs st ls ns left out q → NextSeat left (Some seat) rest → HangsSeat out q s seat collapse height out' r → Hung xs st ls ns rest out' r
  unfolding hangs_of
  hung_on xs st ls ns left rest seat out out' q r h next hangs =
      let f = next h.ys h.total h.ahead in
      let x = f.one in
      let new = column_hangs s height (column_of collapse x) in
      let whole : h.gone ++ (new ++ hangs_from f.more) ≡ hangs_from xs = rw f.are at h.whole in
      let low : all_fit ls h.gone ≡ true → q.at + (spent s height collapse x + spent_all s height collapse f.more) ≤ 2 ^ 63 + 2 ^ 62 = rw f.are at h.room in
      let e = hangs x f.seat_is st ls ns h.gone (λ fit. omega (arith, low fit)) h.stands in
      record {
        ys = f.more;
        gone = h.gone ++ new;
        total = h.total;
        ahead = f.goes;
        whole = append_assoc h.gone new (hangs_from f.more) ∙ whole;
        room = λ ok.
            let ok' = sym (fit_append ls h.gone new) ∙ ok in
            let fit = and_left (all_fit ls h.gone) (all fits_hanging new) ok' in
            let is : spent s height collapse x ≡ length (overhang_bytes new) = rw (and_right (all_fit ls h.gone) (all fits_hanging new) ok') in
            omega (
              arith,
              low fit,
              is,
              h.stands.place fit,
              e.place ok,
              overhang_append h.gone new,
              length-append (lines_bytes ls) (names_bytes ns ++ overhang_bytes h.gone),
              length-append (names_bytes ns) (overhang_bytes h.gone),
              length-append (lines_bytes ls) (names_bytes ns ++ overhang_bytes (h.gone ++ new)),
              length-append (names_bytes ns) (overhang_bytes (h.gone ++ new)),
            );
        stands = e;
      }
    where
      fit_append : (ls : List RenderLine) (vs ws : List Hanging) → all_fit ls (vs ++ ws) ≡ (all_fit ls vs && all fits_hanging ws)
      fit_append ls vs ws = ap (λ (t : Bool). all fits ls && t) (all_append fits_hanging vs ws) ∙ and_assoc (all fits ls) (all fits_hanging vs) (all fits_hanging ws)

  -- no cell is left
  hung_end : (xs : List Slot) (st : List ℕ) (ls : List RenderLine) (ns : List (List ℕ)) (left : Seats) (out : List ℕ) (q : Lines) → Hung xs st ls ns left out q
      → ((ys : List Slot) (total : ℕ) → SeatsLeft left ys total → ys ≡ []) → Emitted st ls ns (hangs_from xs) out q
  unfolding hangs_of
  hung_end xs st ls ns left out q h none =
      let e = none h.ys h.total h.ahead in
      let whole : h.gone ++ [] ≡ hangs_from xs = rw e at h.whole in
      rw (sym whole ∙ append-nil h.gone) h.stands

  -- ---- for all inputs

  -- what is known at each turn
  pub record Turns (row : Row) (out₀ : List ℕ) (p : Lines) (left : Seats) (out : List ℕ) (q : Lines) : Type 0 where
    pub size : length out ≡ length out₀
    pub count : q.count ≡ p.count
    pub hung : (cs : List Cell) (vs : List Hanging) (total : ℕ) → length cs ≤ 16 → RowIs row (row_slots vs cs) total
        → (st : List ℕ) (ls : List RenderLine) (ns : List (List ℕ)) → StartsIn vs ls p → Emitted st ls ns [] out₀ p → Hung (row_slots vs cs) st ls ns left out q

  pub turns_start : (row : Row) (out : List ℕ) (p : Lines) (left : Seats) → GivesSeats row left → Turns row out p left out p
  turns_start row out p left gives =
      record {
        size = refl;
        count = refl;
        hung = λ cs vs total few is st ls ns near e. record {
          ys = row_slots vs cs;
          gone = [];
          total = total;
          ahead = gives (row_slots vs cs) total is;
          whole = refl;
          room = λ fit. omega (arith, near.near fit, row_spent s height collapse cs vs few);
          stands = e;
        };
      }

  module _ (row : Row) (out₀ : List ℕ) (p : Lines) (left : Seats) (out : List ℕ) (q : Lines) (w : Turns row out₀ p left out q) where
    pub turns_on : (seat : Seat) (rest : Seats) (out' : List ℕ) (r : Lines) → length out' ≡ length out → r.count ≡ q.count → NextSeat left (Some seat) rest
        → HangsSeat out q s seat collapse height out' r → Turns row out₀ p rest out' r
    turns_on seat rest out' r same count next hangs =
        record {
          size = same ∙ w.size;
          count = count ∙ w.count;
          hung = λ cs vs total few is st ls ns near e.
              hung_on (row_slots vs cs) st ls ns left rest seat out out' q r (w.hung cs vs total few is st ls ns near e) next hangs;
        }

    pub turns_end : ((ys : List Slot) (total : ℕ) → SeatsLeft left ys total → ys ≡ []) → HangsAll out₀ p s row collapse height out q
    turns_end none cs vs total few is st ls ns near e = hung_end (row_slots vs cs) st ls ns left out q (w.hung cs vs total few is st ls ns near e) none
