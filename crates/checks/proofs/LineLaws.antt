-- Laws of the refusals of lines, and of fields that hold lines: cells, and cells that hang.
-- Assumes nothing.
use mathlib.Core.Path.{◌≡◌, refl, sym, ap, ◌∙◌}
use mathlib.Core.Bool.{Bool, true, false}
use mathlib.Core.Option.{Option, none, some, map}
use mathlib.Core.List.{List, [], ◌∷◌}
use Prim.Native.Nat.{ℕ, ◌-◌, ◌+◌, ◌*◌, ◌≤◌, ◌<◌}
use native.Mathlib.Omega.{arith}
use lib.Dec.{eqb}
use lib.ListN.{length, take, drop, get_or}
use borrow.Author.Tests.{ne_eqb}
use Rattle.std.specs.Prelude.{if◌then◌else◌}
use Rattle.fields.specs.Field.{whole, broken, raws, read_all}
use Rattle.fields.specs.First.{first_of, first_over, refusal_of, unless}
use Rattle.fields.specs.Sheet.{read_piece}
use Rattle.fields.specs.Walk.{piece_refusal}
use Rattle.fields.proofs.First.{first_zero, one_first}
use Rattle.fields.proofs.Sheets.{pieces_all, mapped, two_after}
use Rattle.fields.proofs.Texts.{rest}
use Rattle.fields.specs.Spans.{RenderLine, text, hanging, cell, read_line, is_span, read_hanging, read_cell, read_plain_cell, readable_line, readable_lines}
use Rattle.fields.specs.SpanRefusals.{line_refusal, judged_hanging, hanging_refusal, judged_cell, cell_refusal, plain_cell_refusal}
use Rattle.rows.proofs.Refusing.{lines_all}
use Rattle.checks.specs.Walk.{body_refusal}

-- ---- one line

-- a line of pieces
pub text_line : (l : ℕ) (s : List ℕ) → l ≡ 0x4C → first_over piece_refusal (raws s) ≡ line_refusal (whole l s)
unfolding line_refusal read_line
text_line l s e = pieces_all (raws s) ∙ rw e (mapped (λ x. unless (readable_line x)) text (read_all read_piece (raws s)))

-- another letter
pub no_line : (l : ℕ) (s : List ℕ) → (l ≡ 0x4C → ⊥) → (l ≡ 0x42 → ⊥) → (l ≡ 0x47 → ⊥) → 1 ≡ line_refusal (whole l s)
unfolding line_refusal read_line
no_line l s h k j = rw (ne_eqb l 0x4C h, ne_eqb l 0x42 k, ne_eqb l 0x47 j)

-- a rest that is no field
pub line_crooked : line_refusal broken ≡ 1
unfolding line_refusal read_line
line_crooked = refl

-- ---- a width and lines

-- what is read with a width w, judged by the width and its lines
module _ {A : Type 0} (g : A → ℕ) (make : List RenderLine → A) where
  judged : (b : Bool) (o : Option (List RenderLine)) → ((l : List RenderLine) → g (make l) ≡ (if b then 2 else unless (readable_lines l)))
      → first_of (refusal_of (λ l. unless (readable_lines l)) o) (if b then 2 else 0) ≡ refusal_of g (map make o)
  judged b none k = one_first (if b then 2 else 0)
  judged true (some l) k = two_after (readable_lines l) ∙ sym (k l)
  judged false (some l) k = first_zero (unless (readable_lines l)) ∙ sym (k l)

  body : (w : ℕ) (ls : List ℕ) → ((l : List RenderLine) → g (make l) ≡ (if eqb w 0 then 2 else unless (readable_lines l)))
      → body_refusal w ls ≡ refusal_of g (map make (read_all read_line (raws ls)))
  unfolding body_refusal
  body w ls k =
      ap (λ (n : ℕ). first_of n (if eqb w 0 then 2 else 0)) (lines_all (raws ls)) ∙ judged (eqb w 0) (read_all read_line (raws ls)) k

-- ---- a C field

pub no_plain : (l : ℕ) (s : List ℕ) → (l ≡ 0x43 → ⊥) → 1 ≡ plain_cell_refusal (whole l s)
unfolding plain_cell_refusal read_plain_cell
no_plain l s h = rw (ne_eqb l 0x43 h)

pub short_plain : (l : ℕ) (s : List ℕ) → l ≡ 0x43 → length s < 1 → 1 ≡ plain_cell_refusal (whole l s)
unfolding plain_cell_refusal read_plain_cell
short_plain l [] e h = rw e
short_plain l (a ∷ s) e h = absurd (omega arith)

pub plain_body : (l : ℕ) (s : List ℕ) → l ≡ 0x43 → 1 ≤ length s → body_refusal (get_or s 0 0) (take (length s - 1) (drop 1 s)) ≡ plain_cell_refusal (whole l s)
unfolding plain_cell_refusal read_plain_cell
plain_body l [] e h = absurd (omega arith)
plain_body l (w ∷ s) e h = rw (rest (w ∷ s) 1, e) (body judged_cell (cell w 1) w s (λ _. refl))

-- ---- a C or K field

-- a field that is no K
pub no_span : (l : ℕ) (s : List ℕ) → (l ≡ 0x4B → ⊥) → plain_cell_refusal (whole l s) ≡ cell_refusal (whole l s)
unfolding plain_cell_refusal read_plain_cell cell_refusal read_cell
no_span l s h = rw (ne_eqb l 0x4B h)

pub short_span : (l : ℕ) (s : List ℕ) → l ≡ 0x4B → length s < 2 → 1 ≡ cell_refusal (whole l s)
unfolding cell_refusal read_cell
short_span l [] e h = rw e
short_span l (a ∷ []) e h = rw e
short_span l (a ∷ b ∷ s) e h = absurd (omega arith)

pub wrong_span : (l : ℕ) (s : List ℕ) → l ≡ 0x4B → 2 ≤ length s → is_span (get_or s 1 0) ≡ false → 1 ≡ cell_refusal (whole l s)
unfolding cell_refusal read_cell
wrong_span l [] e h k = absurd (omega arith)
wrong_span l (a ∷ []) e h k = absurd (omega arith)
wrong_span l (w ∷ n ∷ s) e h k = rw (e, k)

pub span_body : (l : ℕ) (s : List ℕ) → l ≡ 0x4B → 2 ≤ length s → is_span (get_or s 1 0) ≡ true
    → body_refusal (get_or s 0 0) (take (length s - 2) (drop 2 s)) ≡ cell_refusal (whole l s)
unfolding cell_refusal read_cell
span_body l [] e h k = absurd (omega arith)
span_body l (a ∷ []) e h k = absurd (omega arith)
span_body l (w ∷ n ∷ s) e h k = rw (rest (w ∷ n ∷ s) 2, e, k) (body judged_cell (cell w n) w s (λ _. refl))

-- ---- a V field

pub no_hanging : (l : ℕ) (s : List ℕ) → (l ≡ 0x56 → ⊥) → 1 ≡ hanging_refusal (whole l s)
unfolding hanging_refusal read_hanging
no_hanging l s h = rw (ne_eqb l 0x56 h)

pub short_hanging : (l : ℕ) (s : List ℕ) → l ≡ 0x56 → length s < 4 → 1 ≡ hanging_refusal (whole l s)
unfolding hanging_refusal read_hanging
short_hanging l [] e h = rw e
short_hanging l (p ∷ []) e h = rw e
short_hanging l (p ∷ q ∷ []) e h = rw e
short_hanging l (p ∷ q ∷ w ∷ []) e h = rw e
short_hanging l (p ∷ q ∷ w ∷ n ∷ s) e h = absurd (omega arith)

pub wrong_rows : (l : ℕ) (s : List ℕ) → l ≡ 0x56 → 4 ≤ length s → is_span (get_or s 3 0) ≡ false → 1 ≡ hanging_refusal (whole l s)
unfolding hanging_refusal read_hanging
wrong_rows l [] e h k = absurd (omega arith)
wrong_rows l (p ∷ []) e h k = absurd (omega arith)
wrong_rows l (p ∷ q ∷ []) e h k = absurd (omega arith)
wrong_rows l (p ∷ q ∷ w ∷ []) e h k = absurd (omega arith)
wrong_rows l (p ∷ q ∷ w ∷ n ∷ s) e h k = rw (e, k)

pub hanging_body : (l : ℕ) (s : List ℕ) → l ≡ 0x56 → 4 ≤ length s → is_span (get_or s 3 0) ≡ true
    → body_refusal (get_or s 2 0) (take (length s - 4) (drop 4 s)) ≡ hanging_refusal (whole l s)
unfolding hanging_refusal read_hanging
hanging_body l [] e h k = absurd (omega arith)
hanging_body l (p ∷ []) e h k = absurd (omega arith)
hanging_body l (p ∷ q ∷ []) e h k = absurd (omega arith)
hanging_body l (p ∷ q ∷ w ∷ []) e h k = absurd (omega arith)
hanging_body l (p ∷ q ∷ w ∷ n ∷ s) e h k = rw (rest (p ∷ q ∷ w ∷ n ∷ s) 4, e, k) (body judged_hanging (hanging (p * 256 + q) w n) w s (λ _. refl))

-- ---- a rest that is no field is refusal 1 in a list of any kind

pub cell_crooked : cell_refusal broken ≡ 1
unfolding cell_refusal read_cell
cell_crooked = refl

pub plain_crooked : plain_cell_refusal broken ≡ 1
unfolding plain_cell_refusal read_plain_cell
plain_crooked = refl

pub hanging_crooked : hanging_refusal broken ≡ 1
unfolding hanging_refusal read_hanging
hanging_crooked = refl
