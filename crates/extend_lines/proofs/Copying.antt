-- The laws of lines that are copied: one line, and a row of fields.
-- Assumes nothing.
use mathlib.Core.Path.{◌≡◌, refl, sym, ap, ◌∙◌}
use mathlib.Core.Bool.{Bool, true, false, not, ◌||◌}
use mathlib.Core.Option.{Option, none, some, some-injective}
use mathlib.Core.List.{List, [], ◌∷◌, ◌++◌, append_assoc, append-nil}
use Prim.Native.Nat.{ℕ, suc, ◌+◌, ◌≤◌, ◌<◌}
use native.Mathlib.Omega.{arith}
use borrow.Author.Tests.{le-leb}
use lib.ListN.{length}
use Rattle.fields.specs.Field.{field, Raw, whole, broken, raws, both, read_all}
use Rattle.fields.specs.Store.{Wrote}
use Rattle.fields.proofs.Back.{Every}
use Rattle.block.proofs.Bounds.{length_field}
use Rattle.rows.proofs.Reading.{some_of, Bytes, OfBytes, splits}
use Rattle.fields.specs.Spans.{RenderLine, read_line, content, letter as line-letter}
use Rattle.rows.specs.Answer.{fits}
use Rattle.rows.proofs.Same.{line_same}
use Rattle.extend_lines.specs.Emitted.{Emitted, InBounds, OneLineMore, CopiesLine, CopiesFields}
use Rattle.extend_lines.specs.declared.line.Lines.{Lines}
use Rattle.extend_lines.proofs.Emitting.{one_more, wrote_length}

-- ---- one line

or_false : (a : Bool) → (a || false) ≡ a
or_false true = refl
or_false false = refl

-- a line that fits leaves the test for refusal 7 as it was
short_more : (a r t : Bool) → r ≡ a → t ≡ true → r ≡ (a || not t)
short_more a r t e f = e ∙ rw f (sym (or_false a))

-- A line as it stands: its field's bytes are the line's.
pub copies_line : (out out' : List ℕ) (p r : Lines) (letter : ℕ) (bytes : List ℕ) → length bytes < 65536
    → r.count ≡ p.count + 1 → r.long ≡ p.long → Wrote out p.at (field letter bytes) out' r.at → CopiesLine out p (whole letter bytes) out' r
copies_line out out' p r letter bytes few count long w l read k st ls e =
    let same : field (line-letter l) (content l) ≡ field letter bytes =
    some_of (λ (x : RenderLine). field (line-letter x) (content x) ≡ field letter bytes) (read_line (whole letter bytes)) l read (line_same letter bytes k) in
    let n : length (content l) ≡ length bytes = omega (arith, ap length same, length_field (line-letter l) (content l), length_field letter bytes) in
    let ok : fits l ≡ true = le-leb (length (content l)) 65535 (omega (arith, n)) in
    one_more st out out' ls l p r e (wrote_length w) count (short_more p.long r.long (fits l) long ok) (λ _. rw same w)

-- It takes three bytes more than its content.
pub field_most : (out out' : List ℕ) (at letter : ℕ) (bytes : List ℕ) (next : ℕ) → Wrote out at (field letter bytes) out' next → next ≡ at + 3 + length bytes
field_most out out' at letter bytes next w = omega (arith, length_field letter bytes, w.place)

-- ---- a row of fields

-- No field more.
pub copies_none : (out : List ℕ) (p : Lines) → CopiesFields out p [] out p
unfolding read_all
copies_none out p new read st ls e =
    let n : [] ≡ new = some-injective [] new read in
    rw (← n, append-nil ls) e

-- A rest that is no field reads as no lines.
pub copies_broken : (out out' : List ℕ) (p r : Lines) (rest : List Raw) → CopiesFields out p (broken ∷ rest) out' r
unfolding read_all read_line
copies_broken out out' p r rest new read st ls e = absurd (let z : ◌≡◌ {A = ℕ} 0 1 = cc in omega arith)

-- A field, and those after it.
pub copies_on : (out mid out' : List ℕ) (p q r : Lines) (field : Raw) (rest : List Raw)
    → OfBytes field → CopiesLine out p field mid q → CopiesFields mid q rest out' r → CopiesFields out p (field ∷ rest) out' r
unfolding read_all
copies_on out mid out' p q r field rest known one others new read st ls e = go (read_line field) (read_all read_line rest) refl refl read
  where
    go : (x : Option RenderLine) (xs : Option (List RenderLine)) → read_line field ≡ x → read_all read_line rest ≡ xs
        → both x xs ≡ some new → Emitted st (ls ++ new) [] [] out' r
    go none xs f g h = absurd (let z : ◌≡◌ {A = ℕ} 0 1 = cc in omega arith)
    go (some l) none f g h = absurd (let z : ◌≡◌ {A = ℕ} 0 1 = cc in omega arith)
    go (some l) (some left) f g h =
        let n : l ∷ left ≡ new = some-injective (l ∷ left) new h in
        rw (← n, ← append_assoc ls (l ∷ []) left) (others left g st (ls ++ (l ∷ [])) (one l f known st ls e))

-- ---- a loop over them

-- the fields of bytes hold bytes
pub fields_known : (bs : List ℕ) → Bytes bs → Every OfBytes (raws bs)
fields_known bs k = (splits bs k).0

-- Some fields are copied, and the others are left.
pub record Walk (out₀ : List ℕ) (p : Lines) (all : List Raw) (out : List ℕ) (q : Lines) (left : List Raw) : Type 0 where
  pub size : length out ≡ length out₀
  pub known : Every OfBytes left
  pub bounds : InBounds q
  pub count : q.count + length left ≤ p.count + length all
  pub lines : (out' : List ℕ) (r : Lines) → CopiesFields out q left out' r → CopiesFields out₀ p all out' r

pub walk_start : (out : List ℕ) (p : Lines) (all left : List Raw) → InBounds p → Every OfBytes all → left ≡ all → Walk out p all out p left
walk_start out p all left h k e = rw e (record { size = refl; known = k; bounds = h; count = omega arith; lines = λ out' r others. others })

-- A line is copied.
pub walk_on : (out₀ : List ℕ) (p : Lines) (all : List Raw) (out : List ℕ) (q : Lines) (left : List Raw) (field : Raw) (rest : List Raw) (out' : List ℕ) (r : Lines)
    → Walk out₀ p all out q left → p.count + length all < 1000000 → left ≡ field ∷ rest
    → OneLineMore q r → length out' ≡ length out → CopiesLine out q field out' r → Walk out₀ p all out' r rest
walk_on out₀ p all out q left field rest out' r w few is more same one =
    let n : length left ≡ suc (length rest) = ap length is in
    let known : Every OfBytes (field ∷ rest) = rw is at w.known in
    record {
      size = same ∙ w.size;
      known = known.1;
      bounds = record {
        at = omega (arith, w.bounds.at, more.at, more.count);
        count = omega (arith, n, w.count, few, more.count);
      };
      count = omega (arith, n, w.count, more.count);
      lines = λ out'' z others. w.lines out'' z (rw is (copies_on out out' out'' q r z field rest known.0 one others));
    }

-- A rest that is no field is passed over.
pub walk_broken : (out₀ : List ℕ) (p : Lines) (all : List Raw) (out : List ℕ) (q : Lines) (left rest : List Raw) → Walk out₀ p all out q left → left ≡ broken ∷ rest
    → Walk out₀ p all out q rest
walk_broken out₀ p all out q left rest w is =
    let n : length left ≡ suc (length rest) = ap length is in
    let known : Every OfBytes (broken ∷ rest) = rw is at w.known in
    record {
      size = w.size;
      known = known.1;
      bounds = w.bounds;
      count = omega (arith, n, w.count);
      lines = λ out' r others. w.lines out' r (rw is (copies_broken out out' q r rest));
    }

-- No field is left.
pub walk_end : (out₀ : List ℕ) (p : Lines) (all : List Raw) (out : List ℕ) (q : Lines) (left : List Raw) → Walk out₀ p all out q left → left ≡ []
    → CopiesFields out₀ p all out q
walk_end out₀ p all out q left w is = w.lines out q (rw is (copies_none out q))
