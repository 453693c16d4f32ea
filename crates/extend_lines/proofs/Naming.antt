-- The laws of a line that begins with the names that wait: their F fields are its first pieces, behind which no text is open, and a line
-- that takes more than 65,535 bytes of them is too long.
-- Assumes nothing.
use mathlib.Core.Path.{◌≡◌, refl, sym, ap, ◌∙◌}
use mathlib.Core.Bool.{false}
use mathlib.Core.Option.{some}
use mathlib.Core.List.{List, [], ◌∷◌, ◌++◌, map}
use Prim.Native.Nat.{ℕ, ◌+◌, ◌<◌}
use native.Mathlib.Omega.{arith}
use lib.ListN.{length}
use lib.Seq.{sets}
use Rattle.fields.specs.Field.{field, raws, read_all}
use Rattle.fields.specs.Sheet.{Piece, str, fragment, pieces_bytes}
use Rattle.fields.specs.Spans.{text, read_name, names_bytes}
use Rattle.fields.specs.Widths.{width}
use Rattle.fields.specs.TaggedLine.{WellFormedPiece, join, consume}
use Rattle.fields.specs.Store.{Wrote}
use Rattle.fields.proofs.Back.{Every}
use Rattle.rows.specs.declared.RenderOptions.{RenderOptions}
use Rattle.rows.specs.SubRenderer.{with_names, padded}
use Rattle.rows.specs.Answer.{fits}
use Rattle.rows.proofs.Reading.{Bytes, some_of}
use Rattle.rows.proofs.Same.{names_same}
use Rattle.rows.proofs.Front.{names_first}
use Rattle.tagged_line.specs.declared.line.Line.{Line}
use Rattle.extend_lines.specs.Emitted.{BeginsLine}
use Rattle.extend_lines.proofs.Growing.{size_of, grow_consume, long_unfit}

-- ---- names as pieces

-- The pieces of names have the bytes of their F fields.
pub names_pieces : (ns : List (List ℕ)) → pieces_bytes (map fragment ns) ≡ names_bytes ns
unfolding pieces_bytes names_bytes
names_pieces [] = refl
names_pieces (n ∷ ns) = ap (λ (bs : List ℕ). field 0x46 n ++ bs) (names_pieces ns)

names_width : (ns : List (List ℕ)) → width (map fragment ns) ≡ 0
unfolding width
names_width [] = refl
names_width (n ∷ ns) = omega (arith, names_width ns)

names_formed : (ns : List (List ℕ)) → Every WellFormedPiece (map fragment ns)
names_formed [] = tt
names_formed (n ∷ ns) = (tt, names_formed ns)

-- Text behind names is a piece of its own.
names_closed : (ns : List (List ℕ)) (a : ℕ) (t : List ℕ) → join (map fragment ns) a t ≡ map fragment ns ++ (str a t ∷ [])
unfolding join
names_closed [] a t = refl
names_closed (n ∷ []) a t = refl
names_closed (n ∷ m ∷ ns) a t = ap (λ (l : List Piece). fragment n ∷ l) (names_closed (m ∷ ns) a t)

-- F fields that were read have the bytes that they were read from.
pub names_back : (bs : List ℕ) (ns : List (List ℕ)) → Bytes bs → read_all read_name (raws bs) ≡ some ns → names_bytes ns ≡ bs
names_back bs ns h e = some_of (λ (l : List (List ℕ)). names_bytes l ≡ bs) (read_all read_name (raws bs)) ns e (names_same bs h)

-- Once their bytes stand where its content begins, the line holds them.
pub begins : (out out' : List ℕ) (names : List ℕ) (r : Line) → Bytes names → r.piece ≡ r.at → r.cols ≡ 0 → Wrote out r.base names out' r.at
    → BeginsLine out names out' r
begins out out' names r known piece cols w ns read =
    let same : pieces_bytes (map fragment ns) ≡ names = names_pieces ns ∙ names_back names ns known read in
    record {
      bytes = λ _. w.store ∙ ap (sets out r.base) (sym same);
      place = w.place ∙ ap (λ (bs : List ℕ). r.base + length bs) (sym same);
      cols = cols ∙ sym (names_width ns);
      valid = names_formed ns;
      opened = λ h. absurd (omega (arith, h, piece));
      closed = λ _ a t. names_closed ns a t;
    }

-- ---- too many

-- A line that takes names of more than 65,535 bytes does not fit.
pub named_unfit : (s : RenderOptions) (ns : List (List ℕ)) (ps : List Piece) → 65535 < length (names_bytes ns)
    → fits (padded s (with_names ns (text ps))) ≡ false
unfolding names_bytes
named_unfit s [] ps h = absurd (omega (arith, h))
named_unfit s (n ∷ ns) ps h =
    let l = map fragment (n ∷ ns) in
    let g = grow_consume l ps in
    let e : length (pieces_bytes l) ≡ length (names_bytes (n ∷ ns)) = ap length (names_pieces (n ∷ ns)) in
    let k : 65535 < size_of (consume l ps) = omega (arith, g, e, h) in
    ap (λ (x : List Piece). fits (padded s (text x))) (names_first (n ∷ ns) ps) ∙ long_unfit s (consume l ps) k
