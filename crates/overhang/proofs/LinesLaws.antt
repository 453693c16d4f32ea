-- The laws of a loop that fills lines, one field after the other.
-- Assumes nothing.
use mathlib.Core.Path.{◌≡◌, refl, sym, ap, ◌∙◌}
use mathlib.Core.Bool.{true}
use mathlib.Core.Option.{Option, none, some, some-injective}
use mathlib.Core.List.{List, [], ◌∷◌, map}
use Prim.Native.Nat.{ℕ, ◌+◌, ◌*◌, ◌^◌, ◌≤◌, ◌<◌}
use native.Mathlib.Omega.{arith}
use borrow.Author.Tests.{le-leb}
use lib.ListN.{length, length-append}
use Rattle.characters.proofs.Tests.{and_left, and_right}
use Rattle.fields.specs.Field.{field, Raw, broken, raws, both, read_all, all}
use Rattle.fields.specs.List.{whole_of}
use Rattle.fields.specs.declared.raw.Field.{Field}
use Rattle.fields.proofs.Sets.{sets_append}
use Rattle.fields.proofs.Sizes.{raws_size, raws_bytes}
use Rattle.block.proofs.Bounds.{length_field}
use Rattle.rows.specs.declared.RenderOptions.{RenderOptions}
use Rattle.fields.specs.Spans.{RenderLine, read_line, readable_line, readable_lines, content, letter as line-letter, lines_bytes}
use Rattle.rows.specs.SubRenderer.{filled}
use Rattle.overhang.specs.Border.{LineStands}
use Rattle.overhang.specs.Filled.{LineIn, PutsFilled, LinesStand, PutsLines}

-- ---- the lines

-- `PutsLines`, of fields
abbrev PutsFields : List ℕ → ℕ → RenderOptions → List Raw → ℕ → List ℕ → ℕ → Type 0
PutsFields out at s rs to out' r = (ls : List RenderLine) → read_all read_line rs ≡ some ls → readable_lines ls ≡ true → LinesStand out at (map (filled s to) ls) out' r

-- no line
fields_none : (out : List ℕ) (at : ℕ) (s : RenderOptions) (to : ℕ) → PutsFields out at s [] to out at
unfolding lines_bytes read_all
fields_none out at s to ls read ok =
    let e : [] ≡ ls = some-injective [] ls read in
    rw (← e) (record { place = omega arith; store = λ _. refl })

-- a line, and those after it
stand_on : (out mid out' : List ℕ) (at next r : ℕ) (l : RenderLine) (ls : List RenderLine) → LineStands out at l mid next → LinesStand mid next ls out' r
    → LinesStand out at (l ∷ ls) out' r
unfolding lines_bytes
stand_on out mid out' at next r l ls u v =
    let f = field (line-letter l) (content l) in
    let n = length-append f (lines_bytes ls) in
    record {
      place = omega (arith, u.place, v.place, n);
      store = λ few.
          let fit = le-leb (length (content l)) 65535 (omega (arith, few, n, length_field (line-letter l) (content l))) in
          v.store (omega (arith, few, n)) ∙ rw (u.store fit, u.place) (sym (sets_append out at f (lines_bytes ls)));
    }

fields_on : (out mid out' : List ℕ) (at next r : ℕ) (s : RenderOptions) (line : Field) (rs : List Raw) (to : ℕ) → PutsFilled out at s line to mid next
    → PutsFields mid next s rs to out' r → PutsFields out at s (whole_of line ∷ rs) to out' r
unfolding read_all readable_lines all
fields_on out mid out' at next r s line rs to one others ls read ok = go (read_line (whole_of line)) (read_all read_line rs) refl refl read
  where
    go : (x : Option RenderLine) (xs : Option (List RenderLine)) → read_line (whole_of line) ≡ x → read_all read_line rs ≡ xs → both x xs ≡ some ls
        → LinesStand out at (map (filled s to) ls) out' r
    go none xs f g h = absurd (let z : ◌≡◌ {A = ℕ} 0 1 = cc in omega arith)
    go (some l) none f g h = absurd (let z : ◌≡◌ {A = ℕ} 0 1 = cc in omega arith)
    go (some l) (some left) f g h =
        let e : l ∷ left ≡ ls = some-injective (l ∷ left) ls h in
        let ok' = rw (← e) at ok in
        rw (← e)
        (stand_on out mid out' at next r (filled s to l) (map (filled s to) left) (one l f (and_left (readable_line l) (all readable_line left) ok'))
        (others left g (and_right (readable_line l) (all readable_line left) ok')))

-- lines that were read are whole
fields_broken : (out out' : List ℕ) (at r : ℕ) (s : RenderOptions) (rs : List Raw) (to : ℕ) → PutsFields out at s (broken ∷ rs) to out' r
unfolding read_all read_line
fields_broken out out' at r s rs to ls read ok = absurd (let z : ◌≡◌ {A = ℕ} 0 1 = cc in omega arith)

-- ---- the loop

-- Some lines stand, and the fields of the others are left.
pub record Laying (out₀ : List ℕ) (place : ℕ) (s : RenderOptions) (bytes : List ℕ) (to : ℕ) (out : List ℕ) (p : ℕ) (left : List Raw) : Type 0 where
  pub size : length out ≡ length out₀
  pub on : place ≤ p
  pub most : p + 256 * raws_size left ≤ place + 256 * length bytes
  pub goes : (out' : List ℕ) (r : ℕ) → PutsFields out p s left to out' r → PutsLines out₀ place s bytes to out' r

pub lay_start : (out : List ℕ) (place : ℕ) (s : RenderOptions) (bytes : List ℕ) (to : ℕ) → Laying out place s bytes to out place (raws bytes)
lay_start out place s bytes to =
    record { size = refl; on = omega arith; most = omega (arith, raws_bytes bytes); goes = λ out' r puts ls lines ok. puts ls lines.reads ok }

module _ (out₀ : List ℕ) (place : ℕ) (s : RenderOptions) (bytes : List ℕ) (to : ℕ) (out : List ℕ) (p : ℕ) (left : List Raw)
    (w : Laying out₀ place s bytes to out p left) where
  -- the place stays low
  pub lay_low : place < 2 ^ 59 → length bytes < 65536 → p < 2 ^ 60
  lay_low h k = omega (arith, w.most, h, k)

  -- a line more
  pub lay_on : (line : Field) (rest : List Raw) (out' : List ℕ) (r : ℕ) → to < 256 → left ≡ whole_of line ∷ rest → length out' ≡ length out
      → LineIn p (length line.content.now) to r → PutsFilled out p s line to out' r → Laying out₀ place s bytes to out' r rest
  lay_on line rest out' r small is same i puts =
      record {
        size = same ∙ w.size;
        on = omega (arith, w.on, i.on);
        most = omega (arith, w.most, i.most, ap raws_size is, small);
        goes = λ out'' z others. w.goes out'' z (rw is (fields_on out out' out'' p r z s line rest to puts others));
      }

  -- a rest that is no field
  pub lay_broken : (rest : List Raw) → left ≡ broken ∷ rest → Laying out₀ place s bytes to out p rest
  lay_broken rest is =
      record {
        size = w.size;
        on = w.on;
        most = omega (arith, w.most, ap raws_size is);
        goes = λ out' r others. w.goes out' r (rw is (fields_broken out out' p r s rest to));
      }

  -- the end
  pub lay_end : left ≡ [] → PutsLines out₀ place s bytes to out p
  lay_end is = w.goes out p (rw is (fields_none out p s to))

  pub lay_in : length bytes < 65536 → (place ≤ p) × (p ≤ place + 67108864)
  lay_in k = (w.on, omega (arith, w.most, k))
