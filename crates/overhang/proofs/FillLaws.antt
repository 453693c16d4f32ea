-- The laws of a line that is filled: a text, padded, and a border, stretched.
-- Assumes nothing.
use mathlib.Core.Path.{◌≡◌, refl, sym, ap, ◌∙◌}
use mathlib.Core.Bool.{false}
use mathlib.Core.Option.{Option, none, some, map, some-injective}
use mathlib.Core.List.{List, []}
use Prim.Native.Nat.{ℕ, ◌+◌, ◌-◌, ◌%◌, ◌≤◌}
use native.Mathlib.Nat.{mod-eq_of_lt}
use native.Mathlib.Omega.{arith}
use borrow.Author.Tests.{leb-true}
use lib.ListN.{length}
use lib.Seq.{sets}
use Rattle.characters.proofs.Tests.{clash}
use Rattle.fields.specs.Field.{head, raws, read_all}
use Rattle.fields.specs.declared.raw.Field.{Field}
use Rattle.fields.specs.Sheet.{Piece, read_piece, pieces_bytes}
use Rattle.fields.specs.Store.{Wrote}
use Rattle.fields.proofs.Sets.{wrote_before}
use Rattle.block.proofs.Bounds.{length_field}
use Rattle.borders.specs.BorderHoriz.{stretch_to}
use Rattle.fields.specs.TaggedLine.{pad_to}
use Rattle.rows.specs.declared.RenderOptions.{RenderOptions}
use Rattle.rows.proofs.Lines.{same_pieces}
use Rattle.fields.specs.Spans.{text, border, read_line}
use Rattle.rows.specs.SubRenderer.{filled}
use Rattle.places.specs.Border.{ReadsBorder}
use Rattle.places.specs.declared.border.Border.{Border}
use Rattle.bodies.proofs.LineLaws.{line_border}
use Rattle.tagged_line.specs.Held.{Held, LineGrown, new_line, Pads}
use Rattle.tagged_line.specs.Pieces.{AddsPieces}
use Rattle.tagged_line.specs.declared.line.Line.{Line}
use Rattle.extend_lines.proofs.Emitting.{held_new, field_bytes}
use Rattle.overhang.specs.Border.{PutsBorder, LineStands}
use Rattle.overhang.specs.Filled.{PutsText, PutsStretched, PutsFilled}

-- ---- a text

-- its content begins behind its head
pub text_base : (at n m : ℕ) (new laid line : Line) → new ≡ new_line at → LineGrown new laid n → LineGrown laid line m → line.base ≡ at + 3
text_base at n m new laid line is g h =
    let k : LineGrown (new_line at) laid n = rw is at g in
    h.base ∙ k.base

pub puts_text : (out o₁ o₂ out' : List ℕ) (at : ℕ) (s : RenderOptions) (bytes : List ℕ) (to : ℕ) (new laid line : Line) (next : ℕ) → new ≡ new_line at
    → line.base ≡ at + 3 → AddsPieces out new bytes false false o₁ laid → Pads o₁ laid to s.annotation o₂ line
    → Wrote o₂ at (head 0x4C ((line.at - line.base) % 65536)) out' next → PutsText out at s bytes to out' line.at
puts_text out o₁ o₂ out' at s bytes to new laid line next is base adds pads w ps read ok =
    let l = pad_to ps to s.annotation in
    let held : Held out l o₂ line = pads out ps (rw (sym (same_pieces ps)) at (adds ps read ok out [] (rw is (held_new out at)))) in
    let bs = pieces_bytes l in
    let n : line.at - line.base ≡ length bs = omega (arith, held.place) in
    record {
      place = rw (length_field 0x4C bs) (omega (arith, held.place, base));
      store = λ fit.
          let few : length bs ≤ 65535 = leb-true (length bs) 65535 fit in
          let v : Wrote out (at + 3) bs o₂ line.at = record {
            place = held.place ∙ ap (λ (k : ℕ). k + length bs) base;
            store = held.bytes few ∙ ap (λ (k : ℕ). sets out k bs) base;
          } in
          let k : (line.at - line.base) % 65536 ≡ length bs = ap (λ (m : ℕ). m % 65536) n ∙ mod-eq_of_lt (omega (arith, few)) in
          rw (field_bytes 0x4C bs) (wrote_before v (rw k at w)).store;
    }

-- ---- a line

pub filled_text : (out out' : List ℕ) (at : ℕ) (s : RenderOptions) (line : Field) (to r : ℕ) → line.letter ≡ 0x4C → PutsText out at s line.content.now to out' r
    → PutsFilled out at s line to out' r
unfolding read_line filled
filled_text out out' at s line to r is puts l read ok = go (read_all read_piece (raws line.content.now)) refl (rw is at read)
  where
    go : (q : Option (List Piece)) → read_all read_piece (raws line.content.now) ≡ q → map text q ≡ some l → LineStands out at (filled s to l) out' r
    go none f g = absurd (let z : ◌≡◌ {A = ℕ} 0 1 = cc in omega arith)
    go (some ps) f g =
        let e : text ps ≡ l = some-injective (text ps) l g in
        rw (← e) (puts ps f (rw (← e) at ok))

pub filled_border : (out out' : List ℕ) (at : ℕ) (s : RenderOptions) (line : Field) (to r : ℕ) → (line.letter ≡ 0x4C → ⊥) → PutsStretched out at line to out' r
    → PutsFilled out at s line to out' r
unfolding filled
filled_border out out' at s line to r no-l puts (text ps) read ok = absurd (clash (line_border line.letter line.content.now (text ps) read no-l) refl)
filled_border out out' at s line to r no-l puts (border a segs hs) read ok = puts a segs hs read

-- a border that its field is read as, with the segments that it lacks
pub stretched : (out out' : List ℕ) (at : ℕ) (line : Field) (to more : ℕ) (b : Border) (r : ℕ) → ReadsBorder line.letter line.content.now b → more ≡ to - length b.segments.now
    → PutsBorder out at b.annotation b.segments.now more b.holes.now out' r → PutsStretched out at line to out' r
unfolding stretch_to
stretched out out' at line to more b r reads lacks puts a ss hs read =
    let is = reads a ss hs read in
    rw (is.annotation, lacks, is.segments) at (puts hs is.punched)
