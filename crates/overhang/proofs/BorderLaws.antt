-- The laws of a border's field: a B, or a G if there are holes.
-- Assumes nothing.
use mathlib.Core.Path.{◌≡◌, refl, sym, ap, ◌∙◌}
use mathlib.Core.List.{List, [], ◌∷◌, ◌++◌, append_assoc, append-nil}
use Prim.Native.Nat.{ℕ, ◌+◌, ◌%◌, ◌≤◌}
use native.Mathlib.Nat.{mod-eq_of_lt}
use native.Mathlib.Omega.{arith}
use borrow.Author.Tests.{leb-true, ne_eqb, eq-eqb}
use lib.ListN.{length, replicate, length-append, length-replicate}
use Rattle.fields.specs.Field.{two, head}
use Rattle.fields.specs.Store.{Wrote}
use Rattle.fields.specs.Spans.{Hole, RenderLine, border, raw_holes, read_holes, holes_bytes, content, letter as line-letter}
use Rattle.fields.proofs.Sets.{wrote_then}
use Rattle.block.proofs.Bounds.{length_field}
use Rattle.borders.specs.BorderSegHoriz.{Horiz}
use Rattle.rows.proofs.Reading.{some_of, Bytes}
use Rattle.rows.proofs.Same.{holes_same}
use Rattle.extend_lines.proofs.Emitting.{field_bytes}
use Rattle.overhang.specs.Border.{LineStands, front_bytes, PutsBorder}

-- ---- the front

pub front_plain : (out o₁ out' : List ℕ) (at a count holes start r : ℕ) → holes ≡ 0 → Wrote out at (head 0x42 ((1 + count) % 65536)) o₁ start
    → Wrote o₁ start (a ∷ []) out' r → Wrote out at (front_bytes a count holes) out' r
front_plain out o₁ out' at a count holes start r e u v = rw (eq-eqb holes 0 e) (wrote_then u v)

pub front_holed : (out o₁ o₂ out' : List ℕ) (at a count holes start number r : ℕ) → (holes ≡ 0 → ⊥) → Wrote out at (head 0x47 ((3 + count + holes) % 65536)) o₁ start
    → Wrote o₁ start (a ∷ []) o₂ number → Wrote o₂ number (two (count % 65536)) out' r → Wrote out at (front_bytes a count holes) out' r
front_holed out o₁ o₂ out' at a count holes start number r e u v w = rw (ne_eqb holes 0 e) (wrote_then u (wrote_then v w))

-- ---- the field

-- a length that fits is written as it is
kept : (n m : ℕ) → m ≡ n → n ≤ 65535 → m % 65536 ≡ n
kept n m e few = ap (λ (k : ℕ). k % 65536) e ∙ mod-eq_of_lt (omega (arith, few))

-- the field of a line stands, if its bytes do where it fits
stands : (out out' : List ℕ) (at r n : ℕ) (l : RenderLine) (rest : List ℕ) → n ≡ length (content l) → length rest ≡ length (content l)
    → (length (content l) ≤ 65535 → rest ≡ content l) → Wrote out at (head (line-letter l) (n % 65536) ++ rest) out' r → LineStands out at l out' r
stands out out' at r n l rest e same is w =
    record {
      place = rw (length_field (line-letter l) (content l)) (omega (arith, w.place, length-append (head (line-letter l) (n % 65536)) rest, same));
      store = λ fit.
          let few : length (content l) ≤ 65535 = leb-true (length (content l)) 65535 fit in
          rw (field_bytes (line-letter l) (content l)) (rw (kept (length (content l)) n e few, is few) at w.store);
    }

-- a B
stands_plain : (out out' : List ℕ) (at r a : ℕ) (segs : List ℕ) → Wrote out at (head 0x42 ((1 + length segs) % 65536) ++ (a ∷ segs)) out' r
    → LineStands out at (border a segs []) out' r
stands_plain out out' at r a segs w = stands out out' at r (1 + length segs) (border a segs []) (a ∷ segs) (omega arith) refl (λ _. refl) w

-- a G
stands_holed : (out out' : List ℕ) (at r a : ℕ) (segs : List ℕ) (h : Hole) (hs : List Hole)
    → Wrote out at (head 0x47 ((3 + length segs + length (holes_bytes (h ∷ hs))) % 65536) ++ (a ∷ (two (length segs % 65536) ++ (segs ++ holes_bytes (h ∷ hs))))) out' r
    → LineStands out at (border a segs (h ∷ hs)) out' r
stands_holed out out' at r a segs h hs w =
    let both = length-append segs (holes_bytes (h ∷ hs)) in
    stands out out' at r (3 + length segs + length (holes_bytes (h ∷ hs))) (border a segs (h ∷ hs)) (a ∷ (two (length segs % 65536) ++ (segs ++ holes_bytes (h ∷ hs))))
    (omega (arith, both)) refl
    (λ few. ap (λ (m : ℕ). a ∷ (two m ++ (segs ++ holes_bytes (h ∷ hs)))) (kept (length segs) (length segs) refl (omega (arith, few, both)))) w

-- no holes take no bytes, and a hole takes some
some_bytes : (h : Hole) (hs : List Hole) → length (holes_bytes (h ∷ hs)) ≡ 0 → ⊥
unfolding holes_bytes
some_bytes h hs e = omega (arith, e)

-- The front, the segments, those that follow them, and the holes.
pub puts_border : (out o₁ o₂ o₃ out' : List ℕ) (at a : ℕ) (segs : List ℕ) (more : ℕ) (holes : List ℕ) (start middle end r : ℕ) → Bytes holes
    → Wrote out at (front_bytes a (length segs + more) (length holes)) o₁ start → Wrote o₁ start segs o₂ middle → Wrote o₂ middle (replicate more Horiz) o₃ end
    → Wrote o₃ end holes out' r → PutsBorder out at a segs more holes out' r
unfolding holes_bytes
puts_border out o₁ o₂ o₃ out' at a segs more holes start middle end r k u v w x hs is =
    go hs (some_of (λ (l : List Hole). holes_bytes l ≡ holes) (read_holes (raw_holes holes)) hs is.reads (holes_same holes k))
  where
    count : length segs + more ≡ length (segs ++ replicate more Horiz)
    count = omega (arith, length-append segs (replicate more Horiz), length-replicate more Horiz)

    after : Wrote o₁ start ((segs ++ replicate more Horiz) ++ holes) out' r
    after = rw (append_assoc segs (replicate more Horiz) holes) (wrote_then v (wrote_then w x))

    go : (hs : List Hole) → holes_bytes hs ≡ holes → LineStands out at (border a (segs ++ replicate more Horiz) hs) out' r
    go [] same =
        let front : Wrote out at (head 0x42 ((1 + length (segs ++ replicate more Horiz)) % 65536) ++ (a ∷ [])) o₁ start =
        rw (count, eq-eqb (length holes) 0 (ap length (sym same))) at u in
        stands_plain out out' at r a (segs ++ replicate more Horiz) (rw append-nil at (rw (← same) at (wrote_then front after)))
    go (h ∷ hs) same =
        let n = ap length (sym same) in
        let front : Wrote out at (head 0x47 ((3 + length (segs ++ replicate more Horiz) + length (holes_bytes (h ∷ hs))) % 65536) ++ (a ∷ two (length (segs ++ replicate more Horiz) % 65536))) o₁ start =
        rw (count, ne_eqb (length holes) 0 (λ z. some_bytes h hs (sym n ∙ z)), n) at u in
        stands_holed out out' at r a (segs ++ replicate more Horiz) h hs (rw (← same) at (wrote_then front after))
