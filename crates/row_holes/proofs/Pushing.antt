-- The bytes of pieces that are pushed on a line: no fewer than on a new line, and no more than they have themselves. The pieces of a border
-- are what they are when they are pushed again.
-- Assumes nothing.
use mathlib.Core.Path.{◌≡◌, refl, ap, ◌∙◌}
use mathlib.Core.Bool.{Bool, true, false}
use mathlib.Core.Option.{Option, none, some}
use mathlib.Core.List.{List, [], ◌∷◌, ◌++◌}
use Prim.Native.Nat.{ℕ, ◌+◌, ◌≤◌}
use native.Mathlib.Omega.{arith}
use lib.Dec.{eqb, ltb}
use lib.ListN.{length, drop, length-append}
use borrow.Author.Tests.{eqb-true}
use Rattle.std.specs.Prelude.{if◌then◌else◌}
use Rattle.fields.specs.Field.{part}
use Rattle.fields.specs.Sheet.{Piece, str, fragment, piece_bytes, pieces_bytes}
use Rattle.fields.specs.Widths.{piece_width}
use Rattle.borders.specs.BorderHoriz.{to_string, up_to_hole, at_hole, into_tagged_from}
use Rattle.fields.specs.TaggedLine.{join, push_str, push, consume}
use Rattle.rows.proofs.Lines.{consume_push, join_long}
use Rattle.rows.proofs.Front.{consume_piece}
use Rattle.fields.specs.Spans.{Hole}
use Rattle.tagged_line.proofs.Holding.{pieces_append}
use Rattle.extend_lines.proofs.Growing.{size_of, size_cons, size_str, size_none}

-- ---- what a text costs behind a line

-- the annotation of a piece that a text may join
abbrev tag_of : Piece → Option ℕ
tag_of (str a t) = some a
tag_of (fragment n) = none

-- the same of the last piece of a line
abbrev last_tag : List Piece → Option ℕ
last_tag [] = none
last_tag (p ∷ []) = tag_of p
last_tag (p ∷ q ∷ l) = last_tag (q ∷ l)

-- the bytes that a text needs before its own
abbrev head_for : Option ℕ → ℕ → ℕ
head_for none a = 4
head_for (some b) a = if eqb b a then 0 else 4

size_join : (l : List Piece) (a : ℕ) (t : List ℕ) → size_of (join l a t) ≡ size_of l + (head_for (last_tag l) a + length t)
unfolding join
size_join [] a t = omega (arith, size_cons (str a t) [], size_str a t, size_none)
size_join (fragment n ∷ []) a t =
    omega (arith, size_cons (fragment n) (str a t ∷ []), size_cons (fragment n) [], size_cons (str a t) [], size_str a t, size_none)
size_join (str b s ∷ []) a t = go (eqb b a)
  where
    go : (x : Bool) → size_of (if x then str b (s ++ t) ∷ [] else str b s ∷ str a t ∷ []) ≡ size_of (str b s ∷ []) + ((if x then 0 else 4) + length t)
    go true = omega (arith, size_cons (str b (s ++ t)) [], size_cons (str b s) [], size_str b (s ++ t), size_str b s, length-append s t)
    go false = omega (arith, size_cons (str b s) (str a t ∷ []), size_cons (str b s) [], size_cons (str a t) [], size_str a t, size_none)
size_join (p ∷ q ∷ l) a t = omega (arith, size_join (q ∷ l) a t, size_cons p (q ∷ l), size_cons p (join (q ∷ l) a t))

-- Text that is pushed adds its bytes.
pub push_adds : (l : List Piece) (a : ℕ) (t : List ℕ) → size_of l + length t ≤ size_of (push_str l a t)
unfolding push_str
push_adds l a [] = omega arith
push_adds l a (b ∷ t) = omega (arith, size_join l a (b ∷ t))

last_cons : (p : Piece) (l : List Piece) → 1 ≤ length l → last_tag (p ∷ l) ≡ last_tag l
last_cons p [] h = absurd (omega arith)
last_cons p (q ∷ l) h = refl

last_join_lem : (l : List Piece) (a : ℕ) (t : List ℕ) → last_tag (join l a t) ≡ some a
unfolding join
last_join_lem [] a t = refl
last_join_lem (fragment n ∷ []) a t = refl
last_join_lem (str b s ∷ []) a t = go (eqb b a) refl
  where
    go : (x : Bool) → eqb b a ≡ x → last_tag (if x then str b (s ++ t) ∷ [] else str b s ∷ str a t ∷ []) ≡ some a
    go true e = ap some (eqb-true b a e)
    go false e = refl
last_join_lem (p ∷ q ∷ l) a t = last_cons p (join (q ∷ l) a t) (join_long (q ∷ l) a t) ∙ last_join_lem (q ∷ l) a t

last_name : (l : List Piece) (n : List ℕ) → last_tag (l ++ (fragment n ∷ [])) ≡ none
last_name [] n = refl
last_name (p ∷ []) n = refl
last_name (p ∷ q ∷ l) n = last_name (q ∷ l) n

-- ---- what pieces cost behind a line

abbrev cost_of : Option ℕ → List Piece → ℕ
cost_of e [] = 0
cost_of e (str a [] ∷ ps) = cost_of e ps
cost_of e (str a (b ∷ t) ∷ ps) = head_for e a + (1 + length t) + cost_of (some a) ps
cost_of e (fragment n ∷ ps) = length (piece_bytes (fragment n)) + cost_of none ps

size_consume : (l ps : List Piece) → size_of (consume l ps) ≡ size_of l + cost_of (last_tag l) ps
unfolding consume push push_str
size_consume l [] = omega arith
size_consume l (str a [] ∷ ps) = size_consume l ps
size_consume l (str a (b ∷ t) ∷ ps) =
    omega (arith, size_consume (join l a (b ∷ t)) ps, ap (λ (e : Option ℕ). cost_of e ps) (last_join_lem l a (b ∷ t)), size_join l a (b ∷ t))
size_consume l (fragment n ∷ ps) =
    let m = l ++ (fragment n ∷ []) in
    omega (arith, size_consume m ps, ap (λ (e : Option ℕ). cost_of e ps) (last_name l n), ap length (pieces_append l (fragment n ∷ [])), length-append (pieces_bytes l) (pieces_bytes (fragment n ∷ [])), size_cons (fragment n) [], size_none)

head_most : (e : Option ℕ) (a : ℕ) → head_for e a ≤ 4
head_most none a = omega arith
head_most (some b) a = go (eqb b a)
  where
    go : (x : Bool) → (if x then 0 else 4) ≤ 4
    go true = omega arith
    go false = omega arith

cost_new : (e : Option ℕ) (ps : List Piece) → cost_of none ps ≤ 4 + cost_of e ps
cost_new e [] = omega arith
cost_new e (str a [] ∷ ps) = cost_new e ps
cost_new e (str a (b ∷ t) ∷ ps) = omega arith
cost_new e (fragment n ∷ ps) = omega arith

cost_most : (e : Option ℕ) (ps : List Piece) → cost_of e ps ≤ size_of ps
cost_most e [] = omega arith
cost_most e (str a [] ∷ ps) = omega (arith, cost_most e ps, size_cons (str a []) ps)
cost_most e (str a (b ∷ t) ∷ ps) = omega (arith, head_most e a, cost_most (some a) ps, size_cons (str a (b ∷ t)) ps, size_str a (b ∷ t))
cost_most e (fragment n ∷ ps) = omega (arith, cost_most none ps, size_cons (fragment n) ps)

size_some : (l : List Piece) (a : ℕ) → last_tag l ≡ some a → 4 ≤ size_of l
size_some [] a e = absurd (let z : ◌≡◌ {A = ℕ} 0 1 = cc in omega arith)
size_some (fragment n ∷ []) a e = absurd (let z : ◌≡◌ {A = ℕ} 0 1 = cc in omega arith)
size_some (str b s ∷ []) a e = omega (arith, size_cons (str b s) [], size_str b s)
size_some (p ∷ q ∷ l) a e = omega (arith, size_some (q ∷ l) a e, size_cons p (q ∷ l))

-- On a new line they have the fewest bytes.
pub consume_least : (l ps : List Piece) → size_of (consume [] ps) ≤ size_of (consume l ps)
consume_least l ps = go (last_tag l) refl
  where
    go : (e : Option ℕ) → last_tag l ≡ e → size_of (consume [] ps) ≤ size_of (consume l ps)
    go none x = omega (arith, size_consume [] ps, size_consume l ps, size_none, ap (λ (e : Option ℕ). cost_of e ps) x)
    go (some a) x = omega (arith, size_consume [] ps, size_consume l ps, size_none, ap (λ (e : Option ℕ). cost_of e ps) x, size_some l a x, cost_new (some a) ps)

-- They have no more than they had.
pub consume_most : (ps : List Piece) → size_of (consume [] ps) ≤ size_of ps
consume_most ps = omega (arith, size_consume [] ps, size_none, cost_most none ps)

-- ---- a border's pieces pushed

consume_up_to : (a : ℕ) (segs : List ℕ) (l m : List Piece) (pos x : ℕ) → consume l (up_to_hole a segs m pos x) ≡ up_to_hole a segs (consume l m) pos x
consume_up_to a segs l m pos x = go (ltb pos x)
  where
    s : List ℕ
    s = to_string (part pos x segs)

    go : (t : Bool) → consume l (if t then push_str m a s else m) ≡ (if t then push_str (consume l m) a s else consume l m)
    go true = consume_push l m a s
    go false = refl

-- Pushed piece by piece, or drawn on the line.
pub consume_tagged : (a : ℕ) (segs : List ℕ) (l m : List Piece) (pos : ℕ) (hs : List Hole)
    → consume l (into_tagged_from a segs m pos hs) ≡ into_tagged_from a segs (consume l m) pos hs
unfolding into_tagged_from
consume_tagged a segs l m pos [] = consume_push l m a (to_string (drop pos segs))
consume_tagged a segs l m pos (h ∷ hs) =
    let next = at_hole pos h.place + piece_width h.piece in
    let u = up_to_hole a segs m pos h.place in
    consume_tagged a segs l (push u h.piece) next hs
    ∙ ap (λ (z : List Piece). into_tagged_from a segs z next hs) (consume_piece l u h.piece ∙ ap (λ (z : List Piece). push z h.piece) (consume_up_to a segs l m pos h.place))
