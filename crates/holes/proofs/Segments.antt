-- A part of a border that is stretched, and texts pushed one after the other.
-- Assumes nothing.
use mathlib.Core.Path.{◌≡◌, refl, sym, ap, ◌∙◌}
use mathlib.Core.Bool.{true, false}
use mathlib.Core.Logic.{⊎_elim}
use mathlib.Core.Option.{none, some}
use mathlib.Core.List.{List, [], ◌∷◌, ◌++◌}
use Prim.Native.Nat.{ℕ, ◌+◌, ◌-◌, ◌≤◌, ◌<◌, min, max}
use native.Mathlib.Omega.{arith}
use lib.Dec.{eqb}
use lib.ListN.{length, take, drop, get_or, replicate, length-append, length-replicate, get_or-replicate, get_or-append, get_or-eq_default}
use lib.Seq.{ext_get_or, get_or-append-add, get_or-take, get_or-drop}
use borrow.Author.Tests.{eq-eqb, ne_eqb, lt-ltb, le-ltb}
use Rattle.std.specs.Prelude.{if◌then◌else◌}
use Rattle.characters.proofs.Tests.{by_if, lt_or_le}
use Rattle.fields.specs.Field.{whole, part}
use Rattle.fields.specs.Sheet.{Piece, str, fragment, read_str, read_piece, readable_piece}
use Rattle.fields.specs.Text.{readable_text}
use Rattle.fields.specs.Widths.{text_width, piece_width}
use Rattle.fields.proofs.Parts.{part_length}
use Rattle.fields.proofs.Texts.{rest}
use Rattle.borders.specs.declared.draw.Drawing.TheVariants.{Segments}
use Rattle.borders.specs.BorderSegHoriz.{Horiz}
use Rattle.borders.specs.BorderHoriz.{stretch_to, to_string, drawn, as_str, up_to_hole, at_hole}
use Rattle.borders.proofs.Drawing.{drawn_string, drawn_nil}
use Rattle.fields.specs.TaggedLine.{push_str, push, add_piece}
use Rattle.rows.proofs.Reading.{OnSome, some_of}
use Rattle.rows.proofs.Lines.{text_width_nil, readable_formed}
use Rattle.tagged_line.specs.Held.{Pushes, Draws}
use Rattle.tagged_line.specs.Pieces.{AddsPiece}
use Rattle.tagged_line.specs.declared.line.Line.{Line}
use Rattle.holes.specs.declared.draw.Shown.{Shown}
use Rattle.holes.specs.declared.draw.Shown.TheVariants.{AsText, AsItStands}
use Rattle.holes.specs.Drawing.{DrawsPart, PushesText, shown_piece, PushesPiece}

-- ---- a stretched border

-- its length
pub stretch_length : (b : List ℕ) (w : ℕ) → length (stretch_to b w) ≡ length b + (w - length b)
unfolding stretch_to
stretch_length b w = rw (length-append, length-replicate)

-- its segments: Horiz past its own
stretch_at : (b : List ℕ) (w i : ℕ) → get_or (stretch_to b w) i Horiz ≡ get_or b i Horiz
unfolding stretch_to
stretch_at b w i = ⊎_elim own past (lt_or_le i (length b))
  where
    own : i < length b → get_or (b ++ replicate (w - length b) Horiz) i Horiz ≡ get_or b i Horiz
    own h = get_or-append b (replicate (w - length b) Horiz) Horiz i h

    horiz : (j : ℕ) → get_or (replicate (w - length b) Horiz) j Horiz ≡ Horiz
    horiz j =
        ⊎_elim (λ h. get_or-replicate (w - length b) j Horiz Horiz h)
        (λ h. get_or-eq_default (replicate (w - length b) Horiz) Horiz (rw length-replicate h)) (lt_or_le j (w - length b))

    past : length b ≤ i → get_or (b ++ replicate (w - length b) Horiz) i Horiz ≡ get_or b i Horiz
    past h =
        let e : i ≡ length b + (i - length b) = omega arith in
        ap (λ (j : ℕ). get_or (b ++ replicate (w - length b) Horiz) j Horiz) e
        ∙ get_or-append-add b (replicate (w - length b) Horiz) (i - length b) Horiz
        ∙ horiz (i - length b)
        ∙ sym (get_or-eq_default b Horiz h)

-- the places of a part within k segments
pub few : (k from to a b : ℕ) → a ≡ min from k → b ≡ min to k → from < to → b - a ≤ to - from
few k from to a b ea eb h = omega arith

pub low : (k to b : ℕ) → b ≡ min to k → b ≤ k
low k to b eb = omega arith

same : (k from a b i : ℕ) → a ≡ min from k → b ≤ k → i < b - a → a + i ≡ from + i
same k from a b i ea l h = omega arith

over : (k from to a b i : ℕ) → a ≡ min from k → b ≡ min to k → i < to - from → b - a ≤ i → k ≤ from + i
over k from to a b i ea eb m n = ⊎_elim (λ h. let e : b ≡ to = omega arith in let d : a ≡ from = omega arith in absurd (omega arith)) (λ h. let e : b ≡ k = omega arith in omega arith) (lt_or_le to k)

filled_up : (m n : ℕ) → m ≤ n → m + (n - m) ≡ n
filled_up m n h = omega arith

-- A PART OF IT is a part of its own segments, stretched.
module _ (segs : List ℕ) (w from to a b : ℕ) (h : from < to) (k : to ≤ length (stretch_to segs w)) (ea : a ≡ min from (length segs))
    (eb : b ≡ min to (length segs)) where
  part_size : length (part a b segs) ≡ b - a
  part_size = part_length a b segs (low (length segs) to b eb)

  stretched_size : length (stretch_to (part a b segs) (to - from)) ≡ to - from
  stretched_size =
      stretch_length (part a b segs) (to - from) ∙ filled_up (length (part a b segs)) (to - from) (rw part_size (few (length segs) from to a b ea eb h))

  part_at : (i : ℕ) → i < to - from → get_or (part a b segs) i Horiz ≡ get_or segs (from + i) Horiz
  part_at i m =
      ⊎_elim
      (λ n. get_or-take (b - a) (drop a segs) i Horiz n ∙ get_or-drop a segs i Horiz
      ∙ ap (λ (j : ℕ). get_or segs j Horiz) (same (length segs) from a b i ea (low (length segs) to b eb) n))
      (λ n. get_or-eq_default (part a b segs) Horiz (rw part_size n)
      ∙ sym (get_or-eq_default segs Horiz (over (length segs) from to a b i ea eb m n)))
      (lt_or_le i (b - a))

  pub part_stretched : stretch_to (part a b segs) (to - from) ≡ part from to (stretch_to segs w)
  part_stretched =
      ext_get_or Horiz (stretch_to (part a b segs) (to - from)) (part from to (stretch_to segs w))
      (stretched_size ∙ sym (part_length from to (stretch_to segs w) k))
      (λ i m.
      let n : i < to - from = rw stretched_size at m in
      stretch_at (part a b segs) (to - from) i ∙ part_at i n
      ∙ sym (get_or-take (to - from) (drop from (stretch_to segs w)) i Horiz n ∙ get_or-drop from (stretch_to segs w) i Horiz ∙ stretch_at segs w (from + i)))

-- no segments, no text
pub string_nil : to_string [] ≡ []
string_nil = sym (drawn_string []) ∙ drawn_nil Segments

-- an empty part
pub part_none : (from to : ℕ) (s : List ℕ) → to ≤ from → part from to s ≡ []
part_none from to s h = let e : to - from ≡ 0 = omega arith in rw e

-- an empty part is nothing to push
pub push_part_none : (l : List Piece) (a from to : ℕ) (s : List ℕ) → to ≤ from → push_str l a (to_string (part from to s)) ≡ l
unfolding push_str
push_part_none l a from to s h = rw (part_none from to s h, string_nil)

-- ---- `push_segments`

pub drawn_none : (out : List ℕ) (p : Line) (a : ℕ) (segs : List ℕ) (from to : ℕ) → to ≤ from → DrawsPart out p a segs from to out p
drawn_none out p a segs from to h w k st l g = rw (push_part_none l a from to (stretch_to segs w) h) g

pub drawn_part : (out out' : List ℕ) (p r : Line) (c : ℕ) (segs : List ℕ) (from to a b : ℕ) → from < to → a ≡ min from (length segs)
    → b ≡ min to (length segs) → Draws out p c (part a b segs) (to - from) Segments out' r → DrawsPart out p c segs from to out' r
drawn_part out out' p r c segs from to a b h ea eb d w k st l g =
    let e : drawn Segments (stretch_to (part a b segs) (to - from)) ≡ to_string (part from to (stretch_to segs w)) =
    drawn_string (stretch_to (part a b segs) (to - from)) ∙ ap to_string (part_stretched segs w from to a b h (omega arith) ea eb) in
    rw (← e) (d st l g)

-- ---- the text of a hole

-- what is read of an S field's content
abbrev TextOf : List ℕ → Piece → Type 0
TextOf t q = (as_str q ≡ drop 1 t) × (readable_piece q ≡ readable_text false (drop 1 t))

text_of : (t : List ℕ) → OnSome (TextOf t) (read_str t)
text_of [] = tt
text_of (a ∷ []) = tt
text_of (a ∷ b ∷ t) = (refl, refl)

pub text_pushed : (out out' : List ℕ) (p r : Line) (a l c : ℕ) (t : List ℕ) → l ≡ 0x53 → c ≡ text_width (take (length t - 1) (drop 1 t))
    → Pushes out p a (take (length t - 1) (drop 1 t)) c out' r → PushesText out p a (whole l t) out' r
unfolding read_piece
text_pushed out out' p r a l c t el ec f q e ok st m h =
    let (et, er) = some_of (TextOf t) (read_str t) q (rw (eq-eqb l 0x53 el) at e) (text_of t) in
    rw et (rw (rest t 1) at f st m h (readable_formed false (drop 1 t) (sym er ∙ ok)) (sym (ec ∙ ap text_width (rest t 1))))

no_text : (l : ℕ) (t : List ℕ) → OnSome (λ (q : Piece). as_str q ≡ []) (if eqb l 0x46 then some (fragment t) else none)
no_text l t = by_if (OnSome (λ (q : Piece). as_str q ≡ [])) (eqb l 0x46) (λ _. refl) (λ _. tt)

pub name_pushed : (out : List ℕ) (p : Line) (a l : ℕ) (t : List ℕ) → (l ≡ 0x53 → ⊥) → PushesText out p a (whole l t) out p
unfolding read_piece push_str
name_pushed out p a l t n q e ok st m g =
    rw (some_of (λ (x : Piece). as_str x ≡ []) (if eqb l 0x46 then some (fragment t) else none) q (rw (ne_eqb l 0x53 n) at e) (no_text l t)) g

-- a field without content is not read, or a name
empty_text : (l : ℕ) → OnSome (λ (q : Piece). as_str q ≡ []) (read_piece (whole l []))
unfolding read_piece
empty_text l = by_if (OnSome (λ (q : Piece). as_str q ≡ [])) (eqb l 0x53) (λ _. tt) (λ _. no_text l [])

pub text_empty : (out : List ℕ) (p : Line) (a l : ℕ) (t : List ℕ) → length t < 1 → PushesText out p a (whole l t) out p
unfolding push_str
text_empty out p a l [] h q e ok st m g = rw (some_of (λ (x : Piece). as_str x ≡ []) (read_piece (whole l [])) q e (empty_text l)) g
text_empty out p a l (b ∷ t) h q e ok st m g = absurd (omega arith)

-- ---- a hole

pub piece_text : (out out' : List ℕ) (p r : Line) (a l : ℕ) (t : List ℕ) (shown : Shown) → shown ≡ AsText
    → PushesText out p a (whole l t) out' r → PushesPiece out p a (whole l t) shown out' r
unfolding push
piece_text out out' p r a l t shown e f q eq ok st m h = rw e (f q eq ok st m h)

pub piece_stands : (out out' : List ℕ) (p r : Line) (a l : ℕ) (t : List ℕ) (shown : Shown) → shown ≡ AsItStands
    → AddsPiece out p (whole l t) true out' r → PushesPiece out p a (whole l t) shown out' r
unfolding add_piece
piece_stands out out' p r a l t shown e f q eq ok st m h = rw e (f q eq ok st m h)

-- a hole shown either way has the same columns
pub shown_width : (shown : Shown) (a : ℕ) (q : Piece) → piece_width (shown_piece shown a q) ≡ piece_width q
shown_width AsItStands a q = refl
shown_width AsText a (str b t) = refl
shown_width AsText a (fragment n) = text_width_nil

-- ---- the segments before a hole

-- where it begins
pub at_hole_lem : (pos place end b : ℕ) → place ≤ end → b ≡ max pos (min place end) → at_hole pos place ≡ b
at_hole_lem pos place end b h e =
    ⊎_elim (λ k. rw (lt-ltb pos place k) (omega arith)) (λ k. rw (le-ltb pos place k) (omega arith)) (lt_or_le pos place)

-- pushed up to there
pub up_to_hole_lem : (a : ℕ) (segs : List ℕ) (l : List Piece) (pos place end b : ℕ) → place ≤ end → b ≡ max pos (min place end)
    → push_str l a (to_string (part pos b segs)) ≡ up_to_hole a segs l pos place
up_to_hole_lem a segs l pos place end b h e =
    ⊎_elim
    (λ k. let m : b ≡ place = omega arith in rw (lt-ltb pos place k, m))
    (λ k. rw (le-ltb pos place k) (push_part_none l a pos b segs (omega arith))) (lt_or_le pos place)
