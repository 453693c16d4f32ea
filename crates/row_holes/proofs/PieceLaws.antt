-- The pieces of a filled line as holes in a store and as cuts in a border.
-- Assumes nothing.
use mathlib.Core.Path.{◌≡◌, refl, sym, ap, ◌∙◌}
use mathlib.Core.Bool.{true}
use mathlib.Core.List.{List, [], ◌∷◌, ◌++◌, append-nil, append_assoc}
use Prim.Native.Nat.{ℕ, ◌+◌, ◌%◌, ◌≤◌, ◌<◌}
use native.Mathlib.Omega.{arith}
use native.Mathlib.Nat.{mod-eq_of_lt}
use lib.ListN.{length, replicate, length-append, length-replicate}
use lib.Seq.{sets}
use borrow.Author.Tests.{leb-true}
use Rattle.std.specs.Prelude.{Some, None}
use Rattle.characters.proofs.Tests.{and_left, and_right}
use Rattle.fields.specs.Field.{two, head, all}
use Rattle.fields.specs.Sheet.{Piece, piece_bytes}
use Rattle.fields.specs.Store.{Wrote}
use Rattle.fields.specs.Widths.{piece_width}
use Rattle.fields.proofs.Back.{Every}
use Rattle.fields.proofs.Sets.{sets_append}
use Rattle.fields.specs.TaggedLine.{WellFormedPiece, pad_to}
use Rattle.fields.specs.Spans.{Hole, hole, holes_bytes}
use Rattle.rows.specs.Columns.{punch, cut_all}
use Rattle.tagged_line.specs.Pieces.{PiecesOf}
use Rattle.extend_lines.proofs.Emitting.{wrote_length}
use Rattle.long_borders.proofs.Laws.{near_low, near_sym}
use Rattle.long_borders.specs.Keeps.{Near, Keeps, Cuts, Advances}
use Rattle.long_borders.specs.declared.border.BorderHoriz.{BorderHoriz}
use Rattle.row_holes.specs.declared.filled.Part.{Part}
use Rattle.row_holes.specs.declared.filled.Filled.{Filled}
use Rattle.row_holes.specs.Filled.{PartIs, PartsLeft, holes_most, NextPart}
use Rattle.row_holes.specs.Pieces.{part_hole, placed, HolesPut, CutsPieces, PutsPieces}

-- ---- holes in a store

-- a number below 65,536 is its rest
rest_of : (n : ℕ) → n ≤ 65535 → n % 65536 ≡ n
rest_of n h = mod-eq_of_lt (omega arith)

near_place : {x x₀ : ℕ} → Near x x₀ → x₀ ≤ 65535 → x ≡ x₀
near_place n h = sym (near_low (near_sym n) (omega arith))

pub put_none : (out : List ℕ) (place : ℕ) → HolesPut out place [] out place
unfolding holes_bytes
put_none out place = record { size = omega arith; bytes = λ _ _. refl }

pub holes_append : (hs ks : List Hole) → holes_bytes (hs ++ ks) ≡ holes_bytes hs ++ holes_bytes ks
unfolding holes_bytes
holes_append [] ks = refl
holes_append (h ∷ hs) ks =
    let p = piece_bytes h.piece in
    ap (λ (x : List ℕ). two h.place ++ (p ++ x)) (holes_append hs ks)
    ∙ ap (λ (x : List ℕ). two h.place ++ x) (sym (append_assoc p (holes_bytes hs) (holes_bytes ks)))

all_append : (hs ks : List Hole) → all placed (hs ++ ks) ≡ true → (all placed hs ≡ true) × (all placed ks ≡ true)
unfolding all
all_append [] ks e = (refl, e)
all_append (h ∷ hs) ks e =
    let a = and_left (placed h) (all placed (hs ++ ks)) e in
    let (b, c) = all_append hs ks (and_right (placed h) (all placed (hs ++ ks)) e) in
    (rw (a, b), c)

-- Holes behind holes.
pub put_then : {a b c : List ℕ} {hs ks : List Hole} {place n m : ℕ} → HolesPut a place hs b n → HolesPut b n ks c m → HolesPut a place (hs ++ ks) c m
put_then {a} {b} {c} {hs} {ks} {place} {n} {m} v w =
    let e = holes_append hs ks in
    let l : length (holes_bytes (hs ++ ks)) ≡ length (holes_bytes hs) + length (holes_bytes ks) = ap length e ∙ length-append (holes_bytes hs) (holes_bytes ks) in
    record {
      size = omega (arith, l, v.size, w.size);
      bytes = λ small low.
          let (x, y) = all_append hs ks low in
          let p = v.bytes (omega (arith, l, small)) x in
          let q = w.bytes (omega (arith, l, small)) y in
          q ∙ ap (λ (i : ℕ). sets b i (holes_bytes ks)) v.size ∙ ap (λ (z : List ℕ). sets z (place + length (holes_bytes hs)) (holes_bytes ks)) p
          ∙ sym (sets_append a place (holes_bytes hs) (holes_bytes ks)) ∙ ap (sets a place) (sym e);
    }

-- one hole, whose bytes were written with a number of two bytes for its place and for its length
one_put : (out out' : List ℕ) (at r x x₀ l n : ℕ) (t : List ℕ) (q : Piece) → Near x x₀ → length t ≡ n → piece_bytes q ≡ head l n ++ t
    → Wrote out at (two (x % 65536) ++ (head l (n % 65536) ++ t)) out' r → HolesPut out at (hole x₀ q ∷ []) out' r
unfolding holes_bytes all
one_put out out' at r x x₀ l n t q near en eb w =
    let whole-bytes : holes_bytes (hole x₀ q ∷ []) ≡ two x₀ ++ (head l n ++ t) = ap (λ (z : List ℕ). two x₀ ++ z) (append-nil (piece_bytes q) ∙ eb) in
    let size_is : length (holes_bytes (hole x₀ q ∷ [])) ≡ 5 + length t = ap length whole-bytes ∙ omega arith in
    record {
      size = let k : length (two (x % 65536) ++ (head l (n % 65536) ++ t)) ≡ 5 + length t = omega arith in omega (arith, w.place, k, size_is);
      bytes = λ small low.
          let h = leb-true x₀ 65535 (and_left (placed (hole x₀ q)) true low) in
          let ex : x % 65536 ≡ x₀ = rw (near_place near h) (rest_of x₀ h) in
          let em : n % 65536 ≡ n = rest_of n (omega (arith, small, size_is, en)) in
          w.store ∙ ap (λ (i : ℕ). sets out at (two i ++ (head l (n % 65536) ++ t))) ex ∙ ap (λ (i : ℕ). sets out at (two x₀ ++ (head l i ++ t))) em
          ∙ ap (sets out at) (sym whole-bytes);
    }

-- one hole, of a part
put_one : (out out' : List ℕ) (at r x x₀ : ℕ) (p : Part) (q : Piece) → Near x x₀ → PartIs p q → Wrote out at (part_hole x p) out' r → HolesPut out at (hole x₀ q ∷ []) out' r
put_one out out' at r x x₀ p q near is w =
    one_put out out' at r x x₀ p.field.letter (length p.field.content.now + p.spaces) (p.field.content.now ++ replicate p.spaces 0x20) q near (rw (length-append, length-replicate)) is.bytes_are w

-- ---- all pieces of a content are left

-- A line that is filled before its first piece.
pub all_left : (f : Filled) (s : List ℕ) (to a : ℕ) (ps : List Piece) → f.rest.now ≡ s → f.missing ≡ to → f.annotation.now ≡ a ∷ [] → PiecesOf s ps → Every WellFormedPiece ps
    → PartsLeft f a (pad_to ps to a)
all_left f s to a ps er em ea reads formed =
    record { pieces = ps; reads = rw er reads; formed = formed; annotation_is = ea; are = ap (λ (n : ℕ). pad_to ps n a) (sym em) }

-- ---- the cuts

-- the pieces that are left, and the border as it is cut so far
pub record CutAhead (f : Filled) (a x : ℕ) (b : BorderHoriz) (whole : List ℕ) : Type 0 where
  pub more : List Piece
  pub place : ℕ
  pub border : List ℕ
  pub goes : PartsLeft f a more
  pub near : Near x place
  pub keeps : Keeps b border
  pub cut : whole ≡ cut_all border (punch place more)

-- of all pieces that were left at first
pub record Cutting (first : Filled) (pos : ℕ) (b₀ : BorderHoriz) (f : Filled) (x : ℕ) (b : BorderHoriz) : Type 0 where
  pub low : x < 8589934592
  pub same_buffer : b.buffer.ghost_name ≡ b₀.buffer.ghost_name
  pub room : length b.buffer.now ≡ length b₀.buffer.now
  pub same : (a : ℕ) (qs : List Piece) → PartsLeft first a qs → (pos₀ : ℕ) → Near pos pos₀ → (border : List ℕ) → Keeps b₀ border
      → CutAhead f a x b (cut_all border (punch pos₀ qs))

pub cut_start : (f : Filled) (pos : ℕ) (b : BorderHoriz) → pos < 8589934592 → Cutting f pos b f pos b
cut_start f pos b low =
    record {
      low = low;
      same_buffer = refl;
      room = refl;
      same = λ a qs left pos₀ near border keeps. record { more = qs; place = pos₀; border = border; goes = left; near = near; keeps = keeps; cut = refl };
    }

-- ONE PIECE MORE.
pub cut_on : (first : Filled) (pos : ℕ) (b₀ : BorderHoriz) (f : Filled) (x : ℕ) (b : BorderHoriz) (p : Part) (rest : Filled) (x' : ℕ) (b' : BorderHoriz)
    → Cutting first pos b₀ f x b → NextPart f (Some p) rest → x' < 8589934592 → Advances x p.cols x' → b'.buffer.ghost_name ≡ b.buffer.ghost_name
    → length b'.buffer.now ≡ length b.buffer.now → Cuts b x x' b'
    → Cutting first pos b₀ rest x' b'
unfolding punch cut_all
cut_on first pos b₀ f x b p rest x' b' v next low adv same_buffer room cuts =
    record {
      low = low;
      same_buffer = same_buffer ∙ v.same_buffer;
      room = room ∙ v.room;
      same = λ a qs left pos₀ near border keeps.
          let h = v.same a qs left pos₀ near border keeps in
          let y = next.gives a h.more h.goes in
          let w = piece_width y.one in
          let near' : Near x' (h.place + w) = rw y.part_is.cols_are (adv h.place h.near) in
          record {
            more = y.more;
            place = h.place + w;
            border = cut_all h.border (hole h.place y.one ∷ []);
            goes = y.goes;
            near = near';
            keeps = cuts h.border h.place (h.place + w) h.keeps h.near near';
            cut = h.cut ∙ ap (λ (z : List Piece). cut_all h.border (punch h.place z)) y.are;
          };
    }

-- PAST THE LAST PIECE.
pub cut_end : (first : Filled) (pos : ℕ) (b₀ : BorderHoriz) (f : Filled) (x : ℕ) (b : BorderHoriz) (rest : Filled) (s : List ℕ) (to a : ℕ)
    → Cutting first pos b₀ f x b → NextPart f None rest → first.rest.now ≡ s → first.missing ≡ to → first.annotation.now ≡ a ∷ [] → CutsPieces b₀ s to a pos b
unfolding punch cut_all
cut_end first pos b₀ f x b rest s to a v next er em ea ps reads formed pos₀ near border keeps =
    let h = v.same a (pad_to ps to a) (all_left first s to a ps er em ea reads formed) pos₀ near border keeps in
    let e : cut_all border (punch pos₀ (pad_to ps to a)) ≡ h.border = h.cut ∙ ap (λ (z : List Piece). cut_all h.border (punch h.place z)) (next.gives a h.more h.goes) in
    rw e h.keeps

-- ---- the holes

-- the pieces that are left, and the holes put so far
pub record PutAhead (f : Filled) (a x : ℕ) (out₀ : List ℕ) (place : ℕ) (out : List ℕ) (at : ℕ) (whole : List Hole) : Type 0 where
  pub more : List Piece
  pub place_is : ℕ
  pub done : List Hole
  pub goes : PartsLeft f a more
  pub near : Near x place_is
  pub put : HolesPut out₀ place done out at
  pub are : whole ≡ done ++ punch place_is more

-- of all pieces that were left at first
pub record Putting (first : Filled) (pos : ℕ) (out₀ : List ℕ) (place : ℕ) (f : Filled) (x : ℕ) (out : List ℕ) (at : ℕ) : Type 0 where
  pub low : x < 8589934592
  pub size : length out ≡ length out₀
  pub on : place ≤ at
  pub few : at + holes_most f ≤ place + holes_most first
  pub same : (a : ℕ) (qs : List Piece) → PartsLeft first a qs → (pos₀ : ℕ) → Near pos pos₀ → PutAhead f a x out₀ place out at (punch pos₀ qs)

pub put_start : (f : Filled) (pos : ℕ) (out : List ℕ) (place : ℕ) → pos < 8589934592 → Putting f pos out place f pos out place
put_start f pos out place low =
    record {
      low = low;
      size = refl;
      on = omega arith;
      few = omega arith;
      same = λ a qs left pos₀ near. record { more = qs; place_is = pos₀; done = []; goes = left; near = near; put = put_none out place; are = refl };
    }

-- A piece takes so many bytes.
hole_size : (x : ℕ) (p : Part) → length (part_hole x p) ≡ 5 + length p.field.content.now + p.spaces
hole_size x p = let e : length (p.field.content.now ++ replicate p.spaces 0x20) ≡ length p.field.content.now + p.spaces = rw (length-append, length-replicate) in omega (arith, e)

-- ONE PIECE MORE.
pub put_on : (first : Filled) (pos : ℕ) (out₀ : List ℕ) (place : ℕ) (f : Filled) (x : ℕ) (out : List ℕ) (at : ℕ) (p : Part) (rest : Filled) (x' : ℕ) (out' : List ℕ) (at' : ℕ)
    → Putting first pos out₀ place f x out at → NextPart f (Some p) rest → x' < 8589934592 → Advances x p.cols x' → Wrote out at (part_hole x p) out' at'
    → Putting first pos out₀ place rest x' out' at'
unfolding punch
put_on first pos out₀ place f x out at p rest x' out' at' v next low adv wrote =
    record {
      low = low;
      size = wrote_length wrote ∙ v.size;
      on = omega (arith, v.on, wrote.place);
      few = omega (arith, v.few, wrote.place, hole_size x p, next.part_in.few);
      same = λ a qs left pos₀ near.
          let h = v.same a qs left pos₀ near in
          let y = next.gives a h.more h.goes in
          let w = piece_width y.one in
          let k = hole h.place_is y.one ∷ [] in
          record {
            more = y.more;
            place_is = h.place_is + w;
            done = h.done ++ k;
            goes = y.goes;
            near = rw y.part_is.cols_are (adv h.place_is h.near);
            put = put_then h.put (put_one out out' at at' x h.place_is p y.one h.near y.part_is wrote);
            are = h.are ∙ ap (λ (z : List Piece). h.done ++ punch h.place_is z) y.are ∙ sym (append_assoc h.done k (punch (h.place_is + w) y.more));
          };
    }

-- PAST THE LAST PIECE.
pub put_end : (first : Filled) (pos : ℕ) (out₀ : List ℕ) (place : ℕ) (f : Filled) (x : ℕ) (out : List ℕ) (at : ℕ) (rest : Filled) (s : List ℕ) (to a : ℕ)
    → Putting first pos out₀ place f x out at → NextPart f None rest → first.rest.now ≡ s → first.missing ≡ to → first.annotation.now ≡ a ∷ [] → PutsPieces out₀ place s to a pos out at
unfolding punch
put_end first pos out₀ place f x out at rest s to a v next er em ea ps reads formed pos₀ near =
    let h = v.same a (pad_to ps to a) (all_left first s to a ps er em ea reads formed) pos₀ near in
    let e : punch pos₀ (pad_to ps to a) ≡ h.done =
    h.are ∙ ap (λ (z : List Piece). h.done ++ punch h.place_is z) (next.gives a h.more h.goes) ∙ append-nil h.done in
    rw e h.put
