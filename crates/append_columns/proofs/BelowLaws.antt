-- Laws of the border below the row: its holes as a field, and the lines with it.
-- Assumes nothing.
use mathlib.Core.Path.{◌≡◌, refl, sym, ap, ap₂, subst, ◌∙◌}
use mathlib.Core.Logic.{⊎_elim}
use mathlib.Core.Bool.{Bool, true, false, not, ◌||◌}
use mathlib.Core.List.{List, [], ◌∷◌, ◌++◌, map, append-nil}
use Prim.Native.Nat.{ℕ, zero, suc, ◌+◌, ◌-◌, ◌%◌, ◌≤◌, ◌<◌}
use native.Mathlib.Nat.{mod-eq_of_lt}
use native.Mathlib.Omega.{arith}
use borrow.Author.Tests.{leb-true, le-leb, lt-leb, not-false}
use lib.Dec.{leb}
use lib.Seq.{length-take-le}
use lib.ListN.{length, take, replicate, length-append, length-replicate, length-set}
use Rattle.std.specs.Prelude.{if◌then◌else◌, Some, None}
use Rattle.characters.proofs.Tests.{lt_or_le, clash, or_true}
use Rattle.fields.specs.Field.{head, two, field, all}
use Rattle.fields.specs.Sheet.{Piece}
use Rattle.fields.specs.Store.{Wrote}
use Rattle.fields.specs.Widths.{piece_width}
use Rattle.fields.proofs.Back.{Every}
use Rattle.fields.proofs.Sets.{wrote_then, wrote_before}
use Rattle.borders.specs.BorderSegHoriz.{Horiz}
use Rattle.borders.specs.BorderHoriz.{stretch_to, chop_before, cut_for, into_tagged_from, border_into_tagged_line}
use Rattle.rows.specs.declared.RenderOptions.{RenderOptions}
use Rattle.fields.specs.Spans.{Hole, RenderLine, text, border, holes_bytes, content, letter}
use Rattle.rows.specs.SubRenderer.{padded, if_drawn, plain_border}
use Rattle.rows.specs.Answer.{fits}
use Rattle.rows.specs.Columns.{Slot, column_of, any_past, cut_all, border_below}
use Rattle.seats.specs.declared.row.Row.{Row}
use Rattle.seats.specs.declared.survey.Surveyed.{Surveyed}
use Rattle.seats.specs.Row.{RowIs}
use Rattle.long_borders.specs.declared.border.BorderHoriz.{BorderHoriz}
use Rattle.long_borders.specs.Keeps.{Keeps, Fills}
use Rattle.row_borders.specs.Border.{BordersBelow}
use Rattle.long_borders.proofs.Laws.{keeps_whole, keeps_fits, keeps_long}
use Rattle.tagged_line.specs.declared.line.Line.{Line}
use Rattle.extend_lines.specs.Emitted.{OneLineMore, Emitted, AddsTextLine, AddsBorder}
use Rattle.extend_lines.specs.declared.line.Lines.{Lines}
use Rattle.extend_lines.proofs.Emitting.{one_more, wrote_length, field_bytes}
use Rattle.row_fit.specs.Row.{any_hole}
use Rattle.row_lines.specs.Row.{is_long}
use Rattle.extend_lines.proofs.Growing.{or_first, or_second, size_of, long_unfit}
use Rattle.row_lines.proofs.Growing.{long_size, short_line}
use Rattle.row_holes.specs.Pieces.{placed, HolesPut}
use Rattle.row_holes.specs.Row.{WideSeat, ShortSeat, CutsHoles, HolesIn, PutsHoles}
use Rattle.row_holes.specs.Text.{PushesHoles}
use Rattle.row_holes.proofs.RowLaws.{seats_short}
use Rattle.row_holes.proofs.TextLaws.{seats_drawn}
use Rattle.append_columns.specs.Below.{holes_below, NextOrSame, PutsHoled, DrawsHoled, AddsHoled, AddsBelow}
use Rattle.append_columns.proofs.TaggedLaws.{tagged_least}

-- ---- holes within a border

-- Where a field holds the border, two bytes hold the place of each hole that ends within it.
holes_placed : (n : ℕ) (hs : List Hole) → n ≤ 65535 → any_past n hs ≡ false → all placed hs ≡ true
unfolding any_past all
holes_placed n [] few e = refl
holes_placed n (h ∷ hs) few e =
    let w = h.place + piece_width h.piece in
    let k = leb-true w n (not-false (leb w n) (or_first (not (leb w n)) (any_past n hs) e)) in
    let p : leb h.place 65535 ≡ true = le-leb h.place 65535 (omega (arith, k)) in
    rw (p, holes_placed n hs few (or_second (not (leb w n)) (any_past n hs) e))

before_length : (b : List ℕ) (pos : ℕ) → length (chop_before b pos) ≡ length b
before_length b zero = refl
before_length b (suc pos) = length-set b pos _

-- a cut within the border leaves its length
one_length : (b : List ℕ) (pos rpos : ℕ) → rpos ≤ length b → length (cut_for b pos rpos) ≡ length b
unfolding cut_for stretch_to
one_length b pos rpos h =
    let z = b ++ replicate (rpos - length b) Horiz in
    length-set (chop_before z pos) rpos _ ∙ before_length z pos
    ∙ omega (arith, length-append b (replicate (rpos - length b) Horiz), length-replicate (rpos - length b) Horiz)

-- The cuts leave the length of a border that no hole ends past.
pub cut_length : (b : List ℕ) (hs : List Hole) → any_past (length b) hs ≡ false → length (cut_all b hs) ≡ length b
unfolding any_past cut_all
cut_length b [] e = refl
cut_length b (h ∷ hs) e =
    let w = h.place + piece_width h.piece in
    let k = leb-true w (length b) (not-false (leb w (length b)) (or_first (not (leb w (length b))) (any_past (length b) hs) e)) in
    let one = one_length b h.place w k in
    cut_length (cut_for b h.place w) hs (ap (λ (n : ℕ). any_past n hs) one ∙ or_second (not (leb w (length b))) (any_past (length b) hs) e) ∙ one

-- ---- a line that is too long

-- It is counted.
pub counted : (st out mid : List ℕ) (ls : List RenderLine) (x : RenderLine) (p r : Lines) → Emitted st ls [] [] out p → length mid ≡ length out
    → r.count ≡ p.count + 1 → r.long ≡ true → fits x ≡ false → Emitted st (ls ++ (x ∷ [])) [] [] mid r
counted st out mid ls x p r e size count long unfit =
    one_more st out mid ls x p r e size count (long ∙ sym (rw unfit (or_true p.long))) (λ y. absurd (clash y unfit))

-- ---- a border with holes as a field

holed_content : (a : ℕ) (segs : List ℕ) (hs : List Hole) → any_hole hs ≡ true
    → (content (border a segs hs) ≡ a ∷ (two (length segs) ++ (segs ++ holes_bytes hs))) × (letter (border a segs hs) ≡ 0x47)
holed_content a segs [] e = absurd (clash e refl)
holed_content a segs (h ∷ hs) e = (refl, refl)

pub holed_size : (a : ℕ) (segs : List ℕ) (hs : List Hole) → any_hole hs ≡ true → length (content (border a segs hs)) ≡ 3 + length segs + length (holes_bytes hs)
holed_size a segs hs e = ap length (holed_content a segs hs e).0 ∙ omega (arith, length-append segs (holes_bytes hs))

or_false : (a : Bool) → (a || false) ≡ a
or_false true = refl
or_false false = refl

-- Its holes are too long.
pub holed_long : (out o₃ mid : List ℕ) (p r : Lines) (a : ℕ) (segs : List ℕ) (row : Row) (collapse : Bool) (height base place room : ℕ)
    → place ≡ base + 3 + length segs → 65538 ≤ room → PutsHoles o₃ base place a row collapse height room mid None
    → length mid ≡ length out → r.count ≡ p.count + 1 → r.long ≡ true → PutsHoled out p a segs row collapse height mid r
holed_long out o₃ mid p r a segs row collapse height base place room at big puts size count long s ea xs total is wide any cut same within st ls e =
    let hs = holes_below s collapse height xs in
    let n : 65535 < (place - base) + length (holes_bytes hs) = puts big s ea xs total is wide in
    let many : 65535 < 3 + length cut + length (holes_bytes hs) =
    ⊎_elim (λ k. omega (arith, k)) (λ k. let z = ap length (same k) in omega (arith, z, n, at)) (lt_or_le 65535 (length (holes_bytes hs))) in
    counted st out mid ls (border a cut hs) p r e size count long
    (lt-leb (length (content (border a cut hs))) 65535 (omega (arith, holed_size a cut hs any, many)))

-- It is put after the lines.
pub holed_put : (out o₁ o₂ o₃ o₄ out' : List ℕ) (p r : Lines) (a : ℕ) (segs : List ℕ) (row : Row) (collapse : Bool) (height base count start place room next end : ℕ)
    → base ≡ p.at + 3 → Wrote out base (a ∷ []) o₁ count → Wrote o₁ count (two (length segs % 65536)) o₂ start → Wrote o₂ start segs o₃ place
    → 65538 ≤ room → PutsHoles o₃ base place a row collapse height room o₄ (Some end) → HolesIn base end → length o₄ ≡ length o₃
    → Wrote o₄ p.at (head 0x47 ((end - base) % 65536)) out' next → r.count ≡ p.count + 1 → r.long ≡ p.long → r.at ≡ end
    → PutsHoled out p a segs row collapse height out' r
holed_put out o₁ o₂ o₃ o₄ out' p r a segs row collapse height base count start place room next end eb w₁ w₂ w₃ big puts i size w₄ more long at s ea xs total is-row wide any cut same within st ls e =
    let hs = holes_below s collapse height xs in
    let x = border a segs hs in
    let bs = a ∷ (two (length segs) ++ (segs ++ holes_bytes hs)) in
    let put : HolesPut o₃ place hs o₄ end = puts big s ea xs total is-row wide in
    let few = i.few in
    let n : end ≡ base + 3 + length segs + length (holes_bytes hs) = omega (arith, put.size, w₁.place, w₂.place, w₃.place) in
    let small : length (holes_bytes hs) ≤ 65535 = omega (arith, n, few) in
    let low : length segs ≤ 65535 = omega (arith, n, few) in
    let is : segs ≡ cut = same small in
    let sized = holed_size a segs hs any in
    let ok : fits x ≡ true = le-leb (length (content x)) 65535 (omega (arith, sized, n, few)) in
    let inside : any_past (length segs) hs ≡ false = ap (λ (z : List ℕ). any_past (length z) hs) is ∙ within in
    let k : length segs % 65536 ≡ length segs = mod-eq_of_lt (omega (arith, low)) in
    let d : end - base ≡ length (content x) = omega (arith, n, sized) in
    let m : (end - base) % 65536 ≡ length (content x) = ap (λ (z : ℕ). z % 65536) d ∙ mod-eq_of_lt (omega (arith, d, few)) in
    let holes : Wrote o₃ place (holes_bytes hs) o₄ end = record { place = put.size; store = put.bytes small (holes_placed (length segs) hs low inside) } in
    let body : Wrote out (p.at + 3) bs o₄ r.at = rw at (wrote_then (rw eb at w₁) (wrote_then (rw k at w₂) (wrote_then w₃ holes))) in
    let c = holed_content a segs hs any in
    let f : field (letter x) (content x) ≡ head 0x47 (length (content x)) ++ bs =
    ap₂ field c.1 c.0 ∙ field_bytes 0x47 bs ∙ ap (λ (z : List ℕ). head 0x47 (length z) ++ bs) (sym c.0) in
    subst (λ (z : List ℕ). Emitted st (ls ++ (border a z hs ∷ [])) [] [] out' r) is
    (one_more st out out' ls x p r e (wrote_length w₄ ∙ size ∙ wrote_length w₃ ∙ wrote_length w₂ ∙ wrote_length w₁) more
    (long ∙ sym (rw ok (or_false p.long))) (λ _. rw f (wrote_before body (rw m at w₄))))

-- ---- a border with holes as text

-- with pad a border is its text
padded_text : (s : RenderOptions) (a : ℕ) (segs : List ℕ) (hs : List Hole) → s.pad ≡ true → padded s (border a segs hs) ≡ padded s (text (border_into_tagged_line a segs hs))
unfolding padded
padded_text s a segs hs e = rw e

-- without it any line stays
padded_none : (s : RenderOptions) (x : RenderLine) → s.pad ≡ false → padded s x ≡ x
unfolding padded
padded_none s x e = rw e

-- the bytes of the text as it is made
from_start : (a : ℕ) (segs : List ℕ) (hs : List Hole) → into_tagged_from a segs [] 0 hs ≡ border_into_tagged_line a segs hs
unfolding border_into_tagged_line
from_start a segs hs = refl

module _ (out mid : List ℕ) (p : Lines) (s : RenderOptions) (segs : List ℕ) (row : Row) (collapse : Bool) (height : ℕ) (line : Line)
    (pushes : PushesHoles out p s.annotation segs row collapse height mid line) (size : length mid ≡ length out) where
  -- It is added.
  pub drawn_added : (out' : List ℕ) (r : Lines) → is_long line ≡ false → AddsTextLine mid p line s out' r → DrawsHoled out p s segs row collapse height out' r
  drawn_added out' r short adds pad xs total is-row wide within cut same st ls e =
      let hs = holes_below s collapse height xs in
      let a = s.annotation in
      let t = pushes s refl xs total is-row wide within in
      let is = t.whole short in
      let few : size_of (into_tagged_from a segs [] 0 hs) ≤ 65535 =
      omega (arith, ap size_of (from_start a segs hs), ap size_of is, t.held.place, (short_line line short).1) in
      let x : Emitted st (ls ++ (padded s (text (border_into_tagged_line a segs hs)) ∷ [])) [] [] out' r =
      subst (λ (z : List Piece). Emitted st (ls ++ (padded s (text z) ∷ [])) [] [] out' r) is (adds st out ls t.pieces e size t.held) in
      subst (λ (z : List ℕ). Emitted st (ls ++ (padded s (border a z hs) ∷ [])) [] [] out' r) (same (seats_drawn s collapse height 0 xs a segs [] 0 few))
      (subst (λ (z : RenderLine). Emitted st (ls ++ (z ∷ [])) [] [] out' r) (sym (padded_text s a segs hs pad)) x)

  -- It is too long.
  pub drawn_counted : (r : Lines) → is_long line ≡ true → r.count ≡ p.count + 1 → r.long ≡ true → DrawsHoled out p s segs row collapse height mid r
  drawn_counted r long count is-long pad xs total is-row wide within cut same st ls e =
      let hs = holes_below s collapse height xs in
      let a = s.annotation in
      let t = pushes s refl xs total is-row wide within in
      let whole = border_into_tagged_line a cut hs in
      let big = long_size out t.pieces mid line t.held long in
      let many : 65535 < size_of whole =
      ⊎_elim (λ k. k) (λ k.
      let is = same (seats_drawn s collapse height 0 xs a cut [] 0 (omega (arith, k, ap size_of (from_start a cut hs)))) in
      omega (arith, big, t.grows, ap (λ (z : List ℕ). size_of (border_into_tagged_line a z hs)) is)) (lt_or_le 65535 (size_of whole)) in
      counted st out mid ls (padded s (border a cut hs)) p r e size count is-long (ap fits (padded_text s a cut hs pad) ∙ long_unfit s whole many)

-- ---- a border in a buffer

content_least : (a : ℕ) (segs : List ℕ) (hs : List Hole) → length segs ≤ length (content (border a segs hs))
content_least a segs [] = omega arith
content_least a segs (h ∷ hs) = omega (arith, holed_size a segs (h ∷ hs) refl)

-- More segments than a field holds do not fit, as text neither.
segments_unfit : (s : RenderOptions) (a : ℕ) (segs : List ℕ) (hs : List Hole) → 65536 < length segs → any_past (length segs) hs ≡ false → fits (padded s (border a segs hs)) ≡ false
segments_unfit s a segs hs h within = go s.pad refl
  where
    go : (t : Bool) → s.pad ≡ t → fits (padded s (border a segs hs)) ≡ false
    go true e =
        ap fits (padded_text s a segs hs e)
        ∙ long_unfit s (border_into_tagged_line a segs hs) (omega (arith, h, ap size_of (from_start a segs hs), tagged_least a segs [] 0 hs within (omega arith)))
    go false e = ap fits (padded_none s (border a segs hs) e) ∙ lt-leb (length (content (border a segs hs))) 65535 (omega (arith, h, content_least a segs hs))

module _ (out : List ℕ) (p : Lines) (s : RenderOptions) (buffer : BorderHoriz) (row : Row) (collapse : Bool) (height : ℕ) (room : length buffer.buffer.now ≡ 65536) where
  -- It is longer than the buffer.
  pub holed_past : (mid : List ℕ) (r : Lines) → length mid ≡ length out → length buffer.buffer.now < buffer.len → r.count ≡ p.count + 1 → r.long ≡ true
      → AddsHoled out p s buffer row collapse height mid r
  holed_past mid r size h count long xs total is-row wide any b keeps within st ls e =
      let hs = holes_below s collapse height xs in
      let same = cut_length b hs within in
      counted st out mid ls (padded s (border s.annotation (cut_all b hs) hs)) p r e size count long
      (segments_unfit s s.annotation (cut_all b hs) hs (omega (arith, same, room, keeps_long buffer b keeps h)) (ap (λ (m : ℕ). any_past m hs) same ∙ within))

  module _ (cut : BorderHoriz) (out' segs : List ℕ) (r : Lines) (few : buffer.len ≤ length cut.buffer.now) (are : segs ≡ take buffer.len cut.buffer.now)
      (still : length cut.buffer.now ≡ length buffer.buffer.now) (size : ℕ) (big : size ≡ 65538) (cuts : CutsHoles buffer s.annotation row collapse height size cut) where
    -- where each line is short enough to be laid the buffer is cut for the holes
    is_cut : (xs : List Slot) (total : ℕ) → RowIs row xs total → Every WideSeat xs → (b : List ℕ) → Keeps buffer b
        → any_past (length b) (holes_below s collapse height xs) ≡ false → Every (ShortSeat s collapse height 65538) xs → segs ≡ cut_all b (holes_below s collapse height xs)
    is_cut xs total is-row wide b keeps within short =
        let hs = holes_below s collapse height xs in
        let is = (keeps_fits buffer b keeps (omega (arith, few, still))).1 in
        let same = cut_length b hs within in
        let fit = subst (λ (m : ℕ). Every (ShortSeat s collapse height m) xs) (sym big) short in
        let whole = keeps_whole cut (cut_all b hs) (cuts s refl xs total is-row wide fit b keeps) (omega (arith, same, is, few, still)) in
        let e : buffer.len ≡ cut.len = omega (arith, is, same, whole.1) in
        are ∙ ap (λ (m : ℕ). take m cut.buffer.now) e ∙ whole.0

    -- With pad it is a text.
    pub holed_drawn : s.pad ≡ true → DrawsHoled out p s segs row collapse height out' r → AddsHoled out p s buffer row collapse height out' r
    holed_drawn pad draws xs total is-row wide any b keeps within st ls e =
        let hs = holes_below s collapse height xs in
        let m : length b ≡ length segs =
        sym (keeps_fits buffer b keeps (omega (arith, few, still))).1 ∙ sym (ap length are ∙ length-take-le buffer.len cut.buffer.now few) in
        draws pad xs total is-row wide (ap (λ (z : ℕ). any_past z hs) (sym m) ∙ within) (cut_all b hs) (is_cut xs total is-row wide b keeps within) st ls e

    -- Without it is a field.
    pub holed_field : s.pad ≡ false → PutsHoled out p s.annotation segs row collapse height out' r → AddsHoled out p s buffer row collapse height out' r
    holed_field pad puts xs total is-row wide any b keeps within st ls e =
        let hs = holes_below s collapse height xs in
        let same = cut_length b hs within in
        subst (λ (z : RenderLine). Emitted st (ls ++ (z ∷ [])) [] [] out' r) (sym (padded_none s (border s.annotation (cut_all b hs) hs) pad))
        (puts s refl xs total is-row wide any (cut_all b hs) (λ j. is_cut xs total is-row wide b keeps within (seats_short s collapse height 0 xs j)) (ap (λ (m : ℕ). any_past m hs) same ∙ within) st ls e)

-- ---- the border below the row

-- No line more, or one.
pub same_lines : (p : Lines) → NextOrSame p p
same_lines p = record { count = omega arith; on = omega arith; at = omega arith }

pub next_line_lem : (p r : Lines) → OneLineMore p r → NextOrSame p r
next_line_lem p r o = record { count = omega (arith, o.count); on = omega (arith, o.count); at = omega (arith, o.count, o.at) }

no_hole : (hs : List Hole) → any_hole hs ≡ false → hs ≡ []
no_hole [] e = refl
no_hole (h ∷ hs) e = absurd (clash refl e)

module _ (out : List ℕ) (p : Lines) (s : RenderOptions) (row : Row) (joined collapse : Bool) (survey : Surveyed) (holes : Bool) where
  -- Borders are not drawn.
  pub below_none : s.borders ≡ false → AddsBelow out p s row joined collapse survey holes out p
  below_none off xs is st ls e =
      let hs = holes_below s collapse survey.height xs in
      let b = border_below joined survey.total xs (map (column_of collapse) xs) in
      subst (λ (t : Bool). Emitted st (ls ++ map (padded s) (if t then border s.annotation (cut_all b hs) hs ∷ [] else [])) [] [] out p) (sym off)
      (subst (λ (z : List RenderLine). Emitted st z [] [] out p) (sym (append-nil ls)) e)

  module _ (begun made : BorderHoriz) (out' : List ℕ) (r : Lines) (on : s.borders ≡ true) (fills : Fills survey.total Horiz begun) (start : length begun.buffer.now ≡ 65536)
      (same-room : length made.buffer.now ≡ length begun.buffer.now) (borders : BordersBelow begun joined row collapse made) where
    below : (xs : List Slot) (total : ℕ) → RowIs row xs total → Keeps made (border_below joined survey.total xs (map (column_of collapse) xs))
    below xs total is = borders survey.total xs total (fills (omega (arith, start))) is

    -- the one line is added
    drawn : (st : List ℕ) (ls : List RenderLine) (x : RenderLine) → Emitted st (ls ++ (padded s x ∷ [])) [] [] out' r → Emitted st (ls ++ map (padded s) (if_drawn s x)) [] [] out' r
    drawn st ls x e = subst (λ (t : Bool). Emitted st (ls ++ map (padded s) (if t then x ∷ [] else [])) [] [] out' r) (sym on) e

    -- a border without holes
    plain : (st : List ℕ) (ls : List RenderLine) (b : List ℕ) (hs : List Hole) → hs ≡ [] → Emitted st (ls ++ (padded s (plain_border s.annotation b) ∷ [])) [] [] out' r
        → Emitted st (ls ++ (padded s (border s.annotation (cut_all b hs) hs) ∷ [])) [] [] out' r
    unfolding cut_all
    plain st ls b hs none e = subst (λ (z : List Hole). Emitted st (ls ++ (padded s (border s.annotation (cut_all b z) z) ∷ [])) [] [] out' r) (sym none) e

    -- It has holes.
    pub below_holed : holes ≡ true → AddsHoled out p s made row collapse survey.height out' r → AddsBelow out p s row joined collapse survey holes out' r
    below_holed h adds xs is st ls e =
        drawn st ls _ (adds xs is.full is.is is.wide (sym is.holed ∙ h) _ (below xs is.full is.is) is.within st ls e)

    -- It has none.
    pub below_plain : (segs : List ℕ) → holes ≡ false → made.len ≤ length made.buffer.now → segs ≡ take made.len made.buffer.now
        → AddsBorder out p s s.annotation segs out' r → AddsBelow out p s row joined collapse survey holes out' r
    below_plain segs h few are adds xs is st ls e =
        let b = border_below joined survey.total xs (map (column_of collapse) xs) in
        let same : segs ≡ b = are ∙ (keeps_fits made b (below xs is.full is.is) few).0 in
        drawn st ls _
        (plain st ls b (holes_below s collapse survey.height xs) (no_hole (holes_below s collapse survey.height xs) (sym is.holed ∙ h))
        (subst (λ (z : List ℕ). Emitted st (ls ++ (padded s (plain_border s.annotation z) ∷ [])) [] [] out' r) same (adds st ls e)))

    -- It has none, and is longer than the buffer.
    pub below_long : holes ≡ false → length made.buffer.now < made.len → length out' ≡ length out → r.count ≡ p.count + 1 → r.long ≡ true
        → AddsBelow out p s row joined collapse survey holes out' r
    unfolding any_past
    below_long h far same count long xs is st ls e =
        let b = border_below joined survey.total xs (map (column_of collapse) xs) in
        let past = keeps_long made b (below xs is.full is.is) far in
        drawn st ls _
        (plain st ls b (holes_below s collapse survey.height xs) (no_hole (holes_below s collapse survey.height xs) (sym is.holed ∙ h))
        (counted st out out' ls (padded s (plain_border s.annotation b)) p r e same count long (segments_unfit s s.annotation b [] (omega (arith, start, same-room, past)) refl)))
