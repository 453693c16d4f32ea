-- A piece, line by line, over plain lists.
-- Assumes nothing.
use mathlib.Core.Path.{◌≡◌, refl, sym, ap, ◌∙◌}
use mathlib.Core.Option.{none}
use mathlib.Core.List.{List, [], ◌++◌}
use Prim.Native.Nat.{ℕ, ◌+◌, ◌-◌, ◌*◌, ◌^◌, ◌<◌, ◌≤◌, min}
use native.Mathlib.Omega.{arith}
use lib.ListN.{length, drop, length-drop}
use lib.Seq.{drop-drop}
use Rattle.std.specs.Prelude.{Result, Ok, Err}
use Rattle.characters.specs.Columns.{str_width}
use Rattle.characters.specs.Utf8.{text_bytes}
use Rattle.characters.proofs.RoundTrip.{Scalars}
use Rattle.fields.specs.declared.job.Setup.{Setup}
use Rattle.block.specs.Tag.{Tag}
use Rattle.block.specs.Result.{too_narrow}
use Rattle.block.specs.Flat.{Line, Block, with_line, flat_hard_wrap}
use Rattle.characters.proofs.Runs.{width_append}
use Rattle.lines.specs.Bridge.{num, text}
use Rattle.lines.proofs.Encoded.{scalars_right}
use Rattle.lines.proofs.HardWrap.{piece_fits}
use Rattle.hard_wrap.specs.Hold.{setup, Holds, Stays, PutsText, Moved, Stepped, StepIs, WrapsLine, Pieced, Pieces}
use Rattle.hard_wrap.specs.Walk.{Widths}
use Rattle.hard_wrap.specs.declared.line.Frame.{Frame}
use Rattle.hard_wrap.specs.declared.line.OpenLine.{OpenLine}
use Rattle.hard_wrap.specs.declared.piece.Step.{Step}
use Rattle.hard_wrap.specs.declared.error.TooNarrow.{TooNarrow}
use Rattle.fields.proofs.Texts.{rest}
use Rattle.hard_wrap.proofs.Turns.{text_drop}
use Rattle.hard_wrap.proofs.Walks.{text_none, part_len, part, Stopped}

-- what is left of the piece
pub record PieceLeft (s : Setup) (d₀ : List ℕ) (base : ℕ) (b : Block) (t : Tag) (cs piece : List ℕ) (cur : OpenLine) (wpos bpos : ℕ) : Type 0 where
  pub q : List ℕ
  pub next : Block
  pub scalars : Scalars q
  pub rest : drop bpos piece ≡ text_bytes q
  pub cols : wpos + str_width q ≡ str_width cs
  pub holds : Holds d₀ base next cur
  pub same : (w : Line) → flat_hard_wrap s (text t cs ++ w) none b ≡ flat_hard_wrap s (text t q ++ w) none next

module _ (s : Setup) (d₀ : List ℕ) (base : ℕ) (b : Block) (t : Tag) (cs piece : List ℕ) where
  -- all of the piece
  pub piece_start : (o : OpenLine) → Holds d₀ base b o → Scalars cs → piece ≡ text_bytes cs → PieceLeft s d₀ base b t cs piece o 0 0
  piece_start o g sc e = record { q = cs; next = b; scalars = sc; rest = e; cols = omega arith; holds = g; same = λ w. refl }

  module _ (cur : OpenLine) (wpos bpos : ℕ) (g : PieceLeft s d₀ base b t cs piece cur wpos bpos) where
    -- one line further
    pub piece_turn : (r : OpenLine) (m : Step) → Stepped s d₀ base g.next t g.q m r
        → PieceLeft s d₀ base b t cs piece r (wpos + m.used) (bpos + m.split)
    piece_turn r m x =
        record {
          q = x.q;
          next = x.next;
          scalars = scalars_right x.p x.q (rw x.whole at g.scalars);
          rest = sym (drop-drop m.split bpos piece) ∙ text_drop (drop bpos piece) g.q x.p x.q m.split g.rest x.whole x.place;
          cols = (let v : str_width g.q ≡ str_width x.p + str_width x.q = ap str_width x.whole ∙ width_append x.p x.q in let y = g.cols in let z = x.cols in omega arith);
          holds = x.holds;
          same = λ w. g.same w ∙ x.same w;
        }

    -- a character that no line takes
    pub piece_stuck : ((w : Line) → flat_hard_wrap s (text t g.q ++ w) none g.next ≡ too_narrow) → (w : Line) → flat_hard_wrap s (text t cs ++ w) none b ≡ too_narrow
    piece_stuck y w = g.same w ∙ y w

    -- the rest goes on the open line
    pub piece_rest : (r : OpenLine) (used w : ℕ) → w ≡ str_width cs → used ≡ w - wpos → w ≤ wpos + (s.width - cur.cols) → cur.cols ≤ s.width
        → (used ≡ str_width g.q → Holds d₀ base (with_line (g.next.line ++ text t g.q) g.next) r)
        → Pieced s d₀ base b t cs r
    piece_rest r used w we ue fit ok h =
        let y = g.cols in
        let z = g.holds.cols in
        record {
          next = with_line (g.next.line ++ text t g.q) g.next;
          holds = h (omega arith);
          same = λ v cut. g.same v ∙ piece_fits s t g.q v g.next g.next.line cut (omega arith);
        }

    -- nothing is left
    pub piece_end : length piece ≤ bpos → Pieced s d₀ base b t cs cur
    piece_end h =
        let m : length (text_bytes g.q) ≡ length piece - bpos = sym (ap length g.rest) ∙ length-drop bpos piece in
        let e : g.q ≡ [] = text_none g.q (omega arith) in
        record { next = g.next; holds = g.holds; same = λ v cut. g.same v ∙ ap (λ (l : List ℕ). flat_hard_wrap s (text t l ++ v) none g.next) e }

-- ---- the loop over a piece's lines

-- The loop's invariant: the numbers, and that what is left of the piece from here makes the whole.
pub record Walked (o : OpenLine) (piece : List ℕ) (tag : ℕ) (cur : OpenLine) (wpos bpos : ℕ) : Type 0 where
  pub stays : Stays o cur
  pub inside : bpos ≤ length piece
  pub cols : cur.cols ≤ o.frame.width
  pub n : length cur.entries.items + (length piece - bpos) ≤ length o.entries.items + length piece
  pub place : cur.text.place + 65538 * (2 * (length piece - bpos) + min 1 cur.cols) ≤ o.text.place + 65538 * (2 * length piece + min 1 o.cols)
  pub lines : cur.text.lines ≤ cur.text.place
  pub used : wpos + 512 * (2 * (length piece - bpos) + min 1 cur.cols) ≤ 512 * (2 * length piece + 1)
  pub going : (d₀ : List ℕ) (base : ℕ) (b : Block) (t : Tag) (cs : List ℕ) → Holds d₀ base b o → tag ≡ num t → t.ann < 256 → Scalars cs → piece ≡ text_bytes cs
      → PieceLeft (setup o.frame) d₀ base b t cs piece cur wpos bpos

-- No line yet.
pub walked_start : (o : OpenLine) (piece : List ℕ) (tag : ℕ) → o.cols ≤ o.frame.width → o.text.lines ≤ o.text.place → Walked o piece tag o 0 0
walked_start o piece tag h k =
    record {
      stays = record { frame = refl; room = refl; store = refl };
      inside = omega arith;
      cols = h;
      n = omega arith;
      place = omega arith;
      lines = k;
      used = omega arith;
      going = λ d₀ base b t cs g ta ann sc e. piece_start (setup o.frame) d₀ base b t cs piece o g sc e;
    }

module _ (o : OpenLine) (piece : List ℕ) (tag : ℕ) (cur : OpenLine) (wpos bpos : ℕ) (g : Walked o piece tag cur wpos bpos) where
  same_width : cur.frame.width ≡ o.frame.width
  same_width = ap (λ (f : Frame). f.width) g.stays.frame

  -- One line further, the numbers stay in bounds and the measure falls.
  pub piece_onward : (m : Step) (r : OpenLine) → Moved cur (length (part piece bpos)) m r → length piece < 13107
      → (bpos + m.split < 13107) × (wpos + m.used < 2 ^ 40) × (2 * (length piece - (bpos + m.split)) + min 1 r.cols < 2 * (length piece - bpos) + min 1 cur.cols)
  piece_onward m r v l = omega (arith, g, v, l, part_len piece bpos)

  module _ (w split used : ℕ) (widths : Widths piece w) (more : wpos + (cur.frame.width - cur.cols) < w) (stop : Stopped (part piece bpos) (cur.frame.width - cur.cols) split used) where
    -- what the line that does not fit comes to
    line_is : (x : Result Step TooNarrow) (r : OpenLine) → WrapsLine cur (part piece bpos) split used tag x r
        → (d₀ : List ℕ) (base : ℕ) (b : Block) (t : Tag) (cs : List ℕ) (h : Holds d₀ base b o) (ta : tag ≡ num t) (ann : t.ann < 256) (sc : Scalars cs) (e : piece ≡ text_bytes cs)
        → StepIs (setup o.frame) d₀ base (g.going d₀ base b t cs h ta ann sc e).next t (g.going d₀ base b t cs h ta ann sc e).q x r
    line_is x r wl d₀ base b t cs h ta ann sc e =
        let y = g.going d₀ base b t cs h ta ann sc e in
        let f : part piece bpos ≡ text_bytes y.q = rest piece bpos ∙ y.rest in
        let k : cur.frame.width < cur.cols + str_width y.q = (let a = widths cs sc e in let u = y.cols in let z = same_width in omega (arith, g.cols)) in
        let z : StepIs (setup cur.frame) d₀ base y.next t y.q x r = wl d₀ base y.next t y.q y.holds ta ann y.scalars f k (stop y.q y.scalars f) in
        rw g.stays.frame at z

    -- One line further.
    pub walked_on : (m : Step) (r : OpenLine) → Stays cur r → Moved cur (length (part piece bpos)) m r → WrapsLine cur (part piece bpos) split used tag (Ok m) r
        → Walked o piece tag r (wpos + m.used) (bpos + m.split)
    walked_on m r st mv wl =
        let pl = part_len piece bpos in
        record {
          stays = record { frame = st.frame ∙ g.stays.frame; room = st.room ∙ g.stays.room; store = st.store ∙ g.stays.store };
          inside = omega (arith, mv, g, pl);
          cols = omega (arith, mv);
          n = omega (arith, mv, g, pl);
          place = omega (arith, mv, g, pl);
          lines = mv.emptied.lines;
          used = omega (arith, mv, g, pl);
          going = λ d₀ base b t cs h ta ann sc e.
              piece_turn (setup o.frame) d₀ base b t cs piece cur wpos bpos (g.going d₀ base b t cs h ta ann sc e) r m (line_is (Ok m) r wl d₀ base b t cs h ta ann sc e);
        }

    -- A character that no line takes.
    pub walked_stuck : (n : TooNarrow) (r : OpenLine) → WrapsLine cur (part piece bpos) split used tag (Err n) r → Pieces o piece tag (Err n) r
    walked_stuck n r wl =
        λ d₀ base b t cs h ta ann sc e v cut.
        piece_stuck (setup o.frame) d₀ base b t cs piece cur wpos bpos (g.going d₀ base b t cs h ta ann sc e) (line_is (Err n) r wl d₀ base b t cs h ta ann sc e) v

  -- The rest goes on the open line.
  pub walked_rest : (w used : ℕ) (r : OpenLine) → Widths piece w → used ≡ w - wpos → w ≤ wpos + (cur.frame.width - cur.cols)
      → PutsText cur (part piece bpos) used tag r → Pieces o piece tag (Ok tt) r
  walked_rest w used r widths ue fit x =
      λ d₀ base b t cs h ta ann sc e.
      let y = g.going d₀ base b t cs h ta ann sc e in
      let z = same_width in
      piece_rest (setup o.frame) d₀ base b t cs piece cur wpos bpos y r used w (widths cs sc e) ue (omega arith) g.cols
      (λ u. x d₀ base y.next t y.q y.holds ta ann y.scalars (rest piece bpos ∙ y.rest) u)

  -- Nothing is left.
  pub walked_end : length piece ≤ bpos → Pieces o piece tag (Ok tt) cur
  walked_end k = λ d₀ base b t cs h ta ann sc e. piece_end (setup o.frame) d₀ base b t cs piece cur wpos bpos (g.going d₀ base b t cs h ta ann sc e) k
