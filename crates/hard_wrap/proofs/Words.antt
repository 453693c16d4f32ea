-- A word, piece by piece, over plain lists.
-- Assumes nothing.
use mathlib.Core.Path.{◌≡◌, refl, sym, ap, ◌∙◌}
use mathlib.Core.Option.{none}
use mathlib.Core.List.{List, [], ◌∷◌, ◌++◌, map}
use Prim.Native.Nat.{ℕ, suc, ◌+◌, ◌-◌, ◌*◌, ◌<◌, ◌≤◌, min}
use native.Mathlib.Numerals.{add-one}
use native.Mathlib.Omega.{arith}
use lib.ListN.{length, take, drop, get_or, length-take, length-drop, length-map, drop_of_length-le}
use lib.Seq.{drop-drop, drop-cons}
use Rattle.std.specs.Prelude.{Result, Ok, Err}
use Rattle.fields.specs.declared.job.Setup.{Setup}
use Rattle.block.specs.Result.{too_narrow}
use Rattle.block.specs.Flat.{Line, Block, flat_hard_wrap}
use Rattle.lines.specs.Items.{Item, byte_of, tag_of, zip, mark_tag}
use Rattle.lines.specs.Encode.{run_t}
use Rattle.lines.specs.Bridge.{enc, Valid, text, Cut}
use Rattle.lines.proofs.Buffers.{zip_nil, zip_drop, zip_copies}
use Rattle.lines.proofs.Encoded.{enc_none}
use Rattle.hard_wrap.specs.Hold.{setup, Holds, Stays, WordGrown, Pieced, Pieces, PieceIs, Worded, Wraps}
use Rattle.hard_wrap.specs.declared.line.Frame.{Frame}
use Rattle.hard_wrap.specs.declared.line.OpenLine.{OpenLine}
use Rattle.hard_wrap.specs.declared.error.TooNarrow.{TooNarrow}
use Rattle.hard_wrap.proofs.Fronts.{Piece, Named, piece_front, name_front}

-- what is left of the word
pub record WordLeft (s : Setup) (d₀ : List ℕ) (base : ℕ) (b : Block) (w : Line) (wb wt : List ℕ) (cur : OpenLine) (at : ℕ) : Type 0 where
  pub rest : Line
  pub next : Block
  pub valid : Valid rest
  pub held : zip (drop at wb) (drop at wt) ≡ enc rest
  pub holds : Holds d₀ base next cur
  pub same : flat_hard_wrap s w none b ≡ flat_hard_wrap s rest none next

module _ (wb wt : List ℕ) (same : length wb ≡ length wt) (at : ℕ) (h : at < length wt) where
  here : drop at wt ≡ get_or wt at 0 ∷ drop (suc at) wt
  here = drop-cons wt at 0 h

  lengths : length (drop at wb) ≡ length (get_or wt at 0 ∷ drop (suc at) wt)
  lengths = length-drop at wb ∙ ap (λ (n : ℕ). n - at) same ∙ sym (length-drop at wt) ∙ ap length here

  -- a piece stands there
  pub piece_at : (w : Line) → Valid w → zip (drop at wb) (drop at wt) ≡ enc w → get_or wt at 0 < mark_tag
      → Piece (drop at wb) (get_or wt at 0 ∷ drop (suc at) wt) w (get_or wt at 0) (suc (run_t (get_or wt at 0) (drop (suc at) wt)))
  piece_at w v e k = piece_front (drop at wb) (get_or wt at 0) (drop (suc at) wt) w lengths v (ap (zip (drop at wb)) (sym here) ∙ e) k

  -- a name stands there
  pub name_at : (w : Line) → Valid w → zip (drop at wb) (drop at wt) ≡ enc w → mark_tag ≤ get_or wt at 0
      → Named (drop at wb) (get_or wt at 0 ∷ drop (suc at) wt) w (suc (run_t (get_or wt at 0) (drop (suc at) wt)))
  name_at w v e k = name_front (drop at wb) (get_or wt at 0) (drop (suc at) wt) w lengths v (ap (zip (drop at wb)) (sym here) ∙ e) k

  module _ (end : ℕ) (e : end ≡ at + 1 + run_t (get_or wt at 0) (drop (at + 1) wt)) where
    end_is : end ≡ at + suc (run_t (get_or wt at 0) (drop (suc at) wt))
    end_is = let f : run_t (get_or wt at 0) (drop (at + 1) wt) ≡ run_t (get_or wt at 0) (drop (suc at) wt) = ap (λ (n : ℕ). run_t (get_or wt at 0) (drop n wt)) (add-one at) in omega arith

    pub run_is : end - at ≡ suc (run_t (get_or wt at 0) (drop (suc at) wt))
    run_is = let f = end_is in omega arith

    pub past : (l : Line)
        → zip (drop (suc (run_t (get_or wt at 0) (drop (suc at) wt))) (drop at wb)) (drop (suc (run_t (get_or wt at 0) (drop (suc at) wt))) (get_or wt at 0 ∷ drop (suc at) wt)) ≡ enc l
        → zip (drop end wb) (drop end wt) ≡ enc l
    past l q =
        let k : ℕ = suc (run_t (get_or wt at 0) (drop (suc at) wt)) in
        let x : drop end wb ≡ drop k (drop at wb) = ap (λ (n : ℕ). drop n wb) end_is ∙ sym (drop-drop k at wb) in
        let y : drop end wt ≡ drop k (get_or wt at 0 ∷ drop (suc at) wt) = ap (λ (n : ℕ). drop n wt) end_is ∙ sym (drop-drop k at wt) ∙ ap (drop k) here in
        rw (x, y) q

module _ (s : Setup) (d₀ : List ℕ) (base : ℕ) (b : Block) (w : Line) (wb wt : List ℕ) (cur : OpenLine) (at : ℕ) (g : WordLeft s d₀ base b w wb wt cur at) where
  -- nothing is left
  word_end : length wt ≤ at → Worded (flat_hard_wrap s w none b) d₀ base cur
  unfolding flat_hard_wrap
  word_end h =
      let e : g.rest ≡ [] = enc_none g.rest (sym g.held ∙ ap (zip (drop at wb)) (drop_of_length-le wt h) ∙ zip_nil (drop at wb)) in
      record { next = g.next; is = g.same ∙ ap (λ (l : Line). flat_hard_wrap s l none g.next) e; holds = g.holds }

  module _ (same : length wb ≡ length wt) (h : at < length wt) (end : ℕ) (e : end ≡ at + 1 + run_t (get_or wt at 0) (drop (at + 1) wt)) where
    -- a name is dropped
    word_name : mark_tag ≤ get_or wt at 0 → WordLeft s d₀ base b w wb wt cur end
    unfolding flat_hard_wrap
    word_name k =
        let n = name_at wb wt same at h g.rest g.valid g.held k in
        record {
          rest = n.more;
          next = g.next;
          valid = n.valid;
          held = past wb wt same at h end e n.more n.rest;
          holds = g.holds;
          same = g.same ∙ ap (λ (l : Line). flat_hard_wrap s l none g.next) n.is;
        }

    module _ (k : get_or wt at 0 < mark_tag) (f : setup cur.frame ≡ s) where
      piece : Piece (drop at wb) (get_or wt at 0 ∷ drop (suc at) wt) g.rest (get_or wt at 0) (suc (run_t (get_or wt at 0) (drop (suc at) wt)))
      piece = piece_at wb wt same at h g.rest g.valid g.held k

      -- what the piece comes to
      comes : (x : Result Unit TooNarrow) (r : OpenLine) → Pieces cur (take (end - at) (drop at wb)) (get_or wt at 0) x r → PieceIs s d₀ base g.next piece.t piece.cs x r
      comes x r y =
          rw f at y d₀ base g.next piece.t piece.cs g.holds piece.tag piece.ann piece.scalars (ap (λ (n : ℕ). take n (drop at wb)) (run_is wb wt same at h end e) ∙ piece.bytes)

      -- a piece is wrapped
      word_piece : (r : OpenLine) → Pieces cur (take (end - at) (drop at wb)) (get_or wt at 0) (Ok tt) r → WordLeft s d₀ base b w wb wt r end
      word_piece r x =
          let y : Pieced s d₀ base g.next piece.t piece.cs r = comes (Ok tt) r x in
          record {
            rest = piece.more;
            next = y.next;
            valid = piece.valid;
            held = past wb wt same at h end e piece.more piece.rest;
            holds = y.holds;
            same = g.same ∙ ap (λ (l : Line). flat_hard_wrap s l none g.next) piece.is ∙ y.same piece.more piece.cut;
          }

      -- a piece is too wide
      word_narrow : (n : TooNarrow) (r : OpenLine) → Pieces cur (take (end - at) (drop at wb)) (get_or wt at 0) (Err n) r → flat_hard_wrap s w none b ≡ too_narrow
      word_narrow n r x =
          let y : (v : Line) → Cut piece.t v → flat_hard_wrap s (text piece.t piece.cs ++ v) none g.next ≡ too_narrow = comes (Err n) r x in
          g.same ∙ ap (λ (l : Line). flat_hard_wrap s l none g.next) piece.is ∙ y piece.more piece.cut

-- ---- the loop over a word's pieces

-- The loop's invariant: the numbers, and that what is left of the word from here makes the whole.
pub record Passed (o : OpenLine) (wb wt : List ℕ) (start : ℕ) (cur : OpenLine) (at : ℕ) : Type 0 where
  pub stays : Stays o cur
  pub inside : at ≤ length wt
  pub cols : cur.cols ≤ o.frame.width
  pub n : length cur.entries.items + (length wt - at) ≤ length o.entries.items + (length wt - start)
  pub place : cur.text.place + 65538 * (2 * (length wt - at) + min 1 cur.cols) ≤ o.text.place + 65538 * (2 * (length wt - start) + min 1 o.cols)
  pub lines : cur.text.lines ≤ cur.text.place
  pub left : (d₀ : List ℕ) (base : ℕ) (b : Block) (w : Line) → Holds d₀ base b o → Valid w → zip (drop start wb) (drop start wt) ≡ enc w
      → WordLeft (setup o.frame) d₀ base b w wb wt cur at

-- All of the word is left.
pub passed_start : (o : OpenLine) (wb wt : List ℕ) (start : ℕ) → start ≤ length wt → o.cols ≤ o.frame.width → o.text.lines ≤ o.text.place → Passed o wb wt start o start
passed_start o wb wt start i h k =
    record {
      stays = record { frame = refl; room = refl; store = refl };
      inside = i;
      cols = h;
      n = omega arith;
      place = omega arith;
      lines = k;
      left = λ d₀ base b w g v e. record { rest = w; next = b; valid = v; held = e; holds = g; same = refl };
    }

module _ (o : OpenLine) (wb wt : List ℕ) (start : ℕ) (cur : OpenLine) (at : ℕ) (g : Passed o wb wt start cur at)
    (l : List Item) (eb : wb ≡ map byte_of l) (et : wt ≡ map tag_of l) where
  held : zip (drop start wb) (drop start wt) ≡ drop start l
  held = zip_drop start wb wt ∙ ap (drop start) (zip_copies l wb wt eb et)

  same : length wb ≡ length wt
  same = ap length eb ∙ length-map l byte_of ∙ sym (ap length et ∙ length-map l tag_of)

  -- The word's end.
  pub passed_end : length wt ≤ at → Wraps o (drop start l) (Ok tt) cur
  passed_end h = λ d₀ base b w q v e. word_end (setup o.frame) d₀ base b w wb wt cur at (g.left d₀ base b w q v (held ∙ e)) h

  module _ (h : at < length wt) (end : ℕ) (i : end ≤ length wt) (e : end ≡ at + 1 + run_t (get_or wt at 0) (drop (at + 1) wt)) where
    -- A name is dropped.
    pub passed_name : mark_tag ≤ get_or wt at 0 → Passed o wb wt start cur end
    passed_name k =
        record {
          stays = g.stays;
          inside = i;
          cols = g.cols;
          n = omega (arith, g, e);
          place = omega (arith, g, e);
          lines = g.lines;
          left = λ d₀ base b w q v f. word_name (setup o.frame) d₀ base b w wb wt cur at (g.left d₀ base b w q v f) same h end e k;
        }

    module _ (k : get_or wt at 0 < mark_tag) where
      -- A piece is wrapped.
      pub passed_piece : (r : OpenLine) → Stays cur r → WordGrown cur (length (take (end - at) (drop at wb))) r → Pieces cur (take (end - at) (drop at wb)) (get_or wt at 0) (Ok tt) r
          → Passed o wb wt start r end
      passed_piece r st gr x =
          let sm = same in
          let pl : length (take (end - at) (drop at wb)) ≡ end - at = simp (length-take, length-drop) (omega arith) in
          let fw : cur.frame.width ≡ o.frame.width = ap (λ (f : Frame). f.width) g.stays.frame in
          record {
            stays = record { frame = st.frame ∙ g.stays.frame; room = st.room ∙ g.stays.room; store = st.store ∙ g.stays.store };
            inside = i;
            cols = omega (arith, gr, fw);
            n = omega (arith, gr, pl, g, e);
            place = omega (arith, gr, pl, g, e);
            lines = gr.lines;
            left = λ d₀ base b w q v f. word_piece (setup o.frame) d₀ base b w wb wt cur at (g.left d₀ base b w q v f) same h end e k (ap setup g.stays.frame) r x;
          }

      -- A piece is too wide.
      pub passed_narrow : (n : TooNarrow) (r : OpenLine) → Pieces cur (take (end - at) (drop at wb)) (get_or wt at 0) (Err n) r → Wraps o (drop start l) (Err n) r
      passed_narrow n r x =
          λ d₀ base b w q v f. word_narrow (setup o.frame) d₀ base b w wb wt cur at (g.left d₀ base b w q v (held ∙ f)) same h end e k (ap setup g.stays.frame) n r x
