-- The laws of a block at its start and at its end.
-- Assumes nothing.
use mathlib.Core.Path.{◌≡◌, refl, sym, ap, ◌∙◌}
use mathlib.Core.Bool.{Bool, true, false, not}
use mathlib.Core.List.{List, [], ◌++◌, map, append-nil}
use Prim.Native.Nat.{ℕ, ◌+◌}
use lib.Dec.{leb}
use lib.ListN.{length-map}
use Rattle.std.proofs.lemmas.Result.{MatchResult-from_err}
use Rattle.std.specs.Prelude.{Result, Ok, Err, IsErr, if◌then◌else◌}
use Rattle.characters.proofs.Tests.{by_if}
use Rattle.fields.specs.Spans.{RenderLine, lines_bytes, overhang_bytes, names_bytes, body_bytes}
use Rattle.fields.specs.Store.{Wrote}
use Rattle.fields.specs.declared.job.Setup.{Setup}
use Rattle.fields.proofs.Sets.{wrote_then}
use Rattle.block.specs.Result.{good, OnGood}
use Rattle.block.specs.Flat.{Line, Block, columns, has_text, new as flat_new, with_wrapped, left, put_word, wrap_word, flat_flush_line, flat_flush_word, flat_flush_wrapping, names_in, ended, wrapped_up, flat_sheet_line}
use Rattle.block.proofs.Left.{ends_flat}
use Rattle.block.proofs.NonSpaces.{trims_new, texted}
use Rattle.block.proofs.Results.{good_map}
use Rattle.block.proofs.Same.{bare_wrap}
use Rattle.lines.specs.Items.{Item}
use Rattle.lines.specs.Bridge.{enc, Valid}
use Rattle.lines.specs.Encode.{content}
use Rattle.lines.specs.declared.line.TaggedLine.{TaggedLine}
use Rattle.lines.specs.declared.text.ClosedLines.{ClosedLines}
use Rattle.lines.proofs.Encoded.{names_bytes_lem}
use Rattle.hard_wrap.specs.Hold.{setup, Stays}
use Rattle.hard_wrap.specs.Steps.{Flushes}
use Rattle.hard_wrap.specs.declared.error.TooNarrow.{TooNarrow}
use Rattle.hard_wrap.specs.declared.line.Frame.{Frame}
use Rattle.hard_wrap.specs.declared.line.OpenLine.{OpenLine}
use Rattle.flush_word.specs.Keep.{new, Keeps, BlockStays, FlushesWord}
use Rattle.flush_word.specs.declared.state.WrappedBlock.{WrappedBlock}
use Rattle.render.specs.Render.{AddsFields, LinesAre, FlushesWrapping, WrapsBody, WrapsUp}
use Rattle.render.specs.declared.sheet.End.{End}

-- ---- the block at its start

module _ (frame : Frame) (line word : TaggedLine) (text : ClosedLines) where
  -- The new block of the code keeps the new flat block, where line and word have no entries.
  pub keeps_new : line.items ≡ [] → word.items ≡ [] → text.place ≡ 5 → text.lines ≡ 0 → Keeps text.out.now 5 flat_new (new frame line word text)
  unfolding flat_new columns has_text enc lines_bytes
  keeps_new l w p n =
      record {
        line = record { line = l; valid = tt; cols = refl; store = refl; place = p; lines = n };
        word = w;
        valid = tt;
        cols = refl;
        text = refl;
        count = refl;
        pends = refl;
        wrapped = refl;
        trims = trims_new;
      }

-- ---- the block at its end

-- After `flush_word` the word has no text: it had none, or it is gone.
no_text_left : (s : Setup) (b : Block) → OnGood (λ (c : Block). has_text c.word ≡ false) (flat_flush_word s b)
unfolding flat_flush_word has_text put_word
no_text_left s b = go (has_text b.word) refl
  where
    go : (x : Bool) → has_text b.word ≡ x
        → OnGood (λ (c : Block). has_text c.word ≡ false)
        (if not x then good b else if leb (b.wslen + columns b.word) (left s b) then good (put_word (with_wrapped false b)) else wrap_word s b)
    go false e = e
    go true e =
        by_if (OnGood (λ (c : Block). has_text c.word ≡ false)) (leb (b.wslen + columns b.word) (left s b)) (λ _. refl)
        (λ _. good_map (wrap_word s b) (λ c k. ap has_text k.0) (bare_wrap s b))

-- the names of a word without text, put behind the lines, from which nothing hangs
behind : (d₀ : List ℕ) (ls : List RenderLine) (w : Line) (is : List Item) {out out' : List ℕ} {at at' : ℕ} → is ≡ enc w → Valid w → has_text w ≡ false
    → Wrote d₀ 5 (lines_bytes ls) out at → Wrote out at (content is) out' at' → Wrote d₀ 5 (body_bytes ls (names_in w) []) out' at'
unfolding overhang_bytes
behind d₀ ls w is e v t lines names =
    let same : content is ≡ names_bytes (names_in w) ++ [] = ap content e ∙ names_bytes_lem w v t ∙ sym (append-nil _) in
    wrote_then lines (rw same at names)

module _ (o : WrappedBlock) where
  -- The last word is flushed, a line with text, and the names left in the word are put behind the lines; the lines alone are counted.
  pub flushes_done : (last : WrappedBlock) (closed : OpenLine) (end : End) (out : List ℕ) → FlushesWord o (Ok tt) last → Stays o.line last.line
      → Flushes last.line closed → Wrote closed.text.out.now closed.text.place (content last.word.entries.items) out end.place → end.lines ≡ closed.text.lines
      → (d₀ : List ℕ) (b : Block) → Keeps d₀ 5 b o → LinesAre (flat_flush_wrapping (setup o.line.frame) b) d₀ (Ok end) out
  flushes_done last closed end out w stays f p e d₀ b k =
      let n = w d₀ 5 b k in
      let c = n.block in
      let h = rw stays.frame at (f d₀ 5 c n.keeps.line (texted c.line n.keeps.trims.line)) in
      let ls = (flat_flush_line (setup o.line.frame) c).text in
      let bare : has_text c.word ≡ false = rw n.is at (no_text_left (setup o.line.frame) b) in
      let all = behind d₀ (map flat_sheet_line ls) c.word _ n.keeps.word n.keeps.valid bare (record { place = h.place; store = h.store }) p in
      record {
        ended = ended ls (names_in c.word);
        is = ends_flat (setup o.line.frame) b ∙ rw n.is;
        stands = record { store = all.store; place = all.place; lines = e ∙ h.lines ∙ sym (length-map ls flat_sheet_line) };
      }

  -- A last word that is too wide for the block.
  pub flushes_narrow : (n : TooNarrow) (x : Result End TooNarrow) (last : WrappedBlock) → FlushesWord o (Err n) last → IsErr x → FlushesWrapping o x last
  flushes_narrow n x last w h d₀ b k = MatchResult-from_err x _ _ h (λ _. ends_flat (setup o.line.frame) b ∙ rw (w d₀ 5 b k))

module _ (body : List ℕ) (o : WrappedBlock) where
  -- The fields of a body, and then the end of the block.
  pub wraps_done : (next : WrappedBlock) (x : Result End TooNarrow) (r : WrappedBlock) → AddsFields o body (Ok tt) next → BlockStays o next
      → FlushesWrapping next x r → WrapsBody o body x r
  unfolding wrapped_up
  wraps_done next x r a stays f d₀ k read =
      let n = a d₀ 5 flat_new k read in
      rw n.is (rw stays.line.frame at (f d₀ n.block n.keeps))

  -- A field that does not fit.
  pub wraps_narrow : (n : TooNarrow) (x : Result End TooNarrow) (r : WrappedBlock) → AddsFields o body (Err n) r → IsErr x → WrapsBody o body x r
  unfolding wrapped_up
  wraps_narrow n x r a h d₀ k read = MatchResult-from_err x _ _ h (λ _. rw (a d₀ 5 flat_new k read))

-- A body from the new block on.
pub wraps_new : (body : List ℕ) (frame : Frame) (line word : TaggedLine) (text : ClosedLines) → line.items ≡ [] → word.items ≡ [] → text.place ≡ 5 → text.lines ≡ 0
    → (o : WrappedBlock) → o ≡ new frame line word text → (x : Result End TooNarrow) (r : WrappedBlock) → WrapsBody o body x r
    → WrapsUp frame body text.out.now x r.line.text.out.now
wraps_new body frame line word text l w p n o fresh x r f read =
    let g = rw fresh at f in
    g text.out.now (keeps_new frame line word text l w p n) read
