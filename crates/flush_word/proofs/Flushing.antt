-- The laws of a word that goes on the open line, and of the blanks before a word that does not.
-- Assumes nothing.
use mathlib.Core.Path.{◌≡◌, refl, sym, ◌∙◌, subst}
use mathlib.Core.Bool.{Bool, false}
use mathlib.Core.Option.{Option, none, some}
use mathlib.Core.List.{List, [], ◌++◌}
use Prim.Native.Nat.{ℕ, ◌+◌, ◌-◌, ◌<◌, ◌≤◌}
use native.Mathlib.Omega.{arith}
use borrow.Author.Tests.{le-leb, lt-leb}
use lib.ListN.{replicate}
use Rattle.fields.specs.Job.{Mode, normal, pre, pre_wrap}
use Rattle.fields.specs.declared.job.Setup.{Setup}
use Rattle.block.specs.Tag.{Tag}
use Rattle.block.specs.Flat.{Block, columns, has_text, spaces, trim_back, with_line, with_blanks, with_wrapped, left, blanks, put_word, flat_at_wrap, drop_blanks}
use Rattle.block.specs.TrimsLeaveText.{TrimsLeaveText}
use Rattle.block.proofs.NonSpaces.{trims_put_wrapped}
use Rattle.block.proofs.Width.{columns_append, columns_spaces}
use Rattle.lines.specs.Items.{item, Entries}
use Rattle.lines.specs.Bridge.{num, enc, Valid}
use Rattle.lines.proofs.Encoded.{enc_append, enc_spaces, valid_append, valid_spaces}
use Rattle.hard_wrap.specs.Hold.{setup, Holds}
use Rattle.hard_wrap.specs.declared.line.OpenLine.{OpenLine}
use Rattle.flush_word.specs.Trims.{TrimsLine}
use Rattle.flush_word.specs.Keep.{Pends, Keeps, Dropped, KeepsPre, Drops, PutsWord}
use Rattle.flush_word.specs.declared.state.Blanks.{Blanks}
use Rattle.flush_word.specs.declared.state.Word.{Word}
use Rattle.flush_word.specs.declared.state.WrappedBlock.{WrappedBlock}

-- ---- blocks with the same lines

-- what is held are the lines
pub holds_lines : {d₀ : List ℕ} {base : ℕ} {x y : Block} {o : OpenLine} → y.line ≡ x.line → y.text ≡ x.text → Holds d₀ base x o → Holds d₀ base y o
holds_lines e f o =
    record {
      line = rw e o.line;
      valid = rw e o.valid;
      cols = rw e o.cols;
      store = rw f o.store;
      place = rw f o.place;
      lines = rw f o.lines;
    }

-- ---- a block with nothing pending

abbrev pub no_blanks : Blanks
no_blanks = record { count = 0; tag = 0 }

-- a word of nothing
pub record Cleared (w : Word) : Type 0 where
  pub items : w.entries.items ≡ []
  pub cols : w.cols ≡ 0
  pub text : w.has_text ≡ false

abbrev pub opened : OpenLine → Word → Bool → ℕ → WrappedBlock
opened o w p u = record { line = o; word = w; blanks = no_blanks; wrapped = p; used = u }

-- a line that is held, and nothing pending
pub keeps_opened : {d₀ : List ℕ} {base : ℕ} {b : Block} {o : OpenLine} {w : Word} {p : Bool} (u : ℕ) → Holds d₀ base b o → Cleared w
    → b.word ≡ [] → b.wslen ≡ 0 → b.spacetag ≡ none → b.pre_wrapped ≡ p → TrimsLeaveText b → Keeps d₀ base b (opened o w p u)
unfolding enc columns has_text
keeps_opened u o z w n t p h =
    record {
      line = o;
      word = rw w z.items;
      valid = rw w tt;
      cols = rw w z.cols;
      text = rw w z.text;
      count = sym n;
      pends = rw t refl;
      wrapped = sym p;
      trims = h;
    }

-- ---- blanks that are written

-- their bytes, their validity and their columns
blanks_enc : (p : Blanks) (n : ℕ) (o : Option Tag) → Pends p o → p.count ≡ n → replicate p.count (item 32 p.tag) ≡ enc (blanks n o)
unfolding enc
blanks_enc p n none h e = rw h
blanks_enc p n (some t) h e = rw (e, h.1) (sym (enc_spaces n t))

blanks_valid : (p : Blanks) (n : ℕ) (o : Option Tag) → Pends p o → Valid (blanks n o)
blanks_valid p n none h = tt
blanks_valid p n (some t) h = valid_spaces n t h.2

blanks_cols : (p : Blanks) (n : ℕ) (o : Option Tag) → Pends p o → p.count ≡ n → columns (blanks n o) ≡ p.count
unfolding columns
blanks_cols p n none h e = sym h
blanks_cols p n (some t) h e = columns_spaces n t ∙ sym e

-- ---- "Got enough space"

module _ (st : WrappedBlock) (p e : Entries)
    (x : p.items ≡ st.line.entries.items ++ replicate st.blanks.count (item 32 st.blanks.tag))
    (y : e.items ≡ p.items ++ st.word.entries.items) where
  -- the line with the blanks and the word
  abbrev Longer : OpenLine
  Longer = record { frame = st.line.frame; entries = e; cols = st.line.cols + (st.blanks.count + st.word.cols); text = st.line.text }

  put_holds : (d₀ : List ℕ) (base : ℕ) (b : Block) → Keeps d₀ base b st → Holds d₀ base (put_word (with_wrapped false b)) Longer
  unfolding put_word
  put_holds d₀ base b o =
      let s = blanks b.wslen b.spacetag in
      let z = blanks_enc st.blanks b.wslen b.spacetag o.pends o.count in
      let i : e.items ≡ enc b.line ++ enc s ++ enc b.word = y ∙ rw (x, o.line.line, o.word, z) in
      record {
        line = i ∙ sym (enc_append (b.line ++ s) b.word ∙ rw (enc_append b.line s));
        valid = valid_append (b.line ++ s) b.word (valid_append b.line s o.line.valid (blanks_valid st.blanks b.wslen b.spacetag o.pends)) o.valid;
        cols =
            omega (arith, o.line.cols, o.cols, columns_append (b.line ++ s) b.word, columns_append b.line s, blanks_cols st.blanks b.wslen b.spacetag o.pends o.count);
        store = o.line.store;
        place = o.line.place;
        lines = o.line.lines;
      }

  -- The word and its blanks are on the line.
  pub puts_word : (w : Word) → Cleared w → PutsWord st (opened Longer w false st.used)
  unfolding put_word
  puts_word w z = λ d₀ base b o h. keeps_opened st.used (put_holds d₀ base b o) z refl refl refl refl (trims_put_wrapped false b o.trims h)

-- ---- Pre: blanks that are carried on, or written

-- the line and the blanks are others
abbrev pub onto : WrappedBlock → OpenLine → Blanks → WrappedBlock
onto st o p = record { line = o; word = st.word; blanks = p; wrapped = st.wrapped; used = st.used }

dropped_same : {d₀ : List ℕ} {base : ℕ} {x y : Block} {r : WrappedBlock} → x ≡ y → Dropped d₀ base x r → Dropped d₀ base y r
dropped_same {d₀} {base} {x} {y} {r} e o = subst (λ (z : Block). Dropped d₀ base z r) e o

-- the test of the two
at_kept : (s : Setup) (t : Tag) (b : Block) → left s b ≤ b.wslen → flat_at_wrap s t pre b ≡ with_blanks (b.wslen - left s b) (some t) b
unfolding flat_at_wrap
at_kept s t b h = rw (le-leb (left s b) b.wslen h)

at_written : (s : Setup) (t : Tag) (b : Block) → b.wslen < left s b → flat_at_wrap s t pre b ≡ with_blanks 0 none (with_line (b.line ++ spaces b.wslen t) b)
unfolding flat_at_wrap
at_written s t b h = rw (lt-leb (left s b) b.wslen h)

module _ (st : WrappedBlock) where
  module _ (d₀ : List ℕ) (base : ℕ) (b : Block) (t : Tag) (o : Keeps d₀ base b st) (q : b.spacetag ≡ some t) where
    pends_some : Pends st.blanks (some t)
    pends_some = rw q at o.pends

    room_left : left (setup st.line.frame) b ≡ st.line.frame.width - st.line.cols
    unfolding left
    room_left = rw o.line.cols

  -- The blanks reach the line's end.
  pub pre_kept : st.line.frame.width - st.line.cols ≤ st.blanks.count
      → KeepsPre st (onto st st.line (record { count = st.blanks.count - (st.line.frame.width - st.line.cols); tag = st.blanks.tag }))
  pre_kept h = λ d₀ base b t o q.
      let m = room_left d₀ base b t o q in
      let n = pends_some d₀ base b t o q in
      let k : left (setup st.line.frame) b ≤ b.wslen = omega (arith, m, o.count) in
      dropped_same (sym (at_kept (setup st.line.frame) t b k))
      (record {
        line = holds_lines refl refl o.line;
        left = (omega (arith, m, o.count), n.1, n.2);
      })

  -- The blanks are written.
  pub pre_written : (e : Entries) → e.items ≡ st.line.entries.items ++ replicate st.blanks.count (item 32 st.blanks.tag)
      → st.blanks.count < st.line.frame.width - st.line.cols
      → KeepsPre st (onto st (record { frame = st.line.frame; entries = e; cols = st.line.cols + st.blanks.count; text = st.line.text }) no_blanks)
  pre_written e i h = λ d₀ base b t o q.
      let m = room_left d₀ base b t o q in
      let n = pends_some d₀ base b t o q in
      let k : b.wslen < left (setup st.line.frame) b = omega (arith, m, o.count) in
      let s = spaces b.wslen t in
      let x = blanks_enc st.blanks b.wslen (some t) n o.count in
      dropped_same (sym (at_written (setup st.line.frame) t b k))
      (record {
        line =
            record {
              line = i ∙ rw (o.line.line, x) (sym (enc_append b.line s));
              valid = valid_append b.line s o.line.valid (valid_spaces b.wslen t n.2);
              cols = omega (arith, o.line.cols, columns_append b.line s, columns_spaces b.wslen t, o.count);
              store = o.line.store;
              place = o.line.place;
              lines = o.line.lines;
            };
        left = (refl, refl, refl);
      })

-- ---- the blanks, by the last one's mode

drops_at : (s : Setup) (b : Block) (t : Tag) (m : Mode) → b.spacetag ≡ some t → m ≡ t.mode → flat_at_wrap s t m b ≡ drop_blanks s b.spacetag b
unfolding drop_blanks
drops_at s b t m e f = sym (rw (e, f))

drops_none : (s : Setup) (b : Block) → b.spacetag ≡ none → b ≡ drop_blanks s b.spacetag b
unfolding drop_blanks
drops_none s b e = sym (rw e)

module _ (st : WrappedBlock) where
  no_tag : (x : Option Tag) → Pends st.blanks x → st.blanks.count ≡ 0 → x ≡ none
  no_tag none h e = refl
  no_tag (some t) h e = absurd (omega (arith, h.0))

  -- There are no blanks.
  pub drop_nothing : st.blanks.count ≡ 0 → Drops st (onto st st.line no_blanks)
  drop_nothing e = λ d₀ base b o.
      let q = no_tag b.spacetag o.pends e in
      dropped_same (drops_none (setup st.line.frame) b q) (record { line = o.line; left = rw q (refl, refl, sym o.count ∙ e) })

  module _ (some_blanks : st.blanks.count ≡ 0 → ⊥) (m : Mode) (g : (t : Tag) → st.blanks.tag ≡ num t → t.ann < 256 → m ≡ t.mode) where
    -- what becomes of the last one's tag becomes of the blanks
    drops_mode : (r : WrappedBlock) → ((d₀ : List ℕ) (base : ℕ) (b : Block) (t : Tag) → Keeps d₀ base b st → b.spacetag ≡ some t → Dropped d₀ base (flat_at_wrap (setup st.line.frame) t m b) r)
        → Drops st r
    drops_mode r f = λ d₀ base b o. go d₀ base b o b.spacetag refl o.pends
      where
        go : (d₀ : List ℕ) (base : ℕ) (b : Block) → Keeps d₀ base b st → (x : Option Tag) → b.spacetag ≡ x → Pends st.blanks x → Dropped d₀ base (drop_blanks (setup st.line.frame) b.spacetag b) r
        go d₀ base b o none e h = absurd (some_blanks h)
        go d₀ base b o (some t) e h = dropped_same (drops_at (setup st.line.frame) b t m e (g t h.1 h.2)) (f d₀ base b t o e)

  -- Normal
  pub drop_normal : (st.blanks.count ≡ 0 → ⊥) → ((t : Tag) → st.blanks.tag ≡ num t → t.ann < 256 → normal ≡ t.mode) → Drops st (onto st st.line no_blanks)
  unfolding flat_at_wrap
  drop_normal n g =
      drops_mode n normal g (onto st st.line no_blanks)
      (λ d₀ base b t o q. record { line = holds_lines {x = b} refl refl o.line; left = (refl, refl, refl) })

  -- Pre
  pub drop_pre : (r : WrappedBlock) → (st.blanks.count ≡ 0 → ⊥) → ((t : Tag) → st.blanks.tag ≡ num t → t.ann < 256 → pre ≡ t.mode) → KeepsPre st r → Drops st r
  drop_pre r n g k = drops_mode n pre g r k

  -- PreWrap
  pub drop_wrap : (o : OpenLine) → (st.blanks.count ≡ 0 → ⊥) → ((t : Tag) → st.blanks.tag ≡ num t → t.ann < 256 → pre_wrap ≡ t.mode) → TrimsLine st.line o
      → Drops st (onto st o no_blanks)
  unfolding flat_at_wrap
  drop_wrap r n g k =
      drops_mode n pre_wrap g (onto st r no_blanks)
      (λ d₀ base b t o q. record { line = holds_lines {x = with_line (trim_back b.line) b} refl refl (k d₀ base b o.line); left = (refl, refl, refl) })
