-- The laws of a word that does not fit: the line is closed, what is left of the blanks is written, and the word is hard-wrapped.
-- Assumes nothing.
use mathlib.Core.Path.{◌≡◌, refl, sym, ap, ◌∙◌, subst}
use mathlib.Core.Bool.{Bool, true, false}
use mathlib.Core.Option.{Option, none, some}
use mathlib.Core.List.{List, [], ◌∷◌}
use Prim.Native.Nat.{ℕ, zero, suc, ◌+◌, ◌-◌, ◌<◌, ◌≤◌}
use native.Mathlib.Omega.{arith}
use borrow.Author.Tests.{le-leb, lt-leb}
use lib.Dec.{leb}
use lib.ListN.{drop}
use Rattle.std.specs.Prelude.{Result, Ok, Err}
use Rattle.characters.specs.Whitespace.{is_whitespace}
use Rattle.characters.proofs.Tests.{by_if}
use Rattle.fields.specs.Job.{Mode, normal, pre, pre_wrap}
use Rattle.fields.specs.declared.job.Setup.{Setup}
use Rattle.block.specs.Tag.{Tag, tag}
use Rattle.block.specs.Result.{Result as FlatResult, good, too_narrow, OnGood}
use Rattle.block.specs.Flat.{Line, char, name, Block, columns, has_text, trim_front, with_word, with_wrapped, left, on_line, flat_force_flush_line, flat_flush_line, flat_flush_word_hard_wrap, put_word, flat_at_wrap, drop_blanks, write_blank, write_blanks, starts_pre, carry_on, wrap_word, flat_flush_word}
use Rattle.block.specs.TrimsLeaveText.{TrimsLeaveText}
use Rattle.block.proofs.NonSpaces.{texted, trims_drop, trims_wrap}
use Rattle.lines.specs.Bridge.{num, enc, Valid}
use Rattle.lines.proofs.Kept.{Kept, hard_keeps}
use Rattle.hard_wrap.specs.Hold.{setup, Holds, Stays, Worded, WordIs, Wraps}
use Rattle.hard_wrap.specs.Steps.{Flushes, Writes}
use Rattle.hard_wrap.specs.declared.error.TooNarrow.{TooNarrow}
use Rattle.hard_wrap.specs.declared.line.OpenLine.{OpenLine}
use Rattle.flush_word.specs.Keep.{Keeps, BlockStays, BlanksLeft, Drops, Opened, OpensLine, StartsAt, StartsPre, PutsWord, NextBlock, ResultIs, WrapsWord, FlushesWord}
use Rattle.flush_word.specs.declared.state.Blanks.{Blanks}
use Rattle.flush_word.specs.declared.state.Word.{Word}
use Rattle.flush_word.specs.declared.state.WrappedBlock.{WrappedBlock}
use Rattle.flush_word.proofs.Flushing.{holds_lines, Cleared, opened, keeps_opened}

-- ---- what stays where a line is closed and blanks are written

-- a block keeps what it has
pub kept_self : {b : Block} → Kept b b
kept_self = record { spacetag = refl; word = refl; wslen = refl; pre_wrapped = refl }

kept_flush : (s : Setup) (b : Block) → Kept b (flat_flush_line s b)
unfolding flat_flush_line flat_force_flush_line
kept_flush s b =
    by_if (Kept b) (has_text b.line) (λ _. record { spacetag = refl; word = refl; wslen = refl; pre_wrapped = refl })
    (λ _. kept_self)

-- the word and the flag
abbrev Stay : Block → Block → Type 0
Stay a b = (b.word ≡ a.word) × (b.pre_wrapped ≡ a.pre_wrapped)

stay_blank : (s : Setup) (t : Tag) (b : Block) → Stay b (write_blank s t b)
unfolding write_blank flat_flush_line flat_force_flush_line
stay_blank s t b =
    by_if (Stay b) (leb s.width (columns (on_line 0x20 t b).line))
    (λ _. by_if (Stay b) (has_text (on_line 0x20 t b).line) (λ _. (refl, refl)) (λ _. (refl, refl))) (λ _. (refl, refl))

stay_blanks : (s : Setup) (n : ℕ) (o : Option Tag) (b : Block) → Stay b (write_blanks s n o b)
unfolding write_blanks
stay_blanks s n none b = (refl, refl)
stay_blanks s zero (some t) b = (refl, refl)
stay_blanks s (suc n) (some t) b =
    let x = stay_blank s t b in
    let y = stay_blanks s n (some t) (write_blank s t b) in
    (y.0 ∙ x.0, y.1 ∙ x.1)

stay_carry : (s : Setup) (b : Block) → Stay b (carry_on s b)
unfolding carry_on
stay_carry s b = stay_blanks s b.wslen b.spacetag b

-- ---- a new line, and the blanks that are carried on

number_none : 0 ≡ num (tag 0 normal)
unfolding num
number_none = refl

blanks_none : (s : Setup) (n : ℕ) (t : Tag) (b : Block) → n ≡ 0 → write_blanks s n (some t) b ≡ b
unfolding write_blanks
blanks_none s n t b e = rw e

module _ (d₀ : List ℕ) (base : ℕ) (o r : OpenLine) (p : Blanks) (w : Writes o p.count p.tag r) (b : Block) (h : Holds d₀ base b o) where
  written : (x : Option Tag) (n : ℕ) → BlanksLeft p n x → Holds d₀ base (write_blanks (setup o.frame) n x b) r
  unfolding write_blanks
  written none n l =
      let t = tag 0 normal in
      rw (blanks_none (setup o.frame) p.count t b l.0) at (w d₀ base b t h (l.1 ∙ number_none) (omega arith))
  written (some t) n l = rw l.0 at (w d₀ base b t h l.1 l.2)

  carried : BlanksLeft p b.wslen b.spacetag → Holds d₀ base (carry_on (setup o.frame) b) r
  unfolding carry_on
  carried l = holds_lines {x = write_blanks (setup o.frame) b.wslen b.spacetag b} refl refl (written b.spacetag b.wslen l)

-- The line that a word is wrapped onto.
pub opens : (st kept : WrappedBlock) (line r : OpenLine) → Stays st.line kept.line → Stays kept.line line
    → Drops st kept → Flushes kept.line line → Writes line kept.blanks.count kept.blanks.tag r
    → (d₀ : List ℕ) (base : ℕ) (b : Block) (p : Bool) → Keeps d₀ base b st
    → Holds d₀ base (carry_on (setup st.line.frame) (with_wrapped p (flat_flush_line (setup st.line.frame) (drop_blanks (setup st.line.frame) b.spacetag b)))) r
opens st kept line r j i d f w d₀ base b p o =
    let s = setup st.line.frame in
    let x = drop_blanks s b.spacetag b in
    let k = kept_flush s x in
    let y = d d₀ base b o in
    let l : BlanksLeft kept.blanks (flat_flush_line s x).wslen (flat_flush_line s x).spacetag = rw (k.wslen, k.spacetag) y.left in
    let z : Holds d₀ base (flat_flush_line s x) line = rw j.frame at (f d₀ base x y.line (texted x.line (trims_drop s b o.trims))) in
    let q : Holds d₀ base (with_wrapped p (flat_flush_line s x)) line = holds_lines {x = flat_flush_line s x} refl refl z in
    rw (i.frame, j.frame) at (carried d₀ base line r kept.blanks w (with_wrapped p (flat_flush_line s x)) q l)

-- ---- the word

valid_front : (l : Line) → Valid l → Valid (trim_front l)
unfolding trim_front
valid_front [] v = tt
valid_front (char c t ∷ l) (x, h, v) = by_if Valid (is_whitespace c) (λ _. valid_front l v) (λ _. (x, h, v))
valid_front (name n ∷ l) v = v

valid_at : (s : Setup) (t : Tag) (m : Mode) (b : Block) → Valid b.word → Valid (flat_at_wrap s t m b).word
unfolding flat_at_wrap
valid_at s t normal b v = v
valid_at s t pre b v = by_if (λ (x : Block). Valid x.word) (leb (left s b) b.wslen) (λ _. v) (λ _. v)
valid_at s t pre_wrap b v = valid_front b.word v

valid_drop : (s : Setup) (o : Option Tag) (b : Block) → Valid b.word → Valid (drop_blanks s o b).word
unfolding drop_blanks
valid_drop s none b v = v
valid_drop s (some t) b v = valid_at s t t.mode b v

module _ (st : WrappedBlock) (k : ℕ) (next : WrappedBlock)
    (from : StartsAt st.blanks st.word.entries.items k)
    (line : OpensLine st next) (stays : BlockStays st next) (n : Opened st next) where
  module _ (x : Result Unit TooNarrow) (last : OpenLine) (wrap : Wraps next.line (drop k next.word.entries.items) x last)
      (d₀ : List ℕ) (base : ℕ) (b : Block) (o : Keeps d₀ base b st) where
    -- the block that the word is wrapped onto
    Onto : Block
    Onto = carry_on (setup st.line.frame) (with_wrapped (starts_pre b.word) (flat_flush_line (setup st.line.frame) (drop_blanks (setup st.line.frame) b.spacetag b)))

    onto_word : Onto.word ≡ (drop_blanks (setup st.line.frame) b.spacetag b).word
    unfolding Onto
    onto_word = (stay_carry (setup st.line.frame) _).0 ∙ (kept_flush (setup st.line.frame) (drop_blanks (setup st.line.frame) b.spacetag b)).word

    word_is : WordIs (wrap_word (setup st.line.frame) b) d₀ base x last
    unfolding wrap_word flat_flush_word_hard_wrap Onto
    word_is =
        let e = from (setup st.line.frame) b o.pends o.valid o.word in
        let f : drop k next.word.entries.items ≡ drop k st.word.entries.items = ap (λ (w : Word). drop k w.entries.items) n.word in
        rw stays.line.frame at
        (wrap d₀ base (with_word [] Onto) Onto.word (holds_lines {x = Onto} refl refl (line d₀ base b (starts_pre b.word) o))
        (rw onto_word (valid_drop (setup st.line.frame) b.spacetag b o.valid))
        (f ∙ e ∙ ap enc (sym onto_word)))

  -- TooNarrow
  pub wrap_narrow : (e : TooNarrow) (last : OpenLine) → Wraps next.line (drop k next.word.entries.items) (Err e) last
      → (d₀ : List ℕ) (base : ℕ) (b : Block) → Keeps d₀ base b st → wrap_word (setup st.line.frame) b ≡ too_narrow
  wrap_narrow e last w d₀ base b o = word_is (Err e) last w d₀ base b o

  -- The word is on lines.
  pub wrap_done : (last : OpenLine) → Wraps next.line (drop k next.word.entries.items) (Ok tt) last
      → (w : Word) → Cleared w → (p : Bool) (u : ℕ) → StartsPre st.word.entries.items p
      → (d₀ : List ℕ) (base : ℕ) (b : Block) → Keeps d₀ base b st → NextBlock (wrap_word (setup st.line.frame) b) d₀ base (opened last w p u)
  unfolding wrap_word flat_flush_word_hard_wrap carry_on Onto
  wrap_done last wrap w c p u f d₀ base b o =
      let x : Worded (wrap_word (setup st.line.frame) b) d₀ base last = word_is (Ok tt) last wrap d₀ base b o in
      let onto : Block = Onto (Ok tt) last wrap d₀ base b o in
      let k = hard_keeps (setup st.line.frame) onto.word none (with_word [] onto) x.next x.is in
      let e : p ≡ starts_pre b.word = f b.word o.valid o.word in
      record {
        block = x.next;
        is = x.is;
        keeps =
            keeps_opened u x.holds c k.word k.wslen k.spacetag (k.pre_wrapped ∙ (stay_carry (setup st.line.frame) _).1 ∙ sym e)
            (subst (OnGood TrimsLeaveText) x.is (trims_wrap (setup st.line.frame) b o.trims));
      }

-- ---- the three cases

flush_nothing : (s : Setup) (b : Block) → has_text b.word ≡ false → flat_flush_word s b ≡ good b
unfolding flat_flush_word
flush_nothing s b e = rw e

flush_fits : (s : Setup) (b : Block) → has_text b.word ≡ true → b.wslen + columns b.word ≤ left s b → flat_flush_word s b ≡ good (put_word (with_wrapped false b))
unfolding flat_flush_word
flush_fits s b e h = rw (e, le-leb (b.wslen + columns b.word) (left s b) h)

flush_wraps : (s : Setup) (b : Block) → has_text b.word ≡ true → left s b < b.wslen + columns b.word → wrap_word s b ≡ flat_flush_word s b
unfolding flat_flush_word
flush_wraps s b e h = sym (rw (e, lt-leb (b.wslen + columns b.word) (left s b) h))

module _ (st : WrappedBlock) where
  -- no text
  pub flushes_nothing : st.word.has_text ≡ false → FlushesWord st (Ok tt) st
  flushes_nothing e = λ d₀ base b o. record { block = b; is = flush_nothing (setup st.line.frame) b (sym o.text ∙ e); keeps = o }

  module _ (r : WrappedBlock) where
    -- "Got enough space"
    pub flushes_fits : st.word.has_text ≡ true → st.blanks.count + st.word.cols ≤ st.line.frame.width - st.line.cols → PutsWord st r → FlushesWord st (Ok tt) r
    unfolding left
    flushes_fits e h k = λ d₀ base b o.
        record {
          block = put_word (with_wrapped false b);
          is = flush_fits (setup st.line.frame) b (sym o.text ∙ e) (omega (arith, h, o.count, o.cols, o.line.cols));
          keeps = k d₀ base b o (sym o.text ∙ e);
        }

    -- "Not enough space"
    pub flushes_wraps : (x : Result Unit TooNarrow) → st.word.has_text ≡ true → st.line.frame.width - st.line.cols < st.blanks.count + st.word.cols → WrapsWord st x r → FlushesWord st x r
    unfolding left
    flushes_wraps x e h k = λ d₀ base b o.
        subst (λ (y : FlatResult Block). ResultIs y d₀ base x r)
        (flush_wraps (setup st.line.frame) b (sym o.text ∙ e) (omega (arith, h, o.count, o.cols, o.line.cols)))
        (k d₀ base b o (sym o.text ∙ e))
