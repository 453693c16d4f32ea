-- The laws of what flushes the word first: a tab, and a break point.
-- Assumes nothing.
use mathlib.Core.Path.{◌≡◌, sym, ap, subst, ◌∙◌}
use mathlib.Core.Bool.{Bool, true, false, and-false, ◌&&◌}
use Prim.Native.Nat.{ℕ, ◌<◌}
use native.Mathlib.Omega.{arith}
use borrow.Author.Tests.{lt-ltb}
use denote.Enum.Bare.{sameb}
use lib.Dec.{ltb}
use Rattle.std.specs.Prelude.{Result, Ok}
use Rattle.characters.specs.Whitespace.{is_wordbreak_point}
use Rattle.fields.specs.Job.{Mode}
use Rattle.fields.specs.declared.job.Setup.{Setup}
use Rattle.block.specs.Result.{Result as FlatResult, good}
use Rattle.block.specs.Tag.{tag, is_pre}
use Rattle.block.specs.Flat.{Block, columns, walk, flat_flush_word, tab, break_word}
use Rattle.lines.specs.Bridge.{num}
use Rattle.hard_wrap.specs.Hold.{setup}
use Rattle.hard_wrap.specs.declared.error.TooNarrow.{TooNarrow}
use Rattle.flush_word.specs.Modes.{mode}
use Rattle.flush_word.specs.Keep.{BlockStays, NextBlock, ResultIs, FlushesWord}
use Rattle.flush_word.specs.declared.state.WrappedBlock.{WrappedBlock}
use Rattle.flush_word.specs.contracts.white_space.WhiteSpace.{the_type}
use Rattle.flush_word.specs.declared.white_space.WhiteSpace.{WhiteSpace}
use Rattle.flush_word.specs.declared.white_space.WhiteSpace.TheVariants.{Pre}
use Rattle.flush_word.proofs.Modes.{same_pre}
use Rattle.add_chars.specs.Chars.{Tabbing}
use Rattle.add_text.specs.Walks.{AddsTab, BreaksWord}

-- The tag of an annotation is that of an equal one.
pub tag_is : {n a : ℕ} (m : Mode) (a' : ℕ) → n ≡ num (tag a m) → a ≡ a' → n ≡ num (tag a' m)
tag_is m a' e f = e ∙ ap (λ (z : ℕ). num (tag z m)) f

-- The test for Pre is that of the flat block.
pub pre_is : {x y : Bool} (w : WhiteSpace) → x ≡ sameb the_type w Pre → x ≡ y → is_pre (mode w) ≡ y
pre_is w e f = sym (same_pre w) ∙ sym e ∙ f

-- A tab after the word.
pub tab_done : (o d r : WrappedBlock) (ann n : ℕ) (m : WhiteSpace) → BlockStays o d → FlushesWord o (Ok tt) d → ann < 256 → n ≡ num (tag ann (mode m))
    → Tabbing d n r → AddsTab o m ann (Ok ann) r
tab_done o d r ann n m st x a t y = λ d₀ base v k.
    let z : NextBlock (flat_flush_word (setup o.line.frame) v.block) d₀ base d = x d₀ base v.block k.keeps in
    record {
      walk = walk (tab (setup o.line.frame) (tag v.ann (mode m)) z.block) v.ann;
      is = rw z.is;
      keeps =
          record {
            keeps = rw (← st.line.frame) (y d₀ base z.block (tag v.ann (mode m)) z.keeps (tag_is (mode m) v.ann t k.ann) (omega (arith, k.ann)));
            ann = k.ann;
          };
    }

-- ---- a break point

module _ (s : Setup) (m : Mode) (c : ℕ) (b : Block) where
  no_columns : columns b.word ≡ 0 → break_word s m c b ≡ good b
  unfolding break_word
  no_columns e = rw (e, and-false (is_wordbreak_point c))

  in_pre : is_pre m ≡ true → break_word s m c b ≡ good b
  unfolding break_word
  in_pre e = rw (e, and-false (is_wordbreak_point c && ltb 0 (columns b.word)))

  no_point : is_wordbreak_point c ≡ false → break_word s m c b ≡ good b
  unfolding break_word
  no_point e = rw e

  a_break : is_wordbreak_point c ≡ true → 0 < columns b.word → is_pre m ≡ false → break_word s m c b ≡ flat_flush_word s b
  unfolding break_word
  a_break e l h = rw (e, lt-ltb 0 (columns b.word) l, h)

module _ (o : WrappedBlock) (m : WhiteSpace) (code : ℕ) where
  -- A word without columns stays.
  pub breaks_empty : o.word.cols ≡ 0 → BreaksWord o m code (Ok tt) o
  breaks_empty e = λ d₀ base b k. record { block = b; is = no_columns (setup o.line.frame) (mode m) code b (sym k.cols ∙ e); keeps = k }

  -- A word stays in Pre.
  pub breaks_pre : is_pre (mode m) ≡ true → BreaksWord o m code (Ok tt) o
  breaks_pre e = λ d₀ base b k. record { block = b; is = in_pre (setup o.line.frame) (mode m) code b e; keeps = k }

  -- A word stays before a character that is no break point.
  pub breaks_no : is_wordbreak_point code ≡ false → BreaksWord o m code (Ok tt) o
  breaks_no e = λ d₀ base b k. record { block = b; is = no_point (setup o.line.frame) (mode m) code b e; keeps = k }

  -- A word with columns is flushed before a break point.
  pub breaks_flush : (x : Result Unit TooNarrow) (r : WrappedBlock) → is_wordbreak_point code ≡ true → (o.word.cols ≡ 0 → ⊥) → is_pre (mode m) ≡ false
      → FlushesWord o x r → BreaksWord o m code x r
  breaks_flush x r e n p f = λ d₀ base b k.
      let l : 0 < columns b.word = omega (arith, n, k.cols) in
      let q = a_break (setup o.line.frame) (mode m) code b e l p in
      subst (λ (y : FlatResult Block). ResultIs y d₀ base x r) (sym q) (f d₀ base b k)
