-- A character of a word and a blank that is kept, over the walk: its columns, and what is kept of the flat walk.
-- Assumes nothing.
use mathlib.Core.Path.{◌≡◌, refl, sym, ap, subst, ◌∙◌}
use mathlib.Core.Bool.{true, false, ◌&&◌, and-false}
use mathlib.Core.Logic.{◌⊎◌, ⊎_elim}
use mathlib.Core.Option.{Option, none, some}
use mathlib.Core.List.{List}
use Prim.Native.Nat.{ℕ, ◌+◌, ◌<◌, ◌≤◌}
use native.Mathlib.Omega.{arith}
use borrow.Author.Tests.{lt-ltb, le-ltb}
use lib.Dec.{ltb}
use lib.ListN.{length}
use Rattle.characters.specs.Columns.{columns_of, width_of, width_in}
use Rattle.characters.specs.Utf8.{utf8}
use Rattle.characters.specs.declared.columns.Columns.{Columns}
use Rattle.characters.specs.declared.columns.Columns.TheVariants.{Control, Cols, OffList}
use Rattle.characters.proofs.Tables.{cols_in}
use Rattle.fields.specs.Job.{Mode}
use Rattle.fields.specs.declared.job.Setup.{Setup}
use Rattle.block.specs.Tag.{tag, is_pre}
use Rattle.block.specs.Flat.{Block, Walk, columns, flat_push_char, with_word, with_wrapped, walk, keep_blank, add_word_char}
use Rattle.block.proofs.NonSpaces.{TrimsLeaveTextWalk, trims_wrapped, trims_word_char}
use Rattle.lines.specs.Bridge.{num}
use Rattle.hard_wrap.specs.Hold.{setup}
use Rattle.flush_word.specs.Modes.{mode}
use Rattle.flush_word.specs.Keep.{Keeps}
use Rattle.flush_word.specs.declared.state.WrappedBlock.{WrappedBlock}
use Rattle.flush_word.specs.declared.white_space.WhiteSpace.{WhiteSpace}
use Rattle.flush_word.proofs.Flushing.{holds_lines}
use Rattle.add_chars.specs.Chars.{AmongUnits, PushesWord, KeepsBlank}
use Rattle.add_text.specs.Walks.{Ready, CharIs, WalkKeeps, AddsKept, AddsWordChar}
use Rattle.add_text.specs.declared.text.Run.{Run}
use Rattle.add_text.proofs.Breaking.{tag_is}
use Rattle.add_chars.proofs.Wording.{cols_bytes, white_positive}

-- ---- columns

-- The column count of a character is what the table says.
width_in_lem : {k x : Columns} (c : ℕ) → k ≡ columns_of c → k ≡ x → width_of c ≡ width_in x
unfolding width_of
width_in_lem c e f = ap width_in (sym e ∙ f)

-- A character of so many columns has that count.
pub width_some : {k : Columns} (c n cols : ℕ) → k ≡ columns_of c → k ≡ Cols n → cols ≡ n → width_of c ≡ some cols
width_some c n cols e f g = width_in_lem c e f ∙ ap some (sym g)

-- A control, and a code point off the list, has no count.
pub width_none : {k : Columns} (c : ℕ) → k ≡ columns_of c → (k ≡ Control) ⊎ (k ≡ OffList) → width_of c ≡ none
width_none c e f = ⊎_elim (λ g. width_in_lem c e g) (λ g. width_in_lem c e g) f

-- The columns of a character are among its bytes.
pub fits_cols : {k : Columns} {o : WrappedBlock} {a : ℕ} (part : List ℕ) (c n cols : ℕ) → CharIs part c → Ready o a (length part)
    → k ≡ columns_of c → k ≡ Cols n → cols ≡ n → AmongUnits o (length part) cols
fits_cols part c n cols h r e f g =
    let is = cols_in c (Cols n) (sym e ∙ f) in
    let b : length part ≡ length (utf8 c) = ap length h.bytes in
    record {
      some = r.some;
      bytes = omega (arith, cols_bytes c h.scalar);
      units = r.units;
    }

-- ---- what is kept

-- the same is kept of an equal walk
walk_same : {d₀ : List ℕ} {base : ℕ} {x y : Walk} {o : WrappedBlock} {a : ℕ} → x ≡ y → WalkKeeps d₀ base x o a → WalkKeeps d₀ base y o a
walk_same {d₀} {base} {x} {y} {o} {a} e h = subst (λ (v : Walk). WalkKeeps d₀ base v o a) e h

-- `pre_wrapped` set
abbrev pub wrapped_on : WrappedBlock → WrappedBlock
wrapped_on o = record { line = o.line; word = o.word; blanks = o.blanks; wrapped = true; used = o.used }

-- `pre_wrapped` set in both
keeps_wrapped : {d₀ : List ℕ} {base : ℕ} {b : Block} {o : WrappedBlock} → Keeps d₀ base b o → Keeps d₀ base (with_wrapped true b) (wrapped_on o)
keeps_wrapped {b = b} h =
    record {
      line = holds_lines {x = b} refl refl h.line;
      word = h.word;
      valid = h.valid;
      cols = h.cols;
      text = h.text;
      count = h.count;
      pends = h.pends;
      wrapped = refl;
      trims = trims_wrapped true b h.trims;
    }

-- ---- a character of a word

-- the columns of line, blanks and word with a character of n columns
abbrev pub far : Walk → ℕ → ℕ
far v n = columns v.block.line + v.block.wslen + (columns v.block.word + n)

-- the same, by the code
abbrev pub reach : WrappedBlock → ℕ → ℕ
reach o n = o.line.cols + o.blanks.count + (o.word.cols + n)

module _ (s : Setup) (m : Mode) (wrap c n : ℕ) (v : Walk) where
  pub word_char_on : (is_pre m && ltb s.width (far v n)) ≡ false
      → add_word_char s m wrap c (some n) v ≡ walk (with_word (flat_push_char v.block.word c (tag v.ann m)) v.block) v.ann
  unfolding add_word_char
  word_char_on e = rw e

  pub word_char_wraps : is_pre m ≡ true → s.width < far v n
      → add_word_char s m wrap c (some n) v ≡ walk (with_word (flat_push_char v.block.word c (tag wrap m)) (with_wrapped true v.block)) wrap
  unfolding add_word_char
  word_char_wraps p h = rw (p, lt-ltb s.width (far v n) h)

module _ (o : WrappedBlock) (run : Run) (a : ℕ) (part : List ℕ) (c n t : ℕ) (r : WrappedBlock) (is : CharIs part c) (f : PushesWord o part n t r) where
  -- A character of a word goes after the others.
  pub word_char_adds : a < 256 → t ≡ num (tag a (mode run.mode)) → (is_pre (mode run.mode) ≡ false) ⊎ (reach o n ≤ o.line.frame.width)
      → AddsWordChar o run a c (some n) a r
  word_char_adds b ta stays = λ d₀ base v k e sp.
      let h = k.keeps in
      let i = h.line.cols in
      let s = setup o.line.frame in
      let m = mode run.mode in
      let q = word_char_on s m run.wrap c n v
      (⊎_elim (λ no. rw no) (λ le. rw (le-ltb s.width (far v n) (omega (arith, h.count, h.cols)), and-false (is_pre m))) stays) in
      let trims : TrimsLeaveTextWalk (walk (with_word (flat_push_char v.block.word c (tag v.ann m)) v.block) v.ann)
      = subst TrimsLeaveTextWalk q (trims_word_char s m run.wrap c (some n) v sp h.trims) in
      walk_same (sym q)
      (record {
        keeps = f d₀ base v.block c (tag v.ann m) h is.scalar is.bytes e (tag_is m v.ann ta k.ann) (omega (arith, k.ann)) trims.word;
        ann = k.ann;
      })

  -- Past the width, in Pre, a character takes the continued annotation.
  pub word_char_wrapped : run.wrap < 256 → t ≡ num (tag run.wrap (mode run.mode)) → is_pre (mode run.mode) ≡ true → o.line.frame.width < reach o n
      → AddsWordChar o run a c (some n) run.wrap (wrapped_on r)
  word_char_wrapped b ta p past = λ d₀ base v k e sp.
      let h = k.keeps in
      let i = h.line.cols in
      let s = setup o.line.frame in
      let m = mode run.mode in
      let q = word_char_wraps s m run.wrap c n v p (omega (arith, h.count, h.cols)) in
      let trims : TrimsLeaveTextWalk (walk (with_word (flat_push_char v.block.word c (tag run.wrap m)) (with_wrapped true v.block)) run.wrap)
      = subst TrimsLeaveTextWalk q (trims_word_char s m run.wrap c (some n) v sp h.trims) in
      walk_same (sym q)
      (record { keeps = keeps_wrapped (f d₀ base v.block c (tag run.wrap m) h is.scalar is.bytes e ta b trims.word); ann = refl })

-- A character with a column count is one of so many columns.
pub word_char_some : (o : WrappedBlock) (run : Run) (a a' c n : ℕ) (r : WrappedBlock) → width_of c ≡ some n
    → AddsWordChar o run a c (some n) a' r → AddsWordChar o run a c (width_of c) a' r
word_char_some o run a a' c n r e f = λ d₀ base v k same sp.
    walk_same (ap (λ (x : Option ℕ). add_word_char (setup o.line.frame) (mode run.mode) run.wrap c x v) (sym e)) (f d₀ base v k e sp)

add_word_char_none : (s : Setup) (m : Mode) (wrap c : ℕ) (v : Walk) → width_of c ≡ none → v ≡ add_word_char s m wrap c (width_of c) v
unfolding add_word_char
add_word_char_none s m wrap c v e = rw e

-- A character without a column count is dropped.
pub word_char_none : (o : WrappedBlock) (run : Run) (a c : ℕ) → width_of c ≡ none → AddsWordChar o run a c (width_of c) a o
word_char_none o run a c e = λ d₀ base v k same sp. walk_same (add_word_char_none (setup o.line.frame) (mode run.mode) run.wrap c v e) k

-- ---- a blank that is kept

-- A blank that is kept, with a column count.
pub kept_some : (o : WrappedBlock) (w : WhiteSpace) (a : ℕ) (part : List ℕ) (c n t : ℕ) (r : WrappedBlock) → CharIs part c → a < 256
    → t ≡ num (tag a (mode w)) → width_of c ≡ some n → KeepsBlank o part n t r → AddsKept o w a c r
kept_some o w a part c n t r is b ta e f = λ d₀ base v k sp.
    rw e
    (record {
      keeps = f d₀ base v.block c (tag v.ann (mode w)) k.keeps is.scalar is.bytes e (white_positive c n sp e) (tag_is (mode w) v.ann ta k.ann) (omega (arith, k.ann));
      ann = k.ann;
    })

keep_blank_none : (c a : ℕ) (m : Mode) (b : Block) → width_of c ≡ none → b ≡ keep_blank (width_of c) c (tag a m) b
unfolding keep_blank
keep_blank_none c a m b e = rw e

-- A blank without a column count is dropped.
pub kept_none : (o : WrappedBlock) (w : WhiteSpace) (a c : ℕ) → width_of c ≡ none → AddsKept o w a c o
kept_none o w a c e = λ d₀ base v k sp. walk_same (ap (λ (b : Block). walk b v.ann) (keep_blank_none c v.ann (mode w) v.block e)) k
