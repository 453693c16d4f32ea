-- The walk over a text's characters: the block with the annotation in use, and what each function does to it.
-- Assumes nothing: these are definitions.
use Rattle.std.specs.Prelude.{◌≡◌, true, false, List, ℕ, ◌+◌, ◌<◌, ◌≤◌, Result, IfOk, MatchResult}
use Rattle.std.proofs.Math.Option.{Option, some}
use Rattle.characters.specs.Columns.{width_of}
use Rattle.characters.specs.Whitespace.{always_takes_space}
use Rattle.characters.specs.Utf8.{utf8, Scalar, chars}
use Rattle.block.specs.Result.{Result as FlatResult, good, too_narrow, ◌>>=◌}
use Rattle.block.specs.Flat.{Block, Walk, walk, flat_flush_word, newline, tab, keep_blank, add_blank, add_word_char, flat_add_char, break_word, step, flat_add_text}
use Rattle.block.specs.Tag.{tag}
use Rattle.hard_wrap.specs.Hold.{setup}
use Rattle.hard_wrap.specs.declared.error.TooNarrow.{TooNarrow}
use Rattle.flush_word.specs.Modes.{mode}
use Rattle.flush_word.specs.Keep.{Keeps, CountsWithinUnits, BuffersLongEnough, ResultIs}
use Rattle.flush_word.specs.declared.state.WrappedBlock.{WrappedBlock}
use Rattle.flush_word.specs.declared.white_space.WhiteSpace.{WhiteSpace}
use Rattle.add_text.specs.declared.text.Run.{Run}

-- ---- numbers

-- the annotations of a T field are in range
pub record RunSmall (run : Run) : Type 0 where
  pub main : run.main < 256
  pub wrap : run.wrap < 256

-- the block and the annotation before a character of m bytes
pub record Ready (o : WrappedBlock) (a m : ℕ) : Type 0 where
  pub small : CountsWithinUnits o
  pub buffers : BuffersLongEnough o
  pub ann : a < 256
  pub some : 0 < m
  pub units : o.used + m ≤ 4096

-- and after it
pub record WalkedSmall (r : WrappedBlock) (a most : ℕ) : Type 0 where
  pub small : CountsWithinUnits r
  pub ann : a < 256
  pub used : r.used ≤ most

abbrev pub WalkSmall : ℕ → Result ℕ TooNarrow → WrappedBlock → Type 0
WalkSmall most x r = IfOk x (λ ann. WalkedSmall r ann most)

-- the code point is that of the bytes
pub record CharIs (part : List ℕ) (code : ℕ) : Type 0 where
  pub scalar : Scalar code
  pub bytes : part ≡ utf8 code

-- ---- what is held

pub record WalkKeeps (d₀ : List ℕ) (base : ℕ) (v : Walk) (o : WrappedBlock) (a : ℕ) : Type 0 where
  pub keeps : Keeps d₀ base v.block o
  pub ann : a ≡ v.ann

-- a result of the flat walk
pub record NextWalk (to : FlatResult Walk) (d₀ : List ℕ) (base : ℕ) (r : WrappedBlock) (a : ℕ) : Type 0 where
  pub walk : Walk
  pub is : to ≡ good walk
  pub keeps : WalkKeeps d₀ base walk r a

abbrev pub WalkIs : FlatResult Walk → List ℕ → ℕ → Result ℕ TooNarrow → WrappedBlock → Type 0
WalkIs to d₀ base x r = MatchResult x (λ ann. NextWalk to d₀ base r ann) (λ _. to ≡ too_narrow)

-- ---- steps

-- LF after the word
abbrev pub AddsNewline : WrappedBlock → Run → Result ℕ TooNarrow → WrappedBlock → Type 0
AddsNewline o run x r =
    (d₀ : List ℕ) (base : ℕ) (b : Block) → Keeps d₀ base b o
    → WalkIs (flat_flush_word (setup o.line.frame) b >>= λ d. good (walk (newline (setup o.line.frame) d) run.main)) d₀ base x r

-- a tab after the word
abbrev pub AddsTab : WrappedBlock → WhiteSpace → ℕ → Result ℕ TooNarrow → WrappedBlock → Type 0
AddsTab o m ann x r =
    (d₀ : List ℕ) (base : ℕ) (v : Walk) → WalkKeeps d₀ base v o ann
    → WalkIs (flat_flush_word (setup o.line.frame) v.block >>= λ d. good (walk (tab (setup o.line.frame) (tag v.ann (mode m)) d) v.ann)) d₀ base x r

-- a blank that is kept
abbrev pub AddsKept : WrappedBlock → WhiteSpace → ℕ → ℕ → WrappedBlock → Type 0
AddsKept o m ann code r =
    (d₀ : List ℕ) (base : ℕ) (v : Walk) → WalkKeeps d₀ base v o ann → always_takes_space code ≡ false
    → WalkKeeps d₀ base (walk (keep_blank (width_of code) code (tag v.ann (mode m)) v.block) v.ann) r ann

-- a character of a word, of so many columns if it has any count
abbrev pub AddsWordChar : WrappedBlock → Run → ℕ → ℕ → Option ℕ → ℕ → WrappedBlock → Type 0
AddsWordChar o run ann code n ann' r =
    (d₀ : List ℕ) (base : ℕ) (v : Walk) → WalkKeeps d₀ base v o ann → width_of code ≡ n → always_takes_space code ≡ true
    → WalkKeeps d₀ base (add_word_char (setup o.line.frame) (mode run.mode) run.wrap code n v) r ann'

-- a break point
abbrev pub BreaksWord : WrappedBlock → WhiteSpace → ℕ → Result Unit TooNarrow → WrappedBlock → Type 0
BreaksWord o m code x r =
    (d₀ : List ℕ) (base : ℕ) (b : Block) → Keeps d₀ base b o → ResultIs (break_word (setup o.line.frame) (mode m) code b) d₀ base x r

-- white space
abbrev pub AddsBlank : WrappedBlock → Run → ℕ → ℕ → Result ℕ TooNarrow → WrappedBlock → Type 0
AddsBlank o run ann code x r =
    (d₀ : List ℕ) (base : ℕ) (v : Walk) → WalkKeeps d₀ base v o ann → always_takes_space code ≡ false
    → WalkIs (add_blank (setup o.line.frame) (mode run.mode) run.main code v) d₀ base x r

-- the character itself
abbrev pub PutsChar : WrappedBlock → Run → ℕ → ℕ → Result ℕ TooNarrow → WrappedBlock → Type 0
PutsChar o run ann code x r =
    (d₀ : List ℕ) (base : ℕ) (v : Walk) → WalkKeeps d₀ base v o ann
    → WalkIs (flat_add_char (setup o.line.frame) (mode run.mode) run.main run.wrap code v) d₀ base x r

-- one character of the walk
abbrev pub AddsChar : WrappedBlock → Run → ℕ → ℕ → Result ℕ TooNarrow → WrappedBlock → Type 0
AddsChar o run ann code x r =
    (d₀ : List ℕ) (base : ℕ) (v : Walk) → WalkKeeps d₀ base v o ann
    → WalkIs (step (setup o.line.frame) (mode run.mode) run.main run.wrap code v) d₀ base x r

-- ---- a text

-- the numbers after a text
abbrev pub TextSmall : ℕ → Result Unit TooNarrow → WrappedBlock → Type 0
TextSmall most x r = IfOk x (λ _. CountsWithinUnits r × (r.used ≤ most))

-- `add_text`
abbrev pub AddsText : WrappedBlock → Run → List ℕ → Result Unit TooNarrow → WrappedBlock → Type 0
AddsText o run text x r =
    (d₀ : List ℕ) (base : ℕ) (b : Block) (cs : List ℕ) → Keeps d₀ base b o → chars text ≡ some cs
    → ResultIs (flat_add_text (setup o.line.frame) (mode run.mode) run.main run.wrap cs b) d₀ base x r
