-- The laws of the modes' numbers, in tags and among the variants.
-- Assumes nothing.
use mathlib.Core.Path.{◌≡◌, refl, sym, ap, ◌∙◌}
use Prim.Native.Nat.{ℕ, ◌+◌, ◌*◌, ◌/◌, ◌<◌}
use native.Mathlib.Omega.{arith}
use denote.Enum.Bare.{sameb}
use denote.Enum.Declared.{tag_of}
use Rattle.fields.specs.Job.{Mode, normal, pre, pre_wrap}
use Rattle.block.specs.Tag.{Tag, tag, is_pre}
use Rattle.lines.specs.Bridge.{mode_no, num}
use Rattle.flush_word.specs.Modes.{mode}
use Rattle.flush_word.specs.contracts.white_space.WhiteSpace.{the_type}
use Rattle.flush_word.specs.declared.white_space.WhiteSpace.{WhiteSpace}
use Rattle.flush_word.specs.declared.white_space.WhiteSpace.TheVariants.{Normal, Pre, PreWrap}

num_mode : (t : Tag) → t.ann < 256 → num t / 65536 ≡ mode_no t.mode
unfolding num
num_mode t h = omega arith

same_number : (m k : Mode) → mode_no m ≡ mode_no k → m ≡ k
same_number normal normal e = refl
same_number normal pre e = absurd (omega (arith, e))
same_number normal pre_wrap e = absurd (omega (arith, e))
same_number pre normal e = absurd (omega (arith, e))
same_number pre pre e = refl
same_number pre pre_wrap e = absurd (omega (arith, e))
same_number pre_wrap normal e = absurd (omega (arith, e))
same_number pre_wrap pre e = absurd (omega (arith, e))
same_number pre_wrap pre_wrap e = refl

two_left : (m : Mode) → 1 < mode_no m → pre_wrap ≡ m
two_left normal h = absurd (omega (arith, h))
two_left pre h = absurd (omega (arith, h))
two_left pre_wrap h = refl

module _ (n : ℕ) where
  number : (t : Tag) → n ≡ num t → t.ann < 256 → n / 65536 ≡ mode_no t.mode
  number t e h = ap (λ (z : ℕ). z / 65536) e ∙ num_mode t h

  -- A tag with the number of a mode has that mode.
  pub tag_mode : (m : Mode) → n / 65536 ≡ mode_no m → (t : Tag) → n ≡ num t → t.ann < 256 → m ≡ t.mode
  tag_mode m is t e h = same_number m t.mode (sym is ∙ number t e h)

  -- A tag with none of the first two numbers has the third mode.
  pub tag_wrap : 1 < n / 65536 → (t : Tag) → n ≡ num t → t.ann < 256 → pre_wrap ≡ t.mode
  tag_wrap k t e h = two_left t.mode (rw (number t e h) at k)

-- The tag of an annotation and a mode.
pub number_of : (w : WhiteSpace) (a : ℕ) → a + 65536 * tag_of the_type w ≡ num (tag a (mode w))
unfolding num
number_of Normal a = refl
number_of Pre a = refl
number_of PreWrap a = refl

-- The test for Pre.
pub same_pre : (w : WhiteSpace) → sameb the_type w Pre ≡ is_pre (mode w)
same_pre Normal = refl
same_pre Pre = refl
same_pre PreWrap = refl

-- A mode that is PreWrap is that of PreWrap.
pub wrap_mode : (w : WhiteSpace) → mode w ≡ pre_wrap → w ≡ PreWrap
wrap_mode Normal e = absurd (let z : ◌≡◌ {A = ℕ} 0 2 = ap mode_no e in omega arith)
wrap_mode Pre e = absurd (let z : ◌≡◌ {A = ℕ} 1 2 = ap mode_no e in omega arith)
wrap_mode PreWrap e = refl
