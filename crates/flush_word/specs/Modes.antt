-- The white-space modes of the code, of a field's bytes and of tags.
-- Assumes nothing: these are definitions.
use Rattle.std.specs.Prelude.{◌≡◌, ℕ, ◌<◌, Result, MatchResult}
use Rattle.fields.specs.Job.{Mode, normal, pre, pre_wrap}
use Rattle.block.specs.Tag.{Tag}
use Rattle.lines.specs.Bridge.{mode_no, num}
use Rattle.flush_word.specs.declared.white_space.WhiteSpace.{WhiteSpace}
use Rattle.flush_word.specs.declared.white_space.WhiteSpace.TheVariants.{Normal, Pre, PreWrap}
use Rattle.flush_word.specs.declared.white_space.NoMode.{NoMode}

-- `WhiteSpace`
abbrev pub mode : WhiteSpace → Mode
mode Normal = normal
mode Pre = pre
mode PreWrap = pre_wrap

-- a byte read as a mode
abbrev pub ReadsMode : ℕ → Result WhiteSpace NoMode → Type 0
ReadsMode byte r = MatchResult r (λ w. mode_no (mode w) ≡ byte) (λ _. 2 < byte)

-- the mode of a tag
abbrev pub TagMode : ℕ → WhiteSpace → Type 0
TagMode n r = (t : Tag) → n ≡ num t → t.ann < 256 → mode r ≡ t.mode
