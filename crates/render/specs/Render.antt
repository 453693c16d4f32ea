-- The steps of the call from a job to its sheet: a field, the fields, and the block's lines in the store with the names that wait.
-- Assumes nothing: these are definitions.
use Rattle.std.specs.Prelude.{◌≡◌, true, List, [], map, ℕ, ◌<◌, Result, MatchResult}
use Rattle.fields.specs.Field.{Raw, raws}
use Rattle.fields.specs.Job.{read_field, readable, all_readable}
use Rattle.fields.specs.Answer.{Stands}
use Rattle.fields.specs.declared.job.Setup.{Setup}
use Rattle.block.specs.Result.{Result as FlatResult, good, too_narrow}
use Rattle.block.specs.Flat.{Block, Ended, new, flat_flush_wrapping, flat_add_field, flat_add_fields, wrapped_up, flat_sheet_line}
use Rattle.hard_wrap.specs.Hold.{setup}
use Rattle.hard_wrap.specs.declared.error.TooNarrow.{TooNarrow}
use Rattle.hard_wrap.specs.declared.line.Frame.{Frame}
use Rattle.flush_word.specs.Keep.{Keeps, ResultIs}
use Rattle.flush_word.specs.declared.state.WrappedBlock.{WrappedBlock}
use Rattle.render.specs.declared.sheet.End.{End}

-- what never changes in the block, from the W field
abbrev pub frame_of : Setup → Frame
frame_of s = record { width = s.width; pad = s.pad; overflow = s.overflow; default_tag = s.annotation }

-- ---- fields

abbrev pub AddsField : WrappedBlock → Raw → Result Unit TooNarrow → WrappedBlock → Type 0
AddsField o field x r =
    (d₀ : List ℕ) (base : ℕ) (b : Block) → Keeps d₀ base b o → readable (read_field field) ≡ true
    → ResultIs (flat_add_field (setup o.line.frame) (read_field field) b) d₀ base x r

abbrev pub AddsFields : WrappedBlock → List ℕ → Result Unit TooNarrow → WrappedBlock → Type 0
AddsFields o body x r =
    (d₀ : List ℕ) (base : ℕ) (b : Block) → Keeps d₀ base b o → all_readable (map read_field (raws body)) ≡ true
    → ResultIs (flat_add_fields (setup o.line.frame) (map read_field (raws body)) b) d₀ base x r

-- ---- lines

pub record FrameSmall (frame : Frame) : Type 0 where
  pub positive : 0 < frame.width
  pub small : frame.width < 256
  pub default : frame.default_tag < 256

-- what the end of a block is in the store
pub record Closed-is (r : FlatResult Ended) (d₀ : List ℕ) (e : End) (out : List ℕ) : Type 0 where
  pub ended : Ended
  pub is : r ≡ good ended
  pub stands : Stands (map flat_sheet_line ended.lines) ended.names [] d₀ e.place e.lines out

abbrev pub LinesAre : FlatResult Ended → List ℕ → Result End TooNarrow → List ℕ → Type 0
LinesAre r d₀ e out = MatchResult e (λ x. Closed-is r d₀ x out) (λ _. r ≡ too_narrow)

-- `flush_wrapping` of a block whose lines stand from 5 on
abbrev pub FlushesWrapping : WrappedBlock → Result End TooNarrow → WrappedBlock → Type 0
FlushesWrapping o x r =
    (d₀ : List ℕ) (b : Block) → Keeps d₀ 5 b o → LinesAre (flat_flush_wrapping (setup o.line.frame) b) d₀ x r.line.text.out.now

-- all fields of a body, from a block that is as `new`, and then its end
abbrev pub WrapsBody : WrappedBlock → List ℕ → Result End TooNarrow → WrappedBlock → Type 0
WrapsBody o body x r =
    (d₀ : List ℕ) → Keeps d₀ 5 new o → all_readable (map read_field (raws body)) ≡ true
    → LinesAre (wrapped_up (setup o.line.frame) (map read_field (raws body))) d₀ x r.line.text.out.now

-- the lines of a job's body, and the names that wait, in the store from 5 on
abbrev pub WrapsUp : Frame → List ℕ → List ℕ → Result End TooNarrow → List ℕ → Type 0
WrapsUp frame body out r out' =
    all_readable (map read_field (raws body)) ≡ true → LinesAre (wrapped_up (setup frame) (map read_field (raws body))) out r out'
