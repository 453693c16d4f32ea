-- Plain characters that go to the word at once: how they are taken, and what they do to the flat walk (document 01, "The wrapped
-- block": in Pre a character past the width, and those after it, take the continued annotation).
-- Assumes nothing: these are definitions.
use Rattle.std.specs.Prelude.{◌≡◌, true, ◌⊎◌, List, ℕ, ◌+◌, ◌<◌, ◌≤◌, drop}
use Rattle.std.proofs.Math.Option.{some}
use Rattle.characters.specs.Utf8.{chars}
use Rattle.fields.specs.Job.{Mode, pre}
use Rattle.fields.specs.declared.job.Setup.{Setup}
use Rattle.block.specs.Flat.{Walk, steps}
use Rattle.hard_wrap.specs.Hold.{setup}
use Rattle.flush_word.specs.Modes.{mode}
use Rattle.flush_word.specs.declared.state.WrappedBlock.{WrappedBlock}
use Rattle.add_text.specs.Walks.{WalkKeeps}
use Rattle.add_text.specs.declared.text.Run.{Run}
use Rattle.add_text.specs.declared.runs.Take.{Take}
use Rattle.add_text.specs.declared.runs.Past.{Past}

-- the columns of line, blanks and word
abbrev pub reached : WrappedBlock → ℕ
reached o = o.line.cols + o.blanks.count + o.word.cols

-- with the annotation in use: outside Pre, or as far as the width goes
pub record Keeping (o : WrappedBlock) (run : Run) (a : ℕ) (r : Take) : Type 0 where
  pub within : (mode run.mode ≡ pre → ⊥) ⊎ (reached o + r.most ≤ o.line.frame.width)
  pub ann : r.ann ≡ a
  pub wrapped : r.wrapped ≡ o.wrapped

-- with the continued annotation: in Pre, past the width
pub record Wrapping (o : WrappedBlock) (run : Run) (r : Take) : Type 0 where
  pub mode : mode run.mode ≡ pre
  pub past : o.line.frame.width ≤ reached o
  pub ann : r.ann ≡ run.wrap
  pub wrapped : r.wrapped ≡ true

-- one of the two
abbrev pub Takes : WrappedBlock → Run → ℕ → Take → Type 0
Takes o run ann r = (r.ann < 256) × (Keeping o run ann r ⊎ Wrapping o run r)

-- from the walk past the plain characters, what is left of the text gives what the whole text gives
pub record PastIs (s : Setup) (m : Mode) (main wrap : ℕ) (text cs : List ℕ) (v : Walk) (d₀ : List ℕ) (base : ℕ) (x : Past) (r : WrappedBlock) : Type 0 where
  pub next : Walk
  pub rest : List ℕ
  pub keeps : WalkKeeps d₀ base next r x.ann
  pub left : chars (drop x.len text) ≡ some rest
  pub same : steps s m main wrap cs v ≡ steps s m main wrap rest next

-- the plain characters that a text starts with
abbrev pub AddsPlain : WrappedBlock → Run → ℕ → List ℕ → Past → WrappedBlock → Type 0
AddsPlain o run ann text x r =
    (d₀ : List ℕ) (base : ℕ) (v : Walk) (cs : List ℕ) → WalkKeeps d₀ base v o ann → chars text ≡ some cs
    → PastIs (setup o.line.frame) (mode run.mode) run.main run.wrap text cs v d₀ base x r
