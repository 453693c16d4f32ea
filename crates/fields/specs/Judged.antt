-- What a check of single fields computes.
-- Assumes nothing: these are definitions.
use Rattle.std.specs.Prelude.{◌≡◌, ℕ, Result, ⊤}
use Rattle.fields.specs.Field.{Raw, broken}
use Rattle.fields.specs.List.{whole_of}
use Rattle.fields.specs.Refusal.{number_of}
use Rattle.fields.specs.declared.raw.Field.{Field}
use Rattle.fields.specs.declared.refusal.Refusal.{Refusal}

-- the check answers the refusal of each whole field, and a rest that is no field is refusal 1
pub record Judges {F : Type 0} (post : F → Field → Result ⊤ Refusal → Type 0) (check : F) (judge : Raw → ℕ) : Type 0 where
  pub answers : (field : Field) (answer : Result ⊤ Refusal) → post check field answer → number_of answer ≡ judge (whole_of field)
  pub crooked : judge broken ≡ 1
