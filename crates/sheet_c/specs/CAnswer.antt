-- What a call says as the two numbers that C gets, and what comes with a call on a sheet. Assumes nothing: these are definitions.
use Rattle.std.specs.Prelude.{◌≡◌, Bool, List, ℕ, Result}
use Rattle.fields.specs.Answer.{Answer, rendered}
use Rattle.fields.specs.declared.refusal.Refusal.{Refusal}
use Rattle.rows.specs.declared.RenderOptions.{RenderOptions}

-- number, length and store bytes as an answer
abbrev pub answer : ℕ → ℕ → List ℕ → Answer
answer number length store = record { number = number; length = length; store = store }

-- number and length are those of what a call says
abbrev pub CAnswer : Result ℕ Refusal → ℕ → ℕ → Type 0
CAnswer said number length = (store : List ℕ) → answer number length store ≡ rendered said store

-- what comes with a call on a sheet: its width, pad, borders and annotation
abbrev pub options : ℕ → Bool → Bool → ℕ → RenderOptions
options width pad borders annotation = record { width = width; pad = pad; borders = borders; annotation = annotation }
