-- The fields that an iterator over a list of fields has left, as the definition `raws` reads them.
-- Assumes nothing: these are definitions.
use Rattle.std.specs.Prelude.{◌≡◌, List, [], ◌∷◌, ℕ, ◌<◌, length, Option, Some, None, Result, Ok, Err}
use Rattle.std.proofs.Common.{Bor}
use Rattle.fields.specs.Field.{Raw, whole, broken, raws}
use Rattle.fields.specs.declared.raw.Field.{Field}
use Rattle.fields.specs.declared.raw.Broken.{Broken}
use Rattle.fields.specs.declared.list.Fields.{Fields}

-- a whole field
abbrev pub whole_of : Field → Raw
whole_of f = whole f.letter f.content.now

-- a field, or a rest that is none
abbrev pub raw : Result Field Broken → Raw
raw (Ok f) = whole_of f
raw (Err b) = broken

-- what is left
abbrev pub left : Fields → List Raw
left s = raws s.rest.now

-- the first field and what follows it, or none where bytes are left and no whole field stands first
abbrev pub SplitsOff : List ℕ → Option (Field × Bor (List ℕ)) → Type 0
SplitsOff bytes None = 0 < length bytes → raws bytes ≡ broken ∷ []
SplitsOff bytes (Some p) = raws bytes ≡ whole_of p.0 ∷ raws p.1.now
