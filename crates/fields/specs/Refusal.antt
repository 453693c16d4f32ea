-- The refusals' numbers (document 01, "What is refused"), and the length that comes with a store that is too short.
-- Assumes nothing: these are definitions.
use Rattle.std.specs.Prelude.{ℕ, Result, Ok, Err}
use Rattle.fields.specs.declared.refusal.Refusal.{Refusal}
use Rattle.fields.specs.declared.refusal.Refusal.TheVariants.{CrookedRecord, NoWidth, StrangeCharacter, OverfullJob, TooNarrow, NoBorderAbove, LongLine, StoreShort, LongSheet, OverhangMisfit}

-- 1 to 10
abbrev pub number : Refusal → ℕ
number CrookedRecord = 1
number NoWidth = 2
number StrangeCharacter = 3
number OverfullJob = 4
number TooNarrow = 5
number NoBorderAbove = 6
number LongLine = 7
number (StoreShort n) = 8
number LongSheet = 9
number OverhangMisfit = 10

-- the length needed, where a store is too short
abbrev pub needed : Refusal → ℕ
needed CrookedRecord = 0
needed NoWidth = 0
needed StrangeCharacter = 0
needed OverfullJob = 0
needed TooNarrow = 0
needed NoBorderAbove = 0
needed LongLine = 0
needed (StoreShort n) = n
needed LongSheet = 0
needed OverhangMisfit = 0

-- the number of an answer: 0 where it is no refusal
abbrev pub number_of : {A : Type 0} → Result A Refusal → ℕ
number_of (Ok a) = 0
number_of (Err e) = number e
