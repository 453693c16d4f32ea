-- Refusals 1 to 3 of the inputs of the calls that lay guests onto a sheet: what is answered with one of them has no length.
-- Assumes nothing.
use mathlib.Core.Path.{◌≡◌, refl}
use mathlib.Core.Bool.{Bool, true, false}
use mathlib.Core.List.{List}
use mathlib.Core.Option.{Option, none, some}
use Prim.Native.Nat.{ℕ, zero, suc, ◌≤◌}
use native.Mathlib.Omega.{arith}
use lib.Dec.{leb, eqb}
use Rattle.std.specs.Prelude.{if◌then◌else◌}
use Rattle.characters.proofs.Tests.{by_if}
use Rattle.fields.specs.First.{first_of, refusal_of}
use Rattle.fields.specs.Answer.{refuse_with, refused, give}
use Rattle.fields.specs.Refusal.{number, needed}
use Rattle.fields.specs.Refusals.{prefixes_refusal, width_refusal}
use Rattle.fields.specs.Sheet.{read_prefixes}
use Rattle.fields.specs.Spans.{read_sheet, read_cells, read_plain_cells}
use Rattle.fields.specs.SpanRefusals.{sheet_refusal, cells_refusal, plain_cells_refusal}
use Rattle.fields.specs.declared.refusal.Refusal.{Refusal}
use Rattle.fields.specs.declared.refusal.Refusal.TheVariants.{CrookedRecord, NoWidth, StrangeCharacter, OverfullJob, TooNarrow, NoBorderAbove, LongLine, StoreShort, LongSheet, OverhangMisfit}
use Rattle.extend_lines.proofs.Emitting.{refuses}

-- ---- numbers

read_low : {A : Type 0} (f : A → ℕ) (o : Option A) → ((a : A) → f a ≤ 3) → refusal_of f o ≤ 3
read_low f none h = omega arith
read_low f (some a) h = h a

tests_low : (narrow ok : Bool) → (if narrow then 2 else if ok then 0 else 3) ≤ 3
tests_low true ok = omega arith
tests_low false true = omega arith
tests_low false false = omega arith

test_low : (ok : Bool) → (if ok then 0 else 3) ≤ 3
test_low true = omega arith
test_low false = omega arith

pub sheet_low : (bs : List ℕ) → sheet_refusal bs ≤ 3
unfolding sheet_refusal
sheet_low bs = read_low _ (read_sheet bs) (λ t. tests_low _ _)

pub cells_low : (bs : List ℕ) → cells_refusal bs ≤ 3
unfolding cells_refusal
cells_low bs = read_low _ (read_cells bs) (λ cs. tests_low _ _)

pub plain_cells_low : (bs : List ℕ) → plain_cells_refusal bs ≤ 3
unfolding plain_cells_refusal
plain_cells_low bs = read_low _ (read_plain_cells bs) (λ cs. tests_low _ _)

pub prefixes_low : (bs : List ℕ) → prefixes_refusal bs ≤ 3
unfolding prefixes_refusal
prefixes_low bs = read_low _ (read_prefixes bs) (λ ps. test_low _)

pub width_low : (w : ℕ) → width_refusal w ≤ 3
width_low w = low (eqb w 0)
  where
    low : (b : Bool) → (if b then 2 else 0) ≤ 3
    low true = omega arith
    low false = omega arith

pub first_low : (a b : ℕ) → a ≤ 3 → b ≤ 3 → first_of a b ≤ 3
unfolding first_of
first_low zero b h k = k
first_low (suc a) zero h k = h
first_low (suc a) (suc b) h k = by_if (λ (n : ℕ). n ≤ 3) (leb a b) (λ _. h) (λ _. k)

-- ---- the answer

no_length : (e : Refusal) → number e ≤ 3 → needed e ≡ 0
no_length CrookedRecord h = refl
no_length NoWidth h = refl
no_length StrangeCharacter h = refl
no_length OverfullJob h = refl
no_length TooNarrow h = refl
no_length NoBorderAbove h = refl
no_length LongLine h = refl
no_length (StoreShort n) h = absurd (omega (arith, h))
no_length LongSheet h = refl
no_length OverhangMisfit h = refl

-- A refusal of 1 to 3 is the refusal of its number.
pub refuses_low : (e : Refusal) (store : List ℕ) → number e ≤ 3 → refuse_with e store ≡ give (refused (number e)) store
refuses_low e store h = refuses e (number e) store refl (no_length e h)
