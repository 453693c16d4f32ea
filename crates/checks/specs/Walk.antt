-- Refusals 1, 2 and 3 in the steps of the code.
-- Assumes nothing: these are definitions.
use Rattle.std.specs.Prelude.{List, ℕ, leb, eqb, length, if◌then◌else◌}
use Rattle.fields.specs.Field.{Raw, raws}
use Rattle.fields.specs.First.{first_of, first_over}
use Rattle.fields.specs.SpanRefusals.{lines_refusal}

-- a hole that ends past so many segments
abbrev pub past_refusal : ℕ → ℕ → ℕ
past_refusal segments end = if leb end segments then 0 else 1

-- a width and lines: 1, 2, 3
unfoldable pub body_refusal : ℕ → List ℕ → ℕ
body_refusal w ls = first_of (lines_refusal (raws ls)) (if eqb w 0 then 2 else 0)

-- at most 16 fields, each judged by itself: more are 1
unfoldable pub few_refusal : (Raw → ℕ) → List Raw → ℕ
few_refusal judge rs = if leb (length rs) 16 then first_over judge rs else 1
