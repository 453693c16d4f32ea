-- `checks::holed::check_holed` meets its contract, case by case of its tests.
-- Assumes nothing.
use Rattle.std.proofs.Common.{◌≡◌, ◌+◌, ◌-◌, ◌*◌, ◌<◌, length, get_or, take, drop, sym, ap, ◌∙◌, arith, length-drop}
use Rattle.std.proofs.lemmas.Bool.Decides.{nat_tests}
use Rattle.fields.proofs.Texts.{rest}
use Rattle.checks.proofs.HoleLaws.{bare_holed, crooked_holed, right_holed}
use Rattle.checks.proofs.holed.check_holed.Goals as goal
use Rattle.checks.proofs.holed.check_holed.Goals.{then-is_empty-via-then-is_empty, then-is_empty-via-else-is_empty+then-not-all_segments}

pub returns-in_default-split_at_checked : goal.returns-in_default-split_at_checked
returns-in_default-split_at_checked c =
    let s = c.args.field.content.now in
    let n = c.from.result * 256 + c.from-2.result in
    bare_holed s n c.in-len3-up.len_at_least (omega (arith, c.from.ensures, c.from-2.ensures))
    (omega (arith, c.in_default-split_at_checked.ensures.cases, ap length (rest s 3), length-drop 3 s))

pub returns-then-is_empty : goal.returns-then-is_empty
returns-then-is_empty c =
    let s = c.args.field.content.now in
    let n = c.from.result * 256 + c.from-2.result in
    let e : n ≡ get_or s 1 0 * 256 + get_or s 2 0 = omega (arith, c.from.ensures, c.from-2.ensures) in
    let (fits, segments, holes, size, all) = c.in-Some.ensures.cases in
    let long : length (take (length s - 3) (drop 3 s)) + 3 ≡ length s = omega (arith, c.in-len3-up.len_at_least, ap length (rest s 3), length-drop 3 s) in
    elim c.then-is_empty.branch [
      | then-is_empty-via-then-is_empty w ↦
          (let none : length c.in-Some.holes.now ≡ 0 = grind (arith, nat_tests, w.if-is_empty.true) in
          bare_holed s n c.in-len3-up.len_at_least e (omega arith))
      | then-is_empty-via-else-is_empty+then-not-all_segments w ↦
          (let some : 0 < length c.in-Some.holes.now = grind (arith, nat_tests, w.if-is_empty.false) in
          crooked_holed s n e (omega arith) (rw segments at (sym w.all_segments.ensures ∙ w.if-not-all_segments.true)))
    ]

pub returns : goal.returns
returns c =
    let s = c.args.field.content.now in
    let n = c.from.result * 256 + c.from-2.result in
    let e : n ≡ get_or s 1 0 * 256 + get_or s 2 0 = omega (arith, c.from.ensures, c.from-2.ensures) in
    let (fits, segments, holes, size, all) = c.in-Some.ensures.cases in
    let long : length (take (length s - 3) (drop 3 s)) + 3 ≡ length s = omega (arith, c.in-len3-up.len_at_least, ap length (rest s 3), length-drop 3 s) in
    let some : 0 < length c.in-Some.holes.now = grind (arith, nat_tests) in
    (rw holes at c.check_holes.ensures) ∙ right_holed s n e (omega arith) (rw segments at (sym c.all_segments.ensures ∙ c.if-not-all_segments.false))
