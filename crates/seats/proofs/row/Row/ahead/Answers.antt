-- `row::Row::ahead` meets its contract: a seat that is given is kept behind the others.
-- Assumes nothing.
use Rattle.std.proofs.Common.{◌≡◌, ◌<◌, ℕ, length, subst, ◌∙◌, arith, length-set}
use Rattle.seats.proofs.RowLaws.{Keeps, given_as, keeps_more, keeps_all}
use Rattle.seats.proofs.row.Row.ahead.Goals as goal

pub loop-len-preserved : goal.loop-len-preserved
loop-len-preserved c =
    let (size, few, keeps) = c.loop-len.invariant in
    let low : c.loop-len.len < length c.loop-len.seats = omega (arith, size, c.loop-len-test.true) in (
      length-set _ _ _ ∙ size,
      omega (arith, c.loop-len-test.true),
      keeps_more c.args.first _ _ c.loop-len.rest c.next.new.self _ low
          (given_as c.loop-len.rest c.next.new.self c.in-Some.seat _
          (λ x is. record {
            pos_is = is.pos_is;
            width_is = is.width_is;
            to_is = is.to_is;
            span_is = is.span_is;
            spans = is.spans;
            lines_in = is.lines_in;
            readable = is.readable;
          })
          c.in-Some.ensures.steps)
          keeps,
    )

pub returns-in_default : goal.returns-in_default
returns-in_default c = keeps_all c.args.first c.loop-len.seats c.loop-len.len c.loop-len.rest c.next.new.self c.in_default.ensures.steps c.loop-len.invariant.2

pub returns : goal.returns
returns c =
    let (size, few, keeps) = c.loop-len.invariant in
    let full : c.loop-len.len ≡ 16 = omega (arith, few, c.loop-len-test.false) in
    subst (λ (n : ℕ). Keeps c.args.first c.loop-len.seats n c.loop-len.rest) full keeps
