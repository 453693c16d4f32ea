-- `fields::list::Fields::next` gives the first of the fields that are left.
-- Assumes nothing.
use Rattle.std.proofs.Common.{arith, ◌≡◌, ◌<◌, length}
use Rattle.std.proofs.lemmas.Bool.Decides.{nat_tests}
use Rattle.fields.proofs.Fields.{raws_empty, raws_nil}
use Rattle.fields.proofs.list.FieldsIterator.next.Goals as goal

pub returns-then-is_empty-clause-steps : goal.returns-then-is_empty-clause-steps
returns-then-is_empty-clause-steps c =
    let none : length c.args.self.now.rest.now ≡ 0 = grind (arith, nat_tests) in
    (raws_empty _ none, raws_empty _ none)

pub returns-in-None-clause-steps : goal.returns-in-None-clause-steps
returns-in-None-clause-steps c =
    let some : 0 < length c.args.self.now.rest.now = grind (arith, nat_tests) in
    rw raws_nil (c.in-None.ensures.splits_off some)

pub returns-in-None-clause-goes : goal.returns-in-None-clause-goes
returns-in-None-clause-goes c =
    let some : 0 < length c.args.self.now.rest.now = grind (arith, nat_tests) in
    let e = c.in-None.ensures.splits_off some in
    record { on = λ f. (tt, tt, rw (e, raws_nil) (omega arith)); keeps = tt; rests = λ f. tt }
