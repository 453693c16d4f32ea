-- `next` of `holes::Holes` meets its contract.
-- Assumes nothing.
use Rattle.std.proofs.Common.{◌≡◌, length, ap, rules}
use Rattle.places.proofs.HolesLaws.{holes_nil, holes_none}
use Rattle.places.proofs.holes.HolesIterator.next.Goals as goal

pub returns-then-is_empty-clause-steps : goal.returns-then-is_empty-clause-steps
returns-then-is_empty-clause-steps c =
    let e : length c.args.self.now.rest.now ≡ 0 = search rules in (holes_none _ e, holes_none _ e)

pub returns-in_default-clause-steps : goal.returns-in_default-clause-steps
returns-in_default-clause-steps c = rw holes_nil (c.in_default.ensures (search rules))

pub returns-in_default-clause-goes : goal.returns-in_default-clause-goes
returns-in_default-clause-goes c =
    let one = ap length (c.in_default.ensures (search rules)) in
    let none = ap length holes_nil in
    search rules
