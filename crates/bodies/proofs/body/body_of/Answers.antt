-- `body::body_of` meets its contract.
-- Assumes nothing.
use Rattle.std.proofs.Common.{refl, rules, ◌≡◌}
use Rattle.std.specs.Prelude.{IfSome}
use Rattle.bodies.proofs.BodyLaws.{stands_all, stands_behind, stands_first, body_plain, body_kept, body_off}
use Rattle.bodies.proofs.body.body_of.Goals as goal

pub returns-then-not-collapse-clause-body_in : goal.returns-then-not-collapse-clause-body_in
returns-then-not-collapse-clause-body_in c = record { shorter = search rules; few = search rules; part = (0, stands_all _ _ c.all.ensures.lines_are) }

pub returns-in-Some-clause-body_in : goal.returns-in-Some-clause-body_in
returns-in-Some-clause-body_in c =
    let top = c.without_top-lines.ensures in
    let walked = c.walk_lines-walked.ensures.walked_in in
    record { shorter = search rules; few = search rules; part = (_, stands_first _ _ _ top.shorter top.behind walked.shorter walked.front) }

pub returns-in_default-clause-body_in : goal.returns-in_default-clause-body_in
returns-in_default-clause-body_in c =
    let top = c.without_top-lines.ensures in
    record { shorter = search rules; few = search rules; part = (_, stands_behind _ _ _ top.shorter top.behind c.all-in_default.ensures.lines_are) }

pub returns-then-not-collapse-clause-finds_body : goal.returns-then-not-collapse-clause-finds_body
returns-then-not-collapse-clause-finds_body c = body_plain _ _ _ _ (search rules) c.all.ensures c.walk_lines.ensures.walks

pub returns-in-Some-clause-finds_body : goal.returns-in-Some-clause-finds_body
returns-in-Some-clause-finds_body c =
    let top = c.without_top-lines.ensures in
    let walked = c.walk_lines-walked.ensures in
    body_off _ _ _ c.walk_lines-walked.result c.in-Some.last _ _ (search rules) top.shorter top.behind top.passes_top walked.walked_in walked.walks c.in-Some.is
    (search rules)
    (λ a segs hs e.
    let is = c.of-border.ensures.reads_border a segs hs e in
    record { annotation = is.annotation; segments = is.segments; punched = is.punched; within = is.within })
    refl refl refl refl

pub returns-in_default-clause-finds_body : goal.returns-in_default-clause-finds_body
returns-in_default-clause-finds_body c =
    let text : IfSome c.walk_lines-walked.result.last (λ f. f.letter ≡ 0x4C) = search rules in
    let top = c.without_top-lines.ensures in
    body_kept _ _ _ _ _ (search rules) top.shorter top.behind top.passes_top c.all-in_default.ensures c.walk_lines-walked.ensures.walks text
