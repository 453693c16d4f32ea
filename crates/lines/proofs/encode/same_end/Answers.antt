-- `encode::same_end` meets its contract: the entries of the tag end at the first other one. Assumes nothing.
use mathlib.Core.Path.{◌∙◌}
use mathlib.Core.Bool.{not}
use native.Mathlib.Omega.{arith}
use borrow.Author.Rules.{rules}
use borrow.Author.Tests.{tests}
use lib.Dec.{eqb}
use lib.ListN.{drop, length-drop}
use Rattle.std.proofs.lemmas.Iterator.{YieldsList-from_slice}
use Rattle.std.proofs.lemmas.Iterator.Search.{position_from_yields_List}
use Rattle.fields.proofs.Texts.{rest}
use Rattle.lines.proofs.Pieces.{same_found, same_none}
use Rattle.lines.proofs.encode.same_end.Goals as goal

pub returns-in-Some-clause-value : goal.returns-in-Some-clause-value
returns-in-Some-clause-value c =
    let r = position_from_yields_List (λ x. not (eqb x c.args.t)) _ _ _ c.position.ensures.ran (YieldsList-from_slice (drop c.args.i c.args.tags.now) (c.iter.ensures.rest ∙ rest c.args.tags.now c.args.i)) (λ x b q k. (search (rules, tests), search (rules, tests))) in
    omega (arith, same_found c.args.t (drop c.args.i c.args.tags.now) c.in-Some.k c.position.result r c.in-Some.is)

pub returns-in-None-clause-value : goal.returns-in-None-clause-value
returns-in-None-clause-value c =
    let r = position_from_yields_List (λ x. not (eqb x c.args.t)) _ _ _ c.position.ensures.ran (YieldsList-from_slice (drop c.args.i c.args.tags.now) (c.iter.ensures.rest ∙ rest c.args.tags.now c.args.i)) (λ x b q k. (search (rules, tests), search (rules, tests))) in
    omega (arith, length-drop c.args.i c.args.tags.now, same_none c.args.t (drop c.args.i c.args.tags.now) c.position.result r c.in-None.is)
