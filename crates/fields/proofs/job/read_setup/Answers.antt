-- `fields::job::read_setup` meets its contract: three bytes, of which the flags are below 4.
-- Assumes nothing.
use Rattle.std.proofs.Common.{◌≡◌, sym, ◌∙◌, arith, length}
use Rattle.fields.proofs.Jobs.{setup_odd, setup_three, high_none, good_setup}
use Rattle.fields.proofs.job.read_setup.Goals as goal

pub returns-in_default : goal.returns-in_default
returns-in_default c =
    setup_odd _ (λ (e : length c.args.content.now ≡ 3). omega (arith, c.in_default.len_below))

pub returns-in_default-2 : goal.returns-in_default-2
returns-in_default-2 c =
    setup_odd _ (λ (e : length c.args.content.now ≡ 3). omega (arith, c.in_default.len_at_least))

pub returns-then-flags-ne0 : goal.returns-then-flags-ne0
returns-then-flags-ne0 c =
    high_none _ _ _ (c.type_inv.content 1).fits c.if-flags-ne0.true ∙ sym (setup_three _ (omega (arith, c.in-len3.len_at_least, c.in-len3.len_below)))

pub returns : goal.returns
returns c =
    good_setup _ _ _ (c.type_inv.content 1).fits c.if-flags-ne0.false ∙ sym (setup_three _ (omega (arith, c.in-len3.len_at_least, c.in-len3.len_below)))
