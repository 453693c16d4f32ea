-- `fields::store::put_repeat` meets its contract: what has room is filled at once.
-- Assumes nothing.
use Rattle.std.proofs.Common.{◌≡◌, ℕ, ◌-◌, ◌≤◌, ◌<◌, length, min, replicate, arith, sym, ap, ◌∙◌}
use Rattle.fields.proofs.Sets.{sets_none, sets_mid, length_part}
use Rattle.std.proofs.lemmas.List.{length-replicate, take-replicate}
use Rattle.fields.proofs.store.put_repeat.Goals as goal

pub returns-then-fits-eq0 : goal.returns-then-fits-eq0
returns-then-fits-eq0 c =
    let none : min (length (replicate c.args.n c.args.b)) (length c.args.out.now - c.args.at) ≤ 0 = omega (arith, length-replicate c.args.n c.args.b, c.min-fits.ensures, c.saturating_sub.ensures, c.if-fits-eq0.true) in
    record { place = omega (arith, length-replicate c.args.n c.args.b); store = sets_none _ _ _ none }

pub returns : goal.returns
returns c =
    let room : c.min-fits.result ≡ min (length (replicate c.args.n c.args.b)) (length c.args.out.now - c.args.at) =
    omega (arith, length-replicate c.args.n c.args.b, c.min-fits.ensures, c.saturating_sub.ensures) in
    let some : 0 < c.min-fits.result = omega (arith, c.if-fits-eq0.false) in
    let filled = c.fill.ensures.after (λ y e. e) ∙ ap (λ (k : ℕ). replicate k c.args.b) (length_part _ _ _ (omega (arith, c.min-fits.ensures, c.saturating_sub.ensures)))
    ∙ sym (take-replicate c.min-fits.result c.args.n c.args.b (omega (arith, c.min-fits.ensures))) in
    record { place = omega (arith, length-replicate c.args.n c.args.b); store = sets_mid _ _ _ _ _ room some filled }
