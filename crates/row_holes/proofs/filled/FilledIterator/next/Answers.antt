-- `filled::Filled::next` meets its contract: a piece, or the spaces alone. Assumes nothing.
use Rattle.std.proofs.Common.{refl, sym, ◌∙◌, arith}
use Rattle.row_holes.proofs.FilledLaws.{next_piece, next_spaces, next_none, next_broken}
use Rattle.row_holes.proofs.filled.FilledIterator.next.Goals as goal
use Rattle.row_holes.proofs.filled.FilledIterator.next.Goals.{then-not-is_empty-via-then-not-is_empty, then-not-is_empty-via-else-not-is_empty+then-self-eq0}

pub returns-then-not-is_empty-clause-steps : goal.returns-then-not-is_empty-clause-steps
returns-then-not-is_empty-clause-steps c =
    elim c.then-not-is_empty.branch [
      | then-not-is_empty-via-then-not-is_empty w ↦ next_broken _ _ (sym c.is_empty.ensures ∙ w.if-not-is_empty.true) c.in_default.ensures.splits_off
      | then-not-is_empty-via-else-not-is_empty+then-self-eq0 w ↦ next_none _ _ (sym c.is_empty.ensures ∙ w.if-not-is_empty.false) w.if-self-eq0.true
    ]

pub returns-in_default-clause-steps : goal.returns-in_default-clause-steps
returns-in_default-clause-steps c = next_spaces _ _ _ (sym c.is_empty.ensures ∙ c.if-not-is_empty.false) (omega (arith, c.if-self-eq0.false)) refl refl refl refl c.args.self.now.one refl refl refl

pub returns-clause-steps : goal.returns-clause-steps
returns-clause-steps c =
    next_piece _ _ _ _ _ _ c.in-Some.ensures.splits_off c.in-Some.ensures.size c.piece_cols-cols.ensures.counts_piece c.saturating_sub-missing.ensures c.is_empty-2.ensures c.taken-spaces.ensures.upper_bound c.taken-spaces.ensures.takes_spaces refl refl refl
