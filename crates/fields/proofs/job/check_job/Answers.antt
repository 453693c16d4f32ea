-- `fields::job::check_job` meets its contract: refusals 1 to 4 in their order, over the fields from the seventh byte on.
-- Assumes nothing.
use borrow.Author.Rules.{rules}
use Rattle.std.proofs.Common.{arith, sym, ap, ap₂, ◌∙◌, refl}
use Rattle.fields.specs.First.{first_of}
use Rattle.fields.specs.Job.{head_in}
use Rattle.fields.specs.Walk.{field_refusal}
use Rattle.fields.proofs.First.{handed_on, is_some, number_kept}
use Rattle.fields.proofs.Jobs.{head_is, job_headless, job_refused, job_overfull, job_passes}
use Rattle.fields.proofs.Sheets.{field_crooked}
use Rattle.fields.proofs.job.check_job.Goals as goal

pub returns-in_err-setup-clause-number : goal.returns-in_err-setup-clause-number
returns-in_err-setup-clause-number c =
    handed_on _ _ c.from_residual.ensures ∙ number_kept _ _ (rw c.in_err-setup.ensures.ok_part at c.in_err-setup.ensures.value) ∙ job_headless _ (sym c.read_head.ensures ∙ ap head_in c.in_err-setup.ensures.ok_part)

pub slice_bounds-body-count : goal.slice_bounds-body-count
slice_bounds-body-count c =
    (head_is _ _ (sym c.read_head.ensures ∙ ap head_in c.in_ok-setup.ensures.ok_part)).0

pub slice_bounds-body-start : goal.slice_bounds-body-start
slice_bounds-body-start c =
    let six = (head_is _ _ (sym c.read_head.ensures ∙ ap head_in c.in_ok-setup.ensures.ok_part)).0 in omega arith

pub returns-in_err-first_of-clause-number : goal.returns-in_err-first_of-clause-number
returns-in_err-first_of-clause-number c =
    let judged = c.check_fields.ensures field_refusal (record { answers = λ f r p. search rules; crooked = field_crooked }) in
    let first = c.in_err-first_of.ensures ∙ ap₂ first_of judged c.check_width.ensures in
    handed_on _ _ c.from_residual-in_err-first_of.ensures
    ∙ job_refused _ _ (sym c.read_head.ensures ∙ ap head_in c.in_ok-setup.ensures.ok_part) _ first (is_some _)

pub returns-then-body_units-gt4096-clause-number : goal.returns-then-body_units-gt4096-clause-number
returns-then-body_units-gt4096-clause-number c =
    let judged = c.check_fields.ensures field_refusal (record { answers = λ f r p. search rules; crooked = field_crooked }) in
    let first = c.in_ok-first_of.ensures ∙ ap₂ first_of judged c.check_width.ensures in
    job_overfull _ _ (sym c.read_head.ensures ∙ ap head_in c.in_ok-setup.ensures.ok_part) _ first refl (omega (arith, c.body_units.ensures, c.if-body_units-gt4096.true))

pub returns-clause-number : goal.returns-clause-number
returns-clause-number c =
    let judged = c.check_fields.ensures field_refusal (record { answers = λ f r p. search rules; crooked = field_crooked }) in
    let first = c.in_ok-first_of.ensures ∙ ap₂ first_of judged c.check_width.ensures in
    job_passes _ _ (sym c.read_head.ensures ∙ ap head_in c.in_ok-setup.ensures.ok_part) _ first refl (omega (arith, c.body_units.ensures, c.if-body_units-gt4096.false))
