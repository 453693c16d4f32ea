-- `render::render` meets its contract: a refusal 1 to 4, the sheet or refusal 8, and refusal 5.
-- Assumes nothing.
use Rattle.std.proofs.Common.{refl, sym, ◌∙◌, arith}
use Rattle.fields.proofs.Finishing.{refuses, refuses_check}
use Rattle.fields.proofs.First.{is_some}
use Rattle.fields.specs.declared.refusal.Refusal.TheVariants.{TooNarrow}
use Rattle.fields.proofs.Jobs.{job_refusal_small}
use Rattle.render.proofs.Answering.{Good, good_job, few_units, frame_small, answers_refused, answers_sheet, answers_narrow}
use Rattle.render.proofs.render.Goals as goal

pub returns-in-Err : goal.returns-in-Err
returns-in-Err c =
    c.refuse.ensures
    ∙ refuses_check _ _ _ c.in-Err.ensures.number (job_refusal_small c.args.job.now)
    ∙ answers_refused _ _ _ refl (λ e. let some = is_some c.in-Err.refusal in omega (arith, some, c.in-Err.ensures.number))

pub slice_bounds-wrap_lines-count : goal.slice_bounds-wrap_lines-count
slice_bounds-wrap_lines-count c =
    (good_job _ _ c.in-Ok.ensures.setup (sym c.in-Ok.ensures.number)).long

pub slice_bounds-wrap_lines-start : goal.slice_bounds-wrap_lines-start
slice_bounds-wrap_lines-start c =
    let good = good_job _ _ c.in-Ok.ensures.setup (sym c.in-Ok.ensures.number) in omega (arith, good.long)

pub wrap_lines-requires : goal.wrap_lines-requires
wrap_lines-requires c =
    let good : Good c.args.job.now c.in-Ok.setup = good_job _ _ c.in-Ok.ensures.setup (sym c.in-Ok.ensures.number) in
    (frame_small _ _ good _ c.frame_of.ensures (omega (arith, c.in-Ok.known_told-1-own.given)) (omega (arith, c.in-Ok.known_told-1-own.given)), few_units _ _ good)

pub returns-in-Ok-wrap_lines : goal.returns-in-Ok-wrap_lines
returns-in-Ok-wrap_lines c =
    let good : Good c.args.job.now c.in-Ok.setup = good_job _ _ c.in-Ok.ensures.setup (sym c.in-Ok.ensures.number) in
    answers_sheet _ _ good _ _ c.finish.result _ _ _ c.frame_of.ensures c.in-Ok-wrap_lines.ensures c.finish.ensures

pub returns-in-Err-wrap_lines : goal.returns-in-Err-wrap_lines
returns-in-Err-wrap_lines c =
    let good : Good c.args.job.now c.in-Ok.setup = good_job _ _ c.in-Ok.ensures.setup (sym c.in-Ok.ensures.number) in
    c.refuse-in-Err-wrap_lines.ensures ∙ refuses TooNarrow 5 _ refl refl ∙ answers_narrow _ _ good _ _ _ _ c.frame_of.ensures c.in-Err-wrap_lines.ensures c.wrap_lines.auto.out
