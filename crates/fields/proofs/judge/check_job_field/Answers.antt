-- `fields::judge::check_job_field` meets its contract, letter by letter.
-- Assumes nothing.
use Rattle.std.proofs.Common.{◌≡◌, ◌∙◌, arith}
use Rattle.fields.proofs.Jobs.{name_refusal_lem, run_refusal, other_refusal}
use Rattle.fields.proofs.judge.check_job_field.Goals as goal

pub returns-in-70 : goal.returns-in-70
returns-in-70 c =
    c.check_text.ensures ∙ name_refusal_lem _ _ c.in-70.is

pub returns-in-84 : goal.returns-in-84
returns-in-84 c =
    c.check_run.ensures ∙ run_refusal _ _ c.in-84.is

pub returns-in_default : goal.returns-in_default
returns-in_default c =
    other_refusal _ _ (λ (e : c.args.letter ≡ 0x46). omega arith) (λ (e : c.args.letter ≡ 0x54). omega arith)
