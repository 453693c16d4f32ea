-- `fields::list::split_field` meets its contract: a head and its content, or a rest that is no field.
-- Assumes nothing.
use Rattle.std.proofs.Common.{◌∙◌, arith}
use lib.Seq.{drop-drop}
use Rattle.fields.proofs.Fields.{raws_front, raws_short, raws_cut}
use Rattle.fields.proofs.list.split_field.Goals as goal

pub returns-in_err-head : goal.returns-in_err-head
returns-in_err-head c =
    rw c.from_residual.ensures (record { size = tt; behind = tt; splits_off = λ some. raws_short _ c.in_err-head.ensures.cases some })

pub returns-in_err-content : goal.returns-in_err-content
returns-in_err-content c =
    let (front, behind, whole) = c.in_ok-head.ensures.cases in
    rw c.from_residual-in_err-content.ensures
    (record { size = tt; behind = tt; splits_off = λ some. raws_cut _ _ _ _ whole front behind (omega (arith, c.from.ensures, c.from-2.ensures)) c.in_err-content.ensures.cases })

pub returns : goal.returns
returns c =
    let (front, behind, whole) = c.in_ok-head.ensures.cases in
    let (fits, content, others, size, all) = c.in_ok-content.ensures.cases in
    record {
      size = omega (arith, whole, size, all);
      behind = others ∙ rw (size, behind, drop-drop);
      splits_off = rw (content, others) (raws_front _ _ _ _ whole front behind (omega (arith, c.from.ensures, c.from-2.ensures)) fits);
    }
