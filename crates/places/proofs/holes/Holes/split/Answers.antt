-- `holes::Holes::split` meets its contract: the hole is the first that the definitions read.
-- Assumes nothing.
use Rattle.places.proofs.HolesLaws.{holes_short, holes_torn, holes_first}
use Rattle.places.proofs.holes.Holes.split.Goals as goal

pub returns-in_err-place : goal.returns-in_err-place
returns-in_err-place c = rw c.from_residual.ensures (holes_short _ c.in_err-place.ensures.cases)

pub returns-in_err-piece : goal.returns-in_err-piece
returns-in_err-piece c =
    let (front, behind, whole) = c.in_ok-place.ensures.cases in
    rw c.from_residual-in_err-piece.ensures (λ _. holes_torn _ _ whole behind c.in_err-piece.ensures.splits_off)

pub returns : goal.returns
returns c =
    let (front, behind, whole) = c.in_ok-place.ensures.cases in
    holes_first _ _ _ _ _ _ _ _ whole front behind c.from_be_bytes.ensures c.in_ok-piece.ensures.splits_off c.in_ok-piece.ensures.behind
