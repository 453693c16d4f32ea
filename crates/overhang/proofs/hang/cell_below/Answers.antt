-- `hang::cell_below` meets its contract: the lines that the seat is laid of, behind so many of them.
-- Assumes nothing.
use mathlib.Core.Path.{refl}
use Rattle.overhang.proofs.HangLaws.{leaves_cell}
use Rattle.overhang.proofs.hang.cell_below.Goals as goal

pub returns : goal.returns
returns c =
    leaves_cell c.args.seat _ _ c.body_of-body.result _ _ c.requires.0 c.body_of-body.ensures.finds_body c.skip_lines.ensures.skips refl refl refl refl
