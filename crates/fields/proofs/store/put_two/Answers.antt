-- `store::put_two` meets its contract: two stores where both fit, else two writes of a byte are one write of two. Assumes nothing.
use mathlib.Core.Path.{refl}
use Prim.Native.Nat.{◌/◌, ◌%◌}
use native.Mathlib.Omega.{arith}
use lib.ListN.{length-set}
use Rattle.fields.proofs.Sets.{sets_two, wrote_then}
use Rattle.fields.proofs.store.put_two.Goals as goal

pub bounds-out-at-then-at-out : goal.bounds-out-at-then-at-out
bounds-out-at-then-at-out c =
    rw length-set (omega arith)

pub returns-then-at-out : goal.returns-then-at-out
returns-then-at-out c =
    record { place = refl; store = sets_two c.args.out.now c.args.at (c.args.n / 256) (c.args.n % 256) }

pub returns : goal.returns
returns c =
    wrote_then c.put_byte-low.ensures c.put_byte.ensures
