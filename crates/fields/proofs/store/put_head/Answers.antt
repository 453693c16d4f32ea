-- `store::put_head` meets its contract: three stores where all fit, else the letter's write and the length's are one. Assumes nothing.
use mathlib.Core.Path.{refl}
use Prim.Native.Nat.{◌/◌, ◌%◌}
use native.Mathlib.Omega.{arith}
use lib.ListN.{length-set}
use Rattle.fields.proofs.Sets.{sets_three, wrote_then}
use Rattle.fields.proofs.store.put_head.Goals as goal

pub bounds-out-at-then-at-out : goal.bounds-out-at-then-at-out
bounds-out-at-then-at-out c =
    rw length-set (omega arith)

pub bounds-out-at-then-at-out-2 : goal.bounds-out-at-then-at-out-2
bounds-out-at-then-at-out-2 c =
    rw (length-set, length-set) (omega arith)

pub returns-then-at-out : goal.returns-then-at-out
returns-then-at-out c =
    record { place = refl; store = sets_three c.args.out.now c.args.at c.args.letter (c.args.n / 256) (c.args.n % 256) }

pub returns : goal.returns
returns c =
    wrote_then c.put_byte-length.ensures c.put_two.ensures
