-- `store::put_byte` meets its contract: past the end `set` changes nothing. Assumes nothing.
use mathlib.Core.Path.{refl, sym}
use lib.Seq.{set_out}
use Rattle.fields.proofs.store.put_byte.Goals as goal

pub returns : goal.returns
returns c =
    record { place = refl; store = sym (set_out _ _ _ c.if-at-out.false) }
