-- `store::put_field` meets its contract: the head's write and the content's are one. Assumes nothing.
use Rattle.fields.specs.Field.{field}
use Rattle.fields.proofs.Sets.{wrote_then}
use Rattle.fields.proofs.store.put_field.Goals as goal

pub returns : goal.returns
unfolding field
returns c =
    wrote_then c.put_head-start.ensures c.put_bytes.ensures
