-- `encode::put_piece` meets its contract: the writes of a field's parts are one write of the field. Assumes nothing.
use Prim.Native.Nat.{◌-◌}
use borrow.Author.Rules.{rules}
use lib.ListN.{length, take, drop}
use Rattle.lines.proofs.Pieces.{rest_of, name_put, text_put}
use Rattle.lines.proofs.encode.put_piece.Goals as goal

pub returns-then-tag-eq-MARK : goal.returns-then-tag-eq-MARK
returns-then-tag-eq-MARK c =
    let r = name_put c.args.part.now (take (length c.args.part.now - 1) (drop 1 c.args.part.now)) c.args.out.now _ c.args.tag c.args.at _ c.put_field.ensures (rest_of c.args.part.now) (search rules) c.if-tag-eq-MARK.true in
    record { upper_bound = r.0; wrote = r.1 }

pub returns : goal.returns
returns c =
    let r = text_put c.args.part.now c.args.out.now _ _ _ c.args.tag c.args.at _ _ _ c.put_head-annotation.ensures c.put_byte-text.ensures c.put_bytes.ensures (search rules) c.if-tag-eq-MARK.false in
    record { upper_bound = r.0; wrote = r.1 }
