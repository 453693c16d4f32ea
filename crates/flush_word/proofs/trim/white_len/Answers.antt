-- `white_len` meets its contract: what `decode` finds is the text's first character. Assumes nothing.
use mathlib.Core.Path.{sym, ◌∙◌}
use Rattle.characters.proofs.RoundTrip.{decode_size}
use Rattle.flush_word.proofs.Trimming.{white_is, white_not, white_bad}
use Rattle.flush_word.proofs.trim.white_len.Goals as goal

pub returns-in-Some : goal.returns-in-Some
returns-in-Some c =
    let d = sym c.decode.ensures ∙ c.in-Some.is in
    let z = decode_size c.args.part.now _ _ d in
    record { upper_bound = z.2; white = white_is c.args.part.now _ _ d (sym c.is_whitespace.ensures ∙ c.if-is_whitespace.true) }

pub returns-in_default-clause-white : goal.returns-in_default-clause-white
returns-in_default-clause-white c =
    white_not c.args.part.now _ _ (sym c.decode.ensures ∙ c.in-Some.is) (sym c.is_whitespace.ensures ∙ c.if-is_whitespace.false)

pub returns-in_default-2-clause-white : goal.returns-in_default-2-clause-white
returns-in_default-2-clause-white c =
    white_bad c.args.part.now (sym c.decode.ensures ∙ c.in_default.is)
