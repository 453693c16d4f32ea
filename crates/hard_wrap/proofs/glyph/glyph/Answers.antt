-- `glyph::glyph` meets its contract: a text starts with the character that is decoded; what is no text takes one byte. Assumes nothing.
use mathlib.Core.Path.{sym, ◌∙◌}
use native.Mathlib.Omega.{arith}
use borrow.Author.Rules.{rules}
use Rattle.characters.proofs.RoundTrip.{decode_size}
use Rattle.hard_wrap.proofs.Glyphs.{shown, shown_bad}
use Rattle.hard_wrap.proofs.glyph.glyph.Goals as goal

pub returns-in-Some : goal.returns-in-Some
returns-in-Some c =
    let d = sym c.decode.ensures ∙ c.in-Some.is in
    let z = decode_size c.args.part.now _ _ d in
    record { len_nonzero = (z.0, z.2, c.char_width.ensures.upper_bound); shows = shown c.args.part.now _ _ _ d c.char_width.ensures.value }

pub returns-in-None : goal.returns-in-None
returns-in-None c =
    record { len_nonzero = (omega arith, search rules, omega arith); shows = shown_bad c.args.part.now (sym c.decode.ensures ∙ c.in-None.is) }
