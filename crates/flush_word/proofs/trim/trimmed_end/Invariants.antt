-- `trimmed_end` meets its contract. The invariant: the entries up to i, trimmed, are the line's, trimmed. Assumes nothing.
use mathlib.Core.Path.{◌≡◌}
use lib.ListN.{take}
use Rattle.flush_word.proofs.Trimming.{trim}
use Rattle.flush_word.proofs.trim.trimmed_end.Given as goal

abbrev pub invariant-loop-i : goal.invariant-loop-i
invariant-loop-i l = trim l.line.items ≡ trim (take l.i l.line.items)
