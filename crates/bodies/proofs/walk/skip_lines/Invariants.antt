-- `walk::skip_lines` meets its contract: what is left are the lines without the first so many.
-- Assumes nothing.
use Rattle.std.proofs.Common.{◌≡◌, ◌-◌, ◌≤◌, length, drop}
use Rattle.bodies.specs.Walk.{Skips}
use Rattle.bodies.proofs.walk.skip_lines.Given as goal

abbrev pub invariant-loop : goal.invariant-loop
invariant-loop l = record {
  shorter : length l.rest ≤ length l.lines;
  behind : l.rest ≡ drop (length l.lines - length l.rest) l.lines;
  skips : Skips l.lines l.counter l.rest;
}
