-- `add_chars::stops::tab_line` meets its contract. The loop's invariant: there is room for the turns left, and they make the whole tab.
-- Assumes nothing.
use Prim.Native.Nat.{◌+◌, ◌-◌, ◌*◌, ◌≤◌}
use lib.ListN.{length}
use Rattle.hard_wrap.specs.Hold.{Stays}
use Rattle.add_chars.specs.Chars.{TabFits}
use Rattle.add_chars.proofs.Stopping.{Goes}
use Rattle.add_chars.proofs.stops.tab_line.Given as goal

abbrev pub invariant-loop-turn : goal.invariant-loop-turn
invariant-loop-turn l =
    record {
      stays : Stays l.initial.line l.line;
      fits : TabFits l.line l.at (10 - l._turn);
      n : length l.line.entries.items ≤ l.line.cols + (length l.initial.line.entries.items - l.initial.line.cols);
      place : l.line.text.place + 65538 * (10 - l._turn) ≤ l.initial.line.text.place + 65538 * 10;
      goes : Goes l.initial.line l.initial.at l.tag (10 - l._turn) l.line l.at;
    }
