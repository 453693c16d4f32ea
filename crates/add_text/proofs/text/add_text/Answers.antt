-- `add_text::text::add_text` meets its contract: a turn passes plain characters and one character after them.
-- Assumes nothing.
use mathlib.Core.Path.{sym, ◌∙◌}
use native.Mathlib.Omega.{arith}
use borrow.Author.Rules.{rules}
use Rattle.hard_wrap.proofs.Walks.{part_len}
use Rattle.add_text.proofs.Walking.{stays_on, walking_starts, walking_past, char_inside, char_some, char_is, char_ready, walking_on, walking_narrow, walking_ends}
use Rattle.add_text.proofs.text.add_text.Goals as goal

pub loop-first-init : goal.loop-first-init
loop-first-init c =
    walking_starts c.args.block.now c.args.run c.args.text.now c.first_annotation-ann.result c.requires.counts_within_units.0 c.requires.counts_within_units.1 c.requires.run_small.0
    c.first_annotation-ann.ensures

pub add_plain-past-requires-clause-counts_within_units : goal.add_plain-past-requires-clause-counts_within_units
add_plain-past-requires-clause-counts_within_units c = (c.loop-first.invariant.small.small, c.loop-first.invariant.buffers)

pub add_plain-past-requires-clause-run_small : goal.add_plain-past-requires-clause-run_small
add_plain-past-requires-clause-run_small c = (
  c.requires.run_small.0,
  c.loop-first.invariant.small.ann,
  omega (arith, part_len c.args.text.now c.loop-first.at, c.loop-first.invariant.inside, c.loop-first.invariant.small.used, c.requires.run_small.1),
)

pub slice_bounds-decode-count : goal.slice_bounds-decode-count
slice_bounds-decode-count c =
    let i = walking_past c.loop-first.invariant c.add_plain-past.result c.add_plain-past.new.block c.add_plain-past.ensures.adds_plain c.add_plain-past.ensures.stays c.add_plain-past.ensures.len_in_bounds.0 c.add_plain-past.ensures.len_in_bounds.1 in
    i.inside

pub returns-in_default-clause-stays : goal.returns-in_default-clause-stays
returns-in_default-clause-stays c = stays_on c.loop-first.invariant.stays c.add_plain-past.ensures.stays

pub returns-in_default-clause-text_small : goal.returns-in_default-clause-text_small
returns-in_default-clause-text_small c =
    let i = walking_past c.loop-first.invariant c.add_plain-past.result c.add_plain-past.new.block c.add_plain-past.ensures.adds_plain c.add_plain-past.ensures.stays c.add_plain-past.ensures.len_in_bounds.0 c.add_plain-past.ensures.len_in_bounds.1 in
    (i.small.small, omega (arith, i.inside, i.small.used))

pub returns-in_default-clause-adds_text : goal.returns-in_default-clause-adds_text
returns-in_default-clause-adds_text c =
    let i = walking_past c.loop-first.invariant c.add_plain-past.result c.add_plain-past.new.block c.add_plain-past.ensures.adds_plain c.add_plain-past.ensures.stays c.add_plain-past.ensures.len_in_bounds.0 c.add_plain-past.ensures.len_in_bounds.1 in
    walking_ends i (sym c.decode.ensures ∙ c.in_default.is)

pub overflow_add-end : goal.overflow_add-end
overflow_add-end c =
    let i = walking_past c.loop-first.invariant c.add_plain-past.result c.add_plain-past.new.block c.add_plain-past.ensures.adds_plain c.add_plain-past.ensures.stays c.add_plain-past.ensures.len_in_bounds.0 c.add_plain-past.ensures.len_in_bounds.1 in
    let e = sym c.decode.ensures ∙ c.in-Some.is in
    omega (arith, char_inside i _ _ e, c.requires.run_small.1)

pub slice_bounds-add_char-end : goal.slice_bounds-add_char-end
slice_bounds-add_char-end c =
    let i = walking_past c.loop-first.invariant c.add_plain-past.result c.add_plain-past.new.block c.add_plain-past.ensures.adds_plain c.add_plain-past.ensures.stays c.add_plain-past.ensures.len_in_bounds.0 c.add_plain-past.ensures.len_in_bounds.1 in
    let e = sym c.decode.ensures ∙ c.in-Some.is in
    let h = char_inside i _ _ e in
    search rules

pub add_char-requires-clause-ready : goal.add_char-requires-clause-ready
add_char-requires-clause-ready c =
    let i = walking_past c.loop-first.invariant c.add_plain-past.result c.add_plain-past.new.block c.add_plain-past.ensures.adds_plain c.add_plain-past.ensures.stays c.add_plain-past.ensures.len_in_bounds.0 c.add_plain-past.ensures.len_in_bounds.1 in
    let e = sym c.decode.ensures ∙ c.in-Some.is in
    char_ready i _ _ e c.requires.run_small.1

pub add_char-requires-clause-char_is : goal.add_char-requires-clause-char_is
add_char-requires-clause-char_is c =
    let i = walking_past c.loop-first.invariant c.add_plain-past.result c.add_plain-past.new.block c.add_plain-past.ensures.adds_plain c.add_plain-past.ensures.stays c.add_plain-past.ensures.len_in_bounds.0 c.add_plain-past.ensures.len_in_bounds.1 in
    let e = sym c.decode.ensures ∙ c.in-Some.is in
    (char_is i _ _ e, c.requires.run_small.0)

pub returns-in_err-ann-clause-stays : goal.returns-in_err-ann-clause-stays
returns-in_err-ann-clause-stays c = stays_on (stays_on c.loop-first.invariant.stays c.add_plain-past.ensures.stays) c.add_char.ensures.stays

pub returns-in_err-ann-clause-adds_text : goal.returns-in_err-ann-clause-adds_text
returns-in_err-ann-clause-adds_text c =
    let i = walking_past c.loop-first.invariant c.add_plain-past.result c.add_plain-past.new.block c.add_plain-past.ensures.adds_plain c.add_plain-past.ensures.stays c.add_plain-past.ensures.len_in_bounds.0 c.add_plain-past.ensures.len_in_bounds.1 in
    let e = sym c.decode.ensures ∙ c.in-Some.is in
    walking_narrow i _ _ e c.add_char.new.block _ c.from_residual.result c.in_err-ann.ensures.adds_char c.from_residual.ensures.0

pub loop-first-smaller : goal.loop-first-smaller
loop-first-smaller c =
    let i = walking_past c.loop-first.invariant c.add_plain-past.result c.add_plain-past.new.block c.add_plain-past.ensures.adds_plain c.add_plain-past.ensures.stays c.add_plain-past.ensures.len_in_bounds.0 c.add_plain-past.ensures.len_in_bounds.1 in
    let e = sym c.decode.ensures ∙ c.in-Some.is in
    omega (arith, char_inside i _ _ e, char_some i _ _ e, c.loop-first.invariant.inside)

pub loop-first-preserved : goal.loop-first-preserved
loop-first-preserved c =
    let i = walking_past c.loop-first.invariant c.add_plain-past.result c.add_plain-past.new.block c.add_plain-past.ensures.adds_plain c.add_plain-past.ensures.stays c.add_plain-past.ensures.len_in_bounds.0 c.add_plain-past.ensures.len_in_bounds.1 in
    let e = sym c.decode.ensures ∙ c.in-Some.is in
    walking_on i _ _ e c.add_char.new.block c.in_ok-ann.ann c.in_ok-ann.ensures.adds_char c.add_char.ensures.stays c.in_ok-ann.ensures.walk_small
