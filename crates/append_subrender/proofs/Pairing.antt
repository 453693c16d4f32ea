-- Laws of lines and prefixes in pairs, of cells below each other, and of prefixes that come one after the other, the last perhaps again and again.
-- Refusal 10 of the two calls is a test, and where it fails their lines are a list.
-- Assumes nothing.
use mathlib.Core.Path.{◌≡◌, refl, sym, ap, ◌∙◌}
use mathlib.Core.Bool.{Bool, true, false, ◌||◌}
use mathlib.Core.Option
use mathlib.Core.Option.{Option, none, some}
use mathlib.Core.List.{List, [], ◌∷◌, ◌++◌, map}
use Prim.Native.Nat.{ℕ, zero, suc, ◌≤◌}
use native.Mathlib.Omega.{arith}
use lib.Dec.{eqb}
use lib.ListN.{length, take}
use Rattle.std.specs.Prelude.{Option as RustOption, None, Some, if◌then◌else◌}
use Rattle.characters.proofs.Tests.{and_left, and_right}
use Rattle.fields.specs.Field.{Raw, whole, broken, read_all, all}
use Rattle.fields.specs.Text.{readable_text}
use Rattle.fields.specs.Sheet.{read_prefix}
use Rattle.fields.specs.Widths.{text_width}
use Rattle.borders.specs.BorderSegHoriz.{Horiz}
use Rattle.borders.specs.BorderHoriz.{new_type, ◌>>=◌, holed_to_string}
use Rattle.fields.specs.TaggedLine.{push_str}
use Rattle.rows.specs.SubRenderer.{Extended, extended, later, with_names, padded, add_line, extend_lines}
use Rattle.rows.specs.SubRenderer.{plain_border, with_prefix, prefixed, append_subrender, if_drawn, between, append_each, append_vert_row}
use Rattle.rows.specs.declared.RenderOptions.{RenderOptions}
use Rattle.rows.specs.Named.{named_lines, names_left}
use Rattle.rows.proofs.Lines.{readable_formed}
use Rattle.rows.proofs.Adding.{extend_named}
use Rattle.fields.specs.Spans.{RenderLine, text, border, Cell}
use Rattle.rows.specs.Columns.{none_if, overlaps, holed_text}
use Rattle.rows.proofs.Columns.{map_none_if, string_split}
use Rattle.fields.proofs.Readings.{read_first, read_none}
use Rattle.append_subrender.specs.Misfit.{overlapping, any_overlapping, guest_misfit, cells_misfit, behind_prefix, behind_prefixes, cell_lines}
use Rattle.append_subrender.specs.Prefixes.{coming, Coming, Steps}
use Rattle.append_subrender.specs.declared.prefix.Prefix.{Prefix}

-- ---- lines and prefixes in pairs

-- one pair
pub paired_on : (s : RenderOptions) (rep : Bool) (g : RenderLine) (gs : List RenderLine) (p : List ℕ) (ps : List (List ℕ))
    → behind_prefixes s rep (g ∷ gs) (p ∷ ps) ≡ behind_prefix s p g ∷ behind_prefixes s rep gs (later rep p ps)
unfolding behind_prefixes
paired_on s rep g gs p ps = refl

-- no line is left
pub paired_none : (s : RenderOptions) (rep : Bool) (ps : List (List ℕ)) → behind_prefixes s rep [] ps ≡ []
unfolding behind_prefixes
paired_none s rep ps = refl

-- no prefix is left
pub paired_out : (s : RenderOptions) (rep : Bool) (gs : List RenderLine) → behind_prefixes s rep gs [] ≡ []
unfolding behind_prefixes
paired_out s rep [] = refl
paired_out s rep (g ∷ gs) = refl

-- the test of one pair
pub misfit_on : (rep : Bool) (g : RenderLine) (gs : List RenderLine) (p : List ℕ) (ps : List (List ℕ))
    → guest_misfit rep (g ∷ gs) (p ∷ ps) ≡ (overlapping g || guest_misfit rep gs (later rep p ps))
unfolding guest_misfit
misfit_on rep g gs p ps = refl

misfit_out : (rep : Bool) (gs : List RenderLine) → guest_misfit rep gs [] ≡ false
unfolding guest_misfit
misfit_out rep [] = refl
misfit_out rep (g ∷ gs) = refl

-- ---- what may panic, as a test and a value

bind_none_if : {A B : Type 0} (f : A → B) (b : Bool) (a : A) → (none_if b a >>= λ x. some (f x)) ≡ none_if b (f a)
bind_none_if f true a = refl
bind_none_if f false a = refl

bind_both : {A B : Type 0} (b c : Bool) (a : A) (f : A → Option B) (d : B) → f a ≡ none_if c d → (none_if b a >>= f) ≡ none_if (b || c) d
bind_both true c a f d e = refl
bind_both false c a f d e = e

-- one line behind its prefix
one_split : (s : RenderOptions) (p : List ℕ) (g : RenderLine) → with_prefix s p g ≡ none_if (overlapping g) (behind_prefix s p g)
unfolding with_prefix holed_to_string
one_split s p (text ps) = refl
one_split s p (border a segs hs) =
    let f : List ℕ → RenderLine = λ t. text (push_str (push_str [] s.annotation p) s.annotation t) in
    ap (λ (o : Option (List ℕ)). o >>= λ t. some (f t)) (string_split segs 0 hs) ∙ bind_none_if f (overlaps segs 0 hs) (holed_text segs 0 hs)

-- all pairs
pairs_split : (s : RenderOptions) (rep : Bool) (gs : List RenderLine) (ps : List (List ℕ))
    → prefixed s rep gs ps ≡ none_if (guest_misfit rep gs ps) (behind_prefixes s rep gs ps)
unfolding prefixed guest_misfit behind_prefixes
pairs_split s rep [] ps = refl
pairs_split s rep (g ∷ gs) [] = refl
pairs_split s rep (g ∷ gs) (p ∷ ps) =
    let l = behind_prefix s p g in
    let next = prefixed s rep gs (later rep p ps) in
    let f : RenderLine → Option (List RenderLine) = λ x. Option.map (λ (ls : List RenderLine). x ∷ ls) next in
    ap (λ (o : Option RenderLine). o >>= f) (one_split s p g)
    ∙ bind_both (overlapping g) (guest_misfit rep gs (later rep p ps)) l f (l ∷ behind_prefixes s rep gs (later rep p ps))
    (ap (Option.map (λ (ls : List RenderLine). l ∷ ls)) (pairs_split s rep gs (later rep p ps))
    ∙ map_none_if (λ (ls : List RenderLine). l ∷ ls) (guest_misfit rep gs (later rep p ps)) (behind_prefixes s rep gs (later rep p ps)))

-- lines and then others
extend_append : (s : RenderOptions) (a : Extended) (xs ys : List RenderLine) → extend_lines s (extend_lines s a xs) ys ≡ extend_lines s a (xs ++ ys)
unfolding extend_lines
extend_append s a [] ys = refl
extend_append s a (x ∷ xs) ys = extend_append s (add_line s a x) xs ys

subrender_extends : (s : RenderOptions) (a : Extended) (guest : List RenderLine) (rep : Bool) (ps : List (List ℕ))
    → append_subrender s a guest rep ps ≡ none_if (guest_misfit rep guest ps) (extend_lines s a (behind_prefixes s rep guest ps))
unfolding append_subrender
subrender_extends s a guest rep ps =
    ap (Option.map (extend_lines s a)) (pairs_split s rep guest ps)
    ∙ map_none_if (extend_lines s a) (guest_misfit rep guest ps) (behind_prefixes s rep guest ps)

-- old lines and the names that wait, after new lines
abbrev pub grown : RenderOptions → Extended → List RenderLine → Extended
grown s a new = extended (a.lines ++ map (padded s) (named_lines a.names new)) (names_left a.names new)

-- `append_subrender`: REFUSAL 10 IS THE TEST, AND ELSE THE PAIRS STAND AFTER THE OLD LINES, the first of them behind the names that wait.
pub subrender_lines : (s : RenderOptions) (a : Extended) (guest : List RenderLine) (rep : Bool) (ps : List (List ℕ))
    → append_subrender s a guest rep ps ≡ none_if (guest_misfit rep guest ps) (grown s a (behind_prefixes s rep guest ps))
subrender_lines s a guest rep ps =
    subrender_extends s a guest rep ps ∙ ap (none_if (guest_misfit rep guest ps)) (extend_named s a (behind_prefixes s rep guest ps))

-- a line behind its prefix is text, so it takes the names
pub named_first : (s : RenderOptions) (ns : List (List ℕ)) (p : List ℕ) (g : RenderLine) (ls : List RenderLine)
    → named_lines ns (behind_prefix s p g ∷ ls) ≡ with_names ns (behind_prefix s p g) ∷ ls
unfolding named_lines
named_first s ns p (text ps) ls = refl
named_first s ns p (border a segs hs) ls = refl

pub left_first : (s : RenderOptions) (ns : List (List ℕ)) (p : List ℕ) (g : RenderLine) (ls : List RenderLine) → names_left ns (behind_prefix s p g ∷ ls) ≡ []
unfolding names_left
left_first s ns p (text ps) ls = refl
left_first s ns p (border a segs hs) ls = refl

-- ---- the lines that have a prefix, by their number

-- where a last prefix repeats it is all of them
misfit_all : (gs : List RenderLine) (p : List ℕ) (ps : List (List ℕ)) → guest_misfit true gs (p ∷ ps) ≡ any_overlapping gs
unfolding guest_misfit any_overlapping
misfit_all [] p ps = refl
misfit_all (g ∷ gs) p [] = ap (λ (b : Bool). overlapping g || b) (misfit_all gs p [])
misfit_all (g ∷ gs) p (q ∷ ps) = ap (λ (b : Bool). overlapping g || b) (misfit_all gs q ps)

later_not : (p : List ℕ) (ps : List (List ℕ)) → later false p ps ≡ ps
later_not p [] = refl
later_not p (q ∷ ps) = refl

take_none : (gs : List RenderLine) → any_overlapping (take 0 gs) ≡ false
unfolding any_overlapping
take_none gs = refl

-- where it does not it is as many as there are prefixes
misfit_first : (gs : List RenderLine) (ps : List (List ℕ)) → guest_misfit false gs ps ≡ any_overlapping (take (length ps) gs)
unfolding guest_misfit any_overlapping
misfit_first [] [] = refl
misfit_first (g ∷ gs) [] = refl
misfit_first [] (p ∷ ps) = refl
misfit_first (g ∷ gs) (p ∷ ps) =
    ap (λ (b : Bool). overlapping g || b) (ap (guest_misfit false gs) (later_not p ps) ∙ misfit_first gs ps)

take_more : (n : ℕ) (gs : List RenderLine) → length gs ≤ n → take n gs ≡ gs
take_more zero [] h = refl
take_more zero (g ∷ gs) h = absurd (omega arith)
take_more (suc n) [] h = refl
take_more (suc n) (g ∷ gs) h = ap (λ (l : List RenderLine). g ∷ l) (take_more n gs (omega arith))

-- The three cases of the code.
pub guest_none : (rep : Bool) (gs : List RenderLine) (ps : List (List ℕ)) → length ps ≡ 0 → false ≡ guest_misfit rep gs ps
guest_none rep gs [] e = sym (misfit_out rep gs)
guest_none rep gs (p ∷ ps) e = absurd (omega arith)

pub guest_all : (rep : Bool) (gs : List RenderLine) (ps : List (List ℕ)) (n : ℕ) → rep ≡ true → (length ps ≡ 0 → ⊥) → length gs ≤ n
    → any_overlapping (take n gs) ≡ guest_misfit rep gs ps
guest_all rep gs [] n e h k = absurd (h refl)
guest_all rep gs (p ∷ ps) n e h k = ap any_overlapping (take_more n gs k) ∙ sym (misfit_all gs p ps) ∙ ap (λ (b : Bool). guest_misfit b gs (p ∷ ps)) (sym e)

pub guest_first : (rep : Bool) (gs : List RenderLine) (ps : List (List ℕ)) (n : ℕ) → rep ≡ false → n ≡ length ps
    → any_overlapping (take n gs) ≡ guest_misfit rep gs ps
guest_first rep gs ps n e k =
    ap (λ (m : ℕ). any_overlapping (take m gs)) k ∙ sym (misfit_first gs ps) ∙ ap (λ (b : Bool). guest_misfit b gs ps) (sym e)

-- All lines of a cell.
pub cell_whole : (gs : List RenderLine) (n : ℕ) → length gs ≤ n → any_overlapping (take n gs) ≡ any_overlapping gs
cell_whole gs n k = ap any_overlapping (take_more n gs k)

-- ---- cells below each other

-- one cell
pub cells_on : (s : RenderOptions) (first : Bool) (c : Cell) (cs : List Cell)
    → cell_lines s first (c ∷ cs) ≡ between s first ++ (behind_prefixes s true c.lines ([] ∷ []) ++ cell_lines s false cs)
unfolding cell_lines
cells_on s first c cs = refl

-- no cell is left
pub cells_none : (s : RenderOptions) (first : Bool) → cell_lines s first [] ≡ []
unfolding cell_lines
cells_none s first = refl

-- the test of one cell
pub cells_misfit_on : (c : Cell) (cs : List Cell) → cells_misfit (c ∷ cs) ≡ (any_overlapping c.lines || cells_misfit cs)
unfolding cells_misfit
cells_misfit_on c cs = refl

pub cells_misfit_none : cells_misfit [] ≡ false
unfolding cells_misfit
cells_misfit_none = refl

each_lines : (s : RenderOptions) (first : Bool) (a : Extended) (cs : List Cell)
    → append_each s first a cs ≡ none_if (cells_misfit cs) (extend_lines s a (cell_lines s first cs))
unfolding append_each cell_lines cells_misfit extend_lines
each_lines s first a [] = refl
each_lines s first a (c ∷ cs) =
    let mid = extend_lines s a (between s first) in
    let new = behind_prefixes s true c.lines ([] ∷ []) in
    let next = extend_lines s mid new in
    let f : Extended → Option Extended = λ b. append_each s false b cs in
    let one : append_subrender s mid c.lines true ([] ∷ []) ≡ none_if (any_overlapping c.lines) next =
    subrender_extends s mid c.lines true ([] ∷ []) ∙ ap (λ (b : Bool). none_if b next) (misfit_all c.lines [] []) in
    ap (λ (o : Option Extended). o >>= f) one
    ∙ bind_both (any_overlapping c.lines) (cells_misfit cs) next f (extend_lines s a (between s first ++ (new ++ cell_lines s false cs)))
    (each_lines s false next cs
    ∙ ap (none_if (cells_misfit cs)) (extend_append s mid new (cell_lines s false cs) ∙ extend_append s a (between s first) (new ++ cell_lines s false cs)))

-- `append_vert_row`: REFUSAL 10 IS THE TEST, AND ELSE THE CELLS' LINES AND THE LAST BORDER STAND AFTER THE OLD LINES, the first text among
-- them behind the names that wait.
pub vert_row_lines : (s : RenderOptions) (a : Extended) (cs : List Cell)
    → append_vert_row s a cs
    ≡ none_if (cells_misfit cs) (grown s a (cell_lines s true cs ++ if_drawn s (plain_border s.annotation (new_type s.width Horiz))))
unfolding append_vert_row
vert_row_lines s a cs =
    let last = if_drawn s (plain_border s.annotation (new_type s.width Horiz)) in
    let f : Extended → Extended = λ b. extend_lines s b last in
    let mid = extend_lines s a (cell_lines s true cs) in
    ap (λ (o : Option Extended). o >>= λ b. some (f b)) (each_lines s true a cs)
    ∙ bind_none_if f (cells_misfit cs) mid
    ∙ ap (none_if (cells_misfit cs)) (extend_append s a (cell_lines s true cs) last ∙ extend_named s a (cell_lines s true cs ++ last))

-- ---- prefixes

-- what a P field is read as
prefix_is : (l : ℕ) (t p : List ℕ) → read_prefix (whole l t) ≡ some p → p ≡ t
unfolding read_prefix
prefix_is l t p e = go (eqb l 0x50) e
  where
    go : (b : Bool) → (if b then some t else none) ≡ some p → p ≡ t
    go true e = cc
    go false e = absurd (let z : ◌≡◌ {A = ℕ} 0 1 = cc in omega arith)

-- a rest that is no field is no list of prefixes
no_prefixes : (rest : List Raw) (ps : List (List ℕ)) → read_all read_prefix (broken ∷ rest) ≡ some ps → ⊥
unfolding read_prefix
no_prefixes rest ps e = let r = read_first read_prefix broken rest ps e in let x = r.first in let z : ◌≡◌ {A = ℕ} 0 1 = cc in omega arith

-- one prefix more is the next, after one or the first
next_comes : (last : RustOption Prefix) (rep : Bool) (q : List ℕ) (qs : List (List ℕ)) → coming last rep (q ∷ qs) ≡ q ∷ qs
next_comes None rep q qs = refl
next_comes (Some p) rep q qs = refl

-- The next prefix, found.
pub next_found : (left left' : List Raw) (rep : Bool) (last : RustOption Prefix) (letter : ℕ) (r : Prefix) → left ≡ whole letter r.text.now ∷ left' → r.cols ≡ text_width r.text.now
    → Steps left rep last left' (Some r)
unfolding all
next_found left left' rep last letter r is e ps c =
    let t = r.text.now in
    let x = read_first read_prefix (whole letter t) left' c.after (sym (ap (read_all read_prefix) is) ∙ c.reads) in
    let all_after : c.after ≡ t ∷ x.more = x.are ∙ ap (λ (q : List ℕ). q ∷ x.more) (prefix_is letter t x.one x.first) in
    let ok : all (readable_text false) (t ∷ x.more) ≡ true = sym (ap (all (readable_text false)) all_after) ∙ c.readable in (
      x.more,
      c.all_coming ∙ ap (coming last rep) all_after ∙ next_comes last rep t x.more,
      record {
        after = x.more;
        reads = x.later;
        readable = and_right (readable_text false t) (all (readable_text false) x.more) ok;
        all_coming = refl;
        formed = (readable_formed false t (and_left (readable_text false t) (all (readable_text false) x.more) ok), sym e);
      },
    )

-- no prefix is left but the last, if it repeats
module _ (left left' : List Raw) (is : left ≡ []) (is' : left' ≡ []) where
  none_after : (rep : Bool) (last : RustOption Prefix) (ps : List (List ℕ)) (c : Coming left rep last ps) → c.after ≡ []
  none_after rep last ps c = read_none read_prefix c.after (sym (ap (read_all read_prefix) is) ∙ c.reads)

  -- None is left.
  pub last_out : (rep : Bool) (last : RustOption Prefix) → rep ≡ false → Steps left rep last left' None
  last_out rep None e ps c = c.all_coming ∙ none_after rep None ps c
  last_out rep (Some p) e ps c = c.all_coming ∙ ap (later rep p.text.now) (none_after rep (Some p) ps c) ∙ rw e

  -- The last comes again.
  pub last_again : (rep : Bool) (last : RustOption Prefix) → rep ≡ true → Steps left rep last left' last
  last_again rep None e ps c = c.all_coming ∙ none_after rep None ps c
  last_again rep (Some p) e ps c = (
    [],
    c.all_coming ∙ ap (later rep p.text.now) (none_after rep (Some p) ps c) ∙ rw e,
    record {
      after = [];
      reads = rw (is', ← is, ← none_after rep (Some p) ps c) c.reads;
      readable = rw (← none_after rep (Some p) ps c) c.readable;
      all_coming = refl;
      formed = c.formed;
    },
  )

-- A rest that is no field: such prefixes were not read.
pub next_broken : (left left' rest : List Raw) (rep : Bool) (last r : RustOption Prefix) → left ≡ broken ∷ rest → Steps left rep last left' r
next_broken left left' rest rep last r is ps c = absurd (no_prefixes rest c.after (sym (ap (read_all read_prefix) is) ∙ c.reads))

-- THE PREFIXES THAT WERE READ ARE THOSE TO COME.
pub all_come : (fields : List Raw) (rep : Bool) (ps : List (List ℕ)) → read_all read_prefix fields ≡ some ps → all (readable_text false) ps ≡ true
    → Coming fields rep None ps
all_come fields rep ps e ok = record { after = ps; reads = e; readable = ok; all_coming = refl; formed = tt }
