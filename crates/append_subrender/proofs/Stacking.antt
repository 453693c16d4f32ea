-- Laws of cells below each other: a border of one segment, the lines of one cell, and the cells one after the other.
-- Assumes nothing.
use mathlib.Core.Path.{◌≡◌, refl, sym, ap, ◌∙◌}
use mathlib.Core.Bool.{Bool, true, false, ◌||◌}
use mathlib.Core.Option.{Option, none, some, map, some-injective}
use mathlib.Core.List.{List, [], ◌∷◌, ◌++◌, append_assoc, append-nil}
use Prim.Native.Nat.{ℕ, zero, suc, ◌+◌, ◌-◌, ◌*◌, ◌≤◌, ◌<◌}
use native.Mathlib.Omega.{arith}
use lib.Dec.{eqb, leb}
use lib.ListN.{length, take, drop, get_or, length-drop}
use lib.Seq.{take_all}
use Rattle.std.specs.Prelude.{if◌then◌else◌}
use Rattle.characters.proofs.Tests.{by_if, and_left, and_right, or_left, or_right}
use Rattle.fields.specs.Field.{Raw, whole, broken, raws_f, raws, read_all, all}
use Rattle.fields.proofs.Texts.{rest}
use Rattle.borders.specs.BorderSegHoriz.{HorizVert}
use Rattle.borders.specs.BorderHoriz.{new_type}
use Rattle.std.proofs.lemmas.List.{take-replicate}
use Rattle.std.proofs.Common.{replicate}
use Rattle.fields.specs.Spans.{RenderLine, Cell, cell, read_line, read_cell_content, read_plain_cell, readable_line, readable_lines, readable_cell}
use Rattle.rows.specs.SubRenderer.{between}
use Rattle.rows.specs.Named.{names_left}
use Rattle.rows.specs.declared.RenderOptions.{RenderOptions}
use Rattle.rows.proofs.Lines.{text_width_nil, well_formed_nil}
use Rattle.fields.proofs.Readings.{read_first, read_none}
use Rattle.extend_lines.specs.Emitted.{InBounds, OneLineMore, AddsBorder}
use Rattle.extend_lines.specs.declared.line.Lines.{Lines}
use Rattle.append_subrender.specs.Misfit.{overlapping, any_overlapping, cells_misfit, behind_prefix, behind_prefixes, cell_lines}
use Rattle.append_subrender.specs.Prefixes.{NamesOf, AddsPrefixed, Adds, added, AddsRule, rule_if, AddsRuleIf, AddsLines, AddsCell, StacksCell, AddsCells}
use Rattle.append_subrender.proofs.Pairing.{paired_on, paired_none, cells_on, cells_none, cells_misfit_on}
use Rattle.append_subrender.specs.declared.prefixed.Added.{Added}
use Rattle.append_subrender.proofs.Waiting.{adds_none, adds_line, adds_edge, adds_then}
use Rattle.append_subrender.proofs.Adding.{next_bounds}
use Rattle.places.proofs.BorderLaws.{broken_line}

-- ---- a border of one segment

-- A border as wide as the sheet.
pub adds_rule : (out out' : List ℕ) (p r : Lines) (s : RenderOptions) (segment n w : ℕ) → w ≤ n → w ≡ s.width
    → AddsBorder out p s s.annotation (take w (replicate n segment)) out' r → AddsRule out p s segment out' r
unfolding new_type
adds_rule out out' p r s segment n w h e add st ls em =
    let is : take w (replicate n segment) ≡ replicate s.width segment = take-replicate w n segment h ∙ ap (λ (k : ℕ). replicate k segment) e in
    rw (← is) (add st ls em)

-- Drawn, it is one line more.
pub rule_drawn : (out out' : List ℕ) (p r : Lines) (s : RenderOptions) (segment : ℕ) (drawn : Bool) → drawn ≡ true → AddsRule out p s segment out' r
    → AddsRuleIf out p s segment drawn out' r
rule_drawn out out' p r s segment drawn e add st ls em = rw e (add st ls em)

-- Not drawn, it is nothing.
pub rule_none : (out : List ℕ) (p : Lines) (s : RenderOptions) (segment : ℕ) (drawn : Bool) → drawn ≡ false → AddsRuleIf out p s segment drawn out p
rule_none out p s segment drawn e st ls em = rw (e, append-nil ls) em

-- ---- the lines of one cell

module _ (out : List ℕ) (p : Added) (s : RenderOptions) (names : List ℕ) (fields : List Raw) where
  -- No line is left.
  cell_none : fields ≡ [] → AddsLines out p s names fields out p
  cell_none is ns gs reads read ok apart =
      let none_left = read_none read_line gs (sym (ap (read_all read_line) is) ∙ read) in
      rw (none_left, paired_none s true ([] ∷ [])) (adds_none out p s names ns reads)

  -- A rest that is no field.
  cell_broken : (out' : List ℕ) (r : Added) (rest : List Raw) → fields ≡ broken ∷ rest → AddsLines out p s names fields out' r
  cell_broken out' r rest is ns gs reads read ok apart = absurd (broken_line rest gs (sym (ap (read_all read_line) is) ∙ read))

  -- One line, which takes the names that wait, and those after it: the empty prefix stays.
  cell_on : (mid out' : List ℕ) (m : Lines) (r : Added) (field : Raw) (rest : List Raw) → fields ≡ field ∷ rest
      → AddsPrefixed out p.lines s (drop p.from names) [] 0 field mid m → AddsLines mid (added m (length names)) s names rest out' r
      → AddsLines out p s names fields out' r
  unfolding all any_overlapping
  cell_on mid out' m r field rest is one others ns gs reads read ok apart =
      let x = read_first read_line field rest gs (sym (ap (read_all read_line) is) ∙ read) in
      let good : all readable_line (x.one ∷ x.more) ≡ true = sym (ap (all readable_line) x.are) ∙ ok in
      let fit : (overlapping x.one || any_overlapping x.more) ≡ false = sym (ap any_overlapping x.are) ∙ apart in
      let new = behind_prefix s [] x.one in
      let a₁ =
      adds_line out p s names ns mid m [] x.one
      (one ns x.one reads x.first (and_left (readable_line x.one) (all readable_line x.more) good) (or_left (overlapping x.one) (any_overlapping x.more) fit)
      well_formed_nil text_width_nil) in
      let a₂ =
      others (names_left ns (new ∷ [])) x.more a₁.waiting x.later (and_right (readable_line x.one) (all readable_line x.more) good)
      (or_right (overlapping x.one) (any_overlapping x.more) fit) in
      rw (x.are, paired_on s true x.one x.more [] [])
      (adds_then out p s names ns mid out' (added m (length names)) r (new ∷ []) (behind_prefixes s true x.more ([] ∷ [])) a₁ a₂)

-- Some lines of the cell are added, and the others are left; the names that still wait begin at a place too.
pub record InCell (out₀ : List ℕ) (p : Added) (s : RenderOptions) (names body out : List ℕ) (q : Added) (left : List Raw) : Type 0 where
  pub size : length out ≡ length out₀
  pub waiting : q.from ≤ length names
  pub bounds : InBounds q.lines
  pub count : q.lines.count + length left ≤ p.lines.count + length (raws body)
  pub lines : (out' : List ℕ) (r : Added) → AddsLines out q s names left out' r → AddsCell out₀ p s names body out' r

pub within_start : (out : List ℕ) (p : Added) (s : RenderOptions) (names body : List ℕ) (left : List Raw) → InBounds p.lines → p.from ≤ length names → left ≡ raws body
    → InCell out p s names body out p left
within_start out p s names body left h k e =
    rw e (record { size = refl; waiting = k; bounds = h; count = omega arith; lines = λ out' r others. others })

module _ (out₀ : List ℕ) (p : Added) (s : RenderOptions) (names body out : List ℕ) (q : Added) (left : List Raw) (w : InCell out₀ p s names body out q left) where
  -- one line on
  pub within_on : (field : Raw) (others : List Raw) (out' : List ℕ) (r : Lines) → p.lines.count + length (raws body) < 1000000 → left ≡ field ∷ others
      → OneLineMore q.lines r → length out' ≡ length out → AddsPrefixed out q.lines s (take (length names - q.from) (drop q.from names)) [] 0 field out' r
      → InCell out₀ p s names body out' (added r (length names)) others
  within_on field others out' r few is more same one =
      let n : length left ≡ suc (length others) = ap length is in
      record {
        size = same ∙ w.size;
        waiting = omega arith;
        bounds = next_bounds q.lines r w.bounds more (omega (arith, n, w.count, few));
        count = omega (arith, n, w.count, more.count);
        lines = λ out'' z lines. w.lines out'' z (cell_on out q s names left out' out'' r z field others is (rw (rest names q.from) at one) lines);
      }

  -- a rest that is no field is passed over
  pub within_broken : (others : List Raw) → left ≡ broken ∷ others → InCell out₀ p s names body out q others
  within_broken others is =
      let n : length left ≡ suc (length others) = ap length is in
      record {
        size = w.size;
        waiting = w.waiting;
        bounds = w.bounds;
        count = omega (arith, n, w.count);
        lines = λ out' r lines. w.lines out' r (cell_broken out q s names left out' r others is);
      }

  -- the end
  pub within_end : left ≡ [] → AddsCell out₀ p s names body out q
  within_end is = w.lines out q (cell_none out q s names left is)

-- ---- the cells one after the other

-- a border is drawn between two cells
abbrev draws_between : RenderOptions → Bool → Bool
draws_between s first = if first then false else s.borders

between_is : (s : RenderOptions) (first : Bool) → between s first ≡ rule_if s HorizVert (draws_between s first)
between_is s true = refl
between_is s false = refl

-- the cells that are left, the first of all among them or not
abbrev AddsFrom : Bool → List ℕ → Added → RenderOptions → List ℕ → List Raw → List ℕ → Added → Type 0
AddsFrom first out p s names fields out' r =
    (ns : List (List ℕ)) (cs : List Cell) → NamesOf (drop p.from names) ns → read_all read_plain_cell fields ≡ some cs → all readable_cell cs ≡ true
    → cells_misfit cs ≡ false → Adds out p s names ns (cell_lines s first cs) out' r

-- the lines of a cell that is read
pub cell_lines_lem : (letter w : ℕ) (body : List ℕ) (c : Cell) → read_plain_cell (whole letter (w ∷ body)) ≡ some c → read_all read_line (raws body) ≡ some c.lines
unfolding read_plain_cell
cell_lines_lem letter w body c e = go (eqb letter 0x43) e
  where
    known : (o : Option (List RenderLine)) → map (cell w 1) o ≡ some c → o ≡ some c.lines
    known none e = absurd (let z : ◌≡◌ {A = ℕ} 0 1 = cc in omega arith)
    known (some ls) e = ap (λ (d : Cell). some d.lines) (some-injective (cell w 1 ls) c e)

    go : (t : Bool) → (if t then read_cell_content (w ∷ body) else none) ≡ some c → read_all read_line (raws body) ≡ some c.lines
    go true e = known (read_all read_line (raws body)) e
    go false e = absurd (let z : ◌≡◌ {A = ℕ} 0 1 = cc in omega arith)

-- what has no width is no cell
pub no_width_lem : (letter : ℕ) (c : Cell) → read_plain_cell (whole letter []) ≡ some c → ⊥
unfolding read_plain_cell
no_width_lem letter c e = go (eqb letter 0x43) e
  where
    go : (t : Bool) → (if t then read_cell_content [] else none) ≡ some c → ⊥
    go true e = let z : ◌≡◌ {A = ℕ} 0 1 = cc in omega arith
    go false e = let z : ◌≡◌ {A = ℕ} 0 1 = cc in omega arith

pub no_cells_read : (rest : List Raw) (cs : List Cell) → read_all read_plain_cell (broken ∷ rest) ≡ some cs → ⊥
unfolding read_plain_cell
no_cells_read rest cs e = let x = (read_first read_plain_cell broken rest cs e).first in let z : ◌≡◌ {A = ℕ} 0 1 = cc in omega arith

-- each field has three bytes at least, but for a rest that is none
thirds : (f : ℕ) (bs : List ℕ) → 3 * length (raws_f f bs) ≤ length bs + 2
unfolding raws_f
thirds zero bs = omega arith
thirds (suc f) [] = omega arith
thirds (suc f) (l ∷ []) = omega arith
thirds (suc f) (l ∷ x ∷ []) = omega arith
thirds (suc f) (l ∷ x ∷ o ∷ rest) =
    let n = x * 256 + o in
    by_if (λ (rs : List Raw). 3 * length rs ≤ length (l ∷ x ∷ o ∷ rest) + 2) (leb n (length rest))
    (λ _. omega (arith, thirds f (drop n rest), length-drop n rest))
    (λ _. omega arith)

-- a width, and the bytes after it
pub width_first : (bs : List ℕ) → 1 ≤ length bs → bs ≡ get_or bs 0 0 ∷ take (length bs - 1) (drop 1 bs)
width_first [] h = absurd (omega (arith, h))
width_first (b ∷ bs) h =
    let n : suc (length bs) - 1 ≡ length bs = omega arith in
    rw n (ap (λ (l : List ℕ). b ∷ l) (sym (take_all (length bs) bs (omega arith))))

-- The lines of a cell are few.
pub cell_few : (bs : List ℕ) → length bs < 65536 → 1 ≤ length bs → length (raws (take (length bs - 1) (drop 1 bs))) ≤ 21845
unfolding raws
cell_few bs h k =
    let body = take (length bs - 1) (drop 1 bs) in
    omega (arith, thirds (length body) body, ap length (width_first bs k), h)

pub none_there : (bs : List ℕ) → length bs < 1 → bs ≡ []
none_there [] h = refl
none_there (b ∷ bs) h = absurd (omega (arith, h))

module _ (out : List ℕ) (p : Added) (s : RenderOptions) (names : List ℕ) (drawn : Bool) (letter : ℕ) where
  -- A cell behind a border: the border leaves the names.
  pub stacks : (o₁ out' : List ℕ) (q : Lines) (r : Added) (w : ℕ) (bytes body : List ℕ) → bytes ≡ w ∷ body → AddsRuleIf out p.lines s HorizVert drawn o₁ q
      → AddsCell o₁ (added q p.from) s names body out' r → StacksCell out p s names drawn (whole letter bytes) out' r
  unfolding readable_lines
  stacks o₁ out' q r w bytes body width rule one ns c reads read ok apart =
      let its : read_all read_line (raws body) ≡ some c.lines = cell_lines_lem letter w body c (sym (ap (λ (bs : List ℕ). read_plain_cell (whole letter bs)) width) ∙ read) in
      let edge = rule_if s HorizVert drawn in
      let a₁ = adds_edge out p s names ns o₁ q HorizVert drawn reads rule in
      let a₂ = one (names_left ns edge) c.lines a₁.waiting its ok apart in
      adds_then out p s names ns o₁ out' (added q p.from) r edge (behind_prefixes s true c.lines ([] ∷ [])) a₁ a₂

  -- A field that is no cell.
  pub stacks_none : (out' : List ℕ) (r : Added) (bytes : List ℕ) → bytes ≡ [] → StacksCell out p s names drawn (whole letter bytes) out' r
  stacks_none out' r bytes empty ns c reads read ok apart =
      absurd (no_width_lem letter c (sym (ap (λ (bs : List ℕ). read_plain_cell (whole letter bs)) empty) ∙ read))

module _ (first : Bool) (out : List ℕ) (p : Added) (s : RenderOptions) (names : List ℕ) (fields : List Raw) where
  -- No cell is left.
  from_none : fields ≡ [] → AddsFrom first out p s names fields out p
  from_none is ns cs reads read ok apart =
      let none_left = read_none read_plain_cell cs (sym (ap (read_all read_plain_cell) is) ∙ read) in
      rw (none_left, cells_none s first) (adds_none out p s names ns reads)

  -- A rest that is no field.
  from_broken : (out' : List ℕ) (r : Added) (rest : List Raw) → fields ≡ broken ∷ rest → AddsFrom first out p s names fields out' r
  from_broken out' r rest is ns cs reads read ok apart = absurd (no_cells_read rest cs (sym (ap (read_all read_plain_cell) is) ∙ read))

  -- One cell, and those after it.
  from_on : (mid out' : List ℕ) (m r : Added) (drawn : Bool) (field : Raw) (rest : List Raw) → drawn ≡ draws_between s first → fields ≡ field ∷ rest
      → StacksCell out p s names drawn field mid m → AddsFrom false mid m s names rest out' r → AddsFrom first out p s names fields out' r
  unfolding all
  from_on mid out' m r drawn field rest sep is one others ns cs reads read ok apart =
      let x = read_first read_plain_cell field rest cs (sym (ap (read_all read_plain_cell) is) ∙ read) in
      let good : all readable_cell (x.one ∷ x.more) ≡ true = sym (ap (all readable_cell) x.are) ∙ ok in
      let lines = x.one.lines in
      let edge : rule_if s HorizVert drawn ≡ between s first = ap (rule_if s HorizVert) sep ∙ sym (between_is s first) in
      let fit : (any_overlapping lines || cells_misfit x.more) ≡ false = sym (cells_misfit_on x.one x.more) ∙ sym (ap cells_misfit x.are) ∙ apart in
      let new = behind_prefixes s true lines ([] ∷ []) in
      let a₁ : Adds out p s names ns (between s first ++ new) mid m =
      rw edge at (one ns x.one reads x.first (and_left (readable_cell x.one) (all readable_cell x.more) good) (or_left (any_overlapping lines) (cells_misfit x.more) fit)) in
      let a₂ =
      others (names_left ns (between s first ++ new)) x.more a₁.waiting x.later (and_right (readable_cell x.one) (all readable_cell x.more) good)
      (or_right (any_overlapping lines) (cells_misfit x.more) fit) in
      rw (x.are, cells_on s first x.one x.more, ← append_assoc (between s first) new (cell_lines s false x.more))
      (adds_then out p s names ns mid out' m r (between s first ++ new) (cell_lines s false x.more) a₁ a₂)

-- Some cells are added, and the others are left; the names that still wait begin at a place too.
pub record Stack (out₀ : List ℕ) (p : Lines) (s : RenderOptions) (names cells out : List ℕ) (q : Added) (drawn : Bool) (left : List Raw) : Type 0 where
  pub size : length out ≡ length out₀
  pub waiting : q.from ≤ length names
  pub bounds : InBounds q.lines
  pub few : q.lines.count + 21846 * length left ≤ 415071
  pub first : Bool
  pub sep : drawn ≡ draws_between s first
  pub lines : (out' : List ℕ) (r : Added) → AddsFrom first out q s names left out' r → AddsCells out₀ p s names cells out' r

pub stack_start : (out : List ℕ) (p : Lines) (s : RenderOptions) (names cells : List ℕ) (left : List Raw) → InBounds p → p.count ≤ 65535 → length (raws cells) ≤ 16
    → left ≡ raws cells → Stack out p s names cells out (added p 0) false left
stack_start out p s names cells left h k n e =
    rw e (record {
      size = refl;
      waiting = omega arith;
      bounds = h;
      few = omega (arith, k, n);
      first = true;
      sep = refl;
      lines = λ out' r others. others;
    })

module _ (out₀ : List ℕ) (p : Lines) (s : RenderOptions) (names cells out : List ℕ) (q : Added) (drawn : Bool) (left : List Raw)
    (w : Stack out₀ p s names cells out q drawn left) where
  -- one cell on
  pub stack_on : (field : Raw) (others : List Raw) (out' : List ℕ) (r : Added) → left ≡ field ∷ others → length out' ≡ length out → InBounds r.lines
      → r.from ≤ length names → r.lines.count ≤ q.lines.count + 21846 → StacksCell out q s names drawn field out' r
      → Stack out₀ p s names cells out' r s.borders others
  stack_on field others out' r is same b wait k one =
      let n : length left ≡ suc (length others) = ap length is in
      record {
        size = same ∙ w.size;
        waiting = wait;
        bounds = b;
        few = omega (arith, w.few, n, k);
        first = false;
        sep = refl;
        lines = λ out'' z more. w.lines out'' z (from_on w.first out q s names left out' out'' r z drawn field others w.sep is one more);
      }

  -- a rest that is no field is passed over
  pub stack_broken : (others : List Raw) → left ≡ broken ∷ others → Stack out₀ p s names cells out q drawn others
  stack_broken others is =
      let n : length left ≡ suc (length others) = ap length is in
      record {
        size = w.size;
        waiting = w.waiting;
        bounds = w.bounds;
        few = omega (arith, w.few, n);
        first = w.first;
        sep = w.sep;
        lines = λ out' r more. w.lines out' r (from_broken w.first out q s names left out' r others is);
      }

  -- its lines are few
  pub stack_few : q.lines.count < 900000
  stack_few = omega (arith, w.few)

  -- the end
  pub stack_end : left ≡ [] → AddsCells out₀ p s names cells out q
  stack_end is = w.lines out q (from_none w.first out q s names left is)
