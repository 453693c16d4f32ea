-- Refusals 1, 2 and 3 of the calls on a sheet, as the code finds them: one number for each input, and the first of these. Where it is not 0
-- it is the call's refusal; where it is 0 the inputs pass (Passing), and the call's verdict is what follows the three refusals.
-- Assumes nothing.
use mathlib.Core.Path.{◌≡◌, refl, sym, ap, ap₂, ◌∙◌}
use mathlib.Core.Bool.{Bool, true, false, not, ◌&&◌, ◌||◌}
use mathlib.Core.Option.{Option, none, some}
use mathlib.Core.List.{List}
use Prim.Native.Nat.{ℕ, zero, suc}
use native.Mathlib.Omega.{arith}
use lib.Dec.{leb, eqb}
use Rattle.std.specs.Prelude.{if◌then◌else◌}
use Rattle.fields.specs.Field.{all}
use Rattle.fields.specs.First.{first_of, refusal_of, unless}
use Rattle.fields.specs.Answer.{Verdict, refused}
use Rattle.fields.specs.Sheet.{read_prefixes}
use Rattle.fields.specs.Refusals.{prefixes_refusal}
use Rattle.fields.specs.Text.{readable_text}
use Rattle.fields.proofs.First.{one_first, first_one}
use Rattle.rows.specs.Answer.{width_refusal, or_misfit, handed_on, no_width_hung, no_width, subrender_verdict, columns_verdict, vert_row_verdict}
use Rattle.rows.specs.declared.RenderOptions.{RenderOptions}
use Rattle.fields.specs.Spans.{Sheet, Cell, read_sheet, read_cells, read_plain_cells, wide_hanging, wide, readable_sheet, readable_cell}
use Rattle.rows.specs.SubRenderer.{of_sheet, append_subrender, append_columns_with_borders, no_border_above, append_vert_row}
use Rattle.fields.specs.SpanRefusals.{sheet_refusal, cells_refusal, plain_cells_refusal}

-- ---- numbers and tests

-- refusal 2 by one test, 3 by another
abbrev numbered : Bool → Bool → ℕ
numbered narrow ok = if narrow then 2 else unless ok

both_numbered : (a b x y : Bool) → first_of (numbered (not a) x) (numbered (not b) y) ≡ numbered (not (a && b)) (x && y)
unfolding first_of
both_numbered true b true y = refl
both_numbered true true false true = refl
both_numbered true true false false = refl
both_numbered true false false y = refl
both_numbered false true x true = refl
both_numbered false true x false = refl
both_numbered false false x y = refl

width_numbered : (a x z e : Bool) → first_of (numbered a x) (first_of (unless z) (if e then 2 else 0)) ≡ numbered (e || a) (x && z)
unfolding first_of
width_numbered true x true true = refl
width_numbered true x true false = refl
width_numbered true x false true = refl
width_numbered true x false false = refl
width_numbered false true true true = refl
width_numbered false true true false = refl
width_numbered false true false true = refl
width_numbered false true false false = refl
width_numbered false false true true = refl
width_numbered false false true false = refl
width_numbered false false false true = refl
width_numbered false false false false = refl

last_numbered : (a x e : Bool) → first_of (numbered a x) (if e then 2 else 0) ≡ numbered (e || a) x
unfolding first_of
last_numbered true x true = refl
last_numbered true x false = refl
last_numbered false true true = refl
last_numbered false true false = refl
last_numbered false false true = refl
last_numbered false false false = refl

and_turn : (a b : Bool) → (a && b) ≡ (b && a)
and_turn true true = refl
and_turn true false = refl
and_turn false true = refl
and_turn false false = refl

-- a verdict by its number: the refusal, or what follows
record Judges (n : ℕ) (v w : Verdict) : Type 0 where
  no : (n ≡ 0 → ⊥) → v ≡ refused n
  yes : n ≡ 0 → v ≡ w

by_number : (n : ℕ) (a x : Bool) (w : Verdict) → n ≡ numbered a x → Judges n (if a then refused 2 else if not x then refused 3 else w) w
by_number n true x w e = record { no = λ h. ap refused (sym e); yes = λ h. absurd (omega arith) }
by_number n false true w e = record { no = λ h. absurd (h e); yes = λ h. refl }
by_number n false false w e = record { no = λ h. ap refused (sym e); yes = λ h. absurd (omega arith) }

-- what cannot be read
by_one : (n : ℕ) (w : Verdict) → n ≡ 1 → Judges n (refused 1) w
by_one n w e = record { no = λ h. ap refused (sym e); yes = λ h. absurd (omega arith) }

first_fails : (a b : ℕ) → first_of (first_of 1 a) b ≡ 1
first_fails a b = ap (λ (n : ℕ). first_of n b) (one_first a) ∙ one_first b

second_fails : (a b : ℕ) → first_of (first_of a 1) b ≡ 1
second_fails a b = ap (λ (n : ℕ). first_of n b) (first_one a) ∙ one_first b

third_fails : (a b : ℕ) → first_of a (first_of 1 b) ≡ 1
third_fails a b = ap (first_of a) (one_first b) ∙ first_one a

-- the numbers over what is read
abbrev sheet_number : Option Sheet → ℕ
sheet_number o = refusal_of (λ t. numbered (not (all wide_hanging t.overhang)) (readable_sheet t)) o

abbrev list_number : Option (List Cell) → ℕ
list_number o = refusal_of (λ cs. numbered (not (all wide cs)) (all readable_cell cs)) o

abbrev texts_number : Option (List (List ℕ)) → ℕ
texts_number o = refusal_of (λ ps. unless (all (readable_text false) ps)) o

-- ---- the calls over cells

-- a sheet and cells, and what follows where both pass
module _ (n : ℕ) (s : RenderOptions) (follows : Sheet → List Cell → Verdict) where
  abbrev cells_verdict : Option Sheet → Option (List Cell) → Verdict
  cells_verdict none c = refused 1
  cells_verdict (some old) none = refused 1
  cells_verdict (some old) (some cs) =
      if no_width s old cs then refused 2 else if not (readable_sheet old && all readable_cell cs) then refused 3 else follows old cs

  cells_tests : (old : Sheet) (cs : List Cell) → first_of (first_of (sheet_number (some old)) (list_number (some cs))) (width_refusal s.width)
      ≡ numbered (no_width s old cs) (readable_sheet old && all readable_cell cs)
  cells_tests old cs =
      let v = all wide_hanging old.overhang in
      let w = all wide cs in
      let x = readable_sheet old in
      let y = all readable_cell cs in
      let e = eqb s.width 0 in
      ap (λ (m : ℕ). first_of m (if e then 2 else 0)) (both_numbered v w x y)
      ∙ last_numbered (not (v && w)) (x && y) e
      ∙ ap (λ (b : Bool). numbered (e || not b) (x && y)) (and_turn v w)

  cells_no : (o : Option Sheet) (c : Option (List Cell)) → n ≡ first_of (first_of (sheet_number o) (list_number c)) (width_refusal s.width) → (n ≡ 0 → ⊥)
      → cells_verdict o c ≡ refused n
  cells_no none c e h = (by_one n (refused 1) (e ∙ first_fails (list_number c) (width_refusal s.width))).no h
  cells_no (some old) none e h = (by_one n (refused 1) (e ∙ second_fails (sheet_number (some old)) (width_refusal s.width))).no h
  cells_no (some old) (some cs) e h = (by_number n (no_width s old cs) (readable_sheet old && all readable_cell cs) (follows old cs) (e ∙ cells_tests old cs)).no h

  cells_yes : (o : Option Sheet) (c : Option (List Cell)) → n ≡ first_of (first_of (sheet_number o) (list_number c)) (width_refusal s.width) → n ≡ 0
      → (old : Sheet) (cs : List Cell) → o ≡ some old → c ≡ some cs → cells_verdict o c ≡ follows old cs
  cells_yes o c e h old cs p q =
      ap₂ cells_verdict p q
      ∙ (by_number n (no_width s old cs) (readable_sheet old && all readable_cell cs) (follows old cs)
      (e ∙ ap₂ (λ (a : Option Sheet) (b : Option (List Cell)). first_of (first_of (sheet_number a) (list_number b)) (width_refusal s.width)) p q ∙ cells_tests old cs)).yes h

-- the numbers that the code finds
abbrev pub columns_number : RenderOptions → List ℕ → List ℕ → ℕ
columns_number s old cs = first_of (first_of (sheet_refusal old) (cells_refusal cs)) (width_refusal s.width)

abbrev pub vert_row_number : RenderOptions → List ℕ → List ℕ → ℕ
vert_row_number s old cs = first_of (first_of (sheet_refusal old) (plain_cells_refusal cs)) (width_refusal s.width)

-- what follows refusals 1, 2 and 3
abbrev pub after_columns : RenderOptions → Bool → Sheet → List Cell → Verdict
after_columns s collapse old cs =
    if no_border_above s old cs collapse then refused 6 else or_misfit (append_columns_with_borders s old cs collapse)

abbrev pub after_vert_row : RenderOptions → Sheet → List Cell → Verdict
after_vert_row s old cs = or_misfit (handed_on old.overhang (append_vert_row s (of_sheet old) cs))

columns_same : (n : ℕ) (s : RenderOptions) (collapse : Bool) (o : Option Sheet) (c : Option (List Cell))
    → columns_verdict s o c collapse ≡ cells_verdict n s (after_columns s collapse) o c
unfolding columns_verdict
columns_same n s collapse none c = refl
columns_same n s collapse (some old) none = refl
columns_same n s collapse (some old) (some cs) = refl

vert_row_same : (n : ℕ) (s : RenderOptions) (o : Option Sheet) (c : Option (List Cell)) → vert_row_verdict s o c ≡ cells_verdict n s (after_vert_row s) o c
unfolding vert_row_verdict
vert_row_same n s none c = refl
vert_row_same n s (some old) none = refl
vert_row_same n s (some old) (some cs) = refl

-- THE NUMBER IS THE REFUSAL of `append_columns_with_borders`.
pub columns_refused : (n : ℕ) (s : RenderOptions) (old cs : List ℕ) (collapse : Bool) → n ≡ columns_number s old cs → (n ≡ 0 → ⊥)
    → columns_verdict s (read_sheet old) (read_cells cs) collapse ≡ refused n
unfolding sheet_refusal cells_refusal
columns_refused n s old cs collapse e h =
    columns_same n s collapse (read_sheet old) (read_cells cs) ∙ cells_no n s (after_columns s collapse) (read_sheet old) (read_cells cs) e h

-- WHERE IT IS 0 the call goes on.
pub columns_goes : (n : ℕ) (s : RenderOptions) (old cs : List ℕ) (collapse : Bool) → n ≡ columns_number s old cs → n ≡ 0
    → (t : Sheet) (ds : List Cell) → read_sheet old ≡ some t → read_cells cs ≡ some ds
    → columns_verdict s (read_sheet old) (read_cells cs) collapse ≡ after_columns s collapse t ds
unfolding sheet_refusal cells_refusal
columns_goes n s old cs collapse e h t ds p q =
    columns_same n s collapse (read_sheet old) (read_cells cs) ∙ cells_yes n s (after_columns s collapse) (read_sheet old) (read_cells cs) e h t ds p q

-- The same of `append_vert_row`.
pub vert_row_refused : (n : ℕ) (s : RenderOptions) (old cs : List ℕ) → n ≡ vert_row_number s old cs → (n ≡ 0 → ⊥)
    → vert_row_verdict s (read_sheet old) (read_plain_cells cs) ≡ refused n
unfolding sheet_refusal plain_cells_refusal
vert_row_refused n s old cs e h =
    vert_row_same n s (read_sheet old) (read_plain_cells cs) ∙ cells_no n s (after_vert_row s) (read_sheet old) (read_plain_cells cs) e h

pub vert_row_goes : (n : ℕ) (s : RenderOptions) (old cs : List ℕ) → n ≡ vert_row_number s old cs → n ≡ 0
    → (t : Sheet) (ds : List Cell) → read_sheet old ≡ some t → read_plain_cells cs ≡ some ds
    → vert_row_verdict s (read_sheet old) (read_plain_cells cs) ≡ after_vert_row s t ds
unfolding sheet_refusal plain_cells_refusal
vert_row_goes n s old cs e h t ds p q =
    vert_row_same n s (read_sheet old) (read_plain_cells cs) ∙ cells_yes n s (after_vert_row s) (read_sheet old) (read_plain_cells cs) e h t ds p q

-- ---- `append_subrender`

-- the number that the code finds
abbrev pub subrender_number : RenderOptions → List ℕ → List ℕ → List ℕ → ℕ
subrender_number s old guest ps = first_of (first_of (sheet_refusal old) (sheet_refusal guest)) (first_of (prefixes_refusal ps) (width_refusal s.width))

-- what follows refusals 1, 2 and 3
abbrev pub after_subrender : RenderOptions → Bool → Sheet → Sheet → List (List ℕ) → Verdict
after_subrender s rep old guest ps = or_misfit (handed_on old.overhang (append_subrender s (of_sheet old) guest.lines rep ps))

abbrev inputs_number : RenderOptions → Option Sheet → Option Sheet → Option (List (List ℕ)) → ℕ
inputs_number s o g p = first_of (first_of (sheet_number o) (sheet_number g)) (first_of (texts_number p) (width_refusal s.width))

inputs_tests : (s : RenderOptions) (old guest : Sheet) (ps : List (List ℕ)) → inputs_number s (some old) (some guest) (some ps)
    ≡ numbered (no_width_hung s old guest) (readable_sheet old && readable_sheet guest && all (readable_text false) ps)
inputs_tests s old guest ps =
    let v = all wide_hanging old.overhang in
    let w = all wide_hanging guest.overhang in
    let x = readable_sheet old in
    let y = readable_sheet guest in
    let z = all (readable_text false) ps in
    let e = eqb s.width 0 in
    ap (λ (m : ℕ). first_of m (first_of (unless z) (if e then 2 else 0))) (both_numbered v w x y) ∙ width_numbered (not (v && w)) (x && y) z e

inputs_no : (n : ℕ) (s : RenderOptions) (rep : Bool) (o g : Option Sheet) (p : Option (List (List ℕ))) → n ≡ inputs_number s o g p → (n ≡ 0 → ⊥)
    → subrender_verdict s o g p rep ≡ refused n
unfolding subrender_verdict
inputs_no n s rep none g p e h = (by_one n (refused 1) (e ∙ first_fails (sheet_number g) (first_of (texts_number p) (width_refusal s.width)))).no h
inputs_no n s rep (some old) none p e h =
    (by_one n (refused 1) (e ∙ second_fails (sheet_number (some old)) (first_of (texts_number p) (width_refusal s.width)))).no h
inputs_no n s rep (some old) (some guest) none e h =
    (by_one n (refused 1) (e ∙ third_fails (first_of (sheet_number (some old)) (sheet_number (some guest))) (width_refusal s.width))).no h
inputs_no n s rep (some old) (some guest) (some ps) e h =
    (by_number n (no_width_hung s old guest) (readable_sheet old && readable_sheet guest && all (readable_text false) ps) (after_subrender s rep old guest ps)
    (e ∙ inputs_tests s old guest ps)).no h

inputs_yes : (n : ℕ) (s : RenderOptions) (rep : Bool) (old guest : Sheet) (ps : List (List ℕ)) → n ≡ inputs_number s (some old) (some guest) (some ps) → n ≡ 0
    → subrender_verdict s (some old) (some guest) (some ps) rep ≡ after_subrender s rep old guest ps
unfolding subrender_verdict
inputs_yes n s rep old guest ps e h =
    (by_number n (no_width_hung s old guest) (readable_sheet old && readable_sheet guest && all (readable_text false) ps) (after_subrender s rep old guest ps)
    (e ∙ inputs_tests s old guest ps)).yes h

-- THE NUMBER IS THE REFUSAL of `append_subrender`.
pub subrender_refused : (n : ℕ) (s : RenderOptions) (old guest ps : List ℕ) (rep : Bool) → n ≡ subrender_number s old guest ps → (n ≡ 0 → ⊥)
    → subrender_verdict s (read_sheet old) (read_sheet guest) (read_prefixes ps) rep ≡ refused n
unfolding sheet_refusal prefixes_refusal
subrender_refused n s old guest ps rep e h = inputs_no n s rep (read_sheet old) (read_sheet guest) (read_prefixes ps) e h

-- WHERE IT IS 0 the call goes on.
pub subrender_goes : (n : ℕ) (s : RenderOptions) (old guest ps : List ℕ) (rep : Bool) → n ≡ subrender_number s old guest ps → n ≡ 0
    → (t u : Sheet) (qs : List (List ℕ)) → read_sheet old ≡ some t → read_sheet guest ≡ some u → read_prefixes ps ≡ some qs
    → subrender_verdict s (read_sheet old) (read_sheet guest) (read_prefixes ps) rep ≡ after_subrender s rep t u qs
unfolding sheet_refusal prefixes_refusal
subrender_goes n s old guest ps rep e h t u qs a b c =
    rw (a, b, c) (inputs_yes n s rep t u qs (rw (a, b, c) at e) h)

-- ---- no refusal of several

-- The first of two numbers is 0 where both are.
pub first_none : (a b : ℕ) → first_of a b ≡ 0 → (a ≡ 0) × (b ≡ 0)
unfolding first_of
first_none zero b e = (refl, e)
first_none (suc a) zero e = absurd (omega arith)
first_none (suc a) (suc b) e = absurd (go (leb a b) e)
  where
    go : (t : Bool) → (if t then suc a else suc b) ≡ 0 → ⊥
    go true e = omega arith
    go false e = omega arith
