-- Laws of the refusals of whole sheets and lists of cells, and what passes them.
-- Assumes nothing.
use mathlib.Core.Path.{◌≡◌, refl, sym, ap, ap₂, ◌∙◌}
use mathlib.Core.Bool.{Bool, true, false, not}
use mathlib.Core.Option.{Option, none, some}
use mathlib.Core.List.{List, [], ◌∷◌}
use Prim.Native.Nat.{ℕ, ◌+◌, ◌-◌, ◌*◌, ◌≤◌, ◌<◌}
use native.Mathlib.Omega.{arith}
use lib.Dec.{leb, eqb}
use lib.ListN.{length, take, drop, get_or, length-drop}
use lib.Seq.{length-take-le, drop-drop}
use borrow.Author.Tests.{leb-true, leb-false, eqb-true, eqb-false, eq-eqb, ne_eqb}
use Rattle.std.specs.Prelude.{if◌then◌else◌}
use Rattle.characters.proofs.Tests.{by_if}
use Rattle.fields.specs.Field.{Raw, whole, raws_f, raws, read_all, all, part}
use Rattle.fields.specs.First.{first_of, first_over, refusal_of, unless}
use Rattle.fields.proofs.Fields.{raws_cons}
use Rattle.fields.proofs.Readings.{read_size}
use Rattle.fields.proofs.Sheets.{Headed, head_left, sized, too_many, not_too_many}
use Rattle.fields.proofs.Texts.{rest}
use Rattle.fields.specs.Spans.{RenderLine, Hanging, Sheet, sheet_of, read_line, read_name, read_hanging, before_hanging, from_hanging, before_names, from_names}
use Rattle.fields.specs.Spans.{parts, counted, read_parts, read_headed, read_sheet, read_cell, read_cells, read_plain_cell, read_plain_cells, wide, readable_cell}
use Rattle.fields.specs.SpanRefusals.{lines_refusal, names_refusal, hanging_refusal, overhang_refusal, sheet_refusal, cell_refusal, plain_cell_refusal, cells_refusal, plain_cells_refusal}
use Rattle.rows.proofs.Refusing.{sheet_walk, sheet_miscounts, cells_all, plain_cells_all}
use Rattle.fields.specs.Sheet.{up_to16}
use Rattle.checks.specs.Walk.{few_refusal}
use Rattle.checks.specs.Split.{BodyAt, PartsIn, FindsParts, parts_refusal, counted_refusal}
use Rattle.checks.specs.declared.sheet.Body.{Body}
use Rattle.checks.specs.declared.sheet.Parts.{Parts}

-- ---- the head

-- what says how many lines follow has two bytes
counted_two : (s : List ℕ) (o : Option Sheet) → (length s ≡ 2 → ⊥) → counted s o ≡ none
counted_two s none h = refl
counted_two [] (some t) h = refl
counted_two (a ∷ []) (some t) h = refl
counted_two (a ∷ b ∷ []) (some t) h = absurd (h refl)
counted_two (a ∷ b ∷ x ∷ s) (some t) h = refl

-- a first field that is no head
headless : (l : ℕ) (s : List ℕ) (rs : List Raw) → (l ≡ 0x48 → length s ≡ 2 → ⊥) → read_headed (whole l s ∷ rs) ≡ none
unfolding read_headed
headless l s rs h =
    by_if (λ (o : Option Sheet). o ≡ none) (eqb l 0x48) (λ e. counted_two s (read_parts rs) (h (eqb-true l 0x48 e))) (λ e. refl)

unheaded : (s : List ℕ) → (Headed s → ⊥) → read_headed (raws s) ≡ none
unfolding read_headed raws raws_f
unheaded [] h = refl
unheaded (l ∷ []) h = refl
unheaded (l ∷ a ∷ []) h = refl
unheaded (l ∷ a ∷ b ∷ s) h =
    by_if (λ (rs : List Raw). read_headed rs ≡ none) (leb (a * 256 + b) (length s))
    (λ e.
    let k = leb-true (a * 256 + b) (length s) e in
    headless l (take (a * 256 + b) s) _
    (λ p q. let n : a * 256 + b ≡ 2 = sym (length-take-le (a * 256 + b) s k) ∙ q in h (omega arith, p, n)))
    (λ e. refl)

-- no head, no sheet
pub no_head : (s : List ℕ) → (Headed s → ⊥) → 1 ≡ sheet_refusal s
unfolding sheet_refusal read_sheet
no_head s h = rw (unheaded s h)

-- ---- behind the head

module _ (b : List ℕ) (r : Body) (f : BodyAt b r) (n : ℕ) where
  -- another number of lines than the head says
  pub wrong_count : (r.count ≡ n → ⊥) → 1 ≡ counted_refusal n (raws b)
  unfolding counted_refusal
  wrong_count k = rw (ne_eqb (length (before_names (before_hanging (raws b)))) n (λ e. k (f.count ∙ e)))

  -- as many lines as the head says, then F fields, then V fields
  pub right_count : (x y z : ℕ) → r.count ≡ n → x ≡ lines_refusal (raws (take r.names b)) → y ≡ names_refusal (raws (part r.names r.hanging b))
      → z ≡ first_over hanging_refusal (raws (take (length b - r.hanging) (drop r.hanging b))) → first_of x (first_of y z) ≡ counted_refusal n (raws b)
  unfolding counted_refusal overhang_refusal
  right_count x y z k ex ey ez =
      let lines : x ≡ lines_refusal (before_names (before_hanging (raws b))) = ex ∙ ap lines_refusal f.lines in
      let names : y ≡ names_refusal (from_names (before_hanging (raws b))) = ey ∙ ap names_refusal f.names in
      let hung : z ≡ first_over hanging_refusal (from_hanging (raws b)) = rw (rest b r.hanging) at ez ∙ ap (first_over hanging_refusal) f.hung in
      rw (eq-eqb (length (before_names (before_hanging (raws b)))) n (sym f.count ∙ k)) (ap₂ first_of lines (ap₂ first_of names hung))

counts_right : (n : ℕ) (rs : List Raw) → eqb (length (before_names (before_hanging rs))) n ≡ true → counted_refusal n rs ≡ parts_refusal rs
unfolding counted_refusal
counts_right n rs k = rw k

counts_wrong : (n : ℕ) (rs : List Raw) → eqb (length (before_names (before_hanging rs))) n ≡ false → counted_refusal n rs ≡ 1
unfolding counted_refusal
counts_wrong n rs k = rw k

-- A head, and the fields behind it.
pub headed_sheet : (s : List ℕ) → Headed s → (n : ℕ) → n ≡ get_or s 3 0 * 256 + get_or s 4 0
    → counted_refusal n (raws (take (length s - 5) (drop 5 s))) ≡ sheet_refusal s
headed_sheet s h n e = rw (rest s 5) (go (eqb (length (before_names (before_hanging (raws (drop 5 s))))) n) refl)
  where
    go : (t : Bool) → eqb (length (before_names (before_hanging (raws (drop 5 s))))) n ≡ t → counted_refusal n (raws (drop 5 s)) ≡ sheet_refusal s
    go true k =
        let rs = raws (drop 5 s) in
        counts_right n rs k ∙ sheet_walk (get_or s 3 0) (get_or s 4 0) rs s (head_left s h) (eqb-true (length (before_names (before_hanging rs))) n k ∙ e)
    go false k =
        let rs = raws (drop 5 s) in
        counts_wrong n rs k
        ∙ sheet_miscounts (get_or s 3 0) (get_or s 4 0) rs s (head_left s h) (λ x. eqb-false (length (before_names (before_hanging rs))) n k (x ∙ sym e))

-- ---- a sheet that is read

-- its three parts
record PartsRead (rs : List Raw) (t : Sheet) : Type 0 where
  lines : read_all read_line (before_names (before_hanging rs)) ≡ some t.lines
  names : read_all read_name (from_names (before_hanging rs)) ≡ some t.names
  hung : read_all read_hanging (from_hanging rs) ≡ some t.overhang

-- parts that make a sheet are the sheet's
parts_are : (o : Option (List RenderLine)) (p : Option (List (List ℕ))) (q : Option (List Hanging)) (t : Sheet) → parts o p q ≡ some t
    → (o ≡ some t.lines) × (p ≡ some t.names) × (q ≡ some t.overhang)
parts_are none p q t e = absurd (let z : ◌≡◌ {A = ℕ} 0 1 = cc in omega arith)
parts_are (some ls) none q t e = absurd (let z : ◌≡◌ {A = ℕ} 0 1 = cc in omega arith)
parts_are (some ls) (some ns) none t e = absurd (let z : ◌≡◌ {A = ℕ} 0 1 = cc in omega arith)
parts_are (some ls) (some ns) (some vs) t e =
    let same : sheet_of ls ns vs ≡ t = cc in
    (ap (λ (x : Sheet). some x.lines) same, ap (λ (x : Sheet). some x.names) same, ap (λ (x : Sheet). some x.overhang) same)

parts_read : (rs : List Raw) (t : Sheet) → read_parts rs ≡ some t → PartsRead rs t
parts_read rs t e =
    let (a, b, c) = parts_are (read_all read_line (before_names (before_hanging rs))) (read_all read_name (from_names (before_hanging rs))) (read_all read_hanging (from_hanging rs)) t e in
    record { lines = a; names = b; hung = c }

-- two bytes count the lines
record Counts (s : List ℕ) (o : Option Sheet) (t : Sheet) : Type 0 where
  size : length s ≡ 2
  head : get_or s 0 0 * 256 + get_or s 1 0 ≡ length t.lines
  same : o ≡ some t

counts : (s : List ℕ) (o : Option Sheet) (t : Sheet) → counted s o ≡ some t → Counts s o t
counts s none t e = absurd (let z : ◌≡◌ {A = ℕ} 0 1 = cc in omega arith)
counts [] (some u) t e = absurd (let z : ◌≡◌ {A = ℕ} 0 1 = cc in omega arith)
counts (a ∷ []) (some u) t e = absurd (let z : ◌≡◌ {A = ℕ} 0 1 = cc in omega arith)
counts (a ∷ b ∷ []) (some u) t e = go (eqb (a * 256 + b) (length u.lines)) refl e
  where
    go : (k : Bool) → eqb (a * 256 + b) (length u.lines) ≡ k → (if k then some u else none) ≡ some t → Counts (a ∷ b ∷ []) (some u) t
    go true k e =
        let same : u ≡ t = cc in
        record { size = refl; head = eqb-true (a * 256 + b) (length u.lines) k ∙ ap (λ (x : Sheet). length x.lines) same; same = e }
    go false k e = absurd (let z : ◌≡◌ {A = ℕ} 0 1 = cc in omega arith)
counts (a ∷ b ∷ c ∷ s) (some u) t e = absurd (let z : ◌≡◌ {A = ℕ} 0 1 = cc in omega arith)

heads : (l : ℕ) (c : List ℕ) (rs : List Raw) (t : Sheet) → read_headed (whole l c ∷ rs) ≡ some t → Counts c (read_parts rs) t
unfolding read_headed
heads l c rs t e = go (eqb l 0x48) e
  where
    go : (b : Bool) → (if b then counted c (read_parts rs) else none) ≡ some t → Counts c (read_parts rs) t
    go true e = counts c (read_parts rs) t e
    go false e = absurd (let z : ◌≡◌ {A = ℕ} 0 1 = cc in omega arith)

-- its head, and the parts behind it
record SheetRead (bs : List ℕ) (t : Sheet) : Type 0 where
  long : 5 ≤ length bs
  head : get_or bs 3 0 * 256 + get_or bs 4 0 ≡ length t.lines
  behind : PartsRead (raws (drop 5 bs)) t

-- two bytes of a head, and the bytes after them
after_head : (l h o n : ℕ) (rest : List ℕ) (t : Sheet) → n ≡ 2 → n ≤ length rest → Counts (take n rest) (read_parts (raws (drop n rest))) t
    → SheetRead (l ∷ h ∷ o ∷ rest) t
after_head l h o n [] t e k c = absurd (omega arith)
after_head l h o n (a ∷ []) t e k c = absurd (omega arith)
after_head l h o n (a ∷ b ∷ rest) t e k c =
    record { long = omega arith; head = rw e at c.head; behind = parts_read (raws rest) t (rw e at c.same) }

sheet_read : (bs : List ℕ) (t : Sheet) → read_sheet bs ≡ some t → SheetRead bs t
unfolding read_sheet read_headed raws raws_f
sheet_read [] t e = absurd (let z : ◌≡◌ {A = ℕ} 0 1 = cc in omega arith)
sheet_read (l ∷ []) t e = absurd (let z : ◌≡◌ {A = ℕ} 0 1 = cc in omega arith)
sheet_read (l ∷ h ∷ []) t e = absurd (let z : ◌≡◌ {A = ℕ} 0 1 = cc in omega arith)
sheet_read (l ∷ h ∷ o ∷ rest) t e = go (leb (h * 256 + o) (length rest)) refl
  where
    go : (b : Bool) → leb (h * 256 + o) (length rest) ≡ b → SheetRead (l ∷ h ∷ o ∷ rest) t
    go true k =
        let n = h * 256 + o in
        let fits = leb-true n (length rest) k in
        let c = heads l (take n rest) (raws (drop n rest)) t (sym (ap read_headed (raws_cons l h o rest fits)) ∙ e) in
        after_head l h o n rest t (sym (length-take-le n rest fits) ∙ c.size) fits c
    go false k = absurd (let z : none ≡ some t = rw k at e in let z : ◌≡◌ {A = ℕ} 0 1 = cc in omega arith)

-- Bytes without a head are no sheet.
pub short_sheet : (s : List ℕ) (r : Parts) → length s < 5 → FindsParts s r
short_sheet s r h t e = absurd (omega (arith, (sheet_read s t e).long))

-- the places behind a head
abbrev pub placed : Body → Parts
placed r = record { names = 5 + r.names; hanging = 5 + r.hanging }

-- behind a head of five bytes, where the fields of the rest are split
module _ (s : List ℕ) (r : Body) (h : 5 ≤ length s) (f : BodyAt (take (length s - 5) (drop 5 s)) r) where
  body : BodyAt (drop 5 s) r
  body = rw (rest s 5) at f

  -- The places are in order.
  pub parts_in : PartsIn s (placed r)
  parts_in =
      record { order = omega (arith, body.order); inside = omega (arith, body.inside, length-drop 5 s); behind = λ _. omega arith }

  -- The lines, the names and the V fields of a sheet, by their places.
  pub finds_parts : get_or s 3 0 < 256 → get_or s 4 0 < 256 → FindsParts s (placed r)
  finds_parts x y t e =
      let p = sheet_read s t e in
      let d : 5 + r.names - 5 ≡ r.names = omega arith in
      let width : 5 + r.hanging - (5 + r.names) ≡ r.hanging - r.names = omega arith in
      let fields : raws (part 5 (5 + r.names) s) ≡ before_names (before_hanging (raws (drop 5 s))) = rw d body.lines in
      let names : raws (part (5 + r.names) (5 + r.hanging) s) ≡ from_names (before_hanging (raws (drop 5 s))) =
      rw width (ap (λ (b : List ℕ). raws (take (r.hanging - r.names) b)) (sym (drop-drop r.names 5 s)) ∙ body.names) in
      let inside = parts_in.inside in
      record {
        lines = record { order = omega arith; inside = omega (arith, parts_in.order, inside); reads = ap (read_all read_line) fields ∙ p.behind.lines };
        names = record { order = parts_in.order; inside = inside; reads = ap (read_all read_name) names ∙ p.behind.names };
        hung = record {
          reads = ap (λ (b : List ℕ). read_all read_hanging (raws b)) (sym (drop-drop r.hanging 5 s)) ∙ ap (read_all read_hanging) body.hung ∙ p.behind.hung;
        };
        few = omega (arith, ap length fields, read_size read_line (before_names (before_hanging (raws (drop 5 s)))) t.lines p.behind.lines, p.head);
      }

-- ---- lists of cells, at most 16

-- fields judged by themselves, as they are judged when they are read
few_read : {A : Type 0} (judge : Raw → ℕ) (f : Raw → Option A) (g : List A → ℕ) (rs : List Raw) → first_over judge rs ≡ refusal_of g (read_all f rs)
    → few_refusal judge rs ≡ refusal_of g (up_to16 (read_all f rs))
unfolding few_refusal
few_read judge f g rs e = go (leb (length rs) 16) refl
  where
    go : (b : Bool) → leb (length rs) 16 ≡ b → (if b then first_over judge rs else 1) ≡ refusal_of g (up_to16 (read_all f rs))
    go true k = e ∙ not_too_many g (length rs) (read_all f rs) (sized f rs) (leb-true (length rs) 16 k)
    go false k = too_many g (length rs) (read_all f rs) (sized f rs) (omega (arith, leb-false (length rs) 16 k))

pub few_cells : (s : List ℕ) → few_refusal cell_refusal (raws s) ≡ cells_refusal s
unfolding cells_refusal read_cells
few_cells s = few_read cell_refusal read_cell (λ cs. if not (all wide cs) then 2 else unless (all readable_cell cs)) (raws s) (cells_all (raws s))

pub few_plain : (s : List ℕ) → few_refusal plain_cell_refusal (raws s) ≡ plain_cells_refusal s
unfolding plain_cells_refusal read_plain_cells
few_plain s = few_read plain_cell_refusal read_plain_cell (λ cs. if not (all wide cs) then 2 else unless (all readable_cell cs)) (raws s) (plain_cells_all (raws s))
