-- Laws of a line behind its prefix, laid piece by piece, and of the lines of a guest, added one after the other.
-- Assumes nothing.
use mathlib.Core.Path.{◌≡◌, refl, sym, ap, ap₂, subst, ◌∙◌}
use mathlib.Core.Bool.{Bool, true, false, ◌&&◌, ◌||◌}
use mathlib.Core.Option
use mathlib.Core.Option.{Option, none, some, some-injective}
use mathlib.Core.List.{List, [], ◌∷◌, map, append-nil}
use Prim.Native.Nat.{ℕ, suc, ◌+◌, ◌-◌, ◌*◌, ◌≤◌, ◌<◌}
use native.Mathlib.Omega.{arith}
use lib.Dec.{leb, ltb, eqb}
use lib.ListN.{length, take, drop}
use borrow.Author.Tests.{ne_eqb}
use Rattle.std.specs.Prelude.{Option as RustOption, None, Some, if◌then◌else◌}
use Rattle.characters.proofs.Tests.{by_if, and_left, and_right, or_left, or_right, or_true}
use Rattle.fields.specs.Field.{Raw, whole, broken, raws, read_all, all}
use Rattle.fields.specs.Sheet.{Piece, str, fragment, read_str, read_piece, read_prefix, is_segment}
use Rattle.fields.proofs.Back.{Every, GoodPiece}
use Rattle.borders.specs.BorderHoriz.{stretch_to}
use Rattle.fields.specs.TaggedLine.{push_str, add_pieces}
use Rattle.rows.specs.SubRenderer.{later, in_front, with_names, padded, is_border}
use Rattle.rows.specs.Named.{names_left}
use Rattle.rows.specs.Answer.{fits}
use Rattle.rows.specs.declared.RenderOptions.{RenderOptions}
use Rattle.rows.proofs.Reading.{OnSome, some_of, Bytes}
use Rattle.fields.proofs.Texts.{rest}
use Rattle.fields.proofs.Readings.{read_first, read_none}
use Rattle.fields.specs.Spans.{Hole, RenderLine, text, border, read_holes, raw_holes, ends_within, holed, read_holed, read_border, read_line, readable_line, names_bytes}
use Rattle.rows.specs.Columns.{holed_text}
use Rattle.places.specs.Border.{ReadsBorder}
use Rattle.places.specs.declared.border.Border.{Border}
use Rattle.places.proofs.BorderLaws.{broken_line}
use Rattle.holes.specs.Drawing.{PushesHoled}
use Rattle.tagged_line.specs.Held.{Within, LineGrown, Held, Pushes}
use Rattle.tagged_line.specs.Pieces.{PiecesOf, AddsPieces}
use Rattle.tagged_line.specs.declared.line.Line.{Line}
use Rattle.extend_lines.specs.Emitted.{InBounds, OneLineMore, LineBegun, BeginsLine, AddsTextLine}
use Rattle.extend_lines.specs.declared.line.Lines.{Lines}
use Rattle.extend_lines.proofs.Emitting.{one_more}
use Rattle.extend_lines.proofs.Naming.{names_back, named_unfit}
use Rattle.append_subrender.specs.Misfit.{overlapping, guest_misfit, behind_prefix, behind_prefixes}
use Rattle.append_subrender.specs.Prefixes.{Coming, Found, Steps, NamesOf, AddsPrefixed, Adds, added, AddsGuest}
use Rattle.append_subrender.specs.declared.prefix.Prefix.{Prefix}
use Rattle.append_subrender.specs.declared.prefixed.Added.{Added}
use Rattle.append_subrender.proofs.Pairing.{paired_on, paired_none, paired_out, misfit_on, all_come}
use Rattle.append_subrender.proofs.Waiting.{waits_is, named_pieces, named_marks, adds_none, adds_line, adds_then}

-- ---- numbers

-- A line begun where the lines end, grown so far, has room for more.
pub grown_within : (p : Lines) (new line : Line) (n m : ℕ) → InBounds p → LineBegun p new 65538 → LineGrown new line n → n + m ≤ 7000000 → Within line m
grown_within p new line n m h b g few =
    record {
      base = omega (arith, g.base, g.on, b.on);
      piece = g.piece;
      room = omega (arith, h.at, h.count, b.at, g.at);
      cols = omega (arith, b.cols, g.cols);
    }

-- So does the one that was just begun.
pub new_within : (p : Lines) (new : Line) (m : ℕ) → InBounds p → LineBegun p new 65538 → m ≤ 7000000 → Within new m
new_within p new m h b few =
    record { base = b.on; piece = b.piece; room = omega (arith, h.at, h.count, b.at); cols = omega (arith, b.cols) }

-- It is short enough to be ended.
pub grown_fits : (p : Lines) (new line : Line) (n : ℕ) → LineBegun p new 65538 → LineGrown new line n → n ≤ 7000000 → LineBegun p line 8000000
grown_fits p new line n b g few =
    record {
      base = g.base ∙ b.base;
      on = omega (arith, g.base, g.on, b.on);
      piece = g.piece;
      at = omega (arith, b.at, g.at);
      cols = omega (arith, b.cols, g.cols);
    }

-- Two growths are one.
pub grown_twice : (p q r : Line) (n m : ℕ) → LineGrown p q n → LineGrown q r m → LineGrown p r (n + m)
grown_twice p q r n m g h =
    record {
      base = h.base ∙ g.base;
      piece = h.piece;
      on = omega (arith, g.on, h.on);
      at = omega (arith, g.at, h.at);
      wider = omega (arith, g.wider, h.wider);
      cols = omega (arith, g.cols, h.cols);
    }

-- One line more stays in bounds.
pub next_bounds : (p r : Lines) → InBounds p → OneLineMore p r → p.count + 1 < 1048576 → InBounds r
next_bounds p r h n few = record { at = omega (arith, h.at, n.at, n.count); count = omega (arith, n.count, few) }

-- ---- one line behind its prefix

-- a text that is read is not empty
text_good : (t : List ℕ) (q : Piece) → read_str t ≡ some q → GoodPiece q
text_good [] q e = absurd (let z : ◌≡◌ {A = ℕ} 0 1 = cc in omega arith)
text_good (a ∷ []) q e = absurd (let z : ◌≡◌ {A = ℕ} 0 1 = cc in omega arith)
text_good (a ∷ b ∷ t) q e = subst GoodPiece (some-injective (str a (b ∷ t)) q e) (omega arith)

piece_good : (r : Raw) (q : Piece) → read_piece r ≡ some q → GoodPiece q
unfolding read_piece
piece_good broken q e = absurd (let z : ◌≡◌ {A = ℕ} 0 1 = cc in omega arith)
piece_good (whole l t) q e = go (eqb l 0x53) (eqb l 0x46) e
  where
    go : (x y : Bool) → (if x then read_str t else if y then some (fragment t) else none) ≡ some q → GoodPiece q
    go true y e = text_good t q e
    go false true e = subst GoodPiece (some-injective (fragment t) q e) tt
    go false false e = absurd (let z : ◌≡◌ {A = ℕ} 0 1 = cc in omega arith)

pieces_good : (rs : List Raw) (ps : List Piece) → read_all read_piece rs ≡ some ps → Every GoodPiece ps
pieces_good [] ps e = subst (Every GoodPiece) (sym (read_none read_piece ps e)) tt
pieces_good (r ∷ rs) ps e =
    let x = read_first read_piece r rs ps e in
    subst (Every GoodPiece) (sym x.are) (piece_good r x.one x.first, pieces_good rs x.more x.later)

-- a text line's pieces
text_pieces : (letter : ℕ) (bytes : List ℕ) (g : RenderLine) → letter ≡ 0x4C → read_line (whole letter bytes) ≡ some g
    → (ps : List Piece) × (g ≡ text ps) × PiecesOf bytes ps × Every GoodPiece ps
unfolding read_line
text_pieces letter bytes g is read = go (read_all read_piece (raws bytes)) refl (rw is at read)
  where
    go : (q : Option (List Piece)) → read_all read_piece (raws bytes) ≡ q → Option.map text q ≡ some g
        → (ps : List Piece) × (g ≡ text ps) × PiecesOf bytes ps × Every GoodPiece ps
    go none f e = absurd (let z : ◌≡◌ {A = ℕ} 0 1 = cc in omega arith)
    go (some ps) f e =
        let same : g ≡ text ps = sym (some-injective (text ps) g e) in
        (ps, same, f, pieces_good (raws bytes) ps f)

-- A text: the names, the prefix pushed, the first piece pushed, and the others after it, pushed where names wait.
pub prefixed_text : (o₀ o₁ o₂ o₃ o₄ : List ℕ) (p r : Lines) (s : RenderOptions) (names prefix : List ℕ) (cols letter : ℕ) (bytes : List ℕ) (new head line : Line)
    (waits : Bool) → Bytes names → waits ≡ ltb 0 (length names) → letter ≡ 0x4C → length o₃ ≡ length o₀ → BeginsLine o₀ names o₁ new
    → Pushes o₁ new s.annotation prefix cols o₂ head → AddsPieces o₂ head bytes true waits o₃ line → AddsTextLine o₃ p line s o₄ r
    → AddsPrefixed o₀ p s names prefix cols (whole letter bytes) o₄ r
prefixed_text o₀ o₁ o₂ o₃ o₄ p r s names prefix cols letter bytes new head line waits known wait el size begin push add end ns g reads read ok apart formed wide st ls e =
    let (ps, same, pieces, good) = text_pieces letter bytes g el read in
    let l = push_str (map fragment ns) s.annotation prefix in
    let h₁ = push o₀ (map fragment ns) (begin ns reads) formed wide in
    let h₂ = add ps pieces (rw same at ok) o₀ l h₁ in
    rw (same, named_pieces ns waits ps s.annotation prefix (wait ∙ waits_is names ns known reads) good) (end st o₀ ls (add_pieces true waits l ps) e size h₂)

-- Names of more than 65,535 bytes: the line is too long.
pub prefixed_long : (out : List ℕ) (p r : Lines) (s : RenderOptions) (names prefix : List ℕ) (cols letter : ℕ) (bytes : List ℕ) → Bytes names
    → 65535 < length names → OneLineMore p r → r.long ≡ true → AddsPrefixed out p s names prefix cols (whole letter bytes) out r
prefixed_long out p r s names prefix cols letter bytes known many more long ns g reads read ok apart formed wide st ls e =
    let n : length (names_bytes ns) ≡ length names = ap length (names_back names ns known reads) in
    let k : 65535 < length (names_bytes ns) = omega (arith, n, many) in
    let x = padded s (with_names ns (behind_prefix s prefix g)) in
    let no : fits x ≡ false = unfit k g in
    one_more st out out ls x p r e refl more.count (long ∙ rw no (sym (or_true p.long))) (λ yes. absurd (let z : false ≡ true = sym no ∙ yes in let y : ◌≡◌ {A = ℕ} 0 1 = cc in omega arith))
  where
    unfit : 65535 < length (names_bytes ns) → (g : RenderLine) → fits (padded s (with_names ns (behind_prefix s prefix g))) ≡ false
    unfit k (text ps) = named_unfit s ns (in_front ps s.annotation prefix) k
    unfit k (border a segs hs) = named_unfit s ns (push_str (push_str [] s.annotation prefix) s.annotation (holed_text segs 0 hs)) k

-- what is no L is a border
holed_border_lem : (a : ℕ) (segs : List ℕ) (q : Option (List Hole)) → OnSome (λ l. is_border l ≡ true) (holed a segs q)
holed_border_lem a segs none = tt
holed_border_lem a segs (some []) = tt
holed_border_lem a segs (some (h ∷ hs)) =
    by_if (OnSome (λ l. is_border l ≡ true)) (all is_segment segs && all (ends_within (length segs)) (h ∷ hs)) (λ _. refl) (λ _. tt)

holes_border : (t : List ℕ) → OnSome (λ l. is_border l ≡ true) (read_holed t)
unfolding read_holed
holes_border [] = tt
holes_border (a ∷ []) = tt
holes_border (a ∷ h ∷ []) = tt
holes_border (a ∷ h ∷ o ∷ rest) =
    let n = h * 256 + o in
    by_if (OnSome (λ l. is_border l ≡ true)) (leb n (length rest)) (λ _. holed_border_lem a (take n rest) (read_holes (raw_holes (drop n rest)))) (λ _. tt)

plain_border_lem : (t : List ℕ) → OnSome (λ l. is_border l ≡ true) (read_border t)
plain_border_lem [] = tt
plain_border_lem (a ∷ segs) = by_if (OnSome (λ l. is_border l ≡ true)) (all is_segment segs) (λ _. refl) (λ _. tt)

is_border_lem : (letter : ℕ) (bytes : List ℕ) (g : RenderLine) → (letter ≡ 0x4C → ⊥) → read_line (whole letter bytes) ≡ some g → is_border g ≡ true
unfolding read_line
is_border_lem letter bytes g other read =
    let P = OnSome (λ l. is_border l ≡ true) in
    some_of (λ l. is_border l ≡ true) _ g (rw (ne_eqb letter 0x4C other) at read)
    (by_if P (eqb letter 0x42) (λ _. plain_border_lem bytes) (λ _. by_if P (eqb letter 0x47) (λ _. holes_border bytes) (λ _. tt)))

pub not_text : (letter : ℕ) (bytes : List ℕ) (ps : List Piece) → (letter ≡ 0x4C → ⊥) → read_line (whole letter bytes) ≡ some (text ps) → ⊥
not_text letter bytes ps other read =
    let no : false ≡ true = is_border_lem letter bytes (text ps) other read in
    let z : ◌≡◌ {A = ℕ} 0 1 = cc in
    omega arith

-- stretched to no width it is itself
pub own_segments : (segs : List ℕ) → stretch_to segs 0 ≡ segs
unfolding stretch_to
own_segments segs =
    let n : 0 - length segs ≡ 0 = omega arith in
    rw (n, append-nil segs)

-- A border: its drawing pushed onto names and prefix, with the sheet's annotation.
pub prefixed_border : (o₀ o₁ o₂ o₃ o₄ : List ℕ) (p r : Lines) (s : RenderOptions) (names prefix : List ℕ) (cols letter : ℕ) (bytes : List ℕ) (new head line : Line) (parts : Border)
    → (letter ≡ 0x4C → ⊥) → length o₃ ≡ length o₀ → BeginsLine o₀ names o₁ new → Pushes o₁ new s.annotation prefix cols o₂ head → ReadsBorder letter bytes parts
    → PushesHoled o₂ head s.annotation parts 0 o₃ line → AddsTextLine o₃ p line s o₄ r
    → AddsPrefixed o₀ p s names prefix cols (whole letter bytes) o₄ r
prefixed_border o₀ o₁ o₂ o₃ o₄ p r s names prefix cols letter bytes new head line parts other size begin push finds draw end ns (text ps) reads read ok apart formed wide st ls e =
    absurd (not_text letter bytes ps other read)
prefixed_border o₀ o₁ o₂ o₃ o₄ p r s names prefix cols letter bytes new head line parts other size begin push finds draw end ns (border a segs hs) reads read ok apart formed wide st ls e =
    let b = s.annotation in
    let t = holed_text segs 0 hs in
    let l = push_str (map fragment ns) b prefix in
    let h₁ = push o₀ (map fragment ns) (begin ns reads) formed wide in
    let h₂ : Held o₀ (push_str l b t) o₃ line =
    rw (own_segments segs) at (draw a segs hs (finds a segs hs read) ok (rw (own_segments segs) apart) o₀ l h₁) in
    rw (named_marks ns b prefix t) (end st o₀ ls (push_str l b t) e size h₂)

-- ---- the lines of a guest

-- the pairs that are left, where the prefixes to come are known
abbrev pub AddsPairs : List ℕ → Added → RenderOptions → List ℕ → List Raw → List Raw → Bool → RustOption Prefix → List ℕ → Added → Type 0
AddsPairs out p s names fields coming rep last out' r =
    (ns : List (List ℕ)) (gs : List RenderLine) (ps : List (List ℕ)) → NamesOf (drop p.from names) ns → read_all read_line fields ≡ some gs
    → all readable_line gs ≡ true → Coming coming rep last ps → guest_misfit rep gs ps ≡ false → Adds out p s names ns (behind_prefixes s rep gs ps) out' r

module _ (out : List ℕ) (p : Added) (s : RenderOptions) (names : List ℕ) (fields coming : List Raw) (rep : Bool) (last : RustOption Prefix) where
  -- No prefix is left.
  pub pairs_out : (coming' : List Raw) (q : RustOption Prefix) → Steps coming rep last coming' q → q ≡ None → AddsPairs out p s names fields coming rep last out p
  pairs_out coming' q steps lost ns gs ps reads read ok c apart =
      let none_left : ps ≡ [] = subst (λ (o : RustOption Prefix). Found o coming' rep ps) lost (steps ps c) in
      rw (none_left, paired_out s rep gs) (adds_none out p s names ns reads)

  -- No line is left.
  pub pairs_none : fields ≡ [] → AddsPairs out p s names fields coming rep last out p
  pairs_none is ns gs ps reads read ok c apart =
      let none_left = read_none read_line gs (sym (ap (read_all read_line) is) ∙ read) in
      rw (none_left, paired_none s rep ps) (adds_none out p s names ns reads)

  -- A rest that is no field.
  pub pairs_broken : (rest : List Raw) → fields ≡ broken ∷ rest → AddsPairs out p s names fields coming rep last out p
  pairs_broken rest is ns gs ps reads read ok c apart = absurd (broken_line rest gs (sym (ap (read_all read_line) is) ∙ read))

  -- One pair, which takes the names that wait, and those after it.
  pub pairs_on : (mid out' : List ℕ) (m : Lines) (r : Added) (coming' : List Raw) (q : RustOption Prefix) (pre : Prefix) (field : Raw) (rest : List Raw) → Steps coming rep last coming' q
      → q ≡ Some pre → fields ≡ field ∷ rest → AddsPrefixed out p.lines s (drop p.from names) pre.text.now pre.cols field mid m
      → AddsPairs mid (added m (length names)) s names rest coming' rep q out' r → AddsPairs out p s names fields coming rep last out' r
  unfolding all
  pairs_on mid out' m r coming' q pre field rest steps found is one others ns gs ps reads read ok c apart =
      let (qs, next, to_come) : Found (Some pre) coming' rep ps = subst (λ (o : RustOption Prefix). Found o coming' rep ps) found (steps ps c) in
      let (formed, wide) = to_come.formed in
      let x = read_first read_line field rest gs (sym (ap (read_all read_line) is) ∙ read) in
      let good : all readable_line (x.one ∷ x.more) ≡ true = sym (ap (all readable_line) x.are) ∙ ok in
      let t = pre.text.now in
      let left_over = guest_misfit rep x.more (later rep t qs) in
      let fit : (overlapping x.one || left_over) ≡ false = sym (misfit_on rep x.one x.more t qs) ∙ sym (ap₂ (guest_misfit rep) x.are next) ∙ apart in
      let new = behind_prefix s t x.one in
      let a₁ =
      adds_line out p s names ns mid m t x.one
      (one ns x.one reads x.first (and_left (readable_line x.one) (all readable_line x.more) good) (or_left (overlapping x.one) left_over fit) formed wide) in
      let a₂ =
      others (names_left ns (new ∷ [])) x.more (later rep t qs) a₁.waiting x.later (and_right (readable_line x.one) (all readable_line x.more) good)
      (subst (λ (o : RustOption Prefix). Coming coming' rep o (later rep t qs)) (sym found) to_come)
      (or_right (overlapping x.one) left_over fit) in
      rw (x.are, next, paired_on s rep x.one x.more t qs)
      (adds_then out p s names ns mid out' (added m (length names)) r (new ∷ []) (behind_prefixes s rep x.more (later rep t qs)) a₁ a₂)

-- Some pairs are added, and the others are left; the names that still wait begin at a place too.
pub record Walk (out₀ : List ℕ) (p : Lines) (s : RenderOptions) (names guest prefixes : List ℕ) (rep : Bool) (out : List ℕ) (q : Added) (last : RustOption Prefix) (coming left : List Raw) : Type 0 where
  pub size : length out ≡ length out₀
  pub waiting : q.from ≤ length names
  pub bounds : InBounds q.lines
  pub count : q.lines.count + length left ≤ p.count + length (raws guest)
  pub lines : (out' : List ℕ) (r : Added) → AddsPairs out q s names left coming rep last out' r
      → AddsGuest out₀ p s names guest prefixes rep out' r

pub walk_start : (out : List ℕ) (p : Lines) (s : RenderOptions) (names guest prefixes : List ℕ) (rep : Bool) (coming left : List Raw) → InBounds p → coming ≡ raws prefixes
    → left ≡ raws guest → Walk out p s names guest prefixes rep out (added p 0) None coming left
walk_start out p s names guest prefixes rep coming left h e is =
    record {
      size = refl;
      waiting = omega arith;
      bounds = h;
      count = omega (arith, ap length is);
      lines = λ out' r pairs ns gs ps names-read read ok reads readable apart.
          pairs ns gs ps names-read (ap (read_all read_line) is ∙ read) ok (all_come coming rep ps (ap (read_all read_prefix) e ∙ reads) readable) apart;
    }

module _ (out₀ : List ℕ) (p : Lines) (s : RenderOptions) (names guest prefixes : List ℕ) (rep : Bool) (out : List ℕ) (q : Added) (last : RustOption Prefix) (coming left : List Raw)
    (w : Walk out₀ p s names guest prefixes rep out q last coming left) where
  -- one pair on
  pub walk_on : (field : Raw) (rest : List Raw) (out' : List ℕ) (r : Lines) (coming' : List Raw) (found : RustOption Prefix) (pre : Prefix) → p.count + length (raws guest) < 1000000
      → left ≡ field ∷ rest → Steps coming rep last coming' found → found ≡ Some pre → OneLineMore q.lines r → length out' ≡ length out
      → AddsPrefixed out q.lines s (take (length names - q.from) (drop q.from names)) pre.text.now pre.cols field out' r
      → Walk out₀ p s names guest prefixes rep out' (added r (length names)) found coming' rest
  walk_on field others out' r coming' found pre few is steps there more same one =
      let n : length left ≡ suc (length others) = ap length is in
      record {
        size = same ∙ w.size;
        waiting = omega arith;
        bounds = next_bounds q.lines r w.bounds more (omega (arith, n, w.count, few));
        count = omega (arith, n, w.count, more.count);
        lines = λ out'' z pairs.
            w.lines out'' z
            (pairs_on out q s names left coming rep last out' out'' r z coming' found pre field others steps there is (rw (rest names q.from) at one) pairs);
      }

  -- the ends
  pub walk_out : (coming' : List Raw) (found : RustOption Prefix) → Steps coming rep last coming' found → found ≡ None → AddsGuest out₀ p s names guest prefixes rep out q
  walk_out coming' found steps lost = w.lines out q (pairs_out out q s names left coming rep last coming' found steps lost)

  pub walk_end : left ≡ [] → AddsGuest out₀ p s names guest prefixes rep out q
  walk_end is = w.lines out q (pairs_none out q s names left coming rep last is)

  pub walk_broken : (others : List Raw) → left ≡ broken ∷ others → AddsGuest out₀ p s names guest prefixes rep out q
  walk_broken others is = w.lines out q (pairs_broken out q s names left coming rep last others is)
