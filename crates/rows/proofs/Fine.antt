-- Texts, pieces and borders that are fine stay so: joined, pushed, padded, put in front, stretched, joined and merged.
-- Assumes nothing.
use Rattle.std.proofs.Common.{◌≡◌, ℕ, zero, suc, ◌-◌, ◌≤◌, Bool, true, false, eqb, List, [], ◌∷◌, ◌++◌, length, get_or, set, replicate, refl, arith, length-append}
use Rattle.characters.specs.Columns.{columns_of, on_list, is_control}
use Rattle.characters.specs.Utf8.{first_byte, step_byte, chars_from, chars, utf8}
use Rattle.characters.proofs.Tests.{by_if}
use Rattle.characters.proofs.RoundTrip.{chars_append}
use Rattle.fields.specs.Field.{all}
use Rattle.fields.specs.Text.{allowed_in, readable_text}
use Rattle.fields.specs.Sheet.{Piece, str, fragment}
use Rattle.fields.specs.Widths.{width}
use Rattle.std.specs.Prelude.{if◌then◌else◌}
use Rattle.fields.specs.TaggedLine.{join, push_str, push, consume, push_ws, insert_front, pad_to}
use Rattle.fields.proofs.Texts.{text_nil}
use Rattle.fields.proofs.Back.{Every, every_append, every_replicate, every_all}
use Rattle.borders.specs.declared.draw.Drawing.TheVariants.{Segments}
use Rattle.borders.specs.declared.border.Side.{Side}
use Rattle.borders.specs.BorderSegHoriz.{Horiz}
use Rattle.borders.specs.BorderHoriz.{new_type, stretch_to, joined_on, joins_from, join_on, merge_from, to_string}
use Rattle.borders.proofs.Segments.{joined_segment}
use Rattle.borders.proofs.Drawing.{drawn_string, drawn_readable}
use Rattle.rows.specs.SubRenderer.{in_front, later, edge}
use Rattle.rows.specs.Fine.{Fine, FinePiece, FinePieces, Segs}
use Rattle.rows.specs.declared.RenderOptions.{RenderOptions}
use Rattle.rows.proofs.Lines.{readable_formed}
use Rattle.rows.proofs.Reading.{every_from}

-- ---- texts that pass refusal 3

pub fine_nil : Fine []
fine_nil = text_nil false [] (omega arith)

-- Two such texts are one.
pub fine_append : (x y : List ℕ) → Fine x → Fine y → Fine (x ++ y)
unfolding readable_text
fine_append x y g h =
    let P : ℕ → Type 0 = λ (c : ℕ). allowed_in false c ≡ true in
    let (xs, ex) = readable_formed false x g in
    let (ys, ey) = readable_formed false y h in
    let px : all (allowed_in false) xs ≡ true = rw ex at g in
    let py : all (allowed_in false) ys ≡ true = rw ey at h in
    rw (chars_append x y xs ys ex ey)
    (every_all (allowed_in false) (xs ++ ys)
    (every_append P xs ys (every_from P (allowed_in false) (λ c k. k) xs px) (every_from P (allowed_in false) (λ c k. k) ys py)))

-- ---- the texts that the calls write

fine_space : Fine (0x20 ∷ [])
unfolding readable_text all allowed_in on_list is_control columns_of first_byte step_byte chars_from chars
fine_space = refl

pub fine_spaces : (n : ℕ) → Fine (replicate n 0x20)
fine_spaces zero = fine_nil
fine_spaces (suc n) = fine_append (0x20 ∷ []) (replicate n 0x20) fine_space (fine_spaces n)

pub fine_edge : (s : RenderOptions) → Fine (edge s)
unfolding readable_text all allowed_in on_list is_control columns_of first_byte step_byte chars_from chars utf8
fine_edge s = by_if (λ (c : ℕ). Fine (utf8 c)) s.borders (λ _. refl) (λ _. refl)

pub fine_string : (b : List ℕ) → Fine (to_string b)
fine_string b = rw (← drawn_string b) (drawn_readable Segments b)

-- ---- lines

-- a text that is not empty, joined to a line
fine_join : (l : List Piece) (a b : ℕ) (t : List ℕ) → FinePieces l → Fine (b ∷ t) → FinePieces (join l a (b ∷ t))
unfolding join
fine_join [] a b t h k = ((omega arith, k), tt)
fine_join (fragment n ∷ []) a b t h k = (h.0, ((omega arith, k), tt))
fine_join (str c s ∷ []) a b t h k =
    by_if FinePieces (eqb c a)
    (λ _. ((omega (arith, length-append s (b ∷ t)), fine_append s (b ∷ t) h.0.1 k), tt)) (λ _. (h.0, ((omega arith, k), tt)))
fine_join (p ∷ q ∷ l) a b t h k = (h.0, fine_join (q ∷ l) a b t h.1 k)

pub fine_push_str : (l : List Piece) (a : ℕ) (t : List ℕ) → FinePieces l → Fine t → FinePieces (push_str l a t)
unfolding push_str
fine_push_str l a [] h k = h
fine_push_str l a (b ∷ t) h k = fine_join l a b t h k

pub fine_push : (l : List Piece) (p : Piece) → FinePieces l → FinePiece p → FinePieces (push l p)
unfolding push
fine_push l (str a t) h k = fine_push_str l a t h k.1
fine_push l (fragment n) h k = every_append FinePiece l (fragment n ∷ []) h (k, tt)

pub fine_consume : (l ps : List Piece) → FinePieces l → FinePieces ps → FinePieces (consume l ps)
unfolding consume
fine_consume l [] h k = h
fine_consume l (p ∷ ps) h k = fine_consume (push l p) ps (fine_push l p h k.0) k.1

pub fine_pad : (l : List Piece) (w a : ℕ) → FinePieces l → FinePieces (pad_to l w a)
unfolding pad_to push_ws
fine_pad l w a h = fine_push_str l a (replicate (w - width l) 0x20) h (fine_spaces (w - width l))

pub fine_front : (ps : List Piece) (a : ℕ) (t : List ℕ) → FinePieces ps → Fine t → FinePieces (in_front ps a t)
unfolding insert_front
fine_front ps a [] h k = h
fine_front [] a (b ∷ t) h k = ((omega arith, k), tt)
fine_front (fragment n ∷ ps) a (b ∷ t) h k = ((omega arith, k), h)
fine_front (str c s ∷ ps) a (b ∷ t) h k =
    by_if FinePieces (eqb c a) (λ _. ((omega arith, fine_append (b ∷ t) s k h.0.1), h.1)) (λ _. ((omega arith, k), h))

-- ---- borders

pub segs_stretch : (b : List ℕ) (w : ℕ) → Segs b → Segs (stretch_to b w)
unfolding stretch_to
segs_stretch b w h =
    every_append (λ (s : ℕ). s ≤ 11) b (replicate (w - length b) Horiz) h (every_replicate (λ (s : ℕ). s ≤ 11) (w - length b) Horiz (omega arith))

pub segs_new : (w s : ℕ) → s ≤ 11 → Segs (new_type w s)
unfolding new_type
segs_new w s h = every_replicate (λ (s : ℕ). s ≤ 11) w s h

pub segs_set : (b : List ℕ) (i s : ℕ) → Segs b → s ≤ 11 → Segs (set b i s)
segs_set [] i s h k = tt
segs_set (x ∷ b) zero s h k = (k, h.1)
segs_set (x ∷ b) (suc i) s h k = (h.0, segs_set b i s h.1 k)

pub segs_at : (b : List ℕ) (i : ℕ) → Segs b → get_or b i Horiz ≤ 11
segs_at [] i h = omega arith
segs_at (x ∷ b) zero h = h.0
segs_at (x ∷ b) (suc i) h = segs_at b i h.1

pub segs_join : (side : Side) (b : List ℕ) (x : ℕ) → Segs b → Segs (join_on side b x)
unfolding join_on
segs_join side b x h =
    let d = stretch_to b (suc x) in
    let k = segs_stretch b (suc x) h in
    let s = segs_at d x k in
    segs_set d x (joined_on side (get_or d x Horiz)) k (omega (arith, joined_segment side (get_or d x Horiz) (omega arith)))

pub segs_merge : (side : Side) (b other : List ℕ) (pos : ℕ) → Segs b → Segs (merge_from side b other pos)
unfolding merge_from
segs_merge side b [] pos h = h
segs_merge side b (s ∷ other) pos h =
    segs_merge side (if joins_from side s then join_on side b pos else b) other (suc pos) (by_if Segs (joins_from side s) (λ _. segs_join side b pos h) (λ _. h))

-- ---- prefixes

pub fine_later : (rep : Bool) (p : List ℕ) (ps : List (List ℕ)) → Fine p → Every Fine ps → Every Fine (later rep p ps)
fine_later rep p [] d h = by_if (Every Fine) rep (λ _. (d, tt)) (λ _. tt)
fine_later rep p (q ∷ ps) d h = h

-- Prefixes that pass.
pub prefixes_from : (ps : List (List ℕ)) → all (readable_text false) ps ≡ true → Every Fine ps
prefixes_from ps e = every_from Fine (readable_text false) (λ t k. k) ps e
