-- Runs, pieces and their fields, over the lists that the buffers hold, and what each write of a line comes to.
-- Assumes nothing.
use mathlib.Core.Path.{◌≡◌, refl, sym, ap, ◌∙◌}
use mathlib.Core.Bool.{Bool, true, false, ◌&&◌, not}
use mathlib.Core.List.{List, [], ◌∷◌, ◌++◌}
use Prim.Native.Nat.{ℕ, suc, ◌+◌, ◌-◌, ◌%◌, ◌≤◌, ◌<◌}
use native.Mathlib.Nat.{zero-add}
use native.Mathlib.Numerals.{add-one}
use native.Mathlib.Omega.{arith}
use borrow.Author.Tests.{ne_eqb, eqb-true}
use lib.ListN.{length, take, drop, get_or, length-take, length-drop, drop_of_length-le}
use lib.Seq.{drop-cons, drop-drop, take-length}
use lib.Dec.{eqb}
use Rattle.std.specs.Prelude.{Option, Some, None, cond, if◌then◌else◌}
use Rattle.std.specs.List.{position, position_or_len}
use Rattle.std.proofs.lemmas.Bool.{ltb-false}
use Rattle.std.proofs.lemmas.List.Recursion.{is_position_or_len}
use Rattle.std.proofs.lemmas.List.Sums.{prefix_len-le-length}
use Rattle.characters.proofs.Tests.{or_true}
use Rattle.fields.specs.Field.{head, field}
use Rattle.fields.specs.Store.{Wrote}
use Rattle.fields.proofs.Sets.{wrote_then, wrote_before, wrote_none}
use Rattle.lines.specs.Items.{Item, item, zip, mark_tag, name_tag}
use Rattle.lines.specs.Encode.{joins, on_first, starts_with, pieces, field_of, piece_field, piece_fields, content, line_field, run_t, same_t}
use Rattle.lines.proofs.Buffers.{zip_bytes, zip_nil}

-- ---- runs

-- The entries of a tag at the front end at the first other one.
same_is : (t : ℕ) (ts : List ℕ) → same_t t ts ≡ position_or_len (λ x. not (eqb x t)) ts
unfolding same_t
same_is t ts = is_position_or_len (same_t t) (λ x. not (eqb x t)) refl (λ x xs. step x xs (eqb x t)) ts
  where
    step : (x : ℕ) (xs : List ℕ) (b : Bool) → (if b then suc (same_t t xs) else 0) ≡ cond (not b) 0 (1 + same_t t xs)
    step x xs true = omega arith
    step x xs false = refl

from_test : (b : Bool) (n k : ℕ) (r : Option ℕ) → r ≡ cond b (Some n) None → r ≡ Some k → n ≡ k
from_test true n k r e f = cc
from_test false n k r e f = cc

-- It is found at the place k.
pub same_found : (t : ℕ) (ts : List ℕ) (k : ℕ) (r : Option ℕ) → r ≡ position (λ x. not (eqb x t)) ts → r ≡ Some k → same_t t ts ≡ k
same_found t ts k r e f = same_is t ts ∙ from_test _ _ _ r e f

all_pass : (b : Bool) (n : ℕ) (r : Option ℕ) → r ≡ cond b (Some n) None → r ≡ None → b ≡ false
all_pass true n r e f = cc
all_pass false n r e f = refl

-- There is none.
pub same_none : (t : ℕ) (ts : List ℕ) (r : Option ℕ) → r ≡ position (λ x. not (eqb x t)) ts → r ≡ None → same_t t ts ≡ length ts
same_none t ts r e f =
    let p = prefix_len-le-length (λ x. not (not (eqb x t))) ts in
    let q = all_pass _ (position_or_len (λ x. not (eqb x t)) ts) r e f in
    omega (arith, same_is t ts, p, ltb-false _ _ q)

-- After a name's byte a piece goes on in a name's bytes.
run_after_name : (l : List ℕ) → run_t name_tag l ≡ same_t name_tag l
unfolding run_t same_t joins
run_after_name [] = refl
run_after_name (u ∷ us) = go (run_after_name us) (eqb u name_tag) refl
  where
    go : run_t name_tag us ≡ same_t name_tag us → (e : Bool) → eqb u name_tag ≡ e → run_t name_tag (u ∷ us) ≡ same_t name_tag (u ∷ us)
    go i true e = rw e (ap suc (rw (eqb-true u name_tag e) i))
    go i false e = rw e

-- no test is true and false
not_both : (e : Bool) → (e && not e) ≡ false
not_both true = refl
not_both false = refl

-- The run of a mark is its name's bytes.
pub run_of_mark : (l : List ℕ) → run_t mark_tag l ≡ same_t name_tag l
unfolding run_t same_t joins
run_of_mark [] = refl
run_of_mark (u ∷ us) = go (eqb u name_tag) refl
  where
    go : (e : Bool) → eqb u name_tag ≡ e → run_t mark_tag (u ∷ us) ≡ same_t name_tag (u ∷ us)
    go true e = rw e (ap suc (rw (eqb-true u name_tag e) (run_after_name us)))
    go false e = rw (e, not_both (eqb u mark_tag))

-- The run of another tag is the entries of that tag, and then a name's bytes.
pub run_of_text : (t : ℕ) (l : List ℕ) → (t ≡ mark_tag → ⊥) → run_t t l ≡ same_t t l + same_t name_tag (drop (same_t t l) l)
unfolding run_t same_t joins
run_of_text t [] h = refl
run_of_text t (u ∷ us) h = go (run_of_text t us h) (eqb u t) (eqb u name_tag) refl refl
  where
    go : run_t t us ≡ same_t t us + same_t name_tag (drop (same_t t us) us) → (e f : Bool) → eqb u t ≡ e → eqb u name_tag ≡ f
        → run_t t (u ∷ us) ≡ same_t t (u ∷ us) + same_t name_tag (drop (same_t t (u ∷ us)) (u ∷ us))
    go i true f e g = rw (e, ne_eqb u mark_tag (λ q. h (sym (eqb-true u t e) ∙ q)), or_true (eqb u name_tag), eqb-true u t e) (omega (arith, i))
    go i false true e g = rw (e, g, eqb-true u name_tag g, run_after_name us) (sym (zero-add _))
    go i false false e g = rw (e, g)

-- The same from index i on: the entries of the tag end at k, and a name's bytes go on from there.
pub run_at : (ts : List ℕ) (t i k : ℕ) → (t ≡ mark_tag → ⊥) → k ≡ i + same_t t (drop i ts) → k + same_t name_tag (drop k ts) ≡ i + run_t t (drop i ts)
run_at ts t i k h e =
    let m : ℕ = same_t t (drop i ts) in
    let r = run_of_text t (drop i ts) h in
    let d : drop k ts ≡ drop m (drop i ts) = ap (λ (n : ℕ). drop n ts) e ∙ sym (drop-drop m i ts) in
    omega (arith, ap (same_t name_tag) d, r)

-- ---- pieces

-- one more item in front: it goes on the first piece, or is one of its own
pieces_step : (f : Bool) (b t x u k : ℕ) (xs us : List ℕ)
    → pieces (item x u ∷ zip xs us) ≡ zip (x ∷ take k xs) (u ∷ take k us) ∷ pieces (zip (drop k xs) (drop k us))
    → (if f then on_first (item b t) (pieces (item x u ∷ zip xs us)) else (item b t ∷ []) ∷ pieces (item x u ∷ zip xs us))
    ≡ zip (b ∷ take (if f then suc k else 0) (x ∷ xs)) (t ∷ take (if f then suc k else 0) (u ∷ us))
    ∷ pieces (zip (drop (if f then suc k else 0) (x ∷ xs)) (drop (if f then suc k else 0) (u ∷ us)))
unfolding on_first
pieces_step true b t x u k xs us ih = rw ih
pieces_step false b t x u k xs us ih = refl

-- a line's first piece is its first item and the run after it
pieces_run : (b t : ℕ) (bs ts : List ℕ) → length bs ≡ length ts
    → pieces (item b t ∷ zip bs ts) ≡ zip (b ∷ take (run_t t ts) bs) (t ∷ take (run_t t ts) ts) ∷ pieces (zip (drop (run_t t ts) bs) (drop (run_t t ts) ts))
unfolding pieces run_t starts_with
pieces_run b t [] [] e = refl
pieces_run b t [] (u ∷ us) e = absurd (omega (arith, e))
pieces_run b t (x ∷ xs) [] e = absurd (omega (arith, e))
pieces_run b t (x ∷ xs) (u ∷ us) e =
    pieces_step (joins t u) b t x u (run_t u us) xs us (pieces_run x u xs us (omega (arith, e)))

-- so a line's content is its first piece's field, and then what the rest holds
content_run : (b t : ℕ) (bs ts : List ℕ) → length bs ≡ length ts
    → content (item b t ∷ zip bs ts) ≡ field_of t (b ∷ take (run_t t ts) bs) ++ content (zip (drop (run_t t ts) bs) (drop (run_t t ts) ts))
unfolding content piece_fields piece_field
content_run b t bs ts e =
    let k : ℕ = run_t t ts in
    let q : length (take k bs) ≡ length (take k ts) = simp length-take (omega arith) in
    rw (pieces_run b t bs ts e)
    (ap (λ (l : List ℕ). field_of t (b ∷ l) ++ piece_fields (pieces (zip (drop k bs) (drop k ts)))) (zip_bytes (take k bs) (take k ts) q))

-- the same from index i of a line, the piece's end being j
content_at : (bs ts : List ℕ) (i j : ℕ) → length bs ≡ length ts → i < length ts → j ≡ i + 1 + run_t (get_or ts i 0) (drop (i + 1) ts)
    → content (zip (drop i bs) (drop i ts)) ≡ field_of (get_or ts i 0) (take (j - i) (drop i bs)) ++ content (zip (drop j bs) (drop j ts))
content_at bs ts i j e h f =
    let h' : i < length bs = omega arith in
    let k : ℕ = run_t (get_or ts i 0) (drop (suc i) ts) in
    let g : j ≡ suc i + k = f ∙ ap (λ (n : ℕ). n + run_t (get_or ts i 0) (drop n ts)) (add-one i) in
    let m : j - i ≡ suc k = omega arith in
    let l : length (drop (suc i) bs) ≡ length (drop (suc i) ts) = simp length-drop (omega arith) in
    rw (drop-cons bs i 0 h', drop-cons ts i 0 h, m, g, ← drop-drop k (suc i) bs, ← drop-drop k (suc i) ts)
    (content_run (get_or bs i 0) (get_or ts i 0) (drop (suc i) bs) (drop (suc i) ts) l)

content_end : (bs ts : List ℕ) (i : ℕ) → length ts ≤ i → content (zip (drop i bs) (drop i ts)) ≡ []
unfolding content piece_fields pieces
content_end bs ts i h = rw (drop_of_length-le ts h, zip_nil)

-- ---- one piece, put

-- what `&part[1..]` is
pub rest_of : (part : List ℕ) → take (length part - 1) (drop 1 part) ≡ drop 1 part
rest_of [] = refl
rest_of (b ∷ bs) =
    let e : suc (length bs) - 1 ≡ length bs = omega arith in
    rw (e, take-length)

-- A name's field, put.
pub name_put : (part rest d d' : List ℕ) (tag at n : ℕ) → Wrote d at (field 0x46 rest) d' n → rest ≡ drop 1 part → 0 < length part → tag ≡ mark_tag
    → (n ≤ at + length part + 4) × Wrote d at (field_of tag part) d' n
unfolding field_of field
name_put [] rest d d' tag at n w r h t = absurd (omega arith)
name_put (b ∷ bs) rest d d' tag at n w r h t =
    let q : length rest ≡ length bs = ap length r in
    let p = w.place in
    rw t (omega arith, rw r at w)

-- A text's field, put: the head, the annotation and the bytes.
pub text_put : (part d d₁ d₂ d₃ : List ℕ) (tag at k₁ k₂ k₃ : ℕ)
    → Wrote d at (head 0x53 (length part + 1)) d₁ k₁ → Wrote d₁ k₁ (tag % 256 ∷ []) d₂ k₂ → Wrote d₂ k₂ part d₃ k₃
    → 0 < length part → (tag ≡ mark_tag → ⊥)
    → (k₃ ≤ at + length part + 4) × Wrote d at (field_of tag part) d₃ k₃
unfolding field_of field
text_put [] d d₁ d₂ d₃ tag at k₁ k₂ k₃ u v w h t = absurd (omega arith)
text_put (b ∷ bs) d d₁ d₂ d₃ tag at k₁ k₂ k₃ u v w h t =
    let g : suc (length bs) + 1 ≡ suc (suc (length bs)) = omega arith in
    let x = wrote_then (wrote_then u v) w in
    let p = x.place in
    rw (ne_eqb tag mark_tag t) (omega arith, rw g at x)

-- ---- a line's pieces, put one after another

-- what is left of the line from i, written at k, makes the whole line
abbrev pub Makes : List ℕ → List ℕ → List ℕ → ℕ → ℕ → List ℕ → ℕ → Type 0
Makes bs ts d₀ at i d k =
    (d' : List ℕ) (n : ℕ) → Wrote d k (content (zip (drop i bs) (drop i ts))) d' n → Wrote d₀ at (content (zip bs ts)) d' n

-- One piece more.
pub pieces_turn : (bs ts d₀ d d' : List ℕ) (at i j k k' : ℕ) → Wrote d k (field_of (get_or ts i 0) (take (j - i) (drop i bs))) d' k'
    → j ≡ i + 1 + run_t (get_or ts i 0) (drop (i + 1) ts) → length bs ≡ length ts → i < length ts
    → Makes bs ts d₀ at i d k → Makes bs ts d₀ at j d' k'
pieces_turn bs ts d₀ d d' at i j k k' w e l h m d'' n v = m d'' n (rw (content_at bs ts i j l h e) (wrote_then w v))

-- All pieces.
pub pieces_done : (bs ts d₀ d : List ℕ) (at i k : ℕ) → length ts ≤ i → Makes bs ts d₀ at i d k → Wrote d₀ at (content (zip bs ts)) d k
pieces_done bs ts d₀ d at i k h m = m d k (rw (content_end bs ts i h) (wrote_none d k))

-- ---- a whole line: what it holds, and then its head in front

-- The content, and then the head, make the line.
pub line_put : (l : List Item) (d d₁ d₂ : List ℕ) (at k n : ℕ) → Wrote d (at + 3) (content l) d₁ k → Wrote d₁ at (head 0x4C (k - (at + 3))) d₂ n
    → Wrote d at (line_field l) d₂ k
unfolding line_field field
line_put l d d₁ d₂ at k n v w =
    let e : k - (at + 3) ≡ length (content l) = (let p = v.place in omega arith) in
    wrote_before v (rw e at w)
