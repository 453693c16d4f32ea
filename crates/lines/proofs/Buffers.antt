-- Laws of items, and of entries written behind them.
-- Assumes nothing.
use mathlib.Core.Path.{◌≡◌, refl, sym, ap, ◌∙◌}
use mathlib.Core.List.{List, [], ◌∷◌, ◌++◌, map}
use Prim.Native.Nat.{ℕ, zero, suc, ◌+◌, ◌-◌, ◌≤◌, ◌<◌}
use native.Mathlib.Numerals.{add-one}
use native.Mathlib.Omega.{arith}
use lib.ListN.{length, take, drop, get_or, set, length-take, length-drop, replicate, length-set}
use lib.Seq.{take-suc, take-suc-set, length-take-le}
use Rattle.std.proofs.lemmas.Slice.{take-put_mid}
use borrow.Rule.Slice.PartMut.{put_mid}
use Rattle.lines.specs.Items.{Item, item, byte_of, tag_of, zip, items}
use Rattle.lines.specs.Bridge.{tagged}

-- ---- zip

-- Two pairs of lists, one after the other.
pub zip_append : (bs ts cs us : List ℕ) → length bs ≡ length ts → zip (bs ++ cs) (ts ++ us) ≡ zip bs ts ++ zip cs us
zip_append [] [] cs us h = refl
zip_append [] (t ∷ ts) cs us h = absurd (omega (arith, h))
zip_append (b ∷ bs) [] cs us h = absurd (omega (arith, h))
zip_append (b ∷ bs) (t ∷ ts) cs us h = ap (λ (l : List Item). item b t ∷ l) (zip_append bs ts cs us (omega (arith, h)))

-- The bytes of the items of two lists.
pub zip_bytes : (bs ts : List ℕ) → length bs ≡ length ts → map byte_of (zip bs ts) ≡ bs
zip_bytes [] ts e = refl
zip_bytes (x ∷ bs) [] e = absurd (omega (arith, e))
zip_bytes (x ∷ bs) (y ∷ ts) e = ap (λ (l : List ℕ). x ∷ l) (zip_bytes bs ts (omega (arith, e)))

-- Two lists of one length make as many items.
pub length_zip : (bs ts : List ℕ) → length bs ≡ length ts → length (zip bs ts) ≡ length bs
length_zip [] ts e = refl
length_zip (x ∷ bs) [] e = absurd (omega (arith, e))
length_zip (x ∷ bs) (y ∷ ts) e = ap suc (length_zip bs ts (omega (arith, e)))

-- The tags of the items of two lists.
pub zip_tags : (bs ts : List ℕ) → length bs ≡ length ts → map tag_of (zip bs ts) ≡ ts
zip_tags [] [] e = refl
zip_tags [] (t ∷ ts) e = absurd (omega (arith, e))
zip_tags (x ∷ bs) [] e = absurd (omega (arith, e))
zip_tags (x ∷ bs) (y ∷ ts) e = ap (λ (l : List ℕ). y ∷ l) (zip_tags bs ts (omega (arith, e)))

-- Without tags there are no items.
pub zip_nil : (bs : List ℕ) → zip bs [] ≡ []
zip_nil [] = refl
zip_nil (b ∷ bs) = refl

pub zip_drop : (n : ℕ) (bs ts : List ℕ) → zip (drop n bs) (drop n ts) ≡ drop n (zip bs ts)
zip_drop zero bs ts = refl
zip_drop (suc n) [] ts = refl
zip_drop (suc n) (b ∷ bs) [] = zip_nil (drop n bs)
zip_drop (suc n) (b ∷ bs) (t ∷ ts) = zip_drop n bs ts

-- ---- items

-- The first 0 items.
pub items_none : (bs ts : List ℕ) → items bs ts 0 ≡ []
unfolding items
items_none bs ts = refl

-- The first n items are n.
pub items_length : (bs ts : List ℕ) (n : ℕ) → n ≤ length bs → n ≤ length ts → length (items bs ts n) ≡ n
unfolding items
items_length bs ts n h k = length_zip (take n bs) (take n ts) (length-take-le n bs h ∙ sym (length-take-le n ts k)) ∙ length-take-le n bs h

-- The bytes of the first n items.
pub items_bytes : (bs ts : List ℕ) (n : ℕ) → n ≤ length bs → n ≤ length ts → take n bs ≡ map byte_of (items bs ts n)
unfolding items
items_bytes bs ts n h k = sym (zip_bytes (take n bs) (take n ts) (length-take-le n bs h ∙ sym (length-take-le n ts k)))

-- The tags of the first n items.
pub items_tags : (bs ts : List ℕ) (n : ℕ) → n ≤ length bs → n ≤ length ts → take n ts ≡ map tag_of (items bs ts n)
unfolding items
items_tags bs ts n h k = sym (zip_tags (take n bs) (take n ts) (length-take-le n bs h ∙ sym (length-take-le n ts k)))

-- The bytes and the tags of items make the items.
pub zip_maps : (l : List Item) → zip (map byte_of l) (map tag_of l) ≡ l
zip_maps [] = refl
zip_maps (x ∷ l) = ap (λ (m : List Item). x ∷ m) (zip_maps l)

-- So do lists that are those bytes and those tags.
pub zip_copies : (l : List Item) (bs ts : List ℕ) → bs ≡ map byte_of l → ts ≡ map tag_of l → zip bs ts ≡ l
zip_copies l bs ts e f = rw (e, f) (zip_maps l)

zip_take : (n : ℕ) (bs ts : List ℕ) → zip (take n bs) (take n ts) ≡ take n (zip bs ts)
zip_take zero bs ts = refl
zip_take (suc n) [] ts = refl
zip_take (suc n) (b ∷ bs) [] = refl
zip_take (suc n) (b ∷ bs) (t ∷ ts) = ap (λ (l : List Item). item b t ∷ l) (zip_take n bs ts)

take_less : (m n : ℕ) (l : List Item) → m ≤ n → take m l ≡ take m (take n l)
take_less zero n l h = refl
take_less (suc m) zero l h = absurd (omega (arith, h))
take_less (suc m) (suc n) [] h = refl
take_less (suc m) (suc n) (x ∷ l) h = ap (λ (k : List Item). x ∷ k) (take_less m n l (omega (arith, h)))

-- The first m of the first n items.
pub items_take : (bs ts : List ℕ) (n m : ℕ) → m ≤ n → items bs ts m ≡ take m (items bs ts n)
unfolding items
items_take bs ts n m h = rw (zip_take m bs ts, zip_take n bs ts) (take_less m n (zip bs ts) h)

-- a store at n of both buffers is one more item
pub items_push : (bs ts : List ℕ) (n b t : ℕ) → n < length bs → n < length ts → items (set bs n b) (set ts n t) (n + 1) ≡ items bs ts n ++ (item b t ∷ [])
unfolding items
items_push bs ts n b t h k = let e : length (take n bs) ≡ length (take n ts) = simp length-take (omega arith) in rw (add-one, take-suc-set bs, take-suc-set ts, zip_append)

-- One more entry.
pub push_length : (bs ts : List ℕ) (n b t : ℕ) → n < length bs → n < length ts → length (items (set bs n b) (set ts n t) (n + 1)) ≡ n + 1
push_length bs ts n b t h k = items_length (set bs n b) (set ts n t) (n + 1) (simp length-set (omega arith)) (simp length-set (omega arith))

-- one more item of buffers that stay
pub items_more : (bs ts : List ℕ) (n : ℕ) → n < length bs → n < length ts → items bs ts (n + 1) ≡ items bs ts n ++ (item (get_or bs n 0) (get_or ts n 0) ∷ [])
unfolding items
items_more bs ts n h k = let e : length (take n bs) ≡ length (take n ts) = simp length-take (omega arith) in rw (add-one, take-suc bs n 0, take-suc ts n 0, zip_append)

-- Bytes of one tag, put together.
pub tagged_append : (t : ℕ) (a b : List ℕ) → tagged t (a ++ b) ≡ tagged t a ++ tagged t b
unfolding tagged
tagged_append t [] b = refl
tagged_append t (x ∷ a) b = ap (λ (l : List Item). item x t ∷ l) (tagged_append t a b)

-- ---- a part of both buffers that is written

-- What is written from n on stands behind the first n items.
pub items_put : (bs ts xs us : List ℕ) (n m k : ℕ) (l : List Item) → n ≤ length bs → n ≤ length ts → length xs ≡ m → length us ≡ m → zip xs us ≡ l
    → items (put_mid n k bs xs) (put_mid n k ts us) (n + m) ≡ items bs ts n ++ l
unfolding items
items_put bs ts xs us n m k l h g p q r =
    let e : length (take n bs) ≡ length (take n ts) = simp length-take (omega arith) in
    rw (← r, take-put_mid n k bs xs (n + m) (omega arith) h, take-put_mid n k ts us (n + m) (omega arith) g, zip_append (take n bs) (take n ts) xs us e)

-- A part of m entries from n on has m of them.
pub part_length : (xs : List ℕ) (n m : ℕ) → n + m ≤ length xs → length (take (n + m - n) (drop n xs)) ≡ m
part_length xs n m h = simp (length-take, length-drop) (omega arith)

zip_replicate : (b t m : ℕ) → zip (replicate m b) (replicate m t) ≡ replicate m (item b t)
zip_replicate b t zero = refl
zip_replicate b t (suc m) = ap (λ (l : List Item). item b t ∷ l) (zip_replicate b t m)

zip_tagged : (t : ℕ) (part : List ℕ) → zip part (replicate (length part) t) ≡ tagged t part
unfolding tagged
zip_tagged t [] = refl
zip_tagged t (b ∷ part) = ap (λ (l : List Item). item b t ∷ l) (zip_tagged t part)

-- A part of both buffers that is filled with one byte and one tag.
pub zip_filled : (xs us : List ℕ) (b t m j k : ℕ) → xs ≡ replicate j b → us ≡ replicate k t → j ≡ m → k ≡ m → zip xs us ≡ replicate m (item b t)
zip_filled xs us b t m j k e f p q = rw (e, f, p, q) (zip_replicate b t m)

-- A part of both buffers that holds a text and is filled with one tag.
pub zip_text : (part xs us : List ℕ) (t k : ℕ) → xs ≡ part → us ≡ replicate k t → k ≡ length part → zip xs us ≡ tagged t part
zip_text part xs us t k e f p = rw (e, f, p) (zip_tagged t part)

-- what stands behind the bytes of one tag
pub drop_tagged : (t : ℕ) (x : List ℕ) (l : List Item) → drop (length x) (tagged t x ++ l) ≡ l
unfolding tagged
drop_tagged t [] l = refl
drop_tagged t (b ∷ x) l = drop_tagged t x l
