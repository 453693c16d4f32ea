-- The laws of positions up to `Near`, and of a border whose buffer may be too short: made, copied, stretched, a segment changed, cut
-- beside a hole, and merged with another.
-- Assumes nothing.
use mathlib.Core.Path.{◌≡◌, refl, sym, ap, ap₂, ◌∙◌}
use mathlib.Core.Logic.{inl, inr, ⊎_elim}
use mathlib.Core.Bool.{Bool, true, false}
use mathlib.Core.List.{List, [], ◌∷◌, ◌++◌, append-nil}
use Prim.Native.Nat.{ℕ, zero, suc, ◌+◌, ◌-◌, ◌≤◌, ◌<◌, min, max}
use native.Mathlib.Omega.{arith}
use native.Mathlib.Numerals.{add-one}
use borrow.Rule.Slice.PartMut.{put_mid}
use Rattle.std.proofs.lemmas.List.{take_at, take-replicate}
use Rattle.std.proofs.lemmas.Slice.{take-put_mid}
use Rattle.std.proofs.Common.{length-take-le, length-drop}
use native.Mathlib.Nat.{sub_self}
use lib.ListN.{length, take, drop, get_or, replicate, length-append, length-replicate, length-take}
use lib.Seq.{drop-cons, take_all, take-take, take-append-le, take-append-add, take-nil}
use Rattle.std.specs.Prelude.{if◌then◌else◌}
use Rattle.characters.proofs.Tests.{lt_or_le}
use Rattle.borders.specs.declared.border.Side.{Side}
use Rattle.borders.specs.BorderSegHoriz.{Horiz, chop_left, chop_right}
use Rattle.borders.specs.BorderHoriz.{new_type, stretch_to, joined_on, joins_from, join_on, merge_from, chop_before, cut_for}
use Rattle.borders.specs.Buffer.{HoldsBorder}
use Rattle.borders.proofs.Buffers.{merge_cons, merge_starts as starts, merge_ends as ends}
use Rattle.long_borders.specs.declared.border.BorderHoriz.{BorderHoriz}
use Rattle.long_borders.specs.Keeps.{Near, Keeps, Fills, Copies, Stretches, NearIn, Changes, ChopsBefore, Cuts, JoinsOn, MergesFrom}

-- ---- positions

-- A position is near itself.
pub near_refl : (a : ℕ) → Near a a
near_refl a = inl refl

-- Near is the same both ways.
pub near_sym : {a b : ℕ} → Near a b → Near b a
near_sym (inl e) = inl (sym e)
near_sym (inr h) = inr (h.1, h.0)

-- Below the bound there is one position.
pub near_low : {a b : ℕ} → Near a b → a < 131072 → a ≡ b
near_low (inl e) l = e
near_low (inr h) l = absurd (omega (arith, h.0))

-- What one position reaches, the other reaches.
pub near_high : {a b : ℕ} (m : ℕ) → Near a b → m ≤ 131072 → m ≤ a → m ≤ b
near_high m (inl e) h l = omega (arith, e)
near_high m (inr g) h l = omega (arith, g.1)

-- Both moved on by the same columns.
pub near_plus : {a b : ℕ} (d : ℕ) → Near a b → Near (a + d) (b + d)
near_plus d (inl e) = inl (ap (λ (x : ℕ). x + d) e)
near_plus d (inr h) = inr (omega (arith, h.0), omega (arith, h.1))

-- The larger ones of two pairs.
pub near_max : {a b c d : ℕ} → Near a b → Near c d → Near (max a c) (max b d)
near_max (inl e) (inl f) = inl (ap₂ max e f)
near_max (inr h) g = inr (omega (arith, h.0), omega (arith, h.1))
near_max (inl e) (inr h) = inr (omega (arith, h.0), omega (arith, h.1))

-- Near is near in any buffer that a border has.
pub near_in : {a b : ℕ} (buffer : List ℕ) → length buffer ≤ 65536 → Near a b → NearIn buffer a b
near_in buffer r (inl e) = inl e
near_in buffer r (inr h) = inr (omega (arith, h.0), omega (arith, h.1))

-- ---- what a buffer keeps

-- A border that fits the buffer is the buffer's first bytes.
pub keeps_whole : (b : BorderHoriz) (d : List ℕ) → Keeps b d → length d ≤ length b.buffer.now → (take b.len b.buffer.now ≡ d) × (b.len ≡ length d)
keeps_whole b d k h =
    (sym k.kept ∙ take_all (length b.buffer.now) d h, sym (near_low (near_sym k.size) (omega (arith, k.room))))

-- The same by the count of segments.
pub keeps_fits : (b : BorderHoriz) (d : List ℕ) → Keeps b d → b.len ≤ length b.buffer.now → (take b.len b.buffer.now ≡ d) × (b.len ≡ length d)
keeps_fits b d k h = keeps_whole b d k (omega (arith, near_low k.size (omega (arith, k.room))))

-- A border that does not fit by the count is longer than the buffer.
pub keeps_long : (b : BorderHoriz) (d : List ℕ) → Keeps b d → length b.buffer.now < b.len → length b.buffer.now < length d
keeps_long b d k h = near_high (suc (length b.buffer.now)) k.size (omega (arith, k.room)) h

-- The buffer's first bytes are a border that it keeps.
pub keeps_take : (b : BorderHoriz) → length b.buffer.now ≤ 65536 → b.len ≤ length b.buffer.now → Keeps b (take b.len b.buffer.now)
keeps_take b r h =
    let e = length-take b.len b.buffer.now in
    record { room = r; size = inl (omega (arith, e)); kept = take_all (length b.buffer.now) (take b.len b.buffer.now) (omega (arith, e)) }

take_comm : (m n : ℕ) (l : List ℕ) → take m (take n l) ≡ take n (take m l)
take_comm zero n l = sym (take-nil n)
take_comm (suc m) zero l = refl
take_comm (suc m) (suc n) [] = refl
take_comm (suc m) (suc n) (x ∷ xs) = ap (λ (r : List ℕ). x ∷ r) (take_comm m n xs)

-- A part of the buffer keeps what it has room for.
pub keeps_part : (b c : BorderHoriz) (d : List ℕ) (m : ℕ) → c.buffer.now ≡ take m b.buffer.now → c.len ≡ b.len → Keeps b d → Keeps c d
keeps_part b c d m p q k =
    record { room = omega (arith, len, length-take m b.buffer.now, k.room); size = rw q k.size; kept = rw (p, q) (⊎_elim cut all (lt_or_le m (length b.buffer.now))) }
  where
    len : length c.buffer.now ≡ length (take m b.buffer.now)
    len = ap length p

    cut : m < length b.buffer.now → take (length (take m b.buffer.now)) d ≡ take b.len (take m b.buffer.now)
    cut h =
        let e : length (take m b.buffer.now) ≡ m = omega (arith, length-take m b.buffer.now) in
        ap (λ (j : ℕ). take j d) e ∙ sym (take-take m (length b.buffer.now) d (omega arith)) ∙ ap (take m) k.kept ∙ take_comm m b.len b.buffer.now

    all : length b.buffer.now ≤ m → take (length (take m b.buffer.now)) d ≡ take b.len (take m b.buffer.now)
    all h = rw (take_all m b.buffer.now h) k.kept

-- ---- made and copied

-- What a copy leaves: the border up to i, its end or the buffer's.
pub copied : (b : BorderHoriz) (segs : List ℕ) (i : ℕ) → i ≡ min (length segs) (length b.buffer.now) → take i b.buffer.now ≡ take i segs
    → b.len ≡ length segs → Copies segs b
copied b segs i f t s room = record { room = room; size = inl s; kept = ⊎_elim long short (lt_or_le (length b.buffer.now) (length segs)) }
  where
    long : length b.buffer.now < length segs → take (length b.buffer.now) segs ≡ take b.len b.buffer.now
    long h =
        let m : length b.buffer.now ≡ i = omega arith in
        ap (λ (x : ℕ). take x segs) m ∙ sym t ∙ take_all i b.buffer.now (omega arith) ∙ sym (take_all b.len b.buffer.now (omega arith))

    short : length segs ≤ length b.buffer.now → take (length b.buffer.now) segs ≡ take b.len b.buffer.now
    short h =
        let m : i ≡ b.len = omega arith in
        take_all (length b.buffer.now) segs (omega arith) ∙ sym (take_all i segs (omega arith)) ∙ sym t ∙ ap (λ (x : ℕ). take x b.buffer.now) m

-- The buffer's first bytes, filled up to i.
filled_first : (b₀ x b : List ℕ) (i s : ℕ) → i ≤ length b₀ → x ≡ replicate (length (take i b₀)) s → b ≡ x ++ drop i b₀
    → (take i b ≡ replicate i s) × (length b ≡ length b₀)
filled_first b₀ x b i s within f p =
    let x-is : x ≡ replicate i s = rw (length-take-le i b₀ within) at f in
    let long : length x ≡ i = rw (x-is, length-replicate) refl in
    (rw p (take_at x (drop i b₀) i long ∙ x-is), omega (arith, ap length p, length-append x (drop i b₀), length-drop i b₀, long))

-- What filling the buffer up to a width within it leaves.
pub filled_whole : (b b₀ x : List ℕ) (i w s : ℕ) → i ≡ min w (length b₀) → x ≡ replicate (length (take i b₀)) s → b ≡ x ++ drop i b₀
    → w ≤ length b₀ → HoldsBorder b w (new_type w s)
unfolding new_type
filled_whole b b₀ x i w s e f p h =
    let same : i ≡ w = omega arith in
    let first = filled_first b₀ x b i s (omega arith) f p in
    record { inside = omega (arith, first.1); segments = rw (← same) first.0 }

-- What filling the buffer up to the width or its end leaves.
pub filled_up : (b : BorderHoriz) (b₀ x : List ℕ) (i w s : ℕ) → i ≡ min w (length b₀) → x ≡ replicate (length (take i b₀)) s
    → b.buffer.now ≡ x ++ drop i b₀ → b.len ≡ w → Fills w s b
unfolding new_type
filled_up b b₀ x i w s e f p q =
    let first = filled_first b₀ x b.buffer.now i s (omega arith) f p in
    copied b (replicate w s) i (omega (arith, first.1, length-replicate w s)) (first.0 ∙ sym (take-replicate i w s (omega arith)))
    (q ∙ sym (length-replicate w s))

-- ---- stretched

stretch_length : (b : List ℕ) (w : ℕ) → length (stretch_to b w) ≡ max (length b) w
unfolding stretch_to
stretch_length b w = omega (arith, length-append b (replicate (w - length b) Horiz), length-replicate (w - length b) Horiz)

-- The border is Horiz from its end up to i, the width or the buffer's end.
pub keeps_stretched : (b₀ b : BorderHoriz) (w i : ℕ) → length b.buffer.now ≡ length b₀.buffer.now → b₀.len ≤ i
    → i - b₀.len ≡ min w (length b₀.buffer.now) - b₀.len
    → take i b.buffer.now ≡ take b₀.len b₀.buffer.now ++ replicate (i - b₀.len) Horiz → b.len ≡ max b₀.len w → Stretches b₀ w b
unfolding stretch_to
keeps_stretched b₀ b w i e g f t s border w₀ k nw =
    record {
      room = omega (arith, k.room);
      size = rw (s, stretch_length border w₀) (near_max k.size nw);
      kept = ⊎_elim short long (lt_or_le (length b₀.buffer.now) b₀.len);
    }
  where
    -- the border is longer than the buffer
    short : length b₀.buffer.now < b₀.len → take (length b.buffer.now) (border ++ replicate (w₀ - length border) Horiz) ≡ take b.len b.buffer.now
    short h =
        let z : i - b₀.len ≡ 0 = omega arith in
        take-append-le (length b.buffer.now) border (replicate (w₀ - length border) Horiz) (omega (arith, keeps_long b₀ border k h))
        ∙ ap (λ (m : ℕ). take m border) e ∙ k.kept
        ∙ sym (append-nil (take b₀.len b₀.buffer.now)) ∙ ap (λ (m : ℕ). take b₀.len b₀.buffer.now ++ replicate m Horiz) (sym z)
        ∙ sym t ∙ take_all i b.buffer.now (omega arith) ∙ sym (take_all b.len b.buffer.now (omega arith))

    -- it is within the buffer
    long : b₀.len ≤ length b₀.buffer.now → take (length b.buffer.now) (border ++ replicate (w₀ - length border) Horiz) ≡ take b.len b.buffer.now
    long h =
        let whole = keeps_fits b₀ border k h in
        let own : border ≡ take b₀.len b₀.buffer.now = sym whole.0 in
        let size : b₀.len ≡ length border = whole.1 in
        ⊎_elim
        (λ (past : length b₀.buffer.now < w).
        let reach : length b₀.buffer.now ≤ w₀ = near_high (length b₀.buffer.now) nw (omega (arith, k.room)) (omega arith) in
        let d : i - b₀.len ≡ length b.buffer.now - b₀.len = omega arith in
        let m : length b.buffer.now ≡ length border + (length b.buffer.now - b₀.len) = omega arith in
        ap (λ (x : ℕ). take x (border ++ replicate (w₀ - length border) Horiz)) m
        ∙ take-append-add border (replicate (w₀ - length border) Horiz) (length b.buffer.now - b₀.len)
        ∙ ap₂ (λ (x y : List ℕ). x ++ y) own
        (take-replicate (length b.buffer.now - b₀.len) (w₀ - length border) Horiz (omega arith) ∙ ap (λ (x : ℕ). replicate x Horiz) (sym d))
        ∙ sym t ∙ take_all i b.buffer.now (omega arith) ∙ sym (take_all b.len b.buffer.now (omega arith)))
        (λ (fits : w ≤ length b₀.buffer.now).
        let one : w ≡ w₀ = near_low nw (omega (arith, k.room)) in
        let d : i - b₀.len ≡ w₀ - length border = omega arith in
        let same : i ≡ b.len = omega arith in
        take_all (length b.buffer.now) (border ++ replicate (w₀ - length border) Horiz)
        (omega (arith, length-append border (replicate (w₀ - length border) Horiz), length-replicate (w₀ - length border) Horiz))
        ∙ ap₂ (λ (x : List ℕ) (y : ℕ). x ++ replicate y Horiz) own (sym d) ∙ sym t ∙ ap (λ (x : ℕ). take x b.buffer.now) same)
        (lt_or_le (length b₀.buffer.now) w)

-- What filling the buffer from the border's end up to the width or the buffer's end leaves.
pub stretched_up : (b₀ b : BorderHoriz) (x : List ℕ) (w i : ℕ) → i ≡ min w (length b₀.buffer.now) → b₀.len < i
    → b.buffer.now ≡ put_mid b₀.len (i - b₀.len) b₀.buffer.now x → x ≡ replicate (length (take (i - b₀.len) (drop b₀.len b₀.buffer.now))) Horiz
    → length b.buffer.now ≡ length b₀.buffer.now → b.len ≡ max b₀.len w → Stretches b₀ w b
stretched_up b₀ b x w i e h g f same s =
    let x-is : x ≡ replicate (i - b₀.len) Horiz =
    rw (length-take-le (i - b₀.len) (drop b₀.len b₀.buffer.now) (omega (arith, length-drop b₀.len b₀.buffer.now))) at f in
    let long : length x ≡ i - b₀.len = rw (x-is, length-replicate) refl in
    keeps_stretched b₀ b w i same (omega arith) (omega arith)
    (rw g (take-put_mid b₀.len (i - b₀.len) b₀.buffer.now x i (omega arith) (omega arith)) ∙ ap (λ (y : List ℕ). take b₀.len b₀.buffer.now ++ y) x-is) s

-- A border that is as wide, or longer than the buffer, stays.
pub stretched_none : (b₀ b : BorderHoriz) (w i : ℕ) → i ≡ min w (length b₀.buffer.now) → i ≤ b₀.len → b.buffer.now ≡ b₀.buffer.now
    → b.len ≡ max b₀.len w → Stretches b₀ w b
stretched_none b₀ b w i e h g s =
    keeps_stretched b₀ b w b₀.len (ap length g) (omega arith) (omega arith) (rw (g, sub_self b₀.len, append-nil)) s

-- ---- a segment changed

-- A join at a place that was reached.
pub joined_at : (side : Side) (b₀ b b' : BorderHoriz) (x : ℕ) → Stretches b₀ (x + 1) b → Changes (joined_on side) b x b' → JoinsOn side b₀ x b'
unfolding join_on
joined_at side b₀ b b' x s u border x₀ g near =
    let on = s border (x₀ + 1) g (near_plus 1 near) in
    u (stretch_to border (suc x₀)) x₀ (rw (add-one x₀) at on) (near_in b.buffer.now on.room near)

-- ---- the cuts beside a hole

-- The segment before a place.
pub before_there : (b b' : BorderHoriz) (pos : ℕ) → 0 < pos → Changes chop_right b (pos - 1) b' → ChopsBefore b pos b'
before_there b b' pos h s border zero k near = absurd (omega (arith, near_high 1 near (omega arith) h))
before_there b b' pos h s border (suc x₀) k near = s border x₀ k (before near)
  where
    before : Near pos (suc x₀) → NearIn b.buffer.now (pos - 1) x₀
    before (inl e) = inl (omega (arith, e))
    before (inr g) = inr (omega (arith, g.0, k.room), omega (arith, g.1, k.room))

-- Stretched, chopped before the hole and at its end.
pub cut : (b₀ b₁ b₂ b₃ : BorderHoriz) (pos rpos : ℕ) → Stretches b₀ rpos b₁ → ChopsBefore b₁ pos b₂ → Changes chop_left b₂ rpos b₃ → Cuts b₀ pos rpos b₃
unfolding cut_for
cut b₀ b₁ b₂ b₃ pos rpos s t u border pos₀ rpos₀ g p q =
    let chopped = t (stretch_to border rpos₀) pos₀ (s border rpos₀ g q) p in
    u (chop_before (stretch_to border rpos₀) pos₀) rpos₀ chopped (near_in b₂.buffer.now chopped.room q)

-- ---- merging

-- the segments of the other border up to i are merged: what is left of it gives what the whole gives
abbrev pub SoFar : Side → BorderHoriz → List ℕ → ℕ → BorderHoriz → ℕ → Type 0
SoFar side b₀ other pos b i =
    (border : List ℕ) (pos₀ : ℕ) → Keeps b₀ border → Near pos pos₀
    → (d : List ℕ) × Keeps b d × (merge_from side d (drop i other) (pos₀ + i) ≡ merge_from side border other pos₀)

module _ (side : Side) where
  -- At the start nothing is merged.
  pub merge_starts : (b : BorderHoriz) (other : List ℕ) (pos : ℕ) → SoFar side b other pos b 0
  merge_starts b other pos border pos₀ g near = (border, g, starts side border other pos₀)

  -- what one segment of the other border does
  step : (d other : List ℕ) (pos i : ℕ) (t : Bool) → i < length other → joins_from side (get_or other i 0) ≡ t
      → merge_from side (if t then join_on side d (pos + i) else d) (drop (i + 1) other) (pos + (i + 1)) ≡ merge_from side d (drop i other) (pos + i)
  step d other pos i t h e =
      let next : pos + (i + 1) ≡ suc (pos + i) = omega arith in
      rw (next, add-one i, drop-cons other i 0 h) (merge_cons side d (get_or other i 0) (drop (suc i) other) (pos + i) t e)

  -- A segment that joins.
  pub merge_joins : (b₀ b b' : BorderHoriz) (other : List ℕ) (pos i : ℕ) → i < length other → joins_from side (get_or other i 0) ≡ true
      → JoinsOn side b (pos + i) b' → SoFar side b₀ other pos b i → SoFar side b₀ other pos b' (i + 1)
  merge_joins b₀ b b' other pos i h e s inv border pos₀ g near =
      let (d, kd, m) = inv border pos₀ g near in
      (join_on side d (pos₀ + i), s d (pos₀ + i) kd (near_plus i near), step d other pos₀ i true h e ∙ m)

  -- A segment that does not join.
  pub merge_passes : (b₀ b : BorderHoriz) (other : List ℕ) (pos i : ℕ) → i < length other → joins_from side (get_or other i 0) ≡ false
      → SoFar side b₀ other pos b i → SoFar side b₀ other pos b (i + 1)
  merge_passes b₀ b other pos i h e inv border pos₀ g near =
      let (d, kd, m) = inv border pos₀ g near in
      (d, kd, step d other pos₀ i false h e ∙ m)

  -- At the other border's end all is merged.
  pub merge_ends : (b₀ b : BorderHoriz) (other : List ℕ) (pos i : ℕ) → length other ≤ i → SoFar side b₀ other pos b i → MergesFrom side b₀ other pos b
  merge_ends b₀ b other pos i h inv border pos₀ g near =
      let (d, kd, m) = inv border pos₀ g near in
      rw (← m, ends side d other pos₀ i h) kd
