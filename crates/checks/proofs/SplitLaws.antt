-- Laws of the fields behind a sheet's head, split at the first one with a letter; and the parts of a sheet, split at the first V and then at
-- the first F.
-- Assumes nothing.
use mathlib.Core.Path.{◌≡◌, refl, sym, ap, ◌∙◌}
use mathlib.Core.Bool.{Bool, true, false}
use mathlib.Core.List.{List, [], ◌∷◌, ◌++◌, append-nil, append_assoc}
use Prim.Native.Nat.{ℕ, suc, ◌+◌, ◌-◌, ◌*◌, ◌≤◌, ◌<◌}
use native.Mathlib.Omega.{arith}
use lib.Dec.{leb, eqb}
use lib.ListN.{length, take, drop, length-drop, length-append, drop_of_length-le}
use lib.Seq.{length-take-le, take-take, take_all, drop-drop}
use borrow.Author.Tests.{leb-true, eq-eqb, ne_eqb}
use Rattle.std.specs.Prelude.{if◌then◌else◌}
use Rattle.fields.specs.Field.{Raw, whole, broken, raws_f, raws}
use Rattle.fields.proofs.Fields.{raws_nil, raws_cons, raws_few}
use Rattle.fields.proofs.Parts.{drop_take}
use Rattle.fields.specs.Spans.{before_hanging, from_hanging, before_names, from_names}
use Rattle.checks.specs.Split.{before_letter, from_letter, SplitAt, BodyAt}
use Rattle.checks.specs.declared.sheet.Split.{Split}

-- ---- the first field of bytes

-- its bytes are there, the others follow it, and a part that holds it begins with it too
record FirstIs (bs : List ℕ) (l : ℕ) (c : List ℕ) (rs : List Raw) : Type 0 where
  size : 3 + length c ≤ length bs
  others : rs ≡ raws (drop (3 + length c) bs)
  cut : (m : ℕ) → 3 + length c ≤ m → m ≤ length bs → raws (take m bs) ≡ whole l c ∷ raws (drop (3 + length c) (take m bs))

first_is : (bs : List ℕ) (l : ℕ) (c : List ℕ) (rs : List Raw) → raws bs ≡ whole l c ∷ rs → FirstIs bs l c rs
unfolding raws raws_f
first_is [] l c rs e = absurd (let z : ◌≡◌ {A = ℕ} 0 1 = cc in omega arith)
first_is (x ∷ []) l c rs e = absurd (let z : ◌≡◌ {A = ℕ} 0 1 = cc in omega arith)
first_is (x ∷ y ∷ []) l c rs e = absurd (let z : ◌≡◌ {A = ℕ} 0 1 = cc in omega arith)
first_is (x ∷ y ∷ o ∷ bs) l c rs e = go (leb (y * 256 + o) (length bs)) refl
  where
    go : (t : Bool) → leb (y * 256 + o) (length bs) ≡ t → FirstIs (x ∷ y ∷ o ∷ bs) l c rs
    go true b =
        let n = y * 256 + o in
        let fits = leb-true n (length bs) b in
        let first : whole x (take n bs) ∷ raws (drop n bs) ≡ whole l c ∷ rs = sym (raws_cons x y o bs fits) ∙ e in
        let letter : x ≡ l = cc in
        let content : take n bs ≡ c = cc in
        let others : raws (drop n bs) ≡ rs = cc in
        let long : 3 + length c ≡ suc (suc (suc n)) = omega (arith, ap length content, length-take-le n bs fits) in
        record {
          size = omega arith;
          others = rw long (sym others);
          cut = λ m h i.
              let past : m ≡ suc (suc (suc (m - 3))) = omega arith in
              let there : n ≤ length (take (m - 3) bs) = omega (arith, length-take-le (m - 3) bs (omega arith)) in
              rw (past, long) (raws_cons x y o (take (m - 3) bs) there
              ∙ ap (λ (q : List ℕ). whole x q ∷ raws (drop n (take (m - 3) bs))) (take-take n (m - 3) bs (omega arith) ∙ content)
              ∙ ap (λ (q : ℕ). whole q c ∷ raws (drop n (take (m - 3) bs))) letter);
        }
    go false b = absurd (let z : ◌≡◌ {A = ℕ} 0 1 = (let z : broken ∷ [] ≡ whole l c ∷ rs = rw b at e in cc) in omega arith)

-- a rest that is no field is the last
broken_last : (bs : List ℕ) (rs : List Raw) → raws bs ≡ broken ∷ rs → rs ≡ []
unfolding raws raws_f
broken_last [] rs e = absurd (let z : ◌≡◌ {A = ℕ} 0 1 = cc in omega arith)
broken_last (x ∷ []) rs e = cc
broken_last (x ∷ y ∷ []) rs e = cc
broken_last (x ∷ y ∷ o ∷ bs) rs e = go (leb (y * 256 + o) (length bs)) e
  where
    go : (t : Bool) → (if t then whole x (take (y * 256 + o) bs) ∷ raws_f (suc (suc (length bs))) (drop (y * 256 + o) bs) else broken ∷ []) ≡ broken ∷ rs → rs ≡ []
    go true e = absurd (let z : ◌≡◌ {A = ℕ} 0 1 = cc in omega arith)
    go false e = cc

-- ---- the walk

-- the fields up to a place, of which none has the letter, and those that are left
pub record Passed (k : ℕ) (s : List ℕ) (at count : ℕ) (left : List Raw) : Type 0 where
  pub inside : at ≤ length s
  pub size : 3 * count ≤ at
  pub left_is : left ≡ raws (drop at s)
  pub front : List Raw
  pub count_is : count ≡ length front
  pub cut : (m : ℕ) → at ≤ m → m ≤ length s → raws (take m s) ≡ front ++ raws (drop at (take m s))
  pub before : before_letter k (raws s) ≡ front ++ before_letter k left
  pub behind : from_letter k (raws s) ≡ from_letter k left

-- before the first
pub pass_start : (k : ℕ) (s : List ℕ) → Passed k s 0 0 (raws s)
pass_start k s =
    record { inside = omega arith; size = omega arith; left_is = refl; front = []; count_is = refl; cut = λ m h i. refl; before = refl; behind = refl }

-- the first field decides
before_on : (k l : ℕ) (c : List ℕ) (rs : List Raw) → (l ≡ k → ⊥) → before_letter k (whole l c ∷ rs) ≡ whole l c ∷ before_letter k rs
unfolding before_letter
before_on k l c rs h = rw (ne_eqb l k h)

from_on : (k l : ℕ) (c : List ℕ) (rs : List Raw) → (l ≡ k → ⊥) → from_letter k (whole l c ∷ rs) ≡ from_letter k rs
unfolding from_letter
from_on k l c rs h = rw (ne_eqb l k h)

before_stop : (k l : ℕ) (c : List ℕ) (rs : List Raw) → l ≡ k → before_letter k (whole l c ∷ rs) ≡ []
unfolding before_letter
before_stop k l c rs h = rw (eq-eqb l k h)

from_stop : (k l : ℕ) (c : List ℕ) (rs : List Raw) → l ≡ k → from_letter k (whole l c ∷ rs) ≡ whole l c ∷ rs
unfolding from_letter
from_stop k l c rs h = rw (eq-eqb l k h)

module _ (k : ℕ) (s : List ℕ) (at count : ℕ) (left : List Raw) (w : Passed k s at count left) where
  -- up to the place there are the fields passed
  front_is : raws (take at s) ≡ w.front
  front_is =
      let size : length (take at s) ≡ at = length-take-le at s w.inside in
      w.cut at (omega arith) w.inside
      ∙ ap (λ (b : List ℕ). w.front ++ raws b) (drop_of_length-le (take at s) {i = at} (omega arith))
      ∙ ap (λ (rs : List Raw). w.front ++ rs) raws_nil
      ∙ append-nil w.front

  -- A field that is left lies within the bytes.
  pub pass_fits : (l : ℕ) (c : List ℕ) (rs : List Raw) → left ≡ whole l c ∷ rs → at + (3 + length c) ≤ length s
  pass_fits l c rs e =
      let f = first_is (drop at s) l c rs (sym w.left_is ∙ e) in
      omega (arith, w.inside, f.size, length-drop at s)

  -- a field with another letter is behind
  pub pass_on : (l : ℕ) (c : List ℕ) (rs : List Raw) → left ≡ whole l c ∷ rs → (l ≡ k → ⊥) → Passed k s (at + (3 + length c)) (count + 1) rs
  pass_on l c rs e h =
      let f = first_is (drop at s) l c rs (sym w.left_is ∙ e) in
      let n = 3 + length c in
      let one = whole l c in
      record {
        inside = pass_fits l c rs e;
        size = omega (arith, w.size);
        left_is = f.others ∙ ap raws (drop-drop n at s);
        front = w.front ++ (one ∷ []);
        count_is = omega (arith, w.count_is, length-append w.front (one ∷ []));
        cut = λ m h i.
            let there : drop at (take m s) ≡ take (m - at) (drop at s) = drop_take at m s (omega arith) i in
            w.cut m (omega arith) i
            ∙ ap (λ (b : List ℕ). w.front ++ raws b) there
            ∙ ap (λ (rs : List Raw). w.front ++ rs) (f.cut (m - at) (omega arith) (omega (arith, length-drop at s)))
            ∙ ap (λ (b : List ℕ). w.front ++ (one ∷ raws (drop n b))) (sym there)
            ∙ ap (λ (b : List ℕ). w.front ++ (one ∷ raws b)) (drop-drop n at (take m s))
            ∙ sym (append_assoc w.front (one ∷ []) (raws (drop (at + n) (take m s))));
        before =
            w.before
            ∙ ap (λ (rs : List Raw). w.front ++ before_letter k rs) e
            ∙ ap (λ (rs : List Raw). w.front ++ rs) (before_on k l c rs h)
            ∙ sym (append_assoc w.front (one ∷ []) (before_letter k rs));
        behind = w.behind ∙ ap (from_letter k) e ∙ from_on k l c rs h;
      }

  -- what ends the walk at the place leaves no field before it
  stops : before_letter k left ≡ [] → from_letter k left ≡ left → SplitAt k s (record { end = at; count = count })
  stops b f =
      let all : before_letter k (raws s) ≡ w.front = w.before ∙ ap (λ (rs : List Raw). w.front ++ rs) b ∙ append-nil w.front in
      record {
        inside = w.inside;
        before = front_is ∙ sym all;
        behind = sym (w.behind ∙ f ∙ w.left_is);
        count = w.count_is ∙ ap length (sym all);
      }

  -- the letter
  pub pass_letter : (l : ℕ) (c : List ℕ) (rs : List Raw) → left ≡ whole l c ∷ rs → l ≡ k → SplitAt k s (record { end = at; count = count })
  pass_letter l c rs e h =
      stops (ap (before_letter k) e ∙ before_stop k l c rs h) (ap (from_letter k) e ∙ from_stop k l c rs h ∙ sym e)

  -- the end
  pub pass_end : left ≡ [] → SplitAt k s (record { end = at; count = count })
  unfolding before_letter from_letter
  pass_end e = stops (ap (before_letter k) e) (ap (from_letter k) e ∙ sym e)

  -- A rest that is left has a byte at least.
  pub rest_fits : (rs : List Raw) → left ≡ broken ∷ rs → at < length s
  rest_fits rs e = omega (arith, w.inside, raws_few (drop at s), length-drop at s, ap length (sym w.left_is ∙ e))

  -- a rest that is no field counts as one
  pub pass_broken : (rs : List Raw) → left ≡ broken ∷ rs → SplitAt k s (record { end = length s; count = count + 1 })
  unfolding before_letter from_letter
  pass_broken rs e =
      let last : left ≡ broken ∷ [] = e ∙ ap (λ (q : List Raw). broken ∷ q) (broken_last (drop at s) rs (sym w.left_is ∙ e)) in
      let full : take (length s) s ≡ s = take_all (length s) s (omega arith) in
      let all : before_letter k (raws s) ≡ w.front ++ (broken ∷ []) = w.before ∙ ap (λ (rs : List Raw). w.front ++ before_letter k rs) last in
      let fields : raws s ≡ w.front ++ (broken ∷ []) =
      ap raws (sym full) ∙ w.cut (length s) w.inside (omega arith) ∙ ap (λ (b : List ℕ). w.front ++ raws (drop at b)) full ∙ ap (λ (rs : List Raw). w.front ++ rs) (sym w.left_is ∙ last) in
      record {
        inside = omega arith;
        before = ap raws full ∙ fields ∙ sym all;
        behind = ap raws (drop_of_length-le s {i = length s} (omega arith)) ∙ raws_nil ∙ sym (w.behind ∙ ap (from_letter k) last);
        count = omega (arith, w.count_is, ap length all, length-append w.front (broken ∷ []));
      }

-- ---- the two letters

-- V
before_hanging_lem : (rs : List Raw) → before_letter 0x56 rs ≡ before_hanging rs
unfolding before_letter before_hanging
before_hanging_lem [] = refl
before_hanging_lem (broken ∷ rs) = ap (λ (q : List Raw). broken ∷ q) (before_hanging_lem rs)
before_hanging_lem (whole l c ∷ rs) = ap (λ (q : List Raw). if eqb l 0x56 then [] else whole l c ∷ q) (before_hanging_lem rs)

from_hanging_lem : (rs : List Raw) → from_letter 0x56 rs ≡ from_hanging rs
unfolding from_letter from_hanging
from_hanging_lem [] = refl
from_hanging_lem (broken ∷ rs) = from_hanging_lem rs
from_hanging_lem (whole l c ∷ rs) = ap (λ (q : List Raw). if eqb l 0x56 then whole l c ∷ rs else q) (from_hanging_lem rs)

-- F
before_names_lem : (rs : List Raw) → before_letter 0x46 rs ≡ before_names rs
unfolding before_letter before_names
before_names_lem [] = refl
before_names_lem (broken ∷ rs) = ap (λ (q : List Raw). broken ∷ q) (before_names_lem rs)
before_names_lem (whole l c ∷ rs) = ap (λ (q : List Raw). if eqb l 0x46 then [] else whole l c ∷ q) (before_names_lem rs)

from_names_lem : (rs : List Raw) → from_letter 0x46 rs ≡ from_names rs
unfolding from_letter from_names
from_names_lem [] = refl
from_names_lem (broken ∷ rs) = from_names_lem rs
from_names_lem (whole l c ∷ rs) = ap (λ (q : List Raw). if eqb l 0x46 then whole l c ∷ rs else q) (from_names_lem rs)

-- ---- the parts

-- SPLIT AT THE FIRST V, AND WHAT STANDS BEFORE IT AT THE FIRST F.
pub two_splits : (s : List ℕ) (v f : Split) → SplitAt 0x56 s v → SplitAt 0x46 (take v.end s) f
    → BodyAt s (record { names = f.end; hanging = v.end; count = f.count })
two_splits s v f a b =
    let size : length (take v.end s) ≡ v.end = length-take-le v.end s a.inside in
    let order : f.end ≤ v.end = omega (arith, b.inside) in
    let front : raws (take v.end s) ≡ before_hanging (raws s) = a.before ∙ before_hanging_lem (raws s) in
    let lines : before_letter 0x46 (raws (take v.end s)) ≡ before_names (before_hanging (raws s)) = ap (before_letter 0x46) front ∙ before_names_lem (before_hanging (raws s)) in
    record {
      order = order;
      inside = a.inside;
      lines = ap raws (sym (take-take f.end v.end s order)) ∙ b.before ∙ lines;
      names = ap raws (sym (drop_take f.end v.end s order a.inside)) ∙ b.behind ∙ ap (from_letter 0x46) front ∙ from_names_lem (before_hanging (raws s));
      hung = a.behind ∙ from_hanging_lem (raws s);
      count = b.count ∙ ap length lines;
    }
