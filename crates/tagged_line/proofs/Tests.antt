-- Tests of all elements of a list, and of what is too long.
-- Assumes nothing.
use mathlib.Core.Path.{◌≡◌, refl, ap, ◌∙◌}
use mathlib.Core.Logic.{◌⊎◌, ⊎_elim}
use mathlib.Core.Bool.{Bool, true, false, not, ◌&&◌, ◌||◌}
use mathlib.Core.List.{List, [], ◌∷◌, ◌++◌}
use Prim.Native.Nat.{ℕ}
use borrow.Author.Tests.{leb-true, leb-false, le-ltb, lt-ltb}
use lib.Dec.{leb, ltb}
use Rattle.std.proofs.Math.Bool.{and-true}
use Rattle.characters.proofs.Tests.{and_assoc}
use Rattle.fields.specs.Field.{all}

-- a test of all elements of two lists
pub all_append : {A : Type 0} (f : A → Bool) (l m : List A) → all f (l ++ m) ≡ (all f l && all f m)
unfolding all
all_append f [] m = refl
all_append f (a ∷ l) m = ap (λ (t : Bool). f a && t) (all_append f l m) ∙ and_assoc (f a) (all f l) (all f m)

-- and of one element more
pub all_more : {A : Type 0} (f : A → Bool) (l : List A) (a : A) → all f (l ++ (a ∷ [])) ≡ (all f l && f a)
unfolding all
all_more f l a = all_append f l (a ∷ []) ∙ ap (λ (t : Bool). all f l && t) (and-true (f a))

-- one of two tests fails where they do not both hold
pub not_and : (s t : Bool) → (not s || not t) ≡ not (s && t)
not_and true t = refl
not_and false t = refl

-- what `||` came to, with the length at hand
pub long_more : (a r : Bool) (n : ℕ) → ((a ≡ true) × (r ≡ a)) ⊎ ((a ≡ false) × (r ≡ ltb 65535 n)) → r ≡ (a || not (leb n 65535))
long_more a r n came = ⊎_elim (λ y. rw (y.1, y.0)) (λ y. rw (y.1, y.0) (longer (leb n 65535) refl)) came
  where
    longer : (t : Bool) → leb n 65535 ≡ t → ltb 65535 n ≡ not (leb n 65535)
    longer true e = rw e (le-ltb 65535 n (leb-true n 65535 e))
    longer false e = rw e (lt-ltb 65535 n (leb-false n 65535 e))
