-- Laws of the columns of a text, counted character by character.
-- Assumes nothing.
use mathlib.Core.Path.{◌≡◌, refl, sym, ap, ◌∙◌}
use mathlib.Core.Bool.{Bool, true}
use mathlib.Core.Option.{Option, none, some, map}
use mathlib.Core.List.{List, ◌∷◌, ◌++◌}
use Prim.Native.Nat.{ℕ, ◌+◌, ◌-◌, ◌*◌, ◌≤◌, ◌<◌}
use native.Mathlib.Omega.{arith}
use lib.ListN.{length, take, drop, length-drop, drop_of_length-le}
use lib.Seq.{drop-drop}
use Rattle.characters.specs.Columns.{cols, str_width}
use Rattle.characters.specs.Utf8.{char, decode_of, chars}
use Rattle.std.specs.Prelude as rust
use Rattle.characters.specs.Plain.{PlainRun}
use Rattle.characters.proofs.RoundTrip.{decode_size, chars_nil, chars_step, chars_bad}
use Rattle.characters.proofs.Runs.{width_append, run_chars}
use Rattle.fields.specs.Widths.{width_or, text_width}
use Rattle.fields.proofs.Texts.{rest}

-- ---- the columns of a text, so many before the characters that are left

-- n columns and those of what is left; 0 where that is no text
abbrev pub after : ℕ → Option (List ℕ) → ℕ
after n none = 0
after n (some cs) = n + str_width cs

after_zero : (o : Option (List ℕ)) → width_or o ≡ after 0 o
after_zero none = refl
after_zero (some cs) = omega arith

after_cons : (n c : ℕ) (o : Option (List ℕ)) → after n (map (λ (cs : List ℕ). c ∷ cs) o) ≡ after (n + cols c) o
unfolding str_width
after_cons n c none = refl
after_cons n c (some cs) = omega arith

-- characters that are passed over add their columns
after_run : (n : ℕ) (cs : List ℕ) (o : Option (List ℕ))
    → after n (map (λ (l : List ℕ). cs ++ l) o) ≡ after (n + str_width cs) o
after_run n cs none = refl
after_run n cs (some l) = omega (arith, width_append cs l)

-- up to a place of the text s, n columns
pub record Counted (s : List ℕ) (at n : ℕ) : Type 0 where
  pub inside : at ≤ length s
  pub few : n ≤ 2 * at
  pub left : text_width s ≡ after n (chars (drop at s))

-- before the first character
pub count_start : (s : List ℕ) → Counted s 0 0
unfolding text_width
count_start s = record { inside = omega arith; few = omega arith; left = after_zero (chars s) }

module _ (s : List ℕ) (at n : ℕ) (w : Counted s at n) where
  -- the character at the place
  pub counted_size : (c k : ℕ) → decode_of (take (length s - at) (drop at s)) ≡ char c k → (0 < k) × (at + k ≤ length s)
  counted_size c k e =
      let (lo, hi, fits) = decode_size (drop at s) c k (rw (rest s at) at e) in
      (lo, omega (arith, w.inside, fits, length-drop at s))

  -- a run of plain characters on
  pub count_run : (b : Bool) (k m : ℕ) → k ≤ length (take (length s - at) (drop at s)) → m ≤ k
      → PlainRun b (take (length s - at) (drop at s)) k m → Counted s (at + k) (n + m)
  count_run b k m h few r =
      let q : PlainRun b (drop at s) k m = rw (rest s at) at r in
      let size : k ≤ length s - at = rw (rest s at, length-drop) at h in
      record {
        inside = omega (arith, w.inside);
        few = omega (arith, w.few);
        left =
            w.left
            ∙ ap (after n) (run_chars q)
            ∙ after_run n q.cs (chars (drop k (drop at s)))
            ∙ rw (drop-drop k at s, q.columns);
      }

  -- one character on
  pub count_on : (c k m : ℕ) → decode_of (take (length s - at) (drop at s)) ≡ char c k → m ≤ 2 → m ≡ cols c → Counted s (at + k) (n + m)
  count_on c k m e few em =
      let (lo, hi) = counted_size c k e in
      record {
        inside = hi;
        few = omega (arith, w.few);
        left =
            w.left
            ∙ ap (after n) (chars_step (drop at s) c k (rw (rest s at) at e))
            ∙ after_cons n c (chars (drop k (drop at s)))
            ∙ rw (drop-drop k at s, em);
      }

  -- bytes that are no text
  pub count_bad : at < length s → decode_of (take (length s - at) (drop at s)) ≡ rust.None → 0 ≡ text_width s
  count_bad h e = sym (w.left ∙ ap (after n) (chars_bad (drop at s) (omega (arith, length-drop at s)) (rw (rest s at) at e)))

  -- past the last character
  pub count_end : length s ≤ at → n ≡ text_width s
  unfolding str_width
  count_end h = sym (w.left ∙ rw (drop_of_length-le s h, chars_nil) (omega arith))

-- A text that is one run has the run's columns.
pub run_width : {s : List ℕ} {n : ℕ} → PlainRun true s n n → n ≡ length s → n ≡ text_width s
run_width {s} {n} r e =
    let sum : 0 + str_width r.cs ≡ n = omega (arith, r.columns) in
    count_end s n n
    (record {
      inside = omega arith;
      few = omega arith;
      left =
          (count_start s).left
          ∙ ap (after 0) (run_chars r)
          ∙ after_run 0 r.cs (chars (drop n s))
          ∙ ap (λ (m : ℕ). after m (chars (drop n s))) sum;
    })
    (omega arith)
