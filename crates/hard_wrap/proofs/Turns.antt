-- One line of a piece, over plain lists.
-- Assumes nothing.
use mathlib.Core.Path.{◌≡◌, sym, ap, ◌∙◌, refl}
use mathlib.Core.Bool.{Bool, true, false}
use mathlib.Core.Option.{none}
use mathlib.Core.List.{List, [], ◌∷◌, ◌++◌, append-nil}
use Prim.Native.Nat.{ℕ, ◌+◌, ◌-◌, ◌<◌, ◌≤◌}
use native.Mathlib.Nat.{le_of_eq}
use native.Mathlib.Omega.{arith}
use lib.ListN.{length, take, drop}
use lib.Seq.{take-append_seam, drop-append_seam}
use Rattle.std.specs.Prelude.{if◌then◌else◌}
use Rattle.characters.specs.Utf8.{utf8, text_bytes}
use Rattle.characters.specs.Columns.{cols, str_width}
use Rattle.characters.proofs.RoundTrip.{Scalars}
use Rattle.block.specs.Tag.{Tag}
use Rattle.block.specs.Result.{Result, too_narrow}
use Rattle.block.specs.Flat.{Line, Block, columns, with_line, flat_force_flush_line, flat_hard_wrap}
use Rattle.characters.proofs.Runs.{text_bytes_append, width_append}
use Rattle.lines.specs.Bridge.{num, text}
use Rattle.lines.proofs.Encoded.{scalars_left}
use Rattle.lines.proofs.HardWrap.{splits, too_wide_lem}
use Rattle.hard_wrap.specs.Walk.{Shows, Split}
use Rattle.hard_wrap.proofs.Walks.{text_none}
use Rattle.hard_wrap.specs.Hold.{setup, Holds, ClosesWith, Stepped}
use Rattle.hard_wrap.specs.declared.line.OpenLine.{OpenLine}

-- the part that is taken of a text
pub text_take : (rest cs p q : List ℕ) (at : ℕ) → rest ≡ text_bytes cs → cs ≡ p ++ q → at ≡ length (text_bytes p) → take at rest ≡ text_bytes p
text_take rest cs p q at e f g = rw (e, f, g, text_bytes_append p q) (take-append_seam (text_bytes p) (text_bytes q))

-- and the part that is left
pub text_drop : (rest cs p q : List ℕ) (at : ℕ) → rest ≡ text_bytes cs → cs ≡ p ++ q → at ≡ length (text_bytes p) → drop at rest ≡ text_bytes q
text_drop rest cs p q at e f g = rw (e, f, g, text_bytes_append p q) (drop-append_seam (text_bytes p) (text_bytes q))

some_chars : (p : List ℕ) (at k : ℕ) → at ≡ length (text_bytes p) → 0 < at + k → 0 < length p + k
unfolding text_bytes
some_chars [] at k e h = omega arith
some_chars (c ∷ p) at k e h = omega arith

module _ (o r : OpenLine) (rest d₀ : List ℕ) (base : ℕ) (tag : ℕ) (b : Block) (t : Tag) (cs : List ℕ)
    (h₀ : Holds d₀ base b o) (ta : tag ≡ num t) (ann : t.ann < 256) (sc : Scalars cs) (e : rest ≡ text_bytes cs)
    (wide : o.frame.width < o.cols + str_width cs) (room : o.cols ≤ o.frame.width) where
  -- what fits goes on the line
  pub step_on : (at used : ℕ) → Split (o.frame.width - o.cols) cs at used → used ≤ o.frame.width - o.cols → 0 < at + o.cols → ClosesWith o (take at rest) used tag r
      → Stepped (setup o.frame) d₀ base b t cs (record { split = at; used = used }) r
  unfolding str_width
  step_on at used s h k x = go s.q refl
    where
      pp : Scalars s.p
      pp = scalars_left s.p s.q (rw s.whole at sc)

      held : Holds d₀ base (flat_force_flush_line (setup o.frame) (with_line (b.line ++ text t s.p) b)) r
      held = x d₀ base b t s.p h₀ ta ann pp (text_take rest cs s.p s.q at e s.whole s.place) s.cols

      go : (q : List ℕ) → s.q ≡ q → Stepped (setup o.frame) d₀ base b t cs (record { split = at; used = used }) r
      go [] f = absurd (let m : str_width cs ≡ str_width s.p + 0 = ap str_width (s.whole ∙ ap (λ (z : List ℕ). s.p ++ z) f) ∙ width_append s.p [] in let n = s.cols in omega arith)
      go (c ∷ q) f =
          let w : cs ≡ s.p ++ (c ∷ q) = s.whole ∙ ap (λ (z : List ℕ). s.p ++ z) f in
          let n : o.frame.width - o.cols - used < cols c = rw f at s.stop in
          let u = s.cols in
          let v = h₀.cols in
          let y = some_chars s.p at o.cols s.place k in
          record {
            p = s.p;
            q = c ∷ q;
            next = flat_force_flush_line (setup o.frame) (with_line (b.line ++ text t s.p) b);
            whole = w;
            place = s.place;
            cols = s.cols;
            holds = held;
            same = λ z. ap (λ (l : List ℕ). flat_hard_wrap (setup o.frame) (text t l ++ z) none b) w ∙ splits (setup o.frame) t s.p c q z b b.line (omega arith) (omega arith) (omega arith);
          }

  -- a character that no line takes: on a line of its own
  module _ (at used : ℕ) (s : Split (o.frame.width - o.cols) cs at used) (zero-at : at ≡ 0) (empty : o.cols ≡ 0) where
    first : (q : List ℕ) → s.q ≡ q → cs ≡ q
    first q f = s.whole ∙ ap (λ (z : List ℕ). z ++ s.q) (text_none s.p (le_of_eq (sym s.place ∙ zero-at))) ∙ f

    none_used : used ≡ 0
    unfolding str_width
    none_used = s.cols ∙ ap str_width (text_none s.p (le_of_eq (sym s.place ∙ zero-at)))

    -- what the flat hard wrap makes of such a character
    abbrev Alone : ℕ → List ℕ → Line → Bool → Result Block
    Alone c q z y = if y then flat_hard_wrap (setup o.frame) (text t q ++ z) none (flat_force_flush_line (setup o.frame) (with_line (b.line ++ text t (c ∷ [])) b)) else too_narrow

    alone_is : (c : ℕ) (q : List ℕ) → cs ≡ c ∷ q → o.cols ≡ columns b.line → o.frame.width < cols c → (z : Line)
        → flat_hard_wrap (setup o.frame) (text t cs ++ z) none b ≡ Alone c q z o.frame.overflow
    alone_is c q w v h z =
        ap (λ (l : List ℕ). flat_hard_wrap (setup o.frame) (text t l ++ z) none b) w ∙ too_wide_lem (setup o.frame) t c q z b b.line (sym v ∙ empty) h

    with_overflow : (c : ℕ) (q : List ℕ) (z : Line) (y : Bool) → o.frame.overflow ≡ y → Alone c q z o.frame.overflow ≡ Alone c q z y
    with_overflow c q z y e = ap (Alone c q z) e

    -- it goes on the open line, and that is closed
    pub step_over : (len k : ℕ) → Shows rest len k → o.frame.overflow ≡ true → ClosesWith o (take len rest) k tag r → Stepped (setup o.frame) d₀ base b t cs (record { split = len; used = k }) r
    unfolding str_width text_bytes
    step_over len k g over x = go s.q refl
      where
        go : (q : List ℕ) → s.q ≡ q → Stepped (setup o.frame) d₀ base b t cs (record { split = len; used = k }) r
        go [] f = absurd (let m : str_width cs ≡ 0 = ap str_width (first [] f) in omega arith)
        go (c ∷ q) f =
            let w : cs ≡ c ∷ q = first (c ∷ q) f in
            let n : o.frame.width - o.cols - used < cols c = rw f at s.stop in
            let u = none_used in
            let v = h₀.cols in
            let sw : Scalars (c ∷ q) = rw w at sc in
            let sh = g c (text_bytes q) sw.0 (e ∙ ap text_bytes w) in
            let pl : len ≡ length (text_bytes (c ∷ [])) = sh.0 ∙ ap length (sym (append-nil (utf8 c))) in
            let pw : k ≡ str_width (c ∷ []) = (let z = sh.1 in omega arith) in
            record {
              p = c ∷ [];
              q = q;
              next = flat_force_flush_line (setup o.frame) (with_line (b.line ++ text t (c ∷ [])) b);
              whole = w;
              place = pl;
              cols = pw;
              holds = x d₀ base b t (c ∷ []) h₀ ta ann (sw.0, tt) (text_take rest cs (c ∷ []) q len e w pl) pw;
              same = λ z. alone_is c q w v (omega arith) z ∙ with_overflow c q z true over;
            }

    -- or the block does not overflow
    pub step_stuck : o.frame.overflow ≡ false → (z : Line) → flat_hard_wrap (setup o.frame) (text t cs ++ z) none b ≡ too_narrow
    unfolding str_width
    step_stuck over z = go s.q refl
      where
        go : (q : List ℕ) → s.q ≡ q → flat_hard_wrap (setup o.frame) (text t cs ++ z) none b ≡ too_narrow
        go [] f = absurd (let m : str_width cs ≡ 0 = ap str_width (first [] f) in omega arith)
        go (c ∷ q) f =
            let w : cs ≡ c ∷ q = first (c ∷ q) f in
            let n : o.frame.width - o.cols - used < cols c = rw f at s.stop in
            let u = none_used in
            let v = h₀.cols in
            alone_is c q w v (omega arith) z ∙ with_overflow c q z false over
