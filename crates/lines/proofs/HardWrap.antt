-- The flat hard wrap, a stretch of one piece at a time.
-- Assumes nothing.
use mathlib.Core.Path.{◌≡◌, refl, ap, ◌∙◌}
use mathlib.Core.Bool.{Bool, true, false, ◌&&◌}
use mathlib.Core.Option.{Option, none, some}
use mathlib.Core.List.{List, [], ◌∷◌, ◌++◌, append-nil, append_assoc}
use Prim.Native.Nat.{ℕ, ◌+◌, ◌-◌, ◌<◌, ◌≤◌}
use native.Mathlib.Omega.{arith}
use borrow.Author.Tests.{le-leb, lt-leb, ne_eqb}
use lib.Dec.{eqb}
use lib.ListN.{length}
use Rattle.std.specs.Prelude.{if◌then◌else◌}
use Rattle.characters.specs.Columns.{cols, str_width}
use Rattle.fields.specs.Job.{Mode, normal, pre, pre_wrap}
use Rattle.fields.specs.declared.job.Setup.{Setup}
use Rattle.block.specs.Tag.{Tag, same_mode}
use Rattle.block.specs.Result.{too_narrow}
use Rattle.block.specs.Flat.{char, name, Line, columns, flat_push_char, Block, with_line, left, flat_force_flush_line, alone, narrow, on_line, too_wide, is_first, next_line, wrap_char, go_on, flat_hard_wrap}
use Rattle.lines.specs.Bridge.{text, Cut}
use Rattle.block.proofs.Width.{columns_append}
use Rattle.block.proofs.Group.{same_self}

-- The columns of a text of one tag are its width.
pub columns_text : (t : Tag) (cs : List ℕ) → columns (text t cs) ≡ str_width cs
unfolding columns str_width
columns_text t [] = refl
columns_text t (c ∷ cs) = ap (λ (n : ℕ). cols c + n) (columns_text t cs)

-- Two texts of one tag, put together.
pub text_append : (t : Tag) (a b : List ℕ) → text t (a ++ b) ≡ text t a ++ text t b
text_append t [] b = refl
text_append t (c ∷ a) b = ap (λ (l : Line). char c t ∷ l) (text_append t a b)

same_mode_lem : (m : Mode) → same_mode m m ≡ true
same_mode_lem normal = refl
same_mode_lem pre = refl
same_mode_lem pre_wrap = refl

-- the tag of the last character, after a stretch of one tag
abbrev pub after : Tag → List ℕ → Option Tag → Option Tag
after t [] last = last
after t (c ∷ cs) last = some t

after_some : (t : Tag) (cs : List ℕ) → after t cs (some t) ≡ some t
after_some t [] = refl
after_some t (c ∷ cs) = refl

flushed_cols : (s : Setup) (b : Block) → columns (flat_force_flush_line s b).line ≡ 0
unfolding flat_force_flush_line columns
flushed_cols s b = refl

left_flushed : (s : Setup) (b : Block) → left s (flat_force_flush_line s b) ≡ s.width
unfolding left
left_flushed s b = let e = flushed_cols s b in omega arith

no_first : (t : Tag) (p : List ℕ) (l : Line) → 0 < length p + columns l → (is_first (after t p none) t && eqb (columns (l ++ text t p)) 0) ≡ false
no_first t [] l h = rw append-nil (ne_eqb (columns l) 0 (λ e. omega arith))
no_first t (c ∷ p) l h = rw (same_self t)

module _ (s : Setup) where
  one_fits : (c : ℕ) (t : Tag) (w : Line) (last : Option Tag) (b : Block) → cols c ≤ left s b → flat_hard_wrap s (char c t ∷ w) last b ≡ flat_hard_wrap s w (some t) (on_line c t b)
  unfolding flat_hard_wrap wrap_char
  one_fits c t w last b h = rw (le-leb (cols c) (left s b) h)

  char_on : (c : ℕ) (t : Tag) (b : Block) (l : Line) → on_line c t (with_line l b) ≡ with_line (l ++ (char c t ∷ [])) b
  unfolding flat_push_char
  char_on c t b l = refl

  line_left : (b : Block) (l : Line) → left s (with_line l b) ≡ s.width - columns l
  unfolding left
  line_left b l = refl

  -- a stretch that fits goes on the line
  pub fits_all : (t : Tag) (cs : List ℕ) (w : Line) (last : Option Tag) (b : Block) (l : Line) → columns l + str_width cs ≤ s.width
      → flat_hard_wrap s (text t cs ++ w) last (with_line l b) ≡ flat_hard_wrap s w (after t cs last) (with_line (l ++ text t cs) b)
  unfolding str_width columns
  fits_all t [] w last b l h = rw append-nil
  fits_all t (c ∷ cs) w last b l h =
      let m : columns (l ++ (char c t ∷ [])) ≡ columns l + (cols c + 0) = columns_append l (char c t ∷ []) in
      let k : cols c ≤ left s (with_line l b) = rw (line_left b l) (omega arith) in
      one_fits c t (text t cs ++ w) last (with_line l b) k
      ∙ ap (flat_hard_wrap s (text t cs ++ w) (some t)) (char_on c t b l)
      ∙ fits_all t cs w (some t) b (l ++ (char c t ∷ [])) (omega arith)
      ∙ rw (after_some t cs, append_assoc)

  -- a line that is closed before a character: the next one starts a stretch
  flush_first : (c : ℕ) (t : Tag) (w : Line) (last : Option Tag) (b : Block) → left s b < cols c → (is_first last t && eqb (columns b.line) 0) ≡ false
      → flat_hard_wrap s (char c t ∷ w) last b ≡ flat_hard_wrap s (char c t ∷ w) none (flat_force_flush_line s b)
  unfolding flat_hard_wrap wrap_char next_line
  flush_first c t w last b h e =
      let f : left s (flat_force_flush_line s b) ≡ s.width = flushed_left in
      let g : columns (flat_force_flush_line s b).line ≡ 0 = flushed_columns in
      rw (lt-leb (cols c) (left s b) h, e, f, g)
    where
      flushed_columns : columns (flat_force_flush_line s b).line ≡ 0
      flushed_columns = flushed_cols s b

      flushed_left : left s (flat_force_flush_line s b) ≡ s.width
      flushed_left = left_flushed s b

  -- a stretch that fits, and then a character that does not, on a line with text
  pub splits : (t : Tag) (p : List ℕ) (c : ℕ) (q : List ℕ) (w : Line) (b : Block) (l : Line) → columns l + str_width p ≤ s.width → s.width < columns l + str_width p + cols c → 0 < length p + columns l
      → flat_hard_wrap s (text t (p ++ c ∷ q) ++ w) none (with_line l b) ≡ flat_hard_wrap s (text t (c ∷ q) ++ w) none (flat_force_flush_line s (with_line (l ++ text t p) b))
  splits t p c q w b l h k m =
      ap (λ (x : Line). flat_hard_wrap s x none (with_line l b)) (ap (λ (x : Line). x ++ w) (text_append t p (c ∷ q)) ∙ append_assoc (text t p) (text t (c ∷ q)) w)
      ∙ fits_all t p (text t (c ∷ q) ++ w) none b l h
      ∙ flush_first c t (text t q ++ w) (after t p none) (with_line (l ++ text t p) b)
      (let e : columns (l ++ text t p) ≡ columns l + str_width p = columns_append l (text t p) ∙ ap (λ (n : ℕ). columns l + n) (columns_text t p) in rw (line_left b (l ++ text t p)) (omega arith))
      (no_first t p l m)

  -- a character that no line takes
  pub too_wide_lem : (t : Tag) (c : ℕ) (q : List ℕ) (w : Line) (b : Block) (l : Line) → columns l ≡ 0 → s.width < cols c
      → flat_hard_wrap s (text t (c ∷ q) ++ w) none (with_line l b) ≡ (if s.overflow then flat_hard_wrap s (text t q ++ w) none (flat_force_flush_line s (with_line (l ++ text t (c ∷ [])) b)) else too_narrow)
  unfolding flat_hard_wrap wrap_char too_wide
  too_wide_lem t c q w b l e h =
      rw (line_left b l, lt-leb (cols c) (s.width - columns l) (omega arith), e, char_on c t b l) (go s.overflow)
    where
      go : (o : Bool) → go_on t (if o then alone (flat_force_flush_line s (with_line (l ++ (char c t ∷ [])) b)) else narrow) (λ last' b'. flat_hard_wrap s (text t q ++ w) last' b')
          ≡ (if o then flat_hard_wrap s (text t q ++ w) none (flat_force_flush_line s (with_line (l ++ (char c t ∷ [])) b)) else too_narrow)
      go true = refl
      go false = refl

  -- a piece's end: what comes next has no first character of its tag on the line
  pub cut_last : (t : Tag) (w : Line) (b : Block) → Cut t w → flat_hard_wrap s w (some t) b ≡ flat_hard_wrap s w none b
  unfolding flat_hard_wrap wrap_char
  cut_last t [] b h = refl
  cut_last t (name n ∷ w) b h = refl
  cut_last t (char c u ∷ w) b h = rw h

  -- a piece that fits
  pub piece_fits : (t : Tag) (cs : List ℕ) (w : Line) (b : Block) (l : Line) → Cut t w → columns l + str_width cs ≤ s.width
      → flat_hard_wrap s (text t cs ++ w) none (with_line l b) ≡ flat_hard_wrap s w none (with_line (l ++ text t cs) b)
  piece_fits t [] w b l k h = fits_all t [] w none b l h
  piece_fits t (c ∷ cs) w b l k h = fits_all t (c ∷ cs) w none b l h ∙ cut_last t w (with_line (l ++ text t (c ∷ cs)) b) k
