-- What the hard wrap leaves as it was: everything but the lines and the open line.
-- Assumes nothing.
use mathlib.Core.Path.{◌≡◌, refl, ◌∙◌, subst}
use mathlib.Core.Bool.{Bool, ◌&&◌}
use mathlib.Core.Option.{Option, none, some}
use mathlib.Core.List.{List, [], ◌∷◌}
use Prim.Native.Nat.{ℕ}
use lib.Dec.{leb, eqb}
use Rattle.characters.specs.Columns.{cols}
use Rattle.characters.proofs.Tests.{by_if}
use Rattle.fields.specs.declared.job.Setup.{Setup}
use Rattle.block.specs.Tag.{Tag}
use Rattle.block.specs.Result.{Result, good, too_narrow}
use Rattle.block.specs.Flat.{char, name, Line, columns, Block, left, flat_force_flush_line, Placed, put, alone, narrow, too_wide, is_first, next_line, wrap_char, go_on, flat_hard_wrap}

-- the blanks, the word and the flag are as before
pub record Kept (a b : Block) : Type 0 where
  pub spacetag : b.spacetag ≡ a.spacetag
  pub word : b.word ≡ a.word
  pub wslen : b.wslen ≡ a.wslen
  pub pre_wrapped : b.pre_wrapped ≡ a.pre_wrapped

-- the lines and the open line may be any
kept_all : {x y : List Line} {l m w : Line} {t : Option Tag} {n : ℕ} {p : Bool}
    → Kept (record { text = x; line = l; spacetag = t; word = w; wslen = n; pre_wrapped = p }) (record { text = y; line = m; spacetag = t; word = w; wslen = n; pre_wrapped = p })
kept_all = record { spacetag = refl; word = refl; wslen = refl; pre_wrapped = refl }

kept_then : (a b c : Block) → Kept a b → Kept b c → Kept a c
kept_then a b c p q = record { spacetag = q.spacetag ∙ p.spacetag; word = q.word ∙ p.word; wslen = q.wslen ∙ p.wslen; pre_wrapped = q.pre_wrapped ∙ p.pre_wrapped }

abbrev KeptPlaced : Block → Placed → Type 0
KeptPlaced a (put b) = Kept a b
KeptPlaced a (alone b) = Kept a b
KeptPlaced a narrow = Unit {0}

kept_wide : (s : Setup) (c : ℕ) (t : Tag) (b : Block) → KeptPlaced b (too_wide s c t b)
unfolding too_wide flat_force_flush_line
kept_wide s c t b = by_if (KeptPlaced b) s.overflow (λ e. kept_all) (λ e. tt)

kept_next : (s : Setup) (c : ℕ) (t : Tag) (b : Block) → KeptPlaced b (next_line s c t (flat_force_flush_line s b))
unfolding next_line too_wide flat_force_flush_line
kept_next s c t b =
    by_if (KeptPlaced b) (leb (cols c) s.width) (λ e. kept_all)
    (λ e. by_if (KeptPlaced b) s.overflow (λ f. kept_all) (λ f. tt))

kept_char : (s : Setup) (c : ℕ) (t : Tag) (last : Option Tag) (b : Block) → KeptPlaced b (wrap_char s c t last b)
unfolding wrap_char
kept_char s c t last b =
    by_if (KeptPlaced b) (leb (cols c) (left s b)) (λ e. kept_all)
    (λ e. by_if (KeptPlaced b) (is_first last t && eqb (columns b.line) 0) (λ f. kept_wide s c t b) (λ f. kept_next s c t b))

abbrev KeptResult : Block → Result Block → Type 0
KeptResult a (good b) = Kept a b
KeptResult a too_narrow = Unit {0}

then_keeps : (a b : Block) → Kept a b → (r : Result Block) → KeptResult b r → KeptResult a r
then_keeps a b k (good x) h = kept_then a b x k h
then_keeps a b k too_narrow h = tt

go_keeps : (t : Tag) (b : Block) (p : Placed) (rest : Option Tag → Block → Result Block) → KeptPlaced b p
    → ((l : Option Tag) (d : Block) → KeptResult d (rest l d)) → KeptResult b (go_on t p rest)
go_keeps t b (put d) rest k ih = then_keeps b d k (rest (some t) d) (ih (some t) d)
go_keeps t b (alone d) rest k ih = then_keeps b d k (rest none d) (ih none d)
go_keeps t b narrow rest k ih = tt

wrap_keeps : (s : Setup) (w : Line) (last : Option Tag) (b : Block) → KeptResult b (flat_hard_wrap s w last b)
unfolding flat_hard_wrap
wrap_keeps s [] last b = kept_all
wrap_keeps s (name n ∷ w) last b = wrap_keeps s w none b
wrap_keeps s (char c t ∷ w) last b =
    go_keeps t b (wrap_char s c t last b) (λ last' b'. flat_hard_wrap s w last' b') (kept_char s c t last b) (λ l d. wrap_keeps s w l d)

-- What the hard wrap comes to has the blanks, the word and the flag that it was given.
pub hard_keeps : (s : Setup) (w : Line) (last : Option Tag) (b r : Block) → flat_hard_wrap s w last b ≡ good r → Kept b r
hard_keeps s w last b r e = subst (KeptResult b) e (wrap_keeps s w last b)
