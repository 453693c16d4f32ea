-- The laws of one field that is added to the block, by its letter and content, and of all fields one after the other.
-- Assumes nothing.
use mathlib.Core.Path.{◌≡◌, refl, sym, ◌∙◌}
use mathlib.Core.Bool.{true, true≢false}
use mathlib.Core.Option.{Option, none, some}
use mathlib.Core.List.{List, [], ◌∷◌, map}
use Prim.Native.Nat.{ℕ, ◌+◌, ◌-◌, ◌≤◌, ◌<◌}
use native.Mathlib.Omega.{arith}
use lib.ListN.{length, take, drop, get_or}
use Rattle.std.specs.Prelude.{Result, Ok, Err, IsErr}
use Rattle.std.proofs.lemmas.Result.{MatchResult-from_err}
use Rattle.characters.specs.Utf8.{chars}
use Rattle.characters.proofs.Tests.{and_left, and_right}
use Rattle.fields.specs.Field.{Raw, whole, broken, raws}
use Rattle.fields.specs.Text.{holds, allowed_in, readable_text}
use Rattle.fields.specs.Job.{Mode, normal, pre, pre_wrap, text, wrong, read_text, read_field, readable, all_readable, units, field_units, body_units}
use Rattle.fields.proofs.Jobs.{name_read, text_field, short_read, mode_read, run_text}
use Rattle.fields.proofs.Texts.{rest}
use Rattle.block.specs.Flat.{Block, flat_add_element, flat_add_field, flat_add_fields}
use Rattle.lines.specs.Bridge.{mode_no}
use Rattle.hard_wrap.specs.Hold.{setup}
use Rattle.hard_wrap.specs.declared.error.TooNarrow.{TooNarrow}
use Rattle.flush_word.specs.Keep.{Keeps, BlockStays, CountsWithinUnits}
use Rattle.flush_word.specs.Modes.{mode}
use Rattle.flush_word.specs.declared.state.WrappedBlock.{WrappedBlock}
use Rattle.flush_word.specs.declared.white_space.WhiteSpace.{WhiteSpace}
use Rattle.add_chars.specs.Chars.{AddsElement}
use Rattle.add_text.specs.Walks.{AddsText}
use Rattle.add_text.specs.declared.text.Run.{Run}
use Rattle.render.specs.Render.{AddsField, AddsFields}

-- ---- what a field reads as

-- A T field without its three bytes.
pub short_wrong : (l : ℕ) (s : List ℕ) → l ≡ 0x54 → length s < 3 → read_field (whole l s) ≡ wrong
short_wrong l s e h = text_field l s e ∙ short_read s h

-- A T field of no mode.
pub mode_wrong : (l : ℕ) (s : List ℕ) → l ≡ 0x54 → 2 < get_or s 0 0 → read_field (whole l s) ≡ wrong
mode_wrong l s e h = text_field l s e ∙ mode_read s h

-- A T field of a mode.
text_read : (m : Mode) (s : List ℕ) → 3 ≤ length s → mode_no m ≡ get_or s 0 0 → read_text s ≡ text m (get_or s 1 0) (get_or s 2 0) (drop 3 s)
unfolding read_text
text_read m [] h k = absurd (omega arith)
text_read m (n ∷ []) h k = absurd (omega arith)
text_read m (n ∷ a ∷ []) h k = absurd (omega arith)
text_read normal (n ∷ a ∷ c ∷ t) h k = rw (← k) refl
text_read pre (n ∷ a ∷ c ∷ t) h k = rw (← k) refl
text_read pre_wrap (n ∷ a ∷ c ∷ t) h k = rw (← k) refl

-- the code points of a text that may stand in a job
record Chars (t : List ℕ) : Type 0 where
  cs : List ℕ
  is : chars t ≡ some cs

chars_of : (t : List ℕ) → readable_text true t ≡ true → Chars t
unfolding readable_text
chars_of t h = go (chars t) refl h
  where
    go : (o : Option (List ℕ)) → chars t ≡ o → holds (allowed_in true) o ≡ true → Chars t
    go none e h = absurd (true≢false (sym h))
    go (some cs) e h = record { cs = cs; is = e }

-- ---- numbers

no_more : (m : Mode) → mode_no m ≤ 2
no_more normal = omega arith
no_more pre = omega arith
no_more pre_wrap = omega arith

-- The bytes of a T field's text are its units.
pub text_bytes_lem : (w : WhiteSpace) (s : List ℕ) → 3 ≤ length s → mode_no (mode w) ≡ get_or s 0 0
    → length (take (length s - 3) (drop 3 s)) ≡ field_units (whole 0x54 s)
text_bytes_lem w s h k = run_text s h (let m = no_more (mode w) in omega (arith, m, k))

-- ---- one field

module _ (o : WrappedBlock) (s : List ℕ) where
  -- A name.
  pub adds_name : (l : ℕ) (r : WrappedBlock) → l ≡ 0x46 → AddsElement o s r → AddsField o (whole l s) (Ok tt) r
  unfolding flat_add_field
  adds_name l r e a d₀ base b k read =
      rw (name_read l s e) (record { block = flat_add_element s b; is = refl; keeps = a d₀ base b k })

  -- What is neither changes nothing.
  pub adds_nothing : (l : ℕ) → read_field (whole l s) ≡ wrong → AddsField o (whole l s) (Ok tt) o
  unfolding flat_add_field
  adds_nothing l e d₀ base b k read = rw e (record { block = b; is = refl; keeps = k })

  -- A text.
  pub adds_text : (run : Run) (x : Result Unit TooNarrow) (r : WrappedBlock) → 3 ≤ length s → mode_no (mode run.mode) ≡ get_or s 0 0
      → run.main ≡ get_or s 1 0 → run.wrap ≡ get_or s 2 0 → AddsText o run (take (length s - 3) (drop 3 s)) x r → AddsField o (whole 0x54 s) x r
  unfolding flat_add_field
  adds_text run x r h m p q a d₀ base b k read =
      let f : read_field (whole 0x54 s) ≡ text (mode run.mode) (get_or s 1 0) (get_or s 2 0) (drop 3 s) = text_field 0x54 s refl ∙ text_read (mode run.mode) s h m in
      let c = chars_of (drop 3 s) (rw f at read) in
      rw (f, c.is, ← p, ← q) (a d₀ base b c.cs k (rw (rest s 3) c.is))

-- ---- all fields

-- what is left of the fields gives what all of them give
pub record Left (o : WrappedBlock) (body : List ℕ) (left : List Raw) (d₀ : List ℕ) (base : ℕ) (b : Block) (r : WrappedBlock) : Type 0 where
  pub block : Block
  pub keeps : Keeps d₀ base block r
  pub read : all_readable (map read_field left) ≡ true
  pub same : flat_add_fields (setup o.line.frame) (map read_field (raws body)) b ≡ flat_add_fields (setup o.line.frame) (map read_field left) block

-- the fields before those that are left are added
pub record Added (o : WrappedBlock) (body : List ℕ) (r : WrappedBlock) (left : List Raw) : Type 0 where
  pub small : CountsWithinUnits r
  pub units : r.used + body_units left ≤ o.used + body_units (raws body)
  pub same : (d₀ : List ℕ) (base : ℕ) (b : Block) → Keeps d₀ base b o → all_readable (map read_field (raws body)) ≡ true
      → Left o body left d₀ base b r

-- The units of a field and of those after it.
units_next : (field : Raw) (rest : List Raw) → field_units field + body_units rest ≡ body_units (field ∷ rest)
unfolding body_units units field_units
units_next field rest = refl

-- a field and those after it are readable
both_read : (field : Raw) (rest : List Raw) → all_readable (map read_field (field ∷ rest)) ≡ true
    → (readable (read_field field) ≡ true) × (all_readable (map read_field rest) ≡ true)
unfolding all_readable
both_read field rest h =
    (and_left (readable (read_field field)) (all_readable (map read_field rest)) h, and_right (readable (read_field field)) (all_readable (map read_field rest)) h)

module _ (o : WrappedBlock) (body : List ℕ) where
  -- No field yet.
  pub added_start : (left : List Raw) → CountsWithinUnits o → left ≡ raws body → Added o body o left
  added_start left s e =
      rw e (record { small = s; units = omega arith; same = λ d₀ base b k read. record { block = b; keeps = k; read = read; same = refl } })

  module _ (r : WrappedBlock) (left : List Raw) (a : Added o body r left) where
    -- No field is left: all are added.
    pub added_end : left ≡ [] → AddsFields o body (Ok tt) r
    unfolding flat_add_fields
    added_end e d₀ base b k read =
        let g = a.same d₀ base b k read in
        record { block = g.block; is = g.same ∙ rw e; keeps = g.keeps }

    -- A rest that is no field adds nothing.
    pub added_broken : (rest : List Raw) → left ≡ broken ∷ rest → Added o body r rest
    unfolding flat_add_fields flat_add_field read_field
    added_broken rest e =
        let u = units_next broken rest in
        let w = rw e at a.units in
        record {
          small = a.small;
          units = omega (arith, u, w);
          same = λ d₀ base b k read.
              let g = a.same d₀ base b k read in
              record { block = g.block; keeps = g.keeps; read = (both_read broken rest (rw e at g.read)).1; same = g.same ∙ rw e };
        }

    module _ (stays : BlockStays o r) (field : Raw) (rest : List Raw) (e : left ≡ field ∷ rest) where
      -- The units of the next field are within those of all.
      pub units_left : r.used + field_units field + body_units rest ≤ o.used + body_units (raws body)
      units_left =
          let u = units_next field rest in
          let w = rw e at a.units in
          omega (arith, u, w)

      -- One field more.
      pub added_on : (more : WrappedBlock) → CountsWithinUnits more × (more.used ≤ r.used + field_units field) → AddsField r field (Ok tt) more
          → Added o body more rest
      unfolding flat_add_fields
      added_on more s w =
          record {
            small = s.0;
            units = omega (arith, units_left, s.1);
            same = λ d₀ base b k read.
                let g = a.same d₀ base b k read in
                let (now, later) = both_read field rest (rw e at g.read) in
                let x = rw stays.line.frame at (w d₀ base g.block g.keeps now) in
                record { block = x.block; keeps = x.keeps; read = later; same = g.same ∙ rw (e, x.is) };
          }

      -- A field that does not fit.
      pub added_narrow : (n : TooNarrow) (x : Result Unit TooNarrow) (more : WrappedBlock) → AddsField r field (Err n) more → IsErr x
          → AddsFields o body x more
      unfolding flat_add_fields
      added_narrow n x more w h d₀ base b k read =
          let g = a.same d₀ base b k read in
          let y = rw stays.line.frame at (w d₀ base g.block g.keeps (both_read field rest (rw e at g.read)).0) in
          MatchResult-from_err x _ _ h (λ _. g.same ∙ rw (e, y))
