-- The lines are document 01's: taking the names of a word without text changes no line, in the Rust's form and in the flat one.
-- Assumes nothing.
use Rattle.std.proofs.Common.{◌≡◌, ℕ, Bool, true, false, not, ◌↔◌, List, sym, refl, ap, ◌∙◌, arith}
use Rattle.std.specs.Prelude.{if◌then◌else◌}
use Rattle.fields.specs.Job.{JobField}
use Rattle.fields.specs.declared.job.Setup.{Setup}
use Rattle.block.specs.Tag.{Tag}
use Rattle.block.specs.Result.{Result, good, too_narrow, ◌>>=◌, OnGood}
use Rattle.block.specs.TaggedLine.{line_new, no_content, is_empty}
use Rattle.block.specs.WrappedBlock.{WrappedBlock, set_word, set_wordlen, force_flush_line, flush_line, flush_word, flush, into_lines, take_trailing_fragments, trailing_taken, Flushed, flushed, flush_wrapping, new as new-block}
use Rattle.block.specs.Answer.{add_fields, flushed_block}
use Rattle.block.specs.Flat.{Line, new, flat_into_lines, trailing, Ended, ended, flat_flush_wrapping, flat_add_fields, wrapped, wrapped_up}
use Rattle.block.specs.Demands.{lines}
use Rattle.block.proofs.Results.{bind_assoc, bind_cong, bind_good}

-- ---- the Rust's form

new_empty : is_empty {T = Tag} line_new ≡ true
unfolding is_empty no_content
new_empty = refl

text_of : (c : Bool) (x y x' y' : WrappedBlock) → x.text ≡ x'.text → y.text ≡ y'.text → (if c then x else y).text ≡ (if c then x' else y').text
text_of true x y x' y' p q = p
text_of false x y x' y' p q = q

flush_text : (r : WrappedBlock) → (flush_line (set_wordlen 0 (set_word line_new r))).text ≡ (flush_line (set_wordlen 0 r)).text
unfolding flush_line force_flush_line
flush_text r = text_of (not (is_empty r.line)) _ _ _ _ refl refl

-- where the word has no text the block's lines are those closed, and the open one
empty_lines : (r : WrappedBlock) → is_empty r.word ≡ true → into_lines r ≡ good (flush_line (set_wordlen 0 r)).text
unfolding into_lines flush flush_word
empty_lines r e = rw e

-- Taking the names changes no line.
pub taken_lines : (r : WrappedBlock) → into_lines (trailing_taken r) ≡ into_lines r
unfolding trailing_taken
taken_lines r = go (is_empty r.word) refl
  where
    go : (x : Bool) → is_empty r.word ≡ x → into_lines (if x then set_word line_new r else r) ≡ into_lines r
    go true e = empty_lines (set_word line_new r) new_empty ∙ ap good (flush_text r) ∙ sym (empty_lines r e)
    go false e = refl

-- `flush_wrapping` leaves the lines of `into_lines`.
pub flushed_lines : (r : WrappedBlock) → (flush_wrapping r >>= λ (f : Flushed). good f.lines) ≡ into_lines r
unfolding flush_wrapping
flushed_lines r =
    bind_assoc (into_lines (trailing_taken r)) (λ ls. good (flushed ls (take_trailing_fragments r))) (λ (f : Flushed). good f.lines)
    ∙ bind_good (into_lines (trailing_taken r)) ∙ taken_lines r

-- THE LINES OF A JOB ARE DOCUMENT 01'S, or it is TooNarrow in both.
pub lines_base : (s : Setup) (fs : List JobField) → lines s fs ≡ (flushed_block s fs >>= λ (f : Flushed). good f.lines)
unfolding lines flushed_block
lines_base s fs =
    let b = new-block s.width s.pad s.overflow s.annotation in
    sym (bind_assoc (add_fields fs b) flush_wrapping (λ (f : Flushed). good f.lines) ∙ bind_cong (add_fields fs b) flushed_lines)

-- ---- the flat form

-- The flat form's lines are document 01's too.
pub flat_lines : (s : Setup) (fs : List JobField) → wrapped s fs ≡ (wrapped_up s fs >>= λ (e : Ended). good e.lines)
unfolding wrapped wrapped_up flat_flush_wrapping
flat_lines s fs =
    sym (bind_assoc (flat_add_fields s fs new) (λ b. flat_into_lines s b >>= λ ls. good (ended ls (trailing b))) (λ (e : Ended). good e.lines)
    ∙ bind_cong (flat_add_fields s fs new)
    (λ b. bind_assoc (flat_into_lines s b) (λ ls. good (ended ls (trailing b))) (λ (e : Ended). good e.lines) ∙ bind_good (flat_into_lines s b)))

-- What holds of the lines of `wrapped` holds of those of `wrapped_up`.
pub on_ended : (P : List Line → Type 0) (s : Setup) (fs : List JobField) → OnGood P (wrapped s fs) → OnGood (λ (e : Ended). P e.lines) (wrapped_up s fs)
on_ended P s fs h = go (wrapped_up s fs) (rw (flat_lines s fs) at h)
  where
    go : (r : Result Ended) → OnGood P (r >>= λ (e : Ended). good e.lines) → OnGood (λ (e : Ended). P e.lines) r
    go (good e) h = h
    go too_narrow h = tt

-- One is TooNarrow where the other is.
pub narrow_ended : (s : Setup) (fs : List JobField) → wrapped s fs ≡ too_narrow ↔ wrapped_up s fs ≡ too_narrow
narrow_ended s fs = (λ e. go (wrapped_up s fs) (rw (flat_lines s fs) at e), λ e. rw (flat_lines s fs) (rw e refl))
  where
    go : (r : Result Ended) → (r >>= λ (e : Ended). good e.lines) ≡ too_narrow → r ≡ too_narrow
    go (good e) h = absurd (let z : ◌≡◌ {A = ℕ} 0 1 = cc in omega arith)
    go too_narrow h = refl
