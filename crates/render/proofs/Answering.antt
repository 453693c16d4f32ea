-- The laws of the whole answer: a job that is refused, one that is not and its lines, and one that is too narrow.
-- Assumes nothing.
use mathlib.Core.Path.{◌≡◌, refl, sym, ap, ◌∙◌}
use mathlib.Core.Option.{Option, none, some}
use mathlib.Core.List.{List, [], ◌∷◌, map}
use Prim.Native.Nat.{ℕ, zero, suc, ◌+◌, ◌-◌, ◌*◌, ◌≤◌, ◌<◌}
use native.Mathlib.Omega.{arith}
use lib.ListN.{length, take, drop, get_or, length-map}
use Rattle.std.specs.Prelude.{Ok, Err}
use Rattle.fields.specs.Field.{raws}
use Rattle.fields.specs.First.{refusal_of}
use Rattle.fields.specs.Job.{JobField, read_field, head_of, rest_of, units, body_units}
use Rattle.fields.specs.Answer.{rendered, refused, give, Finishes}
use Rattle.fields.specs.Refusals.{setup_of, fields_of, block_refusal, job_refusal}
use Rattle.fields.specs.declared.job.Setup.{Setup}
use Rattle.std.specs.Prelude as rust
use Rattle.fields.specs.declared.refusal.Refusal.{Refusal}
use Rattle.fields.proofs.Fields.{raws_cons}
use Rattle.fields.proofs.Jobs.{head_is}
use Rattle.fields.proofs.Texts.{rest}
use Rattle.block.specs.Answer.{render_answer}
use Rattle.block.specs.Result.{Result, OnGood}
use Rattle.block.specs.Flat.{Line, Ended, wrapped_up, flat_sheet_line}
use Rattle.block.proofs.Bounds.{few_lines}
use Rattle.block.proofs.Equal.{answer_same}
use Rattle.block.proofs.Lines.{on_ended}
use Rattle.block.proofs.FlatAnswer.{flat_judged, flat_verdict_of, flat_verdict, flat_answer, Passes, passes}
use Rattle.hard_wrap.specs.declared.error.TooNarrow.{TooNarrow}
use Rattle.hard_wrap.specs.declared.line.Frame.{Frame}
use Rattle.render.specs.Render.{frame_of, FrameSmall, WrapsUp}
use Rattle.render.specs.declared.sheet.End.{End}

-- ---- a job that is refused

judged_refused : (n : ℕ) (r : Result Ended) → (n ≡ 0 → ⊥) → flat_judged n r ≡ refused n
unfolding flat_judged
judged_refused zero r h = absurd (h refl)
judged_refused (suc n) r h = refl

verdict_refused : (o : Option Setup) (fs : List JobField) (n : ℕ) → n ≡ refusal_of (block_refusal fs) o → (n ≡ 0 → ⊥) → flat_verdict_of o fs ≡ refused n
unfolding flat_verdict_of
verdict_refused none fs n e h = ap refused (sym e)
verdict_refused (some s) fs n e h = rw (← e) (judged_refused n (wrapped_up s fs) h)

-- A refusal 1 to 4 is the answer.
pub answers_refused : (job store : List ℕ) (n : ℕ) → n ≡ job_refusal job → (n ≡ 0 → ⊥) → give (refused n) store ≡ render_answer job store
unfolding flat_answer flat_verdict job_refusal
answers_refused job store n e h =
    rw (answer_same job store, verdict_refused (setup_of job) (fields_of job) n e h)

-- ---- a job that is not refused

-- the fields after the W, as the code lends them
abbrev pub body_of : List ℕ → List ℕ
body_of job = take (length job - 6) (drop 6 job)

-- the fields after a W of length 3 stand from the seventh byte on
rest_left : (s : List ℕ) → 6 ≤ length s → get_or s 1 0 * 256 + get_or s 2 0 ≡ 3 → rest_of (raws s) ≡ raws (drop 6 s)
rest_left [] h n = absurd (omega arith)
rest_left (_ ∷ []) h n = absurd (omega arith)
rest_left (_ ∷ _ ∷ []) h n = absurd (omega arith)
rest_left (l ∷ x ∷ o ∷ t) h n = ap rest_of (raws_cons l x o t (omega arith)) ∙ rw n

pub record Good (job : List ℕ) (s : Setup) : Type 0 where
  pub long : 6 ≤ length job
  pub begins : setup_of job ≡ some s
  pub fields : fields_of job ≡ map read_field (raws (body_of job))
  pub none_of : block_refusal (fields_of job) s ≡ 0
  pub passed : Passes s (map read_field (raws (body_of job)))

-- What a job has whose W is read and that is not refused.
pub good_job : (job : List ℕ) (s : Setup) → head_of (raws job) ≡ some s → job_refusal job ≡ 0 → Good job s
unfolding setup_of fields_of job_refusal
good_job job s e z =
    let (h, n) = head_is job s e in
    let f : fields_of job ≡ map read_field (raws (body_of job)) = ap (map read_field) (rest_left job h n ∙ ap raws (sym (rest job 6))) in
    let b : block_refusal (fields_of job) s ≡ 0 = rw e at z in
    record { long = h; begins = e; fields = f; none_of = b; passed = passes s (map read_field (raws (body_of job))) (rw (← f) b) }

module _ (job : List ℕ) (s : Setup) (g : Good job s) where
  -- Its units are few.
  pub few_units : body_units (raws (body_of job)) ≤ 4096
  unfolding body_units
  few_units = g.passed.light

  -- Its frame is in bounds where the W's numbers are bytes.
  pub frame_small : (frame : Frame) → frame ≡ frame_of s → s.width < 256 → s.annotation < 256 → FrameSmall frame
  frame_small frame e w a =
      rw e (record { positive = g.passed.some_width; small = w; default = a })

  -- Its answer is that of its block's end.
  answer_ended : (store : List ℕ) → render_answer job store ≡ give (flat_judged 0 (wrapped_up s (map read_field (raws (body_of job))))) store
  unfolding flat_answer flat_verdict flat_verdict_of
  answer_ended store = rw (answer_same job store, g.begins, g.none_of, g.fields)

  -- Its lines are few.
  few : OnGood (λ (e : Ended). length e.lines ≤ units (map read_field (raws (body_of job)))) (wrapped_up s (map read_field (raws (body_of job))))
  few =
      let fs = map read_field (raws (body_of job)) in
      on_ended (λ (ls : List Line). length ls ≤ units fs) s fs (few_lines s fs)

  -- The lines are in the store and the names behind them, and the head goes in front, or the store is too short.
  pub answers_sheet : (frame : Frame) (end : End) (r : rust.Result ℕ Refusal) (store mid store' : List ℕ) → frame ≡ frame_of s
      → WrapsUp frame (body_of job) store (Ok end) mid → Finishes end.place end.lines mid r store' → rendered r store' ≡ render_answer job store
  unfolding flat_judged give
  answers_sheet frame end r store mid store' e up finish =
      let x = rw e at up g.passed.read in
      let ls = x.ended.lines in
      let short : length ls ≤ 4096 = omega (arith, rw x.is at few, g.passed.light) in
      rw (answer_ended store, x.is) (finish store (map flat_sheet_line ls) x.ended.names [] x.stands (rw length-map (omega arith)))

  -- A word is too wide for the block: refusal 5.
  pub answers_narrow : (n : TooNarrow) (frame : Frame) (store mid : List ℕ) → frame ≡ frame_of s → WrapsUp frame (body_of job) store (Err n) mid
      → length mid ≡ length store → give (refused 5) mid ≡ render_answer job store
  unfolding flat_judged give
  answers_narrow n frame store mid e up same =
      let x = rw e at up g.passed.read in
      rw (answer_ended store, x, same)
