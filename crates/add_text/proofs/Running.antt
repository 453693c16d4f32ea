-- A run of plain characters over the flat walk: none of them ends a word, so that the run is its characters pushed one after the other, with
-- the annotation in use, or, in Pre past the width, with the continued one.
-- Assumes nothing.
use mathlib.Core.Path.{◌≡◌, refl, sym, ap, subst, ◌∙◌}
use mathlib.Core.Bool.{Bool, true, false, ◌&&◌, and-false}
use mathlib.Core.Logic.{◌⊎◌, inl, inr, ⊎_elim}
use mathlib.Core.Option.{Option, some}
use mathlib.Core.List.{List, [], ◌∷◌, ◌++◌, append-nil, append_assoc}
use Prim.Native.Nat.{ℕ, ◌+◌, ◌<◌, ◌≤◌}
use native.Mathlib.Omega.{arith}
use borrow.Author.Tests.{le-ltb, eqb-false}
use lib.Dec.{ltb}
use lib.ListN.{length, take, drop}
use lib.Seq.{take-append_seam, length-take-le}
use Rattle.characters.specs.Columns.{cols, str_width}
use Rattle.characters.specs.Utf8.{text_bytes, chars}
use Rattle.characters.specs.Plain.{is_plain, AllPlain, PlainRun}
use Rattle.characters.proofs.Tests.{by_if}
use Rattle.characters.proofs.Tables.{plain_positive, plain_width, plain_takes_space, plain_no_break, plain_not_zwsp}
use Rattle.characters.proofs.Runs.{plain_scalars, run_chars, some_append}
use Rattle.fields.specs.Job.{Mode, normal, pre, pre_wrap}
use Rattle.fields.specs.declared.job.Setup.{Setup}
use Rattle.block.specs.Tag.{tag, is_pre}
use Rattle.block.specs.Result.{good}
use Rattle.block.specs.Flat.{char, Line, columns, flat_push_char, Block, with_word, with_wrapped, Walk, walk, add_word_char, break_word, step, steps}
use Rattle.block.proofs.NonSpaces.{TrimsLeaveTextWalk, trims_word_char}
use Rattle.block.proofs.Width.{columns_append}
use Rattle.lines.specs.Bridge.{num, text}
use Rattle.hard_wrap.specs.Hold.{setup}
use Rattle.flush_word.specs.Modes.{mode}
use Rattle.flush_word.specs.declared.state.WrappedBlock.{WrappedBlock}
use Rattle.add_chars.specs.Chars.{PushesChars}
use Rattle.add_text.specs.Runs.{Keeping, Wrapping, Takes, AddsPlain}
use Rattle.add_text.specs.declared.text.Run.{Run}
use Rattle.add_text.specs.declared.runs.Take.{Take}
use Rattle.add_text.specs.declared.runs.Past.{Past}
use Rattle.add_text.proofs.Breaking.{tag_is}
use Rattle.add_chars.proofs.Wording.{keeps_same}
use Rattle.add_text.proofs.WordChars.{far, word_char_on, word_char_wraps}
use Rattle.add_text.proofs.Walking.{step_on, char_word_char, steps_on}

module _ (s : Setup) (m : Mode) (main wrap : ℕ) where
  -- no plain character ends a word
  goes_on : (c : ℕ) (b : Block) → is_plain false c ≡ true → break_word s m c b ≡ good b
  unfolding break_word
  goes_on c b e = rw (plain_no_break c e)

  -- A plain character goes after those of the word.
  plain_step : (c : ℕ) (v : Walk) → is_plain false c ≡ true → step s m main wrap c v ≡ good (add_word_char s m wrap c (some (cols c)) v)
  plain_step c v e =
      step_on s m main wrap c v v.block (goes_on c v.block e)
      ∙ char_word_char s m main wrap c v (eqb-false c 0x200B (plain_not_zwsp false c e)) (plain_takes_space c e)
      ∙ ap (λ (o : Option ℕ). good (add_word_char s m wrap c o v)) (plain_width false c e)

  -- the characters pushed with the annotation in use
  abbrev pub pushed : Walk → List ℕ → Walk
  pushed v cs = walk (with_word (v.block.word ++ text (tag v.ann m) cs) v.block) v.ann

  -- the annotation in use stays in use for n columns more: outside Pre, within the width, or as it is the continued one
  abbrev pub Stays : Walk → ℕ → Type 0
  Stays v n = (is_pre m ≡ false) ⊎ ((far v n ≤ s.width) ⊎ ((v.ann ≡ wrap) × (v.block.pre_wrapped ≡ true)))

  -- where the continued annotation is in use, a wrap changes nothing
  wraps_same : (c : ℕ) (v : Walk) → v.ann ≡ wrap → v.block.pre_wrapped ≡ true
      → walk (with_word (flat_push_char v.block.word c (tag wrap m)) (with_wrapped true v.block)) wrap ≡ pushed v (c ∷ [])
  unfolding flat_push_char
  wraps_same c v a p =
      ap (λ (x : Bool). walk (with_word (flat_push_char v.block.word c (tag wrap m)) (with_wrapped x v.block)) wrap) (sym p)
      ∙ ap (λ (x : ℕ). walk (with_word (v.block.word ++ (char c (tag x m) ∷ [])) v.block) x) (sym a)

  stays_same : (c : ℕ) (v : Walk) → (is_pre m && ltb s.width (far v (cols c))) ≡ false
      → add_word_char s m wrap c (some (cols c)) v ≡ pushed v (c ∷ [])
  unfolding flat_push_char
  stays_same c v e = word_char_on s m wrap c (cols c) v e

  word_char_either : (c : ℕ) (v : Walk) → v.ann ≡ wrap → v.block.pre_wrapped ≡ true → add_word_char s m wrap c (some (cols c)) v ≡ pushed v (c ∷ [])
  unfolding add_word_char flat_push_char
  word_char_either c v a p =
      by_if (λ (x : Walk). x ≡ pushed v (c ∷ [])) (is_pre m && ltb s.width (far v (cols c))) (λ _. wraps_same c v a p) (λ _. refl)

  -- One plain character is pushed.
  word_char_stays : (c : ℕ) (v : Walk) → Stays v (cols c) → add_word_char s m wrap c (some (cols c)) v ≡ pushed v (c ∷ [])
  word_char_stays c v st =
      ⊎_elim (λ e. stays_same c v (rw e))
      (⊎_elim (λ le. stays_same c v (rw (le-ltb s.width (far v (cols c)) le, and-false (is_pre m)))) (λ x. word_char_either c v x.0 x.1)) st

  stays_first : (c : ℕ) (cs : List ℕ) (v : Walk) → Stays v (str_width (c ∷ cs)) → Stays v (cols c)
  unfolding str_width
  stays_first c cs v st = ⊎_elim (λ e. inl e) (⊎_elim (λ le. inr (inl (omega arith))) (λ x. inr (inr x))) st

  columns_one : (l : Line) (c a : ℕ) → columns (l ++ (char c (tag a m) ∷ [])) ≡ columns l + cols c
  unfolding columns
  columns_one l c a = let e : columns (l ++ (char c (tag a m) ∷ [])) ≡ columns l + (cols c + 0) = columns_append l (char c (tag a m) ∷ []) in omega arith

  stays_next : (c : ℕ) (cs : List ℕ) (v : Walk) → Stays v (str_width (c ∷ cs)) → Stays (pushed v (c ∷ [])) (str_width cs)
  unfolding str_width
  stays_next c cs v st =
      ⊎_elim (λ e. inl e)
      (⊎_elim (λ le. inr (inl (let i = columns_one v.block.word c v.ann in omega arith))) (λ x. inr (inr x))) st

  pushed_none : (v : Walk) → pushed v [] ≡ v
  pushed_none v = ap (λ (l : Line). walk (with_word l v.block) v.ann) (append-nil v.block.word)

  pushed_on : (c : ℕ) (cs : List ℕ) (v : Walk) → pushed (pushed v (c ∷ [])) cs ≡ pushed v (c ∷ cs)
  pushed_on c cs v =
      ap (λ (l : Line). walk (with_word l v.block) v.ann)
      (append_assoc v.block.word (char c (tag v.ann m) ∷ []) (text (tag v.ann m) cs))

  -- Plain characters are pushed, one after the other.
  pub plain_steps : (cs zs : List ℕ) (v : Walk) → AllPlain false cs → Stays v (str_width cs)
      → steps s m main wrap (cs ++ zs) v ≡ steps s m main wrap zs (pushed v cs)
  plain_steps [] zs v p st = ap (λ (x : Walk). steps s m main wrap zs x) (sym (pushed_none v))
  plain_steps (c ∷ cs) zs v p st =
      steps_on s m main wrap c (c ∷ (cs ++ zs)) (cs ++ zs) v (pushed v (c ∷ [])) refl
      (plain_step c v p.0 ∙ ap good (word_char_stays c v (stays_first c cs v st)))
      ∙ plain_steps cs zs (pushed v (c ∷ [])) p.1 (stays_next c cs v st)
      ∙ ap (λ (x : Walk). steps s m main wrap zs x) (pushed_on c cs v)

  -- They keep `TrimsLeaveText`.
  pub plain_trims : (cs : List ℕ) (v : Walk) → AllPlain false cs → Stays v (str_width cs) → TrimsLeaveTextWalk v → TrimsLeaveTextWalk (pushed v cs)
  plain_trims [] v p st h = subst TrimsLeaveTextWalk (sym (pushed_none v)) h
  plain_trims (c ∷ cs) v p st h =
      let one = subst TrimsLeaveTextWalk (word_char_stays c v (stays_first c cs v st)) (trims_word_char s m wrap c (some (cols c)) v (plain_takes_space c p.0) h) in
      subst TrimsLeaveTextWalk (pushed_on c cs v) (plain_trims cs (pushed v (c ∷ [])) p.1 (stays_next c cs v st) one)

  -- the walk with `pre_wrapped` set and the continued annotation
  abbrev pub wrapped : Walk → Walk
  wrapped v = walk (with_wrapped true v.block) wrap

  -- past the width the first of them wraps
  first_wraps : (c : ℕ) (v : Walk) → is_pre m ≡ true → s.width ≤ far v 0 → is_plain false c ≡ true
      → add_word_char s m wrap c (some (cols c)) v ≡ pushed (wrapped v) (c ∷ [])
  unfolding flat_push_char
  first_wraps c v e h p = word_char_wraps s m wrap c (cols c) v e (let i = plain_positive false c p in omega arith)

  -- Past the width, in Pre, plain characters are pushed with the continued annotation.
  pub plain_wraps : (cs zs : List ℕ) (v : Walk) → 0 < length (text_bytes cs) → is_pre m ≡ true → s.width ≤ far v 0 → AllPlain false cs
      → steps s m main wrap (cs ++ zs) v ≡ steps s m main wrap zs (pushed (wrapped v) cs)
  unfolding text_bytes
  plain_wraps [] zs v n e h p = absurd (omega arith)
  plain_wraps (c ∷ cs) zs v n e h p =
      steps_on s m main wrap c (c ∷ (cs ++ zs)) (cs ++ zs) v (pushed (wrapped v) (c ∷ [])) refl
      (plain_step c v p.0 ∙ ap good (first_wraps c v e h p.0))
      ∙ plain_steps cs zs (pushed (wrapped v) (c ∷ [])) p.1 (inr (inr (refl, refl)))
      ∙ ap (λ (x : Walk). steps s m main wrap zs x) (pushed_on c cs (wrapped v))

  -- They keep `TrimsLeaveText` too.
  pub wraps_trims : (cs : List ℕ) (v : Walk) → 0 < length (text_bytes cs) → is_pre m ≡ true → s.width ≤ far v 0 → AllPlain false cs → TrimsLeaveTextWalk v
      → TrimsLeaveTextWalk (pushed (wrapped v) cs)
  unfolding text_bytes
  wraps_trims [] v n e h p k = absurd (omega arith)
  wraps_trims (c ∷ cs) v n e h p k =
      let one = subst TrimsLeaveTextWalk (first_wraps c v e h p.0) (trims_word_char s m wrap c (some (cols c)) v (plain_takes_space c p.0) k) in
      subst TrimsLeaveTextWalk (pushed_on c cs (wrapped v)) (plain_trims cs (pushed (wrapped v) (c ∷ [])) p.1 (inr (inr (refl, refl))) one)

-- ---- a part of a text

module _ (bs : List ℕ) (k len : ℕ) (h : k ≤ length bs) (le : len ≤ length (take k bs)) where
  -- It ends inside the text.
  pub run_inside : len ≤ length bs
  run_inside = omega (arith, length-take-le k bs h)

  -- It has no more columns than the front has bytes.
  pub run_most : (n most : ℕ) → k ≤ most → n ≤ len → n ≤ most
  run_most n most m c = omega (arith, length-take-le k bs h)

-- ---- over the block

-- an annotation and the bytes behind
abbrev pub past_of : ℕ → ℕ → Past
past_of a len = record { ann = a; len = len }

-- a mode that is not Pre
not_pre : (m : Mode) → (m ≡ pre → ⊥) → is_pre m ≡ false
not_pre normal h = refl
not_pre pre h = absurd (h refl)
not_pre pre_wrap h = refl

module _ (o : WrappedBlock) (run : Run) (a : ℕ) (bs : List ℕ) (how : Take) (len n t : ℕ) (p : PlainRun false bs len n) (r : WrappedBlock)
    (pos : 0 < len) (ta : t ≡ num (tag how.ann (mode run.mode))) (ann : how.ann < 256) (push : PushesChars o (take len bs) n t how.wrapped r) where
  -- the bytes that are pushed are those of the run
  pushed_bytes : take len bs ≡ text_bytes p.cs
  pushed_bytes = rw (p.whole, p.bytes) (take-append_seam (text_bytes p.cs) p.rest)

  -- With the annotation in use.
  plain_adds : Keeping o run a how → n ≤ how.most → AddsPlain o run a bs (past_of how.ann len) r
  plain_adds keep le = λ d₀ base v cs k e.
      let s = setup o.line.frame in
      let m = mode run.mode in
      let (zs, ez, ex) = some_append p.cs (chars (drop len bs)) cs (sym (run_chars p) ∙ e) in
      let h = k.keeps in
      let c = p.columns in
      let l = h.line.cols in
      let stays : Stays s m run.main run.wrap v (str_width p.cs) =
      ⊎_elim (λ no. inl (not_pre m no)) (λ in-width. inr (inl (omega (arith, h.count, h.cols)))) keep.within in
      let x = keep.ann ∙ k.ann in
      let q = push d₀ base v.block p.cs (tag v.ann m) h (plain_scalars false p.cs p.plain) pushed_bytes c
      (tag_is m v.ann ta x) (omega (arith, x, ann)) (plain_trims s m run.main run.wrap p.cs v p.plain stays h.trims).word in
      record {
        next = pushed s m run.main run.wrap v p.cs;
        rest = zs;
        keeps = record {
          keeps = keeps_same (ap (λ (w : Bool). with_word (v.block.word ++ text (tag v.ann m) p.cs) (with_wrapped w v.block)) (keep.wrapped ∙ h.wrapped)) q;
          ann = x;
        };
        left = ez;
        same = ap (λ (z : List ℕ). steps s m run.main run.wrap z v) ex ∙ plain_steps s m run.main run.wrap p.cs zs v p.plain stays;
      }

  -- With the continued annotation.
  plain_adds_wrapped : Wrapping o run how → AddsPlain o run a bs (past_of how.ann len) r
  plain_adds_wrapped past = λ d₀ base v cs k e.
      let s = setup o.line.frame in
      let m = mode run.mode in
      let (zs, ez, ex) = some_append p.cs (chars (drop len bs)) cs (sym (run_chars p) ∙ e) in
      let h = k.keeps in
      let l = h.line.cols in
      let w = ap is_pre past.mode in
      let b = p.bytes in
      let some_bytes : 0 < length (text_bytes p.cs) = omega arith in
      let far-past : s.width ≤ far v 0 = omega (arith, past.past, h.count, h.cols) in
      let x = past.ann in
      let q = push d₀ base v.block p.cs (tag run.wrap m) h (plain_scalars false p.cs p.plain) pushed_bytes p.columns
      (tag_is m run.wrap ta x) (omega (arith, x, ann)) (wraps_trims s m run.main run.wrap p.cs v some_bytes w far-past p.plain h.trims).word in
      record {
        next = pushed s m run.main run.wrap (wrapped s m run.main run.wrap v) p.cs;
        rest = zs;
        keeps = record {
          keeps = keeps_same (ap (λ (z : Bool). with_word (v.block.word ++ text (tag run.wrap m) p.cs) (with_wrapped z v.block)) past.wrapped) q;
          ann = x;
        };
        left = ez;
        same = ap (λ (z : List ℕ). steps s m run.main run.wrap z v) ex ∙ plain_wraps s m run.main run.wrap p.cs zs v some_bytes w far-past p.plain;
      }

  -- One or the other.
  pub plain_taken : Takes o run a how → n ≤ how.most → AddsPlain o run a bs (past_of how.ann len) r
  plain_taken takes le = ⊎_elim (λ keep. plain_adds keep le) (λ past. plain_adds_wrapped past) takes.1
