-- Every step of the flat block keeps `TrimsLeaveText`: between two characters, and where a line is closed after its blanks are dropped, a line
-- with entries has text.
-- Assumes nothing.
use Rattle.std.proofs.Common.{◌≡◌, ℕ, zero, suc, ◌+◌, ◌%◌, Bool, true, false, not, ◌&&◌, ◌||◌, eqb, ltb, leb, List, [], ◌∷◌, ◌++◌, sym, refl, ap, ◌∙◌, eqb-true}
use mathlib.Core.Option.{Option, none, some}
use borrow.Author.Tests.{not-false}
use Rattle.characters.specs.Columns.{width_of, cols}
use Rattle.characters.specs.Whitespace.{always_takes_space, is_wordbreak_point}
use Rattle.characters.specs.Utf8.{chars}
use Rattle.characters.proofs.Tests.{by_if, clash}
use Rattle.fields.specs.Job.{Mode, normal, pre, pre_wrap, JobField, text, fragment, wrong}
use Rattle.fields.specs.declared.job.Setup.{Setup}
use Rattle.block.specs.Tag.{Tag, is_pre, keeps_space}
use Rattle.block.specs.Result.{Result, OnGood}
use Rattle.block.specs.Answer.{chars_or}
use Rattle.block.specs.Flat.{Item, char, name, Line, columns, has_text, flat_push_char, spaces, keep_last, trim_back, Block, new, with_word, with_blanks, with_wrapped, left, flat_force_flush_line, flat_flush_line, Placed, put, alone, narrow, on_line, too_wide, is_first, next_line, wrap_char, go_on, flat_hard_wrap, flat_flush_word_hard_wrap, blanks, put_word, flat_at_wrap, drop_blanks, write_blank, write_blanks, starts_pre, carry_on, wrap_word, flat_flush_word, Walk, walk, flat_tab_loop, tab, newline, keep_blank, collapse, add_blank, add_word_char, flat_add_char, break_word, step, steps, flat_add_text, flat_add_element, flat_add_field, flat_add_fields}
use Rattle.block.specs.TrimsLeaveText.{has_name, has_non_space, NameHasNonSpace, TextHasNonSpace, TrimsLeaveText}
use Rattle.block.proofs.Results.{good_bind}
use Rattle.block.proofs.Narrow.{by_or, or_intro_right, or_intro_left}

-- ---- names, text and characters that are no space

-- a line with a character that is no space has text
non_space_text : (l : Line) → has_non_space l ≡ true → has_text l ≡ true
unfolding has_non_space has_text
non_space_text [] e = e
non_space_text (char c t ∷ l) e = refl
non_space_text (name n ∷ l) e = non_space_text l e

-- A line without text is empty where `NameHasNonSpace` holds of it.
pub texted : (l : Line) → NameHasNonSpace l → has_text l ≡ false → l ≡ []
unfolding has_name has_non_space has_text
texted [] h e = refl
texted (char c t ∷ l) h e = absurd (clash refl e)
texted (name n ∷ l) h e = absurd (clash (non_space_text l (h refl)) e)

-- such a character stays, whatever comes after it or before it
non_space_left : (l m : Line) → has_non_space l ≡ true → has_non_space (l ++ m) ≡ true
unfolding has_non_space
non_space_left [] m e = absurd (clash e refl)
non_space_left (char c t ∷ l) m e =
    let d = not (eqb c 0x20) in
    by_or d (has_non_space l) e (λ k. or_intro_left d (has_non_space (l ++ m)) k) (λ _ k. or_intro_right d (has_non_space (l ++ m)) (non_space_left l m k))
non_space_left (name n ∷ l) m e = non_space_left l m e

non_space_right : (l m : Line) → has_non_space m ≡ true → has_non_space (l ++ m) ≡ true
unfolding has_non_space
non_space_right [] m e = e
non_space_right (char c t ∷ l) m e = or_intro_right (not (eqb c 0x20)) (has_non_space (l ++ m)) (non_space_right l m e)
non_space_right (name n ∷ l) m e = non_space_right l m e

-- what has no name adds none
name_append : (l m : Line) → has_name m ≡ false → has_name (l ++ m) ≡ has_name l
unfolding has_name
name_append [] m e = e
name_append (char c t ∷ l) m e = name_append l m e
name_append (name n ∷ l) m e = refl

name_spaces : (n : ℕ) (t : Tag) → has_name (spaces n t) ≡ false
unfolding has_name spaces
name_spaces zero t = refl
name_spaces (suc n) t = name_spaces n t

-- a name adds no text
pub text_name : (l : Line) (n : List ℕ) → has_text (l ++ (name n ∷ [])) ≡ has_text l
unfolding has_text
text_name [] n = refl
text_name (char c t ∷ l) n = refl
text_name (name m ∷ l) n = text_name l n

-- ---- the trimming at a line's end takes no name and no character but spaces

name_last : (i : Item) (l m : Line) → has_name m ≡ has_name l → has_name (keep_last i m) ≡ has_name (i ∷ l)
unfolding has_name
name_last (char c t) l [] h = by_if (λ (m : Line). has_name m ≡ has_name l) (eqb c 0x20) (λ _. h) (λ _. h)
name_last (char c t) l (i ∷ m) h = h
name_last (name n) l m h = refl

name_trim : (l : Line) → has_name (trim_back l) ≡ has_name l
unfolding trim_back
name_trim [] = refl
name_trim (i ∷ l) = name_last i l (trim_back l) (name_trim l)

non_space_last : (i : Item) (l m : Line) → has_non_space m ≡ has_non_space l → has_non_space (keep_last i m) ≡ has_non_space (i ∷ l)
unfolding has_non_space
non_space_last (char c t) l [] h =
    by_if (λ (m : Line). has_non_space m ≡ (not (eqb c 0x20) || has_non_space l)) (eqb c 0x20) (λ e. rw e h) (λ e. rw e)
non_space_last (char c t) l (i ∷ m) h = ap (λ (x : Bool). not (eqb c 0x20) || x) h
non_space_last (name n) l m h = h

non_space_trim : (l : Line) → has_non_space (trim_back l) ≡ has_non_space l
unfolding trim_back
non_space_trim [] = refl
non_space_trim (i ∷ l) = non_space_last i l (trim_back l) (non_space_trim l)

-- ---- a line that keeps `NameHasNonSpace`

line_more : (l m : Line) → has_name m ≡ false → NameHasNonSpace l → NameHasNonSpace (l ++ m)
line_more l m z h e = non_space_left l m (h (sym (name_append l m z) ∙ e))

line_push : (l : Line) (c : ℕ) (t : Tag) → NameHasNonSpace l → NameHasNonSpace (flat_push_char l c t)
unfolding flat_push_char has_name
line_push l c t h = line_more l (char c t ∷ []) refl h

line_trim : (l : Line) → NameHasNonSpace l → NameHasNonSpace (trim_back l)
line_trim l h e = non_space_trim l ∙ h (sym (name_trim l) ∙ e)

line_empty : NameHasNonSpace []
unfolding has_name
line_empty e = absurd (clash e refl)

word_empty : TextHasNonSpace []
unfolding has_text
word_empty e = absurd (clash e refl)

-- `NameHasNonSpace` of the block's line
abbrev OnLine : Block → Type 0
OnLine b = NameHasNonSpace b.line

trims : {b : Block} → NameHasNonSpace b.line → TextHasNonSpace b.word → TrimsLeaveText b
trims h k = record { line = h; word = k }

-- The block at its start has `TrimsLeaveText`.
pub trims_new : TrimsLeaveText new
unfolding new
trims_new = trims line_empty word_empty

-- `TrimsLeaveText` stays whatever a block says of its wrapping.
pub trims_wrapped : (p : Bool) (b : Block) → TrimsLeaveText b → TrimsLeaveText (with_wrapped p b)
trims_wrapped p b h = trims h.line h.word

-- `TrimsLeaveText` stays whatever blanks a block has pending.
pub trims_blanks : (n : ℕ) (o : Option Tag) (b : Block) → TrimsLeaveText b → TrimsLeaveText (with_blanks n o b)
trims_blanks n o b h = trims h.line h.word

module _ (s : Setup) where
  -- ---- a line that is closed

  -- A line that is closed leaves an empty one.
  pub trims_close : (b : Block) → TrimsLeaveText b → TrimsLeaveText (flat_force_flush_line s b)
  unfolding flat_force_flush_line
  trims_close b h = trims line_empty h.word

  -- A line that is closed where it has text keeps `TrimsLeaveText`.
  pub trims_flush : (b : Block) → TrimsLeaveText b → TrimsLeaveText (flat_flush_line s b)
  unfolding flat_flush_line
  trims_flush b h = by_if TrimsLeaveText (has_text b.line) (λ _. trims_close b h) (λ _. h)

  line_flush : (b : Block) → OnLine b → OnLine (flat_flush_line s b)
  unfolding flat_flush_line flat_force_flush_line
  line_flush b h = by_if OnLine (has_text b.line) (λ _. line_empty) (λ _. h)

  -- ---- the blanks at a wrap

  line_at : (t : Tag) (m : Mode) (b : Block) → OnLine b → OnLine (flat_at_wrap s t m b)
  unfolding flat_at_wrap
  line_at t normal b h = h
  line_at t pre b h =
      by_if OnLine (leb (left s b) b.wslen) (λ _. h)
      (λ _. line_more b.line (spaces b.wslen t) (name_spaces b.wslen t) h)
  line_at t pre_wrap b h = line_trim b.line h

  line_drop : (o : Option Tag) (b : Block) → OnLine b → OnLine (drop_blanks s o b)
  unfolding drop_blanks
  line_drop none b h = h
  line_drop (some t) b h = line_at t t.mode b h

  -- `NameHasNonSpace` holds of the line once the blanks at a wrap are dropped.
  pub trims_drop : (b : Block) → TrimsLeaveText b → NameHasNonSpace (drop_blanks s b.spacetag b).line
  trims_drop b h = line_drop b.spacetag b h.line

  line_blank : (t : Tag) (b : Block) → OnLine b → OnLine (write_blank s t b)
  unfolding write_blank
  line_blank t b h =
      let k = line_push b.line 0x20 t h in
      by_if OnLine (leb s.width (columns (flat_push_char b.line 0x20 t))) (λ _. line_flush (on_line 0x20 t b) k) (λ _. k)

  line_blanks : (n : ℕ) (o : Option Tag) (b : Block) → OnLine b → OnLine (write_blanks s n o b)
  unfolding write_blanks
  line_blanks n none b h = h
  line_blanks zero (some t) b h = h
  line_blanks (suc n) (some t) b h = line_blanks n (some t) (write_blank s t b) (line_blank t b h)

-- A character put on the line keeps `TrimsLeaveText`.
pub trims_on : (c : ℕ) (t : Tag) (b : Block) → TrimsLeaveText b → TrimsLeaveText (on_line c t b)
trims_on c t b h = trims (line_push b.line c t h.line) h.word

-- A space put on the line keeps `TrimsLeaveText`.
pub trims_space : (t : Tag) (b : Block) → TrimsLeaveText b → TrimsLeaveText (on_line 0x20 t b)
trims_space t b h = trims_on 0x20 t b h

-- ---- the hard wrap: it puts no name on a line

abbrev TrimsLeaveTextPlace : Placed → Type 0
TrimsLeaveTextPlace (put b) = TrimsLeaveText b
TrimsLeaveTextPlace (alone b) = TrimsLeaveText b
TrimsLeaveTextPlace narrow = Unit {0}

module _ (s : Setup) where
  place_wide : (c : ℕ) (t : Tag) (b : Block) → TrimsLeaveText b → TrimsLeaveTextPlace (too_wide s c t b)
  unfolding too_wide
  place_wide c t b h = by_if TrimsLeaveTextPlace s.overflow (λ _. trims_close s (on_line c t b) (trims_on c t b h)) (λ _. tt)

  place_next : (c : ℕ) (t : Tag) (b : Block) → TrimsLeaveText b → TrimsLeaveTextPlace (next_line s c t b)
  unfolding next_line
  place_next c t b h = by_if TrimsLeaveTextPlace (leb (cols c) s.width) (λ _. trims_on c t b h) (λ _. place_wide c t b h)

  place_char : (c : ℕ) (t : Tag) (last : Option Tag) (b : Block) → TrimsLeaveText b → TrimsLeaveTextPlace (wrap_char s c t last b)
  unfolding wrap_char
  place_char c t last b h =
      by_if TrimsLeaveTextPlace (leb (cols c) (left s b)) (λ _. trims_on c t b h)
      (λ _. by_if TrimsLeaveTextPlace (is_first last t && eqb (columns b.line) 0) (λ _. place_wide c t b h)
      (λ _. place_next c t (flat_force_flush_line s b) (trims_close s b h)))

  trims_go_on : (t : Tag) (p : Placed) (f : Option Tag → Block → Result Block)
      → ((o : Option Tag) (b : Block) → TrimsLeaveText b → OnGood TrimsLeaveText (f o b)) → TrimsLeaveTextPlace p → OnGood TrimsLeaveText (go_on t p f)
  trims_go_on t (put b) f h k = h (some t) b k
  trims_go_on t (alone b) f h k = h none b k
  trims_go_on t narrow f h k = tt

  -- The hard wrap of a word keeps `TrimsLeaveText`.
  pub trims_hard : (w : Line) (last : Option Tag) (b : Block) → TrimsLeaveText b → OnGood TrimsLeaveText (flat_hard_wrap s w last b)
  unfolding flat_hard_wrap
  trims_hard [] last b h = h
  trims_hard (name n ∷ w) last b h = trims_hard w none b h
  trims_hard (char c t ∷ w) last b h =
      trims_go_on t (wrap_char s c t last b) _ (λ o d k. trims_hard w o d k) (place_char c t last b h)

-- ---- flush_word

-- A word with text put on the line keeps `TrimsLeaveText`: its characters go with it.
pub trims_put : (b : Block) → TrimsLeaveText b → has_text b.word ≡ true → TrimsLeaveText (put_word b)
unfolding put_word
trims_put b h e = trims (λ _. non_space_right (b.line ++ blanks b.wslen b.spacetag) b.word (h.word e)) word_empty

-- The same, whatever the block says of its wrapping.
pub trims_put_wrapped : (p : Bool) (b : Block) → TrimsLeaveText b → has_text b.word ≡ true → TrimsLeaveText (put_word (with_wrapped p b))
trims_put_wrapped p b h e = trims_put (with_wrapped p b) (trims_wrapped p b h) e

-- A word that is wrapped keeps `TrimsLeaveText`, since the hard wrap drops its names.
pub trims_wrap : (s : Setup) (b : Block) → TrimsLeaveText b → OnGood TrimsLeaveText (wrap_word s b)
unfolding wrap_word carry_on flat_flush_word_hard_wrap
trims_wrap s b h =
    let c = drop_blanks s b.spacetag b in
    let d = with_wrapped (starts_pre b.word) (flat_flush_line s c) in
    let k : OnLine d = line_flush s c (trims_drop s b h) in
    trims_hard s _ none _ (trims (line_blanks s d.wslen d.spacetag d k) word_empty)

-- A word that is flushed keeps `TrimsLeaveText`.
pub trims_flush_word : (s : Setup) (b : Block) → TrimsLeaveText b → OnGood TrimsLeaveText (flat_flush_word s b)
unfolding flat_flush_word
trims_flush_word s b h =
    by_if (OnGood TrimsLeaveText) (not (has_text b.word)) (λ _. h)
    (λ e. by_if (OnGood TrimsLeaveText) (leb (b.wslen + columns b.word) (left s b))
    (λ _. trims_put_wrapped false b h (not-false (has_text b.word) e)) (λ _. trims_wrap s b h))

-- ---- add_text

-- A newline keeps `TrimsLeaveText`.
pub trims_newline : (s : Setup) (b : Block) → TrimsLeaveText b → TrimsLeaveText (newline s b)
unfolding newline flat_force_flush_line
trims_newline s b h = trims line_empty h.word

-- Every turn of a tab keeps `TrimsLeaveText`.
pub trims_tab_line : (fuel : ℕ) (s : Setup) (t : Tag) (pos : ℕ) (one : Bool) (b : Block) → TrimsLeaveText b → TrimsLeaveText (flat_tab_loop fuel s t pos one b)
unfolding flat_tab_loop
trims_tab_line zero s t pos one b h = h
trims_tab_line (suc fuel) s t pos one b h =
    by_if TrimsLeaveText (eqb (pos % 8) 0 && one) (λ _. h)
    (λ _. by_if TrimsLeaveText (leb s.width pos) (λ _. trims_tab_line fuel s t 0 one (flat_flush_line s b) (trims_flush s b h))
    (λ _. trims_tab_line fuel s t (suc pos) true (on_line 0x20 t b) (trims_space t b h)))

-- A tab keeps `TrimsLeaveText`.
pub trims_tab : (s : Setup) (t : Tag) (b : Block) → TrimsLeaveText b → TrimsLeaveText (tab s t b)
unfolding tab
trims_tab s t b h = trims_tab_line 10 s t (columns b.line + columns b.word + b.wslen) false b h

-- A blank that is kept keeps `TrimsLeaveText`: it is put on a word only where that has text, hence a character that is no space.
pub trims_keep : (o : Option ℕ) (c : ℕ) (t : Tag) (b : Block) → TrimsLeaveText b → TrimsLeaveText (keep_blank o c t b)
unfolding keep_blank flat_push_char
trims_keep none c t b h = h
trims_keep (some n) c t b h =
    by_if TrimsLeaveText (has_text b.word) (λ e. trims h.line (λ _. non_space_left b.word (char c t ∷ []) (h.word e)))
    (λ _. trims_blanks (b.wslen + n) (some t) b h)

-- A blank that collapses keeps `TrimsLeaveText`.
pub trims_collapse : (t : Tag) (b : Block) → TrimsLeaveText b → TrimsLeaveText (collapse t b)
unfolding collapse
trims_collapse t b h = by_if TrimsLeaveText (ltb 0 (columns b.line) && eqb b.wslen 0) (λ _. trims_blanks 1 (some t) b h) (λ _. h)

space_not_spaced : always_takes_space 0x20 ≡ false
unfolding always_takes_space
space_not_spaced = refl

-- a character that always takes space is no space itself
spaced_non_space : (c : ℕ) (t : Tag) → always_takes_space c ≡ true → has_non_space (char c t ∷ []) ≡ true
unfolding has_non_space
spaced_non_space c t e = go (eqb c 0x20) refl
  where
    go : (x : Bool) → eqb c 0x20 ≡ x → (not x || false) ≡ true
    go true q = absurd (clash e (ap always_takes_space (eqb-true c 0x20 q) ∙ space_not_spaced))
    go false q = refl

-- a word with such a character
trims_grown : (c : ℕ) (t : Tag) (b : Block) → always_takes_space c ≡ true → TrimsLeaveText b → TrimsLeaveText (with_word (flat_push_char b.word c t) b)
unfolding flat_push_char
trims_grown c t b e h = trims h.line (λ _. non_space_right b.word (char c t ∷ []) (spaced_non_space c t e))

-- `TrimsLeaveText` of a walk's block
abbrev pub TrimsLeaveTextWalk : Walk → Type 0
TrimsLeaveTextWalk w = TrimsLeaveText w.block

-- A character of a word keeps `TrimsLeaveText`.
pub trims_word_char : (s : Setup) (m : Mode) (wrap c : ℕ) (o : Option ℕ) (w : Walk) → always_takes_space c ≡ true → TrimsLeaveText w.block
    → TrimsLeaveText (add_word_char s m wrap c o w).block
unfolding add_word_char
trims_word_char s m wrap c none w e h = h
trims_word_char s m wrap c (some n) w e h =
    by_if TrimsLeaveTextWalk (is_pre m && ltb s.width (columns w.block.line + w.block.wslen + (columns w.block.word + n)))
    (λ _. trims_grown c _ (with_wrapped true w.block) e (trims_wrapped true w.block h)) (λ _. trims_grown c _ w.block e h)

-- A name put at a word's end keeps `TrimsLeaveText`: it is no text.
pub trims_element : (n : List ℕ) (b : Block) → TrimsLeaveText b → TrimsLeaveText (flat_add_element n b)
unfolding flat_add_element
trims_element n b h = trims h.line (λ e. non_space_left b.word (name n ∷ []) (h.word (sym (text_name b.word n) ∙ e)))

module _ (s : Setup) where
  -- A blank keeps `TrimsLeaveText`.
  pub trims_blank : (m : Mode) (main c : ℕ) (w : Walk) → TrimsLeaveTextWalk w → OnGood TrimsLeaveTextWalk (add_blank s m main c w)
  unfolding add_blank
  trims_blank m main c w h =
      by_if (OnGood TrimsLeaveTextWalk) (not (keeps_space m)) (λ _. trims_collapse _ w.block h)
      (λ _. by_if (OnGood TrimsLeaveTextWalk) (eqb c 0x0A)
      (λ _. good_bind TrimsLeaveText TrimsLeaveTextWalk (flat_flush_word s w.block) _ (trims_flush_word s w.block h) (λ b k. trims_newline s b k))
      (λ _. by_if (OnGood TrimsLeaveTextWalk) (eqb c 0x09)
      (λ _. good_bind TrimsLeaveText TrimsLeaveTextWalk (flat_flush_word s w.block) _ (trims_flush_word s w.block h) (λ b k. trims_tab s _ b k))
      (λ _. trims_keep (width_of c) c _ w.block h)))

  -- A character that is added keeps `TrimsLeaveText`.
  pub trims_char : (m : Mode) (main wrap c : ℕ) (w : Walk) → TrimsLeaveTextWalk w → OnGood TrimsLeaveTextWalk (flat_add_char s m main wrap c w)
  unfolding flat_add_char
  trims_char m main wrap c w h =
      by_if (OnGood TrimsLeaveTextWalk) (eqb c 0x200B) (λ _. h)
      (λ _. by_if (OnGood TrimsLeaveTextWalk) (always_takes_space c) (λ e. trims_word_char s m wrap c (width_of c) w e h) (λ _. trims_blank m main c w h))

  -- The break before a character keeps `TrimsLeaveText`.
  pub trims_break : (m : Mode) (c : ℕ) (b : Block) → TrimsLeaveText b → OnGood TrimsLeaveText (break_word s m c b)
  unfolding break_word
  trims_break m c b h =
      by_if (OnGood TrimsLeaveText) (is_wordbreak_point c && ltb 0 (columns b.word) && not (is_pre m)) (λ _. trims_flush_word s b h) (λ _. h)

  -- A character of a text, with the break before it, keeps `TrimsLeaveText`.
  pub trims_step : (m : Mode) (main wrap c : ℕ) (w : Walk) → TrimsLeaveTextWalk w → OnGood TrimsLeaveTextWalk (step s m main wrap c w)
  unfolding step
  trims_step m main wrap c w h =
      good_bind TrimsLeaveText TrimsLeaveTextWalk (break_word s m c w.block) _ (trims_break m c w.block h) (λ b k. trims_char m main wrap c _ k)

  -- The characters of a text keep `TrimsLeaveText`.
  pub trims_steps : (m : Mode) (main wrap : ℕ) (cs : List ℕ) (w : Walk) → TrimsLeaveTextWalk w → OnGood TrimsLeaveTextWalk (steps s m main wrap cs w)
  unfolding steps
  trims_steps m main wrap [] w h = h
  trims_steps m main wrap (c ∷ cs) w h =
      good_bind TrimsLeaveTextWalk TrimsLeaveTextWalk (step s m main wrap c w) _ (trims_step m main wrap c w h) (λ v k. trims_steps m main wrap cs v k)

  -- A text keeps `TrimsLeaveText`.
  pub trims_text : (m : Mode) (main wrap : ℕ) (cs : List ℕ) (b : Block) → TrimsLeaveText b → OnGood TrimsLeaveText (flat_add_text s m main wrap cs b)
  unfolding flat_add_text
  trims_text m main wrap cs b h =
      good_bind TrimsLeaveTextWalk TrimsLeaveText (steps s m main wrap cs _) _ (trims_steps m main wrap cs (walk b _) h) (λ w k. k)

  -- A field of a job keeps `TrimsLeaveText`.
  pub trims_field : (f : JobField) (b : Block) → TrimsLeaveText b → OnGood TrimsLeaveText (flat_add_field s f b)
  unfolding flat_add_field
  trims_field (text m a c t) b h = trims_text m a c (chars_or (chars t)) b h
  trims_field (fragment n) b h = trims_element n b h
  trims_field wrong b h = h

  -- The fields of a job keep `TrimsLeaveText`.
  pub trims_fields : (fs : List JobField) (b : Block) → TrimsLeaveText b → OnGood TrimsLeaveText (flat_add_fields s fs b)
  unfolding flat_add_fields
  trims_fields [] b h = h
  trims_fields (f ∷ fs) b h = good_bind TrimsLeaveText TrimsLeaveText (flat_add_field s f b) _ (trims_field f b h) (λ c k. trims_fields fs c k)
