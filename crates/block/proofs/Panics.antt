-- No panic: on a job that passes 1 to 4 no difference of the definitions goes below 0, no `unwrap` is of None, no part of a string
-- reaches past its end and the assertion of `TaggedLine::width` holds, up to the last step or to TooNarrow. So a difference that stops
-- at 0 and an `unwrap` that has a default hide no panic of the Rust.
-- Assumes nothing.
use Rattle.std.proofs.Common.{◌≡◌, ℕ, zero, suc, ◌+◌, ◌-◌, ◌<◌, ◌≤◌, min, Bool, true, false, not, ◌&&◌, eqb, ltb, List, [], ◌∷◌, ◌++◌, length, take, drop, sym, refl, ap, ◌∙◌, arith, length-drop, ltb-false, ltb-true, eqb-true}
use mathlib.Core.Option.{Option, none, some}
use borrow.Author.Tests.{not-true}
use Rattle.std.specs.Prelude.{if◌then◌else◌}
use Rattle.characters.specs.Columns.{columns_of, width_of, cols, str_width}
use Rattle.characters.specs.Whitespace.{is_wordbreak_point}
use Rattle.characters.specs.Utf8.{chars}
use Rattle.characters.proofs.Tests.{by_if}
use Rattle.fields.specs.Job.{Mode, normal, pre, pre_wrap, JobField, text, fragment, wrong}
use Rattle.fields.specs.Refusals.{setup_of, fields_of, job_refusal}
use Rattle.fields.specs.declared.job.Setup.{Setup}
use Rattle.fields.proofs.Back.{Every}
use Rattle.block.specs.Tag.{Tag, tag, same_tag, is_pre}
use Rattle.block.specs.Result.{good, OnGood}
use Rattle.block.specs.TaggedLine.{TaggedString, Element, Str, FragmentStart, tagged, is_empty, push, push_ws, push_char, sum_widths, line_width, line_new, backwards}
use Rattle.block.specs.WrappedBlock.{WrappedBlock, set_line, set_word, force_flush_line, flush_line, unwrap, Walked, walk as walk-piece, Hard, split_at, split_piece, put_rest, at_start, first_mode, write_one, flush_word, trailing_taken, Text, text as at-text, add_char, new as new-block}
use Rattle.block.specs.Answer.{chars_or, add_field, add_fields}
use Rattle.block.specs.Flat.{Item, char, name, Line, columns, has_text, flat_push_char, spaces, Block, new, with_word, with_wrapped, left, flat_flush_line, drop_blanks, starts_pre, carry_on, flat_flush_word, Walk, walk, step, flat_add_field, flat_add_fields}
use Rattle.block.specs.Panics.{IsSome, WidthSafe, WithoutFrontSafe, WithoutEndSafe, FlushLineSafe, WalkSafe, SplitAtSafe, SplitPieceSafe, PutRestSafe, HardWrapElementsSafe, FlushWordHardWrapSafe, AtWrapSafe, MatchSpacetagSafe, WriteOneSafe, WriteRemainingSafe, NotEnoughSpaceSafe, FlushWordSafe, NewlineSafe, TabLoopSafe, TabSafe, BlankSafe, AddCharSafe, AddCharsSafe, AddTextSafe, IntoLinesSafe, FlushWrappingSafe, AddFieldSafe, AddFieldsSafe, FlushedBlockSafe}
use Rattle.block.proofs.Results.{good_bind, good_map, good_both}
use Rattle.block.proofs.Width.{columns_append, no_text, BlockWithin, fits_carried, fits_word, fits_step, fits_field}
use Rattle.block.proofs.Clean.{Counted as Brought, Brings, Clean, clean_carried, clean_word, clean_step, clean_field}
use Rattle.block.proofs.Group.{glue, group, tline, tagged_chars, columns_tagged_chars, push_text, push_item, push_spaces, group_width, group_content, tline_width, group_mode, trim_length, trim_width, end_width, sum_backwards}
use Rattle.block.proofs.Same.{Match, match_bind, match_and, match_good, by_both, block_of, Pending, Carried, before_wrap, if_wrapped, Like, word_same, LikeW, step_same}
use Rattle.block.proofs.Fuel.{Stops, walk_stops, Counted, none_wide, rest_length, rest_counted, rest_empty, shrinks}
use Rattle.block.proofs.Equal.{field_same, passes_wide, refusal_at}

-- ---- `TaggedLine`

-- the `len` of a flat line's `TaggedLine` is the sum of its pieces' columns
line_safe : (l : Line) → WidthSafe (tline l)
line_safe l = sym (tline_width l)

-- a `len` that is no less than the columns of the elements is no less than what a trim takes
front_safe : (v : List (Element Tag)) (n : ℕ) → sum_widths v ≤ n → WithoutFrontSafe v n
unfolding WithoutFrontSafe sum_widths
front_safe [] n h = tt
front_safe (FragmentStart m ∷ v) n h = tt
front_safe (Str p ∷ v) n h =
    (trim_length p.s, λ _ _. (omega arith, front_safe v (n - str_width p.s) (omega arith)), λ _ _. (trim_width p.s, omega arith))

end_safe : (v : List (Element Tag)) (n : ℕ) → sum_widths v ≤ n → WithoutEndSafe v n
unfolding WithoutEndSafe sum_widths
end_safe [] n h = tt
end_safe (FragmentStart m ∷ v) n h = tt
end_safe (Str p ∷ v) n h =
    (λ _. (omega arith, end_safe v (n - str_width p.s) (omega arith)), λ _ _. (end_width p.s, omega arith))

-- ---- the open line is a flat line's

abbrev Lined : WrappedBlock → Type 0
Lined self = (l : Line) × (self.line ≡ tline l)

lined_safe : (self : WrappedBlock) → Lined self → WidthSafe self.line
lined_safe self (l, e) = rw e (line_safe l)

lined_flush : (self : WrappedBlock) → Lined self → Lined (flush_line self)
unfolding flush_line force_flush_line group columns
lined_flush self h = by_if Lined (not (is_empty self.line)) (λ _. ([], refl)) (λ _. h)

lined_spaces : (self : WrappedBlock) (n : ℕ) (t : Tag) → Lined self → Lined (set_line (push_ws self.line n t) self)
lined_spaces self n t (l, e) = (l ++ spaces n t, rw e (push_spaces l n t))

-- ---- `flush_word_hard_wrap`

-- a character that has a column count; a name
abbrev Known : Item → Type 0
Known (char c t) = IsSome (width_of c)
Known (name n) = Unit {0}

known_space : (t : Tag) → Known (char 0x20 t)
unfolding width_of columns_of
known_space t = tt

-- each character of a text has one
abbrev AllKnown : List ℕ → Type 0
AllKnown cs = Every (λ (c : ℕ). IsSome (width_of c)) cs

known_drop : (n : ℕ) (cs : List ℕ) → AllKnown cs → AllKnown (drop n cs)
known_drop zero cs h = h
known_drop (suc n) [] h = tt
known_drop (suc n) (c ∷ cs) h = known_drop n cs h.1

-- each character of the elements' texts
abbrev KnownTexts : List (Element Tag) → Type 0
KnownTexts [] = Unit {0}
KnownTexts (Str p ∷ v) = AllKnown p.s × KnownTexts v
KnownTexts (FragmentStart n ∷ v) = KnownTexts v

known_glue : (c : ℕ) (t : Tag) (v : List (Element Tag)) → IsSome (width_of c) → KnownTexts v → KnownTexts (glue c t v)
known_glue c t [] k h = ((k, tt), tt)
known_glue c t (FragmentStart n ∷ v) k h = ((k, tt), h)
known_glue c t (Str p ∷ v) k h = by_if KnownTexts (same_tag t p.tag) (λ _. ((k, h.0), h.1)) (λ _. ((k, tt), h))

known_group : (l : Line) → Every Known l → KnownTexts (group l)
unfolding group
known_group [] h = tt
known_group (name n ∷ l) h = known_group l h.1
known_group (char c t ∷ l) h = known_glue c t (group l) h.0 (known_group l h.1)

-- what is left of the line and what stands on it are the width
record Room (h : Hard) : Type 0 where
  line : Line
  is_line : h.self.line ≡ tline line
  room : h.lineleft + columns line ≡ h.self.width

-- in a piece: what is copied and what is left are the piece
record Going (p : TaggedString Tag) (h : Hard) : Type 0 where
  at : Room h
  counted : Counted p h
  inside : h.bpos ≤ length p.s

-- after the loop: what is left of the piece fits the line
abbrev Over : TaggedString Tag → Hard → Type 0
Over p h = Going p h × (str_width p.s - h.wpos ≤ h.lineleft)

walk_of : (self : WrappedBlock) → Lined self → (y : List ℕ) → AllKnown y → (i l : ℕ) → WalkSafe self y i l
unfolding WalkSafe
walk_of self d [] k i l = tt
walk_of self d (c ∷ y) k i l = (k.0, λ _. walk_of self d y k.1 (suc i) (l - cols c), λ _ _. lined_safe self d)

module _ (p : TaggedString Tag) where
  abbrev Stopped : Hard → Walked → Type 0
  Stopped h q = Stops h.self (drop h.bpos p.s) 0 h.wpos q

  stopped : (h : Hard) → Going p h → ltb h.lineleft (str_width p.s - h.wpos) ≡ true
      → OnGood (Stopped h) (walk-piece h.self (drop h.bpos p.s) 0 h.lineleft h.wpos)
  stopped h g t =
      walk_stops h.self (drop h.bpos p.s) 0 h.lineleft h.wpos
      (omega (arith, ltb-true h.lineleft (str_width p.s - h.wpos) t, g.counted))

  split_inside : (h : Hard) (q : Walked) → Going p h → Stopped h q → h.bpos + q.split_idx ≤ length p.s
  split_inside h q g x = omega (arith, x.inside, g.inside, length-drop h.bpos p.s)

  split_of : (h : Hard) (q : Walked) → Going p h → Stopped h q → SplitAtSafe p h q
  unfolding SplitAtSafe
  split_of h q g x =
      let part = take q.split_idx (drop h.bpos p.s) in
      (split_inside h q g x, λ _. rw (g.at.is_line, push_text g.at.line part p.tag) (line_safe (g.at.line ++ tagged_chars part p.tag)))

  going_on : (h : Hard) (q : Walked) → Going p h → Stopped h q → Going p (split_at p h q)
  going_on h q g x = record {
    at = fresh;
    counted = rest_counted p h q g.counted x;
    inside = (unfold split_at in split_inside h q g x);
  }
    where
      fresh : Room (split_at p h q)
      fresh = unfold split_at force_flush_line group columns in record { line = []; is_line = refl; room = omega arith }

  pieces_of : (fuel : ℕ) (h : Hard) → AllKnown p.s → Going p h → SplitPieceSafe fuel p h
  unfolding SplitPieceSafe
  pieces_of zero h k g = tt
  pieces_of (suc fuel) h k g = (
    omega (arith, g.counted),
    λ t. (
      g.inside,
      walk_of h.self (g.at.line, g.at.is_line) (drop h.bpos p.s) (known_drop h.bpos p.s k) 0 h.lineleft,
      good_map (walk-piece h.self (drop h.bpos p.s) 0 h.lineleft h.wpos)
          (λ q x. (split_of h q g x, pieces_of fuel (split_at p h q) k (going_on h q g x))) (stopped h g t),
    ),
  )

  -- the fuel is enough, so the loop ends where what is left fits
  piece_over : (fuel : ℕ) (h : Hard) (z : ℕ) → Going p h → (z ≡ 0 → line_width h.self.line ≡ 0) → length (drop h.bpos p.s) + z ≤ fuel
      → OnGood (Over p) (split_piece fuel p h)
  unfolding split_piece
  piece_over zero h z g k f = (g, omega (arith, g.counted, none_wide (drop h.bpos p.s) (omega arith)))
  piece_over (suc fuel) h z g k f =
      by_if (OnGood (Over p)) (ltb h.lineleft (str_width p.s - h.wpos))
      (λ t. good_bind (Stopped h) (Over p) (walk-piece h.self (drop h.bpos p.s) 0 h.lineleft h.wpos) _ (stopped h g t)
      (λ q x. let n = length-drop h.bpos p.s in
      piece_over fuel (split_at p h q) 0 (going_on h q g x) (λ _. rest_empty p h q)
      (rw (rest_length p h q) (shrinks (length p.s) h.bpos q.split_idx z fuel (line_width h.self.line) (omega arith) k x.gets_on))))
      (λ t. (g, ltb-false h.lineleft (str_width p.s - h.wpos) t))

  whole_left : (h : Hard) → h.bpos ≡ 0 → str_width (drop h.bpos p.s) ≡ str_width p.s
  whole_left h e = ap (λ (i : ℕ). str_width (drop i p.s)) e

  rest_of : (h : Hard) → Over p h → PutRestSafe p h
  unfolding PutRestSafe
  rest_of h (g, fits) =
      (λ e. omega (arith, g.counted, whole_left h (eqb-true h.bpos 0 e)), λ _ _. fits)

  -- a text of the piece goes on the line
  put_on : (h : Hard) (x : List ℕ) → Room h → str_width x ≤ h.lineleft
      → Room (record { self = set_line (push h.self.line (Str (tagged x p.tag))) h.self; lineleft = h.lineleft - str_width x; wpos = h.wpos; bpos = h.bpos })
  put_on h x g fits = record {
    line = g.line ++ tagged_chars x p.tag;
    is_line = rw g.is_line (push_text g.line x p.tag);
    room = omega (arith, g.room, columns_append g.line (tagged_chars x p.tag), columns_tagged_chars x p.tag);
  }

  room_rest : (h : Hard) → Over p h → Room (put_rest p h)
  unfolding put_rest
  room_rest h (g, fits) =
      let rest : str_width p.s - h.wpos ≡ str_width (drop h.bpos p.s) = omega (arith, g.counted) in
      by_if Room (eqb h.bpos 0)
      (λ e. put_on h p.s g.at (omega (arith, g.counted, whole_left h (eqb-true h.bpos 0 e))))
      (λ _. by_if Room (ltb h.bpos (length p.s)) (λ _. rw rest (put_on h (drop h.bpos p.s) g.at (omega arith))) (λ _. g.at))

elements_of : (v : List (Element Tag)) → KnownTexts v → (h : Hard) → Room h → HardWrapElementsSafe v h
unfolding HardWrapElementsSafe
elements_of [] k h g = tt
elements_of (FragmentStart n ∷ v) k h g = elements_of v k h g
elements_of (Str p ∷ v) k h g =
    let start : Going p (at_start h) = record {
      at = record { line = g.line; is_line = g.is_line; room = g.room };
      counted = (let z : 0 + str_width p.s ≡ str_width p.s = omega arith in z);
      inside = omega arith;
    } in (
      λ fuel. pieces_of p fuel (at_start h) k.0 start,
      good_map (split_piece (suc (length p.s)) p (at_start h)) (λ q x. (rest_of p q x, elements_of v k.1 (put_rest p q) (room_rest p q x)))
          (piece_over p (suc (length p.s)) (at_start h) 1 start (λ x. absurd (omega arith)) (omega arith)),
    )

-- ---- "Write any remaining whitespace"

-- there is a tag where there are blanks
some_tag : (n : ℕ) (o : Option Tag) → Carried n o → 0 < n → IsSome o
some_tag n none h k = absurd (omega arith)
some_tag n (some t) h k = tt

less_carried : (n m : ℕ) (o : Option Tag) → Carried n o → Carried (n - m) o
less_carried n m none h = omega arith
less_carried n m (some t) h = tt

write_on : (self : WrappedBlock) → Lined self → Carried self.wslen self.spacetag → Lined (write_one self) × Carried (write_one self).wslen (write_one self).spacetag
unfolding write_one
write_on self d k =
    let n = min self.wslen self.width in
    let put = set_line (push_ws self.line n (unwrap self.spacetag)) self in
    let on : Lined put = lined_spaces self n (unwrap self.spacetag) d in
    by_if (λ (r : WrappedBlock). Lined r × Carried (self.wslen - n) r.spacetag) (eqb n self.width)
    (λ _. (lined_flush put on, tag_flush put (self.wslen - n) (less_carried self.wslen n self.spacetag k)))
    (λ _. (on, less_carried self.wslen n self.spacetag k))
  where
    tag_flush : (r : WrappedBlock) (n : ℕ) → Carried n r.spacetag → Carried n (flush_line r).spacetag
    tag_flush r n h = unfold flush_line force_flush_line in by_if (λ (q : WrappedBlock). Carried n q.spacetag) (not (is_empty r.line)) (λ _. h) (λ _. h)

writes_of : (fuel : ℕ) (self : WrappedBlock) → Lined self → Carried self.wslen self.spacetag → WriteRemainingSafe fuel self
unfolding WriteRemainingSafe WriteOneSafe
writes_of zero self d k = tt
writes_of (suc fuel) self d k =
    let n = min self.wslen self.width in
    let put = set_line (push_ws self.line n (unwrap self.spacetag)) self in
    let next = write_on self d k in
    λ t. (
      (
        some_tag self.wslen self.spacetag k (ltb-true 0 self.wslen t),
        λ _ _ _. lined_safe put (lined_spaces self n (unwrap self.spacetag) d),
        omega arith,
      ),
      writes_of fuel (write_one self) next.0 next.1,
    )

-- ---- `flush_word`

pending_carried : (n : ℕ) (o : Option Tag) → Pending n o → Carried n o
pending_carried n none h = h
pending_carried n (some t) h = tt

module _ (s : Setup) where
  hard_of_lem : (b : Block) (n k : ℕ) → columns b.line ≤ s.width → Every Known b.word → FlushWordHardWrapSafe (block_of s n k b)
  unfolding FlushWordHardWrapSafe
  hard_of_lem b n k fits known = (
    fits,
    elements_of (group b.word) (known_group b.word known) _ (record { line = b.line; is_line = refl; room = omega arith }),
  )

  at_of : (m : Mode) (b : Block) (n k : ℕ) → columns b.word ≤ n → AtWrapSafe m (block_of s n k b)
  at_of normal b n k h = tt
  at_of pre b n k h = tt
  at_of pre_wrap b n k h = (
    front_safe (group b.word) n (omega (arith, group_width b.word)),
    end_safe (backwards (group b.line)) (columns b.line) (omega (arith, sum_backwards (group b.line), group_width b.line)),
  )

  match_of : (o : Option Tag) (b : Block) (n k : ℕ) → columns b.word ≤ n → MatchSpacetagSafe o (block_of s n k b)
  match_of none b n k h = tt
  match_of (some t) b n k h = at_of t.mode b n k h

  module _ (positive : 0 < s.width) where
    -- the line fits, and each character of the block has a column count
    abbrev Fit : Block → Type 0
    Fit b = BlockWithin s (s.width + 2) b × Clean Known known_space s b

    wrap_of : (b : Block) (n k : ℕ) → Pending b.wslen b.spacetag → columns b.word ≤ n → Fit b
        → NotEnoughSpaceSafe (first_mode (group b.word)) (left s b) (block_of s n k (with_wrapped false b))
    unfolding NotEnoughSpaceSafe
    wrap_of b n k h g (fits, clean) =
        let d = with_wrapped (starts_pre b.word) (flat_flush_line s (drop_blanks s b.spacetag b)) in
        let (n', m, f, kept, c) = before_wrap s positive b n k h in
        let fits' = fits_carried s positive (s.width + 2) (omega arith) (λ _. omega arith) b fits in
        let clean' = clean_carried Known known_space s b clean in
        rw (m, f, group_mode b.word, if_wrapped s positive (starts_pre b.word) (flat_flush_line s (drop_blanks s b.spacetag b)) n' k, c) (
          match_of b.spacetag (with_wrapped false b) n k g,
          λ _ _. line_safe (drop_blanks s b.spacetag b).line,
          λ fuel. writes_of fuel (block_of s n' k d) (d.line, refl) kept,
          hard_of_lem (carry_on s d) n' k fits'.1 clean'.2,
        )

    -- the two blocks side by side, and what holds of the flat one
    abbrev Sound : Block → WrappedBlock → Type 0
    Sound b r = Like s b r × Fit b

    word_of : (b : Block) (r : WrappedBlock) → Sound b r → FlushWordSafe r
    unfolding FlushWordSafe left
    word_of b r ((n, e, h, g), fit) =
        rw e (λ _. (
          fit.0.1,
          λ _ t. some_tag b.wslen b.spacetag (pending_carried b.wslen b.spacetag h) (ltb-true 0 b.wslen t),
          λ _. wrap_of b n (columns b.word) h g fit,
        ))

    word_on : (b : Block) (r : WrappedBlock) → Sound b r → Match Sound (flat_flush_word s b) (flush_word r)
    word_on b r ((n, e, h, g), (fits, clean)) =
        rw e
        (match_and (Like s) Fit (flat_flush_word s b) _ (word_same s positive b n h g)
        (good_both (BlockWithin s (s.width + 2)) (Clean Known known_space s) (flat_flush_word s b) (fits_word s positive (s.width + 2) (omega arith) (λ _. omega arith) b fits) (clean_word Known known_space s b clean)))

    -- the open line of such a block
    sound_lined : (b : Block) (r : WrappedBlock) → Sound b r → Lined r
    sound_lined b r ((n, e, h, g), fit) = (b.line, ap (λ (x : WrappedBlock). x.line) e)

    -- ---- `add_text`

    tabs_of : (fuel : ℕ) (t : Tag) (pos : ℕ) (one : Bool) (self : WrappedBlock) → Lined self → TabLoopSafe fuel t pos one self
    unfolding TabLoopSafe
    tabs_of zero t pos one self d = tt
    tabs_of (suc fuel) t pos one self d =
        λ _. (
          λ _. (λ _ _. lined_safe self d, tabs_of fuel t 0 one (flush_line self) (lined_flush self d)),
          λ _. tabs_of fuel t (pos + 1) true (set_line (push_char self.line 0x20 t) self) (flat_push_char d.0 0x20 t, rw d.1 (push_item d.0 0x20 t)),
        )

    abbrev SoundW : Walk → Text → Type 0
    SoundW w v = LikeW s w v × Fit w.block

    blank_of : (m : Mode) (c : ℕ) (b : Block) (self : WrappedBlock) (a : ℕ) → Sound b self → BlankSafe m c (at-text self a)
    unfolding BlankSafe
    blank_of m c b self a h =
        λ _. (
          λ _. (word_of b self h, match_good Sound NewlineSafe (flat_flush_word s b) _ (word_on b self h) (λ d r k _. lined_safe r (sound_lined d r k))),
          λ _ _. (word_of b self h, match_good Sound (TabSafe (tag a m)) (flat_flush_word s b) _ (word_on b self h) (λ d r k fuel. tabs_of fuel (tag a m) _ false r (sound_lined d r k))),
        )

    char_of : (m : Mode) (c : ℕ) (w : Walk) (v : Text) → SoundW w v → AddCharSafe m c v
    unfolding AddCharSafe
    char_of m c w v ((n, e, h, g), fit) =
        let b = w.block in
        let x = is_wordbreak_point c && ltb 0 (columns b.word) && not (is_pre m) in
        let self = block_of s n (columns b.word) b in
        let k : Sound b self = ((n, refl, h, g), fit) in
        rw e (
          λ _. word_of b self k,
          match_good Sound _ (if x then flat_flush_word s b else good b) (if x then flush_word self else good self)
              (by_both (Match Sound) x x refl (λ _. word_on b self k) (λ _. k)) (λ d r i _ _. blank_of m c d r w.ann i),
        )

    step_on : (m : Mode) (main wrap c : ℕ) (w : Walk) (v : Text) → SoundW w v → Match SoundW (step s m main wrap c w) (add_char m main wrap c v)
    step_on m main wrap c w v (like, (fits, clean)) =
        match_and (LikeW s) (λ (x : Walk). Fit x.block) (step s m main wrap c w) _ (step_same s positive m main wrap c w v like)
        (good_both (λ (x : Walk). BlockWithin s (s.width + 2) x.block) (λ (x : Walk). Clean Known known_space s x.block) (step s m main wrap c w)
        (fits_step s positive (s.width + 2) (omega arith) (λ _. omega arith) m main wrap c w fits) (clean_step Known known_space s m main wrap c w (brought c) clean))
      where
        brought : (c : ℕ) → Brought Known (width_of c) c
        brought c n e t = rw e tt

    chars_of : (m : Mode) (main wrap : ℕ) (cs : List ℕ) (w : Walk) (v : Text) → SoundW w v → AddCharsSafe m main wrap cs v
    unfolding AddCharsSafe
    chars_of m main wrap [] w v h = tt
    chars_of m main wrap (c ∷ cs) w v h =
        (char_of m c w v h, match_good SoundW _ (step s m main wrap c w) _ (step_on m main wrap c w v h) (λ x y k. chars_of m main wrap cs x y k))

    -- ---- the fields, and the job

    field_of : (f : JobField) (b : Block) (r : WrappedBlock) → Sound b r → AddFieldSafe f r
    unfolding AddFieldSafe AddTextSafe
    field_of (text m a c t) b r ((n, e, h, g), fit) =
        rw e (chars_of m a c (chars_or (chars t)) (walk b (if b.pre_wrapped then c else a)) _ ((n, refl, h, g), fit))
    field_of (fragment n) b r h = tt
    field_of wrong b r h = tt

    field_on : (f : JobField) (b : Block) (r : WrappedBlock) → Sound b r → Match Sound (flat_add_field s f b) (add_field f r)
    field_on f b r (like, (fits, clean)) =
        match_and (Like s) Fit (flat_add_field s f b) _ (field_same s positive f b r like)
        (good_both (BlockWithin s (s.width + 2)) (Clean Known known_space s) (flat_add_field s f b) (fits_field s positive (s.width + 2) (omega arith) (λ _. omega arith) f b fits) (clean_field Known known_space s f b (brings f) clean))
      where
        all_brought : (cs : List ℕ) → Every (λ (c : ℕ). Brought Known (width_of c) c) cs
        all_brought [] = tt
        all_brought (c ∷ cs) = ((λ n e t. rw e tt), all_brought cs)

        brings : (f : JobField) → Brings Known f
        brings (text m a c t) = all_brought (chars_or (chars t))
        brings (fragment n) = tt
        brings wrong = tt

    fields_of_lem : (fs : List JobField) (b : Block) (r : WrappedBlock) → Sound b r → AddFieldsSafe fs r
    unfolding AddFieldsSafe
    fields_of_lem [] b r h = tt
    fields_of_lem (f ∷ fs) b r h =
        (field_of f b r h, match_good Sound _ (flat_add_field s f b) _ (field_on f b r h) (λ c q k. fields_of_lem fs c q k))

    fields_on : (fs : List JobField) (b : Block) (r : WrappedBlock) → Sound b r → Match Sound (flat_add_fields s fs b) (add_fields fs r)
    unfolding flat_add_fields add_fields
    fields_on [] b r h = h
    fields_on (f ∷ fs) b r h =
        match_bind Sound Sound (flat_add_field s f b) (add_field f r) _ _ (field_on f b r h) (λ c q k. fields_on fs c q k)

    end_of : (b : Block) (r : WrappedBlock) → Sound b r → IntoLinesSafe r
    unfolding IntoLinesSafe
    end_of b r h =
        (word_of b r h, match_good Sound FlushLineSafe (flat_flush_word s b) _ (word_on b r h) (λ d q k _ _. lined_safe q (sound_lined d q k)))

    -- a word without text that is taken leaves a block as sound as before
    taken_of : (x : Bool) (b : Block) (r : WrappedBlock) → is_empty r.word ≡ x → Sound b r → IntoLinesSafe (if x then set_word line_new r else r)
    unfolding is_empty columns group
    taken_of true b r e ((n, k, h, g), (fits, clean)) =
        let empty = sym (group_content b.word) ∙ sym (ap (λ (q : WrappedBlock). is_empty q.word) k) ∙ e in
        let none_left : columns b.word ≡ 0 = no_text b.word (not-true (has_text b.word) empty) in
        end_of (with_word [] b) (set_word line_new r) (
          (0, ap (set_word line_new) k ∙ ap (λ (m : ℕ). block_of s 0 m (with_word [] b)) none_left, h, omega arith),
          (fits, (clean.0, clean.1, tt)),
        )
    taken_of false b r e h = end_of b r h

    wrapping_of : (b : Block) (r : WrappedBlock) → Sound b r → FlushWrappingSafe r
    unfolding FlushWrappingSafe trailing_taken
    wrapping_of b r h = taken_of (is_empty r.word) b r refl h

    block_safe : (fs : List JobField) → FlushedBlockSafe s fs
    unfolding FlushedBlockSafe new new-block columns group
    block_safe fs =
        let r = new-block s.width s.pad s.overflow s.annotation in
        let start : Sound new r = ((0, refl, refl, omega arith), ((tt, omega arith), (tt, tt, tt))) in
        (fields_of_lem fs new r start, match_good Sound FlushWrappingSafe (flat_add_fields s fs new) _ (fields_on fs new r start) wrapping_of)

-- ---- THE STATEMENT

-- NO PANIC: a job that passes 1 to 4 runs, to its end or to TooNarrow, without a difference below 0, an `unwrap` of None, a part of a
-- string past its end or a failed assertion.
pub no_panic : (job : List ℕ) (s : Setup) → setup_of job ≡ some s → job_refusal job ≡ 0 → FlushedBlockSafe s (fields_of job)
no_panic job s e p = block_safe s (passes_wide (fields_of job) s (refusal_at job s e p)) (fields_of job)
