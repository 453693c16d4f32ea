-- Where the Rust would panic and the definitions do not: what a call needs so that no difference of `usize` goes below 0, no `unwrap`
-- is of None, no part of a string reaches past its end and the assertion of `TaggedLine::width` holds. One predicate for each method
-- that does such a thing or calls one that does: it says what the method itself needs and then, along the branch that the method takes
-- and with the same states, what the methods that it calls need. `Panics` of proofs/ proves it of every job that passes 1 to 4.
-- Assumes nothing: these are definitions.
--
-- These need no predicate, since a test of the Rust stands before them: `lineleft -= c_w` (`walk`), `self.wslen -= space_in_line` and the
-- `unwrap` of a blank's tag in Pre (`at_wrap`), `width - my_width` (`pad_to`). `w.saturating_sub(wpos)` (`put_rest`) stops at 0 in the
-- Rust too. Sums are not asked about. A loop is asked for any fuel, so for any number of turns; after `?` only a good result goes on.
use Rattle.std.specs.Prelude.{◌≡◌, ℕ, zero, suc, ◌+◌, ◌-◌, ◌%◌, ◌≤◌, min, Bool, true, false, not, ◌&&◌, ◌||◌, List, [], ◌∷◌, length, take, drop, ◌==◌, nat_le, nat_lt, if◌then◌else◌}
use Rattle.std.proofs.Math.Option.{Option, none, some}
use Rattle.characters.specs.Columns.{width_of, cols, str_width}
use Rattle.characters.specs.Whitespace.{always_takes_space, is_wordbreak_point}
use Rattle.characters.specs.Utf8.{chars}
use Rattle.fields.specs.Job.{Mode, normal, pre, pre_wrap, JobField, text, fragment, wrong}
use Rattle.fields.specs.declared.job.Setup.{Setup}
use Rattle.block.specs.Tag.{Tag, tag, is_pre, keeps_space}
use Rattle.block.specs.Result.{good, OnGood}
use Rattle.block.specs.TaggedLine.{TaggedString, Element, Str, FragmentStart, tagged, TaggedLine, line_new, is_empty, push, push_ws, push_char, line_width, trim_start, trim_end, backwards}
use Rattle.block.specs.WrappedBlock.{WrappedBlock, set_line, set_spacetag, set_word, set_pre_wrapped, unwrap, flush_line, Walked, walk, Hard, split_at, split_piece, put_rest, at_start, first_mode, match_spacetag, write_one, write_remaining, flush_word, trailing_taken, Text, text as at-text, add_char, new}
use Rattle.block.specs.Answer.{chars_or, add_field, add_fields}

-- there is something to `unwrap`
abbrev pub IsSome : {A : Type 0} → Option A → Type 0
IsSome none = ⊥
IsSome (some a) = Unit {0}

-- ---- `TaggedLine`

-- `width`: `debug_assert_eq!(self.len, result)`
abbrev pub WidthSafe : TaggedLine Tag → Type 0
WidthSafe l = l.len ≡ line_width l

-- `remove_leading_whitespace`, from an element on: `piece.s.len() - tlen`, `orig_width - new_width`, `self.len -= width_removed`
unfoldable pub WithoutFrontSafe : List (Element Tag) → ℕ → Type 0
WithoutFrontSafe [] len = Unit {0}
WithoutFrontSafe (FragmentStart n ∷ v) len = Unit {0}
WithoutFrontSafe (Str piece ∷ v) len =
    let trimmed = trim_start piece.s in
    let tlen = length trimmed in
    let toffset = length piece.s - tlen in
    (tlen ≤ length piece.s)
    × ((toffset == 0) ≡ false → (tlen == 0) ≡ true → (str_width piece.s ≤ len) × WithoutFrontSafe v (len - str_width piece.s))
    × ((toffset == 0) ≡ false → (tlen == 0) ≡ false
    → (str_width trimmed ≤ str_width piece.s) × (str_width piece.s - str_width trimmed ≤ len))

-- `remove_leading_whitespace`
abbrev pub RemoveLeadingWhitespaceSafe : TaggedLine Tag → Type 0
RemoveLeadingWhitespaceSafe l = WithoutFrontSafe l.v l.len

-- `remove_trailing_spaces`, the last element first: `self.len -= piece.width()`, `self.len -= piece.width() - trimmed.width()`
unfoldable pub WithoutEndSafe : List (Element Tag) → ℕ → Type 0
WithoutEndSafe [] len = Unit {0}
WithoutEndSafe (FragmentStart n ∷ v) len = Unit {0}
WithoutEndSafe (Str piece ∷ v) len =
    let trimmed = trim_end piece.s in
    let tlen = length trimmed in
    ((tlen == 0) ≡ true → (str_width piece.s ≤ len) × WithoutEndSafe v (len - str_width piece.s))
    × ((tlen == 0) ≡ false → (tlen == length piece.s) ≡ false
    → (str_width trimmed ≤ str_width piece.s) × (str_width piece.s - str_width trimmed ≤ len))

-- `remove_trailing_spaces`
abbrev pub RemoveTrailingSpacesSafe : TaggedLine Tag → Type 0
RemoveTrailingSpacesSafe l = WithoutEndSafe (backwards l.v) l.len

-- ---- `force_flush_line`, `flush_line`

-- `force_flush_line`: `pad_to` asks for the line's `width`
abbrev pub ForceFlushLineSafe : WrappedBlock → Type 0
ForceFlushLineSafe self = self.pad_blocks ≡ true → WidthSafe self.line

-- `flush_line`
abbrev pub FlushLineSafe : WrappedBlock → Type 0
FlushLineSafe self = not (is_empty self.line) ≡ true → ForceFlushLineSafe self

-- ---- `flush_word_hard_wrap`

-- `for (idx, c) in piece.s[bpos..].char_indices()`: `UnicodeWidthChar::width(c).unwrap()`, `self.line.width()`
unfoldable pub WalkSafe : WrappedBlock → List ℕ → ℕ → ℕ → Type 0
WalkSafe self [] idx lineleft = Unit {0}
WalkSafe self (c ∷ s) idx lineleft =
    IsSome (width_of c)
    × (nat_le (cols c) lineleft ≡ true → WalkSafe self s (suc idx) (lineleft - cols c))
    × (nat_le (cols c) lineleft ≡ false → (idx == 0) ≡ true → WidthSafe self.line)

-- the end of the body of `while w - wpos > lineleft`: `piece.s[bpos..bpos + split_idx]`
unfoldable pub SplitAtSafe : TaggedString Tag → Hard → Walked → Type 0
SplitAtSafe piece h k =
    let part = take k.split_idx (drop h.bpos piece.s) in
    (h.bpos + k.split_idx ≤ length piece.s)
    × ForceFlushLineSafe (set_line (push h.self.line (Str (tagged part piece.tag))) h.self)

-- `while w - wpos > lineleft`, so many turns at most: `w - wpos`, `piece.s[bpos..]`
unfoldable pub SplitPieceSafe : ℕ → TaggedString Tag → Hard → Type 0
SplitPieceSafe zero piece h = Unit {0}
SplitPieceSafe (suc fuel) piece h =
    let w = str_width piece.s in
    let rest = drop h.bpos piece.s in
    (h.wpos ≤ w)
    × (nat_lt h.lineleft (w - h.wpos) ≡ true
    → (h.bpos ≤ length piece.s)
    × WalkSafe h.self rest 0 h.lineleft
    × OnGood (λ k. SplitAtSafe piece h k × SplitPieceSafe fuel piece (split_at piece h k)) (walk h.self rest 0 h.lineleft h.wpos))

-- what comes after that loop: `lineleft -= w`, `lineleft -= w.saturating_sub(wpos)`
unfoldable pub PutRestSafe : TaggedString Tag → Hard → Type 0
PutRestSafe piece h =
    let w = str_width piece.s in
    ((h.bpos == 0) ≡ true → w ≤ h.lineleft)
    × ((h.bpos == 0) ≡ false → nat_lt h.bpos (length piece.s) ≡ true → w - h.wpos ≤ h.lineleft)

-- `for element in self.word.remove_items()`
unfoldable pub HardWrapElementsSafe : List (Element Tag) → Hard → Type 0
HardWrapElementsSafe [] h = Unit {0}
HardWrapElementsSafe (FragmentStart n ∷ v) h = HardWrapElementsSafe v h
HardWrapElementsSafe (Str piece ∷ v) h =
    ((fuel : ℕ) → SplitPieceSafe fuel piece (at_start h))
    × OnGood (λ k. PutRestSafe piece k × HardWrapElementsSafe v (put_rest piece k)) (split_piece (suc (length piece.s)) piece (at_start h))

-- `flush_word_hard_wrap`: `self.width - self.line.len`
unfoldable pub FlushWordHardWrapSafe : WrappedBlock → Type 0
FlushWordHardWrapSafe self =
    (self.line.len ≤ self.width)
    × HardWrapElementsSafe self.word.v
    (record { self = set_word line_new self; lineleft = self.width - self.line.len; wpos = 0; bpos = 0 })

-- ---- `flush_word`

-- "Got enough space": `self.spacetag.take().unwrap()`
abbrev pub GotSpaceSafe : WrappedBlock → Type 0
GotSpaceSafe self = nat_lt 0 self.wslen ≡ true → IsSome self.spacetag

-- "Not enough space", by the mode of the last blank
abbrev pub AtWrapSafe : Mode → WrappedBlock → Type 0
AtWrapSafe pre self = Unit {0}
AtWrapSafe normal self = Unit {0}
AtWrapSafe pre_wrap self = RemoveLeadingWhitespaceSafe self.word × RemoveTrailingSpacesSafe self.line

-- `match self.spacetag`
abbrev pub MatchSpacetagSafe : Option Tag → WrappedBlock → Type 0
MatchSpacetagSafe none self = Unit {0}
MatchSpacetagSafe (some t) self = AtWrapSafe t.mode self

-- "Write any remaining whitespace": `self.spacetag.as_ref().unwrap()`, `self.wslen -= to_copy`
unfoldable pub WriteOneSafe : WrappedBlock → Type 0
WriteOneSafe self =
    let to-copy = min self.wslen self.width in
    let put = set_line (push_ws self.line to-copy (unwrap self.spacetag)) self in
    IsSome self.spacetag × ((to-copy == self.width) ≡ true → FlushLineSafe put) × (to-copy ≤ self.wslen)

-- `while self.wslen > 0`, so many turns at most
unfoldable pub WriteRemainingSafe : ℕ → WrappedBlock → Type 0
WriteRemainingSafe zero self = Unit {0}
WriteRemainingSafe (suc fuel) self = nat_lt 0 self.wslen ≡ true → WriteOneSafe self × WriteRemainingSafe fuel (write_one self)

-- "Not enough space"
unfoldable pub NotEnoughSpaceSafe : Mode → ℕ → WrappedBlock → Type 0
NotEnoughSpaceSafe ws-mode space-in-line self =
    let matched = match_spacetag space-in-line self.spacetag self in
    let flushed = flush_line matched in
    let wrapped = if is_pre ws-mode then set_pre_wrapped true flushed else flushed in
    MatchSpacetagSafe self.spacetag self
    × FlushLineSafe matched
    × ((fuel : ℕ) → WriteRemainingSafe fuel wrapped)
    × FlushWordHardWrapSafe (set_spacetag none (write_remaining wrapped.wslen wrapped))

-- `flush_word`: `self.width - self.line.len`, where the word has text
unfoldable pub FlushWordSafe : WrappedBlock → Type 0
FlushWordSafe self =
    let ws-mode = first_mode self.word.v in
    let not-wrapped = set_pre_wrapped false self in
    let space-in-line = self.width - self.line.len in
    let space-needed = self.wslen + self.wordlen in
    not (is_empty self.word) ≡ true
    → (self.line.len ≤ self.width)
    × (nat_le space-needed space-in-line ≡ true → GotSpaceSafe not-wrapped)
    × (nat_le space-needed space-in-line ≡ false → NotEnoughSpaceSafe ws-mode space-in-line not-wrapped)

-- ---- `add_text`

-- '\n'
abbrev pub NewlineSafe : WrappedBlock → Type 0
NewlineSafe self = ForceFlushLineSafe self

-- '\t', so many turns at most
unfoldable pub TabLoopSafe : ℕ → Tag → ℕ → Bool → WrappedBlock → Type 0
TabLoopSafe zero t pos at-least-one-space self = Unit {0}
TabLoopSafe (suc fuel) t pos at-least-one-space self =
    (not (pos % 8 == 0) || not at-least-one-space) ≡ true
    → (nat_le self.width pos ≡ true → FlushLineSafe self × TabLoopSafe fuel t 0 at-least-one-space (flush_line self))
    × (nat_le self.width pos ≡ false → TabLoopSafe fuel t (pos + 1) true (set_line (push_char self.line 0x20 t) self))

-- '\t'
abbrev pub TabSafe : Tag → WrappedBlock → Type 0
TabSafe t self = (fuel : ℕ) → TabLoopSafe fuel t (self.line.len + self.wordlen + self.wslen) false self

-- white space but for U+00A0, by the mode
unfoldable pub BlankSafe : Mode → ℕ → Text → Type 0
BlankSafe ws-mode c w =
    let self = w.self in
    let t = tag w.tag ws-mode in
    keeps_space ws-mode ≡ true
    → ((c == 0x0A) ≡ true → FlushWordSafe self × OnGood NewlineSafe (flush_word self))
    × ((c == 0x0A) ≡ false → (c == 0x09) ≡ true → FlushWordSafe self × OnGood (TabSafe t) (flush_word self))

-- one character
unfoldable pub AddCharSafe : Mode → ℕ → Text → Type 0
AddCharSafe ws-mode c w =
    let breaks = is_wordbreak_point c && nat_lt 0 w.self.wordlen && not (is_pre ws-mode) in
    (breaks ≡ true → FlushWordSafe w.self)
    × OnGood (λ self. (c == 0x200B) ≡ false → not (always_takes_space c) ≡ true → BlankSafe ws-mode c (at-text self w.tag))
    (if breaks then flush_word w.self else good w.self)

-- `for c in text.chars()`
unfoldable pub AddCharsSafe : Mode → ℕ → ℕ → List ℕ → Text → Type 0
AddCharsSafe ws-mode main-tag wrap-tag [] w = Unit {0}
AddCharsSafe ws-mode main-tag wrap-tag (c ∷ cs) w =
    AddCharSafe ws-mode c w × OnGood (λ v. AddCharsSafe ws-mode main-tag wrap-tag cs v) (add_char ws-mode main-tag wrap-tag c w)

-- `add_text`
unfoldable pub AddTextSafe : List ℕ → Mode → ℕ → ℕ → WrappedBlock → Type 0
AddTextSafe cs ws-mode main-tag wrap-tag self =
    AddCharsSafe ws-mode main-tag wrap-tag cs (at-text self (if self.pre_wrapped then wrap-tag else main-tag))

-- ---- `into_lines`, `flush_wrapping`, and the call

-- `flush`, `into_lines`
unfoldable pub IntoLinesSafe : WrappedBlock → Type 0
IntoLinesSafe self = FlushWordSafe self × OnGood FlushLineSafe (flush_word self)

-- `flush_wrapping`: `into_lines` of the block that `take_trailing_fragments` leaves, which does nothing that can panic
unfoldable pub FlushWrappingSafe : WrappedBlock → Type 0
FlushWrappingSafe self = IntoLinesSafe (trailing_taken self)

-- a field of the job
unfoldable pub AddFieldSafe : JobField → WrappedBlock → Type 0
AddFieldSafe (text m a c t) b = AddTextSafe (chars_or (chars t)) m a c b
AddFieldSafe (fragment n) b = Unit {0}
AddFieldSafe wrong b = Unit {0}

-- the fields in order
unfoldable pub AddFieldsSafe : List JobField → WrappedBlock → Type 0
AddFieldsSafe [] b = Unit {0}
AddFieldsSafe (f ∷ fs) b = AddFieldSafe f b × OnGood (λ c. AddFieldsSafe fs c) (add_field f b)

-- the whole run
unfoldable pub FlushedBlockSafe : Setup → List JobField → Type 0
FlushedBlockSafe s fs =
    let b = new s.width s.pad s.overflow s.annotation in
    AddFieldsSafe fs b × OnGood FlushWrappingSafe (add_fields fs b)
