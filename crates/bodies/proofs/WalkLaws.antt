-- Laws of the walks over lines.
-- Assumes nothing.
use mathlib.Core.Path.{◌≡◌, refl, sym, ap, ap₂, ◌∙◌}
use mathlib.Core.Bool.{Bool, true, false, not, ◌||◌}
use mathlib.Core.Option.{some}
use mathlib.Core.List.{List, [], ◌∷◌, ◌++◌, append-nil, append_assoc}
use Prim.Native.Nat.{ℕ, suc, ◌+◌, ◌-◌, ◌*◌, ◌≤◌, ◌<◌}
use native.Mathlib.Omega.{arith}
use lib.Dec.{eqb, leb}
use lib.ListN.{length, take, drop, get_or, length-append, length-drop, drop_of_length-le}
use lib.Seq.{drop-drop, take_all}
use borrow.Author.Tests.{leb-true, le-ltb, lt-ltb, not-true}
use Rattle.std.proofs.Common.{Option as Maybe, Some, None}
use Rattle.std.proofs.lemmas.List.{length-take, length-take-le, take-take, drop-take}
use Rattle.std.specs.Prelude.{MatchOption, IfSome, if◌then◌else◌}
use Rattle.characters.proofs.Tests.{by_if, or_left, or_right, and_left, and_right, clash}
use Rattle.fields.specs.Field.{Raw, whole, broken, raws_f, raws, read_all, all}
use Rattle.fields.specs.List.{whole_of}
use Rattle.fields.specs.declared.raw.Field.{Field}
use Rattle.fields.proofs.Sizes.{raws_size}
use Rattle.fields.proofs.Readings.{read_first, read_none, read_on, read_size}
use Rattle.fields.proofs.Fields.{raws_nil, raws_cons, raws_empty}
use Rattle.fields.specs.Spans.{RenderLine, text, border, read_line}
use Rattle.rows.specs.SubRenderer.{is_border, starts_border, without_top}
use Rattle.bodies.specs.Walk.{PassesTop, PassesOnlyTop, TellsTop, LastIs, unholed, WalkedIn, Walks, Skips}
use Rattle.bodies.specs.declared.walk.Walked.{Walked}
use Rattle.bodies.proofs.LineLaws.{first_line, no_lines, none_first, line_kind, line_border, line_text, line_unholed}
use Rattle.places.proofs.BorderLaws.{broken_line}

-- ---- a first border

off : (l : RenderLine) (ls : List RenderLine) → is_border l ≡ true → without_top (l ∷ ls) ≡ ls
off (text ps) ls e = absurd (clash e refl)
off (border a segs hs) ls e = refl

stays : (l : RenderLine) (ls : List RenderLine) → is_border l ≡ false → without_top (l ∷ ls) ≡ l ∷ ls
stays (text ps) ls e = refl
stays (border a segs hs) ls e = absurd (clash refl e)

-- A first border is passed.
pub top_border : (bytes rest : List ℕ) (f : Field) → raws bytes ≡ whole_of f ∷ raws rest → (f.letter ≡ 0x4C → ⊥) → PassesTop bytes rest
top_border bytes rest f e k ls c =
    let r = first_line bytes rest f ls e c in
    let w : without_top ls ≡ r.more = ap without_top r.are ∙ off r.one r.more (line_border f.letter f.content.now r.one r.reads k) in
    rw w r.goes

-- A first text is not.
pub top_text : (bytes rest : List ℕ) (f : Field) → raws bytes ≡ whole_of f ∷ raws rest → f.letter ≡ 0x4C → PassesTop bytes bytes
top_text bytes rest f e k ls c =
    let r = first_line bytes rest f ls e c in
    let w : without_top ls ≡ ls = ap without_top r.are ∙ stays r.one r.more (line_text f.letter f.content.now r.one r.reads k) ∙ sym r.are in
    rw w c

-- No lines, no border.
pub top_none : (bytes : List ℕ) → (0 < length bytes → raws bytes ≡ broken ∷ []) → PassesTop bytes bytes
top_none bytes e ls c =
    let n : ls ≡ [] = no_lines bytes ls (none_first bytes ls e c) c in
    rw n (rw n at c)

-- a first border takes bytes
pub only_border : (bytes rest : List ℕ) (f : Field) → raws bytes ≡ whole_of f ∷ raws rest → (f.letter ≡ 0x4C → ⊥) → length rest < length bytes → PassesOnlyTop bytes rest
only_border bytes rest f e k less ls c =
    let r = first_line bytes rest f ls e c in
    ap starts_border r.are ∙ line_border f.letter f.content.now r.one r.reads k ∙ sym (lt-ltb (length rest) (length bytes) less)

-- a first text takes none, and no more do no lines
pub only_text : (bytes rest : List ℕ) (f : Field) → raws bytes ≡ whole_of f ∷ raws rest → f.letter ≡ 0x4C → PassesOnlyTop bytes bytes
only_text bytes rest f e k ls c =
    let r = first_line bytes rest f ls e c in
    ap starts_border r.are ∙ line_text f.letter f.content.now r.one r.reads k ∙ sym (le-ltb (length bytes) (length bytes) (omega arith))

pub only_none : (bytes : List ℕ) → (0 < length bytes → raws bytes ≡ broken ∷ []) → PassesOnlyTop bytes bytes
only_none bytes e ls c = ap starts_border (no_lines bytes ls (none_first bytes ls e c) c) ∙ sym (le-ltb (length bytes) (length bytes) (omega arith))

-- the first byte of bytes that are lines is the letter of the first line
tells : (x : ℕ) (bytes : List ℕ) (ls : List RenderLine) → read_all read_line (raws (x ∷ bytes)) ≡ some ls → starts_border ls ≡ not (eqb x 0x4C)
unfolding raws raws_f
tells x [] ls e = absurd (broken_line [] ls e)
tells x (h ∷ []) ls e = absurd (broken_line [] ls e)
tells x (h ∷ o ∷ rest) ls e =
    by_if (λ (rs : List Raw). read_all read_line rs ≡ some ls → starts_border ls ≡ not (eqb x 0x4C)) (leb (h * 256 + o) (length rest))
    (λ _ r.
    let f = read_first read_line _ _ ls r in
    ap starts_border f.are ∙ line_kind x (take (h * 256 + o) rest) f.one f.first)
    (λ _ r. absurd (broken_line [] ls r)) e

pub tells_by : (bytes : List ℕ) (r : Bool) → (length bytes ≡ 0 → r ≡ false) → (0 < length bytes → r ≡ not (eqb (get_or bytes 0 0) 0x4C)) → TellsTop bytes r
tells_by [] r e k ls c = e refl ∙ sym (ap starts_border (no_lines [] ls refl c))
tells_by (x ∷ bytes) r e k ls c = k (omega arith) ∙ sym (tells x bytes ls c.reads)

-- ---- fields in front of others

-- what a first field says of the bytes
record Front (bytes : List ℕ) (l : ℕ) (t : List ℕ) (rs : List Raw) : Type 0 where
  h : ℕ
  o : ℕ
  rest : List ℕ
  are : bytes ≡ l ∷ h ∷ o ∷ rest
  fits : h * 256 + o ≤ length rest
  content : t ≡ take (h * 256 + o) rest
  behind : rs ≡ raws (drop (h * 256 + o) rest)

front_of : (bytes : List ℕ) (l : ℕ) (t : List ℕ) (rs : List Raw) → raws bytes ≡ whole l t ∷ rs → Front bytes l t rs
unfolding raws raws_f
front_of [] l t rs e = absurd (let z : ◌≡◌ {A = ℕ} 0 1 = cc in omega arith)
front_of (x ∷ []) l t rs e = absurd (let z : ◌≡◌ {A = ℕ} 0 1 = cc in omega arith)
front_of (x ∷ h ∷ []) l t rs e = absurd (let z : ◌≡◌ {A = ℕ} 0 1 = cc in omega arith)
front_of (x ∷ h ∷ o ∷ rest) l t rs e = go (leb (h * 256 + o) (length rest)) refl e
  where
    go : (b : Bool) → leb (h * 256 + o) (length rest) ≡ b
        → (if b then whole x (take (h * 256 + o) rest) ∷ raws_f (suc (suc (length rest))) (drop (h * 256 + o) rest) else broken ∷ []) ≡ whole l t ∷ rs
        → Front (x ∷ h ∷ o ∷ rest) l t rs
    go true k e =
        let fits = leb-true (h * 256 + o) (length rest) k in
        let same = raws_cons x h o rest fits in
        record { h = h; o = o; rest = rest; are = cc; fits = fits; content = cc; behind = cc }
    go false k e = absurd (let z : ◌≡◌ {A = ℕ} 0 1 = cc in omega arith)

-- what one field more takes
size_snoc : (rs : List Raw) (l : ℕ) (t : List ℕ) → raws_size (rs ++ (whole l t ∷ [])) ≡ raws_size rs + (3 + length t)
size_snoc [] l t = omega arith
size_snoc (broken ∷ rs) l t = size_snoc rs l t
size_snoc (whole x u ∷ rs) l t = omega (arith, size_snoc rs l t)

broken_alone : (bytes : List ℕ) (rs : List Raw) → raws bytes ≡ broken ∷ rs → rs ≡ []
unfolding raws raws_f
broken_alone [] rs e = absurd (let z : ◌≡◌ {A = ℕ} 0 1 = cc in omega arith)
broken_alone (x ∷ []) rs e = cc
broken_alone (x ∷ h ∷ []) rs e = cc
broken_alone (x ∷ h ∷ o ∷ rest) rs e =
    by_if (λ (q : List Raw). q ≡ broken ∷ rs → rs ≡ []) (leb (h * 256 + o) (length rest))
    (λ _ k. absurd (let z : ◌≡◌ {A = ℕ} 0 1 = cc in omega arith)) (λ _ k. cc) e

-- The bytes in front of a field hold the fields before it.
front_raws : (xs : List Raw) (l : ℕ) (t : List ℕ) (ys : List Raw) (bytes : List ℕ) → raws bytes ≡ xs ++ (whole l t ∷ ys) → raws (take (raws_size xs) bytes) ≡ xs
front_raws [] l t ys bytes e = raws_nil
front_raws (broken ∷ xs) l t ys bytes e = absurd (nothing xs (broken_alone bytes (xs ++ (whole l t ∷ ys)) e))
  where
    nothing : (xs : List Raw) → xs ++ (whole l t ∷ ys) ≡ [] → ⊥
    nothing [] e = let z : ◌≡◌ {A = ℕ} 0 1 = cc in omega arith
    nothing (x ∷ xs) e = let z : ◌≡◌ {A = ℕ} 0 1 = cc in omega arith
front_raws (whole x u ∷ xs) l t ys bytes e =
    let f = front_of bytes x u (xs ++ (whole l t ∷ ys)) e in
    let n = f.h * 256 + f.o in
    let k = raws_size xs in
    let fits = f.fits in
    let size : length u ≡ n = ap length f.content ∙ length-take-le n f.rest fits in
    let m : 3 + length u + k ≡ suc (suc (suc (n + k))) = omega arith in
    let later = front_raws xs l t ys (drop n f.rest) (sym f.behind) in
    let room : n ≤ length (take (n + k) f.rest) = simp length-take (omega arith) in
    ap (λ (i : ℕ). raws (take i bytes)) m
    ∙ ap (λ (z : List ℕ). raws (take (suc (suc (suc (n + k)))) z)) f.are
    ∙ (raws_cons x f.h f.o (take (n + k) f.rest) room
    ∙ ap₂ (λ (v : List ℕ) (q : List Raw). whole x v ∷ q) (take-take n (n + k) f.rest (omega arith) ∙ sym f.content)
    (ap raws (drop-take n k f.rest) ∙ later))

-- ---- the last line

-- a field that is no border with holes
abbrev pub plain_field : Raw → Bool
plain_field broken = true
plain_field (whole l t) = not (eqb l 0x47)

-- some fields end in a field, behind those that bytes are
pub record Last (f : Field) (bytes : List ℕ) (front : List Raw) : Type 0 where
  pub earlier : List Raw
  pub are : front ≡ earlier ++ (whole_of f ∷ [])
  pub bytes_are : raws bytes ≡ earlier

-- the bytes from a place on, without the first so many
pub behind_on : (bytes rest next : List ℕ) (n : ℕ) → length rest ≤ length bytes → rest ≡ drop (length bytes - length rest) bytes → next ≡ drop n rest
    → length rest ≡ n + length next → next ≡ drop (length bytes - length next) bytes
behind_on bytes rest next n few e f size =
    let m : length bytes - length rest + n ≡ length bytes - length next = omega arith in
    f ∙ ap (drop n) e ∙ drop-drop n (length bytes - length rest) bytes ∙ ap (λ (i : ℕ). drop i bytes) m

-- all bytes
pub behind_none : (bytes : List ℕ) → bytes ≡ drop (length bytes - length bytes) bytes
behind_none bytes = let z : length bytes - length bytes ≡ 0 = omega arith in rw z refl

-- the fields passed so far, and those ahead
pub record Passed (bytes rest : List ℕ) (w : Walked) : Type 0 where
  pub front : List Raw
  pub are : raws bytes ≡ front ++ raws rest
  pub size : raws_size front + length rest ≡ length bytes
  pub shorter : length w.before.now ≤ length bytes
  pub few : w.count + length rest ≤ length bytes
  pub count_is : w.count ≡ length front
  pub plain : w.holed ≡ false → all plain_field front ≡ true
  pub last_is : MatchOption w.last (front ≡ []) (λ f. Last f w.before.now front)
  pub ahead : rest ≡ drop (length bytes - length rest) bytes
  pub first : w.before.now ≡ take (length w.before.now) bytes
  pub near : length bytes ≤ length w.before.now + 65538 + length rest
  pub inside : IfSome w.last (λ f. length w.before.now + 3 ≤ length bytes)
  pub behind : MatchOption w.last (w.before.now ≡ bytes) (λ f. raws (drop (length w.before.now) bytes) ≡ whole_of f ∷ raws rest)

-- Nothing is passed at first.
pub passed_start : (bytes : List ℕ) (w : Walked) → w.last ≡ None → w.before.now ≡ bytes → w.count ≡ 0 → w.holed ≡ false → Passed bytes bytes w
unfolding all
passed_start bytes w l b c h =
    record {
      front = [];
      are = refl;
      size = omega arith;
      shorter = omega (arith, ap length b);
      few = omega arith;
      count_is = c;
      plain = λ _. refl;
      last_is = rw l refl;
      ahead = behind_none bytes;
      first = rw b (sym (take_all (length bytes) bytes (omega arith)));
      near = omega (arith, ap length b);
      inside = rw l tt;
      behind = rw l b;
    }

-- one more
all_snoc : {A : Type 0} (p : A → Bool) (xs : List A) (x : A) → all p xs ≡ true → p x ≡ true → all p (xs ++ (x ∷ [])) ≡ true
unfolding all
all_snoc p [] x h k = rw k
all_snoc p (y ∷ xs) x h k =
    let a = and_left (p y) (all p xs) h in
    let b = all_snoc p xs x (and_right (p y) (all p xs) h) k in
    rw (a, b)

-- A field that stands next is passed.
pub passed_on : (bytes rest next : List ℕ) (f : Field) (w v : Walked) → Passed bytes rest w → raws rest ≡ whole_of f ∷ raws next
    → next ≡ drop (3 + length f.content.now) rest → length f.content.now < 65536
    → length rest ≡ 3 + length f.content.now + length next → v.last ≡ Some f → v.before.now ≡ take (length bytes - length rest) bytes → v.count ≡ w.count + 1
    → v.holed ≡ (w.holed || eqb f.letter 0x47) → Passed bytes next v
passed_on bytes rest next f w v p e behind short n l b c h =
    let front = p.front ++ (whole_of f ∷ []) in
    let room = p.size in
    let before : length bytes - length rest ≡ raws_size p.front = omega arith in
    let taken : length v.before.now ≡ length bytes - length rest = ap length b ∙ length-take-le (length bytes - length rest) bytes (omega arith) in
    let all_are : raws bytes ≡ p.front ++ (whole_of f ∷ raws next) = p.are ∙ ap (λ (z : List Raw). p.front ++ z) e in
    record {
      front = front;
      are = all_are ∙ sym (append_assoc p.front (whole_of f ∷ []) (raws next));
      size = omega (arith, size_snoc p.front f.letter f.content.now);
      shorter = rw b (simp length-take (omega arith));
      few = omega (arith, p.few);
      count_is = omega (arith, p.count_is, length-append p.front (whole_of f ∷ []));
      plain =
          λ k.
          let q : (w.holed || eqb f.letter 0x47) ≡ false = sym h ∙ k in
          all_snoc plain_field p.front (whole_of f) (p.plain (or_left w.holed (eqb f.letter 0x47) q)) (rw (or_right w.holed (eqb f.letter 0x47) q));
      ahead = behind_on bytes rest next (3 + length f.content.now) (omega arith) p.ahead behind n;
      first = b ∙ ap (λ (i : ℕ). take i bytes) (sym taken);
      near = omega (arith, taken, n, short, room);
      inside = rw l (omega (arith, taken, n, room));
      behind = rw l (ap (λ (i : ℕ). raws (drop i bytes)) taken ∙ ap raws (sym p.ahead) ∙ e);
      last_is = rw l (record { earlier = p.front; are = refl; bytes_are = rw (b, before) (front_raws p.front f.letter f.content.now (raws next) bytes all_are) });
    }

-- the lines that fields are, of which one stands last
record ReadLast (rs : List Raw) (r : Raw) (ls : List RenderLine) : Type 0 where
  before : List RenderLine
  line : RenderLine
  are : ls ≡ before ++ (line ∷ [])
  reads : read_all read_line rs ≡ some before
  line_is : read_line r ≡ some line

read_last : (rs : List Raw) (r : Raw) (ls : List RenderLine) → read_all read_line (rs ++ (r ∷ [])) ≡ some ls → ReadLast rs r ls
unfolding read_all
read_last [] r ls e =
    let f = read_first read_line r [] ls e in
    let n = read_none read_line f.more f.later in
    record { before = []; line = f.one; are = f.are ∙ ap (λ (z : List RenderLine). f.one ∷ z) n; reads = refl; line_is = f.first }
read_last (x ∷ rs) r ls e =
    let f = read_first read_line x (rs ++ (r ∷ [])) ls e in
    let q = read_last rs r f.more f.later in
    record {
      before = f.one ∷ q.before;
      line = q.line;
      are = f.are ∙ ap (λ (z : List RenderLine). f.one ∷ z) q.are;
      reads = read_on read_line x rs f.one q.before f.first q.reads;
      line_is = q.line_is;
    }

-- plain fields are lines without holes
plain_lines : (rs : List Raw) (ls : List RenderLine) → read_all read_line rs ≡ some ls → all plain_field rs ≡ true → all unholed ls ≡ true
unfolding all
plain_lines [] ls e h = rw (read_none read_line ls e)
plain_lines (broken ∷ rs) ls e h = absurd (broken_line rs ls e)
plain_lines (whole l t ∷ rs) ls e h =
    let f = read_first read_line (whole l t) rs ls e in
    let a = line_unholed l t f.one f.first (not-true (eqb l 0x47) (and_left (not (eqb l 0x47)) (all plain_field rs) h)) in
    let b = plain_lines rs f.more f.later (and_right (not (eqb l 0x47)) (all plain_field rs) h) in
    rw (f.are, a, b)

last_of : (last : Maybe Field) (bytes : List ℕ) (front : List Raw) (ls : List RenderLine) → read_all read_line front ≡ some ls
    → MatchOption last (front ≡ []) (λ f. Last f bytes front) → MatchOption last (ls ≡ []) (λ f. LastIs f bytes ls)
last_of None bytes front ls e h = read_none read_line ls (rw h at e)
last_of (Some f) bytes front ls e h =
    let q = read_last h.earlier (whole_of f) ls (rw h.are at e) in
    record { before = q.before; line = q.line; are = q.are; before_in = record { reads = rw h.bytes_are q.reads }; line_is = q.line_is }

-- All fields are passed.
pub passed_end : (bytes rest : List ℕ) (w : Walked) → Passed bytes rest w → length rest ≡ 0 → Walks bytes w
passed_end bytes rest w p h ls c =
    let all_are : raws bytes ≡ p.front = p.are ∙ ap (λ (z : List Raw). p.front ++ z) (raws_empty rest h) ∙ append-nil p.front in
    let reads : read_all read_line p.front ≡ some ls = rw all_are at c.reads in
    record {
      last_is = last_of w.last w.before.now p.front ls reads p.last_is;
      count_is = p.count_is ∙ read_size read_line p.front ls reads;
      plain = λ k. plain_lines p.front ls reads (p.plain k);
    }

-- the numbers of a walk
there : (last : Maybe Field) (bytes : List ℕ) (front : List Raw) (n : ℕ) → n ≡ length front → MatchOption last (front ≡ []) (λ f. Last f bytes front) → IfSome last (λ f. 1 ≤ n)
there None bytes front n c h = tt
there (Some f) bytes front n c h = omega (arith, ap length h.are, length-append h.earlier (whole_of f ∷ []))

alone : (last : Maybe Field) (before bytes rest : List ℕ) → length rest ≡ 0 → MatchOption last (before ≡ bytes) (λ f. raws (drop (length before) bytes) ≡ whole_of f ∷ raws rest)
    → MatchOption last (before ≡ bytes) (λ f. raws (drop (length before) bytes) ≡ whole_of f ∷ [])
alone None before bytes rest n h = h
alone (Some f) before bytes rest n h = h ∙ ap (λ (z : List Raw). whole_of f ∷ z) (raws_empty rest n)

pub passed_numbers : (bytes rest : List ℕ) (w : Walked) → Passed bytes rest w → length rest ≡ 0 → WalkedIn bytes w
passed_numbers bytes rest w p n =
    record {
      few = omega (arith, p.few);
      shorter = p.shorter;
      there = there w.last w.before.now p.front w.count p.count_is p.last_is;
      front = p.first;
      near = omega (arith, p.near, n);
      inside = p.inside;
      behind = alone w.last w.before.now bytes rest n p.behind;
    }

-- Without a last line the bytes before it are all.
pub passed_nothing : (bytes : List ℕ) (w : Walked) → w.last ≡ None → w.before.now ≡ bytes → w.count ≤ length bytes → WalkedIn bytes w
passed_nothing bytes w l b few =
    record {
      few = few;
      shorter = omega (arith, ap length b);
      there = rw l tt;
      front = rw b (sym (take_all (length bytes) bytes (omega arith)));
      near = omega (arith, ap length b);
      inside = rw l tt;
      behind = rw l b;
    }

broken_last : (rs : List Raw) (ls : List RenderLine) → read_all read_line (rs ++ (broken ∷ [])) ≡ some ls → ⊥
unfolding read_all
broken_last rs ls e = let q = read_last rs broken ls e in broken_line [] (q.line ∷ []) (read_on read_line broken [] q.line [] q.line_is refl)

-- A rest that is no field is left.
pub passed_broken : (bytes rest : List ℕ) (w v : Walked) → Passed bytes rest w → (length rest ≡ 0 → ⊥) → (0 < length rest → raws rest ≡ broken ∷ []) → Walks bytes v
passed_broken bytes rest w v p h e ls c =
    let all_are : raws bytes ≡ p.front ++ (broken ∷ []) = p.are ∙ ap (λ (z : List Raw). p.front ++ z) (e (omega arith)) in
    absurd (broken_last p.front ls (rw all_are at c.reads))

-- ---- the lines from a number on

-- No line is skipped.
pub skip_start : (bytes : List ℕ) → Skips bytes 0 bytes
skip_start bytes ls c = c

-- One more is.
pub skip_on : (bytes rest next : List ℕ) (f : Field) (i : ℕ) → Skips bytes i rest → raws rest ≡ whole_of f ∷ raws next → Skips bytes (i + 1) next
skip_on bytes rest next f i inv e ls c =
    let r = first_line rest next f (drop i ls) e (inv ls c) in
    let d : drop (i + 1) ls ≡ r.more = sym (drop-drop 1 i ls) ∙ ap (drop 1) r.are in
    rw d r.goes

-- All are.
pub skip_all : (bytes rest : List ℕ) (i n : ℕ) → Skips bytes i rest → i ≤ n → (0 < length rest → raws rest ≡ broken ∷ []) → Skips bytes n rest
skip_all bytes rest i n inv k e ls c =
    let q = inv ls c in
    let none : drop i ls ≡ [] = no_lines rest (drop i ls) (none_first rest (drop i ls) e q) q in
    let d : drop n ls ≡ [] = (let m : length ls ≤ n = omega (arith, ap length none, length-drop i ls) in drop_of_length-le ls m) in
    rw d (rw none at q)
