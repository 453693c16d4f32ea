-- White space off a word's front, spaces off a line's end and the mode of a word's first text, over plain lists.
-- Assumes nothing.
use mathlib.Core.Path.{◌≡◌, refl, sym, ap, ◌∙◌}
use mathlib.Core.Bool.{Bool, true, false, ◌&&◌, and-false}
use mathlib.Core.Option.{Option, none, some}
use mathlib.Core.List.{List, [], ◌∷◌, ◌++◌, map}
use mathlib.Core.Logic.{inl}
use Prim.Native.Nat.{ℕ, zero, suc, ◌+◌, ◌-◌, ◌/◌, ◌%◌, ◌<◌, ◌≤◌}
use native.Mathlib.Omega.{arith}
use borrow.Author.Tests.{lt-ltb, le-ltb, eq-eqb, ne_eqb, eqb-true}
use denote.Enum.Bare.{sameb}
use lib.Dec.{ltb, leb, eqb}
use lib.ListN.{length, take, drop, get_or, length-append, length-drop, length-map, drop_of_length-le}
use lib.Seq.{drop-drop, length-take-le}
use Rattle.std.specs.Prelude.{Option as Found, Some, None, if◌then◌else◌}
use Rattle.std.specs.List.{find}
use Rattle.std.proofs.lemmas.List.{drop-map, get_or-drop}
use Rattle.characters.specs.Utf8.{utf8, char as first_char, decode_of, Scalar}
use Rattle.characters.specs.Whitespace.{is_whitespace}
use Rattle.std.specs.Prelude as rust
use Rattle.characters.specs.declared.utf8.Char.{Char}
use Rattle.characters.proofs.Tests.{by_if}
use Rattle.characters.proofs.RoundTrip.{same_char, decode_complete}
use Rattle.fields.specs.Job.{Mode, normal, pre, pre_wrap}
use Rattle.fields.specs.declared.job.Setup.{Setup}
use Rattle.fields.proofs.Texts.{rest as part_rest}
use Rattle.block.specs.Tag.{Tag, is_pre}
use Rattle.block.specs.Flat.{Line, char, name, columns, trim_front, keep_last, trim_back, Block, left, flat_at_wrap, drop_blanks, starts_pre}
use Rattle.block.proofs.Width.{cols_space}
use Rattle.lines.specs.Items.{Item, item, byte_of, tag_of, mark_tag, name_tag}
use Rattle.lines.specs.Bridge.{num, tagged, enc, Valid}
use Rattle.lines.proofs.Buffers.{drop_tagged}
use Rattle.lines.proofs.Encoded.{utf8_some, utf8_pos, num_small, enc_none}
use Rattle.hard_wrap.specs.declared.line.OpenLine.{OpenLine}
use Rattle.flush_word.specs.Modes.{TagMode}
use Rattle.flush_word.specs.Trims.{White, TrimsFront, TrimsBack, Trimmed, TrimsLine}
use Rattle.flush_word.specs.Keep.{Pends, StartsPre, StartsAt}
use Rattle.flush_word.specs.declared.state.Blanks.{Blanks}
use Rattle.flush_word.specs.contracts.white_space.WhiteSpace.{the_type}
use Rattle.flush_word.specs.declared.white_space.WhiteSpace.{WhiteSpace}
use Rattle.flush_word.specs.declared.white_space.WhiteSpace.TheVariants.{Pre, PreWrap}
use Rattle.flush_word.proofs.Modes.{same_pre, wrap_mode}

-- ---- the first character

module _ (part : List ℕ) where
  decoded : (c : ℕ) (rest : List ℕ) → Scalar c → part ≡ utf8 c ++ rest → decode_of part ≡ first_char c (length (utf8 c))
  decoded c rest v e = rw e (decode_complete c v rest)

  module _ (code len : ℕ) (d : decode_of part ≡ first_char code len) where
    pub white_is : is_whitespace code ≡ true → White part len
    white_is w = λ c rest v f.
        let g : first_char code len ≡ first_char c (length (utf8 c)) = sym d ∙ decoded c rest v f in
        let x : code ≡ c = (same_char g).0 in
        let y : len ≡ length (utf8 c) = (same_char g).1 in
        rw (← x, w, x) y

    pub white_not : is_whitespace code ≡ false → White part 0
    white_not w = λ c rest v f.
        let g : first_char code len ≡ first_char c (length (utf8 c)) = sym d ∙ decoded c rest v f in
        let x : code ≡ c = (same_char g).0 in
        rw (← x, w)

  pub white_bad : decode_of part ≡ rust.None → White part 0
  white_bad d = λ c rest v f.
      let g : ◌≡◌ {A = rust.Option Char} rust.None (first_char c (length (utf8 c))) = sym d ∙ decoded c rest v f in
      absurd (let z : ◌≡◌ {A = ℕ} 0 1 = cc in omega arith)

-- ---- the front

bytes_tagged : (t : ℕ) (bs : List ℕ) (l : List Item) → map byte_of (tagged t bs ++ l) ≡ bs ++ map byte_of l
unfolding tagged
bytes_tagged t [] l = refl
bytes_tagged t (b ∷ bs) l = ap (λ (z : List ℕ). b ∷ z) (bytes_tagged t bs l)

-- what is left of a word, trimmed, is the word trimmed
pub record Rest (w : Line) (items : List Item) : Type 0 where
  pub rest : Line
  pub valid : Valid rest
  pub held : items ≡ enc rest
  pub same : trim_front w ≡ trim_front rest

-- the word's front, as it is
pub rest_start : (items : List Item) (w : Line) → Valid w → items ≡ enc w → Rest w items
rest_start items w v e = record { rest = w; valid = v; held = e; same = refl }

module _ (items : List Item) where
  char_bytes : (c : ℕ) (t : Tag) (l : Line) → items ≡ enc (char c t ∷ l) → map byte_of items ≡ utf8 c ++ map byte_of (enc l)
  unfolding enc
  char_bytes c t l e = ap (map byte_of) e ∙ bytes_tagged (num t) (utf8 c) (enc l)

  name_bytes : (n : List ℕ) (l : Line) → items ≡ enc (name n ∷ l) → map byte_of items ≡ utf8 0 ++ map byte_of (tagged name_tag n ++ enc l)
  unfolding enc utf8
  name_bytes n l e = ap (map byte_of) e

  tag_first : (c : ℕ) (t : Tag) (l : Line) → get_or (map tag_of (enc (char c t ∷ l))) 0 0 ≡ num t
  unfolding enc tagged
  tag_first c t l = let u = utf8_some c in rw u.is

  -- a name stands first
  name_first : (l : Line) → Valid l → items ≡ enc l → mark_tag ≤ get_or (map tag_of items) 0 0 → trim_front l ≡ l
  unfolding trim_front
  name_first [] v e h = refl
  name_first (name n ∷ l) v e h = refl
  name_first (char c t ∷ l) (x, a, v) e h =
      absurd (let s = num_small t a in let f : get_or (map tag_of items) 0 0 ≡ num t = ap (λ (z : List Item). get_or (map tag_of z) 0 0) e ∙ tag_first c t l in omega arith)

  module _ (r : ℕ) (g : White (map byte_of items) r) where
    -- a name starts with no white space
    white_name : (n : List ℕ) (l : Line) → items ≡ enc (name n ∷ l) → r ≡ 0
    unfolding is_whitespace
    white_name n l e = g 0 _ (inl (omega arith), omega arith) (name_bytes n l e)

    white_stop : (l : Line) → Valid l → items ≡ enc l → r ≡ 0 → trim_front l ≡ l
    unfolding trim_front
    white_stop [] v e z = refl
    white_stop (name n ∷ l) v e z = refl
    white_stop (char c t ∷ l) (x, h, v) e z = go (is_whitespace c) (g c _ x (char_bytes c t l e))
      where
        go : (w : Bool) → r ≡ (if w then length (utf8 c) else 0) → (if w then trim_front l else char c t ∷ l) ≡ char c t ∷ l
        go true f = absurd (let p = utf8_pos c in omega arith)
        go false f = refl

    white_on : (l : Line) → Valid l → items ≡ enc l → 0 < r → r ≤ length items → Rest l (drop r items)
    unfolding trim_front enc
    white_on [] v e h k = absurd (let z : length items ≡ 0 = ap length e in omega arith)
    white_on (name n ∷ l) v e h k = absurd (let z = white_name n l e in omega arith)
    white_on (char c t ∷ l) (x, y, v) e h k = go (is_whitespace c) refl (g c _ x (char_bytes c t l e))
      where
        go : (w : Bool) → is_whitespace c ≡ w → r ≡ (if w then length (utf8 c) else 0) → Rest (char c t ∷ l) (drop r items)
        go true q f =
            record {
              rest = l;
              valid = v;
              held = ap (drop r) e ∙ ap (λ (n : ℕ). drop n (tagged (num t) (utf8 c) ++ enc l)) f ∙ drop_tagged (num t) (utf8 c) (enc l);
              same = rw q;
            }
        go false q f = absurd (omega arith)

-- the loop over a word's front, at i
module _ (items : List Item) (i : ℕ) (p : (w : Line) → Valid w → items ≡ enc w → Rest w (drop i items)) where
  -- what is left stands as it is
  left_is : ((l : Line) → Valid l → drop i items ≡ enc l → trim_front l ≡ l) → TrimsFront items i
  left_is f = λ w v e.
      let o = p w v e in
      o.held ∙ ap enc (sym (o.same ∙ f o.rest o.valid o.held))

  -- Nothing is left.
  pub front_end : (tags : List ℕ) → tags ≡ map tag_of items → length tags ≤ i → TrimsFront items i
  unfolding trim_front
  front_end tags et h =
      let n : length tags ≡ length items = ap length et ∙ length-map items tag_of in
      left_is (λ l v e.
      let z : l ≡ [] = enc_none l (sym e ∙ drop_of_length-le items (omega arith)) in
      rw z)

  -- A name stands there.
  pub front_name : (tags : List ℕ) → tags ≡ map tag_of items → mark_tag ≤ get_or tags i 0 → TrimsFront items i
  front_name tags et h =
      let d : drop i tags ≡ map tag_of (drop i items) = ap (drop i) et ∙ drop-map tag_of i items in
      let f : get_or (map tag_of (drop i items)) 0 0 ≡ get_or tags i 0 =
      ap (λ (l : List ℕ). get_or l 0 0) (sym d) ∙ get_or-drop i tags 0 0 ∙ ap (λ (n : ℕ). get_or tags n 0) (omega arith) in
      left_is (λ l v e. name_first (drop i items) l v e (omega (arith, f)))

  module _ (bytes : List ℕ) (eb : bytes ≡ map byte_of items) (r : ℕ) (g : White (take (length bytes - i) (drop i bytes)) r) where
    white : White (map byte_of (drop i items)) r
    white = rw (part_rest bytes i, ap (drop i) eb ∙ drop-map byte_of i items) at g

    -- No white space stands there.
    pub front_stop : r ≡ 0 → TrimsFront items i
    front_stop z = left_is (λ l v e. white_stop (drop i items) r white l v e z)

    -- White space is passed.
    pub front_on : 0 < r → r ≤ length (take (length bytes - i) (drop i bytes)) → i ≤ length items
        → (i + r ≤ length items) × ((w : Line) → Valid w → items ≡ enc w → Rest w (drop (i + r) items))
    front_on h k j =
        let l : length bytes ≡ length items = ap length eb ∙ length-map items byte_of in
        let m : length (take (length bytes - i) (drop i bytes)) ≡ length bytes - i = ap length (part_rest bytes i) ∙ length-drop i bytes in (
          omega arith,
          λ w v e.
              let o = p w v e in
              let n = white_on (drop i items) r white o.rest o.valid o.held h (omega (arith, length-drop i items)) in
              record {
                rest = n.rest;
                valid = n.valid;
                held = rw (← drop-drop r i items) n.held;
                same = o.same ∙ n.same;
              },
        )

-- ---- the end

-- a space of a text
abbrev blank : Item → Bool
blank x = eqb x.byte 0x20 && ltb x.tag mark_tag

abbrev put_front : Item → List Item → List Item
put_front x [] = if blank x then [] else x ∷ []
put_front x (y ∷ ys) = x ∷ y ∷ ys

-- the entries without the spaces at their end
unfoldable pub trim : List Item → List Item
trim [] = []
trim (x ∷ xs) = put_front x (trim xs)

put_solid : (x : Item) (ys : List Item) → blank x ≡ false → put_front x ys ≡ x ∷ ys
put_solid x [] e = rw e
put_solid x (y ∷ ys) e = refl

put_before : (x : Item) (ys : List Item) (y : Item) → put_front x (ys ++ (y ∷ [])) ≡ x ∷ ys ++ (y ∷ [])
put_before x [] y = refl
put_before x (z ∷ ys) y = refl

trim_gone : (xs : List Item) (x : Item) → blank x ≡ true → trim (xs ++ (x ∷ [])) ≡ trim xs
unfolding trim
trim_gone [] x e = rw e
trim_gone (y ∷ xs) x e = ap (put_front y) (trim_gone xs x e)

trim_kept : (xs : List Item) (x : Item) → blank x ≡ false → trim (xs ++ (x ∷ [])) ≡ xs ++ (x ∷ [])
unfolding trim
trim_kept [] x e = rw e
trim_kept (y ∷ xs) x e = ap (put_front y) (trim_kept xs x e) ∙ put_before y xs x

-- bytes of which none is a space
abbrev Solid : List ℕ → Type 0
Solid [] = Unit {0}
Solid (b ∷ bs) = (eqb b 0x20 ≡ false) × Solid bs

high : (k x : ℕ) → 0x20 < k → eqb (k + x) 0x20 ≡ false
high k x h = ne_eqb (k + x) 0x20 (λ q. omega arith)

-- the byte 0x20 is U+0020, and occurs in no other character
utf8_solid : (c : ℕ) → eqb c 0x20 ≡ false → Solid (utf8 c)
unfolding utf8
utf8_solid c e =
    by_if Solid (ltb c 0x80) (λ f. (e, tt))
    (λ f. by_if Solid (ltb c 0x800) (λ g. (high 0xC0 (c / 64) (omega arith), low (c % 64)))
    (λ g. by_if Solid (ltb c 0x10000) (λ h. (high 0xE0 (c / 4096) (omega arith), (more (c / 64 % 64), low (c % 64))))
    (λ h. (high 0xF0 (c / 262144) (omega arith), (more (c / 4096 % 64), (more (c / 64 % 64), low (c % 64)))))))
  where
    more : (x : ℕ) → eqb (0x80 + x) 0x20 ≡ false
    more x = high 0x80 x (omega arith)

    low : (x : ℕ) → Solid ((0x80 + x) ∷ [])
    low x = (more x, tt)

trim_solid : (t : ℕ) (bs : List ℕ) (l : List Item) → Solid bs → trim (tagged t bs ++ l) ≡ tagged t bs ++ trim l
unfolding trim tagged
trim_solid t [] l s = refl
trim_solid t (b ∷ bs) l (e, s) = ap (put_front (item b t)) (trim_solid t bs l s) ∙ put_solid (item b t) (tagged t bs ++ trim l) (rw e)

trim_named : (n : List ℕ) (l : List Item) → trim (tagged name_tag n ++ l) ≡ tagged name_tag n ++ trim l
unfolding trim tagged
trim_named [] l = refl
trim_named (b ∷ n) l = ap (put_front (item b name_tag)) (trim_named n l) ∙ put_solid (item b name_tag) (tagged name_tag n ++ trim l) (and-false (eqb b 0x20))

keep_non_space : (c : ℕ) (t : Tag) (l : Line) → eqb c 0x20 ≡ false → keep_last (char c t) l ≡ char c t ∷ l
keep_non_space c t [] e = rw e
keep_non_space c t (x ∷ l) e = refl

-- a space goes where nothing is left behind it
put_space : (t : Tag) (l : Line) → t.ann < 256 → put_front (item 0x20 (num t)) (enc l) ≡ enc (keep_last (char 0x20 t) l)
unfolding enc tagged utf8
put_space t [] h = rw (lt-ltb (num t) mark_tag (let s = num_small t h in omega arith))
put_space t (name n ∷ l) h = refl
put_space t (char c u ∷ l) h = let s = utf8_some c in rw s.is

module _ (t : Tag) (l m : Line) (h : t.ann < 256) (e : trim (enc l) ≡ enc m) where
  trim_space : trim (enc (char 0x20 t ∷ l)) ≡ enc (keep_last (char 0x20 t) m)
  unfolding trim enc tagged utf8
  trim_space = ap (put_front (item 0x20 (num t))) e ∙ put_space t m h

  trim_char : (c : ℕ) (b : Bool) → eqb c 0x20 ≡ b → trim (enc (char c t ∷ l)) ≡ enc (keep_last (char c t) m)
  unfolding enc
  trim_char c true q = rw (eqb-true c 0x20 q) trim_space
  trim_char c false q =
      trim_solid (num t) (utf8 c) (enc l) (utf8_solid c q) ∙ ap (λ (z : List Item). tagged (num t) (utf8 c) ++ z) e
      ∙ ap enc (sym (keep_non_space c t m q))

trim_enc : (l : Line) → Valid l → trim (enc l) ≡ enc (trim_back l)
unfolding trim enc trim_back
trim_enc [] v = refl
trim_enc (name n ∷ l) v =
    ap (put_front (item 0 mark_tag)) (trim_named n (enc l) ∙ ap (λ (z : List Item). tagged name_tag n ++ z) (trim_enc l v))
    ∙ put_solid (item 0 mark_tag) (tagged name_tag n ++ enc (trim_back l)) refl
trim_enc (char c t ∷ l) (x, h, v) = trim_char t l (trim_back l) h (trim_enc l v) c (eqb c 0x20) refl

-- ---- columns: each entry gone was one

-- the columns and the entries of a line and of what is left of it differ by as many
abbrev Evenly : Line → Line → Type 0
Evenly l m = columns l + length (enc m) ≡ columns m + length (enc l)

even_name : (n : List ℕ) (l m : Line) → Evenly l m → Evenly (name n ∷ l) (name n ∷ m)
unfolding columns enc
even_name n l m e = omega (arith, length-append (tagged name_tag n) (enc l), length-append (tagged name_tag n) (enc m))

even_char : (c : ℕ) (t : Tag) (l m : Line) → Evenly l m → Evenly (char c t ∷ l) (char c t ∷ m)
unfolding columns enc
even_char c t l m e = omega (arith, length-append (tagged (num t) (utf8 c)) (enc l), length-append (tagged (num t) (utf8 c)) (enc m))

even_space : (t : Tag) (l m : Line) → Evenly l m → Evenly (char 0x20 t ∷ l) (keep_last (char 0x20 t) m)
unfolding columns enc tagged utf8
even_space t l [] e = let s = cols_space in omega arith
even_space t l (x ∷ m) e = even_char 0x20 t l (x ∷ m) e

even_keep : (c : ℕ) (t : Tag) (l m : Line) (b : Bool) → eqb c 0x20 ≡ b → Evenly l m → Evenly (char c t ∷ l) (keep_last (char c t) m)
even_keep c t l m true q e = rw (eqb-true c 0x20 q) (even_space t l m e)
even_keep c t l m false q e = rw (keep_non_space c t m q) (even_char c t l m e)

trim_even : (l : Line) → Evenly l (trim_back l)
unfolding trim_back columns
trim_even [] = refl
trim_even (name n ∷ l) = even_name n l (trim_back l) (trim_even l)
trim_even (char c t ∷ l) = even_keep c t l (trim_back l) (eqb c 0x20) refl (trim_even l)

keep_valid : (c : ℕ) (t : Tag) (l : Line) → Scalar c → t.ann < 256 → Valid l → Valid (keep_last (char c t) l)
keep_valid c t [] x h v = by_if Valid (eqb c 0x20) (λ e. tt) (λ e. (x, h, tt))
keep_valid c t (y ∷ l) x h v = (x, h, v)

trim_valid : (l : Line) → Valid l → Valid (trim_back l)
unfolding trim_back
trim_valid [] v = tt
trim_valid (name n ∷ l) v = trim_valid l v
trim_valid (char c t ∷ l) (x, h, v) = keep_valid c t (trim_back l) x h (trim_valid l v)

take_next : (items : List Item) (k : ℕ) → k < length items → take (suc k) items ≡ take k items ++ (item (get_or (map byte_of items) k 0) (get_or (map tag_of items) k 0) ∷ [])
take_next [] k h = absurd (omega (arith, h))
take_next (x ∷ items) zero h = refl
take_next (x ∷ items) (suc k) h = ap (λ (l : List Item). x ∷ l) (take_next items k (omega (arith, h)))

-- the loop over a line's end, at k
module _ (items : List Item) where
  -- No entry is left.
  pub back_none : (k : ℕ) → k ≤ 0 → trim (take k items) ≡ take k items
  unfolding trim
  back_none k h = let z : k ≡ 0 = omega arith in rw z

  module _ (k : ℕ) (p : 0 < k) (h : k ≤ length items) (bytes tags : List ℕ) (eb : bytes ≡ map byte_of items) (et : tags ≡ map tag_of items) where
    -- the last entry
    last : take k items ≡ take (k - 1) items ++ (item (get_or bytes (k - 1) 0) (get_or tags (k - 1) 0) ∷ [])
    last = let e : k ≡ suc (k - 1) = omega arith in ap (λ (n : ℕ). take n items) e ∙ rw (eb, et) (take_next items (k - 1) (omega arith))

    kept : blank (item (get_or bytes (k - 1) 0) (get_or tags (k - 1) 0)) ≡ false → trim (take k items) ≡ take k items
    kept e = ap trim last ∙ trim_kept (take (k - 1) items) _ e ∙ sym last

    -- It is no space.
    pub back_non_space : (get_or bytes (k - 1) 0 ≡ 0x20 → ⊥) → trim (take k items) ≡ take k items
    back_non_space n = kept (rw (ne_eqb (get_or bytes (k - 1) 0) 0x20 n))

    -- It is a name's.
    pub back_name : mark_tag ≤ get_or tags (k - 1) 0 → trim (take k items) ≡ take k items
    back_name m = kept (rw (le-ltb (get_or tags (k - 1) 0) mark_tag m) (and-false (eqb (get_or bytes (k - 1) 0) 0x20)))

    -- It is a space.
    pub back_space : get_or bytes (k - 1) 0 ≡ 0x20 → get_or tags (k - 1) 0 < mark_tag → trim (take k items) ≡ trim (take (k - 1) items)
    back_space e m = ap trim last ∙ trim_gone (take (k - 1) items) _ (rw (eq-eqb (get_or bytes (k - 1) 0) 0x20 e, lt-ltb (get_or tags (k - 1) 0) mark_tag m))

  -- The spaces end at k.
  pub back_done : (k : ℕ) → k ≤ length items → trim items ≡ trim (take k items) → trim (take k items) ≡ take k items → TrimsBack items k
  back_done k h e f = λ l v q.
      let a : take k items ≡ enc (trim_back l) = sym f ∙ sym e ∙ ap trim q ∙ trim_enc l v in
      let x : length (enc l) ≡ length items = ap length (sym q) in
      let y : length (enc (trim_back l)) ≡ k = ap length (sym a) ∙ length-take-le k items h in
      (a, omega (arith, trim_even l))

-- The line without the spaces at its end.
pub line_trimmed : (o r : OpenLine) (n : ℕ) → r.entries.items ≡ take n o.entries.items → n ≡ length r.entries.items → Trimmed o r → TrimsBack o.entries.items n → TrimsLine o r
line_trimmed o r n e z x g = λ d₀ base b h.
    let y = g b.line h.valid h.line in
    record {
      line = e ∙ y.0;
      valid = trim_valid b.line h.valid;
      cols = (let c = y.1 in let k = h.cols in omega (arith, x.cols, z));
      store = rw x.text h.store;
      place = rw x.text h.place;
      lines = rw x.text h.lines;
    }

-- ---- the mode of the first text

find_name : (n : List ℕ) (l : List Item) → find (λ t. ltb t mark_tag) (map tag_of (tagged name_tag n ++ l)) ≡ find (λ t. ltb t mark_tag) (map tag_of l)
unfolding tagged
find_name [] l = refl
find_name (b ∷ n) l = find_name n l

-- a tag that is the first text's
record Text (w : Line) (n : ℕ) : Type 0 where
  tag : Tag
  is : n ≡ num tag
  ann : tag.ann < 256
  pre : starts_pre w ≡ is_pre tag.mode

-- the first text's tag, if there is text
abbrev FirstText : Line → Found ℕ → Type 0
FirstText w None = starts_pre w ≡ false
FirstText w (Some n) = Text w n

text_first : (t : Tag) (b : ℕ) (bs : List ℕ) (l : List Item) → t.ann < 256 → find (λ u. ltb u mark_tag) (map tag_of (tagged (num t) (b ∷ bs) ++ l)) ≡ Some (num t)
unfolding tagged
text_first t b bs l h = rw (lt-ltb (num t) mark_tag (let s = num_small t h in omega arith))

name_on : (n : List ℕ) (w : Line) (r : Found ℕ) → FirstText w r → FirstText (name n ∷ w) r
name_on n w None h = h
name_on n w (Some k) h = record { tag = h.tag; is = h.is; ann = h.ann; pre = h.pre }

first_text : (w : Line) → Valid w → FirstText w (find (λ t. ltb t mark_tag) (map tag_of (enc w)))
unfolding enc
first_text [] v = refl
first_text (name n ∷ w) v = rw (find_name n (enc w)) (name_on n w _ (first_text w v))
first_text (char c t ∷ w) (x, h, v) =
    let u = utf8_some c in
    rw (u.is, text_first t u.first u.more (enc w) h) (record { tag = t; is = refl; ann = h; pre = refl })

module _ (items : List Item) (tags : List ℕ) (et : tags ≡ map tag_of items) where
  -- There is no text.
  pub pre_none : None ≡ find (λ t. ltb t mark_tag) tags → StartsPre items false
  pre_none f = λ w v e.
      let s : None ≡ find (λ t. ltb t mark_tag) (map tag_of (enc w)) = rw (et, e) at f in
      let y : starts_pre w ≡ false = rw (← s) at (first_text w v) in
      sym y

  -- The first text is found.
  pub pre_found : (n : ℕ) → Some n ≡ find (λ t. ltb t mark_tag) tags → (m : WhiteSpace) → TagMode n m → (r : Bool) → r ≡ sameb the_type m Pre → StartsPre items r
  pre_found n f m g r q = λ w v e.
      let s : Some n ≡ find (λ t. ltb t mark_tag) (map tag_of (enc w)) = rw (et, e) at f in
      let y : Text w n = rw (← s) at (first_text w v) in
      q ∙ same_pre m ∙ ap is_pre (g y.tag y.is y.ann) ∙ sym y.pre

-- ---- where a word starts

-- only PreWrap changes the word
word_kept : (s : Setup) (t : Tag) (m : Mode) (b : Block) → (m ≡ pre_wrap → ⊥) → (flat_at_wrap s t m b).word ≡ b.word
unfolding flat_at_wrap
word_kept s t normal b n = refl
word_kept s t pre b n = by_if (λ (z : Block). z.word ≡ b.word) (leb (left s b) b.wslen) (λ e. refl) (λ e. refl)
word_kept s t pre_wrap b n = absurd (n refl)

word_trimmed : (s : Setup) (t : Tag) (m : Mode) (b : Block) → pre_wrap ≡ m → (flat_at_wrap s t m b).word ≡ trim_front b.word
unfolding flat_at_wrap
word_trimmed s t m b e = rw (← e)

drop_none : (p : Blanks) (s : Setup) (b : Block) (o : Option Tag) → Pends p o → p.count ≡ 0 → (drop_blanks s o b).word ≡ b.word
unfolding drop_blanks
drop_none p s b none q z = refl
drop_none p s b (some t) q z = absurd (omega (arith, q.0))

drop_kept : (p : Blanks) (m : WhiteSpace) → TagMode p.tag m → (m ≡ PreWrap → ⊥) → (s : Setup) (b : Block) (o : Option Tag) → Pends p o → (drop_blanks s o b).word ≡ b.word
unfolding drop_blanks
drop_kept p m g n s b none q = refl
drop_kept p m g n s b (some t) q = word_kept s t t.mode b (λ e. n (wrap_mode m (g t q.1 q.2 ∙ e)))

drop_trimmed : (p : Blanks) → (p.count ≡ 0 → ⊥) → ((t : Tag) → p.tag ≡ num t → t.ann < 256 → pre_wrap ≡ t.mode)
    → (s : Setup) (b : Block) (o : Option Tag) → Pends p o → (drop_blanks s o b).word ≡ trim_front b.word
unfolding drop_blanks
drop_trimmed p n g s b none q = absurd (n q)
drop_trimmed p n g s b (some t) q = word_trimmed s t t.mode b (g t q.1 q.2)

module _ (p : Blanks) (items : List Item) where
  -- There are no blanks.
  pub starts_none : p.count ≡ 0 → StartsAt p items 0
  starts_none z = λ s b q v e. e ∙ ap enc (sym (drop_none p s b b.spacetag q z))

  -- They are not of mode PreWrap.
  pub starts_kept : (m : WhiteSpace) → TagMode p.tag m → (m ≡ PreWrap → ⊥) → StartsAt p items 0
  starts_kept m g n = λ s b q v e. e ∙ ap enc (sym (drop_kept p m g n s b b.spacetag q))

  -- They are.
  pub starts_trimmed : (p.count ≡ 0 → ⊥) → ((t : Tag) → p.tag ≡ num t → t.ann < 256 → pre_wrap ≡ t.mode) → (r : ℕ) → TrimsFront items r → StartsAt p items r
  starts_trimmed n g r f = λ s b q v e. f b.word v e ∙ ap enc (sym (drop_trimmed p n g s b b.spacetag q))
