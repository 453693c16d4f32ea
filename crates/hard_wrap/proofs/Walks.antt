-- The walk over a text: turns over plain lists.
-- Assumes nothing.
use mathlib.Core.Path.{◌≡◌, refl, sym, ap, ◌∙◌}
use mathlib.Core.Bool.{true}
use mathlib.Core.List.{List, [], ◌∷◌, ◌++◌, append-nil, append_assoc}
use Prim.Native.Nat.{ℕ, ◌+◌, ◌-◌, ◌<◌, ◌≤◌}
use native.Mathlib.Omega.{arith}
use lib.ListN.{length, take, drop, length-append, length-drop}
use lib.Seq.{drop-drop, drop-append_seam}
use Rattle.characters.specs.Utf8.{utf8, text_bytes}
use Rattle.characters.specs.Columns.{cols, str_width}
use Rattle.characters.specs.Plain.{PlainRun}
use Rattle.characters.proofs.RoundTrip.{Scalars}
use Rattle.characters.proofs.Runs.{text_bytes_append, width_append, plain_scalars, text_front}
use Rattle.lines.proofs.Encoded.{scalars_right, utf8_pos}
use Rattle.hard_wrap.specs.Walk.{Shows, Going, Split}
use Rattle.fields.proofs.Texts.{rest}

-- The length of that part.
pub part_len : (s : List ℕ) (at : ℕ) → length (take (length s - at) (drop at s)) ≡ length s - at
part_len s at = ap length (rest s at) ∙ length-drop at s

-- A text of no bytes has no characters.
pub text_none : (cs : List ℕ) → length (text_bytes cs) ≤ 0 → cs ≡ []
unfolding text_bytes
text_none [] h = refl
text_none (c ∷ cs) h = absurd (let p = utf8_pos c in omega (arith, length-append (utf8 c) (text_bytes cs)))

module _ (part cs : List ℕ) where
  -- at the start
  pub going_start : part ≡ text_bytes cs → Going part cs 0 0
  unfolding text_bytes str_width
  going_start e = record { p = []; q = cs; whole = refl; rest = e; at = refl; cols = refl }

  -- what is left, some characters further
  on_more : (p r q : List ℕ) (i used len k : ℕ) → cs ≡ p ++ (r ++ q) → drop i part ≡ text_bytes r ++ text_bytes q
      → i ≡ length (text_bytes p) → used ≡ str_width p → len ≡ length (text_bytes r) → k ≡ str_width r → Going part cs (i + len) (used + k)
  on_more p r q i used len k w d a u e f =
      let l : text_bytes (p ++ r) ≡ text_bytes p ++ text_bytes r = text_bytes_append p r in
      record {
        p = p ++ r;
        q = q;
        whole = w ∙ sym (append_assoc p r q);
        rest = sym (drop-drop len i part) ∙ rw (d, e) (drop-append_seam (text_bytes r) (text_bytes q));
        at = rw l (omega (arith, length-append (text_bytes p) (text_bytes r)));
        cols = (let m : str_width (p ++ r) ≡ str_width p + str_width r = width_append p r in omega arith);
      }

  -- what is left, one character further
  on_record : (p : List ℕ) (c : ℕ) (q : List ℕ) (i used len k : ℕ) → cs ≡ p ++ (c ∷ q) → drop i part ≡ utf8 c ++ text_bytes q
      → i ≡ length (text_bytes p) → used ≡ str_width p → len ≡ length (utf8 c) → k ≡ cols c → Going part cs (i + len) (used + k)
  unfolding text_bytes str_width
  on_record p c q i used len k w d a u e f =
      let l : text_bytes (c ∷ []) ≡ utf8 c = append-nil (utf8 c) in
      on_more p (c ∷ []) q i used len k w (rw l d) a u (rw l e) (omega arith)

  -- a run of plain characters further
  pub going_run : (i used len k : ℕ) → Scalars cs → PlainRun true (take (length part - i) (drop i part)) len k → Going part cs i used
      → Going part cs (i + len) (used + k)
  going_run i used len k s run o =
      let r = rw (rest part i) at run in
      let v : Scalars o.q = scalars_right o.p o.q (rw o.whole at s) in
      let z = text_front o.q r.cs r.rest v (plain_scalars true r.cs r.plain) (sym o.rest ∙ r.whole) in
      let w : cs ≡ o.p ++ (r.cs ++ z.0) = o.whole ∙ ap (λ (x : List ℕ). o.p ++ x) z.1 in
      let d : drop i part ≡ text_bytes r.cs ++ text_bytes z.0 = o.rest ∙ ap text_bytes z.1 ∙ text_bytes_append r.cs z.0 in
      on_more o.p r.cs z.0 i used len k w d o.at o.cols r.bytes r.columns

  module _ (i used len k : ℕ) (s : Scalars cs) (h : i < length part) (g : Shows (take (length part - i) (drop i part)) len k) where
    -- one character further
    pub going_on : Going part cs i used → Going part cs (i + len) (used + k)
    unfolding text_bytes
    going_on o = go o.q refl
      where
        go : (q : List ℕ) → o.q ≡ q → Going part cs (i + len) (used + k)
        go [] e = absurd (let m : length (drop i part) ≡ 0 = ap length (o.rest ∙ ap text_bytes e) in omega (arith, length-drop i part))
        go (c ∷ q) e =
            let w : cs ≡ o.p ++ (c ∷ q) = o.whole ∙ ap (λ (x : List ℕ). o.p ++ x) e in
            let v : Scalars (c ∷ q) = scalars_right o.p (c ∷ q) (rw w at s) in
            let r : drop i part ≡ utf8 c ++ text_bytes q = o.rest ∙ ap text_bytes e in
            let x = g c (text_bytes q) v.0 (rest part i ∙ r) in
            on_record o.p c q i used len k w r o.at o.cols x.0 x.1

    -- a character that is too wide
    pub going_stop : (left : ℕ) → left - used < k → Going part cs i used → Split left cs i used
    unfolding text_bytes
    going_stop left l o = go o.q refl
      where
        go : (q : List ℕ) → o.q ≡ q → Split left cs i used
        go [] e = absurd (let m : length (drop i part) ≡ 0 = ap length (o.rest ∙ ap text_bytes e) in omega (arith, length-drop i part))
        go (c ∷ q) e =
            let w : cs ≡ o.p ++ (c ∷ q) = o.whole ∙ ap (λ (x : List ℕ). o.p ++ x) e in
            let v : Scalars (c ∷ q) = scalars_right o.p (c ∷ q) (rw w at s) in
            let r : drop i part ≡ utf8 c ++ text_bytes q = o.rest ∙ ap text_bytes e in
            let x = g c (text_bytes q) v.0 (rest part i ∙ r) in
            record { p = o.p; q = c ∷ q; whole = w; place = o.at; cols = o.cols; stop = (let y = x.1 in omega arith) }

  -- the end of the text
  pub going_end : (i used left : ℕ) → length part ≤ i → Going part cs i used → (Split left cs i used) × (used ≡ str_width cs)
  going_end i used left h o =
      let m : length (text_bytes o.q) ≡ length part - i = sym (ap length o.rest) ∙ length-drop i part in
      let e : o.q ≡ [] = text_none o.q (omega arith) in
      let w : cs ≡ o.p ++ [] = o.whole ∙ ap (λ (x : List ℕ). o.p ++ x) e in
      (record { p = o.p; q = []; whole = w; place = o.at; cols = o.cols; stop = tt }, o.cols ∙ ap str_width (sym (append-nil o.p) ∙ sym w))

-- ---- the walk over what is left of a piece

-- what is left of a text, as a part of it
abbrev pub part : List ℕ → ℕ → List ℕ
part s at = take (length s - at) (drop at s)

-- The walk's invariant: the characters passed fit the columns that are left.
pub record Walk (text : List ℕ) (left idx used : ℕ) : Type 0 where
  pub inside : idx ≤ length text
  pub fits : used ≤ left
  pub going : (cs : List ℕ) → Scalars cs → text ≡ text_bytes cs → Going text cs idx used

-- the place where the walk stopped
abbrev pub Stopped : List ℕ → ℕ → ℕ → ℕ → Type 0
Stopped text left idx used = (cs : List ℕ) → Scalars cs → text ≡ text_bytes cs → Split left cs idx used

-- No character is passed.
pub walk_start : (text : List ℕ) (left : ℕ) → Walk text left 0 0
walk_start text left = record { inside = omega arith; fits = omega arith; going = λ cs v e. going_start text cs e }

module _ (text : List ℕ) (left idx used : ℕ) (w : Walk text left idx used) where
  -- A run of plain characters is passed.
  pub walk_run : (len k : ℕ) → (len ≤ length (part text idx)) × (k ≤ left - used) → PlainRun true (part text idx) len k → Walk text left (idx + len) (used + k)
  walk_run len k h run =
      let pl = part_len text idx in
      record {
        inside = omega (arith, w, h, pl);
        fits = omega (arith, w, h);
        going = λ cs v e. going_run text cs idx used len k v run (w.going cs v e);
      }

  -- All of the text is passed.
  pub walk_end : length text ≤ idx → Stopped text left idx used
  walk_end h = λ cs v e. (going_end text cs idx used left h (w.going cs v e)).0

  module _ (len k : ℕ) (h : idx < length text) (g : Shows (part text idx) len k) where
    -- A character is passed.
    pub walk_char : len ≤ length (part text idx) → k ≤ left - used → Walk text left (idx + len) (used + k)
    walk_char l m =
        let pl = part_len text idx in
        record {
          inside = omega (arith, w, l, pl);
          fits = omega (arith, w, m);
          going = λ cs v e. going_on text cs idx used len k v h g (w.going cs v e);
        }

    -- A character does not fit.
    pub walk_stop : left - used < k → Stopped text left idx used
    walk_stop l = λ cs v e. going_stop text cs idx used len k v h g left l (w.going cs v e)
