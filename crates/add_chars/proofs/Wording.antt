-- Characters, blanks and names at a word's end, over the flat block.
-- Assumes nothing.
use mathlib.Core.Path.{◌≡◌, refl, sym, ap, subst, ◌∙◌}
use mathlib.Core.Bool.{Bool, true, false, and-false}
use mathlib.Core.Logic.{⊎_elim}
use mathlib.Core.Option.{Option, none, some}
use mathlib.Core.List.{List, [], ◌∷◌, ◌++◌, append-nil, append_assoc}
use Prim.Native.Nat.{ℕ, ◌+◌, ◌<◌, ◌≤◌}
use native.Mathlib.Omega.{arith}
use borrow.Author.Tests.{eq-eqb, ne_eqb, lt-ltb, ltb-true}
use lib.Dec.{ltb, leb, leb→le}
use lib.ListN.{length}
use Rattle.characters.specs.Columns.{columns_of, width_of, cols, str_width}
use Rattle.characters.specs.Whitespace.{always_takes_space}
use Rattle.characters.specs.Utf8.{utf8, text_bytes, Scalar}
use Rattle.characters.proofs.Tests.{by_if, below}
use Rattle.characters.proofs.Tables.{dropped_is_white, white_columns, control_no_width, cols_le_two}
use Rattle.block.specs.Tag.{Tag}
use Rattle.block.specs.Flat.{char, name, Line, columns, has_text, flat_push_char, Block, with_word, with_blanks, with_wrapped, keep_blank, collapse, flat_add_element}
use Rattle.block.specs.TrimsLeaveText.{TrimsLeaveText}
use Rattle.block.proofs.NonSpaces.{trims_blanks, trims_keep, trims_element, text_name}
use Rattle.block.proofs.Width.{columns_append}
use Rattle.lines.specs.Items.{Item, item, mark_tag, name_tag, Entries}
use Rattle.lines.specs.Bridge.{num, tagged, enc, text}
use Rattle.lines.proofs.Encoded.{enc_append, enc_text, valid_append, valid_text}
use Rattle.lines.proofs.HardWrap.{columns_text}
use Rattle.hard_wrap.specs.Hold.{Holds}
use Rattle.hard_wrap.specs.declared.line.OpenLine.{OpenLine}
use Rattle.flush_word.specs.Keep.{Keeps}
use Rattle.flush_word.specs.declared.state.WrappedBlock.{WrappedBlock}
use Rattle.add_chars.specs.Chars.{PushesChars, PushesWord, KeepsBlank, Collapses, AddsElement}
use Rattle.block.proofs.Same.{cols_of}

-- ---- columns

ascii_narrow : (c : ℕ) → c < 0x80 → cols c ≤ 1
unfolding columns_of width_of cols
ascii_narrow c h = leb→le (cols c) 1 (below (λ c. leb (cols c) 1) 0x80 tt c h)

-- A character has no more columns than bytes.
pub cols_bytes : (c : ℕ) → Scalar c → cols c ≤ length (utf8 c)
unfolding utf8
cols_bytes c s =
    let P : List ℕ → Type 0 = λ (l : List ℕ). cols c ≤ length l in
    let two = cols_le_two c in
    by_if P (ltb c 0x80) (λ e. ascii_narrow c (ltb-true c 0x80 e))
    (λ _. by_if P (ltb c 0x800) (λ _. two) (λ _. by_if P (ltb c 0x10000) (λ _. omega arith) (λ _. omega arith)))

-- White space that a line may drop takes a column where it has a count.
pub white_positive : (c n : ℕ) → always_takes_space c ≡ false → width_of c ≡ some n → 0 < n
white_positive c n w e =
    ⊎_elim (λ k. let f : none ≡ some n = sym (control_no_width c k) ∙ e in absurd (let z : ◌≡◌ {A = ℕ} 0 1 = cc in omega arith))
    (λ k. omega (arith, cols_of c n e)) (white_columns c (dropped_is_white c w))

-- ---- a word with more entries

-- a word with characters has text
text_chars : (l : Line) (t : Tag) (cs : List ℕ) → 0 < length (text_bytes cs) → has_text (l ++ text t cs) ≡ true
unfolding has_text text_bytes
text_chars l t [] h = absurd (omega arith)
text_chars [] t (c ∷ cs) h = refl
text_chars (char d u ∷ l) t (c ∷ cs) h = refl
text_chars (name n ∷ l) t (c ∷ cs) h = text_chars l t (c ∷ cs) h

enc_name : (l : Line) (n : List ℕ) → enc (l ++ (name n ∷ [])) ≡ (enc l ++ (item 0 mark_tag ∷ [])) ++ tagged name_tag n
unfolding enc
enc_name l n =
    enc_append l (name n ∷ []) ∙ ap (λ (x : List Item). enc l ++ (item 0 mark_tag ∷ x)) (append-nil (tagged name_tag n))
    ∙ sym (append_assoc (enc l) (item 0 mark_tag ∷ []) (tagged name_tag n))

columns_name : (l : Line) (n : List ℕ) → columns (l ++ (name n ∷ [])) ≡ columns l
unfolding columns
columns_name l n = let e : columns (l ++ (name n ∷ [])) ≡ columns l + 0 = columns_append l (name n ∷ []) in omega arith

-- ---- the block with another word, and with other blanks

abbrev pub with_chars : WrappedBlock → Entries → ℕ → Bool → ℕ → WrappedBlock
with_chars o e cols wrapped used =
    record { line = o.line; word = record { entries = e; cols = cols; has_text = true }; blanks = o.blanks; wrapped = wrapped; used = used }

abbrev pub with_end : WrappedBlock → Entries → ℕ → WrappedBlock
with_end o e used =
    record { line = o.line; word = record { entries = e; cols = o.word.cols; has_text = o.word.has_text }; blanks = o.blanks; wrapped = o.wrapped; used = used }

abbrev pub with_pending : WrappedBlock → ℕ → ℕ → ℕ → WrappedBlock
with_pending o count tag used =
    record { line = o.line; word = o.word; blanks = record { count = count; tag = tag }; wrapped = o.wrapped; used = used }

-- the line is held whatever the word, the blanks and the flag
holds_word : {d₀ : List ℕ} {base : ℕ} {b : Block} {l : OpenLine} (w : Line) → Holds d₀ base b l → Holds d₀ base (with_word w b) l
holds_word w o = record { line = o.line; valid = o.valid; cols = o.cols; store = o.store; place = o.place; lines = o.lines }

holds_chars : {d₀ : List ℕ} {base : ℕ} {b : Block} {l : OpenLine} (w : Line) (p : Bool) → Holds d₀ base b l → Holds d₀ base (with_word w (with_wrapped p b)) l
holds_chars w p o = record { line = o.line; valid = o.valid; cols = o.cols; store = o.store; place = o.place; lines = o.lines }

holds_blanks : {d₀ : List ℕ} {base : ℕ} {b : Block} {l : OpenLine} (n : ℕ) (t : Option Tag) → Holds d₀ base b l → Holds d₀ base (with_blanks n t b) l
holds_blanks n t o = record { line = o.line; valid = o.valid; cols = o.cols; store = o.store; place = o.place; lines = o.lines }

-- The same is kept of an equal block.
pub keeps_same : {d₀ : List ℕ} {base : ℕ} {x y : Block} {o : WrappedBlock} → x ≡ y → Keeps d₀ base x o → Keeps d₀ base y o
keeps_same {d₀} {base} {x} {y} {o} e h = subst (λ (b : Block). Keeps d₀ base b o) e h

-- ---- steps

module _ (o : WrappedBlock) (e : Entries) where
  -- The bytes of characters are put at the word's end.
  pub pushes : (part : List ℕ) (n tag : ℕ) (wrapped : Bool) (used : ℕ) → 0 < length part → e.items ≡ o.word.entries.items ++ tagged tag part
      → PushesChars o part n tag wrapped (with_chars o e (o.word.cols + n) wrapped used)
  pushes part n tag wrapped used pos i d₀ base b cs t h s p w ta ann nw =
      record {
        line = holds_chars (b.word ++ text t cs) wrapped h.line;
        word = i ∙ rw (h.word, ta, p) (sym (enc_append b.word (text t cs) ∙ ap (λ (x : List Item). enc b.word ++ x) (enc_text t cs)));
        valid = valid_append b.word (text t cs) h.valid (valid_text t cs ann s);
        cols = (let i = h.cols in omega (arith, columns_append b.word (text t cs), columns_text t cs, w));
        text = sym (text_chars b.word t cs (rw p at pos));
        count = h.count;
        pends = h.pends;
        wrapped = refl;
        trims = record { line = h.trims.line; word = nw };
      }

  -- A name's mark and bytes are put at the word's end.
  pub adds_name : (m : Entries) (n : List ℕ) (used : ℕ) → m.items ≡ o.word.entries.items ++ (item 0 mark_tag ∷ []) → e.items ≡ m.items ++ tagged name_tag n
      → AddsElement o n (with_end o e used)
  unfolding flat_add_element
  adds_name m n used i f d₀ base b h =
      record {
        line = holds_word (b.word ++ (name n ∷ [])) h.line;
        word = f ∙ rw (i, h.word) (sym (enc_name b.word n));
        valid = valid_append b.word (name n ∷ []) h.valid tt;
        cols = h.cols ∙ sym (columns_name b.word n);
        text = h.text ∙ sym (text_name b.word n);
        count = h.count;
        pends = h.pends;
        wrapped = h.wrapped;
        trims = trims_element n b h.trims;
      }

-- One character is put so.
pub pushes_one : (o r : WrappedBlock) (part : List ℕ) (n tag : ℕ) → PushesChars o part n tag o.wrapped r → PushesWord o part n tag r
unfolding text_bytes str_width flat_push_char
pushes_one o r part n tag f d₀ base b c t h s p w ta ann nw =
    keeps_same (ap (λ (x : Bool). with_word (b.word ++ (char c t ∷ [])) (with_wrapped x b)) h.wrapped)
    (f d₀ base b (c ∷ []) t h (s, tt) (p ∙ sym (append-nil (utf8 c))) (omega (arith, cols_of c n w)) ta ann nw)

-- blanks that pend
pends_now : {d₀ : List ℕ} {base : ℕ} {b : Block} {o : WrappedBlock} {tag : ℕ} {t : Tag} (n count used : ℕ)
    → count ≡ n → 0 < n → tag ≡ num t → t.ann < 256 → Keeps d₀ base b o → Keeps d₀ base (with_blanks n (some t) b) (with_pending o count tag used)
pends_now {b = b} {t = t} n count used e pos ta ann h =
    record {
      line = holds_blanks n (some t) h.line;
      word = h.word;
      valid = h.valid;
      cols = h.cols;
      text = h.text;
      count = e;
      pends = (omega arith, ta, ann);
      wrapped = h.wrapped;
      trims = trims_blanks n (some t) b h.trims;
    }

module _ (n c : ℕ) (t : Tag) (b : Block) where
  keep_joins : has_text b.word ≡ true → keep_blank (some n) c t b ≡ with_word (flat_push_char b.word c t) b
  unfolding keep_blank
  keep_joins e = rw e

  keep_pends : has_text b.word ≡ false → keep_blank (some n) c t b ≡ with_blanks (b.wslen + n) (some t) b
  unfolding keep_blank
  keep_pends e = rw e

module _ (o : WrappedBlock) (part : List ℕ) (n tag : ℕ) where
  -- A blank that is kept joins a word with text.
  pub keeps_joins : (r : WrappedBlock) → o.word.has_text ≡ true → PushesWord o part n tag r → KeepsBlank o part n tag r
  keeps_joins r e f d₀ base b c t h s p w pos ta ann =
      let q = keep_joins n c t b (sym h.text ∙ e) in
      let k : TrimsLeaveText (with_word (flat_push_char b.word c t) b) = subst TrimsLeaveText q (trims_keep (some n) c t b h.trims) in
      keeps_same (sym q) (f d₀ base b c t h s p w ta ann k.word)

  -- A blank that is kept pends after a word without text.
  pub keeps_pends : (used : ℕ) → o.word.has_text ≡ false → KeepsBlank o part n tag (with_pending o (o.blanks.count + n) tag used)
  keeps_pends used e d₀ base b c t h s p w pos ta ann =
      let i = h.count in
      keeps_same (sym (keep_pends n c t b (sym h.text ∙ e)))
      (pends_now (b.wslen + n) (o.blanks.count + n) used (omega arith) (omega arith) ta ann h)

module _ (t : Tag) (b : Block) where
  collapse_start : columns b.line ≡ 0 → collapse t b ≡ b
  unfolding collapse
  collapse_start e = rw e

  collapse_pending : (b.wslen ≡ 0 → ⊥) → collapse t b ≡ b
  unfolding collapse
  collapse_pending h = rw (ne_eqb b.wslen 0 h, and-false (ltb 0 (columns b.line)))

  collapse_one : 0 < columns b.line → b.wslen ≡ 0 → collapse t b ≡ with_blanks 1 (some t) b
  unfolding collapse
  collapse_one h e = rw (lt-ltb 0 (columns b.line) h, eq-eqb b.wslen 0 e)

module _ (o : WrappedBlock) (tag : ℕ) where
  -- A blank at a line's start is dropped.
  pub collapses_start : o.line.cols ≡ 0 → Collapses o tag o
  collapses_start e d₀ base b t h ta ann = keeps_same (sym (collapse_start t b (sym h.line.cols ∙ e))) h

  -- A blank after another is dropped.
  pub collapses_pending : (o.blanks.count ≡ 0 → ⊥) → Collapses o tag o
  collapses_pending e d₀ base b t h ta ann = keeps_same (sym (collapse_pending t b (λ k. e (h.count ∙ k)))) h

  -- The first blank after columns pends, as one.
  pub collapses_one : (used : ℕ) → 0 < o.line.cols → o.blanks.count ≡ 0 → Collapses o tag (with_pending o 1 tag used)
  collapses_one used l e d₀ base b t h ta ann =
      let i = h.count in
      let j = h.line.cols in
      keeps_same (sym (collapse_one t b (omega arith) (omega arith))) (pends_now 1 1 used refl (omega arith) ta ann h)
