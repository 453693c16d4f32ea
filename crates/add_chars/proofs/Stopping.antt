-- What LF and tab do to the flat block, a turn of a tab's loop at a time, and what they leave as it was.
-- Assumes nothing.
use mathlib.Core.Path.{◌≡◌, refl, sym, ap, ◌∙◌}
use mathlib.Core.Bool.{Bool, true, false, ◌&&◌, and-false}
use mathlib.Core.List.{List}
use Prim.Native.Nat.{ℕ, zero, suc, ◌+◌, ◌-◌, ◌%◌, ◌<◌, ◌≤◌}
use native.Mathlib.Numerals.{add-one}
use native.Mathlib.Omega.{arith}
use borrow.Author.Tests.{le-leb, lt-leb, eq-eqb, ne_eqb}
use lib.Dec.{leb, eqb}
use Rattle.characters.proofs.Tests.{by_if}
use Rattle.fields.specs.declared.job.Setup.{Setup}
use Rattle.block.specs.Tag.{Tag}
use Rattle.block.specs.Flat.{Block, has_text, columns, on_line, flat_force_flush_line, flat_flush_line, newline, flat_tab_loop, tab}
use Rattle.block.specs.TrimsLeaveText.{TrimsLeaveText}
use Rattle.block.proofs.NonSpaces.{trims_newline, trims_tab}
use Rattle.lines.specs.Bridge.{num}
use Rattle.lines.proofs.Kept.{Kept}
use Rattle.hard_wrap.specs.Hold.{setup, Holds}
use Rattle.hard_wrap.specs.declared.line.OpenLine.{OpenLine}
use Rattle.flush_word.specs.Keep.{Keeps}
use Rattle.flush_word.specs.declared.state.WrappedBlock.{WrappedBlock}
use Rattle.add_chars.specs.Chars.{Turned, Turns, Tabs}
use Rattle.add_chars.specs.declared.stops.TabAt.{TabAt}

-- ---- LF

-- LF closes the line, and the blanks and the flag are gone.
pub newline_keeps : (s : Setup) (d₀ : List ℕ) (base : ℕ) (b : Block) (o : WrappedBlock) (l : OpenLine) (used : ℕ) → Keeps d₀ base b o
    → Holds d₀ base (flat_force_flush_line s b) l
    → Keeps d₀ base (newline s b) (record { line = l; word = o.word; blanks = record { count = 0; tag = 0 }; wrapped = false; used = used })
unfolding newline flat_force_flush_line
newline_keeps s d₀ base b o l used k h =
    record {
      line = record { line = h.line; valid = h.valid; cols = h.cols; store = h.store; place = h.place; lines = h.lines };
      word = k.word;
      valid = k.valid;
      cols = k.cols;
      text = k.text;
      count = refl;
      pends = refl;
      wrapped = refl;
      trims = trims_newline s b k.trims;
    }

-- ---- the turns of a tab

-- A tab goes on before it has a space.
pub no_space : (pos : ℕ) (one : Bool) → one ≡ false → (eqb (pos % 8) 0 && one) ≡ false
no_space pos one e = rw e (and-false (eqb (pos % 8) 0))

-- It goes on off a stop.
pub off_stop : (pos : ℕ) (one : Bool) → (pos % 8 ≡ 0 → ⊥) → (eqb (pos % 8) 0 && one) ≡ false
off_stop pos one h = rw (ne_eqb (pos % 8) 0 h)

module _ (s : Setup) (t : Tag) where
  -- At the block's edge the line is closed, and the position is 0.
  pub turn_edge : (fuel pos : ℕ) (one : Bool) (b : Block) → s.width ≤ pos → (eqb (pos % 8) 0 && one) ≡ false
      → flat_tab_loop (suc fuel) s t pos one b ≡ flat_tab_loop fuel s t 0 one (flat_flush_line s b)
  unfolding flat_tab_loop
  turn_edge fuel pos one b h e = rw (e, le-leb s.width pos h)

  -- Before it a space is written.
  pub turn_blank : (fuel pos : ℕ) (one : Bool) (b : Block) → pos < s.width → (eqb (pos % 8) 0 && one) ≡ false
      → flat_tab_loop (suc fuel) s t pos one b ≡ flat_tab_loop fuel s t (pos + 1) true (on_line 0x20 t b)
  unfolding flat_tab_loop
  turn_blank fuel pos one b h e = rw (e, lt-leb s.width pos h, add-one)

  -- A tab that stands at a stop after a space has ended.
  tab_stops : (turns pos : ℕ) (one : Bool) (b : Block) → pos % 8 ≡ 0 → one ≡ true → flat_tab_loop turns s t pos one b ≡ b
  unfolding flat_tab_loop
  tab_stops zero pos one b h e = refl
  tab_stops (suc n) pos one b h e = rw (eq-eqb (pos % 8) 0 h, e)

  -- Without turns left the block stays as it is.
  tab_none : (turns pos : ℕ) (one : Bool) (b : Block) → turns ≤ 0 → flat_tab_loop turns s t pos one b ≡ b
  unfolding flat_tab_loop
  tab_none zero pos one b h = refl
  tab_none (suc n) pos one b h = absurd (omega arith)

  -- Where turns are left there is one, and the others.
  tab_goes : (turns pos : ℕ) (one : Bool) (b : Block) → 0 < turns → flat_tab_loop turns s t pos one b ≡ flat_tab_loop (suc (turns - 1)) s t pos one b
  tab_goes turns pos one b h =
      let e : turns ≡ suc (turns - 1) = omega arith in
      ap (λ (n : ℕ). flat_tab_loop n s t pos one b) e

  -- ---- what a tab leaves

  -- a space on the line
  kept_on : (a b : Block) → Kept a b → Kept a (on_line 0x20 t b)
  kept_on a b k = record { spacetag = k.spacetag; word = k.word; wslen = k.wslen; pre_wrapped = k.pre_wrapped }

  -- a line that is closed where it has text
  kept_flush : (a b : Block) → Kept a b → Kept a (flat_flush_line s b)
  unfolding flat_flush_line flat_force_flush_line
  kept_flush a b k =
      by_if (Kept a) (has_text b.line) (λ _. record { spacetag = k.spacetag; word = k.word; wslen = k.wslen; pre_wrapped = k.pre_wrapped }) (λ _. k)

  -- every turn
  kept_tab : (fuel pos : ℕ) (one : Bool) (a b : Block) → Kept a b → Kept a (flat_tab_loop fuel s t pos one b)
  unfolding flat_tab_loop
  kept_tab zero pos one a b k = k
  kept_tab (suc fuel) pos one a b k =
      by_if (Kept a) (eqb (pos % 8) 0 && one) (λ _. k)
      (λ _. by_if (Kept a) (leb s.width pos) (λ _. kept_tab fuel 0 one a (flat_flush_line s b) (kept_flush a b k))
      (λ _. kept_tab fuel (suc pos) true a (on_line 0x20 t b) (kept_on a b k)))

kept_self : {b : Block} → Kept b b
kept_self = record { spacetag = refl; word = refl; wslen = refl; pre_wrapped = refl }

-- A tab leaves a block with the same word, blanks and flag.
pub tab_keeps : (s : Setup) (t : Tag) (d₀ : List ℕ) (base : ℕ) (b : Block) (o : WrappedBlock) (l : OpenLine) (used : ℕ) → Keeps d₀ base b o
    → Holds d₀ base (flat_tab_loop 10 s t (o.line.cols + o.word.cols + o.blanks.count) false b) l
    → Keeps d₀ base (tab s t b) (record { line = l; word = o.word; blanks = o.blanks; wrapped = o.wrapped; used = used })
unfolding tab
tab_keeps s t d₀ base b o l used k h =
    let from = columns b.line + columns b.word + b.wslen in
    let same : Kept b (flat_tab_loop 10 s t from false b) = kept_tab s t 10 from false b b kept_self in
    let same-pos : o.line.cols + o.word.cols + o.blanks.count ≡ from = (let x = k.line.cols in let y = k.cols in let z = k.count in omega arith) in
    record {
      line = rw same-pos at h;
      word = k.word ∙ rw same.word;
      valid = rw same.word k.valid;
      cols = k.cols ∙ rw same.word;
      text = k.text ∙ rw same.word;
      count = k.count ∙ sym same.wslen;
      pends = rw same.spacetag k.pends;
      wrapped = k.wrapped ∙ sym same.pre_wrapped;
      trims = trims_tab s t b k.trims;
    }

-- ---- the loop of a tab

-- the turns that are left make the whole
pub record Going (s : Setup) (d₀ : List ℕ) (base : ℕ) (b : Block) (t : Tag) (start : TabAt) (turns : ℕ) (l : OpenLine) (at : TabAt) : Type 0 where
  pub next : Block
  pub holds : Holds d₀ base next l
  pub trims : TrimsLeaveText next
  pub same : flat_tab_loop 10 s t start.pos start.one b ≡ flat_tab_loop turns s t at.pos at.one next

-- what the loop has made of the line o
abbrev pub Goes : OpenLine → TabAt → ℕ → ℕ → OpenLine → TabAt → Type 0
Goes o start tag turns l at =
    (d₀ : List ℕ) (base : ℕ) (b : Block) (t : Tag) → Holds d₀ base b o → TrimsLeaveText b → tag ≡ num t → t.ann < 256
    → Going (setup o.frame) d₀ base b t start turns l at

module _ (o : OpenLine) (start : TabAt) (tag turns : ℕ) (l : OpenLine) (at : TabAt) (g : Goes o start tag turns l at) where
  -- A turn is one of those left.
  pub goes_turn : (r : OpenLine) (to : TabAt) → l.frame ≡ o.frame → 0 < turns → (eqb (at.pos % 8) 0 && at.one) ≡ false → Turns l at tag r to
      → Goes o start tag (turns - 1) r to
  goes_turn r to f h e x =
      λ d₀ base b t k i ta ann.
      let w = g d₀ base b t k i ta ann in
      let u : Turned (setup o.frame) d₀ base w.next t at r to = rw (← f) (x d₀ base w.next t w.holds w.trims ta ann) in
      record {
        next = u.next;
        holds = u.holds;
        trims = u.trims;
        same = w.same ∙ tab_goes (setup o.frame) t turns at.pos at.one w.next h ∙ u.same (turns - 1) e;
      }

  -- At a stop after a space the tab is made.
  pub goes_stops : at.pos % 8 ≡ 0 → at.one ≡ true → Tabs o start tag l
  goes_stops h e =
      λ d₀ base b t k i ta ann.
      let w = g d₀ base b t k i ta ann in
      rw (w.same ∙ tab_stops (setup o.frame) t turns at.pos at.one w.next h e) w.holds

  -- Without turns left it is made too.
  pub goes_ends : turns ≤ 0 → Tabs o start tag l
  goes_ends h =
      λ d₀ base b t k i ta ann.
      let w = g d₀ base b t k i ta ann in
      rw (w.same ∙ tab_none (setup o.frame) t turns at.pos at.one w.next h) w.holds
