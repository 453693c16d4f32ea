-- What one character does to the flat walk, by the cases of the code, and the walk over a text's characters.
-- Assumes nothing.
use mathlib.Core.Path.{◌≡◌, refl, sym, ap, subst, ◌∙◌}
use mathlib.Core.Bool.{Bool, true, false}
use mathlib.Core.Option.{some}
use mathlib.Core.List.{List, [], ◌∷◌}
use Prim.Native.Nat.{ℕ, ◌+◌, ◌-◌, ◌<◌, ◌≤◌}
use native.Mathlib.Omega.{arith}
use borrow.Author.Tests.{eq-eqb, ne_eqb}
use lib.ListN.{length, take, drop}
use lib.Seq.{length-take-le, drop-drop}
use Rattle.std.specs.Prelude.{Result, Ok, Err, IsErr, if◌then◌else◌}
use Rattle.std.specs.Prelude as rust
use Rattle.std.proofs.lemmas.Result.{MatchResult-from_err}
use Rattle.characters.specs.Columns.{width_of}
use Rattle.characters.specs.Whitespace.{always_takes_space}
use Rattle.characters.specs.Utf8.{char, decode_of, chars}
use Rattle.characters.proofs.Tests.{by_if}
use Rattle.characters.proofs.RoundTrip.{decode_sound, decode_size, chars_nil, chars_step, chars_bad, some_cons}
use Rattle.fields.specs.Job.{Mode}
use Rattle.fields.specs.declared.job.Setup.{Setup}
use Rattle.fields.proofs.Texts.{rest}
use Rattle.block.specs.Tag.{tag, keeps_space}
use Rattle.block.specs.Result.{Result as FlatResult, good, too_narrow, ◌>>=◌}
use Rattle.block.specs.Flat.{Block, Walk, walk, flat_flush_word, newline, tab, keep_blank, collapse, add_blank, add_word_char, flat_add_char, break_word, step, steps, flat_add_text}
use Rattle.lines.specs.Bridge.{num}
use Rattle.hard_wrap.specs.Hold.{setup}
use Rattle.hard_wrap.specs.declared.error.TooNarrow.{TooNarrow}
use Rattle.hard_wrap.specs.declared.line.Frame.{Frame}
use Rattle.hard_wrap.proofs.Walks.{part_len}
use Rattle.flush_word.specs.Modes.{mode}
use Rattle.flush_word.specs.Keep.{Keeps, CountsWithinUnits, BuffersLongEnough, BlockStays, NextBlock}
use Rattle.flush_word.specs.declared.state.WrappedBlock.{WrappedBlock}
use Rattle.flush_word.specs.declared.white_space.WhiteSpace.{WhiteSpace}
use Rattle.flush_word.specs.declared.white_space.WhiteSpace.TheVariants.{Normal, Pre, PreWrap}
use Rattle.add_chars.specs.Chars.{Collapses}
use Rattle.add_text.specs.Walks.{RunSmall, Ready, WalkedSmall, WalkSmall, CharIs, WalkKeeps, NextWalk, WalkIs}
use Rattle.add_text.specs.Walks.{AddsNewline, AddsTab, AddsKept, AddsWordChar, BreaksWord, AddsBlank, PutsChar, AddsChar, AddsText}
use Rattle.add_text.specs.Runs.{PastIs, AddsPlain}
use Rattle.add_text.specs.declared.text.Run.{Run}
use Rattle.add_text.specs.declared.runs.Past.{Past}
use Rattle.add_text.proofs.Breaking.{tag_is}

-- ---- numbers

-- More units may be behind after any answer.
pub walk_more : (m n : ℕ) (x : Result ℕ TooNarrow) (r : WrappedBlock) → m ≤ n → WalkSmall m x r → WalkSmall n x r
walk_more m n (Ok a) r h x = record { small = x.small; ann = x.ann; used = omega (arith, h, x.used) }
walk_more m n (Err e) r h x = tt

-- ---- what stays

-- What a step leaves as it was and what the next one leaves.
pub stays_on : {o l r : WrappedBlock} → BlockStays o l → BlockStays l r → BlockStays o r
stays_on x y =
    record {
      line = record { frame = y.line.frame ∙ x.line.frame; room = y.line.room ∙ x.line.room; store = y.line.store ∙ x.line.store };
      word = y.word ∙ x.word;
    }

-- The buffers stay long enough.
pub buffers_stay : {o l : WrappedBlock} → BlockStays o l → BuffersLongEnough o → BuffersLongEnough l
buffers_stay x b =
    record {
      positive = rw x.line.frame b.positive;
      small = rw x.line.frame b.small;
      default = rw x.line.frame b.default;
      line = rw x.line.room b.line;
      word = rw x.word b.word;
    }

-- ---- white space

-- a mode that is not Normal keeps white space
keeps_space_lem : (w : WhiteSpace) → (w ≡ Normal → ⊥) → keeps_space (mode w) ≡ true
keeps_space_lem Normal h = absurd (h refl)
keeps_space_lem Pre h = refl
keeps_space_lem PreWrap h = refl

module _ (s : Setup) (m : Mode) (main c : ℕ) (v : Walk) where
  -- in Normal it collapses
  blank_normal : keeps_space m ≡ false → add_blank s m main c v ≡ good (walk (collapse (tag v.ann m) v.block) v.ann)
  unfolding add_blank
  blank_normal e = rw e

  module _ (k : keeps_space m ≡ true) where
    -- LF
    blank_lf : c ≡ 0x0A → add_blank s m main c v ≡ (flat_flush_word s v.block >>= λ b. good (walk (newline s b) main))
    unfolding add_blank
    blank_lf e = rw (k, eq-eqb c 0x0A e)

    -- a tab
    blank_tab : (c ≡ 0x0A → ⊥) → c ≡ 0x09 → add_blank s m main c v ≡ (flat_flush_word s v.block >>= λ b. good (walk (tab s (tag v.ann m) b) v.ann))
    unfolding add_blank
    blank_tab f e = rw (k, ne_eqb c 0x0A f, eq-eqb c 0x09 e)

    -- another blank
    blank_other : (c ≡ 0x0A → ⊥) → (c ≡ 0x09 → ⊥) → add_blank s m main c v ≡ good (walk (keep_blank (width_of c) c (tag v.ann m) v.block) v.ann)
    unfolding add_blank
    blank_other f g = rw (k, ne_eqb c 0x0A f, ne_eqb c 0x09 g)

-- an equal flat result has the same in the code
walk_is_same : (d₀ : List ℕ) (base : ℕ) (x : Result ℕ TooNarrow) (r : WrappedBlock) {y z : FlatResult Walk} → y ≡ z → WalkIs z d₀ base x r → WalkIs y d₀ base x r
walk_is_same d₀ base x r e h = subst (λ (q : FlatResult Walk). WalkIs q d₀ base x r) (sym e) h

module _ (o : WrappedBlock) (run : Run) (a code : ℕ) where
  -- White space collapses in Normal.
  pub blank_collapses : (t : ℕ) (r : WrappedBlock) → run.mode ≡ Normal → t ≡ num (tag a (mode run.mode)) → a < 256 → Collapses o t r
      → AddsBlank o run a code (Ok a) r
  blank_collapses t r e ta b f = λ d₀ base v k sp.
      let m = mode run.mode in
      record {
        walk = walk (collapse (tag v.ann m) v.block) v.ann;
        is = blank_normal (setup o.line.frame) m run.main code v (ap (λ (w : WhiteSpace). keeps_space (mode w)) e);
        keeps = record { keeps = f d₀ base v.block (tag v.ann m) k.keeps (tag_is m v.ann ta k.ann) (omega (arith, k.ann)); ann = k.ann };
      }

  module _ (n : run.mode ≡ Normal → ⊥) where
    -- LF closes the line.
    pub blank_closes : (x : Result ℕ TooNarrow) (r : WrappedBlock) → code ≡ 0x0A → AddsNewline o run x r → AddsBlank o run a code x r
    blank_closes x r e f = λ d₀ base v k sp.
        walk_is_same d₀ base x r (blank_lf (setup o.line.frame) (mode run.mode) run.main code v (keeps_space_lem run.mode n) e) (f d₀ base v.block k.keeps)

    -- A tab goes to the next stop.
    pub blank_tabs : (x : Result ℕ TooNarrow) (r : WrappedBlock) → (code ≡ 0x0A → ⊥) → code ≡ 0x09 → AddsTab o run.mode a x r → AddsBlank o run a code x r
    blank_tabs x r h e f = λ d₀ base v k sp.
        walk_is_same d₀ base x r (blank_tab (setup o.line.frame) (mode run.mode) run.main code v (keeps_space_lem run.mode n) h e) (f d₀ base v k)

    -- Another blank is kept.
    pub blank_stays : (r : WrappedBlock) → (code ≡ 0x0A → ⊥) → (code ≡ 0x09 → ⊥) → AddsKept o run.mode a code r → AddsBlank o run a code (Ok a) r
    blank_stays r h t f = λ d₀ base v k sp.
        record {
          walk = walk (keep_blank (width_of code) code (tag v.ann (mode run.mode)) v.block) v.ann;
          is = blank_other (setup o.line.frame) (mode run.mode) run.main code v (keeps_space_lem run.mode n) h t;
          keeps = f d₀ base v k sp;
        }

-- ---- the character itself

module _ (s : Setup) (m : Mode) (main wrap c : ℕ) (v : Walk) where
  -- U+200B is dropped
  char_none : c ≡ 0x200B → flat_add_char s m main wrap c v ≡ good v
  unfolding flat_add_char
  char_none e = rw (eq-eqb c 0x200B e)

  -- a character of a word
  pub char_word_char : (c ≡ 0x200B → ⊥) → always_takes_space c ≡ true → flat_add_char s m main wrap c v ≡ good (add_word_char s m wrap c (width_of c) v)
  unfolding flat_add_char
  char_word_char h e = rw (ne_eqb c 0x200B h, e)

  -- white space
  char_blank : (c ≡ 0x200B → ⊥) → always_takes_space c ≡ false → flat_add_char s m main wrap c v ≡ add_blank s m main c v
  unfolding flat_add_char
  char_blank h e = rw (ne_eqb c 0x200B h, e)

module _ (o : WrappedBlock) (run : Run) (a code : ℕ) where
  -- U+200B changes nothing.
  pub puts_none : code ≡ 0x200B → PutsChar o run a code (Ok a) o
  puts_none e = λ d₀ base v k. record { walk = v; is = char_none (setup o.line.frame) (mode run.mode) run.main run.wrap code v e; keeps = k }

  -- A character of a word.
  pub puts_word_char : (a' : ℕ) (r : WrappedBlock) → (code ≡ 0x200B → ⊥) → always_takes_space code ≡ true → AddsWordChar o run a code (width_of code) a' r
      → PutsChar o run a code (Ok a') r
  puts_word_char a' r h e f = λ d₀ base v k.
      record {
        walk = add_word_char (setup o.line.frame) (mode run.mode) run.wrap code (width_of code) v;
        is = char_word_char (setup o.line.frame) (mode run.mode) run.main run.wrap code v h e;
        keeps = f d₀ base v k refl e;
      }

  -- White space.
  pub puts_blank : (x : Result ℕ TooNarrow) (r : WrappedBlock) → (code ≡ 0x200B → ⊥) → always_takes_space code ≡ false → AddsBlank o run a code x r
      → PutsChar o run a code x r
  puts_blank x r h e f = λ d₀ base v k.
      walk_is_same d₀ base x r (char_blank (setup o.line.frame) (mode run.mode) run.main run.wrap code v h e) (f d₀ base v k e)

-- ---- one character

module _ (s : Setup) (m : Mode) (main wrap c : ℕ) (v : Walk) where
  -- after the break point
  pub step_on : (b : Block) → break_word s m c v.block ≡ good b → step s m main wrap c v ≡ flat_add_char s m main wrap c (walk b v.ann)
  unfolding step
  step_on b e = rw e

  -- where the break point finds no room
  step_narrow : break_word s m c v.block ≡ too_narrow → step s m main wrap c v ≡ too_narrow
  unfolding step
  step_narrow e = rw e

module _ (o : WrappedBlock) (run : Run) (a code : ℕ) (d : WrappedBlock) where
  -- The character goes on from the word closed or not.
  pub adds_char : (x : Result ℕ TooNarrow) (r : WrappedBlock) → BlockStays o d → BreaksWord o run.mode code (Ok tt) d → PutsChar d run a code x r
      → AddsChar o run a code x r
  adds_char x r st breaks p = λ d₀ base v k.
      let n : NextBlock (break_word (setup o.line.frame) (mode run.mode) code v.block) d₀ base d = breaks d₀ base v.block k.keeps in
      walk_is_same d₀ base x r (step_on (setup o.line.frame) (mode run.mode) run.main run.wrap code v n.block n.is)
      (subst (λ (f : Frame). WalkIs (flat_add_char (setup f) (mode run.mode) run.main run.wrap code (walk n.block v.ann)) d₀ base x r) st.line.frame
      (p d₀ base (walk n.block v.ann) (record { keeps = n.keeps; ann = k.ann })))

  -- TooNarrow.
  pub adds_narrow : (n : TooNarrow) (x : Result ℕ TooNarrow) → BreaksWord o run.mode code (Err n) d → IsErr x → AddsChar o run a code x d
  adds_narrow n x breaks h = λ d₀ base v k.
      MatchResult-from_err x _ _ h (λ _. step_narrow (setup o.line.frame) (mode run.mode) run.main run.wrap code v (breaks d₀ base v.block k.keeps))

-- ---- the first character of a text

-- a text that begins with no character has none
no_chars : (text cs : List ℕ) → decode_of text ≡ rust.None → chars text ≡ some cs → cs ≡ []
no_chars [] cs e q = cc chars_nil
no_chars (b ∷ t) cs e q = absurd (let z : ◌≡◌ {A = ℕ} 0 1 = cc (chars_bad (b ∷ t) (omega arith) e) in omega arith)

module _ (text : List ℕ) (c k : ℕ) (e : decode_of text ≡ char c k) where
  -- The bytes of a character are as many as it says.
  pub first_length : length (take k text) ≡ k
  first_length = length-take-le k text (decode_size text c k e).2

  -- The bytes that are taken are those of the character.
  pub first_is : CharIs (take k text) c
  first_is = record { scalar = (decode_sound text c k e).0; bytes = (decode_sound text c k e).1 }

-- the bytes between two places
part_bytes : (text : List ℕ) (at k : ℕ) → take (at + k - at) (drop at text) ≡ take k (drop at text)
part_bytes text at k = let e : at + k - at ≡ k = omega arith in rw e

-- ---- the characters of a text

-- the annotation that a text begins with
abbrev pub first : ℕ → ℕ → Block → ℕ
first main wrap b = if b.pre_wrapped then wrap else main

module _ (s : Setup) (m : Mode) (main wrap : ℕ) where
  -- a step that is made
  pub steps_on : (c : ℕ) (cs zs : List ℕ) (v v' : Walk) → cs ≡ c ∷ zs → step s m main wrap c v ≡ good v' → steps s m main wrap cs v ≡ steps s m main wrap zs v'
  unfolding steps
  steps_on c cs zs v v' e q = rw (e, q)

  -- a step without room
  steps_narrow : (c : ℕ) (cs zs : List ℕ) (v : Walk) → cs ≡ c ∷ zs → step s m main wrap c v ≡ too_narrow → steps s m main wrap cs v ≡ too_narrow
  unfolding steps
  steps_narrow c cs zs v e q = rw (e, q)

  -- no step is left
  steps_end : (cs : List ℕ) (v : Walk) → cs ≡ [] → steps s m main wrap cs v ≡ good v
  unfolding steps
  steps_end cs v e = rw e

  text_good : (cs : List ℕ) (b : Block) (v : Walk) → steps s m main wrap cs (walk b (first main wrap b)) ≡ good v → flat_add_text s m main wrap cs b ≡ good v.block
  unfolding flat_add_text
  text_good cs b v e = rw e

  text_narrow : (cs : List ℕ) (b : Block) → steps s m main wrap cs (walk b (first main wrap b)) ≡ too_narrow → flat_add_text s m main wrap cs b ≡ too_narrow
  unfolding flat_add_text
  text_narrow cs b e = rw e

-- ---- the walk

-- the characters from a place on, from the walk as it now stands, give what the whole text gives
pub record Gone (s : Setup) (m : Mode) (main wrap : ℕ) (cs : List ℕ) (b : Block) (d₀ : List ℕ) (base : ℕ) (text : List ℕ) (l : WrappedBlock) (a at : ℕ) : Type 0 where
  pub v : Walk
  pub zs : List ℕ
  pub keeps : WalkKeeps d₀ base v l a
  pub left : chars (drop at text) ≡ some zs
  pub same : steps s m main wrap cs (walk b (first main wrap b)) ≡ steps s m main wrap zs v

-- The invariant of the loop: the numbers, and that what is left gives what the whole gives.
pub record Walking (o : WrappedBlock) (run : Run) (text : List ℕ) (l : WrappedBlock) (a at : ℕ) : Type 0 where
  pub stays : BlockStays o l
  pub buffers : BuffersLongEnough l
  pub inside : at ≤ length text
  pub small : WalkedSmall l a (o.used + at)
  pub gone : (d₀ : List ℕ) (base : ℕ) (b : Block) (cs : List ℕ) → Keeps d₀ base b o → chars text ≡ some cs
      → Gone (setup o.line.frame) (mode run.mode) run.main run.wrap cs b d₀ base text l a at

-- the first annotation is in range
first_in : (run : Run) (p : Bool) → RunSmall run → (if p then run.wrap else run.main) < 256
first_in run p h = by_if (λ (n : ℕ). n < 256) p (λ _. h.wrap) (λ _. h.main)

-- The walk begins.
pub walking_starts : (o : WrappedBlock) (run : Run) (text : List ℕ) (a : ℕ) → CountsWithinUnits o → BuffersLongEnough o → RunSmall run
    → a ≡ (if o.wrapped then run.wrap else run.main) → Walking o run text o a 0
walking_starts o run text a h u r e =
    record {
      stays = record { line = record { frame = refl; room = refl; store = refl }; word = refl };
      buffers = u;
      inside = omega arith;
      small = record { small = h; ann = rw e (first_in run o.wrapped r); used = omega arith };
      gone = λ d₀ base b cs k t.
          record {
            v = walk b (first run.main run.wrap b);
            zs = cs;
            keeps = record { keeps = k; ann = e ∙ ap (λ (p : Bool). if p then run.wrap else run.main) k.wrapped };
            left = t;
            same = refl;
          };
    }

module _ {o : WrappedBlock} {run : Run} {text : List ℕ} {l : WrappedBlock} {a at : ℕ} (inv : Walking o run text l a at) where
  -- what is left to walk
  left_is : (zs : List ℕ) → chars (drop at text) ≡ some zs → chars (take (length text - at) (drop at text)) ≡ some zs
  left_is zs e = rw (rest text at) e

  -- what is left after some of it
  left_on : (n : ℕ) (zs : List ℕ) → chars (drop n (take (length text - at) (drop at text))) ≡ some zs → chars (drop (at + n) text) ≡ some zs
  left_on n zs e = rw (rest text at, drop-drop) at e

  -- Plain characters that are taken keep the invariant.
  pub walking_past : (x : Past) (r : WrappedBlock) → AddsPlain l run a (take (length text - at) (drop at text)) x r → BlockStays l r
      → x.len ≤ length (take (length text - at) (drop at text)) → WalkedSmall r x.ann (l.used + x.len) → Walking o run text r x.ann (at + x.len)
  walking_past x r adds st h y =
      record {
        stays = stays_on inv.stays st;
        buffers = buffers_stay st inv.buffers;
        inside = omega (arith, inv.inside, part_len text at);
        small = record { small = y.small; ann = y.ann; used = omega (arith, inv.small.used, y.used) };
        gone = λ d₀ base b cs k t.
            let g = inv.gone d₀ base b cs k t in
            let part = take (length text - at) (drop at text) in
            let p : PastIs (setup o.line.frame) (mode run.mode) run.main run.wrap part g.zs g.v d₀ base x r
            = subst (λ (f : Frame). PastIs (setup f) (mode run.mode) run.main run.wrap part g.zs g.v d₀ base x r) inv.stays.line.frame
            (adds d₀ base g.v g.zs g.keeps (left_is g.zs g.left)) in
            record { v = p.next; zs = p.rest; keeps = p.keeps; left = left_on x.len p.rest p.left; same = g.same ∙ p.same };
      }

  -- Where no character is left the walk is made.
  pub walking_ends : decode_of (take (length text - at) (drop at text)) ≡ rust.None → AddsText o run text (Ok tt) l
  walking_ends e = λ d₀ base b cs k t.
      let g = inv.gone d₀ base b cs k t in
      let s = setup o.line.frame in
      let m = mode run.mode in
      let x = no_chars (take (length text - at) (drop at text)) g.zs e (left_is g.zs g.left) in
      record {
        block = g.v.block;
        is = text_good s m run.main run.wrap cs b g.v (g.same ∙ steps_end s m run.main run.wrap g.zs g.v x);
        keeps = g.keeps.keeps;
      }

  module _ (c k : ℕ) (e : decode_of (take (length text - at) (drop at text)) ≡ char c k) where
    -- The character's bytes lie inside the text.
    pub char_inside : at + k ≤ length text
    char_inside = let d = decode_size (take (length text - at) (drop at text)) c k e in let i = inv.inside in omega (arith, part_len text at, d.2)

    -- There are some.
    pub char_some : 0 < k
    char_some = (decode_size (take (length text - at) (drop at text)) c k e).0

    -- They are as many as it says.
    pub char_length : length (take (at + k - at) (drop at text)) ≡ k
    char_length = rw (part_bytes text at k) (first_length (drop at text) c k (rw (rest text at) at e))

    -- They are those of the character.
    pub char_is : CharIs (take (at + k - at) (drop at text)) c
    char_is = rw (part_bytes text at k) (first_is (drop at text) c k (rw (rest text at) at e))

    -- There are units for them.
    pub char_ready : o.used + length text ≤ 4096 → Ready l a (length (take (at + k - at) (drop at text)))
    char_ready u =
        record {
          small = inv.small.small;
          buffers = inv.buffers;
          ann = inv.small.ann;
          some = omega (arith, char_length, char_some);
          units = omega (arith, char_length, char_inside, inv.small.used, u);
        }

    module _ (r : WrappedBlock) where
      -- A character that is walked keeps the invariant.
      pub walking_on : (a' : ℕ) → AddsChar l run a c (Ok a') r → BlockStays l r → WalkedSmall r a' (l.used + length (take (at + k - at) (drop at text)))
          → Walking o run text r a' (at + k)
      walking_on a' adds st y =
          record {
            stays = stays_on inv.stays st;
            buffers = buffers_stay st inv.buffers;
            inside = char_inside;
            small = record { small = y.small; ann = y.ann; used = omega (arith, char_length, inv.small.used, y.used) };
            gone = λ d₀ base b cs q t.
                let g = inv.gone d₀ base b cs q t in
                let s = setup o.line.frame in
                let m = mode run.mode in
                let (zs, ez, ex) = some_cons c (chars (drop k (take (length text - at) (drop at text)))) g.zs
                (sym (chars_step (take (length text - at) (drop at text)) c k e) ∙ left_is g.zs g.left) in
                let n : NextWalk (step s m run.main run.wrap c g.v) d₀ base r a'
                = subst (λ (f : Frame). NextWalk (step (setup f) m run.main run.wrap c g.v) d₀ base r a') inv.stays.line.frame (adds d₀ base g.v g.keeps) in
                record {
                  v = n.walk;
                  zs = zs;
                  keeps = n.keeps;
                  left = left_on k zs ez;
                  same = g.same ∙ steps_on s m run.main run.wrap c g.zs zs g.v n.walk ex n.is;
                };
          }

      -- Without room for it the text has none.
      pub walking_narrow : (n : TooNarrow) (x : Result Unit TooNarrow) → AddsChar l run a c (Err n) r → IsErr x → AddsText o run text x r
      walking_narrow n x adds h = λ d₀ base b cs q t.
          let g = inv.gone d₀ base b cs q t in
          let s = setup o.line.frame in
          let m = mode run.mode in
          let (zs, ez, ex) = some_cons c (chars (drop k (take (length text - at) (drop at text)))) g.zs
          (sym (chars_step (take (length text - at) (drop at text)) c k e) ∙ left_is g.zs g.left) in
          let y : step s m run.main run.wrap c g.v ≡ too_narrow
          = subst (λ (f : Frame). step (setup f) m run.main run.wrap c g.v ≡ too_narrow) inv.stays.line.frame (adds d₀ base g.v g.keeps) in
          MatchResult-from_err x _ _ h (λ _. text_narrow s m run.main run.wrap cs b (g.same ∙ steps_narrow s m run.main run.wrap c g.zs zs g.v ex y))
