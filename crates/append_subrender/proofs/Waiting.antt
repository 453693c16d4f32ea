-- Laws of the names that wait while lines are added: they stand in front of the first text, and behind it none waits.
-- Assumes nothing.
use mathlib.Core.Path.{◌≡◌, refl, ap, ◌∙◌}
use mathlib.Core.Bool.{Bool, true, false}
use mathlib.Core.List.{List, [], ◌∷◌, ◌++◌, map, map-append, append-nil, append_assoc}
use Prim.Native.Nat.{ℕ}
use native.Mathlib.Omega.{arith}
use borrow.Author.Tests.{lt-ltb, le-ltb}
use lib.Dec.{ltb}
use lib.ListN.{length, drop}
use lib.Seq.{drop-length}
use Rattle.fields.specs.Field.{field, read_all}
use Rattle.fields.specs.Sheet.{Piece, fragment}
use Rattle.fields.proofs.Fields.{raws_nil}
use Rattle.fields.proofs.Back.{Every, GoodPiece}
use Rattle.fields.specs.TaggedLine.{push_str, add_pieces}
use Rattle.fields.specs.Spans.{RenderLine, text, names_bytes}
use Rattle.rows.specs.SubRenderer.{in_front, with_names, padded}
use Rattle.rows.specs.Named.{named_lines, names_left}
use Rattle.rows.specs.declared.RenderOptions.{RenderOptions}
use Rattle.rows.proofs.Lines.{front_pieces, consume_pieces}
use Rattle.rows.proofs.Reading.{Bytes}
use Rattle.rows.proofs.Adding.{named_append, left_append}
use Rattle.rows.proofs.Front.{named_front, named_drawn}
use Rattle.extend_lines.specs.Emitted.{Emitted}
use Rattle.extend_lines.specs.declared.line.Lines.{Lines}
use Rattle.extend_lines.proofs.Naming.{names_back}
use Rattle.append_subrender.specs.Misfit.{behind_prefix}
use Rattle.append_subrender.specs.Prefixes.{NamesOf, Adds, added, rule_if, AddsRuleIf}
use Rattle.append_subrender.specs.declared.prefixed.Added.{Added}
use Rattle.append_subrender.proofs.Pairing.{named_first, left_first}

-- ---- which names wait

-- some name waits
abbrev pub some_wait : List (List ℕ) → Bool
some_wait [] = false
some_wait (n ∷ ns) = true

-- It does where their F fields have bytes.
pub waits_is : (names : List ℕ) (ns : List (List ℕ)) → Bytes names → NamesOf names ns → ltb 0 (length names) ≡ some_wait ns
unfolding names_bytes field
waits_is names [] k e = let n : 0 ≡ length names = ap length (names_back names [] k e) in le-ltb 0 (length names) (omega (arith, n))
waits_is names (m ∷ ns) k e = let n = ap length (names_back names (m ∷ ns) k e) in lt-ltb 0 (length names) (omega (arith, n))

none_there : NamesOf [] []
unfolding read_all
none_there = rw raws_nil

-- No name waits behind the last.
pub none_wait : (names : List ℕ) → NamesOf (drop (length names) names) []
none_wait names = rw (drop-length names) none_there

-- ---- a line behind names and prefix

-- A text: the names, the prefix pushed, the first piece pushed, and the others pushed too, or after it as they stand where no name waits.
pub named_pieces : (ns : List (List ℕ)) (waits : Bool) (ps : List Piece) (a : ℕ) (t : List ℕ) → waits ≡ some_wait ns → Every GoodPiece ps
    → with_names ns (text (in_front ps a t)) ≡ text (add_pieces true waits (push_str (map fragment ns) a t) ps)
named_pieces [] waits ps a t e good = rw e (ap text (front_pieces ps a t good))
named_pieces (n ∷ ns) waits ps a t e good =
    let l = push_str (map fragment (n ∷ ns)) a t in
    rw e (ap text (named_front (n ∷ ns) ps a t ∙ consume_pieces l ps))

-- A border, now text: the names, the prefix and the marks pushed.
pub named_marks : (ns : List (List ℕ)) (a : ℕ) (p t : List ℕ)
    → with_names ns (text (push_str (push_str [] a p) a t)) ≡ text (push_str (push_str (map fragment ns) a p) a t)
named_marks [] a p t = refl
named_marks (n ∷ ns) a p t = ap text (named_drawn (n ∷ ns) a p t)

-- ---- lines added

-- a border of one segment stays as it is, and leaves the names
rule_named : (s : RenderOptions) (ns : List (List ℕ)) (segment : ℕ) (drawn : Bool) → named_lines ns (rule_if s segment drawn) ≡ rule_if s segment drawn
unfolding named_lines
rule_named s ns segment true = refl
rule_named s ns segment false = refl

rule_left : (s : RenderOptions) (ns : List (List ℕ)) (segment : ℕ) (drawn : Bool) → names_left ns (rule_if s segment drawn) ≡ ns
unfolding names_left
rule_left s ns segment true = refl
rule_left s ns segment false = refl

module _ (out : List ℕ) (p : Added) (s : RenderOptions) (names : List ℕ) (ns : List (List ℕ)) where
  -- No line.
  pub adds_none : NamesOf (drop p.from names) ns → Adds out p s names ns [] out p
  unfolding named_lines names_left
  adds_none reads = record { lines = λ st ls e. rw (append-nil ls) e; waiting = reads }

  -- A line behind its prefix: it takes the names.
  pub adds_line : (out' : List ℕ) (r : Lines) (t : List ℕ) (g : RenderLine)
      → ((st : List ℕ) (ls : List RenderLine) → Emitted st ls [] [] out p.lines
      → Emitted st (ls ++ (padded s (with_names ns (behind_prefix s t g)) ∷ [])) [] [] out' r)
      → Adds out p s names ns (behind_prefix s t g ∷ []) out' (added r (length names))
  adds_line out' r t g one =
      record { lines = λ st ls e. rw (named_first s ns t g []) (one st ls e); waiting = rw (left_first s ns t g []) (none_wait names) }

  -- A border of one segment, drawn or not: it does not take them.
  pub adds_edge : (out' : List ℕ) (r : Lines) (segment : ℕ) (drawn : Bool) → NamesOf (drop p.from names) ns → AddsRuleIf out p.lines s segment drawn out' r
      → Adds out p s names ns (rule_if s segment drawn) out' (added r p.from)
  adds_edge out' r segment drawn reads rule =
      record { lines = λ st ls e. rw (rule_named s ns segment drawn) (rule st ls e); waiting = rw (rule_left s ns segment drawn) reads }

  -- Lines, and then others.
  pub adds_then : (mid out' : List ℕ) (m r : Added) (xs ys : List RenderLine) → Adds out p s names ns xs mid m → Adds mid m s names (names_left ns xs) ys out' r
      → Adds out p s names ns (xs ++ ys) out' r
  adds_then mid out' m r xs ys one others =
      let f = map (padded s) in
      let a = named_lines ns xs in
      let b = named_lines (names_left ns xs) ys in
      record {
        lines = λ st ls e.
            rw (named_append ns xs ys, map-append (padded s) a b, ← append_assoc ls (f a) (f b)) (others.lines st (ls ++ f a) (one.lines st ls e));
        waiting = rw (left_append ns xs ys) others.waiting;
      }
