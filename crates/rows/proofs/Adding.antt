-- Lines added where names wait: the names stand in the first text among them, or wait on; where no name waits the lines are added as they
-- are.
-- Assumes nothing.
use Rattle.std.proofs.Common.{◌≡◌, ℕ, List, [], ◌∷◌, ◌++◌, map, sym, refl, ap, ◌∙◌, ap₂, append_assoc, append-nil}
use Rattle.fields.specs.Spans.{Hole, RenderLine, text, border}
use Rattle.rows.specs.SubRenderer.{Extended, extended, with_names, padded, add_line, extend_lines}
use Rattle.rows.specs.Named.{named_lines, names_left}
use Rattle.rows.specs.declared.RenderOptions.{RenderOptions}

-- A border stays as it is.
pub border_stays : (ns : List (List ℕ)) (a : ℕ) (segs : List ℕ) (hs : List Hole) → with_names ns (border a segs hs) ≡ border a segs hs
border_stays [] a segs hs = refl
border_stays (n ∷ ns) a segs hs = refl

-- Where no name waits the lines stay.
pub named_none : (ls : List RenderLine) → named_lines [] ls ≡ ls
unfolding named_lines
named_none [] = refl
named_none (text ps ∷ ls) = refl
named_none (border a segs hs ∷ ls) = ap (λ (l : List RenderLine). border a segs hs ∷ l) (named_none ls)

-- And none waits on.
pub left_none : (ls : List RenderLine) → names_left [] ls ≡ []
unfolding names_left
left_none [] = refl
left_none (text ps ∷ ls) = refl
left_none (border a segs hs ∷ ls) = left_none ls

-- Lines and then others: what the first leave waits for the others.
pub named_append : (ns : List (List ℕ)) (xs ys : List RenderLine) → named_lines ns (xs ++ ys) ≡ named_lines ns xs ++ named_lines (names_left ns xs) ys
unfolding named_lines names_left
named_append ns [] ys = refl
named_append ns (text ps ∷ xs) ys = ap (λ (l : List RenderLine). with_names ns (text ps) ∷ xs ++ l) (sym (named_none ys))
named_append ns (border a segs hs ∷ xs) ys = ap (λ (l : List RenderLine). border a segs hs ∷ l) (named_append ns xs ys)

-- The names that wait on after both.
pub left_append : (ns : List (List ℕ)) (xs ys : List RenderLine) → names_left ns (xs ++ ys) ≡ names_left (names_left ns xs) ys
unfolding names_left
left_append ns [] ys = refl
left_append ns (text ps ∷ xs) ys = sym (left_none ys)
left_append ns (border a segs hs ∷ xs) ys = left_append ns xs ys

-- LINES ADDED ONE BY ONE: each is padded, and the names stand in the first text among them; where there is none they wait on.
pub extend_named : (s : RenderOptions) (a : Extended) (new : List RenderLine)
    → extend_lines s a new ≡ extended (a.lines ++ map (padded s) (named_lines a.names new)) (names_left a.names new)
unfolding extend_lines add_line named_lines names_left
extend_named s a [] = ap (λ (ls : List RenderLine). extended ls a.names) (sym (append-nil a.lines))
extend_named s a (text ps ∷ new) =
    let x = padded s (with_names a.names (text ps)) in
    extend_named s (extended (a.lines ++ (x ∷ [])) []) new
    ∙ ap₂ (λ (ls : List RenderLine) (ns : List (List ℕ)). extended ls ns)
    (append_assoc a.lines (x ∷ []) (map (padded s) (named_lines [] new)) ∙ ap (λ (l : List RenderLine). a.lines ++ (x ∷ map (padded s) l)) (named_none new))
    (left_none new)
extend_named s a (border b segs hs ∷ new) =
    let x = padded s (border b segs hs) in
    ap (λ (l : RenderLine). extend_lines s (extended (a.lines ++ (padded s l ∷ [])) a.names) new) (border_stays a.names b segs hs)
    ∙ extend_named s (extended (a.lines ++ (x ∷ [])) a.names) new
    ∙ ap (λ (ls : List RenderLine). extended ls (names_left a.names new)) (append_assoc a.lines (x ∷ []) (map (padded s) (named_lines a.names new)))

-- Where no name waits the new lines stand after the old ones, each padded.
pub extend_bare : (s : RenderOptions) (ls new : List RenderLine) → extend_lines s (extended ls []) new ≡ extended (ls ++ map (padded s) new) []
extend_bare s ls new =
    extend_named s (extended ls []) new
    ∙ ap₂ (λ (l : List RenderLine) (ns : List (List ℕ)). extended (ls ++ map (padded s) l) ns) (named_none new) (left_none new)
