-- How code lays a line that takes the names: they are put into the open line first, and what follows is pushed after them as it is pushed into an
-- empty line. So nothing is laid twice.
-- Assumes nothing.
use Rattle.std.proofs.Common.{◌≡◌, ℕ, ◌-◌, Bool, true, false, eqb, List, [], ◌∷◌, ◌++◌, map, replicate, sym, refl, ap, ◌∙◌, append_assoc, append-nil, eqb-true}
use Rattle.std.specs.Prelude.{if◌then◌else◌}
use Rattle.fields.specs.Sheet.{Piece, str, fragment}
use Rattle.fields.specs.Widths.{width}
use Rattle.fields.specs.TaggedLine.{push_str, push, consume, insert_front}
use Rattle.fields.specs.Spans.{RenderLine, text, border}
use Rattle.rows.specs.SubRenderer.{in_names, in_front, edge}
use Rattle.rows.specs.Columns.{Column, add_column, column_line}
use Rattle.rows.specs.declared.RenderOptions.{RenderOptions}
use Rattle.rows.proofs.Lines.{push_twice, consume_push}

-- ---- pushing again

consume_append : (l xs ys : List Piece) → consume l (xs ++ ys) ≡ consume (consume l xs) ys
unfolding consume
consume_append l [] ys = refl
consume_append l (p ∷ xs) ys = consume_append (push l p) xs ys

-- names are pushed as they stand
pub consume_names : (l : List Piece) (ns : List (List ℕ)) → consume l (map fragment ns) ≡ l ++ map fragment ns
unfolding consume push
consume_names l [] = sym (append-nil l)
consume_names l (n ∷ ns) = consume_names (l ++ (fragment n ∷ [])) ns ∙ append_assoc l (fragment n ∷ []) (map fragment ns)

pub consume_piece : (l m : List Piece) (p : Piece) → consume l (push m p) ≡ push (consume l m) p
unfolding push consume
consume_piece l m (str a t) = consume_push l m a t
consume_piece l m (fragment n) = consume_append l m (fragment n ∷ [])

-- Pieces pushed into a line and this into another.
pub consume_again : (l m ps : List Piece) → consume l (consume m ps) ≡ consume (consume l m) ps
unfolding consume
consume_again l m [] = refl
consume_again l m (p ∷ ps) = consume_again l (push m p) ps ∙ ap (λ (x : List Piece). consume x ps) (consume_piece l m p)

-- ---- THE NAMES FIRST

-- a text
pub names_first : (ns : List (List ℕ)) (ps : List Piece) → in_names ns ps ≡ consume (map fragment ns) ps
unfolding in_names
names_first ns ps = ap (λ (l : List Piece). consume l ps) (consume_names [] ns)

insert_pushed : (l ps : List Piece) (a b : ℕ) (t : List ℕ) → consume l (insert_front ps a (b ∷ t)) ≡ consume (push_str l a (b ∷ t)) ps
unfolding insert_front consume push
insert_pushed l [] a b t = refl
insert_pushed l (fragment n ∷ ps) a b t = refl
insert_pushed l (str c x ∷ ps) a b t = go (eqb c a) refl
  where
    go : (y : Bool) → eqb c a ≡ y
        → consume l (if y then str c (b ∷ t ++ x) ∷ ps else str a (b ∷ t) ∷ str c x ∷ ps) ≡ consume (push_str (push_str l a (b ∷ t)) c x) ps
    go true e =
        rw (eqb-true c a e) (ap (λ (m : List Piece). consume m ps) (sym (push_twice l a (b ∷ t) x)))
    go false e = refl

-- a guest's text: names, prefix, and then all pieces pushed
pub named_front : (ns : List (List ℕ)) (ps : List Piece) (a : ℕ) (t : List ℕ)
    → in_names ns (in_front ps a t) ≡ consume (push_str (map fragment ns) a t) ps
unfolding push_str
named_front ns ps a [] = names_first ns ps
named_front ns ps a (b ∷ t) = names_first ns (in_front ps a (b ∷ t)) ∙ insert_pushed (map fragment ns) ps a b t

-- a guest's border, now text: names, prefix, marks
pub named_drawn : (ns : List (List ℕ)) (a : ℕ) (p t : List ℕ)
    → in_names ns (push_str (push_str [] a p) a t) ≡ push_str (push_str (map fragment ns) a p) a t
unfolding consume
named_drawn ns a p t =
    names_first ns (push_str (push_str [] a p) a t) ∙ consume_push (map fragment ns) (push_str [] a p) a t
    ∙ ap (λ (l : List Piece). push_str l a t) (consume_push (map fragment ns) [] a p)

-- ---- a line of the row

column_again : (s : RenderOptions) (l line : List Piece) (c : Column) (ls : List RenderLine) → consume l (add_column s line c ls) ≡ add_column s (consume l line) c ls
column_again s l line c [] = consume_push l line s.annotation _
column_again s l line c (text ps ∷ ls) =
    consume_push l (consume line ps) s.annotation (replicate (c.to - width ps) 0x20)
    ∙ ap (λ (m : List Piece). push_str m s.annotation (replicate (c.to - width ps) 0x20)) (consume_again l line ps)
column_again s l line c (border a segs hs ∷ ls) = consume_push l line s.annotation _

line_again : (s : RenderOptions) (l line : List Piece) (cs : List Column) → consume l (column_line s line cs) ≡ column_line s (consume l line) cs
unfolding column_line
line_again s l line [] = refl
line_again s l line (c ∷ []) = column_again s l line c c.lines
line_again s l line (c ∷ d ∷ cs) =
    line_again s l (push_str (add_column s line c c.lines) s.annotation (edge s)) (d ∷ cs)
    ∙ ap (λ (m : List Piece). column_line s m (d ∷ cs))
    (consume_push l (add_column s line c c.lines) s.annotation (edge s) ∙ ap (λ (m : List Piece). push_str m s.annotation (edge s)) (column_again s l line c c.lines))

-- The first line of the row starts with the names.
pub named_row : (s : RenderOptions) (ns : List (List ℕ)) (cs : List Column) → in_names ns (column_line s [] cs) ≡ column_line s (map fragment ns) cs
unfolding consume
named_row s ns cs = names_first ns (column_line s [] cs) ∙ line_again s (map fragment ns) [] cs
