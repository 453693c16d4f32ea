-- Lines added where names wait, as code can follow it: the names go into the first text among the new lines, or wait on. That `extend_lines`
-- gives the same is proved (proofs/Adding, `extend_named`).
-- Assumes nothing: these are definitions.
use Rattle.std.specs.Prelude.{ℕ, List, [], ◌∷◌}
use Rattle.fields.specs.Spans.{RenderLine, text, border}
use Rattle.rows.specs.SubRenderer.{with_names}

-- the new lines, the first text among them with the names in front
unfoldable pub named_lines : List (List ℕ) → List RenderLine → List RenderLine
named_lines ns [] = []
named_lines ns (text ps ∷ ls) = with_names ns (text ps) ∷ ls
named_lines ns (border a segs hs ∷ ls) = border a segs hs ∷ named_lines ns ls

-- the names that wait on, where none of them is text
unfoldable pub names_left : List (List ℕ) → List RenderLine → List (List ℕ)
names_left ns [] = ns
names_left ns (text ps ∷ ls) = []
names_left ns (border a segs hs ∷ ls) = names_left ns ls
