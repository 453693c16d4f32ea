-- What the iterator over a border's holes has left to give.
-- Assumes nothing: these are definitions.
use Rattle.std.specs.Prelude.{◌≡◌, ℕ, ◌<◌, List, [], ◌∷◌, length, Option, MatchOption, Result}
use Rattle.std.specs.declared.result.Result.TheVariants.{Ok, Err}
use denote.Ref.{Bor}
use Rattle.fields.specs.List.{whole_of}
use Rattle.fields.specs.Spans.{RawHole, punched, torn, raw_holes}
use Rattle.places.specs.declared.holes.Hole.{Hole}
use Rattle.fields.specs.declared.raw.Broken.{Broken}
use Rattle.places.specs.declared.holes.Holes.{Holes}

-- what an item is by the definitions: a place with a field, or a rest that is no hole
abbrev pub raw_item : Result Hole Broken → RawHole
raw_item (Ok h) = punched h.place (whole_of h.piece)
raw_item (Err e) = torn

-- the holes that are left
abbrev pub holes_left : Holes → List RawHole
holes_left it = raw_holes it.rest.now

-- `split`: the first hole that the definitions read, and where the others stand
abbrev pub SplitsHole : List ℕ → Option (Hole × Bor (List ℕ)) → Type 0
SplitsHole bs r = MatchOption r (0 < length bs → raw_holes bs ≡ torn ∷ []) (λ p. raw_holes bs ≡ raw_item (Ok p.0) ∷ raw_holes p.1.now)
