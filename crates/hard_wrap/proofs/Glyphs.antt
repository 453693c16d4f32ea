-- A decoded character is the first of the text.
-- Assumes nothing.
use mathlib.Core.Path.{◌≡◌, sym, ap, ◌∙◌}
use mathlib.Core.List.{List, ◌++◌}
use Prim.Native.Nat.{ℕ}
use native.Mathlib.Omega.{arith}
use lib.ListN.{length}
use Rattle.characters.specs.Utf8.{Scalar, char, decode_of, utf8}
use Rattle.characters.specs.Columns.{cols}
use Rattle.std.specs.Prelude as rust
use Rattle.characters.specs.declared.utf8.Char.{Char}
use Rattle.characters.proofs.RoundTrip.{same_char, decode_complete}
use Rattle.hard_wrap.specs.Walk.{Shows}

first_of_lem : (part : List ℕ) (c : ℕ) (rest : List ℕ) → Scalar c → part ≡ utf8 c ++ rest → decode_of part ≡ char c (length (utf8 c))
first_of_lem part c rest v e = rw e (decode_complete c v rest)

-- What is decoded shows the first character.
pub shown : (part : List ℕ) (code len k : ℕ) → decode_of part ≡ char code len → k ≡ cols code → Shows part len k
shown part code len k d e = λ c rest v f.
    let g : char code len ≡ char c (length (utf8 c)) = sym d ∙ first_of_lem part c rest v f in
    let x : code ≡ c = (same_char g).0 in
    let y : len ≡ length (utf8 c) = (same_char g).1 in
    (y, e ∙ ap cols x)

-- Bytes that are refused start with no character.
pub shown_bad : (part : List ℕ) → decode_of part ≡ rust.None → Shows part 1 0
shown_bad part d = λ c rest v f.
    let g : ◌≡◌ {A = rust.Option Char} rust.None (char c (length (utf8 c))) = sym d ∙ first_of_lem part c rest v f in
    absurd (let z : ◌≡◌ {A = ℕ} 0 1 = cc in omega arith)
