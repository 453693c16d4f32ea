-- The names that wait at the end of a block: each that comes where the open word has no text, in order. How code ends a block: after
-- `flush_word` what is left in the word is the names that wait, so no test is needed before it.
-- Assumes nothing.
use Rattle.std.proofs.Common.{◌≡◌, ℕ, ◌+◌, Bool, true, false, not, leb, List, [], ◌∷◌, ◌++◌, sym, refl, ap}
use Rattle.std.specs.Prelude.{if◌then◌else◌}
use Rattle.characters.proofs.Tests.{by_if}
use Rattle.fields.specs.declared.job.Setup.{Setup}
use Rattle.block.specs.Result.{Result, good, too_narrow, ◌>>=◌, OnGood}
use Rattle.block.specs.Flat.{char, name, Line, columns, has_text, Block, with_wrapped, left, put_word, wrap_word, flat_flush_line, flat_flush_word, flat_add_element, flat_into_lines, names_in, trailing, ended, flat_flush_wrapping}
use Rattle.block.proofs.Results.{good_map}
use Rattle.block.proofs.Same.{bare_wrap}
use Rattle.block.proofs.NonSpaces.{text_name}

-- ---- which names wait

names_snoc : (l : Line) (n : List ℕ) → names_in (l ++ (name n ∷ [])) ≡ names_in l ++ (n ∷ [])
unfolding names_in
names_snoc [] n = refl
names_snoc (char c t ∷ l) n = names_snoc l n
names_snoc (name m ∷ l) n = ap (λ (ns : List (List ℕ)). m ∷ ns) (names_snoc l n)

-- A NAME WAITS where it comes and the open word has no text, behind those that wait already.
pub name_waits : (n : List ℕ) (b : Block) → has_text b.word ≡ false → trailing (flat_add_element n b) ≡ trailing b ++ (n ∷ [])
unfolding trailing flat_add_element
name_waits n b e = rw (text_name b.word n, e) (names_snoc b.word n)

-- Where the open word has text no name waits: its names stay with it.
pub none_wait : (b : Block) → has_text b.word ≡ true → trailing b ≡ []
unfolding trailing
none_wait b e = rw e

-- ---- the end of a block

-- The names that wait are those left in the word after `flush_word`.
pub word_left : (s : Setup) (b : Block) → OnGood (λ (c : Block). names_in c.word ≡ trailing b) (flat_flush_word s b)
unfolding flat_flush_word trailing names_in put_word
word_left s b = go (has_text b.word)
  where
    go : (x : Bool)
        → OnGood (λ (c : Block). names_in c.word ≡ (if x then [] else names_in b.word))
        (if not x then good b else if leb (b.wslen + columns b.word) (left s b) then good (put_word (with_wrapped false b)) else wrap_word s b)
    go false = refl
    go true =
        by_if (OnGood (λ (c : Block). names_in c.word ≡ [])) (leb (b.wslen + columns b.word) (left s b)) (λ _. refl)
        (λ _. good_map (wrap_word s b) (λ c k. ap names_in k.0) (bare_wrap s b))

-- THE END OF A BLOCK AS CODE FOLLOWS IT: `flush_word`, `flush_line`, and the names left in the word.
pub ends_flat : (s : Setup) (b : Block) → flat_flush_wrapping s b ≡ (flat_flush_word s b >>= λ (c : Block). good (ended (flat_flush_line s c).text (names_in c.word)))
unfolding flat_flush_wrapping flat_into_lines
ends_flat s b = go (flat_flush_word s b) (word_left s b)
  where
    go : (r : Result Block) → OnGood (λ (c : Block). names_in c.word ≡ trailing b) r
        → (r >>= (λ c. good (flat_flush_line s c).text) >>= λ ls. good (ended ls (trailing b))) ≡ (r >>= λ (c : Block). good (ended (flat_flush_line s c).text (names_in c.word)))
    go (good c) h = ap (λ (ns : List (List ℕ)). good (ended (flat_flush_line s c).text ns)) (sym h)
    go too_narrow h = refl
