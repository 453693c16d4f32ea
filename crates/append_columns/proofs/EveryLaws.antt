-- What holds of the cells, of the V fields and of an empty cell holds of each cell of the row.
-- Assumes nothing.
use mathlib.Core.List.{List, [], ◌∷◌, ◌++◌}
use Prim.Native.Nat.{ℕ, ◌+◌, ◌-◌}
use lib.Dec.{ltb}
use Rattle.characters.proofs.Tests.{by_if}
use Rattle.fields.proofs.Back.{Every}
use Rattle.fields.specs.Spans.{Hanging, Cell}
use Rattle.rows.specs.Columns.{Slot, slot, cell_slots, hung_slot, slots_before, slots_at, next_pos, gap_slot, put_slot, slots_from, row_slots}

every_append : {A : Type 0} (P : A → Type 0) (l m : List A) → Every P l → Every P m → Every P (l ++ m)
every_append P [] m a b = b
every_append P (x ∷ l) m a b = (a.0, every_append P l m a.1 b)

every_before : (P : Slot → Type 0) (pos : ℕ) (xs : List Slot) → Every P xs → Every P (slots_before pos xs)
unfolding slots_before
every_before P pos [] h = tt
every_before P pos (x ∷ xs) h = by_if (Every P) (ltb x.pos pos) (λ _. (h.0, every_before P pos xs h.1)) (λ _. tt)

every_at : (P : Slot → Type 0) (pos : ℕ) (xs : List Slot) → Every P xs → Every P (slots_at pos xs)
unfolding slots_at
every_at P pos [] h = tt
every_at P pos (x ∷ xs) h = by_if (Every P) (ltb x.pos pos) (λ _. every_at P pos xs h.1) (λ _. h)

module _ (P : Slot → Type 0) (empty : (next w : ℕ) → P (slot next w 0 1 [])) where
  every_gap : (next pos : ℕ) → Every P (gap_slot next pos)
  every_gap next pos = by_if (Every P) (ltb next pos) (λ _. (empty next (pos - (next + 1)), tt)) (λ _. tt)

  every_put : (v : Hanging) (ys : List Slot) (n : ℕ) → P (hung_slot v) → Every P ys → Every P (put_slot v ys n)
  every_put v [] n b h = every_append P (gap_slot n v.pos) (hung_slot v ∷ []) (every_gap n v.pos) (b, tt)
  every_put v (y ∷ ys) n b h = (b, h.1)

  every_from : (vs : List Hanging) (xs : List Slot) (next : ℕ) → Every (λ (v : Hanging). P (hung_slot v)) vs → Every P xs → Every P (slots_from xs vs next)
  unfolding slots_from
  every_from [] xs next b h = h
  every_from (v ∷ vs) xs next b h =
      let n = next_pos v.pos xs next in
      every_append P (slots_before v.pos xs) (slots_from (put_slot v (slots_at v.pos xs) n) vs n) (every_before P v.pos xs h)
      (every_from vs (put_slot v (slots_at v.pos xs) n) n b.1 (every_put v (slots_at v.pos xs) n b.0 (every_at P v.pos xs h)))

  -- of a whole row
  pub every_row : (vs : List Hanging) (cs : List Cell) → Every (λ (v : Hanging). P (hung_slot v)) vs → Every P (cell_slots 0 cs) → Every P (row_slots vs cs)
  unfolding row_slots
  every_row vs cs b h = every_from vs (cell_slots 0 cs) 0 b h
