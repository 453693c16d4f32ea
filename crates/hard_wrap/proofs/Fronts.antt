-- The first piece of a word, or its first name, in the buffers.
-- Assumes nothing.
use mathlib.Core.Path.{◌≡◌, refl, sym, ap, ◌∙◌}
use mathlib.Core.Bool.{Bool, true, false}
use mathlib.Core.List.{List, [], ◌∷◌, ◌++◌, map}
use Prim.Native.Nat.{ℕ, suc, ◌<◌, ◌≤◌}
use native.Mathlib.Omega.{arith}
use lib.ListN.{length, take, drop}
use Rattle.characters.specs.Utf8.{text_bytes}
use Rattle.characters.proofs.RoundTrip.{Scalars}
use Rattle.block.specs.Tag.{Tag, same_tag}
use Rattle.block.specs.Flat.{Line, char, name}
use Rattle.lines.specs.Items.{Item, item, zip, byte_of, tag_of, mark_tag, name_tag}
use Rattle.lines.specs.Encode.{run_t, starts_with}
use Rattle.lines.specs.Bridge.{num, tagged, enc, Valid, text, Cut}
use Rattle.lines.proofs.Buffers.{zip_bytes, zip_tags, zip_drop, drop_tagged}
use Rattle.lines.proofs.Encoded.{enc_append, enc_text, starts_cut, starts_after_name, run_text, run_name, num_small, utf8_some, valid_text_scalars}
use Rattle.block.proofs.Group.{same_tag_lem}

-- the characters of one tag in front of a line, and what does not go on with them
pub record Front (t : Tag) (l : Line) : Type 0 where
  pub cs : List ℕ
  pub more : Line
  pub is : l ≡ text t cs ++ more
  pub cut : Cut t more

-- Every line has such a front.
pub front : (t : Tag) (l : Line) → Front t l
front t [] = record { cs = []; more = []; is = refl; cut = tt }
front t (name n ∷ l) = record { cs = []; more = name n ∷ l; is = refl; cut = tt }
front t (char c u ∷ l) = go (same_tag t u) refl (front t l)
  where
    go : (e : Bool) → same_tag t u ≡ e → Front t l → Front t (char c u ∷ l)
    go true e f = record { cs = c ∷ f.cs; more = f.more; is = ap (λ (z : Tag). char c z ∷ l) (sym (same_tag_lem t u e)) ∙ ap (λ (z : Line). char c t ∷ z) f.is; cut = f.cut }
    go false e f = record { cs = []; more = char c u ∷ l; is = refl; cut = e }

bytes_front : (t : ℕ) (x : List ℕ) (l : List Item) → take (length x) (map byte_of (tagged t x ++ l)) ≡ x
unfolding tagged
bytes_front t [] l = refl
bytes_front t (b ∷ x) l = ap (λ (y : List ℕ). b ∷ y) (bytes_front t x l)

-- a word's first piece
pub record Piece (B T : List ℕ) (w : Line) (x k : ℕ) : Type 0 where
  pub t : Tag
  pub cs : List ℕ
  pub more : Line
  pub is : w ≡ text t cs ++ more
  pub cut : Cut t more
  pub tag : x ≡ num t
  pub ann : t.ann < 256
  pub scalars : Scalars cs
  pub valid : Valid more
  pub bytes : take k B ≡ text_bytes cs
  pub rest : zip (drop k B) (drop k T) ≡ enc more

-- a word's first name
pub record Named (B T : List ℕ) (w : Line) (k : ℕ) : Type 0 where
  pub n : List ℕ
  pub more : Line
  pub is : w ≡ name n ∷ more
  pub valid : Valid more
  pub rest : zip (drop k B) (drop k T) ≡ enc more

module _ (B : List ℕ) (x : ℕ) (T' : List ℕ) (same : length B ≡ length (x ∷ T')) where
  tags_are : (w : List Item) → zip B (x ∷ T') ≡ w → x ∷ T' ≡ map tag_of w
  tags_are w e = sym (zip_tags B (x ∷ T') same) ∙ ap (map tag_of) e

  bytes_are : (w : List Item) → zip B (x ∷ T') ≡ w → B ≡ map byte_of w
  bytes_are w e = sym (zip_bytes B (x ∷ T') same) ∙ ap (map byte_of) e

  -- the run of a text
  text_run : (n b : ℕ) (bs : List ℕ) (l : List Item) → zip B (x ∷ T') ≡ tagged n (b ∷ bs) ++ l → n < 196608 → starts_with n l ≡ false → (x ≡ n) × (suc (run_t x T') ≡ length (b ∷ bs))
  unfolding tagged
  text_run n b bs l e h s =
      let q = tags_are (tagged n (b ∷ bs) ++ l) e in
      let a : x ≡ n = cc in
      let m : T' ≡ map tag_of (tagged n bs ++ l) = cc in
      (a, ap suc (rw (a, m) (run_text n bs l h s)))

  name_run : (bs : List ℕ) (l : List Item) → zip B (x ∷ T') ≡ item 0 mark_tag ∷ tagged name_tag bs ++ l → starts_with mark_tag l ≡ false → starts_with name_tag l ≡ false → suc (run_t x T') ≡ suc (length bs)
  unfolding tagged
  name_run bs l e s s' =
      let q = tags_are (item 0 mark_tag ∷ tagged name_tag bs ++ l) e in
      let a : x ≡ mark_tag = cc in
      let m : T' ≡ map tag_of (tagged name_tag bs ++ l) = cc in
      ap suc (rw (a, m) (run_name mark_tag bs l s s'))

first_byte_lem : (c : ℕ) (cs : List ℕ) → text_bytes (c ∷ cs) ≡ (utf8_some c).first ∷ ((utf8_some c).more ++ text_bytes cs)
unfolding text_bytes
first_byte_lem c cs = ap (λ (z : List ℕ). z ++ text_bytes cs) (utf8_some c).is

-- Buffers that start with a tag of text start with a piece.
pub piece_front : (B : List ℕ) (x : ℕ) (T' : List ℕ) (w : Line) → length B ≡ length (x ∷ T') → Valid w → zip B (x ∷ T') ≡ enc w → x < mark_tag → Piece B (x ∷ T') w x (suc (run_t x T'))
unfolding enc
piece_front B x T' [] same v e h = absurd (let q : x ∷ T' ≡ [] = tags_are B x T' same [] e in let z : ◌≡◌ {A = ℕ} 0 1 = cc in omega arith)
piece_front B x T' (name n ∷ l) same v e h = absurd (let q = tags_are B x T' same (item 0 mark_tag ∷ tagged name_tag n ++ enc l) e in let a : x ≡ mark_tag = cc in omega arith)
piece_front B x T' (char c t ∷ l) same (sc, ann, v) e h =
    let f = front t l in
    let u = utf8_some c in
    let X : List ℕ = text_bytes (c ∷ f.cs) in
    let w : char c t ∷ l ≡ text t (c ∷ f.cs) ++ f.more = ap (λ (z : Line). char c t ∷ z) f.is in
    let vs = valid_text_scalars t f.cs f.more (rw f.is at v) in
    let en : zip B (x ∷ T') ≡ tagged (num t) X ++ enc f.more = e ∙ ap enc w ∙ enc_append (text t (c ∷ f.cs)) f.more ∙ ap (λ (z : List Item). z ++ enc f.more) (enc_text t (c ∷ f.cs)) in
    let Y : List ℕ = u.more ++ text_bytes f.cs in
    let xs : X ≡ u.first ∷ Y = first_byte_lem c f.cs in
    let r = text_run B x T' same (num t) u.first Y (enc f.more) (rw xs at en) (num_small t ann) (starts_cut t f.more ann vs.1 f.cut) in
    let k : suc (run_t x T') ≡ length X = r.1 ∙ ap length (sym xs) in
    record {
      t = t;
      cs = c ∷ f.cs;
      more = f.more;
      is = w;
      cut = f.cut;
      tag = r.0;
      ann = ann;
      scalars = (sc, vs.0);
      valid = vs.1;
      bytes = ap (λ (n : ℕ). take n B) k ∙ ap (take (length X)) (bytes_are B x T' same (tagged (num t) X ++ enc f.more) en) ∙ bytes_front (num t) X (enc f.more);
      rest = zip_drop (suc (run_t x T')) B (x ∷ T') ∙ ap (λ (n : ℕ). drop n (zip B (x ∷ T'))) k ∙ ap (drop (length X)) en ∙ drop_tagged (num t) X (enc f.more);
    }

-- Buffers that start with a mark start with a name.
pub name_front : (B : List ℕ) (x : ℕ) (T' : List ℕ) (w : Line) → length B ≡ length (x ∷ T') → Valid w → zip B (x ∷ T') ≡ enc w → mark_tag ≤ x → Named B (x ∷ T') w (suc (run_t x T'))
unfolding enc tagged
name_front B x T' [] same v e h = absurd (let q : x ∷ T' ≡ [] = tags_are B x T' same [] e in let z : ◌≡◌ {A = ℕ} 0 1 = cc in omega arith)
name_front B x T' (char c t ∷ l) same (sc, ann, v) e h =
    absurd (
    let u = utf8_some c in
    let en : zip B (x ∷ T') ≡ item u.first (num t) ∷ tagged (num t) u.more ++ enc l = e ∙ ap (λ (z : List ℕ). tagged (num t) z ++ enc l) u.is in
    let q = tags_are B x T' same (item u.first (num t) ∷ tagged (num t) u.more ++ enc l) en in
    let a : x ≡ num t = cc in
    let s = num_small t ann in
    omega arith)
name_front B x T' (name n ∷ l) same v e h =
    let k : suc (run_t x T') ≡ suc (length n) = name_run B x T' same n (enc l) e (starts_after_name mark_tag l (omega arith) v) (starts_after_name name_tag l (omega arith) v) in
    record {
      n = n;
      more = l;
      is = refl;
      valid = v;
      rest = zip_drop (suc (run_t x T')) B (x ∷ T') ∙ ap (λ (m : ℕ). drop m (zip B (x ∷ T'))) k ∙ ap (drop (suc (length n))) e ∙ drop_tagged name_tag n (enc l);
    }
