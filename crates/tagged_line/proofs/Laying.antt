-- Laws of the pieces of a content, read field by field and laid on a line.
-- Assumes nothing.
use mathlib.Core.Path.{◌≡◌, refl, sym, ap, ap₂, ◌∙◌}
use mathlib.Core.Bool.{Bool, true, false}
use mathlib.Core.Option.{none, some}
use mathlib.Core.List.{List, [], ◌∷◌, ◌++◌, append-nil, append_assoc}
use Prim.Native.Nat.{ℕ, ◌+◌, ◌-◌, ◌*◌, ◌^◌, ◌≤◌, ◌<◌}
use native.Mathlib.Omega.{arith}
use lib.Dec.{eqb}
use lib.ListN.{length, take, drop, get_or, length-append}
use lib.Seq.{sets}
use borrow.Author.Tests.{eqb-true, eqb-false, eq-eqb, ne_eqb}
use Rattle.std.specs.Prelude.{if◌then◌else◌}
use Rattle.characters.proofs.Tests.{and_left, and_right}
use Rattle.fields.specs.Field.{field, Raw, whole, broken, raws, read_all, all}
use Rattle.fields.specs.Sheet.{Piece, str, fragment, read_str, read_piece, readable_piece, piece_bytes, pieces_bytes}
use Rattle.fields.specs.Store.{Wrote}
use Rattle.fields.specs.Widths.{text_width, piece_width, width}
use Rattle.fields.proofs.Texts.{rest}
use Rattle.fields.proofs.Readings.{read_first, read_none}
use Rattle.fields.proofs.Sizes.{raws_size, raws_bytes}
use Rattle.fields.proofs.Back.{every_append, Every}
use Rattle.fields.proofs.Sets.{sets_append, wrote_none, wrote_then}
use Rattle.block.proofs.Bounds.{length_field}
use Rattle.fields.specs.Text.{WellFormed}
use Rattle.fields.specs.TaggedLine.{WellFormedPiece, join, push, add_piece, add_pieces}
use Rattle.rows.proofs.Lines.{line_width_append, readable_formed}
use Rattle.rows.proofs.Reading.{every_from}
use Rattle.tagged_line.specs.Held.{Within, LineGrown, Held, Pushes}
use Rattle.tagged_line.specs.Pieces.{PiecesOf, AddsFragment, AddsTextPiece, AddsPiece, AddsPieces, Copies}
use Rattle.tagged_line.specs.declared.line.Line.{Line}
use Rattle.tagged_line.proofs.Holding.{pieces_append}

-- ---- a piece after the others, as it stands

-- the bytes of a last piece
bytes_last : (l : List Piece) (q : Piece) → pieces_bytes (l ++ (q ∷ [])) ≡ pieces_bytes l ++ piece_bytes q
unfolding pieces_bytes
bytes_last l q = pieces_append l (q ∷ []) ∙ ap (λ (x : List ℕ). pieces_bytes l ++ x) (append-nil (piece_bytes q))

-- their number
length_last : (l : List Piece) (q : Piece) → length (pieces_bytes (l ++ (q ∷ []))) ≡ length (pieces_bytes l) + length (piece_bytes q)
length_last l q = ap length (bytes_last l q) ∙ length-append (pieces_bytes l) (piece_bytes q)

-- text after a name is a piece of its own
join_fragment : (l : List Piece) (n : List ℕ) (a : ℕ) (t : List ℕ) → join (l ++ (fragment n ∷ [])) a t ≡ l ++ (fragment n ∷ str a t ∷ [])
unfolding join
join_fragment [] n a t = refl
join_fragment (p ∷ []) n a t = ap (λ (m : List Piece). p ∷ m) (join_fragment [] n a t)
join_fragment (p ∷ q ∷ l) n a t = ap (λ (m : List Piece). p ∷ m) (join_fragment (q ∷ l) n a t)

-- a piece is written at the end of a line that is held
module _ (st : List ℕ) (l : List Piece) (out out' : List ℕ) (p : Line) (end : ℕ) (q : Piece) (h : Held st l out p)
    (w : Wrote out p.at (piece_bytes q) out' end) where
  last_bytes : length (pieces_bytes (l ++ (q ∷ []))) ≤ 65535 → out' ≡ sets st p.base (pieces_bytes (l ++ (q ∷ [])))
  last_bytes short =
      w.store
      ∙ ap₂ (λ (x : List ℕ) (i : ℕ). sets x i (piece_bytes q)) (h.bytes (omega (arith, length_last l q))) h.place
      ∙ sym (sets_append st p.base (pieces_bytes l) (piece_bytes q))
      ∙ ap (sets st p.base) (sym (bytes_last l q))

  last_place : end ≡ p.base + length (pieces_bytes (l ++ (q ∷ [])))
  last_place =
      omega (arith, w.place, h.place, length_last l q)

  last_cols : (n : ℕ) → n ≡ piece_width q → p.cols + n ≡ width (l ++ (q ∷ []))
  unfolding width
  last_cols n e = omega (arith, h.cols, line_width_append l (q ∷ []))

-- A name, written at the end of a line.
pub laid_fragment : (out out' : List ℕ) (p : Line) (end : ℕ) (n : List ℕ) → Wrote out p.at (field 0x46 n) out' end
    → AddsFragment out p n out' (record { base = p.base; at = end; piece = end; annotation = p.annotation; cols = p.cols })
laid_fragment out out' p end n w st l h =
    record {
      bytes = last_bytes st l out out' p end (fragment n) h w;
      place = last_place st l out out' p end (fragment n) h w;
      cols = omega (arith, last_cols st l out out' p end (fragment n) h w 0 refl);
      valid = every_append WellFormedPiece l (fragment n ∷ []) h.valid (tt, tt);
      opened = λ z. absurd (omega arith);
      closed = λ _ a t. join_fragment l n a t ∙ sym (append_assoc l (fragment n ∷ []) (str a t ∷ []));
    }

-- what an S field's content is read as
read_str_lem : (t : List ℕ) (q : Piece) → read_str t ≡ some q
    → (2 ≤ length t) × (q ≡ str (get_or t 0 0) (drop 1 t)) × (piece_bytes q ≡ field 0x53 t)
read_str_lem [] q e = absurd (let z : ◌≡◌ {A = ℕ} 0 1 = cc in omega arith)
read_str_lem (a ∷ []) q e = absurd (let z : ◌≡◌ {A = ℕ} 0 1 = cc in omega arith)
read_str_lem (a ∷ b ∷ t) q e = let k : q ≡ str a (b ∷ t) = cc in (omega arith, k, ap piece_bytes k)

-- What is too short holds no text.
pub laid_short : (out : List ℕ) (p : Line) (t : List ℕ) (joins : Bool) → length t < 2 → AddsTextPiece out p t joins out p
laid_short out p t joins k q e r st l h = absurd (omega (arith, (read_str_lem t q e).0))

-- A piece that passes refusal 3 is well-formed.
pub formed : (q : Piece) → readable_piece q ≡ true → WellFormedPiece q
formed (str a t) e = readable_formed false t e
formed (fragment n) e = tt

-- So are pieces that do.
pub all_formed : (ps : List Piece) → all readable_piece ps ≡ true → Every WellFormedPiece ps
all_formed ps e = every_from WellFormedPiece readable_piece formed ps e

-- A text, pushed.
pub laid_joined : (out out' : List ℕ) (p r : Line) (t : List ℕ) (joins : Bool) (c : ℕ) → joins ≡ true
    → c ≡ text_width (take (length t - 1) (drop 1 t)) → Pushes out p (get_or t 0 0) (take (length t - 1) (drop 1 t)) c out' r
    → AddsTextPiece out p t joins out' r
unfolding add_piece push
laid_joined out out' p r t joins c ej ec f q e ok st l h =
    let (long, eq, eb) = read_str_lem t q e in
    let k : WellFormed (drop 1 t) = readable_formed false (drop 1 t) (sym (ap readable_piece eq) ∙ ok) in
    rw (ej, eq) (rw (rest t 1) at f st l h k (sym (ec ∙ ap text_width (rest t 1))))

-- A text, written at the end of a line as it stands.
pub laid_apart : (out out' : List ℕ) (p : Line) (end : ℕ) (t : List ℕ) (joins : Bool) (c : ℕ) → joins ≡ false
    → c ≡ text_width (take (length t - 1) (drop 1 t)) → Wrote out p.at (field 0x53 t) out' end
    → AddsTextPiece out p t joins out' (record { base = p.base; at = end; piece = p.at; annotation = get_or t 0 0; cols = p.cols + c })
unfolding add_piece field
laid_apart out out' p end t joins c ej ec w q e ok st l h =
    let (long, eq, eb) = read_str_lem t q e in
    let v : Wrote out p.at (piece_bytes q) out' end = rw eb w in
    let n : c ≡ piece_width q = ec ∙ ap text_width (rest t 1) ∙ sym (ap piece_width eq) in
    rw ej
    (record {
      bytes = last_bytes st l out out' p end q h v;
      place = last_place st l out out' p end q h v;
      cols = last_cols st l out out' p end q h v c n;
      valid = every_append WellFormedPiece l (q ∷ []) h.valid (formed q ok, tt);
      opened = λ _. (l, drop 1 t, ap (λ (x : Piece). l ++ (x ∷ [])) eq, h.place);
      closed = λ z. absurd (omega (arith, w.place));
    })

-- ---- a field

-- An S field.
pub laid_text : (out out' : List ℕ) (p r : Line) (letter : ℕ) (t : List ℕ) (joins : Bool) → letter ≡ 0x53
    → AddsTextPiece out p t joins out' r → AddsPiece out p (whole letter t) joins out' r
unfolding read_piece
laid_text out out' p r letter t joins el f q e ok st l h = f q (rw (eq-eqb letter 0x53 el) at e) ok st l h

-- what another field is read as
read_name_lem : (letter : ℕ) (t : List ℕ) (q : Piece) → (letter ≡ 0x53 → ⊥) → read_piece (whole letter t) ≡ some q
    → (q ≡ fragment t) × (letter ≡ 0x46)
unfolding read_piece
read_name_lem letter t q d e = go (eqb letter 0x46) refl (rw (ne_eqb letter 0x53 d) at e)
  where
    go : (b : Bool) → eqb letter 0x46 ≡ b → (if b then some (fragment t) else none) ≡ some q → (q ≡ fragment t) × (letter ≡ 0x46)
    go true k x = (cc, eqb-true letter 0x46 k)
    go false k x = absurd (let z : ◌≡◌ {A = ℕ} 0 1 = cc in omega arith)

-- a name is put after the others whether texts join or not
add_name : (joins : Bool) (l : List Piece) (n : List ℕ) → add_piece joins l (fragment n) ≡ l ++ (fragment n ∷ [])
unfolding add_piece push
add_name true l n = refl
add_name false l n = refl

-- An F field.
pub laid_name : (out out' : List ℕ) (p r : Line) (letter : ℕ) (t : List ℕ) (joins : Bool) → (letter ≡ 0x53 → ⊥)
    → AddsFragment out p t out' r → AddsPiece out p (whole letter t) joins out' r
laid_name out out' p r letter t joins d f q e ok st l h = rw ((read_name_lem letter t q d e).0, add_name joins l t) (f st l h)

-- ---- copying

-- what is read as a piece is written as it stands
read_written : (letter : ℕ) (t : List ℕ) (q : Piece) → read_piece (whole letter t) ≡ some q → piece_bytes q ≡ field letter t
unfolding read_piece
read_written letter t q e = go (eqb letter 0x53) refl
  where
    go : (b : Bool) → eqb letter 0x53 ≡ b → piece_bytes q ≡ field letter t
    go true k =
        let el = eqb-true letter 0x53 k in
        rw el (read_str_lem t q (rw k at e)).2
    go false k =
        let (eq, el) = read_name_lem letter t q (eqb-false letter 0x53 k) e in
        rw (eq, el)

-- Some fields of a content are copied, of so many bytes, and the others are left.
pub record Copying (out₀ : List ℕ) (place : ℕ) (content out : List ℕ) (to : ℕ) (left : List Raw) : Type 0 where
  pub copied : ℕ
  pub room : copied + raws_size left ≤ length content
  pub moved : to ≡ place + copied
  pub size : length out ≡ length out₀
  pub pieces : (ps : List Piece) → PiecesOf content ps
      → (qs : List Piece) × (rs : List Piece) × (read_all read_piece left ≡ some rs) × (qs ++ rs ≡ ps) × Wrote out₀ place (pieces_bytes qs) out to

-- before the first
pub copy_start : (out : List ℕ) (place : ℕ) (content : List ℕ) (left : List Raw) → left ≡ raws content → Copying out place content out place left
unfolding pieces_bytes
copy_start out place content left e =
    rw e
    (record {
      copied = 0;
      room = omega (arith, raws_bytes content);
      moved = omega arith;
      size = refl;
      pieces = λ ps reads. ([], ps, reads, refl, wrote_none out place);
    })

module _ (out₀ : List ℕ) (place : ℕ) (content out : List ℕ) (to : ℕ) (left : List Raw) (w : Copying out₀ place content out to left) where
  -- the room that is left for a field
  pub copy_room : (letter : ℕ) (t : List ℕ) (rest : List Raw) → left ≡ whole letter t ∷ rest → place + length content < 2 ^ 62 → to + 3 + length t < 2 ^ 62
  copy_room letter t rest e few =
      let n : raws_size left ≡ 3 + length t + raws_size rest = ap raws_size e in
      omega (arith, w.room, w.moved, few)

  -- one field on
  pub copy_on : (out' : List ℕ) (r letter : ℕ) (t : List ℕ) (rest : List Raw) → left ≡ whole letter t ∷ rest → length out' ≡ length out
      → Wrote out to (field letter t) out' r → Copying out₀ place content out' r rest
  copy_on out' r letter t rest e k v =
      let n : raws_size left ≡ 3 + length t + raws_size rest = ap raws_size e in
      record {
        copied = w.copied + (3 + length t);
        room = omega (arith, w.room);
        moved = omega (arith, w.moved, v.place, length_field letter t);
        size = k ∙ w.size;
        pieces = λ ps reads.
            let (qs, rs, left_reads, all_are, u) = w.pieces ps reads in
            let x = read_first read_piece (whole letter t) rest rs (rw e at left_reads) in (
              qs ++ (x.one ∷ []),
              x.more,
              x.later,
              append_assoc qs (x.one ∷ []) x.more ∙ ap (λ (z : List Piece). qs ++ z) (sym x.are) ∙ all_are,
              rw (bytes_last qs x.one, read_written letter t x.one x.first) (wrote_then u v),
            );
      }

  -- a rest that is no field
  pub copy_broken : (rest : List Raw) → left ≡ broken ∷ rest → Copying out₀ place content out to rest
  unfolding read_piece
  copy_broken rest e =
      let n : raws_size left ≡ raws_size rest = ap raws_size e in
      record {
        copied = w.copied;
        room = omega (arith, w.room);
        moved = w.moved;
        size = w.size;
        pieces = λ ps reads.
            let (qs, rs, left_reads, all_are, u) = w.pieces ps reads in
            let x = read_first read_piece broken rest rs (rw e at left_reads) in
            let none_is : none ≡ some x.one = x.first in
            absurd (let z : ◌≡◌ {A = ℕ} 0 1 = cc in omega arith);
      }

  -- past the last
  pub copy_end : left ≡ [] → Copies out₀ place content out to
  copy_end e ps reads =
      let (qs, rs, left_reads, all_are, u) = w.pieces ps reads in
      let none_left : rs ≡ [] = read_none read_piece rs (rw e at left_reads) in
      let all : qs ≡ ps = sym (append-nil qs) ∙ ap (λ (z : List Piece). qs ++ z) (sym none_left) ∙ all_are in
      rw (← all) u

-- ---- all fields, one after the other

-- so much growth is more
pub grown_more : (p r : Line) (n m : ℕ) → LineGrown p r n → n ≤ m → LineGrown p r m
grown_more p r n m g k =
    record { base = g.base; piece = g.piece; on = g.on; at = omega (arith, g.at); wider = g.wider; cols = omega (arith, g.cols) }

-- nothing is put in
pub grown_none : (p : Line) (n m : ℕ) → Within p n → LineGrown p p m
grown_none p n m w =
    record { base = refl; piece = w.piece; on = omega arith; at = omega arith; wider = omega arith; cols = omega arith }

-- the fields of a list, laid
abbrev AddsFields : List ℕ → Line → List Raw → Bool → Bool → List ℕ → Line → Type 0
AddsFields out p fields joins rejoins out' r =
    (ps : List Piece) → read_all read_piece fields ≡ some ps → all readable_piece ps ≡ true
    → (st : List ℕ) (l : List Piece) → Held st l out p → Held st (add_pieces joins rejoins l ps) out' r

-- No field more.
adds_none : (out : List ℕ) (p : Line) (joins rejoins : Bool) → AddsFields out p [] joins rejoins out p
unfolding add_pieces
adds_none out p joins rejoins ps e ok st l h = rw (read_none read_piece ps e) h

-- A rest that is no field reads as no pieces.
adds_broken : (out out' : List ℕ) (p r : Line) (rest : List Raw) (joins rejoins : Bool) → AddsFields out p (broken ∷ rest) joins rejoins out' r
unfolding read_piece
adds_broken out out' p r rest joins rejoins ps e ok st l h =
    let x = read_first read_piece broken rest ps e in
    let none_is : none ≡ some x.one = x.first in
    let z : ◌≡◌ {A = ℕ} 0 1 = cc in absurd (omega arith)

-- A field, and those after it.
adds_on : (out mid out' : List ℕ) (p q r : Line) (field : Raw) (rest : List Raw) (joins rejoins : Bool)
    → AddsPiece out p field joins mid q → AddsFields mid q rest rejoins rejoins out' r → AddsFields out p (field ∷ rest) joins rejoins out' r
unfolding add_pieces all
adds_on out mid out' p q r field rest joins rejoins one others ps e ok st l h =
    let x = read_first read_piece field rest ps e in
    let both : all readable_piece (x.one ∷ x.more) ≡ true = sym (ap (all readable_piece) x.are) ∙ ok in
    rw x.are
    (others x.more x.later (and_right (readable_piece x.one) (all readable_piece x.more) both) st (add_piece joins l x.one)
    (one x.one x.first (and_left (readable_piece x.one) (all readable_piece x.more) both) st l h))

-- Some fields of a content are laid, of so many bytes, and the others are left.
pub record Laid (out₀ : List ℕ) (p₀ : Line) (content : List ℕ) (joins rejoins : Bool) (out : List ℕ) (p : Line) (join : Bool) (left : List Raw) : Type 0 where
  pub laid : ℕ
  pub room : laid + raws_size left ≤ length content
  pub grown : LineGrown p₀ p (3 * laid)
  pub size : length out ≡ length out₀
  pub pieces : (out' : List ℕ) (r : Line) → AddsFields out p left join rejoins out' r → AddsPieces out₀ p₀ content joins rejoins out' r

-- before the first
pub lay_start : (out : List ℕ) (p : Line) (content : List ℕ) (joins rejoins : Bool) (left : List Raw) (n : ℕ) → Within p n → left ≡ raws content
    → Laid out p content joins rejoins out p joins left
lay_start out p content joins rejoins left n w e =
    rw e
    (record {
      laid = 0;
      room = omega (arith, raws_bytes content);
      grown = grown_none p n 0 w;
      size = refl;
      pieces = λ out' r others. others;
    })

module _ (out₀ : List ℕ) (p₀ : Line) (content : List ℕ) (joins rejoins : Bool) (out : List ℕ) (p : Line) (join : Bool) (left : List Raw)
    (w : Laid out₀ p₀ content joins rejoins out p join left) where
  -- the room that is left for a field
  pub lay_room : (letter : ℕ) (t : List ℕ) (rest : List Raw) → left ≡ whole letter t ∷ rest → Within p₀ (4 + 3 * length content)
      → Within p (4 + 3 * length t)
  lay_room letter t rest e v =
      let n : raws_size left ≡ 3 + length t + raws_size rest = ap raws_size e in
      let g = w.grown in
      record {
        base = omega (arith, g.base, g.on, v.base);
        piece = g.piece;
        room = omega (arith, g.at, v.room, w.room);
        cols = omega (arith, g.cols, v.cols, w.room);
      }

  -- one field on
  pub lay_on : (out' : List ℕ) (r : Line) (letter : ℕ) (t : List ℕ) (rest : List Raw) → left ≡ whole letter t ∷ rest → length out' ≡ length out
      → LineGrown p r (3 + 3 * length t) → AddsPiece out p (whole letter t) join out' r
      → Laid out₀ p₀ content joins rejoins out' r rejoins rest
  lay_on out' r letter t rest e k g a =
      let n : raws_size left ≡ 3 + length t + raws_size rest = ap raws_size e in
      let g₀ = w.grown in
      record {
        laid = w.laid + (3 + length t);
        room = omega (arith, w.room);
        grown =
            record {
              base = g.base ∙ g₀.base;
              piece = g.piece;
              on = omega (arith, g.on, g₀.on);
              at = omega (arith, g.at, g₀.at);
              wider = omega (arith, g.wider, g₀.wider);
              cols = omega (arith, g.cols, g₀.cols);
            };
        size = k ∙ w.size;
        pieces = λ out'' z others. w.pieces out'' z (rw e (adds_on out out' out'' p r z (whole letter t) rest join rejoins a others));
      }

  -- a rest that is no field
  pub lay_broken : (rest : List Raw) → left ≡ broken ∷ rest → Laid out₀ p₀ content joins rejoins out p join rest
  lay_broken rest e =
      let n : raws_size left ≡ raws_size rest = ap raws_size e in
      record {
        laid = w.laid;
        room = omega (arith, w.room);
        grown = w.grown;
        size = w.size;
        pieces = λ out' r others. w.pieces out' r (rw e (adds_broken out out' p r rest join rejoins));
      }

  -- past the last
  pub lay_end : left ≡ [] → LineGrown p₀ p (3 * length content) × AddsPieces out₀ p₀ content joins rejoins out p
  lay_end e = (grown_more p₀ p (3 * w.laid) (3 * length content) w.grown (omega (arith, w.room)), w.pieces out p (rw e (adds_none out p join rejoins)))
