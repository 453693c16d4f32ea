-- Padding, a line's end, and text put on the line.
-- Assumes nothing.
use mathlib.Core.Path.{◌≡◌, sym, ap, ◌∙◌}
use mathlib.Core.Bool.{Bool, true, false, cond}
use mathlib.Core.List.{List, [], ◌∷◌, ◌++◌, map}
use Prim.Native.Nat.{ℕ, ◌+◌, ◌-◌, ◌<◌}
use native.Mathlib.Omega.{arith}
use lib.ListN.{replicate, length-append}
use Rattle.characters.specs.Columns.{str_width}
use Rattle.std.specs.Prelude.{if◌then◌else◌}
use Rattle.characters.specs.Utf8.{text_bytes}
use Rattle.characters.proofs.RoundTrip.{Scalars}
use Rattle.fields.specs.Job.{normal}
use Rattle.fields.specs.Spans.{lines_bytes}
use Rattle.fields.specs.Store.{Wrote}
use Rattle.fields.proofs.Sets.{wrote_then}
use Rattle.block.specs.Tag.{Tag, tag}
use Rattle.block.specs.Flat.{Line, Block, columns, spaces, flat_pad_to, finished, flat_force_flush_line, with_line, flat_sheet_line}
use Rattle.lines.specs.Items.{Item, item, Entries}
use Rattle.lines.specs.Encode.{line_field}
use Rattle.lines.specs.Bridge.{num, tagged, enc, Valid, text}
use Rattle.lines.proofs.Encoded.{enc_append, enc_text, enc_spaces, valid_append, valid_text, valid_spaces, lines_snoc}
use Rattle.lines.proofs.HardWrap.{columns_text}
use Rattle.hard_wrap.specs.Hold.{setup, Holds, Padded, padded}
use Rattle.hard_wrap.specs.declared.line.Frame.{Frame}
use Rattle.hard_wrap.specs.declared.line.OpenLine.{OpenLine}
use Rattle.block.proofs.Width.{columns_append}

num_normal : (d : ℕ) → num (tag d normal) ≡ d
unfolding num
num_normal d = omega arith

-- the padded items are those of the finished line
padded_enc : (o : OpenLine) (l : Line) → o.entries.items ≡ enc l → o.frame.default_tag < 256 → o.cols ≡ columns l → padded o ≡ enc (finished (setup o.frame) l)
unfolding padded finished flat_pad_to
padded_enc o l i h e = go o.frame.pad
  where
    go : (p : Bool)
        → cond p (o.entries.items ++ replicate (o.frame.width - o.cols) (item 0x20 o.frame.default_tag)) o.entries.items
        ≡ enc (if p then l ++ spaces (o.frame.width - columns l) (tag o.frame.default_tag normal) else l)
    go true =
        let t : Tag = tag o.frame.default_tag normal in
        sym (enc_append l (spaces (o.frame.width - columns l) t) ∙ rw (enc_spaces (o.frame.width - columns l) t, num_normal o.frame.default_tag, e, i))
    go false = i

finished_valid : (f : Frame) (l : Line) → f.default_tag < 256 → Valid l → Valid (finished (setup f) l)
unfolding finished flat_pad_to
finished_valid f l h v = go f.pad
  where
    go : (p : Bool) → Valid (if p then l ++ spaces (f.width - columns l) (tag f.default_tag normal) else l)
    go true = valid_append l (spaces (f.width - columns l) (tag f.default_tag normal)) v (valid_spaces (f.width - columns l) (tag f.default_tag normal) h)
    go false = v

-- A line's end: the padded line is written, and the next one is empty.
pub closes : (o p r : OpenLine) (d₀ : List ℕ) (base : ℕ) (b : Block) → o.frame.default_tag < 256
    → Padded o p → Wrote p.text.out.now p.text.place (line_field p.entries.items) r.text.out.now r.text.place
    → r.entries.items ≡ [] → r.cols ≡ 0 → r.text.lines ≡ p.text.lines + 1
    → Holds d₀ base b o → Holds d₀ base (flat_force_flush_line (setup o.frame) b) r
unfolding flat_force_flush_line enc columns
closes o p r d₀ base b h e w u v m g =
    let fin = finished (setup o.frame) b.line in
    let i : p.entries.items ≡ enc fin = e.items ∙ padded_enc o b.line g.line h g.cols in
    let s : lines_bytes (map flat_sheet_line (b.text ++ (fin ∷ []))) ≡ lines_bytes (map flat_sheet_line b.text) ++ line_field p.entries.items =
    lines_snoc b.text fin (finished_valid o.frame b.line h g.valid) ∙ ap (λ (l : List Item). lines_bytes (map flat_sheet_line b.text) ++ line_field l) (sym i) in
    let y : Wrote d₀ base (lines_bytes (map flat_sheet_line b.text)) o.text.out.now o.text.place = record { place = g.place; store = g.store } in
    let z : Wrote o.text.out.now o.text.place (line_field p.entries.items) r.text.out.now r.text.place = rw e.text at w in
    let x : Wrote d₀ base (lines_bytes (map flat_sheet_line (b.text ++ (fin ∷ [])))) r.text.out.now r.text.place = rw s (wrote_then y z) in
    record {
      line = u;
      valid = tt;
      cols = v;
      store = x.store;
      place = x.place;
      lines = (let k = g.lines in let n : r.text.lines ≡ o.text.lines + 1 = rw e.text at m in omega (arith, length-append b.text (fin ∷ [])));
    }

-- Text on the line.
pub puts : (o : OpenLine) (e : Entries) (d₀ part : List ℕ) (base tag used : ℕ) (b : Block) (t : Tag) (cs : List ℕ)
    → e.items ≡ o.entries.items ++ tagged tag part
    → Holds d₀ base b o → tag ≡ num t → t.ann < 256 → Scalars cs → part ≡ text_bytes cs → used ≡ str_width cs
    → Holds d₀ base (with_line (b.line ++ text t cs) b) (record { frame = o.frame; entries = e; cols = o.cols + used; text = o.text })
puts o e d₀ part base tag used b t cs i g ta h v p w =
    record {
      line = i ∙ rw (g.line, ta, p) (sym (enc_append b.line (text t cs) ∙ ap (λ (x : List Item). enc b.line ++ x) (enc_text t cs)));
      valid = valid_append b.line (text t cs) g.valid (valid_text t cs h v);
      cols = (let a = columns_append b.line (text t cs) in let k = columns_text t cs in let j = g.cols in omega arith);
      store = g.store;
      place = g.place;
      lines = g.lines;
    }
