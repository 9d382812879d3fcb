-- Where a text stands in an input.
use Rattle.std.proofs.Common.{◌≡◌, ℕ, ◌+◌, ◌-◌, ◌≤◌, List, ◌++◌, length, take, drop, slice_range, sym, ap, ◌∙◌, append_assoc, length-append, arith}
use Rattle.std.proofs.Math.Seq.{take-append_seam, drop-append_seam}
use Rattle.wasm_shapes.specs.Tree.{Tree}
use Rattle.wasm_shapes.specs.Place.{Begins}
use Rattle.wasm_shapes.specs.Module.{frame}
use Rattle.wasm_read.specs.Frames.{custom_frame, numbered_frame}
use Rattle.wasm_read.specs.Operations.{frame_row}
use Rattle.wasm_read.specs.Reading.{CountRead, RowRead, Standing, place_of}
use Rattle.reencode_core.specs.Sinks.{RowsStand, StandsAt}

-- it ends within the input
pub ends_within : {input text : List ℕ} {end : ℕ} → StandsAt input text end → end ≤ length input
ends_within {input = input} {text = text} s =
    let a = ap length s.parts in
    let b = length-append s.front (text ++ s.behind) in
    let c = length-append text s.behind in
    omega (arith, a, b, c, s.place)

pub text_within : {input text : List ℕ} {end : ℕ} → StandsAt input text end → length text ≤ end
text_within s = omega (arith, s.place)

-- it is the range up to that place
pub is_range : {input text : List ℕ} {end : ℕ} → StandsAt input text end → slice_range input (end - length text) end ≡ text
is_range {input = input} {text = text} {end = end} s =
    let start : end - length text ≡ length s.front = omega (arith, s.place) in
    let len : end - length s.front ≡ length text = omega (arith, s.place) in
    ap (λ (n : ℕ). slice_range input n end) start
    ∙ ap (λ (n : ℕ). take n (drop (length s.front) input)) len
    ∙ ap (λ (z : List ℕ). take (length text) z) (ap (drop (length s.front)) s.parts ∙ drop-append_seam s.front (text ++ s.behind))
    ∙ take-append_seam text s.behind

-- ---- rows

-- the reader stands behind the count
pub rows_counted : (input body : List ℕ) (start : ℕ) (reader : Standing) → StandsAt input body (start + length body) → CountRead body reader → RowsStand input start reader
rows_counted input body start reader s c =
    let number : List ℕ = c.counted.0 in
    let body_is : body ≡ number ++ reader.rest = c.counted.2 in
    let len : length body ≡ length number + length reader.rest = ap length body_is ∙ length-append number reader.rest in
    let front_len = length-append s.front number in record {
      front = s.front ++ number;
      behind = s.behind;
      parts =
          s.parts ∙ ap (λ (z : List ℕ). s.front ++ z) (ap (λ (z : List ℕ). z ++ s.behind) body_is ∙ append_assoc number reader.rest s.behind)
          ∙ sym (append_assoc s.front number (reader.rest ++ s.behind));
      place = omega (arith, s.place, c.len, len, front_len);
      short = omega (arith, c.len, len);
    }

-- the reader stands behind a row
pub row_behind : (input body : List ℕ) (start : ℕ) (reader next : Standing) → RowsStand input start reader → RowRead frame_row reader (Tree.sized (Tree.raw body)) next → RowsStand input start next
row_behind input body start reader next s r =
    let text : List ℕ = r.begins.text in
    let rest_is : reader.rest ≡ text ++ next.rest = r.begins.reads in
    let len : length reader.rest ≡ length text + length next.rest = ap length rest_is ∙ length-append text next.rest in
    let front_len = length-append s.front text in record {
      front = s.front ++ text;
      behind = s.behind;
      parts =
          s.parts ∙ ap (λ (z : List ℕ). s.front ++ z) (ap (λ (z : List ℕ). z ++ s.behind) rest_is ∙ append_assoc text next.rest s.behind)
          ∙ sym (append_assoc s.front text (next.rest ++ s.behind));
      place = omega (arith, s.place, s.short, r.len, len, front_len);
      short = omega (arith, s.short, r.len, len);
    }

-- its body ends there
pub body_stands : (input body : List ℕ) (start : ℕ) (reader next : Standing) → RowsStand input start reader → RowRead frame_row reader (Tree.sized (Tree.raw body)) next →
    StandsAt input body (start + place_of next)
unfolding row_behind
body_stands input body start reader next s r =
    let next_stands = row_behind input body start reader next s r in
    let p = r.begins.spells.spelled in
    let number : List ℕ = p.0 in
    let text_is : r.begins.text ≡ number ++ body = p.2 ∙ ap (λ (z : List ℕ). number ++ z) p.4 in
    let text_len : length r.begins.text ≡ length number + length body = ap length text_is ∙ length-append number body in
    let front_len = length-append s.front r.begins.text in
    let number_len = length-append s.front number in record {
      front = s.front ++ number;
      behind = next.rest ++ s.behind;
      parts =
          next_stands.parts
          ∙ ap (λ (z : List ℕ). (s.front ++ z) ++ (next.rest ++ s.behind)) text_is
          ∙ ap (λ (z : List ℕ). z ++ (next.rest ++ s.behind)) (sym (append_assoc s.front number body))
          ∙ append_assoc (s.front ++ number) body (next.rest ++ s.behind);
      place = omega (arith, next_stands.place, text_len, front_len, number_len);
    }

-- a place in an input of so many bytes
pub place_fits : (input : List ℕ) (start : ℕ) (reader : Standing) → RowsStand input start reader → start + place_of reader ≤ length input
place_fits input start reader s =
    let a = ap length s.parts in
    let b = length-append s.front (reader.rest ++ s.behind) in
    omega (arith, a, b, s.place)

-- ---- sections

-- the body of a section stands in front of what is left behind the section
pub section_stands : (bytes front rest body left : List ℕ) (id : ℕ) → bytes ≡ front ++ rest → Begins frame rest (numbered_frame id body) left → StandsAt bytes body (length bytes - length left)
section_stands bytes front rest body left id e b =
    let p = b.spells.spelled in
    let q = p.4 in
    let head : List ℕ = p.0 ++ q.0 in
    let text_is : b.text ≡ head ++ body = p.2 ∙ ap (λ (z : List ℕ). p.0 ++ z) (q.2 ∙ ap (λ (z : List ℕ). q.0 ++ z) q.4) ∙ sym (append_assoc p.0 q.0 body) in
    let whole : bytes ≡ (front ++ head) ++ (body ++ left) =
    e ∙ ap (λ (z : List ℕ). front ++ z) (b.reads ∙ ap (λ (z : List ℕ). z ++ left) text_is ∙ append_assoc head body left) ∙ sym (append_assoc front head (body ++ left)) in
    let len = ap length whole ∙ length-append (front ++ head) (body ++ left) in
    let len' = length-append body left in record {
      front = front ++ head;
      behind = left;
      parts = whole;
      place = omega (arith, len, len');
    }

-- the contents of a custom section, too
pub custom_stands : (bytes front rest name contents left : List ℕ) → bytes ≡ front ++ rest → Begins frame rest (custom_frame name contents) left → StandsAt bytes contents (length bytes - length left)
custom_stands bytes front rest name contents left e b =
    let p = b.spells.spelled in
    let q = p.4 in
    let n = q.4 in
    let head : List ℕ = p.0 ++ (q.0 ++ n.0) in
    let body_is : q.1 ≡ n.0 ++ contents = n.2 ∙ ap (λ (z : List ℕ). n.0 ++ z) n.4 in
    let text_is : b.text ≡ head ++ contents =
    p.2 ∙ ap (λ (z : List ℕ). p.0 ++ z) (q.2 ∙ ap (λ (z : List ℕ). q.0 ++ z) body_is ∙ sym (append_assoc q.0 n.0 contents)) ∙ sym (append_assoc p.0 (q.0 ++ n.0) contents) in
    let whole : bytes ≡ (front ++ head) ++ (contents ++ left) =
    e ∙ ap (λ (z : List ℕ). front ++ z) (b.reads ∙ ap (λ (z : List ℕ). z ++ left) text_is ∙ append_assoc head contents left) ∙ sym (append_assoc front head (contents ++ left)) in
    let len = ap length whole ∙ length-append (front ++ head) (contents ++ left) in
    let len' = length-append contents left in record {
      front = front ++ head;
      behind = left;
      parts = whole;
      place = omega (arith, len, len');
    }
