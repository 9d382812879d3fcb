-- What is sorted is as long as it was.
use Rattle.std.proofs.Common.{◌≡◌, ℕ, List, [], ◌∷◌, ◌++◌, length, length-append, sym, ap, ap₂, ◌∙◌, ◌+◌}
use Rattle.std.specs.List.{sum_by}
use Rattle.std.proofs.lemmas.List.Concat.{length-flat_map}
use Rattle.std.proofs.lemmas.List.Sorted.{sum_by-IsPermutation}
use Rattle.std.proofs.lemmas.List.Sums.{sum_by-cons}
use Rattle.wasm_shapes.specs.Shape.{Shape}
use Rattle.wasm_read.specs.Subsections.{Content, content_of}
use Rattle.wasm_strip.specs.declared.sorting.Row.{Row}
use Rattle.wasm_strip.specs.Sorted.{Sorts, SortsContent, SortsGroup, SortsMap, SortsNames, SortsSubsection, Stays, Written}

abbrev text_length : Row → ℕ
text_length r = length r.text.now

-- each row is written by as many bytes as it has
abbrev Keeps : (Row → List ℕ → Type 0) → Type 0
Keeps each = (r : Row) (x : List ℕ) → each r x → length x ≡ text_length r

written_length : {each : Row → List ℕ → Type 0} → Keeps each → (rows : List Row) (x : List ℕ) → Written each rows x → length x ≡ sum_by text_length rows
written_length keeps [] x w = ap length w
written_length keeps (r ∷ rows) x w =
    ap length w.2 ∙ length-append w.0 w.1 ∙ ap₂ (λ (n m : ℕ). n + m) (keeps r w.0 w.3) (written_length keeps rows w.1 w.4) ∙ sym (sum_by-cons text_length r rows)

sorts_length : {s : Shape} {each : Row → List ℕ → Type 0} {bytes sorted : List ℕ} → Keeps each → Sorts s each bytes sorted → length sorted ≡ length bytes
sorts_length {sorted = sorted} keeps s =
    let o = s.are in
    written_length keeps s.rows sorted s.writes ∙ sum_by-IsPermutation text_length o.rows s.rows o.permuted
    ∙ sym (length-flat_map (λ (r : Row). r.text.now) o.rows) ∙ sym (ap length o.are.text)

-- behind what stays
behind_length : {bytes sorted : List ℕ} (front x y : List ℕ) → bytes ≡ front ++ x → sorted ≡ front ++ y → length y ≡ length x → length sorted ≡ length bytes
behind_length front x y e f same =
    ap length f ∙ length-append front y ∙ ap (λ (n : ℕ). length front + n) same ∙ sym (length-append front x) ∙ sym (ap length e)

map_length : {s : Shape} {each : Row → List ℕ → Type 0} {bytes sorted : List ℕ} → Keeps each → SortsMap s each bytes sorted → length sorted ≡ length bytes
map_length keeps s = behind_length s.number s.entries s.ordered s.stands s.is (sorts_length keeps s.sorts)

stays_length : Keeps Stays
stays_length r x e = ap length e

group_length : Keeps SortsGroup
group_length r x s = behind_length s.number s.names s.sorted s.stands s.is (map_length stays_length s.sorts)

content_length : (c : Content) (body sorted : List ℕ) → SortsContent c body sorted → length sorted ≡ length body
content_length (Content.text n) body sorted s = ap length s
content_length (Content.direct id p m) body sorted s = map_length stays_length s
content_length (Content.indirect id p m) body sorted s = map_length group_length s
content_length (Content.raw id c) body sorted s = ap length s

subsection_length : Keeps SortsSubsection
subsection_length r x s = behind_length s.front s.body s.sorted s.stands s.is (content_length (content_of s.name) s.body s.sorted s.sorts)

-- the contents of a name section
pub names_length : {contents new : List ℕ} → SortsNames contents new → length new ≡ length contents
names_length s = sorts_length subsection_length s
