-- What sections become is no longer than they are.
use Rattle.std.proofs.Common.{◌≡◌, ℕ, zero, suc, ◌+◌, ◌*◌, ◌/◌, ◌%◌, ◌<◌, ◌≤◌, List, [], ◌∷◌, ◌++◌, length, Bool, true, false, refl, sym, ap, ◌∙◌, arith, length-append, nat_lt, if◌then◌else◌, ltb-false}
use Rattle.wasm_leb.specs.Leb.{IsLeb, IsUnsigned, leb, shortest}
use Rattle.wasm_leb.specs.declared.fault.Kind.{Kind}
use Rattle.wasm_shapes.specs.Spells.{Spells, Spelled}
use Rattle.wasm_shapes.specs.Tree.{Tree}
use Rattle.wasm_shapes.specs.Module.{frame, numbered_frame}
use Rattle.wasm_strip.specs.Binaries.{IsSectionList, IsStripped, Leaves, Removed, SectionList, Stands, header_of, holder, sized, text_of}
use Rattle.wasm_strip.specs.Laws.{StripsUnsorted}
use Rattle.wasm_strip.specs.Tidied.{IsTidied, Tidied}
use Rattle.wasm_strip.proofs.SortedLengths.{names_length}

-- the shortest spelling of a number is no longer than any spelling of it, or of a greater one
leb_short : (most m n : ℕ) (x : List ℕ) → IsLeb 128 x n → m ≤ n → length (shortest most 128 m) ≤ length x
unfolding shortest
leb_short most m n [] p h = absurd p
leb_short zero m n (b ∷ x) p h = omega arith
leb_short (suc most) m n (b ∷ []) p h = go (nat_lt m 128) refl
  where
    go : (t : Bool) → nat_lt m 128 ≡ t → length (if t then m ∷ [] else ((m % 128 + 128) ∷ shortest most 128 (m / 128))) ≤ 1
    go true e = omega arith
    go false e = let above : 128 ≤ m = ltb-false m 128 e in let small : b < 128 = p.0 in let same : n ≡ b = p.1 in absurd (omega arith)
leb_short (suc most) m n (b ∷ c ∷ x) p h =
    let low : 128 ≤ b = p.0 in
    let high : b < 256 = p.1 in
    let sum : n + 128 ≡ b + 128 * p.2 = p.3 in
    go (nat_lt m 128) (leb_short most (m / 128) p.2 (c ∷ x) p.4 (omega arith))
  where
    go : (t : Bool) → length (shortest most 128 (m / 128)) ≤ length (c ∷ x) → length (if t then m ∷ [] else ((m % 128 + 128) ∷ shortest most 128 (m / 128))) ≤ suc (length (c ∷ x))
    go true again = omega arith
    go false again = omega arith

-- the parts of a section
pub record IsSized (text : List ℕ) (id : ℕ) (body : List ℕ) : Type 0 where
  pub size : List ℕ
  pub is : text ≡ id ∷ (size ++ body)
  pub counted : IsUnsigned 32 size (length body)

pub is_sized : {text body : List ℕ} {id : ℕ} → Spells frame text (numbered_frame id body) → IsSized text id body
is_sized {text = text} {body = body} {id = id} p = go p.spelled
  where
    go : Spelled (numbered_frame id body) text → IsSized text id body
    go s =
        let size = s.4.0 in
        let P : List ℕ → Type 0 = λ z. IsUnsigned 32 size (length z) in record {
          size = size;
          is = s.2 ∙ ap (λ (z : List ℕ). z ++ s.1) s.3.0 ∙ ap (λ (z : List ℕ). id ∷ z) (s.4.2 ∙ ap (λ (z : List ℕ). size ++ z) s.4.4);
          counted = let c = s.4.3 in let e = s.4.4 in rw (sym e) c;
        }

-- the sizes of its parts
pub sized_length : {text body : List ℕ} {id : ℕ} (s : IsSized text id body) → length text ≡ suc (length s.size + length body)
sized_length {body = body} s = ap length s.is ∙ ap suc (length-append s.size body)

-- a section with a shorter body is shorter
pub sized_short : {text body : List ℕ} {id : ℕ} (other : ℕ) (new : List ℕ) → Spells frame text (numbered_frame id body) → length new ≤ length body → length (sized other new) ≤ length text
sized_short {text = text} {body = body} other new p h =
    let s = is_sized p in
    let whole : length text ≡ suc (length s.size + length body) = sized_length s in
    let size : length (leb (length new)) ≤ length s.size = leb_short 9 (length new) (length body) s.size s.counted.spelled h in
    let parts : length (leb (length new) ++ new) ≡ length (leb (length new)) + length new = length-append (leb (length new)) new in
    omega arith

front_length : {bytes text rest : List ℕ} {t : Tree} → Stands bytes text t rest → length bytes ≡ length text + length rest
front_length {text = text} {rest = rest} s = ap length s.stands ∙ length-append text rest

both_short : (x y a b : List ℕ) → length x ≤ length a → length y ≤ length b → length (x ++ y) ≤ length a + length b
both_short x y a b h i = let e = length-append x y in omega (arith, e, h, i)

pub tidied_short : (removed : Removed) (sorts : Bool) (depth : ℕ) (kind : Kind) {p q : SectionList} (x : List ℕ) → IsSectionList depth kind x p → Tidied removed sorts kind p q → length (text_of q) ≤ length x
tidied_short removed sorts depth kind x a Tidied.nothing = omega arith
tidied_short removed sorts depth kind x a (Tidied.goes gone k) =
    let e = front_length a.1 in
    let others = tidied_short removed sorts depth kind a.0 a.2 k in
    omega (arith, e, others)
tidied_short removed sorts depth kind x a (Tidied.stays {text = text} {left = q} stays same k) =
    let e = front_length a.1 in
    let both = both_short text (text_of q) text a.0 (omega arith) (tidied_short removed sorts depth kind a.0 a.2 k) in
    omega (arith, e, both)
tidied_short removed sorts depth kind x a (Tidied.sorted {contents = contents} {text = text} {left = q} front new stays on names cut sorted k) =
    let e = front_length a.1 in
    let whole = ap length cut ∙ length-append front contents in
    let parts = length-append front new in
    let same = names_length sorted in
    let both = both_short (front ++ new) (text_of q) text a.0 (omega (arith, whole, parts, same)) (tidied_short removed sorts depth kind a.0 a.2 k) in
    omega (arith, e, both)
tidied_short removed sorts depth kind x a (Tidied.unnamed {text = text} {left = q} k) =
    let e = front_length a.3 in
    let both = both_short text (text_of q) text a.2 (omega arith) (tidied_short removed sorts depth kind a.2 a.5 k) in
    omega (arith, e, both)
tidied_short removed sorts depth kind x a (Tidied.around {inside = inside} {within = within} {left = q} j k) =
    let e = front_length a.5 in
    let shorter = tidied_short removed sorts a.1 inside a.3 a.8 j in
    let bodies : length (header_of inside ++ text_of within) ≤ length (header_of inside ++ a.3) =
    let l = length-append (header_of inside) (text_of within) in
    let m = length-append (header_of inside) a.3 in
    omega (arith, l, m, shorter) in
    let first = sized_short (holder inside) (header_of inside ++ text_of within) a.5.spells bodies in
    let both = both_short (sized (holder inside) (header_of inside ++ text_of within)) (text_of q) a.2 a.4 first (tidied_short removed sorts depth kind a.4 a.9 k) in
    omega (arith, e, both)

-- ---- where names are not sorted

pub leaves_tidied : {removed : Removed} {kind : Kind} {p q : SectionList} → Leaves removed kind p q → Tidied removed false kind p q
leaves_tidied Leaves.nothing = Tidied.nothing
leaves_tidied (Leaves.goes gone k) = Tidied.goes gone (leaves_tidied k)
leaves_tidied (Leaves.stays stays k) = Tidied.stays stays (λ names. let never : false ≡ true = names.0 in cc) (leaves_tidied k)
leaves_tidied (Leaves.unnamed k) = Tidied.unnamed (leaves_tidied k)
leaves_tidied (Leaves.around j k) = Tidied.around (leaves_tidied j) (leaves_tidied k)

unsorted : {removed : Removed} {sorts : Bool} {kind : Kind} {p q : SectionList} → sorts ≡ false → Tidied removed sorts kind p q → Leaves removed kind p q
unsorted off Tidied.nothing = Leaves.nothing
unsorted off (Tidied.goes gone k) = Leaves.goes gone (unsorted off k)
unsorted off (Tidied.stays stays same k) = Leaves.stays stays (unsorted off k)
unsorted off (Tidied.sorted front new stays on names cut sorted k) = absurd (let never : true ≡ false = sym on ∙ off in cc)
unsorted off (Tidied.unnamed k) = Leaves.unnamed (unsorted off k)
unsorted off (Tidied.around j k) = Leaves.around (unsorted off j) (unsorted off k)

-- then what is tidied is stripped
pub tidied_stripped : {removed : Removed} {bytes output : List ℕ} → IsTidied removed false bytes output → IsStripped removed bytes output
tidied_stripped s = record { kind = s.kind; parts = s.parts; left = s.left; reads = s.reads; leaves = unsorted refl s.tidied; spelled = s.spelled }

pub strips_unsorted : (removed : Removed) → StripsUnsorted removed
strips_unsorted removed = record {
  stripped = λ bytes output s. tidied_stripped s;
  tidied = λ bytes output s. record { kind = s.kind; parts = s.parts; left = s.left; reads = s.reads; tidied = leaves_tidied s.leaves; spelled = s.spelled };
}
