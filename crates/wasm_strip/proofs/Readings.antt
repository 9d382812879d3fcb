-- The laws of `specs/Laws.antt`.
use Rattle.std.proofs.Common.{false, ◌≡◌, ◌+◌, Bool, append_assoc, ℕ, ◌<◌, ◌^◌, List, [], ◌∷◌, ◌++◌, length, Some, None, refl, sym, ap, ap₂, ◌∙◌, subst, arith, length-append}
use Rattle.std.proofs.lemmas.List.{append_cancel_right}
use Rattle.wasm_leb.specs.Leb.{IsUnsigned, leb}
use Rattle.wasm_leb.proofs.Shortest.{leb_spells}
use Rattle.wasm_leb.specs.declared.fault.Kind.{Kind}
use Rattle.wasm_shapes.specs.Spells.{Is, Spelled, Spells}
use Rattle.wasm_shapes.specs.Tree.{Tree}
use Rattle.wasm_shapes.specs.Module.{custom_frame, frame, numbered_frame}
use Rattle.wasm_strip.specs.Binaries.{IsBinary, IsSectionList, IsStripped, Leaves, Removed, SectionList, Stands, deepest, header_of, held, holder, sized, text_of}
use Rattle.wasm_strip.specs.Tidied.{IsTidied, Tidied}
use Rattle.wasm_strip.specs.Laws as statements
use Rattle.wasm_strip.proofs.Lengths.{is_sized, leaves_tidied, tidied_short}
use Rattle.wasm_strip.proofs.SortedLengths.{names_length}
use Rattle.wasm_strip.proofs.OneSection.{holds}
use Rattle.wasm_strip.proofs.Unread.{not_empty, one_header, same_front, same_number}

-- ---- one reading

same_named : {n m a b : List ℕ} → custom_frame n a ≡ custom_frame m b → (n ≡ m) × (a ≡ b)
same_named e = (cc, cc)

two_frames : {n a b : List ℕ} {id : ℕ} → custom_frame n a ≡ numbered_frame id b → ⊥
two_frames {n = n} {a = a} {b = b} {id = id} e = absurd cc

held_or_not : (kind : Kind) {inside : Kind} {n m : ℕ} → held kind n ≡ None → held kind m ≡ Some inside → n ≡ m → ⊥
held_or_not kind {inside = inside} h i e = let apart : None ≡ Some inside = sym h ∙ ap (held kind) e ∙ i in absurd cc

-- the same bytes
moved : (depth : ℕ) (kind : Kind) {x y : List ℕ} (q : SectionList) → x ≡ y → IsSectionList depth kind y q → IsSectionList depth kind x q
moved depth kind q e a = let P : List ℕ → Type 0 = λ z. IsSectionList depth kind z q in subst P (sym e) a

one_list : (depth deep : ℕ) (kind : Kind) (p q : SectionList) (x : List ℕ) → IsSectionList depth kind x p → IsSectionList deep kind x q → p ≡ q
one_list depth deep kind SectionList.ended SectionList.ended x a b = refl
one_list depth deep kind SectionList.ended (SectionList.custom m c v q) x a b = absurd (not_empty _ b.1.spells (sym b.1.stands ∙ a))
one_list depth deep kind SectionList.ended (SectionList.other v q) x a b = absurd (not_empty _ b.3.spells (sym b.3.stands ∙ a))
one_list depth deep kind SectionList.ended (SectionList.nested j i q) x a b = absurd (not_empty _ b.5.spells (sym b.5.stands ∙ a))
one_list depth deep kind (SectionList.custom n d u p) SectionList.ended x a b = absurd (not_empty _ a.1.spells (sym a.1.stands ∙ b))
one_list depth deep kind (SectionList.custom n d u p) (SectionList.custom m c v q) x a b =
    let s = same_front a.1 b.1 in
    let others = one_list depth deep kind p q a.0 a.2 (moved deep kind q s.1 b.2) in
    let named = same_named s.0 in
    let names : n ≡ m = named.0 in
    let contents : d ≡ c = named.1 in
    let texts : u ≡ v = s.2 in
    cc
one_list depth deep kind (SectionList.custom n d u p) (SectionList.other v q) x a b = absurd (two_frames (same_front a.1 b.3).0)
one_list depth deep kind (SectionList.custom n d u p) (SectionList.nested j i q) x a b = absurd (two_frames (same_front a.1 b.5).0)
one_list depth deep kind (SectionList.other u p) SectionList.ended x a b = absurd (not_empty _ a.3.spells (sym a.3.stands ∙ b))
one_list depth deep kind (SectionList.other u p) (SectionList.custom m c v q) x a b = absurd (two_frames (same_front b.1 a.3).0)
one_list depth deep kind (SectionList.other u p) (SectionList.other v q) x a b =
    let s = same_front a.3 b.3 in
    let others = one_list depth deep kind p q a.2 a.5 (moved deep kind q s.1 b.5) in
    let texts : u ≡ v = s.2 in
    cc
one_list depth deep kind (SectionList.other u p) (SectionList.nested j i q) x a b = absurd (held_or_not kind a.4 b.6 (same_number (same_front a.3 b.5).0).0)
one_list depth deep kind (SectionList.nested inside inner p) SectionList.ended x a b = absurd (not_empty _ a.5.spells (sym a.5.stands ∙ b))
one_list depth deep kind (SectionList.nested inside inner p) (SectionList.custom m c v q) x a b = absurd (two_frames (same_front b.1 a.5).0)
one_list depth deep kind (SectionList.nested inside inner p) (SectionList.other v q) x a b = absurd (held_or_not kind b.4 a.6 (same_number (same_front b.3 a.5).0).0)
one_list depth deep kind (SectionList.nested inside inner p) (SectionList.nested j i q) x a b =
    let s = same_front a.5 b.5 in
    let n = same_number s.0 in
    let kinds : Some inside ≡ Some j = sym a.6 ∙ ap (held kind) n.0 ∙ b.6 in
    let one : inside ≡ j = cc in
    let heads = one_header inside j a.3 b.3 n.1 in
    let A : Kind → Type 0 = λ k. IsSectionList b.1 k b.3 i in
    let B : List ℕ → Type 0 = λ z. IsSectionList b.1 inside z i in
    let inners = one_list a.1 b.1 inside inner i a.3 a.8 (subst B (sym heads.1) (subst A (sym one) b.8)) in
    let others = one_list depth deep kind p q a.4 a.9 (moved deep kind q s.1 b.9) in
    cc

pub one_reading : statements.HaveOneReading
one_reading bytes depth deep kind other parts others a b =
    let h = one_header kind other a.rest b.rest (sym a.stands ∙ b.stands) in
    let A : Kind → Type 0 = λ k. IsSectionList deep k b.rest others in
    let B : List ℕ → Type 0 = λ z. IsSectionList deep kind z others in
    (h.0, one_list depth deep kind parts others a.rest a.are (subst B (sym h.1) (subst A (sym h.0) b.are)))

-- ---- what is kept reads as such

-- a section of the same id with another body
resized : {text body : List ℕ} {id : ℕ} (new : List ℕ) → Spells frame text (numbered_frame id body) → length new < 2 ^ 32 → Spells frame (sized id new) (numbered_frame id new)
resized {body = body} {id = id} new p few = record {
  shaped = go (numbered_frame id body) p.shaped refl;
  spelled = (id ∷ [], leb (length new) ++ new, refl, (refl, p.spelled.3.1), (leb (length new), new, refl, leb_spells (length new) few, refl));
}
  where
    go : (f : Tree) → Is frame f → f ≡ numbered_frame id body → Is frame (numbered_frame id new)
    go f (Is.first (Is.seq {t = t} {u = u} d d')) e = absurd (let apart : Tree.row 0 (Tree.pair t u) ≡ numbered_frame id body = e in cc)
    go f (Is.later (Is.first (Is.seq (Is.within {b = b} low high) d))) e = let same : b ≡ id = cc in Is.later (Is.first (Is.seq (Is.within (omega (arith, same, low)) (omega (arith, same, high))) (Is.sized Is.rest)))
    go f (Is.later (Is.later d)) e = elim d [ ]

beside : {text : List ℕ} {t : Tree} (rest : List ℕ) → Spells frame text t → Stands (text ++ rest) text t rest
beside rest p = record { spells = p; stands = refl }

-- a custom section with other contents, as long as these
other_contents : {name text : List ℕ} (front contents new : List ℕ) → Spells frame text (custom_frame name contents) → text ≡ front ++ contents → length new ≡ length contents →
    Spells frame (front ++ new) (custom_frame name new)
other_contents {name = name} {text = text} front contents new p cut long = record {
  shaped = Is.first (Is.seq Is.fixed (Is.sized (Is.seq Is.name Is.rest)));
  spelled = go p.spelled;
}
  where
    go : Spelled (custom_frame name contents) text → Spelled (custom_frame name new) (front ++ new)
    go s =
        let sized = s.4 in
        let named = sized.4 in
        let before = s.0 ++ (sized.0 ++ named.0) in
        let whole : text ≡ before ++ contents =
        s.2 ∙ ap (λ (z : List ℕ). s.0 ++ z) (sized.2 ∙ ap (λ (z : List ℕ). sized.0 ++ z) (named.2 ∙ ap (λ (z : List ℕ). named.0 ++ z) named.4) ∙ sym (append_assoc sized.0 named.0 contents))
        ∙ sym (append_assoc s.0 (sized.0 ++ named.0) contents) in
        let same : front ≡ before = append_cancel_right front before contents (sym cut ∙ whole) in
        let is : front ++ new ≡ s.0 ++ (sized.0 ++ (named.0 ++ new)) =
        ap (λ (z : List ℕ). z ++ new) same ∙ append_assoc s.0 (sized.0 ++ named.0) new ∙ ap (λ (z : List ℕ). s.0 ++ z) (append_assoc sized.0 named.0 new) in
        let size : length sized.1 ≡ length (named.0 ++ new) =
        ap length named.2 ∙ length-append named.0 named.1 ∙ ap (λ (n : ℕ). length named.0 + n) (ap length named.4 ∙ sym long) ∙ sym (length-append named.0 new) in
        let U : ℕ → Type 0 = λ n. IsUnsigned 32 sized.0 n in
        (s.0, sized.0 ++ (named.0 ++ new), is, s.3, (sized.0, named.0 ++ new, refl, subst U size sized.3, (named.0, new, refl, named.3, refl)))

tidied_are : (removed : Removed) (sorts : Bool) (depth : ℕ) (kind : Kind) {p q : SectionList} (x : List ℕ) → IsSectionList depth kind x p → Tidied removed sorts kind p q → IsSectionList depth kind (text_of q) q
tidied_are removed sorts depth kind x a Tidied.nothing = refl
tidied_are removed sorts depth kind x a (Tidied.goes gone k) = tidied_are removed sorts depth kind a.0 a.2 k
tidied_are removed sorts depth kind x a (Tidied.stays {left = q} stays same k) = (text_of q, beside (text_of q) a.1.spells, tidied_are removed sorts depth kind a.0 a.2 k)
tidied_are removed sorts depth kind x a (Tidied.sorted {contents = contents} {left = q} front new stays on names cut sorted k) =
    (text_of q, beside (text_of q) (other_contents front contents new a.1.spells cut (names_length sorted)), tidied_are removed sorts depth kind a.0 a.2 k)
tidied_are removed sorts depth kind x a (Tidied.unnamed {left = q} k) = (a.0, a.1, text_of q, beside (text_of q) a.3.spells, a.4, tidied_are removed sorts depth kind a.2 a.5 k)
tidied_are removed sorts depth kind x a (Tidied.around {inside = inside} {within = within} {left = q} j k) =
    let whole = header_of inside ++ text_of within in
    let few : length whole < 2 ^ 32 =
    let known = (is_sized a.5.spells).counted.fits in
    let l = length-append (header_of inside) (text_of within) in
    let m = length-append (header_of inside) a.3 in
    let short = tidied_short removed sorts a.1 inside a.3 a.8 j in
    omega (arith, known, l, m, short) in
    let spelled = resized whole a.5.spells few in
    let S : ℕ → Type 0 = λ n. Spells frame (sized n whole) (numbered_frame a.0 whole) in
    let same = holds kind inside a.0 (sym a.6) in (
      a.0,
      a.1,
      sized (holder inside) whole,
      text_of within,
      text_of q,
      beside (text_of q) (subst S same spelled),
      a.6,
      a.7,
      tidied_are removed sorts a.1 inside a.3 a.8 j,
      tidied_are removed sorts depth kind a.4 a.9 k,
    )

-- the same sections of the same kind
moved_leaves : {removed : Removed} {k j : Kind} {p q r : SectionList} → k ≡ j → p ≡ q → Leaves removed j q r → Leaves removed k p r
moved_leaves {removed = removed} {k = k} {q = q} {r = r} e f l =
    let K : Kind → SectionList → Type 0 = λ z y. Leaves removed z y r in
    subst (K k) (sym f) (subst (λ (z : Kind). K z q) (sym e) l)

tidied_reads : {removed : Removed} {sorts : Bool} {bytes output : List ℕ} (s : IsTidied removed sorts bytes output) → IsBinary deepest output s.kind s.left
tidied_reads {removed = removed} {sorts = sorts} s = record { rest = text_of s.left; stands = s.spelled; are = tidied_are removed sorts deepest s.kind s.reads.rest s.reads.are s.tidied }

left_reads : {removed : Removed} {bytes output : List ℕ} (s : IsStripped removed bytes output) → IsBinary deepest output s.kind s.left
left_reads {removed = removed} s = record { rest = text_of s.left; stands = s.spelled; are = tidied_are removed false deepest s.kind s.reads.rest s.reads.are (leaves_tidied s.leaves) }

pub reads_as_tidied : (removed : Removed) (sorts : Bool) → statements.ReadsAsTidied removed sorts
reads_as_tidied removed sorts bytes output kind parts s b =
    let one = one_reading bytes deepest deepest s.kind kind s.parts parts s.reads b in
    let A : Kind → Type 0 = λ k. IsBinary deepest output k s.left in
    let K : Kind → SectionList → Type 0 = λ k p. Tidied removed sorts k p s.left in
    (s.left, subst (K kind) one.1 (subst (λ (k : Kind). K k s.parts) one.0 s.tidied), subst A one.0 (tidied_reads s))

pub reads_as_kept : (removed : Removed) → statements.ReadsAsKept removed
reads_as_kept removed bytes output kind parts s b =
    let one = one_reading bytes deepest deepest s.kind kind s.parts parts s.reads b in
    let A : Kind → Type 0 = λ k. IsBinary deepest output k s.left in
    (s.left, moved_leaves (sym one.0) (sym one.1) s.leaves, subst A one.0 (left_reads s))

-- ---- once and again

-- sections leave one list
leaves_one : {removed : Removed} {kind : Kind} {p q r : SectionList} → Leaves removed kind p q → Leaves removed kind p r → q ≡ r
leaves_one Leaves.nothing Leaves.nothing = refl
leaves_one (Leaves.goes gone j) (Leaves.goes again k) = leaves_one j k
leaves_one (Leaves.goes gone j) (Leaves.stays stays k) = absurd (stays gone)
leaves_one (Leaves.stays stays j) (Leaves.goes gone k) = absurd (stays gone)
leaves_one (Leaves.stays {name = name} {contents = contents} {text = text} stays j) (Leaves.stays again k) = ap (λ (z : SectionList). SectionList.custom name contents text z) (leaves_one j k)
leaves_one (Leaves.unnamed {text = text} j) (Leaves.unnamed k) = ap (λ (z : SectionList). SectionList.other text z) (leaves_one j k)
leaves_one (Leaves.around {inside = inside} i j) (Leaves.around h k) = ap₂ (λ (y z : SectionList). SectionList.nested inside y z) (leaves_one i h) (leaves_one j k)

-- what is left leaves itself
leaves_again : {removed : Removed} {kind : Kind} {p q : SectionList} → Leaves removed kind p q → Leaves removed kind q q
leaves_again Leaves.nothing = Leaves.nothing
leaves_again (Leaves.goes gone k) = leaves_again k
leaves_again (Leaves.stays stays k) = Leaves.stays stays (leaves_again k)
leaves_again (Leaves.unnamed k) = Leaves.unnamed (leaves_again k)
leaves_again (Leaves.around j k) = Leaves.around (leaves_again j) (leaves_again k)

pub settled : (removed : Removed) → statements.IsSettled removed
settled removed = record { one = same; again = once_more }
  where
    spelled_one : (k j : Kind) (q r : SectionList) (output other : List ℕ) → k ≡ j → q ≡ r → output ≡ header_of k ++ text_of q → other ≡ header_of j ++ text_of r → output ≡ other
    spelled_one k j q r output other e f s t = s ∙ ap₂ (λ (z : Kind) (p : SectionList). header_of z ++ text_of p) e f ∙ sym t

    same : (bytes output other : List ℕ) → IsStripped removed bytes output → IsStripped removed bytes other → output ≡ other
    same bytes output other s r =
        let one = one_reading bytes deepest deepest s.kind r.kind s.parts r.parts s.reads r.reads in
        spelled_one s.kind r.kind s.left r.left output other one.0 (leaves_one s.leaves (moved_leaves one.0 one.1 r.leaves)) s.spelled r.spelled

    once_more : (bytes output other : List ℕ) → IsStripped removed bytes output → IsStripped removed output other → output ≡ other
    once_more bytes output other s r =
        let one = one_reading output deepest deepest s.kind r.kind s.left r.parts (left_reads s) r.reads in
        spelled_one s.kind r.kind s.left r.left output other one.0 (leaves_one (leaves_again s.leaves) (moved_leaves one.0 one.1 r.leaves)) s.spelled r.spelled
