-- Where sections have a fault, the bytes are no sections.
use Rattle.std.proofs.Common.{Bool, ◌≡◌, ◌≢◌, ◌⊎◌, inl, inr, ℕ, suc, ◌≤◌, List, [], ◌∷◌, ◌++◌, length, Some, None, refl, sym, ap, ◌∙◌, subst, arith, append_assoc, length-append}
use Rattle.std.proofs.lemmas.List.{append_cancel_left}
use Rattle.wasm_leb.specs.declared.fault.Kind.{Kind}
use Rattle.wasm_leb.specs.declared.fault.Kind.TheVariants as kind
use Rattle.wasm_shapes.specs.Spells.{Is, Spelled, Spells}
use Rattle.wasm_shapes.specs.Tree.{Tree}
use Rattle.wasm_shapes.specs.Module.{component_header, core_header, custom_frame, frame, numbered_frame}
use Rattle.wasm_shapes.proofs.Laws.{shapes_unique}
use Rattle.wasm_shapes.proofs.Lists.{no_bytes}
use Rattle.wasm_strip.specs.declared.fault.StripFault.{StripFault}
use Rattle.wasm_strip.specs.declared.fault.StripFault.TheVariants as fault
use Rattle.wasm_strip.specs.Binaries.{IsSectionList, IsBinary, SectionList, Stands, deepest, Removed, header_of, held, text_of}
use Rattle.wasm_strip.specs.Tidied.{IsTidied}
use Rattle.wasm_strip.specs.Faults.{Fails, FailsWhole, HasNone, IsWhy}
use Rattle.wasm_strip.proofs.Lengths.{tidied_short}

-- bytes begin with one section at most
pub same_front : {bytes x y a b : List ℕ} {t u : Tree} → Stands bytes x t a → Stands bytes y u b → (t ≡ u) × (a ≡ b) × (x ≡ y)
same_front {x = x} {y = y} {a = a} {b = b} {t = t} {u = u} s r =
    let e : x ++ a ≡ y ++ b = sym s.stands ∙ r.stands in
    let one = shapes_unique frame refl refl x y a b t u s.spells r.spells e in
    (one.1, append_cancel_left y a b (ap (λ (z : List ℕ). z ++ a) (sym one.0) ∙ e), one.0)

-- a section is no empty text
pub not_empty : {text : List ℕ} {t : Tree} (rest : List ℕ) → Spells frame text t → text ++ rest ≢ []
not_empty {text = text} {t = t} rest p e = go t text p.shaped p.spelled (no_bytes text rest e).0
  where
    go : (f : Tree) (x : List ℕ) → Is frame f → Spelled f x → x ≢ []
    go f x (Is.first (Is.seq Is.fixed d)) s h = let first : s.0 ≡ 0 ∷ [] = s.3 in let none = (no_bytes s.0 s.1 (sym s.2 ∙ h)).0 in absurd cc
    go f x (Is.later (Is.first (Is.seq (Is.within {b = b} low high) d))) s h = let first : s.0 ≡ b ∷ [] = s.3.0 in let none = (no_bytes s.0 s.1 (sym s.2 ∙ h)).0 in absurd cc
    go f x (Is.later (Is.later d)) s h = elim d [ ]

-- the section at the front
record First (depth : ℕ) (kind : Kind) (bytes : List ℕ) : Type 0 where
  text : List ℕ
  tree : Tree
  rest : List ℕ
  others : SectionList
  stands : Stands bytes text tree rest
  are : IsSectionList depth kind rest others

first_of_parts : (depth : ℕ) (kind : Kind) (bytes : List ℕ) (p : SectionList) → IsSectionList depth kind bytes p → (bytes ≡ []) ⊎ First depth kind bytes
first_of_parts depth kind bytes SectionList.ended a = inl a
first_of_parts depth kind bytes (SectionList.custom name contents text p) a = inr (record { text = text; tree = custom_frame name contents; rest = a.0; others = p; stands = a.1; are = a.2 })
first_of_parts depth kind bytes (SectionList.other text p) a = inr (record { text = text; tree = numbered_frame a.0 a.1; rest = a.2; others = p; stands = a.3; are = a.5 })
first_of_parts depth kind bytes (SectionList.nested inside inner p) a =
    inr (record { text = a.2; tree = numbered_frame a.0 (header_of inside ++ a.3); rest = a.4; others = p; stands = a.5; are = a.9 })

-- what is left behind sections are sections
behind_one : (depth : ℕ) (kind : Kind) {x text rest : List ℕ} {t : Tree} (y : List ℕ) → Stands x text t rest → (q : SectionList) → IsSectionList depth kind (x ++ y) q → (r : SectionList) × IsSectionList depth kind (rest ++ y) r
behind_one depth kind {x = x} {text = text} {rest = rest} {t = t} y s q a = go (first_of_parts depth kind (x ++ y) q a)
  where
    whole : Stands (x ++ y) text t (rest ++ y)
    whole = record { spells = s.spells; stands = ap (λ (z : List ℕ). z ++ y) s.stands ∙ append_assoc text rest y }

    go : ((x ++ y) ≡ []) ⊎ First depth kind (x ++ y) → (r : SectionList) × IsSectionList depth kind (rest ++ y) r
    go (inl e) = absurd (not_empty _ s.spells (sym whole.stands ∙ e))
    go (inr f) = let P : List ℕ → Type 0 = λ z. IsSectionList depth kind z f.others in (f.others, subst P (sym (same_front whole f.stands).1) f.are)

left_parts : (depth other : ℕ) (kind : Kind) (p q : SectionList) (x y : List ℕ) → IsSectionList other kind x p → IsSectionList depth kind (x ++ y) q → (r : SectionList) × IsSectionList depth kind y r
left_parts depth other kind SectionList.ended q x y a b = let P : List ℕ → Type 0 = λ z. IsSectionList depth kind (z ++ y) q in (q, subst P a b)
left_parts depth other kind (SectionList.custom name contents text p) q x y a b = let r = behind_one depth kind y a.1 q b in left_parts depth other kind p r.0 a.0 y a.2 r.1
left_parts depth other kind (SectionList.other text p) q x y a b = let r = behind_one depth kind y a.3 q b in left_parts depth other kind p r.0 a.2 y a.5 r.1
left_parts depth other kind (SectionList.nested inside inner p) q x y a b = let r = behind_one depth kind y a.5 q b in left_parts depth other kind p r.0 a.4 y a.9 r.1

-- what a section that is to hold a binary holds
record Holds (depth : ℕ) (inside : Kind) (whole : List ℕ) : Type 0 where
  below : ℕ
  deeper : depth ≡ suc below
  body : List ℕ
  headed : whole ≡ header_of inside ++ body
  inner : SectionList
  are : IsSectionList below inside body inner

pub same_number : {n m : ℕ} {a b : List ℕ} → numbered_frame n a ≡ numbered_frame m b → (n ≡ m) × (a ≡ b)
same_number e = (cc, cc)

held_parts : (depth : ℕ) (kind : Kind) {id : ℕ} {inside : Kind} {bytes text whole rest : List ℕ} → Stands bytes text (numbered_frame id whole) rest → held kind id ≡ Some inside → (q : SectionList) →
    IsSectionList depth kind bytes q → Holds depth inside whole
held_parts depth kind {rest = rest} s h SectionList.ended a = absurd (not_empty _ s.spells (sym s.stands ∙ a))
held_parts depth kind {id = id} {whole = whole} s h (SectionList.custom name contents text p) a =
    absurd (let apart : numbered_frame id whole ≡ custom_frame name contents = (same_front s a.1).0 in cc)
held_parts depth kind {inside = inside} s h (SectionList.other text p) a =
    let same = same_number (same_front s a.3).0 in
    absurd (let apart : Some inside ≡ None = sym h ∙ ap (held kind) same.0 ∙ a.4 in cc)
held_parts depth kind {inside = inside} s h (SectionList.nested other inner p) a =
    let same = same_number (same_front s a.5).0 in
    let both : Some inside ≡ Some other = sym h ∙ ap (held kind) same.0 ∙ a.6 in
    let one : other ≡ inside = cc in
    let A : Kind → Type 0 = λ k. IsSectionList a.1 k a.3 inner in
    record { below = a.1; deeper = a.7; body = a.3; headed = same.1 ∙ ap (λ (k : Kind). header_of k ++ a.3) one; inner = inner; are = subst A one a.8 }

-- how deep the sections may be, of which a fault says that there are none
MayBe : StripFault → ℕ → ℕ → Type 0
MayBe (fault.Read at) depth deep = Unit {0}
MayBe (fault.TooDeep at) depth deep = deep ≡ depth
MayBe fault.NoMemory depth deep = Unit {0}

inward : (e : StripFault) (depth deep below : ℕ) → deep ≡ suc below → MayBe e (suc depth) deep → MayBe e depth below
unfolding MayBe
inward (fault.Read at) depth deep below d m = tt
inward (fault.TooDeep at) depth deep below d m = omega arith
inward fault.NoMemory depth deep below d m = tt

no_parts : {at depth : ℕ} {kind : Kind} {bytes : List ℕ} {e : StripFault} → Fails at depth kind bytes e → (deep : ℕ) (q : SectionList) → MayBe e depth deep → IsSectionList deep kind bytes q → ⊥
unfolding MayBe
no_parts {kind = kind} {bytes = bytes} (Fails.unread some none) deep q m a = go (first_of_parts deep kind bytes q a)
  where
    go : (bytes ≡ []) ⊎ First deep kind bytes → ⊥
    go (inl e) = some e
    go (inr f) = none.none f.text f.rest f.tree f.stands.spells f.stands.stands
no_parts {kind = kind} (Fails.headless s h lacks) deep q m a = let holds = held_parts deep kind s h q a in lacks holds.body holds.headed
no_parts {kind = kind} (Fails.deep s h) deep q m a = let holds = held_parts deep kind s h q a in let d = holds.deeper in omega (arith, d, m)
no_parts {depth = suc depth} {kind = kind} {e = e} (Fails.within {inside = inside} {body = body} s h f) deep q m a =
    let holds = held_parts deep kind s h q a in
    let same : body ≡ holds.body = append_cancel_left (header_of inside) body holds.body holds.headed in
    let A : List ℕ → Type 0 = λ z. IsSectionList holds.below inside z holds.inner in
    no_parts f holds.below holds.inner (inward e depth deep holds.below holds.deeper m) (subst A (sym same) holds.are)
no_parts {depth = depth} {kind = kind} {bytes = bytes} (Fails.behind front rest parts cut are f) deep q m a =
    let A : List ℕ → Type 0 = λ z. IsSectionList deep kind z q in
    let r = left_parts deep depth kind parts q front rest are (subst A cut a) in
    no_parts f deep r.0 m r.1

-- ---- whole binaries

-- bytes begin with one header at most
pub one_header : (k j : Kind) (a b : List ℕ) → header_of k ++ a ≡ header_of j ++ b → (k ≡ j) × (a ≡ b)
one_header kind.Module kind.Module a b e = (refl, append_cancel_left core_header a b e)
one_header kind.Component kind.Component a b e = (refl, append_cancel_left component_header a b e)
one_header kind.Module kind.Component a b e = absurd cc
one_header kind.Component kind.Module a b e = absurd cc

no_binary : {bytes : List ℕ} (e : StripFault) → FailsWhole bytes e → (depth : ℕ) (kind : Kind) (parts : SectionList) → MayBe e deepest depth → ¬ IsBinary depth bytes kind parts
no_binary e (inl none) depth kind.Module parts m b = none.1 b.rest b.stands
no_binary e (inl none) depth kind.Component parts m b = none.2 b.rest b.stands
no_binary e (inr why) depth k parts m b =
    let same = one_header k why.0 b.rest why.1 (sym b.stands ∙ why.2) in
    let A : Kind → Type 0 = λ z. IsSectionList depth z b.rest parts in
    let B : List ℕ → Type 0 = λ z. IsSectionList depth why.0 z parts in
    no_parts why.3 depth parts m (subst B same.1 (subst A same.0 b.are))

pub none_where : (bytes : List ℕ) (e : StripFault) → IsWhy bytes e → HasNone bytes e
unfolding MayBe
none_where bytes (fault.Read at) w = λ depth kind parts. no_binary (fault.Read at) w depth kind parts tt
none_where bytes (fault.TooDeep at) w = λ kind parts. no_binary (fault.TooDeep at) w deepest kind parts refl
none_where bytes fault.NoMemory w = tt

-- what is left of a binary is no longer
pub tidied_binary_short : {removed : Removed} {sorts : Bool} {bytes output : List ℕ} → IsTidied removed sorts bytes output → length output ≤ length bytes
tidied_binary_short {removed = removed} {sorts = sorts} s =
    let short = tidied_short removed sorts deepest s.kind s.reads.rest s.reads.are s.tidied in
    let l = ap length s.spelled ∙ length-append (header_of s.kind) (text_of s.left) in
    let m = ap length s.reads.stands ∙ length-append (header_of s.kind) s.reads.rest in
    omega (arith, short, l, m)
