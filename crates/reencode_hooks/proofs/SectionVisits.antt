-- No sections stand within a section, and so no section visit is among its visits.
use Rattle.std.proofs.Common.{◌≡◌, ℕ, List, [], ◌∷◌, ◌++◌, Bool, true, false, ◌&&◌, Option, Some, None, refl, sym, ap₂, ◌∙◌}
use Rattle.std.proofs.lemmas.List.Elements.{filter-append}
use Rattle.wasm_shapes.specs.declared.ImmKind.{ImmKind}
use Rattle.wasm_shapes.specs.declared.ImmKind.TheVariants as kind
use Rattle.wasm_shapes.specs.declared.SectionId.{SectionId}
use Rattle.wasm_shapes.specs.declared.Space.TheVariants as space
use Rattle.wasm_shapes.specs.declared.Visit.{Visit}
use Rattle.wasm_shapes.specs.declared.Visit.TheVariants.{Index, Section, Closed, Pop}
use Rattle.wasm_shapes.specs.Operators.{kinds_among}
use Rattle.wasm_shapes.specs.Tree.{Tree, Listed, visits}
use Rattle.wasm_shapes.specs.Shape.{Shape, Named, flat, shape_of_kind, shape_of_kinds, shape_of_row, listing}
use Rattle.wasm_shapes.specs.NamedShapes.{shape_of}
use Rattle.wasm_shapes.specs.Spells.{Is, Spells}
use Rattle.wasm_shapes.specs.Module.{section}
use Rattle.wasm_shapes.proofs.Lists.{both}
use Rattle.reencode_hooks.specs.Hooks.{MayAdd}
use Rattle.reencode_hooks.specs.SectionVisits.{is_section, section_visits}

-- no sections stand in it; nor do they in the immediates of an operator
abbrev sectionless : Shape → Bool
sectionless (Shape.seq a b) = sectionless a && sectionless b
sectionless (Shape.swap a b) = sectionless a && sectionless b
sectionless (Shape.many a) = sectionless a
sectionless (Shape.vec a) = sectionless a
sectionless (Shape.opt a) = sectionless a
sectionless (Shape.sized a) = sectionless a
sectionless (Shape.or a b) = sectionless a && sectionless b
sectionless (Shape.scope a) = sectionless a
sectionless (Shape.spare b a c) = sectionless a && sectionless c
sectionless (Shape.final a b) = sectionless a && sectionless b
sectionless (Shape.until b a) = sectionless a
sectionless (Shape.active w a r b) = sectionless a && (sectionless r && sectionless b)
sectionless (Shape.placed a b) = sectionless a && sectionless b
sectionless (Shape.by_name n a b) = sectionless a && sectionless b
sectionless (Shape.begun fs a) = sectionless a
sectionless (Shape.told k a) = sectionless a
sectionless (Shape.sections a) = false
sectionless (Shape.ref n) = flat n
sectionless _ = true

named_sectionless : (n : Named) → flat n ≡ true → sectionless (shape_of n) ≡ true
named_sectionless Named.nested h = absurd cc
named_sectionless _ h = refl

kind_sectionless : (k : ImmKind) → sectionless (shape_of_kind k) ≡ true
kind_sectionless kind.Block = refl
kind_sectionless _ = refl

kinds_sectionless : (ks : List ImmKind) → sectionless (shape_of_kinds ks) ≡ true
kinds_sectionless [] = refl
kinds_sectionless (k ∷ ks) = rw (kind_sectionless k, kinds_sectionless ks) refl

row_sectionless : (o : Option (List ImmKind)) → sectionless (shape_of_row o) ≡ true
row_sectionless (Some ks) = kinds_sectionless ks
row_sectionless None = refl

listing_sectionless : (w : Listed) (r b : Shape) → (sectionless r && sectionless b) ≡ true → sectionless (listing w r b) ≡ true
listing_sectionless Listed.functions r b e = (both (sectionless r) (sectionless b) e).1
listing_sectionless Listed.expressions r b e = e

pub none_of_both : (xs ys : List Visit) → section_visits xs ≡ [] → section_visits ys ≡ [] → section_visits (xs ++ ys) ≡ []
none_of_both xs ys p q = filter-append is_section xs ys ∙ ap₂ (λ (y z : List Visit). y ++ z) p q

pub none_within : {s : Shape} {t : Tree} → Is s t → sectionless s ≡ true → section_visits (visits t) ≡ []
none_within (Is.seq {a = a} {b = b} {t = t} {u = u} d e) h =
    let p = both (sectionless a) (sectionless b) h in none_of_both (visits t) (visits u) (none_within d p.0) (none_within e p.1)
none_within (Is.swap {a = a} {b = b} {t = t} {u = u} d e) h =
    let p = both (sectionless a) (sectionless b) h in none_of_both (visits u) (visits t) (none_within e p.1) (none_within d p.0)
none_within (Is.cons {t = t} {u = u} d e) h = none_of_both (visits t) (visits u) (none_within d h) (none_within e h)
none_within (Is.vec d) h = none_within d h
none_within (Is.present d) h = none_within d h
none_within (Is.sized d) h = none_within d h
none_within (Is.first {a = a} {b = b} d) h = none_within d (both (sectionless a) (sectionless b) h).0
none_within (Is.later {a = a} {b = b} d) h = none_within d (both (sectionless a) (sectionless b) h).1
none_within (Is.ref {n = n} d) h = none_within d (named_sectionless n h)
none_within (Is.scope {t = t} d) h = none_of_both (visits t) (Pop ∷ []) (none_within d h) refl
none_within (Is.spare {a = a} {c = c} d) h = none_within d (both (sectionless a) (sectionless c) h).0
none_within (Is.kept {a = a} {c = c} d) h = none_within d (both (sectionless a) (sectionless c) h).1
none_within (Is.final {a = a} {b = b} {t = t} {u = u} d e) h =
    let p = both (sectionless a) (sectionless b) h in none_of_both (visits t) (visits u) (none_within d p.0) (none_within e p.1)
none_within (Is.until d) h = none_within d h
none_within (Is.op {ends = ends} {c = c} k d) h = none_within d (row_sectionless (kinds_among ends c))
none_within (Is.left {a = a} {r = r} {b = b} {o = o} {t = t} d e f) h =
    let p = both (sectionless a) (sectionless r && sectionless b) h in
    none_of_both (visits t) (Index space.Table 0 ∷ visits o) (none_within e (both (sectionless r) (sectionless b) p.1).1) (none_within d p.0)
none_within (Is.aimed {w = w} {a = a} {r = r} {b = b} {i = i} {o = o} {t = t} d e) h =
    let p = both (sectionless a) (sectionless r && sectionless b) h in
    none_of_both (visits t) (Index space.Table i ∷ visits o) (none_within e (listing_sectionless w r b p.1)) (none_within d p.0)
none_within (Is.placed {a = a} {b = b} {o = o} {t = t} d e) h =
    let p = both (sectionless a) (sectionless b) h in none_of_both (visits o) (visits t) (none_within d p.0) (none_within e p.1)
none_within (Is.named {a = a} {b = b} d) h = none_within d (both (sectionless a) (sectionless b) h).0
none_within (Is.other {a = a} {b = b} o d) h = none_within d (both (sectionless a) (sectionless b) h).1
none_within (Is.led d) h = none_within d h
none_within (Is.told d) h = none_within d h
none_within Is.finish h = absurd cc
none_within (Is.also d e) h = absurd cc
none_within _ h = refl

pub within : (text : List ℕ) (t : Tree) → Spells section text t → section_visits (visits t) ≡ []
within text t p = none_within p.shaped refl

-- where there are none, none stands among them
pub none_told : (front rest : List Visit) (v : Visit) → MayAdd v → section_visits (front ++ v ∷ rest) ≡ [] → ⊥
none_told front rest v may none = go (section_visits front) (section_visits (v ∷ rest)) (some v may) (sym (filter-append is_section front (v ∷ rest)) ∙ none)
  where
    some : (w : Visit) → MayAdd w → section_visits (w ∷ rest) ≡ [] → ⊥
    some (Section after before) may e = cc
    some (Closed kind) may e = cc
    some _ may e = absurd may

    go : (xs ys : List Visit) → (ys ≡ [] → ⊥) → xs ++ ys ≡ [] → ⊥
    go [] ys h e = h e
    go (x ∷ xs) ys h e = cc
