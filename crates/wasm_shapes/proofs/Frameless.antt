-- Where no sized body stands in a shape, a tree of it has no frames.
use Rattle.std.proofs.Common.{◌≡◌, ℕ, ◌-◌, ◌^◌, Bool, true, false, ◌&&◌, List, [], ◌∷◌, ◌++◌, Option, Some, None, refl, ap₂, arith}
use Rattle.wasm_shapes.specs.declared.ImmKind.{ImmKind}
use Rattle.wasm_shapes.specs.declared.ImmKind.TheVariants as kind
use Rattle.wasm_shapes.specs.Operators.{kinds_among}
use Rattle.wasm_shapes.specs.Tree.{Tree, Listed, frames, normal}
use Rattle.wasm_shapes.specs.Shape.{Named, Shape, flat, shape_of_kind, shape_of_kinds, shape_of_row, listing}
use Rattle.wasm_shapes.specs.NamedShapes.{shape_of}
use Rattle.wasm_shapes.specs.Spells.{Is, Spells}
use Rattle.wasm_shapes.specs.Fits.{InRange, Fits}
use Rattle.wasm_shapes.proofs.Lists.{both}
use Rattle.wasm_shapes.proofs.ReadBack.{read_back}

-- no sized body stands in it; what it names has none but where it is a frame, and immediates have none
abbrev pub frameless : Shape → Bool
frameless (Shape.seq a b) = frameless a && frameless b
frameless (Shape.swap a b) = frameless a && frameless b
frameless (Shape.many a) = frameless a
frameless (Shape.vec a) = frameless a
frameless (Shape.opt a) = frameless a
frameless (Shape.sized a) = false
frameless (Shape.or a b) = frameless a && frameless b
frameless (Shape.scope a) = frameless a
frameless (Shape.spare b a c) = frameless a && frameless c
frameless (Shape.final a b) = frameless a && frameless b
frameless (Shape.until b a) = frameless a
frameless (Shape.active w a r b) = frameless a && (frameless r && frameless b)
frameless (Shape.placed a b) = frameless a && frameless b
frameless (Shape.by_name n a b) = frameless a && frameless b
frameless (Shape.begun fs a) = frameless a
frameless (Shape.told k a) = frameless a
frameless (Shape.sections a) = frameless a
frameless (Shape.ref n) = flat n
frameless _ = true

named_frameless : (n : Named) → flat n ≡ true → frameless (shape_of n) ≡ true
named_frameless Named.nested h = absurd cc
named_frameless _ h = refl

kind_frameless : (k : ImmKind) → frameless (shape_of_kind k) ≡ true
kind_frameless kind.Block = refl
kind_frameless _ = refl

kinds_frameless : (ks : List ImmKind) → frameless (shape_of_kinds ks) ≡ true
kinds_frameless [] = refl
kinds_frameless (k ∷ ks) = rw (kind_frameless k, kinds_frameless ks) refl

row_frameless : (o : Option (List ImmKind)) → frameless (shape_of_row o) ≡ true
row_frameless (Some ks) = kinds_frameless ks
row_frameless None = refl

listing_frameless : (w : Listed) (r b : Shape) → (frameless r && frameless b) ≡ true → frameless (listing w r b) ≡ true
listing_frameless Listed.functions r b e = (both (frameless r) (frameless b) e).1
listing_frameless Listed.expressions r b e = e

none_of_both : {xs ys : List ℕ} → xs ≡ [] → ys ≡ [] → xs ++ ys ≡ []
none_of_both p q = ap₂ (λ (y z : List ℕ). y ++ z) p q

pub no_frames : {s : Shape} {t : Tree} → Is s t → frameless s ≡ true → frames t ≡ []
no_frames (Is.seq {a = a} {b = b} d e) h = let p = both (frameless a) (frameless b) h in none_of_both (no_frames d p.0) (no_frames e p.1)
no_frames (Is.swap {a = a} {b = b} d e) h = let p = both (frameless a) (frameless b) h in none_of_both (no_frames d p.0) (no_frames e p.1)
no_frames (Is.cons d e) h = none_of_both (no_frames d h) (no_frames e h)
no_frames (Is.vec d) h = no_frames d h
no_frames (Is.present d) h = no_frames d h
no_frames (Is.sized d) h = absurd cc
no_frames (Is.first {a = a} {b = b} d) h = no_frames d (both (frameless a) (frameless b) h).0
no_frames (Is.later {a = a} {b = b} d) h = no_frames d (both (frameless a) (frameless b) h).1
no_frames (Is.ref {n = n} d) h = no_frames d (named_frameless n h)
no_frames (Is.scope d) h = no_frames d h
no_frames (Is.spare {a = a} {c = c} d) h = no_frames d (both (frameless a) (frameless c) h).0
no_frames (Is.kept {a = a} {c = c} d) h = no_frames d (both (frameless a) (frameless c) h).1
no_frames (Is.final {a = a} {b = b} d e) h = let p = both (frameless a) (frameless b) h in none_of_both (no_frames d p.0) (no_frames e p.1)
no_frames (Is.until d) h = no_frames d h
no_frames (Is.op {ends = ends} {c = c} k d) h = no_frames d (row_frameless (kinds_among ends c))
no_frames (Is.left {a = a} {r = r} {b = b} d e f) h =
    let p = both (frameless a) (frameless r && frameless b) h in
    none_of_both (no_frames d p.0) (no_frames e (both (frameless r) (frameless b) p.1).1)
no_frames (Is.aimed {w = w} {a = a} {r = r} {b = b} d e) h =
    let p = both (frameless a) (frameless r && frameless b) h in
    none_of_both (no_frames d p.0) (no_frames e (listing_frameless w r b p.1))
no_frames (Is.placed {a = a} {b = b} d e) h = let p = both (frameless a) (frameless b) h in none_of_both (no_frames d p.0) (no_frames e p.1)
no_frames (Is.named {a = a} {b = b} d) h = no_frames d (both (frameless a) (frameless b) h).0
no_frames (Is.other {a = a} {b = b} o d) h = no_frames d (both (frameless a) (frameless b) h).1
no_frames (Is.led d) h = no_frames d h
no_frames (Is.told d) h = no_frames d h
no_frames (Is.also d e) h = none_of_both (no_frames d h) (no_frames e h)
no_frames _ h = refl

-- such a tree that is in range is spelled by its normal spelling
pub frameless_spells : (s : Shape) {t : Tree} → frameless s ≡ true → Is s t → InRange t → Spells s (normal t) t
frameless_spells s {t = t} h d r =
    let fits : Fits t (2 ^ 32 - 1) = rw (no_frames d h) (λ k i e. absurd (omega arith)) in
    record { shaped = d; spelled = read_back t r fits }
