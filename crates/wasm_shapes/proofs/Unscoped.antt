-- Where no scope stands in a shape, a tree of it opens none.
use Rattle.std.proofs.Common.{◌≡◌, ◌+◌, ◌≤◌, ℕ, max, List, [], ◌∷◌, Bool, true, false, ◌&&◌, Option, Some, None, refl, arith}
use Rattle.wasm_shapes.specs.declared.ImmKind.{ImmKind}
use Rattle.wasm_shapes.specs.declared.ImmKind.TheVariants as kind
use Rattle.wasm_shapes.specs.Operators.{kinds_among}
use Rattle.wasm_shapes.specs.Tree.{Tree, Listed}
use Rattle.wasm_shapes.specs.Shape.{Shape, Named, shape_of_kind, shape_of_kinds, shape_of_row, listing}
use Rattle.wasm_shapes.specs.NamedShapes.{shape_of}
use Rattle.wasm_shapes.specs.Spells.{Is}
use Rattle.wasm_shapes.specs.Module.{CoreReading}
use Rattle.wasm_shapes.specs.Depth.{opens, Shallow}
use Rattle.wasm_shapes.specs.Scopes.{scopes}
use Rattle.wasm_shapes.proofs.Lists.{both}

-- the named shapes in which no scope stands
abbrev pub is_unscoped : Named → Bool
is_unscoped Named.core_type = false
is_unscoped Named.component_type = false
is_unscoped Named.nested = false
is_unscoped _ = true

-- no scope stands in it; nor does one in the immediates of an operator
abbrev pub unscoped : Shape → Bool
unscoped (Shape.seq a b) = unscoped a && unscoped b
unscoped (Shape.swap a b) = unscoped a && unscoped b
unscoped (Shape.many a) = unscoped a
unscoped (Shape.vec a) = unscoped a
unscoped (Shape.opt a) = unscoped a
unscoped (Shape.sized a) = unscoped a
unscoped (Shape.or a b) = unscoped a && unscoped b
unscoped (Shape.ref n) = is_unscoped n
unscoped (Shape.scope a) = false
unscoped (Shape.spare b a c) = unscoped a && unscoped c
unscoped (Shape.final a b) = unscoped a && unscoped b
unscoped (Shape.until b a) = unscoped a
unscoped (Shape.active w a r b) = unscoped a && (unscoped r && unscoped b)
unscoped (Shape.placed a b) = unscoped a && unscoped b
unscoped (Shape.by_name n a b) = unscoped a && unscoped b
unscoped (Shape.begun fs a) = unscoped a
unscoped (Shape.told k a) = unscoped a
unscoped (Shape.sections a) = unscoped a
unscoped _ = true

named_unscoped : (n : Named) → is_unscoped n ≡ true → unscoped (shape_of n) ≡ true
named_unscoped Named.core_type h = absurd cc
named_unscoped Named.component_type h = absurd cc
named_unscoped Named.nested h = absurd cc
named_unscoped _ h = refl

kind_unscoped : (k : ImmKind) → unscoped (shape_of_kind k) ≡ true
kind_unscoped kind.Block = refl
kind_unscoped _ = refl

kinds_unscoped : (ks : List ImmKind) → unscoped (shape_of_kinds ks) ≡ true
kinds_unscoped [] = refl
kinds_unscoped (k ∷ ks) = rw (kind_unscoped k, kinds_unscoped ks) refl

row_unscoped : (o : Option (List ImmKind)) → unscoped (shape_of_row o) ≡ true
row_unscoped (Some ks) = kinds_unscoped ks
row_unscoped None = refl

listing_unscoped : (w : Listed) (r b : Shape) → (unscoped r && unscoped b) ≡ true → unscoped (listing w r b) ≡ true
listing_unscoped Listed.functions r b e = (both (unscoped r) (unscoped b) e).1
listing_unscoped Listed.expressions r b e = e

-- no scope stands in a tree
pub record Flat (t : Tree) : Type 0 where
  pub scopes : scopes t ≡ 0
  pub opens : opens t ≡ 0

flat_leaf : {t : Tree} → scopes t ≡ 0 → opens t ≡ 0 → Flat t
flat_leaf p q = record { scopes = p; opens = q }

flat_two : (t u : Tree) → Flat t → Flat u → (scopes t + scopes u ≡ 0) × (max (opens t) (opens u) ≡ 0)
flat_two t u p q = (omega (arith, p.scopes, q.scopes), omega (arith, p.opens, q.opens))

pub unscoped_is : {s : Shape} {t : Tree} → Is s t → unscoped s ≡ true → Flat t
unscoped_is (Is.seq {a = a} {b = b} {t = t} {u = u} d e) h =
    let p = both (unscoped a) (unscoped b) h in let f = flat_two t u (unscoped_is d p.0) (unscoped_is e p.1) in flat_leaf f.0 f.1
unscoped_is (Is.swap {a = a} {b = b} {t = t} {u = u} d e) h =
    let p = both (unscoped a) (unscoped b) h in let f = flat_two t u (unscoped_is d p.0) (unscoped_is e p.1) in flat_leaf f.0 f.1
unscoped_is (Is.cons {t = t} {u = u} d e) h = let f = flat_two t u (unscoped_is d h) (unscoped_is e h) in flat_leaf f.0 f.1
unscoped_is (Is.vec d) h = let f = unscoped_is d h in flat_leaf f.scopes f.opens
unscoped_is (Is.present d) h = let f = unscoped_is d h in flat_leaf f.scopes f.opens
unscoped_is (Is.sized d) h = let f = unscoped_is d h in flat_leaf f.scopes f.opens
unscoped_is (Is.first {a = a} {b = b} d) h = let f = unscoped_is d (both (unscoped a) (unscoped b) h).0 in flat_leaf f.scopes f.opens
unscoped_is (Is.later {a = a} {b = b} d) h = let f = unscoped_is d (both (unscoped a) (unscoped b) h).1 in flat_leaf f.scopes f.opens
unscoped_is (Is.ref {n = n} d) h = unscoped_is d (named_unscoped n h)
unscoped_is (Is.scope d) h = absurd cc
unscoped_is (Is.spare {a = a} {c = c} d) h = let f = unscoped_is d (both (unscoped a) (unscoped c) h).0 in flat_leaf f.scopes f.opens
unscoped_is (Is.kept {a = a} {c = c} d) h = let f = unscoped_is d (both (unscoped a) (unscoped c) h).1 in flat_leaf f.scopes f.opens
unscoped_is (Is.final {a = a} {b = b} {t = t} {u = u} d e) h =
    let p = both (unscoped a) (unscoped b) h in let f = flat_two t u (unscoped_is d p.0) (unscoped_is e p.1) in flat_leaf f.0 f.1
unscoped_is (Is.until d) h = let f = unscoped_is d h in flat_leaf f.scopes f.opens
unscoped_is (Is.op {ends = ends} {c = c} k d) h = let f = unscoped_is d (row_unscoped (kinds_among ends c)) in flat_leaf f.scopes f.opens
unscoped_is (Is.left {a = a} {r = r} {b = b} {o = o} {t = t} d e g) h =
    let p = both (unscoped a) (unscoped r && unscoped b) h in
    let f = flat_two o t (unscoped_is d p.0) (unscoped_is e (both (unscoped r) (unscoped b) p.1).1) in flat_leaf f.0 f.1
unscoped_is (Is.aimed {w = w} {a = a} {r = r} {b = b} {o = o} {t = t} d e) h =
    let p = both (unscoped a) (unscoped r && unscoped b) h in
    let f = flat_two o t (unscoped_is d p.0) (unscoped_is e (listing_unscoped w r b p.1)) in flat_leaf f.0 f.1
unscoped_is (Is.placed {a = a} {b = b} {o = o} {t = t} d e) h =
    let p = both (unscoped a) (unscoped b) h in let f = flat_two o t (unscoped_is d p.0) (unscoped_is e p.1) in flat_leaf f.0 f.1
unscoped_is (Is.named {n = n} {a = a} {b = b} {t = t} d) h =
    let f = flat_two (Tree.name n) t (flat_leaf refl refl) (unscoped_is d (both (unscoped a) (unscoped b) h).0) in flat_leaf f.0 f.1
unscoped_is (Is.other {bs = n} {a = a} {b = b} {t = t} o d) h =
    let f = flat_two (Tree.name n) t (flat_leaf refl refl) (unscoped_is d (both (unscoped a) (unscoped b) h).1) in flat_leaf f.0 f.1
unscoped_is (Is.led d) h = unscoped_is d h
unscoped_is (Is.told d) h = let f = unscoped_is d h in flat_leaf f.scopes f.opens
unscoped_is (Is.also {t = t} {u = u} d e) h = let f = flat_two t u (unscoped_is d h) (unscoped_is e h) in flat_leaf f.0 f.1
unscoped_is _ h = flat_leaf refl refl

-- no scope stands in a core module
pub core_unscoped : {bytes : List ℕ} {t : Tree} → CoreReading bytes t → Flat t
core_unscoped r = unscoped_is r.spells.shaped refl

-- so a nested one opens one scope, for which there is room
pub core_shallow : {bytes : List ℕ} {t : Tree} {depth : ℕ} → CoreReading bytes t → depth + 1 ≤ 200 → Shallow depth (Tree.scope t)
core_shallow {t = t} {depth = depth} r h = let f = core_unscoped r in let none : opens t ≡ 0 = f.opens in record { most = omega arith }
