-- The frames of a shape that holds none out of order close in the order of its bytes.
use Rattle.std.proofs.Common.{◌≡◌, ℕ, List, [], ◌∷◌, ◌++◌, true, Option, Some, None, length, refl, sym, ap, ◌∙◌}
use mathlib.Core.Bool.{false≢true}
use Rattle.std.specs.Prelude.{◌&&◌}
use Rattle.wasm_shapes.specs.declared.ImmKind.{ImmKind}
use Rattle.wasm_shapes.specs.declared.ImmKind.TheVariants as kind
use Rattle.wasm_shapes.specs.Operators.{kinds_among}
use Rattle.wasm_shapes.specs.Tree.{Tree, Listed, frames, normal}
use Rattle.wasm_shapes.specs.Shape.{Shape, Named, flat, shape_of_kind, shape_of_kinds, shape_of_row, listing}
use Rattle.wasm_shapes.specs.NamedShapes.{shape_of}
use Rattle.wasm_shapes.specs.Spells.{Is}
use Rattle.wasm_shapes.proofs.Lists.{both}
use Rattle.wasm_shapes.proofs.ReadBack.{fill_is}
use Rattle.reencode_hooks.specs.Moments.{closings}
use Rattle.reencode_hooks.specs.Frames as statements
use Rattle.reencode_hooks.specs.Frames.{unframed, in_order}

named_unframed : (n : Named) → flat n ≡ true → unframed (shape_of n) ≡ true
named_unframed Named.nested h = absurd (false≢true h)
named_unframed _ h = refl

named_in_order : (n : Named) → in_order (shape_of n) ≡ true
named_in_order Named.value = refl
named_in_order _ = refl

kind_unframed : (k : ImmKind) → unframed (shape_of_kind k) ≡ true
kind_unframed kind.Block = refl
kind_unframed _ = refl

kinds_unframed : (ks : List ImmKind) → unframed (shape_of_kinds ks) ≡ true
kinds_unframed [] = refl
kinds_unframed (k ∷ ks) = rw (kind_unframed k) (kinds_unframed ks)

row_unframed : (o : Option (List ImmKind)) → unframed (shape_of_row o) ≡ true
row_unframed (Some ks) = kinds_unframed ks
row_unframed None = refl

-- no frame stands in the tree
record Bare (t : Tree) : Type 0 where
  none : frames t ≡ []
  closes : closings t ≡ []

two : (xs ys : List ℕ) → xs ≡ [] → ys ≡ [] → xs ++ ys ≡ []
two xs ys p q = rw (p, q) refl

bare_two : (t u : Tree) → Bare t → Bare u → (frames t ++ frames u ≡ []) × (closings t ++ closings u ≡ [])
bare_two t u p q = (two (frames t) (frames u) p.none q.none, two (closings t) (closings u) p.closes q.closes)

bare_back : (t u : Tree) → Bare t → Bare u → (frames t ++ frames u ≡ []) × (closings u ++ closings t ≡ [])
bare_back t u p q = (two (frames t) (frames u) p.none q.none, two (closings u) (closings t) q.closes p.closes)

leaf_bare : {t : Tree} → frames t ≡ [] → closings t ≡ [] → Bare t
leaf_bare p q = record { none = p; closes = q }

-- ---- no frame stands in a tree of an unframed shape

listing_unframed : (w : Listed) (r b : Shape) → unframed r ≡ true → unframed b ≡ true → unframed (listing w r b) ≡ true
listing_unframed Listed.functions r b p q = q
listing_unframed Listed.expressions r b p q = rw (p, q) refl

unframed_is : {s : Shape} {t : Tree} → Is s t → unframed s ≡ true → Bare t
unframed_is Is.empty k = leaf_bare refl refl
unframed_is Is.fixed k = leaf_bare refl refl
unframed_is Is.byte k = leaf_bare refl refl
unframed_is (Is.bytes l) k = leaf_bare refl refl
unframed_is Is.rest k = leaf_bare refl refl
unframed_is Is.u32 k = leaf_bare refl refl
unframed_is Is.u64 k = leaf_bare refl refl
unframed_is Is.s32 k = leaf_bare refl refl
unframed_is Is.s64 k = leaf_bare refl refl
unframed_is Is.ix k = leaf_bare refl refl
unframed_is Is.sx k = leaf_bare refl refl
unframed_is Is.outer k = leaf_bare refl refl
unframed_is Is.name k = leaf_bare refl refl
unframed_is Is.content k = leaf_bare refl refl
unframed_is Is.alike k = leaf_bare refl refl
unframed_is Is.mem k = leaf_bare refl refl
unframed_is Is.flag k = leaf_bare refl refl
unframed_is (Is.within l h) k = leaf_bare refl refl
unframed_is (Is.seq {a = a} {b = b} {t = t} {u = u} d d') k =
    let p = both (unframed a) (unframed b) k in let e = bare_two t u (unframed_is d p.0) (unframed_is d' p.1) in leaf_bare e.0 e.1
unframed_is (Is.swap {a = a} {b = b} {t = t} {u = u} d d') k =
    let p = both (unframed a) (unframed b) k in let e = bare_back t u (unframed_is d p.0) (unframed_is d' p.1) in leaf_bare e.0 e.1
unframed_is Is.nil k = leaf_bare refl refl
unframed_is (Is.cons {t = t} {u = u} d d') k = let e = bare_two t u (unframed_is d k) (unframed_is d' k) in leaf_bare e.0 e.1
unframed_is (Is.vec d) k = let e = unframed_is d k in leaf_bare e.none e.closes
unframed_is Is.absent k = leaf_bare refl refl
unframed_is (Is.present d) k = let e = unframed_is d k in leaf_bare e.none e.closes
unframed_is (Is.sized d) k = absurd (false≢true k)
unframed_is (Is.first {a = a} {b = b} d) k = let e = unframed_is d (both (unframed a) (unframed b) k).0 in leaf_bare e.none e.closes
unframed_is (Is.later {a = a} {b = b} d) k = let e = unframed_is d (both (unframed a) (unframed b) k).1 in leaf_bare e.none e.closes
unframed_is (Is.ref {n = n} d) k = unframed_is d (named_unframed n k)
unframed_is (Is.scope d) k = let e = unframed_is d k in leaf_bare e.none e.closes
unframed_is (Is.spare {a = a} {c = c} d) k = let e = unframed_is d (both (unframed a) (unframed c) k).0 in leaf_bare e.none e.closes
unframed_is (Is.kept {a = a} {c = c} d) k = let e = unframed_is d (both (unframed a) (unframed c) k).1 in leaf_bare e.none e.closes
unframed_is (Is.final {a = a} {b = b} {t = t} {u = u} d d') k =
    let p = both (unframed a) (unframed b) k in let e = bare_two t u (unframed_is d p.0) (unframed_is d' p.1) in leaf_bare e.0 e.1
unframed_is (Is.until d) k = let e = unframed_is d k in leaf_bare e.none e.closes
unframed_is (Is.op {ends = ends} {c = c} h d) k = let e = unframed_is d (row_unframed (kinds_among ends c)) in leaf_bare e.none e.closes
unframed_is (Is.left {a = a} {r = r} {b = b} {o = o} {t = t} d d' d'') k =
    let p = both (unframed a) (unframed r && unframed b) k in
    let e = bare_back o t (unframed_is d p.0) (unframed_is d' (both (unframed r) (unframed b) p.1).1) in leaf_bare e.0 e.1
unframed_is (Is.aimed {w = w} {a = a} {r = r} {b = b} {o = o} {t = t} d d') k =
    let p = both (unframed a) (unframed r && unframed b) k in
    let q = both (unframed r) (unframed b) p.1 in
    let e = bare_back o t (unframed_is d p.0) (unframed_is d' (listing_unframed w r b q.0 q.1)) in leaf_bare e.0 e.1
unframed_is (Is.placed {a = a} {b = b} {o = o} {t = t} d d') k =
    let p = both (unframed a) (unframed b) k in let e = bare_two o t (unframed_is d p.0) (unframed_is d' p.1) in leaf_bare e.0 e.1
unframed_is (Is.named {a = a} {b = b} d) k = let e = unframed_is d (both (unframed a) (unframed b) k).0 in leaf_bare e.none e.closes
unframed_is (Is.other {a = a} {b = b} o d) k = let e = unframed_is d (both (unframed a) (unframed b) k).1 in leaf_bare e.none e.closes
unframed_is (Is.led d) k = let e = unframed_is d k in leaf_bare e.none e.closes
unframed_is (Is.not_led o) k = leaf_bare refl refl
unframed_is (Is.told d) k = let e = unframed_is d k in leaf_bare e.none e.closes
unframed_is Is.finish k = leaf_bare refl refl
unframed_is (Is.also {t = t} {u = u} d d') k = let e = bare_two t u (unframed_is d k) (unframed_is d' k) in leaf_bare e.0 e.1

-- ---- frames in order

-- the frames close in the order of the bytes
record Level (t : Tree) : Type 0 where
  is : closings t ≡ frames t

level_of_bare : {t : Tree} → Bare t → Level t
level_of_bare b = record { is = b.closes ∙ sym b.none }

level : {t : Tree} → closings t ≡ frames t → Level t
level p = record { is = p }

level_two : (t u : Tree) → Level t → Level u → closings t ++ closings u ≡ frames t ++ frames u
level_two t u p q = rw (p.is, q.is) refl

in_order_is : {s : Shape} {t : Tree} → Is s t → in_order s ≡ true → Level t
in_order_is Is.empty k = level refl
in_order_is Is.fixed k = level refl
in_order_is Is.byte k = level refl
in_order_is (Is.bytes l) k = level refl
in_order_is Is.rest k = level refl
in_order_is Is.u32 k = level refl
in_order_is Is.u64 k = level refl
in_order_is Is.s32 k = level refl
in_order_is Is.s64 k = level refl
in_order_is Is.ix k = level refl
in_order_is Is.sx k = level refl
in_order_is Is.outer k = level refl
in_order_is Is.name k = level refl
in_order_is Is.content k = level refl
in_order_is Is.alike k = level refl
in_order_is Is.mem k = level refl
in_order_is Is.flag k = level refl
in_order_is (Is.within l h) k = level refl
in_order_is (Is.seq {a = a} {b = b} {t = t} {u = u} d d') k =
    let p = both (in_order a) (in_order b) k in level (level_two t u (in_order_is d p.0) (in_order_is d' p.1))
in_order_is (Is.swap d d') k = level_of_bare (unframed_is (Is.swap d d') k)
in_order_is Is.nil k = level refl
in_order_is (Is.cons {t = t} {u = u} d d') k = level (level_two t u (in_order_is d k) (in_order_is d' k))
in_order_is (Is.vec d) k = level (in_order_is d k).is
in_order_is Is.absent k = level refl
in_order_is (Is.present d) k = level (in_order_is d k).is
in_order_is (Is.sized {t = t} d) k = level (ap (λ (z : List ℕ). z ++ (length (normal t) ∷ [])) (in_order_is d k).is)
in_order_is (Is.first {a = a} {b = b} d) k = level (in_order_is d (both (in_order a) (in_order b) k).0).is
in_order_is (Is.later {a = a} {b = b} d) k = level (in_order_is d (both (in_order a) (in_order b) k).1).is
in_order_is (Is.ref {n = n} d) k = level (in_order_is d (named_in_order n)).is
in_order_is (Is.scope d) k = level (in_order_is d k).is
in_order_is (Is.spare {a = a} {c = c} d) k = level (in_order_is d (both (in_order a) (in_order c) k).0).is
in_order_is (Is.kept {a = a} {c = c} d) k = level (in_order_is d (both (in_order a) (in_order c) k).1).is
in_order_is (Is.final {a = a} {b = b} {t = t} {u = u} d d') k =
    let p = both (in_order a) (in_order b) k in level (level_two t u (in_order_is d p.0) (in_order_is d' p.1))
in_order_is (Is.until d) k = level (in_order_is d k).is
in_order_is (Is.op {ends = ends} {c = c} h d) k = level_of_bare (unframed_is (Is.op {ends = ends} {c = c} h d) refl)
in_order_is (Is.left d d' d'') k = level_of_bare (unframed_is (Is.left d d' d'') k)
in_order_is (Is.aimed d d') k = level_of_bare (unframed_is (Is.aimed d d') k)
in_order_is (Is.placed {a = a} {b = b} {o = o} {t = t} d d') k =
    let p = both (in_order a) (in_order b) k in level (level_two o t (in_order_is d p.0) (in_order_is d' p.1))
in_order_is (Is.named {a = a} {b = b} d) k = level (in_order_is d (both (in_order a) (in_order b) k).0).is
in_order_is (Is.other {a = a} {b = b} o d) k = level (in_order_is d (both (in_order a) (in_order b) k).1).is
in_order_is (Is.led d) k = level (in_order_is d k).is
in_order_is (Is.not_led o) k = level refl
in_order_is (Is.told d) k = level (in_order_is d k).is
in_order_is Is.finish k = level refl
in_order_is (Is.also {t = t} {u = u} d d') k = level (level_two t u (in_order_is d k) (in_order_is d' k))

pub frames_in_order : statements.FramesAreInOrder
frames_in_order = record {
  filled = λ s bytes t given k p. (in_order_is (fill_is p.shaped given) k).is;
  core = refl;
  component = refl;
}
