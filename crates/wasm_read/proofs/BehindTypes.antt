-- The bytes behind a type, by those behind a part of it.
use Rattle.std.proofs.Common.{◌≡◌, ℕ, List, ◌∷◌, Bor, Option, Some, None}
use Rattle.std.specs.Prelude.{IfNone, IfSome}
use Rattle.wasm_shapes.specs.declared.Space.TheVariants as space
use Rattle.wasm_shapes.specs.Tree.{Tree}
use Rattle.wasm_shapes.specs.Shape.{Named, Shape}
use Rattle.wasm_shapes.specs.Spells.{Is}
use Rattle.wasm_shapes.specs.Place.{Begins, BeginsNone}
use Rattle.wasm_read.proofs.TypeRows.{final_begins, open_begins}

-- a tree of a shape stands there, in front of what is answered
abbrev pub Behind : Shape → List ℕ → Option (Bor (List ℕ)) → Type 0
Behind s bytes r = IfSome r (λ x. (t : Tree) × Begins s bytes t x.now)

abbrev pub BehindNone : Shape → List ℕ → Option (Bor (List ℕ)) → Type 0
BehindNone s bytes r = IfNone r (BeginsNone s bytes)

pub behind_more : {a b : Shape} {xs ys : List ℕ} (r : Option (Bor (List ℕ))) → ((t : Tree) (l : List ℕ) → Begins a xs t l → (u : Tree) × Begins b ys u l) → Behind a xs r → Behind b ys r
behind_more (Some x) f p = f p.0 x.now p.1
behind_more None f p = tt

pub behind_none : {a b : Shape} {xs ys : List ℕ} (r : Option (Bor (List ℕ))) → (BeginsNone a xs → BeginsNone b ys) → BehindNone a xs r → BehindNone b ys r
behind_none (Some x) f p = tt
behind_none None f p = f p

-- supertypes and a composite type stand there, in front of what is answered
abbrev pub PartsBehind : List ℕ → Option (Bor (List ℕ)) → Type 0
PartsBehind xs r =
    IfSome r (λ x. (t u : Tree) × (middle : List ℕ) × Begins (Shape.vec (Shape.ix space.Type_)) xs t middle × Begins (Shape.ref Named.composite) middle u x.now)

pub parts_behind : {xs middle : List ℕ} (t : Tree) (r : Option (Bor (List ℕ))) → Begins (Shape.vec (Shape.ix space.Type_)) xs t middle → Behind (Shape.ref Named.composite) middle r → PartsBehind xs r
parts_behind {middle = middle} t (Some x) there p = (t, p.0, middle, there, p.1)
parts_behind t None there p = tt

-- a vector is its items behind their number
vec_begins : {s : Shape} {xs l : List ℕ} (t : Tree) → Begins (Shape.vec s) xs t l → (u : Tree) × Begins (Shape.vec s) xs (Tree.vec u) l
vec_begins {s = s} {xs = xs} {l = l} t p = go t p.spells.shaped p
  where
    go : (t : Tree) → Is (Shape.vec s) t → Begins (Shape.vec s) xs t l → (u : Tree) × Begins (Shape.vec s) xs (Tree.vec u) l
    go t (Is.vec {t = u} d) p = (u, p)

pub open_behind : {bytes xs : List ℕ} → bytes ≡ 0x50 ∷ xs → (r : Option (Bor (List ℕ))) → PartsBehind xs r → Behind (Shape.ref Named.sub) bytes r
open_behind e (Some x) p = (_, open_begins e p.3 p.4)
open_behind e None p = tt

pub final_behind : {bytes xs : List ℕ} → bytes ≡ 0x4f ∷ xs → (r : Option (Bor (List ℕ))) → PartsBehind xs r → Behind (Shape.ref Named.sub) bytes r
final_behind e (Some x) p = let v = vec_begins p.0 p.3 in (_, final_begins e v.1 p.4)
final_behind e None p = tt
