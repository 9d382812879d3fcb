-- Which bytes spell which tree of which shape (WebAssembly Core Specification 3.0, section 5).
use Rattle.std.specs.Prelude.{◌≡◌, ◌≢◌, ℕ, ℤ, zero, suc, ◌+◌, ◌<◌, ◌≤◌, List, [], ◌∷◌, ◌++◌, length, IsUtf8, true, false, Bool, ◌⊎◌}
use Rattle.wasm_leb.specs.Leb.{IsUnsigned, IsSignedIndex, IsSigned}
use Rattle.wasm_shapes.specs.declared.SectionId.{SectionId}
use Rattle.wasm_shapes.specs.declared.Space.{Space}
use Rattle.wasm_shapes.specs.Tree.{Tree, count, Listed, typed, left_flag, aimed_flag, kind_bytes}
use Rattle.wasm_shapes.specs.Operators.{Code, plain, prefixed, is_code}
use Rattle.wasm_shapes.specs.Shape.{Shape, Named, immediates, listing, begins_with_one}
use Rattle.wasm_shapes.specs.NamedShapes.{shape_of}

-- The tree has the shape.
pub data Is : Shape → Tree → Type 0 where
  empty : Is Shape.empty Tree.empty
  fixed : {b : ℕ} → Is (Shape.fixed b) (Tree.fixed b)
  byte : {b : ℕ} → Is Shape.byte (Tree.byte b)
  bytes : {n : ℕ} {bs : List ℕ} → length bs ≡ n → Is (Shape.bytes n) (Tree.raw bs)
  rest : {bs : List ℕ} → Is Shape.rest (Tree.raw bs)
  u32 : {n : ℕ} → Is Shape.u32 (Tree.u32 n)
  u64 : {n : ℕ} → Is Shape.u64 (Tree.u64 n)
  s32 : {z : ℤ} → Is Shape.s32 (Tree.s32 z)
  s64 : {z : ℤ} → Is Shape.s64 (Tree.s64 z)
  ix : {s : Space} {i : ℕ} → Is (Shape.ix s) (Tree.ix s i)
  sx : {s : Space} {i : ℕ} → Is (Shape.sx s) (Tree.sx s i)
  outer : {s : Space} {c i : ℕ} → Is (Shape.outer s) (Tree.outer s c i)
  name : {bs : List ℕ} → Is Shape.name (Tree.name bs)
  content : {bs : List ℕ} → Is Shape.content (Tree.content bs)
  alike : {b c : ℕ} → Is (Shape.alike b c) (Tree.alike b c)
  mem : {a i o : ℕ} → Is Shape.mem (Tree.mem a i o)
  flag : {n : ℕ} → Is (Shape.flag n) (Tree.flag n)
  within : {low high b : ℕ} → low ≤ b → b ≤ high → Is (Shape.within low high) (Tree.byte b)
  seq : {a b : Shape} {t u : Tree} → Is a t → Is b u → Is (Shape.seq a b) (Tree.pair t u)
  swap : {a b : Shape} {t u : Tree} → Is a t → Is b u → Is (Shape.swap a b) (Tree.swap t u)
  nil : {a : Shape} → Is (Shape.many a) Tree.nil
  cons : {a : Shape} {t u : Tree} → Is a t → Is (Shape.many a) u → Is (Shape.many a) (Tree.cons t u)
  vec : {a : Shape} {t : Tree} → Is (Shape.many a) t → Is (Shape.vec a) (Tree.vec t)
  absent : {a : Shape} → Is (Shape.opt a) Tree.absent
  present : {a : Shape} {t : Tree} → Is a t → Is (Shape.opt a) (Tree.present t)
  sized : {a : Shape} {t : Tree} → Is a t → Is (Shape.sized a) (Tree.sized t)
  first : {a b : Shape} {t : Tree} → Is a t → Is (Shape.or a b) (Tree.row zero t)
  later : {a b : Shape} {k : ℕ} {t : Tree} → Is b (Tree.row k t) → Is (Shape.or a b) (Tree.row (suc k) t)
  ref : {n : Named} {t : Tree} → Is (shape_of n) t → Is (Shape.ref n) t
  scope : {a : Shape} {t : Tree} → Is a t → Is (Shape.scope a) (Tree.scope t)
  spare : {b : ℕ} {a c : Shape} {t : Tree} → Is a t → Is (Shape.spare b a c) (Tree.spare b t)
  kept : {b : ℕ} {a c : Shape} {t : Tree} → Is c t → Is (Shape.spare b a c) (Tree.kept b t)
  final : {a b : Shape} {t u : Tree} → Is (Shape.many a) t → Is b u → Is (Shape.final a b) (Tree.final t u)
  until : {b : ℕ} {a : Shape} {t : Tree} → Is (Shape.many a) t → Is (Shape.until b a) (Tree.until b t)
  op : {ends : Bool} {c : Code} {t : Tree} → is_code c ≡ true → Is (immediates ends c) t → Is (Shape.op ends) (Tree.op c t)
  left : {w : Listed} {a r b : Shape} {o t : Tree} → Is a o → Is b t → Is (listing w r b) (typed w t) → Is (Shape.active w a r b) (Tree.left w o t)
  aimed : {w : Listed} {a r b : Shape} {i : ℕ} {o t : Tree} → Is a o → Is (listing w r b) t → Is (Shape.active w a r b) (Tree.aimed w i o t)
  placed : {a b : Shape} {i : ℕ} {o t : Tree} → Is a o → Is b t → Is (Shape.placed a b) (Tree.placed i o t)
  named : {n : List ℕ} {a b : Shape} {t : Tree} → Is a t → Is (Shape.by_name n a b) (Tree.pair (Tree.name n) t)
  other : {n bs : List ℕ} {a b : Shape} {t : Tree} → bs ≢ n → Is b t → Is (Shape.by_name n a b) (Tree.pair (Tree.name bs) t)
  led : {fs : List (List ℕ)} {a : Shape} {t : Tree} → Is a t → Is (Shape.begun fs a) t
  not_led : {fs : List (List ℕ)} {bs : List ℕ} {a : Shape} → begins_with_one fs bs ≡ false → Is (Shape.begun fs a) (Tree.raw bs)
  told : {k : SectionId} {a : Shape} {t : Tree} → Is a t → Is (Shape.told k a) (Tree.told k t)
  finish : {a : Shape} → Is (Shape.sections a) Tree.finish
  also : {a : Shape} {t u : Tree} → Is a t → Is (Shape.sections a) u → Is (Shape.sections a) (Tree.also t u)

abbrev pub SpelledCode : Code → List ℕ → Type 0
SpelledCode (plain b) x = x ≡ b ∷ []
SpelledCode (prefixed p n) x = (y : List ℕ) × (x ≡ p ∷ y) × IsUnsigned 32 y n

-- flags that leave the memory out, and flags that write it
pub record SpelledMemLeft (a i o : ℕ) (x : List ℕ) : Type 0 where
  pub flags : List ℕ
  pub offset : List ℕ
  pub parts : x ≡ flags ++ offset
  pub zero : i ≡ 0
  pub flagged : IsUnsigned 32 flags a
  pub offsets : IsUnsigned 64 offset o

pub record SpelledMemWritten (a i o : ℕ) (x : List ℕ) : Type 0 where
  pub flags : List ℕ
  pub memory : List ℕ
  pub offset : List ℕ
  pub parts : x ≡ flags ++ (memory ++ offset)
  pub flagged : IsUnsigned 32 flags (a + 64)
  pub index : IsUnsigned 32 memory i
  pub offsets : IsUnsigned 64 offset o

-- the front of an active data segment: the flag 0 for the memory 0, or the flag 2 and the memory
abbrev pub SpelledPlace : ℕ → List ℕ → Type 0
SpelledPlace i x = ((i ≡ 0) × IsUnsigned 32 x 0) ⊎ ((f n : List ℕ) × (x ≡ f ++ n) × IsUnsigned 32 f 2 × IsUnsigned 32 n i)

-- The bytes spell the tree.
abbrev pub Spelled : Tree → List ℕ → Type 0
Spelled Tree.empty x = x ≡ []
Spelled (Tree.fixed b) x = x ≡ b ∷ []
Spelled (Tree.byte b) x = (x ≡ b ∷ []) × (b < 256)
Spelled (Tree.raw bs) x = x ≡ bs
Spelled (Tree.u32 n) x = IsUnsigned 32 x n
Spelled (Tree.u64 n) x = IsUnsigned 64 x n
Spelled (Tree.s32 z) x = IsSigned 32 x z
Spelled (Tree.s64 z) x = IsSigned 64 x z
Spelled (Tree.ix s i) x = IsUnsigned 32 x i
Spelled (Tree.sx s i) x = IsSignedIndex x i
Spelled (Tree.outer s c i) x = (y z : List ℕ) × (x ≡ y ++ z) × IsUnsigned 32 y c × IsUnsigned 32 z i
Spelled (Tree.name bs) x = (n : List ℕ) × (x ≡ n ++ bs) × IsUnsigned 32 n (length bs) × IsUtf8 bs
Spelled (Tree.content bs) x = (n : List ℕ) × (x ≡ n ++ bs) × IsUnsigned 32 n (length bs)
Spelled (Tree.alike b c) x = (x ≡ b ∷ []) ⊎ (x ≡ c ∷ [])
Spelled (Tree.mem a i o) x = (a < 64) × (SpelledMemLeft a i o x ⊎ SpelledMemWritten a i o x)
Spelled (Tree.canonical i) x = ⊥
Spelled (Tree.flag n) x = IsUnsigned 32 x n
Spelled (Tree.pair t u) x = (y z : List ℕ) × (x ≡ y ++ z) × Spelled t y × Spelled u z
Spelled (Tree.swap t u) x = (y z : List ℕ) × (x ≡ y ++ z) × Spelled t y × Spelled u z
Spelled Tree.nil x = x ≡ []
Spelled (Tree.cons t u) x = (y z : List ℕ) × (x ≡ y ++ z) × Spelled t y × Spelled u z
Spelled (Tree.vec t) x = (y z : List ℕ) × (x ≡ y ++ z) × IsUnsigned 32 y (count t) × Spelled t z
Spelled Tree.absent x = x ≡ 0 ∷ []
Spelled (Tree.present t) x = (y : List ℕ) × (x ≡ 1 ∷ y) × Spelled t y
Spelled (Tree.sized t) x = (y z : List ℕ) × (x ≡ y ++ z) × IsUnsigned 32 y (length z) × Spelled t z
Spelled (Tree.row k t) x = Spelled t x
Spelled (Tree.scope t) x = Spelled t x
Spelled (Tree.spare b t) x = Spelled t x ⊎ ((y : List ℕ) × (x ≡ b ∷ y) × Spelled t y)
Spelled (Tree.kept b t) x = (y : List ℕ) × (x ≡ b ∷ y) × Spelled t y
Spelled (Tree.final t u) x =
    ((y z : List ℕ) × (x ≡ y ++ z) × (count t ≡ 0) × Spelled t y × Spelled u z)
    ⊎ ((n y z : List ℕ) × (x ≡ 0x4f ∷ (n ++ (y ++ z))) × IsUnsigned 32 n (count t) × Spelled t y × Spelled u z)
Spelled (Tree.until b t) x = (y : List ℕ) × (x ≡ y ++ (b ∷ [])) × Spelled t y
Spelled (Tree.op c t) x = (y z : List ℕ) × (x ≡ y ++ z) × SpelledCode c y × Spelled t z
Spelled (Tree.left w o t) x = (f y z : List ℕ) × (x ≡ f ++ (y ++ z)) × IsUnsigned 32 f (left_flag w) × Spelled o y × Spelled t z
Spelled (Tree.aimed w i o t) x =
    (f n y z : List ℕ) × (x ≡ f ++ (n ++ (y ++ (kind_bytes w ++ z)))) × IsUnsigned 32 f (aimed_flag w) × IsUnsigned 32 n i × Spelled o y × Spelled t z
Spelled (Tree.placed i o t) x =
    (f y z : List ℕ) × (x ≡ f ++ (y ++ z)) × SpelledPlace i f × Spelled o y × Spelled t z
Spelled (Tree.told k t) x = Spelled t x
Spelled Tree.finish x = x ≡ []
Spelled (Tree.also t u) x = (y z : List ℕ) × (x ≡ y ++ z) × Spelled t y × Spelled u z

-- The tree has the shape, and the bytes spell it.
pub record Spells (shape : Shape) (bytes : List ℕ) (tree : Tree) : Type 0 where
  pub shaped : Is shape tree
  pub spelled : Spelled tree bytes
