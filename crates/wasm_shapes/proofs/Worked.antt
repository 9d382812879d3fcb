-- Worked components: what the tables read them as, computed. A reader that follows the shapes one by one gives a tree, and
-- what the tree is asked and spelled as is compared. The reader proves nothing of itself; that a text has one tree is a law.
-- It knows no numbers with sign, no memory accesses and no segments, which no row here has.
use Rattle.std.proofs.Common.{◌≡◌, ℕ, zero, suc, ◌+◌, ◌-◌, ◌*◌, ◌^◌, List, [], ◌∷◌, ◌++◌, length, map, take, drop, Bool, true, false, ◌&&◌, nat_eq, nat_lt, nat_le, if◌then◌else◌, Option, Some, None}
use Rattle.wasm_shapes.specs.declared.Space.{Space}
use Rattle.wasm_shapes.specs.declared.Visit.{Visit}
use Rattle.wasm_shapes.specs.declared.Visit.TheVariants.{Index, Outer}
use Rattle.wasm_shapes.specs.Tree.{Tree, normal, visits, fill}
use Rattle.wasm_shapes.specs.Shape.{Shape, begins_with_one}
use Rattle.wasm_shapes.specs.NamedShapes.{shape_of}
use Rattle.wasm_shapes.specs.Names.{space_name}
use Rattle.wasm_shapes.specs.Own.{asked_index}
use Rattle.wasm_shapes.specs.Sections.{component_header}
use Rattle.wasm_shapes.specs.Component.{component}
use Rattle.wasm_shapes.specs.Depth.{opens}

-- ---- a reader by the shapes

pub data Read : Type 0 where
  no : Read
  yes : Tree → List ℕ → Read

abbrev on : Read → (Tree → List ℕ → Read) → Read
on Read.no k = Read.no
on (Read.yes t r) k = k t r

abbrev otherwise : Read → (Unit {0} → Read) → Read
otherwise Read.no k = k tt
otherwise (Read.yes t r) k = Read.yes t r

abbrev when : Bool → (Unit {0} → Read) → Read
when true k = k tt
when false k = Read.no

abbrev whether : Bool → (Unit {0} → Read) → (Unit {0} → Read) → Read
whether true k l = k tt
whether false k l = l tt

abbrev mapped : (Tree → Tree) → Read → Read
mapped f Read.no = Read.no
mapped f (Read.yes t r) = Read.yes (f t) r

abbrev next_row : Tree → Tree
next_row (Tree.row k t) = Tree.row (suc k) t
next_row t = t

-- all bytes are read
abbrev filled : Read → Read
filled Read.no = Read.no
filled (Read.yes t []) = Read.yes t []
filled (Read.yes t (b ∷ r)) = Read.no

-- the first byte, and a number of at most so many bytes
abbrev byte_then : List ℕ → (ℕ → List ℕ → Read) → Read
byte_then [] k = Read.no
byte_then (b ∷ r) k = k b r

abbrev number : ℕ → ℕ → ℕ → List ℕ → (ℕ → List ℕ → Read) → Read
number zero weight sum bytes k = Read.no
number (suc n) weight sum [] k = Read.no
number (suc n) weight sum (b ∷ r) k = whether (nat_lt b 128) (λ u. k (sum + weight * b) r) (λ u. number n (weight * 128) (sum + weight * (b - 128)) r k)

abbrev u32_then : List ℕ → (ℕ → List ℕ → Read) → Read
u32_then xs k = number 5 1 0 xs (λ n r. when (nat_lt n (2 ^ 32)) (λ u. k n r))

-- a number without sign whose last byte leaves the sign's bit free
abbrev sx_number : ℕ → ℕ → ℕ → List ℕ → (ℕ → List ℕ → Read) → Read
sx_number zero weight sum bytes k = Read.no
sx_number (suc n) weight sum [] k = Read.no
sx_number (suc n) weight sum (b ∷ r) k = whether (nat_lt b 64) (λ u. k (sum + weight * b) r) (λ u. when (nat_le 128 b) (λ v. sx_number n (weight * 128) (sum + weight * (b - 128)) r k))

-- so many bytes
abbrev so_many : ℕ → List ℕ → (List ℕ → List ℕ → Read) → Read
so_many n xs k = when (nat_le n (length xs)) (λ u. k (take n xs) (drop n xs))

abbrev same : List ℕ → List ℕ → Bool
same [] [] = true
same (a ∷ x) (b ∷ y) = nat_eq a b && same x y
same _ _ = false

abbrev mutual
  reads : ℕ → Shape → List ℕ → Read
  reads zero s xs = Read.no
  reads (suc n) Shape.empty xs = Read.yes Tree.empty xs
  reads (suc n) (Shape.fixed b) xs = byte_then xs (λ c r. when (nat_eq b c) (λ u. Read.yes (Tree.fixed b) r))
  reads (suc n) Shape.byte xs = byte_then xs (λ c r. Read.yes (Tree.byte c) r)
  reads (suc n) (Shape.bytes k) xs = so_many k xs (λ x r. Read.yes (Tree.raw x) r)
  reads (suc n) Shape.rest xs = Read.yes (Tree.raw xs) []
  reads (suc n) Shape.u32 xs = u32_then xs (λ i r. Read.yes (Tree.u32 i) r)
  reads (suc n) Shape.u64 xs = number 10 1 0 xs (λ i r. when (nat_lt i (2 ^ 64)) (λ u. Read.yes (Tree.u64 i) r))
  reads (suc n) (Shape.ix s) xs = u32_then xs (λ i r. Read.yes (Tree.ix s i) r)
  reads (suc n) (Shape.sx s) xs = sx_number 5 1 0 xs (λ i r. when (nat_lt i (2 ^ 32)) (λ u. Read.yes (Tree.sx s i) r))
  reads (suc n) (Shape.outer s) xs = u32_then xs (λ c r. u32_then r (λ i q. Read.yes (Tree.outer s c i) q))
  reads (suc n) Shape.name xs = u32_then xs (λ k r. so_many k r (λ x q. Read.yes (Tree.name x) q))
  reads (suc n) Shape.content xs = u32_then xs (λ k r. so_many k r (λ x q. Read.yes (Tree.content x) q))
  reads (suc n) (Shape.alike b c) xs = byte_then xs (λ d r. whether (nat_eq d b) (λ u. Read.yes (Tree.alike b c) r) (λ u. when (nat_eq d c) (λ v. Read.yes (Tree.alike b c) r)))
  reads (suc n) (Shape.flag k) xs = u32_then xs (λ i r. when (nat_eq i k) (λ u. Read.yes (Tree.flag k) r))
  reads (suc n) (Shape.within low high) xs = byte_then xs (λ c r. when (nat_le low c && nat_le c high) (λ u. Read.yes (Tree.byte c) r))
  reads (suc n) (Shape.seq a b) xs = on (reads n a xs) (λ t r. mapped (λ v. Tree.pair t v) (reads n b r))
  reads (suc n) (Shape.swap a b) xs = on (reads n a xs) (λ t r. mapped (λ v. Tree.swap t v) (reads n b r))
  reads (suc n) (Shape.many a) xs = items n a xs
  reads (suc n) (Shape.vec a) xs = u32_then xs (λ k r. mapped (λ v. Tree.vec v) (counted n k a r))
  reads (suc n) (Shape.opt a) xs = byte_then xs (λ b r. whether (nat_eq b 0) (λ u. Read.yes Tree.absent r) (λ u. when (nat_eq b 1) (λ v. mapped (λ t. Tree.present t) (reads n a r))))
  reads (suc n) (Shape.sized a) xs = u32_then xs (λ k r. so_many k r (λ x q. on (filled (reads n a x)) (λ t e. Read.yes (Tree.sized t) q)))
  reads (suc n) (Shape.or a b) xs = otherwise (mapped (λ t. Tree.row zero t) (reads n a xs)) (λ u. mapped next_row (reads n b xs))
  reads (suc n) (Shape.ref k) xs = reads n (shape_of k) xs
  reads (suc n) (Shape.scope a) xs = mapped (λ t. Tree.scope t) (reads n a xs)
  reads (suc n) (Shape.spare b a c) xs = otherwise (mapped (λ t. Tree.spare b t) (reads n a xs)) (λ u.
      byte_then xs (λ d r. when (nat_eq d b) (λ v. otherwise (mapped (λ t. Tree.spare b t) (reads n a r)) (λ w. mapped (λ t. Tree.kept b t) (reads n c r)))))
  reads (suc n) (Shape.final a b) xs = byte_then xs (λ d r. whether (nat_eq d 0x4f)
      (λ u. u32_then r (λ k q. on (counted n k a q) (λ t e. mapped (λ v. Tree.final t v) (reads n b e))))
      (λ u. mapped (λ v. Tree.final Tree.nil v) (reads n b xs)))
  reads (suc n) (Shape.by_name x a b) xs = u32_then xs (λ k r. so_many k r (λ y q. mapped (λ t. Tree.pair (Tree.name y) t) (whether (same x y) (λ u. reads n a q) (λ u. reads n b q))))
  reads (suc n) (Shape.begun fs a) xs = whether (begins_with_one fs xs) (λ u. reads n a xs) (λ u. Read.yes (Tree.raw xs) [])
  reads (suc n) (Shape.told k a) xs = mapped (λ t. Tree.told k t) (reads n a xs)
  reads (suc n) (Shape.sections a) xs = sections n a xs
  reads (suc n) _ xs = Read.no

  -- items until no bytes are left
  items : ℕ → Shape → List ℕ → Read
  items zero a xs = Read.no
  items (suc n) a [] = Read.yes Tree.nil []
  items (suc n) a (b ∷ xs) = on (reads n a (b ∷ xs)) (λ t r. mapped (λ v. Tree.cons t v) (items n a r))

  counted : ℕ → ℕ → Shape → List ℕ → Read
  counted zero k a xs = Read.no
  counted (suc n) zero a xs = Read.yes Tree.nil xs
  counted (suc n) (suc k) a xs = on (reads n a xs) (λ t r. mapped (λ v. Tree.cons t v) (counted n k a r))

  sections : ℕ → Shape → List ℕ → Read
  sections zero a xs = Read.no
  sections (suc n) a [] = Read.yes Tree.finish []
  sections (suc n) a (b ∷ xs) = on (reads n a (b ∷ xs)) (λ t r. mapped (λ v. Tree.also t v) (sections n a r))

-- ---- what an item becomes

-- what is asked, and what is written with the answers
pub record Result : Type 0 where
  pub bytes : List ℕ
  pub asked : List Visit

abbrev answered : (Visit → ℕ) → Read → Option Result
answered answer Read.no = None
answered answer (Read.yes t r) = elim (nat_le (opens t) 200) [
  | true ↦ Some (record { bytes = normal (fill t (map answer (visits t))); asked = visits t })
  | false ↦ None
]

abbrev item_becomes : (Visit → ℕ) → Shape → List ℕ → Option Result
item_becomes answer s xs = answered answer (filled (reads 10000 s xs))

-- bytes of an item, its normal spelling, and what is asked
pub record Case : Type 0 where
  pub bytes : List ℕ
  pub normally : List ℕ
  pub asked : List Visit

abbrev pub becoming : List ℕ → List ℕ → List Visit → Case
becoming x y vs = record { bytes = x; normally = y; asked = vs }

abbrev pub stays : List ℕ → List Visit → Case
stays x vs = becoming x x vs

-- bytes by their digits, which blanks part
abbrev digit : ℕ → ℕ
digit c = if nat_lt c 58 then c - 48 else c - 87

abbrev pub hex : List ℕ → List ℕ
hex (c ∷ d ∷ _ ∷ cs) = (16 * digit c + digit d) ∷ hex cs
hex (c ∷ d ∷ []) = (16 * digit c + digit d) ∷ []
hex _ = []

abbrev pub Hold : Shape → List Case → Type 0
Hold s cases = map (λ (c : Case). item_becomes asked_index s c.bytes) cases ≡ map (λ (c : Case). Some (record { bytes = c.normally; asked = c.asked })) cases

abbrev pub nothing : Option Result
nothing = None

-- no item is spelled by them
abbrev pub AreNone : Shape → List (List ℕ) → Type 0
AreNone s xs = map (λ (x : List ℕ). item_becomes asked_index s x) xs ≡ map (λ (x : List ℕ). nothing) xs

-- ---- what a component becomes

abbrev pub becomes : (Visit → ℕ) → List ℕ → Option Result
becomes answer xs = item_becomes answer component (component_header ++ xs)

abbrev pub gives : List ℕ → List Visit → Option Result
gives xs asked = Some (record { bytes = component_header ++ xs; asked = asked })

-- one index of a space is answered by another
abbrev instead : Bool → ℕ → ℕ → ℕ → ℕ
instead true i j k = if nat_eq k i then j else k
instead false i j k = k

abbrev pub becomes_at : Space → ℕ → ℕ → Visit → ℕ
becomes_at s i j (Index t k) = instead (same (space_name s) (space_name t)) i j k
becomes_at s i j (Outer t c k) = instead (same (space_name s) (space_name t)) i j k
becomes_at s i j _ = 0

-- two spaces
abbrev pub both_at : Space → ℕ → ℕ → Space → ℕ → ℕ → Visit → ℕ
both_at s i j s' i' j' v = if nat_eq (becomes_at s i j v) (asked_index v) then becomes_at s' i' j' v else becomes_at s i j v
