-- What is mapped from bytes to bytes: whatever stands at the front of some bytes is walked, and what it becomes is appended to others
-- in its normal spelling. `i` are the meanings of the reencoder, `s` is its state before and `m` the one after; `old` are the bytes
-- that are appended to, `new` the same after it.
use Rattle.std.specs.Prelude.{◌≡◌, ◌≢◌, ◌<◌, ◌^◌, ℕ, List, ◌∷◌, ◌++◌, length, take, drop, Option, Some, None, Result, Ok, Err, IsTrue}
use Rattle.std.specs.Borrow.{Bor}
use Rattle.wasm_leb.specs.Leb.{leb}
use Rattle.wasm_leb.specs.Place.{BeginsNumber}
use Rattle.wasm_shapes.specs.declared.Space.TheVariants as space
use Rattle.wasm_shapes.specs.Tree.{Tree, count, normal, visits}
use Rattle.wasm_shapes.specs.Shape.{Shape}
use Rattle.wasm_shapes.specs.Spells.{Spells}
use Rattle.wasm_shapes.specs.Place.{Begins}
use Rattle.reencode_hooks.specs.declared.error.Error.{Error}
use Rattle.reencode_hooks.specs.declared.error.Error.TheVariants.{NoMemory}
use Rattle.reencode_hooks.specs.declared.indices.ReencodeIndices.{Ghosts}
use Rattle.reencode_hooks.specs.Run.{Visited, accepted, ask, refused}
use Rattle.reencode_hooks.specs.Walk.{walk}

-- which trees may stand there, each with the bytes behind it
abbrev pub Reads : Type 1
Reads = Tree → List ℕ → Type 0

-- Each of these trees ends where these bytes are left, and is walked to another.
pub record Follows {S E : Type 0} (i : Ghosts S E) (reads : Reads) (s m : S) (made : Tree) (left : List ℕ) : Type 0 where
  pub behind : (t : Tree) (l : List ℕ) → reads t l → l ≡ left
  pub walks : IsTrue i.keeps_defaults → (t : Tree) (l : List ℕ) → reads t l → (c : ℕ) → walk (ask i.reply i.next) c s t ≡ accepted made m

-- Each of these trees is refused; out of memory a front part of its visits was asked.
pub record Stops {S E : Type 0} (i : Ghosts S E) (reads : Reads) (s m : S) (e : Error E) : Type 0 where
  pub refuses : IsTrue i.keeps_defaults → (t : Tree) (l : List ℕ) → reads t l → e ≢ NoMemory → (c : ℕ) → walk (ask i.reply i.next) c s t ≡ refused e m
  pub visited : IsTrue i.keeps_defaults → IsTrue i.sure → (t : Tree) (l : List ℕ) → reads t l → Visited (ask i.reply i.next) s (visits t) m

-- What stands there was mapped and appended, and these bytes are left; or nothing stands there; or it is refused. Where nothing is
-- appended whole, what stood there before stands there still.
abbrev pub StreamsGives : {S E : Type 0} → Ghosts S E → Reads → (Tree → Type 0) → S → List ℕ → S → List ℕ
    → Result (Option (Bor (List ℕ))) (Error E) → Type 0
StreamsGives i reads writes s old m new (Ok (Some left)) = (made : Tree) × writes made × (new ≡ old ++ normal made) × Follows i reads s m made left.now
StreamsGives i reads writes s old m new (Ok None) = (take (length old) new ≡ old) × ((t : Tree) (l : List ℕ) → reads t l → ⊥)
StreamsGives i reads writes s old m new (Err e) = (take (length old) new ≡ old) × Stops i reads s m e

pub record StreamsAs {S E : Type 0} (i : Ghosts S E) (reads : Reads) (writes : Tree → Type 0) (s : S) (old : List ℕ) (m : S) (new : List ℕ)
    (result : Result (Option (Bor (List ℕ))) (Error E)) : Type 0 where
  pub gives : StreamsGives i reads writes s old m new result

-- a tree of a shape stands there, and one of this shape is appended
abbrev pub Streams : {S E : Type 0} → Ghosts S E → Shape → List ℕ → S → List ℕ → S → List ℕ → Result (Option (Bor (List ℕ))) (Error E) → Type 0
Streams i shape bytes s old m new result = StreamsAs i (λ t l. Begins shape bytes t l) (λ t. Spells shape (normal t) t) s old m new result

-- the number of items that a tree begins with
abbrev pub counted_first : Tree → ℕ
counted_first (Tree.vec t) = count t
counted_first (Tree.pair t u) = counted_first t
counted_first _ = 0

-- the same of a vector, or of one in front of something: as many items are appended as there are
abbrev pub StreamsCounted : {S E : Type 0} → Ghosts S E → Shape → List ℕ → S → List ℕ → S → List ℕ → Result (Option (Bor (List ℕ))) (Error E) → Type 0
StreamsCounted i shape bytes s old m new result =
    StreamsAs i (λ t l. Begins shape bytes t l)
    (λ t. Spells shape (normal t) t × ((n : ℕ) (start : List ℕ) → BeginsNumber 128 32 32 bytes n start → counted_first t ≡ n)) s old m new result

-- the same of so many items of a shape, one behind another
abbrev pub StreamsItems : {S E : Type 0} → Ghosts S E → Shape → ℕ → List ℕ → S → List ℕ → S → List ℕ
    → Result (Option (Bor (List ℕ))) (Error E) → Type 0
StreamsItems i shape n bytes s old m new result =
    StreamsAs i (λ t l. Begins (Shape.many shape) bytes t l × (count t ≡ n)) (λ t. Spells (Shape.many shape) (normal t) t × (count t ≡ n)) s old m new result

-- The index of a type was mapped, and stands with a byte in front of the bytes from a place on; or it is refused.
abbrev pub StreamsMark : {S E : Type 0} → Ghosts S E → ℕ → ℕ → ℕ → S → List ℕ → S → List ℕ → Result (Unit {0}) (Error E) → Type 0
StreamsMark i at byte index s old m new (Ok _) =
    (answer : ℕ) × (answer < 2 ^ 32) × (new ≡ take at old ++ (byte ∷ leb answer ++ drop at old))
    × (IsTrue i.keeps_defaults → (c : ℕ) → walk (ask i.reply i.next) c s (Tree.ix space.Type_ index) ≡ accepted (Tree.ix space.Type_ answer) m)
StreamsMark i at byte index s old m new (Err e) =
    (take at new ≡ take at old)
    × (IsTrue i.keeps_defaults → e ≢ NoMemory → (c : ℕ) → walk (ask i.reply i.next) c s (Tree.ix space.Type_ index) ≡ refused e m)
    × (IsTrue i.keeps_defaults → IsTrue i.sure → Visited (ask i.reply i.next) s (visits (Tree.ix space.Type_ index)) m)
