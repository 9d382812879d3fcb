-- Tables of kinds of sections, and the sections of a table (WebAssembly Core Specification 3.0, section 5.5.2).
use Rattle.std.specs.Prelude.{ℕ, suc, List, [], ◌∷◌, Bool, true, ◌&&◌, if◌then◌else◌, nat_eq, nat_le}
use Rattle.wasm_shapes.specs.declared.SectionId.{SectionId}
use Rattle.wasm_shapes.specs.declared.SectionId.TheVariants as id
use Rattle.wasm_shapes.specs.Tree.{Tree}
use Rattle.wasm_shapes.specs.Shape.{Shape, lead}

-- the id of a section of a kind
abbrev pub number : SectionId → ℕ
number id.Custom = 0
number id.Type_ = 1
number id.Import = 2
number id.Function = 3
number id.Table = 4
number id.Memory = 5
number id.Global = 6
number id.Export = 7
number id.Start = 8
number id.Element = 9
number id.Code = 10
number id.Data = 11
number id.DataCount = 12
number id.Tag = 13

-- a kind, and the shape of its bodies
pub record Kind : Type 0 where
  pub name : SectionId
  pub body : Shape

abbrev pub of_body : SectionId → Shape → Kind
of_body k s = record { name = k; body = s }

-- a section of a kind, by its body
abbrev pub framed : SectionId → Shape → Shape
framed k s = Shape.told k (lead (number k) (Shape.sized s))

abbrev pub framed_tree : SectionId → Tree → Tree
framed_tree k body = Tree.told k (Tree.pair (Tree.fixed (number k)) (Tree.sized body))

-- the sections of a table
abbrev pub shapes_of : List Kind → List Shape
shapes_of [] = []
shapes_of (x ∷ xs) = framed x.name x.body ∷ shapes_of xs

-- where a kind stands in a table
abbrev pub place_in : List Kind → SectionId → ℕ
place_in [] k = 0
place_in (x ∷ xs) k = if nat_eq (number x.name) (number k) then 0 else suc (place_in xs k)

-- the shape of its bodies, and none where it is not in the table
abbrev pub body_in : List Kind → SectionId → Shape
body_in [] k = Shape.none
body_in (x ∷ xs) k = if nat_eq (number x.name) (number k) then x.body else body_in xs k

-- the items of a vector
abbrev pub item_of : Shape → Shape
item_of (Shape.vec s) = s
item_of _ = Shape.none

-- the kinds stand in the order of their ids, which lie between these
abbrev pub ascending : ℕ → ℕ → List Kind → Bool
ascending low high [] = true
ascending low high (x ∷ xs) = nat_le low (number x.name) && (nat_le (number x.name) high && ascending (suc (number x.name)) high xs)
