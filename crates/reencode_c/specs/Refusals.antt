-- How the refusals of the tools over core modules are told.
use Rattle.std.specs.Prelude.{◌≡◌, ◌<◌, ◌≤◌, ℕ, List, length, take}
use Rattle.std.specs.declared.convert.Infallible.{Infallible}
use Rattle.wasm_shapes.specs.declared.Space.{Space}
use Rattle.wasm_shapes.specs.declared.Space.TheVariants as space
use Rattle.reencode_hooks.specs.declared.error.Error.{Error}
use Rattle.reencode_hooks.specs.declared.error.Error.TheVariants as error
use Rattle.reencode_hooks.specs.Renamings.{space_number}
use Rattle.wasm_renumber.specs.declared.fault.RenumberFault.{RenumberFault}
use Rattle.wasm_renumber.specs.declared.fault.RenumberFault.TheVariants as renumber
use Rattle.wasm_reach.specs.declared.fault.ReachFault.{ReachFault}
use Rattle.wasm_reach.specs.declared.fault.ReachFault.TheVariants as reach
use Rattle.wasm_merge.specs.declared.fault.MergeFault.{MergeFault}
use Rattle.wasm_merge.specs.declared.fault.MergeFault.TheVariants as merge
use Rattle.reencode_c.specs.declared.outcome.Outcome.{Outcome}
use Rattle.reencode_c.specs.Ends.{bare}

-- ---- outcomes that tell, of the first of two modules by 1, of the second by 2, and of one alone by 0

-- that two sections have this id
abbrev pub repeated : ℕ → ℕ → Outcome
repeated by id = record (bare 116) { by = by; id = id }

-- that so many functions or segments are stated, and there are so many others
abbrev pub uneven : ℕ → ℕ → ℕ → Outcome
uneven by stated rows = record (bare 115) { by = by; stated = stated; rows = rows }

-- that this index is not there
abbrev pub dangling : ℕ → Space → ℕ → Outcome
dangling by space index = record (bare 18) { by = by; space = space_number space; index = index }

-- the outcome tells why the bytes are no core module, or the frame that is above the ceiling, or that memory is wanting
abbrev pub TellsCore : ℕ → Error Infallible → Outcome → Type 0
TellsCore by (error.ParseError e) o = o ≡ record (bare 5) { place = e.at; by = by }
TellsCore by error.InvalidCodeSectionSize o = o ≡ record (bare 7) { by = by }
TellsCore by error.UnexpectedNonCoreModuleSection o = o ≡ record (bare 8) { by = by }
TellsCore by (error.TooLarge size) o = o ≡ record (bare 10) { size = size }
TellsCore by _ o = o ≡ bare 1

-- ---- the outcome tells a refusal

-- the outcome tells a refusal, with its numbers
abbrev pub TellsRenumber : RenumberFault → Outcome → Type 0
TellsRenumber (renumber.Core e) o = TellsCore 0 e o
TellsRenumber (renumber.Repeated id) o = o ≡ repeated 0 id
TellsRenumber (renumber.Uneven functions bodies) o = o ≡ uneven 0 functions bodies
TellsRenumber (renumber.NotAnOrder place) o = o ≡ record (bare 17) { place = place }
TellsRenumber renumber.NoMemory o = o ≡ bare 1

-- the outcome tells a refusal, with its numbers
abbrev pub TellsReach : ReachFault → Outcome → Type 0
TellsReach (reach.Core e) o = TellsCore 0 e o
TellsReach (reach.Repeated id) o = o ≡ repeated 0 id
TellsReach (reach.Uneven functions bodies) o = o ≡ uneven 0 functions bodies
TellsReach (reach.Dangling index) o = o ≡ dangling 0 space.Function index
TellsReach reach.NoMemory o = o ≡ bare 1

-- The name stands in the front of the room where that is long enough. Else the room is as it was before.
pub record IsNamed (name before room : List ℕ) : Type 0 where
  pub whole : length name ≤ length before → take (length name) room ≡ name
  pub without : length before < length name → room ≡ before

-- the outcome tells a refusal, with its numbers; of a name that both export, the room tells which it is
abbrev pub TellsMerge : MergeFault → Outcome → List ℕ → List ℕ → Type 0
TellsMerge (merge.Core by e) o before room = TellsCore by e o
TellsMerge (merge.Repeated by id) o before room = o ≡ repeated by id
TellsMerge (merge.Uneven by stated rows) o before room = o ≡ uneven by stated rows
TellsMerge (merge.Dangling by space index) o before room = o ≡ dangling by space index
TellsMerge merge.TwoStarts o before room = o ≡ bare 20
TellsMerge (merge.Clash name) o before room = (o ≡ record (bare 19) { length = length name }) × IsNamed name before room
TellsMerge (merge.TooLarge size) o before room = o ≡ record (bare 10) { size = size }
TellsMerge merge.NoMemory o before room = o ≡ bare 1
