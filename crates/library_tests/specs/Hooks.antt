-- What the section hooks of the tests do.
use Rattle.std.specs.Prelude.{ℕ, Bool, true, false, List, [], ◌∷◌, Option, Some, None, Result, Ok, Err, nat_eq, if◌then◌else◌}
use Rattle.wasm_shapes.specs.declared.SectionId.{SectionId}
use Rattle.wasm_shapes.specs.declared.SectionId.TheVariants as id
use Rattle.wasm_shapes.specs.declared.Visit.{Visit}
use Rattle.wasm_shapes.specs.declared.Visit.TheVariants.{Section}
use Rattle.wasm_shapes.specs.SectionTable.{number}
use Rattle.wasm_write.specs.Sections.{SectionRow}
use Rattle.reencode_hooks.specs.Hooks.{IsAnswer, IsInRange, index_of, index_of-given}

-- the same kind, or none both times
abbrev pub same : Option SectionId → Option SectionId → Bool
same (Some k) (Some j) = nat_eq (number k) (number j)
same None None = true
same _ _ = false

-- this section before one of the kind, or at the end
abbrev pub put_at : Option SectionId → SectionRow → Option SectionId → List SectionRow
put_at at row before = if same before at then row ∷ [] else []

-- each index as it is, and a refusal before a section of code
abbrev pub refuses_code : Visit → Result ℕ SectionId
refuses_code (Section after (Some id.Code)) = Err id.Code
refuses_code v = Ok (index_of v)

pub refuses_code-given : (v : Visit) → IsInRange v → IsAnswer v (refuses_code v)
refuses_code-given (Section after (Some id.Code)) h = tt
refuses_code-given v h = index_of-given v h
