-- A call at the entry of each function body.
use Rattle.std.specs.Prelude.{◌≡◌, ◌++◌, ℕ, List, [], ◌∷◌, Option, Some, Result, Ok, Bool, true, false, if◌then◌else◌, codes}
use Rattle.wasm_shapes.specs.declared.SectionId.{SectionId}
use Rattle.wasm_shapes.specs.declared.SectionId.TheVariants as id
use Rattle.wasm_shapes.specs.declared.Space.TheVariants as space
use Rattle.wasm_shapes.specs.declared.Visit.{Visit}
use Rattle.wasm_shapes.specs.Module.{body, row_of}
use Rattle.wasm_shapes.specs.Spells.{Spells}
use Rattle.wasm_shapes.specs.Tree.{Tree, fill, normal, visits}
use Rattle.wasm_shapes.specs.Types.{import_of, sub_type_of, vector_tree}
use Rattle.wasm_read.specs.Reading.{Standing}
use Rattle.wasm_types.specs.declared.types.Imm.TheVariants as imm
use Rattle.wasm_write.specs.declared.types.CompositeInnerType.TheVariants as inner
use Rattle.wasm_write.specs.declared.types.EntityType.TheVariants as entity
use Rattle.wasm_write.specs.Bodies.{Body, CodeRows, code_tree, function_body, with_row}
use Rattle.wasm_write.specs.Instructions.{operator_tree}
use Rattle.wasm_write.specs.Sections.{SectionRow, section_row}
use Rattle.wasm_write.specs.Types.{entity_tree, inner_tree}
use Rattle.reencode_hooks.specs.declared.error.Error.{Error}
use Rattle.reencode_hooks.specs.declared.rule.ByRule.{ByRule}
use Rattle.reencode_hooks.specs.declared.shift.IndexOverflow.{IndexOverflow}
use Rattle.reencode_hooks.specs.declared.shift.Shift.{Shift}
use Rattle.reencode_hooks.specs.Rules.{by_rule}
use Rattle.reencode_hooks.specs.Run.{Step, accepted, ask, run}
use Rattle.reencode_hooks.specs.Shifts.{shifted}
use Rattle.reencode_core.specs.Rows.{GivesRows}

-- a type more in front of the others, and a function
abbrev pub entry_shift : Shift
entry_shift = record { «data» = 0; elements = 0; functions = 1; globals = 0; memories = 0; tables = 0; tags = 0; types = 1 }

-- the answer to a visit
abbrev pub moved : Visit → Result ℕ IndexOverflow
moved visit = by_rule (shifted entry_shift) visit

-- the type of the function that is called: no parameter, and no result
abbrev pub entry_type : Tree
entry_type = sub_type_of true [] (inner_tree (inner.Func (record { params = []; results = [] })))

-- its import
abbrev pub entry_import : Tree
entry_import = import_of (codes "counter") (codes "enter") (entity_tree (entity.Function 0))

-- a section of it is due: behind the types, where no imports follow
abbrev pub entry_due : Option SectionId → Option SectionId → Bool
entry_due (Some id.Type_) (Some id.Import) = false
entry_due (Some id.Type_) before = true
entry_due after before = false

-- the sections that are added between two others
abbrev pub entry_section : List Tree → Option SectionId → Option SectionId → List SectionRow
entry_section imports after before = if entry_due after before then section_row 2 (normal (vector_tree imports)) ∷ [] else []

-- ---- bodies

-- what keeps every default and moves these indices
abbrev pub mover : ByRule Shift
mover = record { rule = entry_shift }

abbrev pub asks_mover : ByRule Shift → Visit → Step (ByRule Shift) (Error IndexOverflow) ℕ
asks_mover = ask (λ s visit. by_rule (shifted s.rule) visit) (λ s _. s)

-- the operator that calls the function
abbrev pub entry_call : Tree
entry_call = operator_tree (record { prefix = 0; sub = 0x10 }) (imm.Index space.Function 0 ∷ [])

-- a function with it in front of its operators
abbrev pub entered : Body → Body
entered f = record f { operators = entry_call ∷ f.operators }

-- The bytes are a function body, each index in it was answered by the moved one, and the function with these in their places was added
-- with the call in front of its operators.
pub record AddsEntered (bytes : List ℕ) (old new : CodeRows) : Type 0 where
  pub tree : Tree
  pub reading : Spells body bytes tree
  pub answers : List ℕ
  pub last : ByRule Shift
  pub answered : run asks_mover mover (visits tree) ≡ accepted answers last
  pub made : Body
  pub filled : function_body made ≡ fill tree answers
  pub gains : new ≡ with_row old (code_tree (entered made))

-- The section has the row in front, and then what the rows that a reader still has became with the moved indices.
abbrev pub AddsBehind : SectionId → Tree → Standing → List Tree → List Tree → Type 0
AddsBehind kind t reader old new =
    (last : ByRule Shift) × ((c : ℕ) → GivesRows asks_mover c (row_of kind) reader (mover, old ++ t ∷ []) (last, new) (Ok tt))
