-- The rule of a shift: each index space moves by a number of its own.
use Rattle.std.specs.Prelude.{◌<◌, ◌^◌, ◌++◌, ℕ, Result, List, codes, refl}
use Rattle.std.specs.Fmt.{decimal}
use Rattle.wasm_shapes.specs.declared.Space.{Space}
use Rattle.wasm_shapes.specs.declared.Space.TheVariants as space
use Rattle.wasm_shapes.specs.declared.Visit.TheVariants.{Index}
use Rattle.wasm_shapes.specs.Names.{space_name}
use Rattle.reencode_hooks.specs.declared.shift.IndexOverflow.{IndexOverflow}
use Rattle.reencode_hooks.specs.declared.shift.Shift.{Shift}
use Rattle.reencode_hooks.specs.Hooks.{IsAnswer}
use Rattle.reencode_hooks.specs.Rules.{moved_by, moved_is_answer, unmoved_is_answer}

-- by how much the indices of a space move
abbrev pub shift_of : Shift → Space → ℕ
shift_of shift space.Data = shift.data
shift_of shift space.Element = shift.elements
shift_of shift space.Function = shift.functions
shift_of shift space.Global = shift.globals
shift_of shift space.Memory = shift.memories
shift_of shift space.Table = shift.tables
shift_of shift space.Tag = shift.tags
shift_of shift space.Type_ = shift.types
shift_of shift _ = 0

-- an index moved by what its space moves, refused where that is no index
abbrev pub shifted : Shift → Space → ℕ → Result ℕ IndexOverflow
shifted shift p i = moved_by (record { space = p; index = i }) (shift_of shift p) i

pub shifted_is_rule : (shift : Shift) (p : Space) (i : ℕ) → i < 2 ^ 32 → IsAnswer (Index p i) (shifted shift p i)
shifted_is_rule shift space.Data i h = moved_is_answer _ shift.data space.Data i refl
shifted_is_rule shift space.Element i h = moved_is_answer _ shift.elements space.Element i refl
shifted_is_rule shift space.Function i h = moved_is_answer _ shift.functions space.Function i refl
shifted_is_rule shift space.Global i h = moved_is_answer _ shift.globals space.Global i refl
shifted_is_rule shift space.Memory i h = moved_is_answer _ shift.memories space.Memory i refl
shifted_is_rule shift space.Table i h = moved_is_answer _ shift.tables space.Table i refl
shifted_is_rule shift space.Tag i h = moved_is_answer _ shift.tags space.Tag i refl
shifted_is_rule shift space.Type_ i h = moved_is_answer _ shift.types space.Type_ i refl
shifted_is_rule shift p i h = unmoved_is_answer _ p i h

-- the text of a refusal
abbrev pub overflow_text : IndexOverflow → List ℕ
overflow_text u = codes "overflow of " ++ space_name u.space ++ codes " " ++ decimal u.index
