-- The visits of the two section hooks among some visits.
use Rattle.std.specs.Prelude.{List, Bool, true, false, filter}
use Rattle.wasm_shapes.specs.declared.Visit.{Visit}
use Rattle.wasm_shapes.specs.declared.Visit.TheVariants.{Section, Closed}

-- whether the section hook or the closing hook is asked
abbrev pub is_section : Visit → Bool
is_section (Section last next) = true
is_section (Closed kind) = true
is_section _ = false

-- the section visits among some visits
abbrev pub section_visits : List Visit → List Visit
section_visits vs = filter is_section vs
