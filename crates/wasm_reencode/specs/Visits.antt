-- The indices that a re-encoding asks for, as lines, and as a JSON object.
use Rattle.std.specs.Prelude.{◌≡◌, ℕ, Bool, true, false, List, [], ◌∷◌, ◌++◌, codes, map}
use Rattle.serde_json.specs.Data.{Data, string, array, object, Items, no_members, member}
use Rattle.serde_json.specs.View.{items_of}
use Rattle.serde_json.specs.Written.{compact_text}
use Rattle.reencode_core.specs.Checks.{IsUnread}
use Rattle.reencode_hooks.specs.declared.error.Error.{Error}
use Rattle.reencode_hooks.specs.declared.error.Error.TheVariants as error
use Rattle.reencode_run.specs.declared.answer.ReencodingFault.{ReencodingFault}
use Rattle.reencode_run.specs.declared.answer.ReencodingFault.TheVariants as fault
use Rattle.wasm_shapes.specs.Names.{space_name}
use Rattle.wasm_shapes.specs.SectionTable.{number}
use Rattle.wasm_visits.specs.Placed.{AreVisits}
use Rattle.wasm_visits.specs.declared.lister.PlacedVisit.{PlacedVisit}
use Rattle.wasm_reencode.specs.declared.sections.Layer.TheVariants as layer
use Rattle.wasm_reencode.specs.Lines.{column, label}
use Rattle.wasm_reencode.specs.Sections.{kind_name}
use Rattle.wasm_reencode.specs.Trees.{count}

-- what the section is called in which a visit stands
abbrev pub section_name : PlacedVisit → List ℕ
section_name v = kind_name layer.Module (number v.section)

-- the line of a visit: the place of its row, its section, what it is an index of, and the index
abbrev pub visit_line : PlacedVisit → List ℕ
visit_line v = column 10 v.place ++ codes " " ++ label 13 (section_name v) ++ codes " " ++ label 10 (space_name v.space) ++ codes " " ++ column 10 v.index ++ codes "\n"

abbrev pub visit_lines : List PlacedVisit → List ℕ
visit_lines [] = []
visit_lines (v ∷ vs) = visit_line v ++ visit_lines vs

-- its object, with its members in the order of their keys
abbrev pub visit_object : PlacedVisit → Data
visit_object v =
    object (member (codes "index") (count v.index) (member (codes "place") (count v.place) (member (codes "section") (string (section_name v))
    (member (codes "space") (string (space_name v.space)) no_members))))

abbrev pub visit_objects : List PlacedVisit → Items
visit_objects vs = items_of (map visit_object vs)

-- the JSON text of visits, and the line end
abbrev pub IsVisitsJson : List PlacedVisit → List ℕ → Type 0
IsVisitsJson vs text = text ≡ compact_text (object (member (codes "visits") (array (visit_objects vs)) no_members)) ++ codes "\n"

-- what is told of the visits of a core module
abbrev pub IsVisitsText : (json : Bool) → List PlacedVisit → List ℕ → Type 0
IsVisitsText true vs text = IsVisitsJson vs text
IsVisitsText false vs text = text ≡ visit_lines vs

abbrev pub GivesVisits : (json : Bool) → (bytes text : List ℕ) → Type 0
GivesVisits json bytes text = (vs : List PlacedVisit) × AreVisits bytes vs × IsVisitsText json vs text

-- ---- why nothing is told

abbrev pub fault_of : {E : Type 0} → Error E → ReencodingFault
fault_of (error.ParseError e) = fault.ParseError e.at
fault_of error.InvalidCodeSectionSize = fault.CodeSectionSize
fault_of error.UnexpectedNonCoreModuleSection = fault.NonCoreModule
fault_of _ = fault.NoMemory

-- The bytes are no core module, which the error that the fault tells says, or memory ran out.
abbrev pub IsUnlisted : List ℕ → ReencodingFault → Type 0
IsUnlisted bytes (fault.ParseError at) = IsUnread {E = ⊥} bytes (error.ParseError (record { at = at }))
IsUnlisted bytes fault.CodeSectionSize = IsUnread {E = ⊥} bytes error.InvalidCodeSectionSize
IsUnlisted bytes fault.NonCoreModule = IsUnread {E = ⊥} bytes error.UnexpectedNonCoreModuleSection
IsUnlisted bytes fault.NoMemory = Unit {0}
IsUnlisted bytes _ = ⊥
