-- Worked rows of components: what each is read as, what it is asked, and what is written (`Worked.antt` has the reader).
use Rattle.std.proofs.Common.{◌≡◌, ℕ, zero, suc, List, [], ◌∷◌, ◌++◌, length, map, Some, None, refl}
use Rattle.std.specs.Prelude.{codes}
use Rattle.wasm_leb.specs.Leb.{shortest, leb}
use Rattle.wasm_shapes.specs.declared.SectionId.TheVariants as id
use Rattle.wasm_shapes.specs.declared.Space.TheVariants as space
use Rattle.wasm_shapes.specs.declared.Visit.{Visit}
use Rattle.wasm_shapes.specs.declared.Visit.TheVariants.{Index, Outer, Section, Closed, Push, Pop}
use Rattle.wasm_shapes.specs.Own.{asked_index}
use Rattle.wasm_shapes.specs.Sections.{component_header}
use Rattle.wasm_shapes.specs.Component.{alias, canonical_function, canonical_option, component_instance_row, component_name_subsection, component_section, component_type, component_value, core_type, defined_type, instance_row, type_ref}
use Rattle.wasm_shapes.proofs.Worked.{Case, becoming, stays, hex, Hold, AreNone, nothing, becomes, gives, becomes_at, both_at}

-- types of values that have no index
abbrev primitives : List Case
primitives =
    stays (hex (codes "7f")) [] ∷ stays (hex (codes "7e")) [] ∷ stays (hex (codes "7d")) [] ∷ stays (hex (codes "7c")) [] ∷
    stays (hex (codes "7b")) [] ∷ stays (hex (codes "7a")) [] ∷ stays (hex (codes "79")) [] ∷ stays (hex (codes "78")) [] ∷
    stays (hex (codes "77")) [] ∷ stays (hex (codes "76")) [] ∷ stays (hex (codes "75")) [] ∷ stays (hex (codes "74")) [] ∷
    stays (hex (codes "73")) [] ∷ stays (hex (codes "64")) [] ∷ stays (hex (codes "00")) (Index space.ComponentType 0 ∷ []) ∷
    stays (hex (codes "3f")) (Index space.ComponentType 63 ∷ []) ∷ stays (hex (codes "c0 00")) (Index space.ComponentType 64 ∷ []) ∷
    becoming (hex (codes "80 00")) (hex (codes "00")) (Index space.ComponentType 0 ∷ []) ∷ []

primitives_hold : Hold component_value primitives
unfolding shortest
primitives_hold = refl

-- a byte of no type, an index with a sign
abbrev no_values : List (List ℕ)
no_values =
    hex (codes "72") ∷ hex (codes "40") ∷ hex (codes "63") ∷ hex (codes "ff 7f") ∷ hex (codes "e5 7f") ∷ []

no_values_are_none : AreNone component_value no_values
unfolding shortest
no_values_are_none = refl

-- a type of each line
abbrev defined_types : List Case
defined_types =
    stays (hex (codes "7f")) [] ∷ stays (hex (codes "72 02 01 61 79 01 62 05")) (Index space.ComponentType 5 ∷ []) ∷ stays (hex (codes "72 00")) [] ∷
    stays (hex (codes "71 02 01 61 01 73 00 01 62 00 00")) [] ∷ stays (hex (codes "71 01 01 61 01 06 00")) (Index space.ComponentType 6 ∷ []) ∷
    stays (hex (codes "70 7d")) [] ∷ stays (hex (codes "70 03")) (Index space.ComponentType 3 ∷ []) ∷
    stays (hex (codes "6f 02 7f 01")) (Index space.ComponentType 1 ∷ []) ∷ stays (hex (codes "6e 02 01 61 01 62")) [] ∷
    stays (hex (codes "6d 01 01 61")) [] ∷ stays (hex (codes "6b 02")) (Index space.ComponentType 2 ∷ []) ∷ stays (hex (codes "6a 01 7f 00")) [] ∷
    stays (hex (codes "6a 01 03 01 04")) (Index space.ComponentType 3 ∷ Index space.ComponentType 4 ∷ []) ∷
    stays (hex (codes "69 05")) (Index space.ComponentType 5 ∷ []) ∷ stays (hex (codes "68 06")) (Index space.ComponentType 6 ∷ []) ∷
    stays (hex (codes "67 79 08")) [] ∷ stays (hex (codes "67 02 ac 02")) (Index space.ComponentType 2 ∷ []) ∷ stays (hex (codes "66 00")) [] ∷
    stays (hex (codes "66 01 01")) (Index space.ComponentType 1 ∷ []) ∷ stays (hex (codes "65 01 02")) (Index space.ComponentType 2 ∷ []) ∷
    stays (hex (codes "65 00")) [] ∷ stays (hex (codes "63 73 79")) [] ∷
    stays (hex (codes "63 01 02")) (Index space.ComponentType 1 ∷ Index space.ComponentType 2 ∷ []) ∷ []

defined_types_hold : Hold defined_type defined_types
unfolding shortest
defined_types_hold = refl

-- another byte, a case whose last byte is no zero, an option that is neither
abbrev no_defined_types : List (List ℕ)
no_defined_types =
    hex (codes "62 00") ∷ hex (codes "6c 00") ∷ hex (codes "71 01 01 61 00 01") ∷ hex (codes "66 02") ∷ hex (codes "50") ∷ []

no_defined_types_are_none : AreNone defined_type no_defined_types
unfolding shortest
no_defined_types_are_none = refl

-- a type of each line; a scope is pushed and popped
abbrev types : List Case
types =
    stays (hex (codes "7f")) [] ∷ stays (hex (codes "40 01 01 78 79 00 73")) [] ∷ stays (hex (codes "40 00 01 00")) [] ∷
    stays (hex (codes "43 01 01 78 01 00 02")) (Index space.ComponentType 1 ∷ Index space.ComponentType 2 ∷ []) ∷
    stays (hex (codes "41 00")) (Push ∷ Pop ∷ []) ∷ stays (hex (codes "42 00")) (Push ∷ Pop ∷ []) ∷ stays (hex (codes "3f 7f 00")) [] ∷
    stays (hex (codes "3f 7f 01 03")) (Index space.Function 3 ∷ []) ∷
    becoming (hex (codes "41 05 00 60 00 00 01 69 01 02 03 02 01 00 03 00 01 61 01 02 04 01 01 62 05 03")) (hex (codes "41 05 00 60 00 00 01 69 01 02 03 02 01 00 03 00 01 61 01 02 04 00 01 62 05 03")) (Push ∷ Index space.ComponentType 1 ∷ Outer space.ComponentType 1 0 ∷ Index space.ComponentType 2 ∷ Index space.ComponentType 3 ∷ Pop ∷ []) ∷
    stays (hex (codes "42 04 00 50 00 01 42 00 02 01 00 02 01 66 04 00 01 61 01 00")) (Push ∷ Push ∷ Pop ∷ Push ∷ Pop ∷ Index space.ComponentInstance 2 ∷ Index space.ComponentType 0 ∷ Pop ∷ []) ∷
    becoming (hex (codes "42 01 04 01 01 61 01 00")) (hex (codes "42 01 04 00 01 61 01 00")) (Push ∷ Index space.ComponentType 0 ∷ Pop ∷ []) ∷ []

types_hold : Hold component_type types
unfolding shortest
types_hold = refl

-- an import in an instance type, a result that is neither, another byte
abbrev no_types : List (List ℕ)
no_types =
    hex (codes "42 01 03 00 01 61 01 00") ∷ hex (codes "40 00 01 01") ∷ hex (codes "40 00 02") ∷ hex (codes "3e 7f 00") ∷ hex (codes "44 00") ∷
    hex (codes "41 01 05 00") ∷ []

no_types_are_none : AreNone component_type no_types
unfolding shortest
no_types_are_none = refl

-- a core type of each line: an open subtype stands behind another byte
abbrev core_types : List Case
core_types =
    stays (hex (codes "50 00")) (Push ∷ Pop ∷ []) ∷ stays (hex (codes "60 01 7f 00")) [] ∷ stays (hex (codes "4e 02 60 00 00 50 00 60 00 00")) [] ∷
    stays (hex (codes "00 50 00 60 00 00")) [] ∷ stays (hex (codes "00 50 01 03 5f 00")) (Index space.Type_ 3 ∷ []) ∷
    stays (hex (codes "4f 01 02 60 00 00")) (Index space.Type_ 2 ∷ []) ∷ becoming (hex (codes "4f 00 60 00 00")) (hex (codes "60 00 00")) [] ∷
    stays (hex (codes "5d 05")) (Index space.Type_ 5 ∷ []) ∷
    stays (hex (codes "50 04 00 01 61 01 62 00 02 01 60 00 00 02 10 01 01 05 03 01 63 04 00 07")) (Push ∷ Index space.Type_ 2 ∷ Outer space.Type_ 1 5 ∷ Index space.Type_ 7 ∷ Pop ∷ []) ∷
    stays (hex (codes "50 01 01 50 00 60 00 00")) (Push ∷ Pop ∷ []) ∷
    stays (hex (codes "50 01 03 01 66 20 01")) (Push ∷ Index space.Type_ 1 ∷ Pop ∷ []) ∷ []

core_types_hold : Hold core_type core_types
unfolding shortest
core_types_hold = refl

-- an open subtype alone, other types behind that byte, a declaration without its count
abbrev no_core_types : List (List ℕ)
no_core_types =
    hex (codes "50 01 5f 00") ∷ hex (codes "00 60 00 00") ∷ hex (codes "00 4f 00 60 00 00") ∷ hex (codes "00 4e 00") ∷ hex (codes "50") ∷
    hex (codes "50 01 02 10 00 01 05") ∷ hex (codes "50 01 02 11 01 01 05") ∷ hex (codes "50 01 04 00") ∷ []

no_core_types_are_none : AreNone core_type no_core_types
unfolding shortest
no_core_types_are_none = refl

-- an alias of each line
abbrev aliases : List Case
aliases =
    stays (hex (codes "00 11 00 02 01 61")) (Index space.ComponentInstance 2 ∷ []) ∷
    stays (hex (codes "01 00 02 01 61")) (Index space.ComponentInstance 2 ∷ []) ∷
    stays (hex (codes "02 00 02 01 61")) (Index space.ComponentInstance 2 ∷ []) ∷
    stays (hex (codes "03 00 02 01 61")) (Index space.ComponentInstance 2 ∷ []) ∷
    stays (hex (codes "04 00 02 01 61")) (Index space.ComponentInstance 2 ∷ []) ∷
    stays (hex (codes "05 00 02 01 61")) (Index space.ComponentInstance 2 ∷ []) ∷
    stays (hex (codes "00 00 01 03 01 66")) (Index space.Instance 3 ∷ []) ∷ stays (hex (codes "00 01 01 03 01 66")) (Index space.Instance 3 ∷ []) ∷
    stays (hex (codes "00 02 01 03 01 66")) (Index space.Instance 3 ∷ []) ∷ stays (hex (codes "00 03 01 03 01 66")) (Index space.Instance 3 ∷ []) ∷
    stays (hex (codes "00 04 01 03 01 66")) (Index space.Instance 3 ∷ []) ∷ stays (hex (codes "00 10 02 01 05")) (Outer space.Type_ 1 5 ∷ []) ∷
    stays (hex (codes "00 11 02 01 05")) (Outer space.Module 1 5 ∷ []) ∷ stays (hex (codes "03 02 00 05")) (Outer space.ComponentType 0 5 ∷ []) ∷
    stays (hex (codes "04 02 02 05")) (Outer space.Component 2 5 ∷ []) ∷ []

aliases_hold : Hold alias aliases
unfolding shortest
aliases_hold = refl

-- sorts that have no such target
abbrev no_aliases : List (List ℕ)
no_aliases =
    hex (codes "00 12 00 02 01 61") ∷ hex (codes "00 10 00 02 01 61") ∷ hex (codes "00 00 00 02 01 61") ∷ hex (codes "00 05 01 03 01 66") ∷
    hex (codes "01 02 01 05") ∷ hex (codes "02 02 01 05") ∷ hex (codes "05 02 01 05") ∷ hex (codes "00 00 02 01 05") ∷ hex (codes "01 01 03 01 66") ∷
    hex (codes "06 00 02 01 61") ∷ hex (codes "00 12 02 01 05") ∷ []

no_aliases_are_none : AreNone alias no_aliases
unfolding shortest
no_aliases_are_none = refl

-- a type of each line
abbrev type_refs : List Case
type_refs =
    stays (hex (codes "00 11 03")) (Index space.Type_ 3 ∷ []) ∷ stays (hex (codes "01 03")) (Index space.ComponentType 3 ∷ []) ∷
    stays (hex (codes "02 7f")) [] ∷ stays (hex (codes "02 03")) (Index space.ComponentType 3 ∷ []) ∷
    stays (hex (codes "03 00 03")) (Index space.ComponentType 3 ∷ []) ∷ stays (hex (codes "03 01")) [] ∷
    stays (hex (codes "04 03")) (Index space.ComponentType 3 ∷ []) ∷ stays (hex (codes "05 03")) (Index space.ComponentType 3 ∷ []) ∷ []

type_refs_hold : Hold type_ref type_refs
unfolding shortest
type_refs_hold = refl

-- other sorts and bounds
abbrev no_type_refs : List (List ℕ)
no_type_refs =
    hex (codes "00 10 03") ∷ hex (codes "03 02") ∷ hex (codes "06 03") ∷ []

no_type_refs_are_none : AreNone type_ref no_type_refs
unfolding shortest
no_type_refs_are_none = refl

-- an option of each line
abbrev options : List Case
options =
    stays (hex (codes "00")) [] ∷ stays (hex (codes "01")) [] ∷ stays (hex (codes "02")) [] ∷
    stays (hex (codes "03 01")) (Index space.Memory 1 ∷ []) ∷ stays (hex (codes "04 01")) (Index space.Function 1 ∷ []) ∷
    stays (hex (codes "05 01")) (Index space.Function 1 ∷ []) ∷ stays (hex (codes "06")) [] ∷
    stays (hex (codes "07 01")) (Index space.Function 1 ∷ []) ∷ stays (hex (codes "08 01")) (Index space.Type_ 1 ∷ []) ∷ stays (hex (codes "09")) [] ∷ []

options_hold : Hold canonical_option options
unfolding shortest
options_hold = refl

-- a function of each line; where a type stands with options, the options are asked first
abbrev canonical_functions : List Case
canonical_functions =
    stays (hex (codes "00 00 02 00 03")) (Index space.Function 2 ∷ Index space.ComponentType 3 ∷ []) ∷
    stays (hex (codes "00 00 02 02 03 01 04 05 03")) (Index space.Function 2 ∷ Index space.ComponentType 3 ∷ Index space.Memory 1 ∷ Index space.Function 5 ∷ []) ∷
    stays (hex (codes "01 00 02 01 03 01")) (Index space.ComponentFunc 2 ∷ Index space.Memory 1 ∷ []) ∷
    stays (hex (codes "02 01")) (Index space.ComponentType 1 ∷ []) ∷ stays (hex (codes "03 01")) (Index space.ComponentType 1 ∷ []) ∷
    stays (hex (codes "04 01")) (Index space.ComponentType 1 ∷ []) ∷ stays (hex (codes "05")) [] ∷ stays (hex (codes "06 00")) [] ∷
    stays (hex (codes "06 01")) [] ∷ stays (hex (codes "09 00 03 01 03 01")) (Index space.Memory 1 ∷ Index space.ComponentType 3 ∷ []) ∷
    stays (hex (codes "09 01 00 00")) [] ∷ stays (hex (codes "0d")) [] ∷ stays (hex (codes "24")) [] ∷ stays (hex (codes "25")) [] ∷
    stays (hex (codes "0a 7f 00")) [] ∷ stays (hex (codes "0b 7e ac 02")) [] ∷ stays (hex (codes "0a 64 03 00")) (Index space.Type_ 3 ∷ []) ∷
    stays (hex (codes "0e 01")) (Index space.ComponentType 1 ∷ []) ∷
    stays (hex (codes "0f 01 01 03 02")) (Index space.Memory 2 ∷ Index space.ComponentType 1 ∷ []) ∷
    stays (hex (codes "10 01 01 03 02")) (Index space.Memory 2 ∷ Index space.ComponentType 1 ∷ []) ∷
    stays (hex (codes "11 01 00")) (Index space.ComponentType 1 ∷ []) ∷ stays (hex (codes "12 01 01")) (Index space.ComponentType 1 ∷ []) ∷
    stays (hex (codes "13 01")) (Index space.ComponentType 1 ∷ []) ∷ stays (hex (codes "14 01")) (Index space.ComponentType 1 ∷ []) ∷
    stays (hex (codes "15 01")) (Index space.ComponentType 1 ∷ []) ∷
    stays (hex (codes "16 01 01 04 02")) (Index space.Function 2 ∷ Index space.ComponentType 1 ∷ []) ∷
    stays (hex (codes "17 01 01 08 02")) (Index space.Type_ 2 ∷ Index space.ComponentType 1 ∷ []) ∷
    stays (hex (codes "18 01 00")) (Index space.ComponentType 1 ∷ []) ∷ stays (hex (codes "19 01 01")) (Index space.ComponentType 1 ∷ []) ∷
    stays (hex (codes "1a 01")) (Index space.ComponentType 1 ∷ []) ∷ stays (hex (codes "1b 01")) (Index space.ComponentType 1 ∷ []) ∷
    stays (hex (codes "1c 01 03 01")) (Index space.Memory 1 ∷ []) ∷ stays (hex (codes "1d 00")) [] ∷ stays (hex (codes "1e")) [] ∷
    stays (hex (codes "1f")) [] ∷ stays (hex (codes "22")) [] ∷ stays (hex (codes "23")) [] ∷ stays (hex (codes "40 01")) (Index space.Type_ 1 ∷ []) ∷
    stays (hex (codes "41 01 02")) (Index space.Type_ 1 ∷ Index space.Table 2 ∷ []) ∷ stays (hex (codes "42")) [] ∷ []

canonical_functions_hold : Hold canonical_function canonical_functions
unfolding shortest
canonical_functions_hold = refl

-- bytes of none, a third byte where a flag is due
abbrev no_canonical_functions : List (List ℕ)
no_canonical_functions =
    hex (codes "00 01 02 00 03") ∷ hex (codes "07") ∷ hex (codes "08") ∷ hex (codes "0c") ∷ hex (codes "20") ∷ hex (codes "21") ∷ hex (codes "26") ∷
    hex (codes "3f") ∷ hex (codes "43") ∷ hex (codes "06 02") ∷ hex (codes "09 01 01 00") ∷ hex (codes "11 01 02") ∷ []

no_canonical_functions_are_none : AreNone canonical_function no_canonical_functions
unfolding shortest
no_canonical_functions_are_none = refl

-- a row of each line
abbrev instances : List Case
instances =
    stays (hex (codes "00 01 01 01 61 12 02")) (Index space.Module 1 ∷ Index space.Instance 2 ∷ []) ∷
    stays (hex (codes "00 00 00")) (Index space.Module 0 ∷ []) ∷
    stays (hex (codes "01 02 01 61 00 01 01 62 02 03")) (Index space.Function 1 ∷ Index space.Memory 3 ∷ []) ∷
    becoming (hex (codes "01 01 01 61 20 01")) (hex (codes "01 01 01 61 00 01")) (Index space.Function 1 ∷ []) ∷ []

instances_hold : Hold instance_row instances
unfolding shortest
instances_hold = refl

-- a row of each line; the first byte of an export's name says nothing
abbrev component_instances : List Case
component_instances =
    stays (hex (codes "00 01 02 01 61 01 02 01 62 00 11 03")) (Index space.Component 1 ∷ Index space.ComponentFunc 2 ∷ Index space.Module 3 ∷ []) ∷
    becoming (hex (codes "01 02 00 01 61 03 01 01 01 62 05 04")) (hex (codes "01 02 00 01 61 03 01 00 01 62 05 04")) (Index space.ComponentType 1 ∷ Index space.ComponentInstance 4 ∷ []) ∷
    stays (hex (codes "01 02 00 01 61 02 01 00 01 62 04 04")) (Index space.ComponentValue 1 ∷ Index space.Component 4 ∷ []) ∷ []

component_instances_hold : Hold component_instance_row component_instances
unfolding shortest
component_instances_hold = refl

-- a sort that is none, a name without its first byte
abbrev no_instances : List (List ℕ)
no_instances =
    hex (codes "00 01 01 01 61 06 02") ∷ hex (codes "00 01 01 01 61 00 12 02") ∷ hex (codes "01 01 02 01 61 01 02") ∷ hex (codes "02 00") ∷ []

no_instances_are_none : AreNone component_instance_row no_instances
unfolding shortest
no_instances_are_none = refl

-- a subsection of each sort, and others by their bytes
abbrev names_of_components : List Case
names_of_components =
    stays (hex (codes "00 02 01 61")) [] ∷ stays (hex (codes "01 03 00 00 00")) [] ∷
    stays (hex (codes "01 06 00 00 01 05 01 61")) (Index space.Function 5 ∷ []) ∷
    stays (hex (codes "01 06 00 01 01 05 01 61")) (Index space.Table 5 ∷ []) ∷
    stays (hex (codes "01 06 00 02 01 05 01 61")) (Index space.Memory 5 ∷ []) ∷
    stays (hex (codes "01 06 00 03 01 05 01 61")) (Index space.Global 5 ∷ []) ∷
    stays (hex (codes "01 06 00 04 01 05 01 61")) (Index space.Tag 5 ∷ []) ∷
    stays (hex (codes "01 06 00 10 01 05 01 61")) (Index space.Type_ 5 ∷ []) ∷
    stays (hex (codes "01 06 00 11 01 05 01 61")) (Index space.Module 5 ∷ []) ∷
    stays (hex (codes "01 06 00 12 01 05 01 61")) (Index space.Instance 5 ∷ []) ∷
    stays (hex (codes "01 05 01 01 05 01 61")) (Index space.ComponentFunc 5 ∷ []) ∷
    stays (hex (codes "01 05 02 01 05 01 61")) (Index space.ComponentValue 5 ∷ []) ∷
    stays (hex (codes "01 05 03 01 05 01 61")) (Index space.ComponentType 5 ∷ []) ∷
    stays (hex (codes "01 05 04 01 05 01 61")) (Index space.Component 5 ∷ []) ∷
    stays (hex (codes "01 05 05 01 05 01 61")) (Index space.ComponentInstance 5 ∷ []) ∷ stays (hex (codes "01 00")) [] ∷
    stays (hex (codes "01 01 00")) [] ∷ stays (hex (codes "01 03 00 05 ff")) [] ∷ stays (hex (codes "01 02 06 ff")) [] ∷
    stays (hex (codes "02 01 ff")) [] ∷ stays (hex (codes "ff 00")) [] ∷ []

names_of_components_hold : Hold component_name_subsection names_of_components
unfolding shortest
names_of_components_hold = refl

-- what begins with a sort and holds no names
abbrev no_names : List (List ℕ)
no_names =
    hex (codes "01 01 01") ∷ hex (codes "01 02 00 00") ∷ hex (codes "01 04 01 01 05 01") ∷ hex (codes "01 04 01 00 ff ff") ∷ hex (codes "00 01 01") ∷ []

no_names_are_none : AreNone component_name_subsection no_names
unfolding shortest
no_names_are_none = refl

-- a section of each id
abbrev sections : List Case
sections =
    stays (hex (codes "00 02 01 78")) [] ∷ stays (hex (codes "00 03 01 78 ff")) [] ∷
    stays (hex (codes "01 08 00 61 73 6d 01 00 00 00")) (Push ∷ Section None None ∷ Pop ∷ []) ∷
    stays (hex (codes "02 04 01 00 00 00")) (Index space.Module 0 ∷ []) ∷ stays (hex (codes "03 03 01 50 00")) (Push ∷ Pop ∷ []) ∷
    stays (hex (codes "04 08 00 61 73 6d 0d 00 01 00")) (Push ∷ Pop ∷ []) ∷ stays (hex (codes "05 04 01 00 00 00")) (Index space.Component 0 ∷ []) ∷
    stays (hex (codes "06 05 01 03 02 01 00")) (Outer space.ComponentType 1 0 ∷ []) ∷ stays (hex (codes "07 02 01 7f")) [] ∷
    stays (hex (codes "08 02 01 05")) [] ∷
    stays (hex (codes "09 05 01 02 03 04 05")) (Index space.ComponentFunc 1 ∷ Index space.ComponentValue 3 ∷ Index space.ComponentValue 4 ∷ []) ∷
    stays (hex (codes "0a 06 01 00 01 61 01 00")) (Index space.ComponentType 0 ∷ []) ∷
    stays (hex (codes "0b 07 01 00 01 61 01 02 00")) (Index space.ComponentFunc 2 ∷ []) ∷
    stays (hex (codes "0b 09 01 00 01 61 01 02 01 01 03")) (Index space.ComponentFunc 2 ∷ Index space.ComponentType 3 ∷ []) ∷
    stays (hex (codes "0c 02 ff ff")) [] ∷ stays (hex (codes "7f 00")) [] ∷
    stays (hex (codes "01 0c 00 61 73 6d 01 00 00 00 03 02 01 00")) (Push ∷ Section None (Some id.Function) ∷ Index space.Type_ 0 ∷ Closed id.Function ∷ Section (Some id.Function) None ∷ Pop ∷ []) ∷
    becoming (hex (codes "01 0d 00 61 73 6d 01 00 00 00 03 03 01 80 00")) (hex (codes "01 0c 00 61 73 6d 01 00 00 00 03 02 01 00")) (Push ∷ Section None (Some id.Function) ∷ Index space.Type_ 0 ∷ Closed id.Function ∷ Section (Some id.Function) None ∷ Pop ∷ []) ∷ []

sections_hold : Hold component_section sections
unfolding shortest
sections_hold = refl

-- a header of the other kind, an id of 128, a body with bytes left
abbrev no_sections : List (List ℕ)
no_sections =
    hex (codes "01 08 00 61 73 6d 0d 00 01 00") ∷ hex (codes "04 08 00 61 73 6d 01 00 00 00") ∷ hex (codes "01 00") ∷ hex (codes "04 00") ∷
    hex (codes "80 00") ∷ hex (codes "02 05 01 00 00 00 00") ∷ hex (codes "09 04 01 02 03 04") ∷ []

no_sections_are_none : AreNone component_section no_sections
unfolding shortest
no_sections_are_none = refl

-- a core module without sections
module_alone : becomes asked_index (hex (codes "01 08 00 61 73 6d 01 00 00 00")) ≡
    gives (hex (codes "01 08 00 61 73 6d 01 00 00 00")) (Push ∷ Section None None ∷ Pop ∷ [])
unfolding shortest
module_alone = refl

-- a header of the other kind, a body that is none, a size past the end, a module type without its count
abbrev no_components : List (List ℕ)
no_components =
    hex (codes "01 08 00 61 73 6d 0d 00 01 00") ∷ hex (codes "04 08 00 61 73 6d 01 00 00 00") ∷ hex (codes "01 00") ∷
    hex (codes "04 09 00 61 73 6d 0d 00 01 00") ∷ hex (codes "04 00") ∷ hex (codes "01 0b 00 61 73 6d 01 00 00 00 0a 09 01") ∷
    hex (codes "01 0a 00 61 73 6d 01 00 00 00 0a 09") ∷ hex (codes "03 02 01 50") ∷ hex (codes "80 00") ∷ hex (codes "0c 01") ∷ []

no_components_are_none : map (becomes asked_index) no_components ≡ map (λ (x : List ℕ). nothing) no_components
unfolding shortest
no_components_are_none = refl

-- an outer index is asked with the count of its scopes
outer_type : becomes (becomes_at space.ComponentType 0 7) (hex (codes "06 05 01 03 02 01 00")) ≡
    gives (hex (codes "06 05 01 03 02 01 07")) (Outer space.ComponentType 1 0 ∷ [])
unfolding shortest
outer_type = refl

-- a module type without declarations
module_type : becomes asked_index (hex (codes "03 03 01 50 00")) ≡
    gives (hex (codes "03 03 01 50 00")) (Push ∷ Pop ∷ [])
unfolding shortest
module_type = refl

-- a name in an instance type
instance_type : becomes asked_index (hex (codes "07 09 01 42 01 04 01 01 61 01 00")) ≡
    gives (hex (codes "07 09 01 42 01 04 00 01 61 01 00")) (Push ∷ Index space.ComponentType 0 ∷ Pop ∷ [])
unfolding shortest
instance_type = refl

-- a function type
function_type : becomes asked_index (hex (codes "07 08 01 40 01 01 78 79 00 73")) ≡
    gives (hex (codes "07 08 01 40 01 01 78 79 00 73")) []
unfolding shortest
function_type = refl

-- imports, instances, a start and exports
sections_in_a_row : becomes (both_at space.ComponentFunc 0 2 space.Module 0 3) (hex (codes "0a 06 01 00 01 61 01 00 02 08 01 00 00 01 01 61 12 00 05 08 01 00 00 01 01 61 01 00 09 03 00 00 00 0b 07 01 00 01 62 01 00 00")) ≡
    gives (hex (codes "0a 06 01 00 01 61 01 00 02 08 01 00 03 01 01 61 12 00 05 08 01 00 00 01 01 61 01 02 09 03 02 00 00 0b 07 01 00 01 62 01 02 00")) (Index space.ComponentType 0 ∷ Index space.Module 0 ∷ Index space.Instance 0 ∷ Index space.Component 0 ∷ Index space.ComponentFunc 0 ∷ Index space.ComponentFunc 0 ∷ Index space.ComponentFunc 0 ∷ [])
unfolding shortest
sections_in_a_row = refl

-- a lifted function, and its type
lift : becomes (both_at space.Function 2 9 space.ComponentType 3 1) (hex (codes "08 06 01 00 00 02 00 03")) ≡
    gives (hex (codes "08 06 01 00 00 09 00 01")) (Index space.Function 2 ∷ Index space.ComponentType 3 ∷ [])
unfolding shortest
lift = refl

-- the type of a lifted function is asked before its options
lift_with_options : becomes asked_index (hex (codes "08 08 01 00 00 02 01 03 00 03")) ≡
    gives (hex (codes "08 08 01 00 00 02 01 03 00 03")) (Index space.Function 2 ∷ Index space.ComponentType 3 ∷ Index space.Memory 0 ∷ [])
unfolding shortest
lift_with_options = refl

-- the options are asked before the result
task_return : becomes asked_index (hex (codes "08 07 01 09 00 05 01 03 00")) ≡
    gives (hex (codes "08 07 01 09 00 05 01 03 00")) (Index space.Memory 0 ∷ Index space.ComponentType 5 ∷ [])
unfolding shortest
task_return = refl

-- names of functions
names : becomes (becomes_at space.ComponentFunc 0 2) (hex (codes "00 16 0e 63 6f 6d 70 6f 6e 65 6e 74 2d 6e 61 6d 65 01 05 01 01 00 01 66")) ≡
    gives (hex (codes "00 16 0e 63 6f 6d 70 6f 6e 65 6e 74 2d 6e 61 6d 65 01 05 01 01 02 01 66")) (Index space.ComponentFunc 0 ∷ [])
unfolding shortest
names = refl

-- ---- the depth

-- a list so often, and what follows
abbrev times : ℕ → List ℕ → List ℕ → List ℕ
times zero xs ys = ys
times (suc n) xs ys = xs ++ times n xs ys

abbrev visited : ℕ → Visit → List Visit → List Visit
visited zero v vs = vs
visited (suc n) v vs = v ∷ visited n v vs

-- instance types within each other, of which the innermost is empty
abbrev instance_types : ℕ → List ℕ
instance_types n = times n (0x42 ∷ 0x01 ∷ 0x01 ∷ []) (0x42 ∷ 0x00 ∷ [])

-- two hundred are read
two_hundred_types : becomes asked_index (0x07 ∷ 0xd8 ∷ 0x04 ∷ 0x01 ∷ instance_types 199) ≡
    gives (0x07 ∷ 0xd8 ∷ 0x04 ∷ 0x01 ∷ instance_types 199) (visited 200 Push (visited 200 Pop []))
unfolding shortest
two_hundred_types = refl

-- one more is not
more_types : becomes asked_index (0x07 ∷ 0xdb ∷ 0x04 ∷ 0x01 ∷ instance_types 200) ≡ nothing
unfolding shortest
more_types = refl

-- the sections of so many components within each other
abbrev framed : List ℕ → List ℕ
framed body = 0x04 ∷ (leb (length body) ++ body)

abbrev components : ℕ → List ℕ
components zero = []
components (suc n) = framed (component_header ++ components n)

two_hundred_components : becomes asked_index (components 200) ≡ gives (components 200) (visited 200 Push (visited 200 Pop []))
unfolding shortest
two_hundred_components = refl

more_components : becomes asked_index (components 201) ≡ nothing
unfolding shortest
more_components = refl
