-- The tables of the core module: its sections, their rows, and the trees of its sections (WebAssembly Core Specification 3.0, section 5.5).
use Rattle.std.specs.Prelude.{ℕ, List, [], ◌∷◌, true, codes}
use Rattle.wasm_shapes.specs.declared.Space.{Space}
use Rattle.wasm_shapes.specs.declared.SectionId.{SectionId}
use Rattle.wasm_shapes.specs.declared.SectionId.TheVariants as id
use Rattle.wasm_shapes.specs.declared.Space.TheVariants as space
use Rattle.wasm_shapes.specs.Tree.{Tree, Listed}
use Rattle.wasm_shapes.specs.Shape.{Shape, Named, choice, lead, rows_and, reference, table_type, memory_type, global_type, tag_type, entity_rows, entity}
use Rattle.wasm_shapes.specs.SectionTable.{Kind, of_body, framed_tree, shapes_of, place_in, body_in, item_of}

abbrev pub core_header : List ℕ
core_header = 0x00 ∷ 0x61 ∷ 0x73 ∷ 0x6d ∷ 0x01 ∷ 0x00 ∷ 0x00 ∷ 0x00 ∷ []

abbrev pub component_header : List ℕ
component_header = 0x00 ∷ 0x61 ∷ 0x73 ∷ 0x6d ∷ 0x0d ∷ 0x00 ∷ 0x01 ∷ 0x00 ∷ []

-- ---- rows

-- a function by the index of its type
abbrev pub function_row : Shape
function_row = Shape.ix space.Type_

-- a module's name, a name in it, and the type of what is imported
abbrev pub single_import : Shape
single_import = Shape.seq Shape.name (Shape.seq Shape.name entity)

-- a name in a module that is known, and the type of what is imported under it
abbrev pub compact_item : Shape
compact_item = Shape.seq Shape.name entity

-- what is imported from one module: names with a type each, or of one type
abbrev pub compact_rows : List Shape
compact_rows = lead 0x7f (Shape.vec compact_item) ∷ lead 0x7e (Shape.seq entity (Shape.vec Shape.name)) ∷ []

-- what stands behind an empty name: a type as behind any other, or a compact row
abbrev pub unnamed : Shape
unnamed = choice (rows_and entity_rows compact_rows)

abbrev pub import_row : Shape
import_row = Shape.seq Shape.name (Shape.by_name [] unnamed entity)

-- a table that starts with null references, or behind two bytes one that starts with the value of an expression
abbrev pub table_row : Shape
table_row = choice (table_type ∷ lead 0x40 (lead 0x00 (Shape.seq table_type (Shape.ref Named.expression))) ∷ [])

-- a global and the expression of its first value
abbrev pub global_row : Shape
global_row = Shape.seq global_type (Shape.ref Named.expression)

-- a name and what is exported under it
abbrev pub export_row : Shape
export_row = Shape.seq Shape.name (Shape.ref Named.item)

-- ---- element segments: the flag, a u32 number, says which row it is

-- functions by their indices
abbrev pub element_functions : Shape
element_functions = Shape.vec (Shape.ix space.Function)

-- expressions, each of which gives an element
abbrev pub element_expressions : Shape
element_expressions = Shape.vec (Shape.ref Named.expression)

-- The flags 0 and 2 place functions in a table, and 4 and 6 expressions; 1 and 5 are passive, and 3 and 7 declared. Behind 1
-- and 3 stands the kind byte, and behind 5 and 7 the type of the expressions, which are visited before it.
abbrev pub element_row : Shape
element_row = choice (
    Shape.active Listed.functions (Shape.ref Named.expression) reference element_functions ∷
    Shape.seq (Shape.flag 1) (lead 0x00 element_functions) ∷
    Shape.seq (Shape.flag 3) (lead 0x00 element_functions) ∷
    Shape.active Listed.expressions (Shape.ref Named.expression) reference element_expressions ∷
    Shape.seq (Shape.flag 5) (Shape.swap reference element_expressions) ∷
    Shape.seq (Shape.flag 7) (Shape.swap reference element_expressions) ∷ [])

-- A data segment that is placed in a memory (the flags 0 and 2), or a passive one (1).
abbrev pub data_row : Shape
data_row = choice (Shape.placed (Shape.ref Named.expression) Shape.content ∷ Shape.seq (Shape.flag 1) Shape.content ∷ [])

-- so many locals of a type
abbrev pub local_row : Shape
local_row = Shape.seq Shape.u32 (Shape.ref Named.value)

-- the locals and the operators of a function
abbrev pub body : Shape
body = Shape.seq (Shape.vec local_row) (Shape.many (Shape.op true))

-- the body in its frame
abbrev pub code_row : Shape
code_row = Shape.sized body

-- ---- bodies of sections

abbrev pub types : Shape
types = Shape.vec (Shape.ref Named.group)

abbrev pub imports : Shape
imports = Shape.vec import_row

abbrev pub functions : Shape
functions = Shape.vec function_row

abbrev pub tables : Shape
tables = Shape.vec table_row

abbrev pub memories : Shape
memories = Shape.vec memory_type

abbrev pub globals : Shape
globals = Shape.vec global_row

abbrev pub tags : Shape
tags = Shape.vec tag_type

abbrev pub exports : Shape
exports = Shape.vec export_row

-- the function that starts the module
abbrev pub start : Shape
start = Shape.ix space.Function

abbrev pub elements : Shape
elements = Shape.vec element_row

abbrev pub code : Shape
code = Shape.vec code_row

abbrev pub segments : Shape
segments = Shape.vec data_row

-- the number of data segments
abbrev pub data_count : Shape
data_count = Shape.ix space.DataCount

-- ---- sections

-- the kinds of sections that a module has, where these are the bodies of imports
abbrev pub in_force_with : Shape → List Kind
in_force_with imported =
    of_body id.Type_ types ∷ of_body id.Import imported ∷ of_body id.Function functions ∷ of_body id.Table tables ∷
    of_body id.Memory memories ∷ of_body id.Global globals ∷ of_body id.Export exports ∷ of_body id.Start start ∷
    of_body id.Element elements ∷ of_body id.Code code ∷ of_body id.Data segments ∷ of_body id.DataCount data_count ∷
    of_body id.Tag tags ∷ []

abbrev pub in_force : List Kind
in_force = in_force_with imports

-- ---- names, custom sections, and sections of other ids

-- an index that is not asked for, and its name
abbrev pub plain_naming : Shape
plain_naming = Shape.seq Shape.u32 Shape.name

-- names by an index of a space
abbrev pub naming_row : Space → Shape
naming_row s = Shape.seq (Shape.ix s) Shape.name

-- by an index of a space, and then by another, that is not asked for
abbrev pub indirect_row : Space → Shape
indirect_row s = Shape.seq (Shape.ix s) (Shape.vec plain_naming)

-- a name subsection of an id
abbrev pub subsection : ℕ → Shape → Shape
subsection id body = lead id (Shape.sized body)

-- The subsections of a name section. A row's number is the id, but that the last row is that of all other ids.
abbrev pub name_rows : List Shape
name_rows =
    subsection 0 Shape.name ∷
    subsection 1 (Shape.vec (naming_row space.Function)) ∷
    subsection 2 (Shape.vec (indirect_row space.Function)) ∷
    subsection 3 (Shape.vec (indirect_row space.Function)) ∷
    subsection 4 (Shape.vec (naming_row space.Type_)) ∷
    subsection 5 (Shape.vec (naming_row space.Table)) ∷
    subsection 6 (Shape.vec (naming_row space.Memory)) ∷
    subsection 7 (Shape.vec (naming_row space.Global)) ∷
    subsection 8 (Shape.vec (naming_row space.Element)) ∷
    subsection 9 (Shape.vec (naming_row space.Data)) ∷
    subsection 10 (Shape.vec (indirect_row space.Type_)) ∷
    subsection 11 (Shape.vec (naming_row space.Tag)) ∷
    Shape.seq (Shape.within 12 255) (Shape.sized Shape.rest) ∷ []

abbrev pub name_subsection : Shape
name_subsection = choice name_rows

-- the contents of a name section (section 7.4.1)
abbrev pub names : Shape
names = Shape.many name_subsection

-- the name of the sections whose contents these are
abbrev pub names_name : List ℕ
names_name = codes "name"

-- the body of a custom section
abbrev pub custom : Shape
custom = Shape.by_name names_name names Shape.rest

abbrev pub custom_section : Shape
custom_section = lead 0 (Shape.sized custom)

-- a section of an id that no kind has, by its bytes
abbrev pub unknown_section : Shape
unknown_section = Shape.seq (Shape.within 14 127) (Shape.sized Shape.rest)

-- ---- all sections

abbrev pub section_with : Shape → Shape
section_with imported = choice (rows_and (shapes_of (in_force_with imported)) (custom_section ∷ unknown_section ∷ []))

abbrev pub section : Shape
section = section_with imports

abbrev pub sections : Shape
sections = Shape.sections section

-- the bodies of the sections of a kind; none where it is not in force
abbrev pub body_of : SectionId → Shape
body_of k = body_in in_force k

-- their rows; none where they are no vectors
abbrev pub row_of : SectionId → Shape
row_of k = item_of (body_of k)

-- a section by its kind and its body
abbrev pub tree_of : SectionId → Tree → Tree
tree_of k body = Tree.row (place_in in_force k) (framed_tree k body)

-- a custom section by its body, and a section of another id by its bytes
abbrev pub custom_tree_of : Tree → Tree
custom_tree_of body = Tree.row 13 (Tree.pair (Tree.fixed 0) (Tree.sized body))

abbrev pub unknown_tree_of : ℕ → List ℕ → Tree
unknown_tree_of id contents = Tree.row 14 (Tree.pair (Tree.byte id) (Tree.sized (Tree.raw contents)))

-- sections, and others behind them
abbrev pub alsos : List Tree → Tree → Tree
alsos [] others = others
alsos (t ∷ ts) others = Tree.also t (alsos ts others)

-- ---- the module

-- some bytes, and then a shape
abbrev pub headed : List ℕ → Shape → Shape
headed [] s = s
headed (b ∷ bs) s = lead b (headed bs s)

abbrev pub headed_tree : List ℕ → Tree → Tree
headed_tree [] t = t
headed_tree (b ∷ bs) t = Tree.pair (Tree.fixed b) (headed_tree bs t)

abbrev pub core_module : Shape
core_module = headed core_header sections

-- the same where every import is a single one
abbrev pub single_module : Shape
single_module = headed core_header (Shape.sections (section_with (Shape.vec single_import)))

abbrev pub core_tree : Tree → Tree
core_tree t = headed_tree core_header t

-- ---- frames

-- A frame: an id below 128, and a body of which nothing is said but that one of the id 0 begins with a name.
abbrev pub frame : Shape
frame = choice (
    lead 0 (Shape.sized (Shape.seq Shape.name Shape.rest)) ∷
    Shape.seq (Shape.within 1 127) (Shape.sized Shape.rest) ∷ [])

-- a frame of an id other than 0, whose body is these bytes
abbrev pub numbered_frame : ℕ → List ℕ → Tree
numbered_frame id body = Tree.row 1 (Tree.pair (Tree.byte id) (Tree.sized (Tree.raw body)))

-- a frame of the id 0, whose body is a name and these bytes
abbrev pub custom_frame : List ℕ → List ℕ → Tree
custom_frame name contents = Tree.row 0 (Tree.pair (Tree.fixed 0) (Tree.sized (Tree.pair (Tree.name name) (Tree.raw contents))))
