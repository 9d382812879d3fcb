-- A reading in which every import is a single one stands by the table with compact rows too.
use Rattle.std.proofs.Common.{ℕ, zero, suc, List, [], ◌∷◌, refl, sym}
use Rattle.wasm_shapes.specs.Tree.{Tree}
use Rattle.wasm_shapes.specs.Shape.{Shape, Named, choice, entity_rows}
use Rattle.wasm_shapes.specs.Spells.{Is, Spells}
use Rattle.wasm_shapes.specs.Module.{core_header, component_header, headed, section, section_with, single_import, import_row, compact_rows, core_module, single_module}
use Rattle.wasm_shapes.specs.Component.{component, component_section, single_rows, single_with, single_component}
use Rattle.wasm_shapes.specs.ComponentLaws as of_components
use Rattle.wasm_shapes.specs.Laws as statements
use Rattle.wasm_shapes.proofs.ComponentLaws.{components_sound}
use Rattle.wasm_shapes.proofs.Laws.{one_tree}
use Rattle.wasm_shapes.proofs.Parts.{among}

-- a tree of one shape is one of another
abbrev Stays : Shape → Shape → Type 0
Stays a b = (t : Tree) → Is a t → Is b t

many_stay : {a b : Shape} → Stays a b → Stays (Shape.many a) (Shape.many b)
many_stay stays _ Is.nil = Is.nil
many_stay stays _ (Is.cons {t = t} {u = u} d d') = Is.cons (stays t d) (many_stay stays u d')

headed_stays : (hs : List ℕ) {a b : Shape} → Stays a b → Stays (headed hs a) (headed hs b)
headed_stays [] stays t d = stays t d
headed_stays (h ∷ hs) stays _ (Is.seq {u = u} d d') = Is.seq d (headed_stays hs stays u d')

-- ---- core modules

-- behind an empty name the types stand among more rows, with the same numbers
row_stays : Stays single_import import_row
row_stays _ (Is.seq Is.name (Is.seq (Is.name {bs = []}) d)) = Is.seq Is.name (Is.named (among entity_rows compact_rows d))
row_stays _ (Is.seq Is.name (Is.seq (Is.name {bs = b ∷ bs}) d)) = Is.seq Is.name (Is.other (λ e. cc) d)

section_stays : Stays (section_with (Shape.vec single_import)) section
section_stays _ (Is.first d) = Is.first d
section_stays _ (Is.later (Is.first (Is.told (Is.seq Is.fixed (Is.sized (Is.vec {t = t} d)))))) =
    Is.later (Is.first (Is.told (Is.seq Is.fixed (Is.sized (Is.vec (many_stay row_stays t d))))))
section_stays _ (Is.later (Is.later d)) = Is.later (Is.later d)

sections_stay : Stays (Shape.sections (section_with (Shape.vec single_import))) (Shape.sections section)
sections_stay _ Is.finish = Is.finish
sections_stay _ (Is.also {t = t} {u = u} d d') = Is.also (section_stays t d) (sections_stay u d')

module_stays : Stays single_module core_module
module_stays = headed_stays core_header sections_stay

pub single_imports_stay : statements.KeepsSingleImports
single_imports_stay bytes t p =
    let q : Spells core_module bytes t = record { shaped = module_stays t p.shaped; spelled = p.spelled } in
    (q, λ u r. sym (one_tree core_module refl bytes t u q r))

-- ---- components

component_section_stays : {components : Shape} → Stays components (Shape.ref Named.nested) →
    Stays (choice (single_rows components)) component_section
component_section_stays stays _ (Is.first d) = Is.first d
component_section_stays stays _ (Is.later (Is.first (Is.seq Is.fixed (Is.sized (Is.scope {t = t} d))))) =
    Is.later (Is.first (Is.seq Is.fixed (Is.sized (Is.scope (module_stays t d)))))
component_section_stays stays _ (Is.later (Is.later (Is.first d))) = Is.later (Is.later (Is.first d))
component_section_stays stays _ (Is.later (Is.later (Is.later (Is.first d)))) = Is.later (Is.later (Is.later (Is.first d)))
component_section_stays stays _ (Is.later (Is.later (Is.later (Is.later (Is.first (Is.seq {u = u} Is.fixed d)))))) =
    Is.later (Is.later (Is.later (Is.later (Is.first (Is.seq Is.fixed (stays u d))))))
component_section_stays stays _ (Is.later (Is.later (Is.later (Is.later (Is.later d))))) = Is.later (Is.later (Is.later (Is.later (Is.later d))))

none_stays : Stays Shape.none (Shape.ref Named.nested)
none_stays t d = elim d [ ]

with_stays : {components : Shape} → Stays components (Shape.ref Named.nested) → Stays (single_with components) component
with_stays stays = headed_stays component_header (many_stay (component_section_stays stays))

framed_stays : {a : Shape} → Stays a component → Stays (Shape.sized (Shape.scope a)) (Shape.ref Named.nested)
framed_stays stays _ (Is.sized (Is.scope {t = t} d)) = Is.ref (Is.sized (Is.scope (stays t d)))

component_stays : (n : ℕ) → Stays (single_component n) component
component_stays zero = with_stays none_stays
component_stays (suc n) = with_stays (framed_stays (component_stays n))

pub nested_imports_stay : of_components.KeepsNestedImports
nested_imports_stay n bytes t p =
    let q : Spells component bytes t = record { shaped = component_stays n t p.shaped; spelled = p.spelled } in
    (q, λ u r. sym (one_tree component components_sound.component_sound bytes t u q r))
