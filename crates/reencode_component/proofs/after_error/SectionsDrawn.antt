-- What a section asks is drawn from its frame, and what a component asks from its bytes.
use Rattle.std.proofs.Common.{◌≡◌, ◌+◌, ◌≤◌, zero, suc, ℕ, List, [], refl, sym, append-nil, subst, arith, ◌⊎◌, inl, inr}
use Rattle.wasm_shapes.specs.Component as table
use Rattle.wasm_shapes.specs.Component.{component_section_tree, component_tree}
use Rattle.wasm_shapes.specs.ComponentReadings.{InComponentFrame}
use Rattle.wasm_shapes.specs.Depth.{Shallow, opens}
use Rattle.wasm_shapes.specs.Drawn.{Drawn, IsItem}
use Rattle.wasm_shapes.specs.Module.{component_header, core_tree, frame, numbered_frame}
use Rattle.wasm_shapes.specs.Place.{Begins}
use Rattle.wasm_shapes.specs.Shape.{Shape}
use Rattle.wasm_shapes.specs.Spells.{Is, Spelled}
use Rattle.wasm_shapes.specs.Tree.{Tree, visits}
use Rattle.wasm_shapes.proofs.ComponentFrames.{in_component_frame}
use Rattle.wasm_shapes.proofs.Depth.{shallow_first}
use Rattle.wasm_shapes.proofs.Drawn.{drawn_behind, drawn_front, drawn_item, drawn_joined, drawn_none, drawn_scope}
use Rattle.wasm_shapes.proofs.Laws.{module_headed}
use Rattle.reencode_core.proofs.sections_walked.CustomSection.{drawn_contents}
use Rattle.reencode_core.proofs.after_error.NoneOrAllVisited.{module_drawn}
use Rattle.reencode_core.proofs.after_error.RowsVisited.{drawn_rows}
use Rattle.reencode_core.proofs.after_error.SectionVisited.{custom_drawn, numbered_drawn}
use Rattle.reencode_component.specs.ComponentNames.{component_custom}
use Rattle.reencode_component.specs.Components.{ComponentReading, ReadsSection}
use Rattle.reencode_component.proofs.names_mapped.NameCalls.{component_laws}
use Rattle.reencode_component.proofs.nested_binaries.NestedReadings.{component_forth, module_forth}
use Rattle.reencode_component.proofs.nested_binaries.NestedSteps.{nested_tree}

-- ---- one section

rows_drawn : (id : ℕ) (row : Shape) → table.component_body_of id ≡ Shape.vec row → (u : Tree) (x : List ℕ) → Is (Shape.vec row) u → Spelled u x → Drawn x (visits u)
rows_drawn id row e u x (Is.vec {t = v} d) s = drawn_behind s.0 s.1 s.2 (drawn_rows (IsItem.component_row id row e) v s.1 d s.4)

body_drawn : (id : ℕ) → 1 ≤ id → id ≤ 11 → (u : Tree) (x : List ℕ) → Is (table.component_body_of id) u → Spelled u x → ((id ≡ 1) ⊎ (id ≡ 4) → Drawn x (visits u)) → Drawn x (visits u)
body_drawn zero low h u x d s nested = absurd (omega (arith, low))
body_drawn (suc zero) low h u x d s nested = nested (inl refl)
body_drawn (suc (suc zero)) low h u x d s nested = rows_drawn 2 table.instance_row refl u x d s
body_drawn (suc (suc (suc zero))) low h u x d s nested = rows_drawn 3 table.core_type refl u x d s
body_drawn (suc (suc (suc (suc zero)))) low h u x d s nested = nested (inr refl)
body_drawn (suc (suc (suc (suc (suc zero))))) low h u x d s nested = rows_drawn 5 table.component_instance_row refl u x d s
body_drawn (suc (suc (suc (suc (suc (suc zero)))))) low h u x d s nested = rows_drawn 6 table.alias refl u x d s
body_drawn (suc (suc (suc (suc (suc (suc (suc zero))))))) low h u x d s nested = rows_drawn 7 table.component_type refl u x d s
body_drawn (suc (suc (suc (suc (suc (suc (suc (suc zero)))))))) low h u x d s nested = rows_drawn 8 table.canonical_function refl u x d s
body_drawn (suc (suc (suc (suc (suc (suc (suc (suc (suc zero))))))))) low h u x d s nested = drawn_item IsItem.component_start (record { shaped = d; spelled = s })
body_drawn (suc (suc (suc (suc (suc (suc (suc (suc (suc (suc zero)))))))))) low h u x d s nested = rows_drawn 10 table.extern_row refl u x d s
body_drawn (suc (suc (suc (suc (suc (suc (suc (suc (suc (suc (suc zero))))))))))) low h u x d s nested = rows_drawn 11 table.component_export_row refl u x d s
body_drawn (suc (suc (suc (suc (suc (suc (suc (suc (suc (suc (suc (suc n)))))))))))) low h u x d s nested = absurd (omega (arith, h))

-- what stands in the scope of a nested section
inner_drawn : {id : ℕ} {u : Tree} {x : List ℕ} (k : ℕ) (v : Tree) → component_section_tree id u ≡ nested_tree k v → Drawn x (visits v) → Drawn x (visits u)
inner_drawn {id = id} {u = u} {x = x} k v e d =
    let is : u ≡ Tree.scope v = cc in let P : Tree → Type 0 = λ z. Drawn x (visits z) in subst P (sym is) (drawn_scope v d)

-- by what a nested component asks
section_drawn_by : (depth : ℕ) → ((body : List ℕ) (t : Tree) → ComponentReading (depth + 1) body t → Drawn body (visits t)) → {f t : Tree} {bytes left : List ℕ} → Begins frame bytes f left →
    ReadsSection depth f t → Drawn bytes (visits t)
section_drawn_by depth inner {f = f} {t = t} {bytes = bytes} {left = left} there r = go t f r.framed r there
  where
    go : (t f : Tree) → InComponentFrame t f → ReadsSection depth f t → Begins frame bytes f left → Drawn bytes (visits t)
    go t f (InComponentFrame.of_id id u body low high p) r there = numbered_drawn there (body_drawn id low high u body p.shaped p.spelled nested)
      where
        at : {n : ℕ} → id ≡ n → ReadsSection depth (numbered_frame n body) t
        at e = let P : ℕ → Type 0 = λ z. ReadsSection depth (numbered_frame z body) t in subst P e r

        nested : (id ≡ 1) ⊎ (id ≡ 4) → Drawn body (visits u)
        nested (inl e) = let q = module_forth depth body t (at e) in inner_drawn 1 (core_tree q.0) q.1 (module_drawn body (core_tree q.0) (module_headed.forth body q.0 q.2))
        nested (inr e) = let q = component_forth depth body t (at e) in inner_drawn 4 (component_tree q.0) q.1 (inner body q.0 q.2)
    go t f (InComponentFrame.of_custom name contents u p) r there = custom_drawn there (drawn_contents component_custom component_laws p)
    go t f (InComponentFrame.of_unknown id contents low high) r there = drawn_none

-- ---- sections one behind another

list_drawn : (depth : ℕ) → ((body : List ℕ) (t : Tree) → ComponentReading (depth + 1) body t → Drawn body (visits t)) → (t : Tree) (x : List ℕ) → Is (Shape.many table.component_section) t → Spelled t x →
    Shallow depth t → Drawn x (visits t)
list_drawn depth inner t x Is.nil s h = drawn_none
list_drawn depth inner t x (Is.cons {t = v} {u = u} d e) s h =
    let f = in_component_frame v s.0 d s.3 in
    let own : Begins frame s.0 f.0 [] = record { text = s.0; spells = f.2; reads = sym (append-nil s.0) } in
    let parts = shallow_first h in
    let one : Drawn s.0 (visits v) = section_drawn_by depth inner own (record { framed = f.1; shallow = parts.0 }) in
    drawn_joined x (visits v) (visits u) (drawn_front s.0 s.1 s.2 one) (drawn_behind s.0 s.1 s.2 (list_drawn depth inner u s.1 e s.4 parts.1))

whole_drawn : (depth : ℕ) → ((body : List ℕ) (t : Tree) → ComponentReading (depth + 1) body t → Drawn body (visits t)) → (bytes : List ℕ) (t : Tree) → ComponentReading depth bytes t → Drawn bytes (visits t)
whole_drawn depth inner bytes t c = drawn_behind component_header c.rest c.stands (list_drawn depth inner t c.rest c.spells.shaped c.spells.spelled c.shallow)

-- with so many scopes that may still be opened
component_drawn_at : (scopes depth : ℕ) → 200 ≤ scopes + depth → (bytes : List ℕ) (t : Tree) → ComponentReading depth bytes t → Drawn bytes (visits t)
component_drawn_at zero depth deep bytes t r =
    whole_drawn depth (λ body u q. let most : opens u + (depth + 1) ≤ 200 = q.shallow.most in absurd (omega (arith, deep, most))) bytes t r
component_drawn_at (suc scopes) depth deep bytes t r = whole_drawn depth (component_drawn_at scopes (depth + 1) (omega (arith, deep))) bytes t r

pub component_drawn : (depth : ℕ) (bytes : List ℕ) (t : Tree) → ComponentReading depth bytes t → Drawn bytes (visits t)
component_drawn depth bytes t r = component_drawn_at 200 depth (omega arith) bytes t r

pub section_drawn : {depth : ℕ} {f t : Tree} {bytes left : List ℕ} → Begins frame bytes f left → ReadsSection depth f t → Drawn bytes (visits t)
section_drawn {depth = depth} there r = section_drawn_by depth (component_drawn (depth + 1)) there r
