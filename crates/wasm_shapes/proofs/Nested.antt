-- Nested modules and components, and their own readings.
use Rattle.std.proofs.Common.{◌≡◌, ℕ, suc, ◌+◌, ◌≤◌, List, ap, ◌∙◌, arith}
use Rattle.wasm_shapes.specs.Tree.{Tree}
use Rattle.wasm_shapes.specs.Shape.{Shape}
use Rattle.wasm_shapes.specs.Spells.{Is, Spelled, Spells}
use Rattle.wasm_shapes.specs.Sections.{core_header, core_module, core_tree}
use Rattle.wasm_shapes.specs.Module.{CoreReading}
use Rattle.wasm_shapes.specs.Component.{component, component_tree}
use Rattle.wasm_shapes.specs.Depth.{opens, Shallow}
use Rattle.wasm_shapes.specs.ComponentReadings.{ComponentReading}
use Rattle.wasm_shapes.specs.ComponentLaws as statements
use Rattle.wasm_shapes.proofs.Laws.{module_headed}
use Rattle.wasm_shapes.proofs.ComponentLaws.{component_headed, headed_opens}
use Rattle.wasm_shapes.proofs.Unscoped.{core_unscoped}

in_scope : {a : Shape} {x : List ℕ} {t : Tree} → Spells a x t → Spells (Shape.scope a) x (Tree.scope t)
in_scope p = record { shaped = Is.scope p.shaped; spelled = p.spelled }

deeper : {depth : ℕ} {t : Tree} → Shallow (depth + 1) t → Shallow depth (Tree.scope t)
deeper {depth = depth} {t = t} s = let most : opens t + (depth + 1) ≤ 200 = s.most in record { most = omega arith }

outside : {depth : ℕ} {t : Tree} → Shallow depth (Tree.scope t) → Shallow (depth + 1) t
outside {depth = depth} {t = t} s = let most : suc (opens t) + depth ≤ 200 = s.most in record { most = omega arith }

core_flat : {body : List ℕ} {u : Tree} → CoreReading body u → opens (core_tree u) ≡ 0
core_flat {u = u} r = let none : opens u ≡ 0 = (core_unscoped r).opens in headed_opens core_header u ∙ none

module_forth : (depth : ℕ) (body : List ℕ) (u : Tree) → depth + 1 ≤ 200 → CoreReading body u →
    Spells (Shape.scope core_module) body (Tree.scope (core_tree u)) × Shallow depth (Tree.scope (core_tree u))
module_forth depth body u room r =
    let none : opens (core_tree u) ≡ 0 = core_flat r in
    (in_scope (module_headed.forth body u r), record { most = omega arith })

module_back : (depth : ℕ) (body : List ℕ) (t : Tree) → Spells (Shape.scope core_module) body t → Shallow depth t →
    (u : Tree) × (t ≡ Tree.scope (core_tree u)) × CoreReading body u × (depth + 1 ≤ 200)
module_back depth body t p s = go t p.shaped p.spelled s
  where
    go : (t : Tree) → Is (Shape.scope core_module) t → Spelled t body → Shallow depth t →
        (u : Tree) × (t ≡ Tree.scope (core_tree u)) × CoreReading body u × (depth + 1 ≤ 200)
    go t (Is.scope {t = v} d) p s =
        let b = module_headed.back body v (record { shaped = d; spelled = p }) in
        let most : suc (opens v) + depth ≤ 200 = s.most in
        (b.0, ap Tree.scope b.1, b.2, omega arith)

component_forth : (depth : ℕ) (body : List ℕ) (u : Tree) → ComponentReading (depth + 1) body u →
    Spells (Shape.scope component) body (Tree.scope (component_tree u)) × Shallow depth (Tree.scope (component_tree u))
component_forth depth body u r = let p = component_headed.forth (depth + 1) body u r in (in_scope p.0, deeper p.1)

component_back : (depth : ℕ) (body : List ℕ) (t : Tree) → Spells (Shape.scope component) body t → Shallow depth t →
    (u : Tree) × (t ≡ Tree.scope (component_tree u)) × ComponentReading (depth + 1) body u
component_back depth body t p s = go t p.shaped p.spelled s
  where
    go : (t : Tree) → Is (Shape.scope component) t → Spelled t body → Shallow depth t →
        (u : Tree) × (t ≡ Tree.scope (component_tree u)) × ComponentReading (depth + 1) body u
    go t (Is.scope {t = v} d) p s =
        let b = component_headed.back (depth + 1) body v (record { shaped = d; spelled = p }) (outside s) in
        (b.0, ap Tree.scope b.1, b.2)

pub nested : statements.AreNested
nested = record { module_forth = module_forth; module_back = module_back; component_forth = component_forth; component_back = component_back }
