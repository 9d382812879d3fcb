-- Nested modules and components in their frames, and their own readings.
use Rattle.std.proofs.Common.{◌≡◌, ◌+◌, ◌<◌, ◌≤◌, lit≤, max, zero, ℕ, List, refl, ap, ◌∙◌, subst, arith}
use Rattle.wasm_shapes.specs.Component.{component_section_tree, component_tree}
use Rattle.wasm_shapes.specs.ComponentReadings.{InComponentFrame}
use Rattle.wasm_shapes.specs.Depth.{Shallow, opens}
use Rattle.wasm_shapes.specs.Module.{CoreReading, core_tree, numbered_frame}
use Rattle.wasm_shapes.specs.Tree.{Tree}
use Rattle.wasm_shapes.proofs.Nested.{nested}
use Rattle.reencode_component.specs.Components.{ComponentReading, ReadsSection}
use Rattle.reencode_component.proofs.sections_walked.RowsMapped.{in_numbered}
use Rattle.reencode_component.proofs.nested_binaries.NestedSteps.{nested_tree}

body_shallow : {depth id : ℕ} {t u : Tree} → t ≡ component_section_tree id u → Shallow depth t → Shallow depth u
body_shallow {depth = depth} {id = id} {t = t} {u = u} e s =
    let P : Tree → Type 0 = λ z. Shallow depth z in
    let most : max zero (opens u) + depth ≤ 200 = (subst P e s).most in
    record { most = omega arith }

section_shallow : {depth : ℕ} (id : ℕ) {u : Tree} → Shallow depth u → Shallow depth (component_section_tree id u)
section_shallow {depth = depth} id {u = u} s = let most : opens u + depth ≤ 200 = s.most in let whole : max zero (opens u) + depth ≤ 200 = omega arith in record { most = whole }

-- ---- a core module

pub module_forth : (depth : ℕ) (body : List ℕ) (t : Tree) → ReadsSection depth (numbered_frame 1 body) t →
    (u : Tree) × (t ≡ nested_tree 1 (core_tree u)) × CoreReading body u × (depth + 1 ≤ 200)
module_forth depth body t r =
    let v = in_numbered 1 body t (lit≤ tt) r.framed in
    let q = nested.module_back depth body v.0 v.2 (body_shallow v.1 r.shallow) in
    (q.0, v.1 ∙ ap (λ (z : Tree). component_section_tree 1 z) q.1, q.2, q.3)

pub module_back : (depth : ℕ) (body : List ℕ) → depth < 200 → (u : Tree) → CoreReading body u → ReadsSection depth (numbered_frame 1 body) (nested_tree 1 (core_tree u))
module_back depth body low u r =
    let p = nested.module_forth depth body u (omega (arith, low)) r in record {
      framed = InComponentFrame.of_id 1 (Tree.scope (core_tree u)) body (lit≤ tt) (lit≤ tt) p.0;
      shallow = section_shallow 1 p.1;
    }

-- where no further scope may be opened there is none
pub module_too_deep : (depth : ℕ) (body : List ℕ) → 200 ≤ depth → (t : Tree) → ReadsSection depth (numbered_frame 1 body) t → ⊥
module_too_deep depth body deep t r = let q = module_forth depth body t r in let low : depth + 1 ≤ 200 = q.3 in omega (arith, deep, low)

-- ---- a component

pub component_forth : (depth : ℕ) (body : List ℕ) (t : Tree) → ReadsSection depth (numbered_frame 4 body) t →
    (u : Tree) × (t ≡ nested_tree 4 (component_tree u)) × ComponentReading (depth + 1) body u
component_forth depth body t r =
    let v = in_numbered 4 body t (lit≤ tt) r.framed in
    let q = nested.component_back depth body v.0 v.2 (body_shallow v.1 r.shallow) in
    (q.0, v.1 ∙ ap (λ (z : Tree). component_section_tree 4 z) q.1, q.2)

pub component_back : (depth : ℕ) (body : List ℕ) (u : Tree) → ComponentReading (depth + 1) body u → ReadsSection depth (numbered_frame 4 body) (nested_tree 4 (component_tree u))
component_back depth body u r =
    let p = nested.component_forth depth body u r in record {
      framed = InComponentFrame.of_id 4 (Tree.scope (component_tree u)) body (lit≤ tt) (lit≤ tt) p.0;
      shallow = section_shallow 4 p.1;
    }

pub component_too_deep : (depth : ℕ) (body : List ℕ) → 200 ≤ depth → (t : Tree) → ReadsSection depth (numbered_frame 4 body) t → ⊥
component_too_deep depth body deep t r =
    let q = component_forth depth body t r in let most : opens q.0 + (depth + 1) ≤ 200 = q.2.shallow.most in omega (arith, deep, most)
