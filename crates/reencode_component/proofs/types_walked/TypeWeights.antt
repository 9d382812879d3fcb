-- How many scopes may still be opened below a type, and between two scopes the order of the calls that map what is in them.
use Rattle.std.proofs.Common.{◌≡◌, ◌≤◌, ◌<◌, ◌+◌, ◌-◌, ◌*◌, max, ℕ, zero, suc, ap, ◌∙◌, subst, arith}
use Rattle.wasm_shapes.specs.Tree.{Tree}
use Rattle.wasm_shapes.specs.Types.{led}
use Rattle.wasm_shapes.specs.Depth.{Shallow, opens}
use Rattle.wasm_shapes.specs.Component.{component_declaration, instance_declaration}
use Rattle.wasm_read_component.specs.Scoped.{ScopedRead, ScopedStanding}
use Rattle.wasm_read_component.specs.TypeRows.{ComponentDeclarationStands, InstanceDeclarationStands, TypeStands}
use Rattle.wasm_read_component.specs.declared.declarations.ComponentType.{ComponentType}
use Rattle.wasm_read_component.specs.declared.declarations.ComponentType.TheVariants as component
use Rattle.wasm_read_component.specs.declared.declarations.ComponentTypeDeclaration.{ComponentTypeDeclaration}
use Rattle.wasm_read_component.specs.declared.declarations.ComponentTypeDeclaration.TheVariants as in_component
use Rattle.wasm_read_component.specs.declared.declarations.InstanceTypeDeclaration.{InstanceTypeDeclaration}
use Rattle.wasm_read_component.specs.declared.declarations.InstanceTypeDeclaration.TheVariants as in_instance

abbrev pub scope_weight : ScopedStanding → ℕ
scope_weight reader = 4 * (200 - reader.depth) + 4

abbrev pub type_weight : ComponentType → ℕ
type_weight (component.Component reader) = scope_weight reader
type_weight (component.Instance reader) = scope_weight reader
type_weight _ = 0

abbrev pub component_weight : ComponentTypeDeclaration → ℕ
component_weight (in_component.Type_ ty) = type_weight ty
component_weight _ = 0

abbrev pub instance_weight : InstanceTypeDeclaration → ℕ
instance_weight (in_instance.Type_ ty) = type_weight ty
instance_weight _ = 0

-- ---- what a reader gave is lighter than the reader

lighter : (d n : ℕ) → n ≡ d + 1 → n ≤ 200 → 4 * (200 - n) + 4 + 3 < 4 * (200 - d) + 4
lighter d n deeper most = omega arith

module _ (reader : ScopedStanding) where
  type_lighter : (ty : ComponentType) (t : Tree) → TypeStands reader.depth ty t → Shallow reader.depth t → type_weight ty + 3 < scope_weight reader
  type_lighter (component.Defined ty) t stands low = omega arith
  type_lighter (component.Func ty) t stands low = omega arith
  type_lighter (component.Resource rep dtor) t stands low = omega arith
  type_lighter (component.Component inner) t stands low =
      let deeper : inner.depth ≡ reader.depth + 1 = stands.stands.deeper in
      let scope = stands.stands.declares in
      let same : t ≡ Tree.row 3 (led 0x41 (Tree.scope (Tree.vec scope.rows))) = stands.is ∙ ap (λ (z : Tree). Tree.row 3 (led 0x41 z)) scope.is in
      let P : Tree → Type 0 = λ z. Shallow reader.depth z in
      let most : max zero (suc (opens scope.rows)) + reader.depth ≤ 200 = (subst P same low).most in
      lighter reader.depth inner.depth deeper (omega arith)
  type_lighter (component.Instance inner) t stands low =
      let deeper : inner.depth ≡ reader.depth + 1 = stands.stands.deeper in
      let scope = stands.stands.declares in
      let same : t ≡ Tree.row 4 (led 0x42 (Tree.scope (Tree.vec scope.rows))) = stands.is ∙ ap (λ (z : Tree). Tree.row 4 (led 0x42 z)) scope.is in
      let P : Tree → Type 0 = λ z. Shallow reader.depth z in
      let most : max zero (suc (opens scope.rows)) + reader.depth ≤ 200 = (subst P same low).most in
      lighter reader.depth inner.depth deeper (omega arith)

  behind_lighter : (k : ℕ) (ty : ComponentType) (t u : Tree) → t ≡ Tree.row k (led 0x01 u) → TypeStands reader.depth ty u → Shallow reader.depth t → type_weight ty + 3 < scope_weight reader
  behind_lighter k ty t u is stands low =
      let P : Tree → Type 0 = λ z. Shallow reader.depth z in
      let most : max zero (opens u) + reader.depth ≤ 200 = (subst P is low).most in
      type_lighter ty u stands (record { most = omega arith })

  component_lighter : (decl : ComponentTypeDeclaration) (t : Tree) → ComponentDeclarationStands reader.depth decl t → Shallow reader.depth t → component_weight decl + 3 < scope_weight reader
  component_lighter (in_component.Type_ ty) t stands low = behind_lighter 1 ty t stands.inner stands.is stands.stands low
  component_lighter (in_component.CoreType ty) t stands low = omega arith
  component_lighter (in_component.Alias alias) t stands low = omega arith
  component_lighter (in_component.Export name ty) t stands low = omega arith
  component_lighter (in_component.Import row) t stands low = omega arith

  instance_lighter : (decl : InstanceTypeDeclaration) (t : Tree) → InstanceDeclarationStands reader.depth decl t → Shallow reader.depth t → instance_weight decl + 3 < scope_weight reader
  instance_lighter (in_instance.Type_ ty) t stands low = behind_lighter 1 ty t stands.inner stands.is stands.stands low
  instance_lighter (in_instance.CoreType ty) t stands low = omega arith
  instance_lighter (in_instance.Alias alias) t stands low = omega arith
  instance_lighter (in_instance.Export name ty) t stands low = omega arith

  module _ (start : ScopedStanding) (same : reader.depth ≡ start.depth) {reader' : ScopedStanding} where
    pub component_falls : (decl : ComponentTypeDeclaration) → ScopedRead component_declaration (ComponentDeclarationStands reader.depth decl) reader reader' → component_weight decl + 3 < scope_weight start
    component_falls decl read =
        let less : component_weight decl + 3 < scope_weight reader = component_lighter decl read.reads.tree read.reads.is read.reads.begins.shallow in
        let weigh : scope_weight reader ≡ scope_weight start = ap (λ (n : ℕ). 4 * (200 - n) + 4) same in omega arith

    pub instance_falls : (decl : InstanceTypeDeclaration) → ScopedRead instance_declaration (InstanceDeclarationStands reader.depth decl) reader reader' → instance_weight decl + 3 < scope_weight start
    instance_falls decl read =
        let less : instance_weight decl + 3 < scope_weight reader = instance_lighter decl read.reads.tree read.reads.is read.reads.begins.shallow in
        let weigh : scope_weight reader ≡ scope_weight start = ap (λ (n : ℕ). 4 * (200 - n) + 4) same in omega arith
