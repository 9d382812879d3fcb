-- Types of components as rows, and what these declare: by the tree that one stands for.
use Rattle.std.proofs.Common.{◌≡◌, ◌≤◌, ◌+◌, max, zero, suc, ℕ, List, [], Result, Ok, Err, refl, sym, ap, ◌∙◌, subst, arith}
use Rattle.wasm_shapes.specs.Component.{component_declaration, instance_declaration}
use Rattle.wasm_shapes.specs.Tree.{Tree, visits}
use Rattle.wasm_shapes.specs.Types.{led}
use Rattle.wasm_shapes.specs.Depth.{Shallow, opens}
use Rattle.wasm_shapes.specs.Shape.{Shape}
use Rattle.wasm_types.specs.ComponentTrees.{component_defined_type_tree, component_func_type_tree, component_import_tree, resource_tree, type_ref_tree}
use Rattle.wasm_read.specs.Types.{val_type_tree}
use Rattle.wasm_read_component.specs.Aliases.{alias_tree}
use Rattle.wasm_read_component.specs.Scoped.{ScopedRead, ScopedStanding}
use Rattle.wasm_read_component.specs.TypeRows.{Behind, ComponentDeclarationStands, CoreTypeStands, DeclaresAt, InstanceDeclarationStands, TypeStands, extern_tree}
use Rattle.wasm_read_component.specs.declared.declarations.ComponentType.{ComponentType}
use Rattle.wasm_read_component.specs.declared.declarations.ComponentType.TheVariants as component
use Rattle.wasm_read_component.specs.declared.declarations.ComponentTypeDeclaration.{ComponentTypeDeclaration}
use Rattle.wasm_read_component.specs.declared.declarations.ComponentTypeDeclaration.TheVariants as in_component
use Rattle.wasm_read_component.specs.declared.declarations.InstanceTypeDeclaration.{InstanceTypeDeclaration}
use Rattle.wasm_read_component.specs.declared.declarations.InstanceTypeDeclaration.TheVariants as in_instance
use Rattle.wasm_read_component.specs.declared.declarations.CoreType.{CoreType}
use Rattle.wasm_write_component.specs.declared.declarations.ComponentTypeDeclaration as made_component
use Rattle.wasm_write_component.specs.declared.declarations.InstanceTypeDeclaration as made_instance
use Rattle.wasm_write_component.specs.TypeRows as write
use Rattle.reencode_hooks.specs.declared.error.Error.{Error}
use Rattle.reencode_hooks.specs.declared.indices.ReencodeIndices.{Ghosts}
use Rattle.reencode_items.specs.Clauses.{ListClauses}
use Rattle.reencode_core.specs.Clauses.{RowClauses, asks}
use Rattle.reencode_component.specs.DeclarationClauses.{ComponentDeclarationClauses, ComponentRowClauses, ComponentTypeClauses, InstanceDeclarationClauses, InstanceRowClauses, MapsAndAdds, ShallowScopeClauses, TypeRowClauses, TypeWithin}
use Rattle.reencode_component.specs.ScopedRows.{ShallowFault, ShallowRows, StopsShallow, shallow_rows_in}
use Rattle.reencode_component.specs.TypeClauses.{CoreTypeWithin}
use Rattle.reencode_component.proofs.types_walked.CoreTypeCalls.{core_listed, scope_listed}
use Rattle.reencode_component.proofs.rows_walked.RowAdded.{list_added}

-- ---- a type that stands for a tree

module _ {S E A : Type 0} (i : Ghosts S E) (within : Tree → Tree) (view : A → Tree) (inside : (t : Tree) → visits (within t) ≡ visits t) (s m : S) (depth : ℕ) where
  -- the declarations of a scope that stands behind a byte
  declared : (row : Shape) (reader : ScopedStanding) (j b : ℕ) (t u : Tree) → t ≡ Tree.row j (led b u) → DeclaresAt row depth reader u → Shallow depth t → (r : Result A (Error E)) →
      ShallowScopeClauses i row reader (λ z. within (Tree.row j (led b z))) view s m r → ListClauses i (within t) view s m r
  declared row reader j b t u is stands low r given =
      let scope = stands.declares in
      let P : Tree → Type 0 = λ z. ListClauses i (within z) view s m r in
      let same : t ≡ Tree.row j (led b (Tree.scope (Tree.vec scope.rows))) = is ∙ ap (λ (z : Tree). Tree.row j (led b z)) scope.is in
      let deeper : reader.depth ≡ depth + 1 = stands.deeper in
      let D : Tree → Type 0 = λ z. Shallow depth z in
      let most : max zero (suc (opens scope.rows)) + depth ≤ 200 = (subst D same low).most in
      let reads : ShallowRows row reader scope.rows = record { left = scope.left; shallow = λ some. record { most = omega arith } } in
      subst P (sym same)
      (scope_listed i (λ z. within (Tree.row j (led b z))) view (λ z. inside (Tree.row j (led b z))) s m (shallow_rows_in row reader)
      (λ c n made at. ShallowFault (asks i) c row reader (n, []) (m, made) at) (λ c n made e. StopsShallow (asks i) c row reader (n, []) e (m, made))
      scope.rows reads r given)

  pub type_listed : (ty : ComponentType) (t : Tree) → TypeStands depth ty t → Shallow depth t → (r : Result A (Error E)) → TypeWithin i within view ty s m r →
      ListClauses i (within t) view s m r
  type_listed (component.Defined ty) t is low r given =
      let P : Tree → Type 0 = λ z. ListClauses i (within z) view s m r in
      let same : t ≡ Tree.row 0 (component_defined_type_tree ty) = is in subst P (sym same) given
  type_listed (component.Func ty) t is low r given =
      let P : Tree → Type 0 = λ z. ListClauses i (within z) view s m r in
      let same : t ≡ component_func_type_tree ty = is in subst P (sym same) given
  type_listed (component.Component reader) t stands low r given = declared component_declaration reader 3 0x41 t stands.inner stands.is stands.stands low r given
  type_listed (component.Instance reader) t stands low r given = declared instance_declaration reader 4 0x42 t stands.inner stands.is stands.stands low r given
  type_listed (component.Resource rep dtor) t is low r given =
      let P : Tree → Type 0 = λ z. ListClauses i (within z) view s m r in
      let same : t ≡ resource_tree (val_type_tree rep) dtor = is in subst P (sym same) given

-- ---- what a scope declares

module _ {S E : Type 0} (i : Ghosts S E) (s m : S) (depth : ℕ) where
  -- a core type, or a type, behind the byte of its kind
  core_declared : {A : Type 0} (view : A → Tree) (k b : ℕ) (ty : CoreType) (t : Tree) → Behind k b (CoreTypeStands ty) t → (r : Result A (Error E)) →
      CoreTypeWithin i (λ z. Tree.row k (led b z)) view ty s m r → ListClauses i t view s m r
  core_declared view k b ty t stands r given =
      let P : Tree → Type 0 = λ z. ListClauses i z view s m r in
      subst P (sym stands.is) (core_listed i (λ z. Tree.row k (led b z)) view (λ z. refl) s m ty stands.inner stands.stands r given)

  type_declared : {A : Type 0} (view : A → Tree) (k b : ℕ) (ty : ComponentType) (t : Tree) → Behind k b (TypeStands depth ty) t → Shallow depth t → (r : Result A (Error E)) →
      TypeWithin i (λ z. Tree.row k (led b z)) view ty s m r → ListClauses i t view s m r
  type_declared view k b ty t stands low r given =
      let P : Tree → Type 0 = λ z. ListClauses i z view s m r in
      let D : Tree → Type 0 = λ z. Shallow depth z in
      let u : Tree = stands.inner in
      let most : max zero (opens u) + depth ≤ 200 = (subst D stands.is low).most in
      subst P (sym stands.is) (type_listed i (λ z. Tree.row k (led b z)) view (λ z. refl) s m depth ty u stands.stands (record { most = omega arith }) r given)

  pub component_listed : (decl : ComponentTypeDeclaration) (t : Tree) → ComponentDeclarationStands depth decl t → Shallow depth t →
      (r : Result made_component.ComponentTypeDeclaration (Error E)) → ComponentDeclarationClauses i decl s m r → ListClauses i t write.component_declaration_tree s m r
  component_listed (in_component.CoreType ty) t stands low r given = core_declared write.component_declaration_tree 0 0x00 ty t stands r given
  component_listed (in_component.Type_ ty) t stands low r given = type_declared write.component_declaration_tree 1 0x01 ty t stands low r given
  component_listed (in_component.Alias alias) t is low r given =
      let P : Tree → Type 0 = λ z. ListClauses i z write.component_declaration_tree s m r in
      let same : t ≡ Tree.row 2 (led 0x02 (alias_tree alias)) = is in subst P (sym same) given
  component_listed (in_component.Export name ty) t is low r given =
      let P : Tree → Type 0 = λ z. ListClauses i z write.component_declaration_tree s m r in
      let same : t ≡ Tree.row 4 (led 0x04 (extern_tree name.now (type_ref_tree ty))) = is in subst P (sym same) given
  component_listed (in_component.Import row) t is low r given =
      let P : Tree → Type 0 = λ z. ListClauses i z write.component_declaration_tree s m r in
      let same : t ≡ Tree.row 3 (led 0x03 (component_import_tree row)) = is in subst P (sym same) given

  pub instance_listed : (decl : InstanceTypeDeclaration) (t : Tree) → InstanceDeclarationStands depth decl t → Shallow depth t →
      (r : Result made_instance.InstanceTypeDeclaration (Error E)) → InstanceDeclarationClauses i decl s m r → ListClauses i t write.instance_declaration_tree s m r
  instance_listed (in_instance.CoreType ty) t stands low r given = core_declared write.instance_declaration_tree 0 0x00 ty t stands r given
  instance_listed (in_instance.Type_ ty) t stands low r given = type_declared write.instance_declaration_tree 1 0x01 ty t stands low r given
  instance_listed (in_instance.Alias alias) t is low r given =
      let P : Tree → Type 0 = λ z. ListClauses i z write.instance_declaration_tree s m r in
      let same : t ≡ Tree.row 2 (led 0x02 (alias_tree alias)) = is in subst P (sym same) given
  instance_listed (in_instance.Export name ty) t is low r given =
      let P : Tree → Type 0 = λ z. ListClauses i z write.instance_declaration_tree s m r in
      let same : t ≡ Tree.row 3 (led 0x04 (extern_tree name.now (type_ref_tree ty))) = is in subst P (sym same) given

-- ---- mapped, and then added

-- the row that then stands there
module _ {S E A : Type 0} (i : Ghosts S E) (s m : S) (view : A → Tree) (maps : Result A (Error E) → Type 0) (t : Tree) (listed : (r : Result A (Error E)) → maps r → ListClauses i t view s m r)
    {old new : List Tree} where
  pub row_of : (r : Result (Unit {0}) (Error E)) → MapsAndAdds view maps old new r → RowClauses i t s old m new r
  row_of r given = list_added i t view s m old new given.mapped (listed given.mapped given.maps_it) r given.adds

module _ {S E : Type 0} (i : Ghosts S E) (s m : S) (reader : ScopedStanding) {reader' : ScopedStanding} {old new : List Tree} where
  -- a declaration that a reader gave
  pub component_row : (decl : ComponentTypeDeclaration) (read : ScopedRead component_declaration (ComponentDeclarationStands reader.depth decl) reader reader') →
      (r : Result (Unit {0}) (Error E)) → ComponentRowClauses i decl s old m new r → RowClauses i read.reads.tree s old m new r
  component_row decl read =
      let reads = read.reads in
      row_of i s m write.component_declaration_tree (λ made. ComponentDeclarationClauses i decl s m made) reads.tree
      (component_listed i s m reader.depth decl reads.tree reads.is reads.begins.shallow)

  pub instance_row : (decl : InstanceTypeDeclaration) (read : ScopedRead instance_declaration (InstanceDeclarationStands reader.depth decl) reader reader') →
      (r : Result (Unit {0}) (Error E)) → InstanceRowClauses i decl s old m new r → RowClauses i read.reads.tree s old m new r
  instance_row decl read =
      let reads = read.reads in
      row_of i s m write.instance_declaration_tree (λ made. InstanceDeclarationClauses i decl s m made) reads.tree
      (instance_listed i s m reader.depth decl reads.tree reads.is reads.begins.shallow)

-- a row of a type section
pub type_row : {S E : Type 0} (i : Ghosts S E) (s m : S) (ty : ComponentType) (old new : List Tree) (r : Result (Unit {0}) (Error E)) → TypeRowClauses i ty s old m new r →
    (depth : ℕ) (t : Tree) → TypeStands depth ty t → Shallow depth t → RowClauses i t s old m new r
type_row i s m ty old new r given depth t stands low =
    row_of i s m write.component_type_tree (λ made. ComponentTypeClauses i ty s m made) t
    (type_listed i (λ z. z) write.component_type_tree (λ z. refl) s m depth ty t stands low) r given
