-- What stands behind a byte as a row of a choice: scopes, lists, core types and types of components.
use Rattle.std.proofs.Common.{◌≡◌, ℕ, List, [], Result, Ok, Err, IsErrAnd, refl}
use Rattle.wasm_shapes.specs.Component.{component_declaration, instance_declaration, module_declaration}
use Rattle.wasm_shapes.specs.Shape.{Shape}
use Rattle.wasm_shapes.specs.Tree.{Tree}
use Rattle.wasm_shapes.specs.Types.{led}
use Rattle.wasm_types.specs.ComponentTrees.{component_defined_type_tree, component_func_type_tree, core_group_tree, resource_tree}
use Rattle.wasm_read.specs.Reading.{Standing}
use Rattle.wasm_read.specs.Types as read
use Rattle.wasm_read_component.specs.Scoped.{ScopedStanding}
use Rattle.wasm_read_component.specs.declared.declarations.ComponentType.{ComponentType}
use Rattle.wasm_read_component.specs.declared.declarations.ComponentType.TheVariants as component
use Rattle.wasm_read_component.specs.declared.declarations.CoreType as read_type
use Rattle.wasm_read_component.specs.declared.declarations.CoreType.TheVariants as read_core
use Rattle.reencode_hooks.specs.declared.error.Error.{Error}
use Rattle.reencode_hooks.specs.declared.indices.ReencodeIndices.{Ghosts}
use Rattle.reencode_hooks.specs.Run.{accepted, ask, refused}
use Rattle.reencode_hooks.specs.Walk.{walk}
use Rattle.reencode_hooks.proofs.Leaving.{handed}
use Rattle.reencode_items.specs.Clauses.{ListClauses}
use Rattle.reencode_core.specs.Clauses.{asks}
use Rattle.reencode_core.specs.Leaves.{Text, rows_in}
use Rattle.reencode_core.specs.Rows.{Asks, RowsFault, StopsAtRow}
use Rattle.reencode_component.specs.DeclarationClauses.{ShallowScopeClauses, TypeWithin}
use Rattle.reencode_component.specs.ScopedRows.{ShallowFault, StopsShallow, shallow_rows_in}
use Rattle.reencode_component.specs.TypeClauses.{CoreTypeWithin, ScopeBy, ScopeClauses}

module _ {S E : Type 0} (asked : Asks S E) (c : ℕ) (s m : S) (j b : ℕ) where
  behind_mapped : (t u : Tree) → walk asked c s t ≡ accepted u m → walk asked c s (Tree.row j (led b t)) ≡ accepted (Tree.row j (led b u)) m
  behind_mapped t u h = rw h refl

  behind_refused : (t : Tree) {e : Error E} → walk asked c s t ≡ refused e m → walk asked c s (Tree.row j (led b t)) ≡ refused e m
  behind_refused t h = rw h refl

-- a scope, or a list, behind a byte
module _ {S E A B : Type 0} (i : Ghosts S E) (j b : ℕ) (s m : S) (view : A → Tree) (whole : B → Tree) where
  module _ (text : Text) (faulty : ℕ → S → List Tree → ℕ → Type 0) (stops : ℕ → S → List Tree → Error E → Type 0) (within : Tree → Tree) where
    -- it was mapped
    pub by_behind : (a : A) (made : B) → whole made ≡ Tree.row j (led b (view a)) → ScopeBy i text faulty stops within view s m (Ok a) →
        ScopeBy i text faulty stops (λ t. Tree.row j (led b (within t))) whole s m (Ok made)
    by_behind a made is given = record {
      default = λ k rows reads c. rw is (behind_mapped (ask i.reply i.next) c s m j b (within (Tree.scope (Tree.vec rows))) (view a) (given.default k rows reads c));
      readable = given.readable;
      unreadable = λ k c. tt;
      refusal = λ k c. tt;
      after_error = λ k. tt;
    }

    -- it was refused
    pub by_behind_ended : (e : Error E) → ScopeBy i text faulty stops within view s m (Err e) → (r : Result B (Error E)) → IsErrAnd r (λ y. y ≡ e) →
        ScopeBy i text faulty stops (λ t. Tree.row j (led b (within t))) whole s m r
    by_behind_ended e gone r q =
        rw (handed r q) (record {
          default = λ k rows reads c other. behind_refused (ask i.reply i.next) c s m j b (within (Tree.scope (Tree.vec rows))) (gone.default k rows reads c other);
          readable = λ k. tt;
          unreadable = gone.unreadable;
          refusal = gone.refusal;
          after_error = gone.after_error;
        })

  pub list_behind : (t : Tree) (a : A) (made : B) → whole made ≡ Tree.row j (led b (view a)) → ListClauses i t view s m (Ok a) → ListClauses i (Tree.row j (led b t)) whole s m (Ok made)
  list_behind t a made is given = record { default = λ k c. rw is (behind_mapped (ask i.reply i.next) c s m j b t (view a) (given.default k c)); after_error = λ k sure. tt }

  pub list_behind_ended : (t : Tree) (e : Error E) → ListClauses i t view s m (Err e) → (r : Result B (Error E)) → IsErrAnd r (λ y. y ≡ e) → ListClauses i (Tree.row j (led b t)) whole s m r
  list_behind_ended t e gone r q = rw (handed r q) (record { default = λ k c other. behind_refused (ask i.reply i.next) c s m j b t (gone.default k c other); after_error = gone.after_error })

module _ {S E A B : Type 0} (i : Ghosts S E) (row : Shape) (reader : Standing) (j b : ℕ) (s m : S) (within : Tree → Tree) (view : A → Tree) (whole : B → Tree) where
  pub scope_behind : (a : A) (made : B) → whole made ≡ Tree.row j (led b (view a)) → ScopeClauses i row reader within view s m (Ok a) →
      ScopeClauses i row reader (λ t. Tree.row j (led b (within t))) whole s m (Ok made)
  scope_behind = by_behind i j b s m view whole (rows_in row reader) (λ c n made at. RowsFault (asks i) c row reader (n, []) (m, made) at)
      (λ c n made e. StopsAtRow (asks i) c row reader (n, []) e (m, made)) within

  pub scope_behind_ended : (e : Error E) → ScopeClauses i row reader within view s m (Err e) → (r : Result B (Error E)) → IsErrAnd r (λ y. y ≡ e) →
      ScopeClauses i row reader (λ t. Tree.row j (led b (within t))) whole s m r
  scope_behind_ended = by_behind_ended i j b s m view whole (rows_in row reader) (λ c n made at. RowsFault (asks i) c row reader (n, []) (m, made) at)
      (λ c n made e. StopsAtRow (asks i) c row reader (n, []) e (m, made)) within

module _ {S E A B : Type 0} (i : Ghosts S E) (row : Shape) (reader : ScopedStanding) (j b : ℕ) (s m : S) (within : Tree → Tree) (view : A → Tree) (whole : B → Tree) where
  pub shallow_behind : (a : A) (made : B) → whole made ≡ Tree.row j (led b (view a)) → ShallowScopeClauses i row reader within view s m (Ok a) →
      ShallowScopeClauses i row reader (λ t. Tree.row j (led b (within t))) whole s m (Ok made)
  shallow_behind = by_behind i j b s m view whole (shallow_rows_in row reader) (λ c n made at. ShallowFault (asks i) c row reader (n, []) (m, made) at)
      (λ c n made e. StopsShallow (asks i) c row reader (n, []) e (m, made)) within

  pub shallow_behind_ended : (e : Error E) → ShallowScopeClauses i row reader within view s m (Err e) → (r : Result B (Error E)) → IsErrAnd r (λ y. y ≡ e) →
      ShallowScopeClauses i row reader (λ t. Tree.row j (led b (within t))) whole s m r
  shallow_behind_ended = by_behind_ended i j b s m view whole (shallow_rows_in row reader) (λ c n made at. ShallowFault (asks i) c row reader (n, []) (m, made) at)
      (λ c n made e. StopsShallow (asks i) c row reader (n, []) e (m, made)) within

-- ---- types behind a byte

module _ {S E A B : Type 0} (i : Ghosts S E) (j b : ℕ) (s m : S) (view : A → Tree) (whole : B → Tree) where
  pub core_behind : (ty : read_type.CoreType) (a : A) (made : B) → whole made ≡ Tree.row j (led b (view a)) → CoreTypeWithin i (λ t. t) view ty s m (Ok a) →
      CoreTypeWithin i (λ t. Tree.row j (led b t)) whole ty s m (Ok made)
  core_behind (read_core.Rec group) a made is given = list_behind i j b s m view whole (core_group_tree (read.group_tree group)) a made is given
  core_behind (read_core.Module reader) a made is given = scope_behind i module_declaration reader j b s m (λ t. Tree.row 0 (led 0x50 t)) view whole a made is given

  pub core_behind_ended : (ty : read_type.CoreType) (e : Error E) → CoreTypeWithin i (λ t. t) view ty s m (Err e) → (r : Result B (Error E)) → IsErrAnd r (λ y. y ≡ e) →
      CoreTypeWithin i (λ t. Tree.row j (led b t)) whole ty s m r
  core_behind_ended (read_core.Rec group) e gone r q = list_behind_ended i j b s m view whole (core_group_tree (read.group_tree group)) e gone r q
  core_behind_ended (read_core.Module reader) e gone r q = scope_behind_ended i module_declaration reader j b s m (λ t. Tree.row 0 (led 0x50 t)) view whole e gone r q

  pub type_behind : (ty : ComponentType) (a : A) (made : B) → whole made ≡ Tree.row j (led b (view a)) → TypeWithin i (λ t. t) view ty s m (Ok a) →
      TypeWithin i (λ t. Tree.row j (led b t)) whole ty s m (Ok made)
  type_behind (component.Defined ty) a made is given = list_behind i j b s m view whole (Tree.row 0 (component_defined_type_tree ty)) a made is given
  type_behind (component.Func ty) a made is given = list_behind i j b s m view whole (component_func_type_tree ty) a made is given
  type_behind (component.Component reader) a made is given = shallow_behind i component_declaration reader j b s m (λ t. Tree.row 3 (led 0x41 t)) view whole a made is given
  type_behind (component.Instance reader) a made is given = shallow_behind i instance_declaration reader j b s m (λ t. Tree.row 4 (led 0x42 t)) view whole a made is given
  type_behind (component.Resource rep dtor) a made is given = list_behind i j b s m view whole (resource_tree (read.val_type_tree rep) dtor) a made is given

  pub type_behind_ended : (ty : ComponentType) (e : Error E) → TypeWithin i (λ t. t) view ty s m (Err e) → (r : Result B (Error E)) → IsErrAnd r (λ y. y ≡ e) →
      TypeWithin i (λ t. Tree.row j (led b t)) whole ty s m r
  type_behind_ended (component.Defined ty) e gone r q = list_behind_ended i j b s m view whole (Tree.row 0 (component_defined_type_tree ty)) e gone r q
  type_behind_ended (component.Func ty) e gone r q = list_behind_ended i j b s m view whole (component_func_type_tree ty) e gone r q
  type_behind_ended (component.Component reader) e gone r q = shallow_behind_ended i component_declaration reader j b s m (λ t. Tree.row 3 (led 0x41 t)) view whole e gone r q
  type_behind_ended (component.Instance reader) e gone r q = shallow_behind_ended i instance_declaration reader j b s m (λ t. Tree.row 4 (led 0x42 t)) view whole e gone r q
  type_behind_ended (component.Resource rep dtor) e gone r q = list_behind_ended i j b s m view whole (resource_tree (read.val_type_tree rep) dtor) e gone r q
