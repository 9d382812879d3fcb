-- The scopes of component types and instance types, at the front of some bytes.
use Rattle.std.proofs.Common.{◌≡◌, ℕ, suc, ◌+◌, ◌≤◌, List, ◌∷◌, Bool, true, refl, sym, ap, arith}
use Rattle.wasm_leb.specs.Place.{BeginsNumber, BeginsNoNumber}
use Rattle.wasm_shapes.specs.Tree.{Tree}
use Rattle.wasm_shapes.specs.Shape.{Shape, closed, lead}
use Rattle.wasm_shapes.specs.Spells.{Is}
use Rattle.wasm_shapes.specs.Place.{Begins}
use Rattle.wasm_shapes.specs.Component.{component_type, component_type_rows}
use Rattle.wasm_shapes.specs.Sound.{sound}
use Rattle.wasm_shapes.specs.Rows.{rows_then}
use Rattle.wasm_shapes.specs.Depth.{opens, BeginsAt, BeginsNoneAt}
use Rattle.wasm_shapes.proofs.Begins.{row_at, rows_at}
use Rattle.wasm_shapes.proofs.ComponentParts.{begins_scope}
use Rattle.wasm_shapes.proofs.Depth.{SoFar, at_here, at_none, at_ref, at_scope, at_vec, begins_vec, none_count, none_stuck, so_far_end}
use Rattle.wasm_read_component.specs.declared.type_rows.Scope.{Scope}
use Rattle.wasm_read_component.specs.declared.type_rows.Scope.TheVariants as scope
use Rattle.wasm_read.specs.Reading.{Standing}
use Rattle.wasm_read_component.specs.Scoped.{ReadsAt, ScopedStanding}
use Rattle.wasm_read_component.specs.TypeRows.{Behind, BehindFirst, DeclaresAt, Fresh, declaration_of}
use Rattle.wasm_read_component.proofs.TypeDepth.{NoneOfAt, at_choice, behind_at, named_reads}
use Rattle.wasm_types.specs.declared.components.ComponentFuncType.{ComponentFuncType}
use Rattle.wasm_types.specs.ComponentTrees.{component_func_type_tree, component_signature_tree, func_row}

pub declarations_sound : (k : Scope) → sound (declaration_of k) ≡ true
declarations_sound scope.Component = refl
declarations_sound scope.Instance = refl

pub declarations_closed : (k : Scope) → closed (declaration_of k) ≡ true
declarations_closed scope.Component = refl
declarations_closed scope.Instance = refl

pub scope_read : {s : Shape} {depth total n : ℕ} {bytes start rest : List ℕ} {rows : List Tree} → BeginsNumber 128 32 32 bytes total start → n ≡ 0 →
    SoFar s (depth + 1) total start rows n rest → BeginsAt (Shape.scope (Shape.vec s)) depth bytes (Tree.scope (Tree.vec (rows_then rows Tree.nil))) rest
scope_read {depth = depth} {rows = rows} number ended so_far =
    let few : opens (rows_then rows Tree.nil) + (depth + 1) ≤ 200 = so_far.shallow.most in
    let most : suc (opens (rows_then rows Tree.nil)) + depth ≤ 200 = omega arith in
    record { begins = begins_scope (begins_vec number (so_far_end ended so_far)); shallow = record { most = most } }

pub scope_stuck : {s : Shape} {depth total n m : ℕ} {bytes start rest : List ℕ} {rows : List Tree} → BeginsNumber 128 32 32 bytes total start → m ≡ suc n →
    SoFar s (depth + 1) total start rows m rest → BeginsNoneAt s (depth + 1) rest → BeginsNoneAt (Shape.scope (Shape.vec s)) depth bytes
scope_stuck number more so_far none = at_scope (at_vec number (none_stuck more so_far none))

pub scope_uncounted : {s : Shape} {depth : ℕ} {bytes : List ℕ} → BeginsNoNumber 128 32 32 bytes → BeginsNoneAt (Shape.scope (Shape.vec s)) depth bytes
scope_uncounted none = at_scope (at_none (none_count none))

-- ---- types of components

in_scope : {s : Shape} {bytes left : List ℕ} {t : Tree} → Begins (Shape.scope s) bytes (Tree.scope t) left → Begins s bytes t left
in_scope {s = s} {t = t} p = record { text = p.text; spells = record { shaped = go p.spells.shaped; spelled = p.spells.spelled }; reads = p.reads }
  where
    go : Is (Shape.scope s) (Tree.scope t) → Is s t
    go (Is.scope d) = d

-- a scope of these rows begins, at a depth
abbrev pub ScopeBegins : Shape → ℕ → List ℕ → List ℕ → Type 0
ScopeBegins s depth bytes left = (rows : Tree) × BeginsAt (Shape.scope (Shape.vec s)) depth bytes (Tree.scope (Tree.vec rows)) left

-- a reader has the rows left whose vector stands before these bytes
abbrev pub Holds : Shape → ℕ → List ℕ → List ℕ → ScopedStanding → Type 0
Holds s depth bytes left reader = (rows : Tree) → Begins (Shape.vec s) bytes (Tree.vec rows) left → DeclaresAt s depth reader (Tree.scope (Tree.vec rows))

pub scope_reads : {k b depth : ℕ} {s : Shape} {bytes xs left : List ℕ} (reader : ScopedStanding) → row_at component_type_rows k ≡ lead b (Shape.scope (Shape.vec s)) → bytes ≡ b ∷ xs →
    ScopeBegins s depth xs left → Holds s depth xs left reader → ReadsAt component_type depth (Behind k b (DeclaresAt s depth reader)) bytes left
scope_reads reader row e p held =
    named_reads (behind_at component_type_rows row e (record { tree = Tree.scope (Tree.vec p.0); is = held p.0 (in_scope p.1.begins); begins = p.1 }))

pub scope_fresh : {b depth : ℕ} {s : Shape} {bytes xs left : List ℕ} (reader : Standing) → bytes ≡ b ∷ xs → ScopeBegins s depth xs left →
    ((rows : Tree) → Begins (Shape.vec s) xs (Tree.vec rows) left → Fresh reader xs) → BehindFirst (Fresh reader) bytes
scope_fresh reader e p held = record { first = _; rest = _; is = e; says_so = held p.0 (in_scope p.1.begins) }

-- there is such a reader
pub scope_held : {s : Shape} {depth : ℕ} {bytes left : List ℕ} → ScopeBegins s depth bytes left → ((rows : Tree) → Begins (Shape.vec s) bytes (Tree.vec rows) left → ⊥) → ⊥
scope_held p none = none p.0 (in_scope p.1.begins)

pub no_type : {depth : ℕ} {bytes xs : List ℕ} (b : ℕ) → bytes ≡ b ∷ xs → NoneOfAt (rows_at component_type_rows b) depth (b ∷ xs) → BeginsNoneAt component_type depth bytes
no_type {depth = depth} b e none = at_here e (at_ref (at_choice component_type_rows b _ depth refl none))

-- the parameters and the result, behind the byte that says whether the function is asynchronous
pub func_is : (async : Bool) (f : ComponentFuncType) → f.async_ ≡ async → func_row async (component_signature_tree f) ≡ component_func_type_tree f
func_is async f e = ap (λ (b : Bool). func_row b (component_signature_tree f)) (sym e)

-- the rows behind the first
abbrev pub behind_first : Shape → Shape
behind_first (Shape.or a b) = b
behind_first s = s
