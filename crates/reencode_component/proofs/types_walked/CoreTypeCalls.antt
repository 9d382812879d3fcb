-- Core types as rows: by the tree that one stands for, and what a refusal leaves.
use Rattle.std.proofs.Common.{◌≡◌, ◌++◌, ℕ, List, [], ◌∷◌, Result, Ok, Err, refl, sym, ap, ◌∙◌, append_assoc, subst}
use Rattle.wasm_shapes.specs.declared.Visit.{Visit}
use Rattle.wasm_shapes.specs.declared.Visit.TheVariants.{Push, Pop}
use Rattle.wasm_shapes.specs.Depth.{Shallow}
use Rattle.wasm_shapes.specs.Tree.{Tree, visits}
use Rattle.wasm_shapes.specs.Types.{led}
use Rattle.wasm_shapes.specs.Component.{module_declaration}
use Rattle.wasm_types.specs.ComponentTrees.{core_group_tree}
use Rattle.wasm_read.specs.Types.{group_tree}
use Rattle.wasm_read_component.specs.declared.declarations.CoreType as read
use Rattle.wasm_read_component.specs.declared.declarations.CoreType.TheVariants as core
use Rattle.wasm_read_component.specs.TypeRows.{CoreTypeStands}
use Rattle.wasm_write_component.specs.declared.declarations.CoreType as made
use Rattle.wasm_write_component.specs.TypeRows.{core_type_tree}
use Rattle.reencode_hooks.specs.declared.error.Error.{Error}
use Rattle.reencode_hooks.specs.declared.error.Error.TheVariants.{CanonicalizedHeapTypeReference, InvalidConstExpr, InvalidCodeSectionSize, UnexpectedNonCoreModuleSection, UnexpectedNonComponentSection, UnsupportedCoreTypeInComponent, ParseError, UserError, TooLarge, NoMemory}
use Rattle.reencode_hooks.specs.declared.indices.ReencodeIndices.{Ghosts}
use Rattle.reencode_hooks.specs.Run.{Step, Visited, accepted, and_then, refused, run, state_after}
use Rattle.reencode_items.specs.Clauses.{ListClauses}
use Rattle.reencode_core.specs.Clauses.{RowClauses, asks}
use Rattle.reencode_core.specs.Leaves.{Ended, Leaves, Text, rows_in}
use Rattle.reencode_core.specs.Rows.{Asks, RowsFault, StopsAtRow}
use Rattle.reencode_component.specs.Clauses.{AddsRow}
use Rattle.reencode_component.specs.TypeClauses.{CoreTypeClauses, CoreTypeWithin, Opened, ScopeBy}
use Rattle.reencode_component.proofs.rows_walked.RowAdded.{list_added}

-- ---- what an error leaves of a scope

-- the state after the visits that were made
ended_state : {S E A : Type 0} (e : Error E) (step : Step S (Error E) A) (m : S) → Ended e step m → state_after step ≡ m
ended_state (UserError x) step m h = rw h refl
ended_state NoMemory step m h = h
ended_state (ParseError x) step m h = rw h.1 refl
ended_state (TooLarge x) step m h = rw h.1 refl
ended_state CanonicalizedHeapTypeReference step m h = rw h.1 refl
ended_state InvalidConstExpr step m h = rw h.1 refl
ended_state InvalidCodeSectionSize step m h = rw h.1 refl
ended_state UnexpectedNonCoreModuleSection step m h = rw h.1 refl
ended_state UnexpectedNonComponentSection step m h = rw h.1 refl
ended_state UnsupportedCoreTypeInComponent step m h = rw h.1 refl

pub more_state : {S E : Type 0} (n : ℕ) (step : Step S (Error E) (List ℕ)) → state_after (and_then step (λ ns k. accepted (n ∷ ns) k)) ≡ state_after step
more_state n (accepted ns k) = refl
more_state n (refused e k) = refl

-- the scope was opened, and a front part of what is in it was asked
pub open_visited : {S E : Type 0} (asked : Asks S E) {s m : S} (text : Text) (e : Error E) (rows : Tree) → text.reads rows → Opened asked s (λ n. Leaves asked text n e m) →
    Visited asked s (visits (Tree.scope (Tree.vec rows))) m
open_visited asked {s = s} {m = m} text e rows reads opened =
    let inside = opened.inside in
    let f = inside.reading rows reads in record {
      front = Push ∷ inside.made;
      rest = f.rest ++ Pop ∷ [];
      parts = ap (λ (z : List Visit). Push ∷ z) (ap (λ (z : List Visit). z ++ Pop ∷ []) f.parts ∙ append_assoc inside.made f.rest (Pop ∷ []));
      state = rw opened.push (more_state 0 (run asked opened.at inside.made) ∙ ended_state e (run asked opened.at inside.made) m inside.ended.by);
    }

-- a scope that stands for a tree, where what it stands in asks nothing more
pub scope_listed : {S E A : Type 0} (i : Ghosts S E) (within : Tree → Tree) (view : A → Tree) (inside : (t : Tree) → visits (within t) ≡ visits t) (s m : S) (text : Text)
    (faulty : ℕ → S → List Tree → ℕ → Type 0) (stops : ℕ → S → List Tree → Error E → Type 0) (rows : Tree) → text.reads rows → (r : Result A (Error E)) →
    ScopeBy i text faulty stops within view s m r → ListClauses i (within (Tree.scope (Tree.vec rows))) view s m r
scope_listed {A = A} i within view inside s m text faulty stops rows reads (Ok a) given = record { default = λ k. given.default k rows reads; after_error = λ k sure. tt }
scope_listed {A = A} i within view inside s m text faulty stops rows reads (Err e) given = record {
  default = λ k. given.default k rows reads;
  after_error = λ k sure.
      let P : List Visit → Type 0 = λ z. Visited (asks i) s z m in
      subst P (sym (inside (Tree.scope (Tree.vec rows)))) (open_visited (asks i) text e rows reads (given.after_error k (λ h. sure)));
}

-- ---- a type that stands for a tree

module _ {S E A : Type 0} (i : Ghosts S E) (within : Tree → Tree) (view : A → Tree) (inside : (t : Tree) → visits (within t) ≡ visits t) (s m : S) where
  pub core_listed : (ty : read.CoreType) (t : Tree) → CoreTypeStands ty t → (r : Result A (Error E)) → CoreTypeWithin i within view ty s m r → ListClauses i (within t) view s m r
  core_listed (core.Rec group) t is r given =
      let P : Tree → Type 0 = λ z. ListClauses i (within z) view s m r in
      let same : t ≡ core_group_tree (group_tree group) = is in
      subst P (sym same) given
  core_listed (core.Module reader) t stands r given =
      let scope = stands.stands in
      let P : Tree → Type 0 = λ z. ListClauses i (within z) view s m r in
      let same : t ≡ Tree.row 0 (led 0x50 (Tree.scope (Tree.vec scope.rows))) = stands.is ∙ ap (λ (z : Tree). Tree.row 0 (led 0x50 z)) scope.is in
      subst P (sym same)
      (scope_listed i (λ z. within (Tree.row 0 (led 0x50 z))) view (λ z. inside (Tree.row 0 (led 0x50 z))) s m (rows_in module_declaration reader)
      (λ c n made at. RowsFault (asks i) c module_declaration reader (n, []) (m, made) at) (λ c n made e. StopsAtRow (asks i) c module_declaration reader (n, []) e (m, made))
      scope.rows scope.left r given)

-- it is added
pub core_row_added : {S E : Type 0} (i : Ghosts S E) (s m : S) (ty : read.CoreType) (mapped : Result made.CoreType (Error E)) → CoreTypeClauses i ty s m mapped → (old new : List Tree) (r : Result (Unit {0}) (Error E)) →
    AddsRow core_type_tree mapped old new r → (depth : ℕ) (t : Tree) → CoreTypeStands ty t → Shallow depth t → RowClauses i t s old m new r
core_row_added i s m ty mapped given old new r adds depth t stands low =
    list_added i t core_type_tree s m old new mapped (core_listed i (λ z. z) core_type_tree (λ z. refl) s m ty t stands mapped given) r adds
