-- A row that a call mapped, as it is added.
use Rattle.std.proofs.Common.{List, Result, Ok, Err, refl, sym, subst}
use Rattle.wasm_shapes.specs.Tree.{Tree}
use Rattle.reencode_hooks.specs.declared.error.Error.{Error}
use Rattle.reencode_hooks.specs.declared.indices.ReencodeIndices.{Ghosts}
use Rattle.reencode_items.specs.Clauses.{ItemClauses, ListClauses}
use Rattle.reencode_core.specs.Clauses.{RowClauses}
use Rattle.reencode_core.proofs.rows_walked.OneRow.{row_mapped, row_not_added, row_unmapped, sure_left}
use Rattle.reencode_component.specs.Clauses.{AddsRow}

module _ {S E B : Type 0} (i : Ghosts S E) (t : Tree) (view : B → Tree) (s m : S) (old new : List Tree) where
  -- one that may hold lists
  pub list_added : (mapped : Result B (Error E)) → ListClauses i t view s m mapped → (r : Result (Unit {0}) (Error E)) → AddsRow view mapped old new r → RowClauses i t s old m new r
  list_added (Err e) given r adds =
      let P : Result (Unit {0}) (Error E) → Type 0 = λ z. RowClauses i t s old m new z in
      subst P (sym adds.0) (row_unmapped i t view s m e given.default given.after_error adds.1 (Err e) refl)
  list_added (Ok b) given (Ok u) adds = row_mapped i t view s m b given.default adds
  list_added (Ok b) given (Err e) adds =
      let P : Error E → Type 0 = λ z. RowClauses i t s old m new (Err z) in
      subst P (sym adds.2) (row_not_added i t view s m b adds.1 given.default adds.0 adds.3 (Err _) refl)

  -- one for which no memory is taken
  pub item_added : (mapped : Result B (Error E)) → ItemClauses i t view s m mapped → (r : Result (Unit {0}) (Error E)) → AddsRow view mapped old new r → RowClauses i t s old m new r
  item_added (Err e) given r adds = list_added (Err e) (record { default = given.default; after_error = sure_left i t view s m e given.default given.sure }) r adds
  item_added (Ok b) given r adds = list_added (Ok b) (record { default = given.default; after_error = λ k sure. tt }) r adds
