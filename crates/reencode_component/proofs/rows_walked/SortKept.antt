-- The sort of what a core instance exports, as the method `export_kind` maps it.
use Rattle.std.proofs.Common.{◌≡◌, ◌≢◌, ◌∙◌, ℕ, Result, Err, IsErrAnd, IsTrue, ap, refl, subst, sym}
use Rattle.wasm_shapes.specs.Tree.{Tree}
use Rattle.wasm_read.specs.declared.types.ExternalKind.{ExternalKind}
use Rattle.wasm_read.specs.declared.types.ExternalKind.TheVariants as external
use Rattle.wasm_read.specs.Types as read
use Rattle.wasm_write.specs.declared.types.ExportKind.{ExportKind}
use Rattle.wasm_write.specs.declared.types.ExportKind.TheVariants as export
use Rattle.wasm_write.specs.Rows as write
use Rattle.wasm_read_component.specs.Aliases as read_alias
use Rattle.wasm_write_component.specs.Aliases as written_alias
use Rattle.reencode_hooks.specs.declared.error.Error.{Error}
use Rattle.reencode_hooks.specs.declared.error.Error.TheVariants.{NoMemory}
use Rattle.reencode_hooks.specs.declared.indices.ReencodeIndices.{Ghosts}
use Rattle.reencode_hooks.specs.Run.{NeverWants, Step, accepted, refused}
use Rattle.reencode_items.proofs.Leaving.{never_wants}
use Rattle.reencode_core.proofs.after_error.StateLeft.{never_refused}
use Rattle.reencode_core.proofs.rows_walked.OneRow.{answers}
use Rattle.reencode_items.specs.Clauses.{ItemClauses}

abbrev row_number : Tree → ℕ
row_number (Tree.row k t) = k
row_number _ = 0

-- the byte of a sort is the number of the row of its items
read_sort : (kind : ExternalKind) (i : ℕ) → read_alias.core_sort_byte kind ≡ row_number (read.item_tree kind i)
read_sort external.Func i = refl
read_sort external.FuncExact i = refl
read_sort external.Table i = refl
read_sort external.Memory i = refl
read_sort external.Global i = refl
read_sort external.Tag i = refl

written_sort : (kind : ExportKind) (i : ℕ) → written_alias.core_sort_byte kind ≡ row_number (write.item_tree kind i)
written_sort export.Func i = refl
written_sort export.Table i = refl
written_sort export.Memory i = refl
written_sort export.Global i = refl
written_sort export.Tag i = refl

-- a kind with which each index is the same item is of the same sort
pub sort_kept : (kind : ExternalKind) (made : ExportKind) (i : ℕ) → read.item_tree kind i ≡ write.item_tree made i →
    read_alias.core_sort_byte kind ≡ written_alias.core_sort_byte made
sort_kept kind made i e = read_sort kind i ∙ ap row_number e ∙ sym (written_sort made i)

module _ {S E : Type 0} {s : S} where
  -- the kind that a call gave
  pub same_sort : {n : S} (kind : ExternalKind) (made : ExportKind) → ◌≡◌ {A = Step S (Error E) Tree} (accepted (read.item_tree kind 0) s) (accepted (write.item_tree made 0) n) →
      read_alias.core_sort_byte kind ≡ written_alias.core_sort_byte made
  same_sort kind made k = let same_item : read.item_tree kind 0 ≡ write.item_tree made 0 = cc in sort_kept kind made 0 same_item

  -- a kind is never refused
  pub kind_refused : {m : S} (i : Ghosts S E) {B : Type 0} (t : Tree) (view : B → Tree) (u : Tree) (e : Error E) →
      (IsTrue i.keeps_defaults → e ≢ NoMemory → ◌≡◌ {A = Step S (Error E) Tree} (accepted u s) (refused e m)) →
      (IsTrue i.keeps_defaults → NeverWants {A = ExportKind} i.sure (Err e)) → (r : Result B (Error E)) → IsErrAnd r (λ y. y ≡ e) → ItemClauses i t view s m r
  kind_refused {m = m} i {B = B} t view u e gives never r q =
      let P : Result B (Error E) → Type 0 = λ z. ItemClauses i t view s m z in
      subst P (answers r q) (record {
        default = λ k c other. absurd (never_refused (gives k other));
        sure = λ k sure h. absurd (never_refused (gives k (never_wants e (never k) sure)));
      })
