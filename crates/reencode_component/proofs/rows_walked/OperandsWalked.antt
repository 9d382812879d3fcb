-- What stands behind the byte of a canonical function, as a call gives it that mapped its parts.
use Rattle.std.proofs.Common.{◌≡◌, ℕ, List, Result, Ok, IsErrAnd}
use Rattle.wasm_types.specs.declared.components.CanonicalOption.{CanonicalOption}
use Rattle.wasm_types.specs.declared.components.Operands.{Operands}
use Rattle.wasm_types.specs.ComponentTrees.{operands_form}
use Rattle.wasm_read.specs.declared.types.UnpackedIndex.{UnpackedIndex}
use Rattle.wasm_read_component.specs.ComponentRows as read
use Rattle.wasm_write_component.specs.ComponentRows as write
use Rattle.reencode_hooks.specs.declared.error.Error.{Error}
use Rattle.reencode_hooks.specs.declared.indices.ReencodeIndices.{Ghosts}
use Rattle.reencode_hooks.proofs.Leaving.{handed}
use Rattle.reencode_component.specs.Clauses.{OperandsClauses}
use Rattle.reencode_component.proofs.rows_walked.PartsWalked.{Ended, Mapped}

module _ {S E : Type 0} (i : Ghosts S E) {s m : S} (o : Operands UnpackedIndex (List CanonicalOption)) where
  pub gives_operands : (made : Operands ℕ (List CanonicalOption)) → operands_form made ≡ operands_form o → Mapped i s (read.operands_tree o) (write.operands_tree made) m → OperandsClauses i o s m (Ok made)
  gives_operands made same done = record { form = same; default = done.walks; after_error = λ k sure. tt }

  pub hands_on_operands : (e : Error E) → Ended i s (read.operands_tree o) e m → (r : Result (Operands ℕ (List CanonicalOption)) (Error E)) → IsErrAnd r (λ y. y ≡ e) → OperandsClauses i o s m r
  hands_on_operands e gone r q = rw (handed r q) (record { form = tt; default = gone.stops; after_error = gone.left })
