-- The walk over a cast, by those over its reference types: it holds what these point to, and in its flags which may be null.
use Rattle.std.proofs.Common.{◌≡◌, ℕ, refl}
use Rattle.std.specs.Prelude.{IsTrue}
use Rattle.wasm_shapes.specs.declared.Visit.{Visit}
use Rattle.wasm_types.specs.declared.types.Imm.TheVariants as imm
use Rattle.wasm_read.specs.Immediates as read
use Rattle.wasm_read.specs.Types as read_types
use Rattle.wasm_write.specs.Instructions as write
use Rattle.wasm_write.specs.Types as write_types
use Rattle.reencode_hooks.specs.declared.error.Error.{Error}
use Rattle.reencode_hooks.specs.declared.indices.ReencodeIndices.{Ghosts}
use Rattle.reencode_hooks.specs.Run.{Step, accepted, ask}
use Rattle.reencode_hooks.specs.Walk.{walk}
use Rattle.reencode_items.proofs.Clauses.{Stops}
use Rattle.reencode_items.proofs.Parts.{heap_accepted, heap_refused}

-- both were accepted
pub cast_accepted : {S E : Type 0} (asked : S → Visit → Step S (Error E) ℕ) (s : S) {m n : S} (label : ℕ) (from to : read_types.RefType) (first second : write_types.RefType) →
    ((c : ℕ) → walk asked c s (read_types.ref_type_tree from) ≡ accepted (write_types.ref_type_tree first) m) →
    ((c : ℕ) → walk asked c m (read_types.ref_type_tree to) ≡ accepted (write_types.ref_type_tree second) n) →
    (c : ℕ) → walk asked c s (read.imm_tree (imm.Cast label from to)) ≡ accepted (write.imm_tree (imm.Cast label first second)) n
cast_accepted asked s {m = m} label from to first second walked behind c =
    let one = heap_accepted asked c s from.nullable first.nullable from.heap_type first.heap_type (walked c) in
    let other = heap_accepted asked c m to.nullable second.nullable to.heap_type second.heap_type (behind c) in
    rw (one.1, other.1, one.0, other.0) refl

module _ {S E : Type 0} (i : Ghosts S E) (label : ℕ) (from to : read_types.RefType) where
  -- the first was refused
  pub from_stops : (s : S) {m : S} {e : Error E} → Stops write_types.RefType i (read_types.ref_type_tree from) s m e →
      Stops write_types.RefType i (read.imm_tree (imm.Cast label from to)) s m e
  from_stops s gone = record {
    default = λ k c other. rw (heap_refused (ask i.reply i.next) c s from.nullable from.heap_type (gone.default k c other)) refl;
    sure = gone.sure;
  }

  -- the second was
  pub to_stops : (s0 s : S) {m : S} {e : Error E} (first : write_types.RefType) →
      (IsTrue i.keeps_defaults → (c : ℕ) → walk (ask i.reply i.next) c s0 (read_types.ref_type_tree from) ≡ accepted (write_types.ref_type_tree first) s) →
      Stops write_types.RefType i (read_types.ref_type_tree to) s m e → Stops write_types.RefType i (read.imm_tree (imm.Cast label from to)) s0 m e
  to_stops s0 s first walked gone = record {
    default = λ k c other.
        let one = heap_accepted (ask i.reply i.next) c s0 from.nullable first.nullable from.heap_type first.heap_type (walked k c) in
        rw one.1 (rw (heap_refused (ask i.reply i.next) c s to.nullable to.heap_type (gone.default k c other)) refl);
    sure = gone.sure;
  }
