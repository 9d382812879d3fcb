-- What a call that maps an item promises, whole: one record for each kind of call, which the method, its function and its body cite.
-- `i` are the meanings of the reencoder, `s` is its state before the call, and `m` the one after it.
use Rattle.std.specs.Prelude.{◌≡◌, ◌+◌, ◌++◌, ◌∷◌, [], length, ℕ, List, Result, Ok, Err, IfErr, IfOk, IsTrue}
use Rattle.wasm_shapes.specs.Tree.{Tree, visits}
use Rattle.wasm_types.specs.declared.components.CanonicalOption.{CanonicalOption}
use Rattle.wasm_types.specs.declared.components.Operands.{Operands}
use Rattle.wasm_types.specs.ComponentTrees.{operands_form}
use Rattle.wasm_read.specs.declared.types.UnpackedIndex.{UnpackedIndex}
use Rattle.wasm_read_component.specs.ComponentRows as read
use Rattle.wasm_write_component.specs.ComponentRows as write
use Rattle.wasm_write.specs.declared.fault.WriteFault.{WriteFault}
use Rattle.wasm_write.specs.Counts.{IsTooLarge, counts}
use Rattle.wasm_write.specs.Faults.{IfTooLarge}
use Rattle.wasm_write.specs.Sections.{Sections}
use Rattle.reencode_hooks.specs.declared.error.Error.{Error}
use Rattle.reencode_hooks.specs.declared.indices.ReencodeIndices.{Ghosts}
use Rattle.reencode_hooks.specs.Errors.{error_of_write}
use Rattle.reencode_hooks.specs.Run.{LeavesVisited, ask}
use Rattle.reencode_items.specs.Maps.{Maps}
use Rattle.reencode_core.specs.Clauses.{asks}
use Rattle.reencode_core.specs.Errors.{IfParse}
use Rattle.reencode_core.specs.Sections.{GivesAdded, KeepsModule}

-- ---- by hooks alone

-- An item whose indices are never refused is mapped by hooks alone.
abbrev pub HookedValue : {S E B : Type 0} → Ghosts S E → Tree → (B → Tree) → S → S → B → Type 0
HookedValue i t view s m value = Maps i.reply i.next s t view m (Ok value)

-- ---- by methods, where the reencoder keeps the defaults

-- A kind stays as it is, and nothing is asked.
abbrev pub KindClauses : {S E B : Type 0} → Ghosts S E → B → S → S → B → Type 0
KindClauses i kind s m value = IsTrue i.keeps_defaults → (value ≡ kind) × (m ≡ s)

-- An item whose indices are never refused is mapped.
abbrev pub ValueClauses : {S E B : Type 0} → Ghosts S E → Tree → (B → Tree) → S → S → B → Type 0
ValueClauses i t view s m value = IsTrue i.keeps_defaults → HookedValue i t view s m value

-- What stands behind the byte of a canonical function is mapped, and keeps its form.
abbrev pub OperandsClauses : {S E : Type 0} → Ghosts S E → Operands UnpackedIndex (List CanonicalOption) → S → S
    → Result (Operands ℕ (List CanonicalOption)) (Error E) → Type 0
OperandsClauses i o s m result =
    record {
      form : IfOk result (λ made. operands_form made ≡ operands_form o);
      default : IsTrue i.keeps_defaults → Maps i.reply i.next s (read.operands_tree o) write.operands_tree m result;
      after_error : IsTrue i.keeps_defaults → IsTrue i.sure → LeavesVisited (ask i.reply i.next) s (visits (read.operands_tree o)) m result;
    }

-- ---- rows

-- A row that was mapped is added, or its numbers or the number of rows are too large; where it was refused, that is the answer.
abbrev pub AddsRow : {E B : Type 0} → (B → Tree) → Result B (Error E) → List Tree → List Tree → Result (Unit {0}) (Error E) → Type 0
AddsRow view (Err e) old new result = (result ≡ Err e) × (new ≡ old)
AddsRow view (Ok b) old new (Ok _) = new ≡ old ++ view b ∷ []
AddsRow view (Ok b) old new (Err e) =
    (new ≡ old) × (w : WriteFault) × (e ≡ error_of_write w) × IfTooLarge w (IsTooLarge (counts (view b) ++ (length old + 1) ∷ []))

-- ---- sections

-- A section is mapped whole and added under an id; `t` is its tree, and `old` and `new` are what the component holds. A fault of
-- the bytes is no error of it.
abbrev pub AddedClauses : {S E : Type 0} → Ghosts S E → ℕ → Tree → S → Sections → S → Sections → Result (Unit {0}) (Error E) → Type 0
AddedClauses i id t s old m new result =
    record {
      kept : KeepsModule old new;
      default : IsTrue i.keeps_defaults → GivesAdded (asks i) id (s, old) t (m, new) result;
      after_error : IsTrue i.keeps_defaults → IsTrue i.sure → LeavesVisited (asks i) s (visits t) m result;
      usual : IsTrue i.keeps_defaults → IfErr result (λ e. IfParse e (λ _. ⊥));
    }
