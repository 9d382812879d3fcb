-- What a method of `ReencodeItems` promises, whole: one record for each kind of method, which the method and its function in
-- `utils` cite. Its fields are the clauses by which other pages name them. `i` are the meanings of the reencoder, `t` is the tree of
-- the item and `view` that of the answer; `s` is the reencoder's state before the call, `m` is the one after it.
use Rattle.std.specs.Prelude.{◌≡◌, List, Result, IsTrue, IfOk, length}
use Rattle.wasm_shapes.specs.Tree.{Tree, visits}
use Rattle.wasm_read.specs.Immediates as immediates
use Rattle.wasm_read.specs.Operations.{Reading}
use Rattle.wasm_read.specs.Types as read
use Rattle.wasm_write.specs.Instructions as instructions
use Rattle.wasm_write.specs.Types as write
use Rattle.reencode_hooks.specs.declared.error.Error.{Error}
use Rattle.reencode_hooks.specs.declared.indices.ReencodeIndices.{Ghosts}
use Rattle.reencode_hooks.specs.Run.{LeavesVisited, NeverWants, ask}
use Rattle.reencode_items.specs.Maps.{LeavesOperator, Maps, MovesOn, ParsesOperator}

-- An item is mapped by hooks alone.
abbrev pub IndexClauses : {S E B : Type 0} → Ghosts S E → Tree → (B → Tree) → S → S → Result B (Error E) → Type 0
IndexClauses i t view s m result =
    record {
      default : Maps i.reply i.next s t view m result;
      sure : NeverWants i.sure result;
    }

-- An item is mapped, for which no memory is taken.
abbrev pub ItemClauses : {S E B : Type 0} → Ghosts S E → Tree → (B → Tree) → S → S → Result B (Error E) → Type 0
ItemClauses i t view s m result =
    record {
      default : IsTrue i.keeps_defaults → Maps i.reply i.next s t view m result;
      sure : IsTrue i.keeps_defaults → NeverWants i.sure result;
    }

-- An item that holds lists is mapped.
abbrev pub ListClauses : {S E B : Type 0} → Ghosts S E → Tree → (B → Tree) → S → S → Result B (Error E) → Type 0
ListClauses i t view s m result =
    record {
      default : IsTrue i.keeps_defaults → Maps i.reply i.next s t view m result;
      after_error : IsTrue i.keeps_defaults → IsTrue i.sure → LeavesVisited (ask i.reply i.next) s (visits t) m result;
    }

-- Value types are mapped.
abbrev pub ValTypesClauses : {S E : Type 0} → Ghosts S E → List read.ValType → S → S → Result (List write.ValType) (Error E) → Type 0
ValTypesClauses i types s m result =
    record {
      counted : IfOk result (λ made. length made ≡ length types);
      default : IsTrue i.keeps_defaults → Maps i.reply i.next s (read.val_types_tree types) write.val_types_tree m result;
      after_error : IsTrue i.keeps_defaults → IsTrue i.sure → LeavesVisited (ask i.reply i.next) s (visits (read.val_types_tree types)) m result;
    }

-- An immediate is mapped.
abbrev pub ImmediateClauses : {S E : Type 0} → Ghosts S E → immediates.Imm → S → S → Result instructions.Imm (Error E) → Type 0
ImmediateClauses i imm s m result =
    record {
      kind : IfOk result (λ made. instructions.imm_kind made ≡ immediates.imm_kind imm);
      default : IsTrue i.keeps_defaults → Maps i.reply i.next s (immediates.imm_tree imm) instructions.imm_tree m result;
      after_error : IsTrue i.keeps_defaults → IsTrue i.sure → LeavesVisited (ask i.reply i.next) s (visits (immediates.imm_tree imm)) m result;
    }

-- The operator at a reader's place is mapped; `behind` is where the reader stands after it.
abbrev pub OperatorClauses : {S E B : Type 0} → Ghosts S E → (B → Tree) → S → Reading → S → Reading → Result B (Error E) → Type 0
OperatorClauses i view s reader m behind result =
    record {
      taken : IfOk result (λ _. MovesOn reader behind);
      default : IsTrue i.keeps_defaults → ParsesOperator i.reply i.next s reader view m behind result;
      after_error : IsTrue i.keeps_defaults → IsTrue i.sure → LeavesOperator (ask i.reply i.next) s reader m result;
    }
