use Rattle.std.proofs.Common.{Err, refl}
use Rattle.wasm_shapes.specs.declared.Space.TheVariants as space
use Rattle.wasm_types.specs.declared.components.Operands.TheVariants as operands
use Rattle.wasm_read.specs.Types as read
use Rattle.wasm_write.specs.Types as write
use Rattle.reencode_component.proofs.rows_walked.OperandsWalked.{hands_on_operands}
use Rattle.reencode_component.proofs.rows_walked.PartsWalked.{first_ended, index_ended, item_ended}
use Rattle.reencode_component.proofs.canonical.operands.Goals as goal

pub returns-in-Lift : goal.returns-in-Lift
returns-in-Lift g c = rw c.in-Lift.is c.lift.ensures

pub returns-in-Lower : goal.returns-in-Lower
returns-in-Lower g c = rw c.in-Lower.is c.lower.ensures

pub returns-in-TypeAndOptions : goal.returns-in-TypeAndOptions
returns-in-TypeAndOptions g c = rw c.in-TypeAndOptions.is c.type_and_options.ensures

pub returns-in-ResultAndOptions : goal.returns-in-ResultAndOptions
returns-in-ResultAndOptions g c = rw c.in-ResultAndOptions.is c.result_and_options.ensures

pub returns-in-Err : goal.returns-in-Err
returns-in-Err g c =
    rw c.in-Slot.is (hands_on_operands g.T.ReencodeIndices (operands.Slot c.in-Slot.ty c.in-Slot.slot) _ (first_ended _ (item_ended (read.val_type_tree c.in-Slot.ty) write.val_type_tree c.in-Err.ensures)) (Err _) refl)

pub returns-in-Err-type_index : goal.returns-in-Err-type_index
returns-in-Err-type_index g c =
    let gone = c.in-Err-type_index.ensures in
    rw c.in-CoreType.is (hands_on_operands g.T.ReencodeIndices (operands.CoreType c.in-CoreType.ty) _ (index_ended space.Type_ c.in-CoreType.ty gone.answer gone.sure) (Err _) refl)

pub returns-in-CoreTypeAndTable : goal.returns-in-CoreTypeAndTable
returns-in-CoreTypeAndTable g c = rw c.in-CoreTypeAndTable.is c.core_type_and_table.ensures
