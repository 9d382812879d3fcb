use Rattle.std.proofs.Common.{◌<◌, ◌+◌, Ok, Err, refl, rules, arith}
use Rattle.wasm_shapes.specs.Component as shapes
use Rattle.wasm_shapes.specs.Drawn.{IsItem}
use Rattle.wasm_shapes.specs.Tree.{Tree}
use Rattle.wasm_shapes.specs.Types.{led}
use Rattle.wasm_types.specs.ComponentTrees.{component_import_tree, extern_name_tree, maybe_function, resource_tree, type_ref_tree}
use Rattle.wasm_read.specs.Types as read
use Rattle.wasm_write.specs.Types as write
use Rattle.wasm_read_component.specs.Aliases as read_alias
use Rattle.wasm_read_component.specs.TypeRows as read_rows
use Rattle.wasm_write_component.specs.Aliases as write_alias
use Rattle.wasm_write_component.specs.declared.declarations.ComponentTypeRow.TheVariants as made_type
use Rattle.wasm_write_component.specs.declared.declarations.ComponentTypeDeclaration.TheVariants as made_component
use Rattle.wasm_write_component.specs.declared.declarations.InstanceTypeDeclaration.TheVariants as made_instance
use Rattle.wasm_write_component.specs.TypeRows as made
use Rattle.reencode_component.proofs.rows_walked.EachShallowRow.{shallow_added, shallow_begun, shallow_ended, shallow_refused, shallow_stuck}
use Rattle.reencode_component.proofs.types_walked.ScopeCalls.{shallow_closed, shallow_stopped}
use Rattle.reencode_component.proofs.types_walked.TypesBehind.{core_behind, core_behind_ended, shallow_behind, shallow_behind_ended, type_behind, type_behind_ended}
use Rattle.reencode_component.proofs.types_walked.TypesStanding.{component_row, instance_row}
use Rattle.reencode_component.proofs.types_walked.TypeWeights.{component_falls, component_weight, instance_falls, instance_weight, scope_weight}
use Rattle.reencode_component.proofs.rows_walked.PartsWalked.{Mapped, first_ended, hands_on, item_ended, led_ended, row_ended, second_ended}
use Rattle.reencode_component.proofs.component_types.+types.Goals as goal

pub parse_component_type-returns-in_err-declarations-in-Component : goal.parse_component_type-returns-in_err-declarations-in-Component
parse_component_type-returns-in_err-declarations-in-Component g t c =
    rw c.in-Component.is (shallow_behind_ended g.T.ReencodeIndices shapes.component_declaration c.in-Component.declarations 3 0x41 _ _ (λ z. z) made.scope_tree made.component_type_tree _ c.in_err-declarations-in-Component.ensures _ c.from_residual-in_err-declarations-in-Component.ensures.1)

pub parse_component_type-returns-in_ok-declarations-in-Component : goal.parse_component_type-returns-in_ok-declarations-in-Component
parse_component_type-returns-in_ok-declarations-in-Component g t c =
    rw c.in-Component.is (shallow_behind g.T.ReencodeIndices shapes.component_declaration c.in-Component.declarations 3 0x41 _ _ (λ z. z) made.scope_tree made.component_type_tree c.in_ok-declarations-in-Component.declarations (made_type.Component c.in_ok-declarations-in-Component.declarations) refl c.in_ok-declarations-in-Component.ensures)

pub parse_component_type-returns-in_err-declarations-in-Instance : goal.parse_component_type-returns-in_err-declarations-in-Instance
parse_component_type-returns-in_err-declarations-in-Instance g t c =
    rw c.in-Instance.is (shallow_behind_ended g.T.ReencodeIndices shapes.instance_declaration c.in-Instance.declarations 4 0x42 _ _ (λ z. z) made.scope_tree made.component_type_tree _ c.in_err-declarations-in-Instance.ensures _ c.from_residual-in_err-declarations-in-Instance.ensures.1)

pub parse_component_type-returns-in_ok-declarations-in-Instance : goal.parse_component_type-returns-in_ok-declarations-in-Instance
parse_component_type-returns-in_ok-declarations-in-Instance g t c =
    rw c.in-Instance.is (shallow_behind g.T.ReencodeIndices shapes.instance_declaration c.in-Instance.declarations 4 0x42 _ _ (λ z. z) made.scope_tree made.component_type_tree c.in_ok-declarations-in-Instance.declarations (made_type.Instance c.in_ok-declarations-in-Instance.declarations) refl c.in_ok-declarations-in-Instance.ensures)

pub parse_component_type-returns-in_err-rep-in-Resource : goal.parse_component_type-returns-in_err-rep-in-Resource
parse_component_type-returns-in_err-rep-in-Resource g t c =
    let i = g.T.ReencodeIndices in
    let rep = c.in-Resource.rep in
    let dtor = c.in-Resource.dtor in
    let gone = item_ended {i = i} (read.val_type_tree rep) write.val_type_tree c.in_err-rep-in-Resource.ensures in
    rw c.in-Resource.is (hands_on {i = i} (resource_tree (read.val_type_tree rep) dtor) made.component_type_tree _ (row_ended 5 (led_ended 0x3f (first_ended (maybe_function dtor) gone))) _ c.from_residual-in_err-rep-in-Resource.ensures.1)

pub parse_component_type-returns-in_err-dtor-in-Resource : goal.parse_component_type-returns-in_err-dtor-in-Resource
parse_component_type-returns-in_err-dtor-in-Resource g t c =
    let i = g.T.ReencodeIndices in
    let rep = c.in-Resource.rep in
    let dtor = c.in-Resource.dtor in
    let first : Mapped i c.args.reencoder.now (read.val_type_tree rep) (write.val_type_tree c.in_ok-rep-in-Resource.rep) _ = record { walks = c.in_ok-rep-in-Resource.ensures.default } in
    let gone = item_ended {i = i} (maybe_function dtor) maybe_function c.in_err-dtor-in-Resource.ensures in
    rw c.in-Resource.is (hands_on {i = i} (resource_tree (read.val_type_tree rep) dtor) made.component_type_tree _ (row_ended 5 (led_ended 0x3f (second_ended first gone))) _ c.from_residual-in_err-dtor-in-Resource.ensures.1)

pub component_type-rows-init : goal.component_type-rows-init
component_type-rows-init g t c =
    shallow_begun g.T.ReencodeIndices IsItem.component_declaration refl refl

pub component_type-rows-preserved : goal.component_type-rows-preserved
component_type-rows-preserved g t c =
    let i = g.T.ReencodeIndices in
    let row = rw c.in-Some.is at c.in_ok-row.ensures.row in
    shallow_added i c.rows.invariant row (component_row i c.rows.reencoder c.parse_component_type_declaration.new.reencoder c.rows.rows c.in-Some.row row (Ok tt) c.in_ok-parse_component_type_declaration.ensures)

pub component_type-returns-in_err-row : goal.component_type-returns-in_err-row
component_type-returns-in_err-row g t c =
    let i = g.T.ReencodeIndices in
    shallow_stopped i shapes.component_declaration c.args.ty _ c.in_ok-push_depth.ensures.answer c.new-made.ensures (omega arith) _ (shallow_stuck i c.rows.invariant _ c.in_err-row.ensures.err (Err _) refl) _ c.from_residual-in_err-row.ensures.1

pub component_type-returns-in_err-parse_component_type_declaration : goal.component_type-returns-in_err-parse_component_type_declaration
component_type-returns-in_err-parse_component_type_declaration g t c =
    let i = g.T.ReencodeIndices in
    let row = rw c.in-Some.is at c.in_ok-row.ensures.row in
    shallow_stopped i shapes.component_declaration c.args.ty _ c.in_ok-push_depth.ensures.answer c.new-made.ensures (omega arith) _ (shallow_refused i c.rows.invariant row _ (component_row i c.rows.reencoder c.parse_component_type_declaration.new.reencoder c.rows.rows c.in-Some.row row (Err _) c.in_err-parse_component_type_declaration.ensures) (Err _) refl) _ c.from_residual-in_err-parse_component_type_declaration.ensures.1

pub component_type-returns : goal.component_type-returns
component_type-returns g t c =
    let i = g.T.ReencodeIndices in
    let ended = rw c.in_default.is at c.in_ok-row.ensures.ended in
    shallow_closed i shapes.component_declaration c.args.ty _ c.in_ok-push_depth.ensures.answer c.new-made.ensures (shallow_ended i c.rows.invariant ended.0) c.pop_depth.ensures.answer

pub component_instance_type-rows-init : goal.component_instance_type-rows-init
component_instance_type-rows-init g t c =
    shallow_begun g.T.ReencodeIndices IsItem.instance_declaration refl refl

pub component_instance_type-rows-preserved : goal.component_instance_type-rows-preserved
component_instance_type-rows-preserved g t c =
    let i = g.T.ReencodeIndices in
    let row = rw c.in-Some.is at c.in_ok-row.ensures.row in
    shallow_added i c.rows.invariant row (instance_row i c.rows.reencoder c.parse_component_instance_type_declaration.new.reencoder c.rows.rows c.in-Some.row row (Ok tt) c.in_ok-parse_component_instance_type_declaration.ensures)

pub component_instance_type-returns-in_err-row : goal.component_instance_type-returns-in_err-row
component_instance_type-returns-in_err-row g t c =
    let i = g.T.ReencodeIndices in
    shallow_stopped i shapes.instance_declaration c.args.ty _ c.in_ok-push_depth.ensures.answer c.new-made.ensures (omega arith) _ (shallow_stuck i c.rows.invariant _ c.in_err-row.ensures.err (Err _) refl) _ c.from_residual-in_err-row.ensures.1

pub component_instance_type-returns-in_err-parse_component_instance_type_declaration : goal.component_instance_type-returns-in_err-parse_component_instance_type_declaration
component_instance_type-returns-in_err-parse_component_instance_type_declaration g t c =
    let i = g.T.ReencodeIndices in
    let row = rw c.in-Some.is at c.in_ok-row.ensures.row in
    shallow_stopped i shapes.instance_declaration c.args.ty _ c.in_ok-push_depth.ensures.answer c.new-made.ensures (omega arith) _ (shallow_refused i c.rows.invariant row _ (instance_row i c.rows.reencoder c.parse_component_instance_type_declaration.new.reencoder c.rows.rows c.in-Some.row row (Err _) c.in_err-parse_component_instance_type_declaration.ensures) (Err _) refl) _ c.from_residual-in_err-parse_component_instance_type_declaration.ensures.1

pub component_instance_type-returns : goal.component_instance_type-returns
component_instance_type-returns g t c =
    let i = g.T.ReencodeIndices in
    let ended = rw c.in_default.is at c.in_ok-row.ensures.ended in
    shallow_closed i shapes.instance_declaration c.args.ty _ c.in_ok-push_depth.ensures.answer c.new-made.ensures (shallow_ended i c.rows.invariant ended.0) c.pop_depth.ensures.answer

pub component_declaration-returns-in_err-ty-in-CoreType : goal.component_declaration-returns-in_err-ty-in-CoreType
component_declaration-returns-in_err-ty-in-CoreType g t c =
    rw c.in-CoreType.is (core_behind_ended g.T.ReencodeIndices 0 0x00 _ _ made.core_type_tree made.component_declaration_tree c.in-CoreType.ty _ c.in_err-ty-in-CoreType.ensures _ c.from_residual.ensures.1)

pub component_declaration-returns-in_ok-ty-in-CoreType : goal.component_declaration-returns-in_ok-ty-in-CoreType
component_declaration-returns-in_ok-ty-in-CoreType g t c =
    rw c.in-CoreType.is (core_behind g.T.ReencodeIndices 0 0x00 _ _ made.core_type_tree made.component_declaration_tree c.in-CoreType.ty c.in_ok-ty-in-CoreType.ty (made_component.CoreType c.in_ok-ty-in-CoreType.ty) refl c.in_ok-ty-in-CoreType.ensures)

pub component_declaration-returns-in_err-ty-in-Type_ : goal.component_declaration-returns-in_err-ty-in-Type_
component_declaration-returns-in_err-ty-in-Type_ g t c =
    rw c.in-Type_.is (type_behind_ended g.T.ReencodeIndices 1 0x01 _ _ made.component_type_tree made.component_declaration_tree c.in-Type_.ty _ c.in_err-ty-in-Type_.ensures _ c.from_residual-in_err-ty-in-Type_.ensures.1)

pub component_declaration-returns-in_ok-ty-in-Type_ : goal.component_declaration-returns-in_ok-ty-in-Type_
component_declaration-returns-in_ok-ty-in-Type_ g t c =
    rw c.in-Type_.is (type_behind g.T.ReencodeIndices 1 0x01 _ _ made.component_type_tree made.component_declaration_tree c.in-Type_.ty c.in_ok-ty-in-Type_.ty (made_component.Type_ c.in_ok-ty-in-Type_.ty) refl c.in_ok-ty-in-Type_.ensures)

pub component_declaration-returns-in_err-alias-in-Alias : goal.component_declaration-returns-in_err-alias-in-Alias
component_declaration-returns-in_err-alias-in-Alias g t c =
    let i = g.T.ReencodeIndices in
    let alias = c.in-Alias.alias in
    let gone = item_ended {i = i} (read_alias.alias_tree alias) write_alias.alias_tree c.in_err-alias-in-Alias.ensures in
    rw c.in-Alias.is (hands_on {i = i} (Tree.row 2 (led 0x02 (read_alias.alias_tree alias))) made.component_declaration_tree _ (row_ended 2 (led_ended 0x02 gone)) _ c.from_residual-in_err-alias-in-Alias.ensures.1)

pub component_declaration-returns-in_err-ty-in-Export : goal.component_declaration-returns-in_err-ty-in-Export
component_declaration-returns-in_err-ty-in-Export g t c =
    let i = g.T.ReencodeIndices in
    let name = c.in-Export.name in
    let ty = c.in-Export.ty in
    let gone = item_ended {i = i} (type_ref_tree ty) type_ref_tree c.in_err-ty-in-Export.ensures in
    let named : Mapped i c.args.reencoder.now (extern_name_tree name.now) (extern_name_tree name.now) c.args.reencoder.now = record { walks = λ k n. refl } in
    rw c.in-Export.is (hands_on {i = i} (Tree.row 4 (led 0x04 (read_rows.extern_tree name.now (type_ref_tree ty)))) made.component_declaration_tree _ (row_ended 4 (led_ended 0x04 (second_ended named gone))) _ c.from_residual-in_err-ty-in-Export.ensures.1)

pub component_declaration-returns-in_err-import-in-Import : goal.component_declaration-returns-in_err-import-in-Import
component_declaration-returns-in_err-import-in-Import g t c =
    let i = g.T.ReencodeIndices in
    let row = c.in-Import.import in
    let gone = item_ended {i = i} (component_import_tree row) component_import_tree c.in_err-import-in-Import.ensures in
    rw c.in-Import.is (hands_on {i = i} (Tree.row 3 (led 0x03 (component_import_tree row))) made.component_declaration_tree _ (row_ended 3 (led_ended 0x03 gone)) _ c.from_residual-in_err-import-in-Import.ensures.1)

pub instance_declaration-returns-in_err-ty-in-CoreType : goal.instance_declaration-returns-in_err-ty-in-CoreType
instance_declaration-returns-in_err-ty-in-CoreType g t c =
    rw c.in-CoreType.is (core_behind_ended g.T.ReencodeIndices 0 0x00 _ _ made.core_type_tree made.instance_declaration_tree c.in-CoreType.ty _ c.in_err-ty-in-CoreType.ensures _ c.from_residual.ensures.1)

pub instance_declaration-returns-in_ok-ty-in-CoreType : goal.instance_declaration-returns-in_ok-ty-in-CoreType
instance_declaration-returns-in_ok-ty-in-CoreType g t c =
    rw c.in-CoreType.is (core_behind g.T.ReencodeIndices 0 0x00 _ _ made.core_type_tree made.instance_declaration_tree c.in-CoreType.ty c.in_ok-ty-in-CoreType.ty (made_instance.CoreType c.in_ok-ty-in-CoreType.ty) refl c.in_ok-ty-in-CoreType.ensures)

pub instance_declaration-returns-in_err-ty-in-Type_ : goal.instance_declaration-returns-in_err-ty-in-Type_
instance_declaration-returns-in_err-ty-in-Type_ g t c =
    rw c.in-Type_.is (type_behind_ended g.T.ReencodeIndices 1 0x01 _ _ made.component_type_tree made.instance_declaration_tree c.in-Type_.ty _ c.in_err-ty-in-Type_.ensures _ c.from_residual-in_err-ty-in-Type_.ensures.1)

pub instance_declaration-returns-in_ok-ty-in-Type_ : goal.instance_declaration-returns-in_ok-ty-in-Type_
instance_declaration-returns-in_ok-ty-in-Type_ g t c =
    rw c.in-Type_.is (type_behind g.T.ReencodeIndices 1 0x01 _ _ made.component_type_tree made.instance_declaration_tree c.in-Type_.ty c.in_ok-ty-in-Type_.ty (made_instance.Type_ c.in_ok-ty-in-Type_.ty) refl c.in_ok-ty-in-Type_.ensures)

pub instance_declaration-returns-in_err-alias-in-Alias : goal.instance_declaration-returns-in_err-alias-in-Alias
instance_declaration-returns-in_err-alias-in-Alias g t c =
    let i = g.T.ReencodeIndices in
    let alias = c.in-Alias.alias in
    let gone = item_ended {i = i} (read_alias.alias_tree alias) write_alias.alias_tree c.in_err-alias-in-Alias.ensures in
    rw c.in-Alias.is (hands_on {i = i} (Tree.row 2 (led 0x02 (read_alias.alias_tree alias))) made.instance_declaration_tree _ (row_ended 2 (led_ended 0x02 gone)) _ c.from_residual-in_err-alias-in-Alias.ensures.1)

pub instance_declaration-returns-in_err-ty-in-Export : goal.instance_declaration-returns-in_err-ty-in-Export
instance_declaration-returns-in_err-ty-in-Export g t c =
    let i = g.T.ReencodeIndices in
    let name = c.in-Export.name in
    let ty = c.in-Export.ty in
    let gone = item_ended {i = i} (type_ref_tree ty) type_ref_tree c.in_err-ty-in-Export.ensures in
    let named : Mapped i c.args.reencoder.now (extern_name_tree name.now) (extern_name_tree name.now) c.args.reencoder.now = record { walks = λ k n. refl } in
    rw c.in-Export.is (hands_on {i = i} (Tree.row 3 (led 0x04 (read_rows.extern_tree name.now (type_ref_tree ty)))) made.instance_declaration_tree _ (row_ended 3 (led_ended 0x04 (second_ended named gone))) _ c.from_residual-in_err-ty-in-Export.ensures.1)

pub component_type-parse_component_type_declaration-requires : goal.component_type-parse_component_type_declaration-requires
component_type-parse_component_type_declaration-requires g t c =
    let row = rw c.in-Some.is at c.in_ok-row.ensures.row in
    let lighter : component_weight c.in-Some.row + 3 < scope_weight c.args.ty = component_falls _ c.args.ty c.rows.invariant.depth c.in-Some.row row in
    search rules

pub component_instance_type-parse_component_instance_type_declaration-requires : goal.component_instance_type-parse_component_instance_type_declaration-requires
component_instance_type-parse_component_instance_type_declaration-requires g t c =
    let row = rw c.in-Some.is at c.in_ok-row.ensures.row in
    let lighter : instance_weight c.in-Some.row + 3 < scope_weight c.args.ty = instance_falls _ c.args.ty c.rows.invariant.depth c.in-Some.row row in
    search rules
