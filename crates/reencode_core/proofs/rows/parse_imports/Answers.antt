use Rattle.std.proofs.Common.{List, Ok, Err, refl, map, rules}
use Rattle.std.proofs.Math.Seq.{take-length}
use Rattle.wasm_shapes.specs.Tree.{visits}
use Rattle.wasm_shapes.specs.Types.{vector_tree, compact_items_of, compact_names_of}
use Rattle.wasm_read.specs.declared.types.Imports.TheVariants as imported
use Rattle.wasm_read.specs.Types as read
use Rattle.wasm_write.specs.Rows.{compact_tree, name_tree}
use Rattle.wasm_write.specs.Types as write
use Rattle.wasm_write.specs.declared.types.EntityType.{EntityType}
use Rattle.reencode_items.proofs.Leaving.{accepted_visited, first_visited, sure_visited, visited_left}
use Rattle.reencode_core.proofs.rows_walked.CompactRows.{items_map, names_map, names_unmapped}
use Rattle.reencode_core.proofs.rows_walked.OneRow.{import_view, import_maps, row_mapped, row_unmapped, row_not_added, sure_left}
use Rattle.reencode_core.proofs.rows.parse_imports.Goals as goal

pub returns-in_err-ty-in-Single : goal.returns-in_err-ty-in-Single
returns-in_err-ty-in-Single g c =
    let i = g.T.ReencodeIndices in
    let row = c.in-Single.import in
    let tree = read.import_tree (imported.Single row) in
    let maps = import_maps i _ _ row (Err _) c.in_err-ty-in-Single.ensures.default in
    rw c.in-Single.is (row_unmapped i tree (import_view row) _ _ _ maps (sure_left i tree (import_view row) _ _ _ maps c.in_err-ty-in-Single.ensures.sure) refl _
    c.from_residual.ensures.1)

pub returns-in_err-imports-in-Single : goal.returns-in_err-imports-in-Single
returns-in_err-imports-in-Single g c =
    let i = g.T.ReencodeIndices in
    let row = c.in-Single.import in
    let tree = read.import_tree (imported.Single row) in
    let gone = c.in_err-imports-in-Single.ensures in
    rw c.in-Single.is (row_not_added i tree (import_view row) _ _ c.in_ok-ty-in-Single.ty _ (import_maps i _ _ row (Ok c.in_ok-ty-in-Single.ty) c.in_ok-ty-in-Single.ensures.default) gone.err gone.large _
    c.from_residual-in_err-imports-in-Single.ensures.1)

pub returns-in_ok-imports-in-Single : goal.returns-in_ok-imports-in-Single
returns-in_ok-imports-in-Single g c =
    let i = g.T.ReencodeIndices in
    let row = c.in-Single.import in
    let ty = c.in_ok-ty-in-Single.ty in
    rw c.in-Single.is (row_mapped i (read.import_tree (imported.Single row)) (import_view row) _ _ ty (import_maps i _ _ row (Ok ty) c.in_ok-ty-in-Single.ensures.default) c.in_ok-imports-in-Single.ensures.ok)

pub returns-in_err-items-in-Compact1 : goal.returns-in_err-items-in-Compact1
returns-in_err-items-in-Compact1 g c =
    let i = g.T.ReencodeIndices in
    let from = c.in-Compact1.module.now in
    let items = c.in-Compact1.items in
    let view = λ (made : List _). compact_items_of from (map compact_tree made) in
    let gone = c.in_err-items-in-Compact1.ensures in
    rw c.in-Compact1.is (row_unmapped i (compact_items_of from items) view _ _ _ (items_map i _ _ from items (map compact_tree) (Err _) gone.default) gone.after_error refl _
    c.from_residual-in_err-items-in-Compact1.ensures.1)

pub returns-in_err-imports-in-Compact1 : goal.returns-in_err-imports-in-Compact1
returns-in_err-imports-in-Compact1 g c =
    let i = g.T.ReencodeIndices in
    let from = c.in-Compact1.module.now in
    let items = c.in-Compact1.items in
    let made = c.in_ok-items-in-Compact1.items in
    let view = λ (made : List _). compact_items_of from (map compact_tree made) in
    let gone = c.in_err-imports-in-Compact1.ensures in
    rw c.in-Compact1.is (row_not_added i (compact_items_of from items) view _ _ made _ (items_map i _ _ from items (map compact_tree) (Ok made) c.in_ok-items-in-Compact1.ensures.default) gone.err gone.large _
    c.from_residual-in_err-imports-in-Compact1.ensures.1)

pub returns-in_ok-imports-in-Compact1 : goal.returns-in_ok-imports-in-Compact1
returns-in_ok-imports-in-Compact1 g c =
    let i = g.T.ReencodeIndices in
    let from = c.in-Compact1.module.now in
    let items = c.in-Compact1.items in
    let made = c.in_ok-items-in-Compact1.items in
    let view = λ (made : List _). compact_items_of from (map compact_tree made) in
    rw c.in-Compact1.is (row_mapped i (compact_items_of from items) view _ _ made (items_map i _ _ from items (map compact_tree) (Ok made) c.in_ok-items-in-Compact1.ensures.default) c.in_ok-imports-in-Compact1.ensures.ok)

pub returns-in_err-ty-in-Compact2 : goal.returns-in_err-ty-in-Compact2
returns-in_err-ty-in-Compact2 g c =
    let i = g.T.ReencodeIndices in
    let from = c.in-Compact2.module.now in
    let ty = c.in-Compact2.ty in
    let names = c.in-Compact2.names in
    let view = λ (made : EntityType). compact_names_of from (write.entity_tree made) names in
    let gone = c.in_err-ty-in-Compact2.ensures in
    rw c.in-Compact2.is (row_unmapped i (compact_names_of from (read.entity_tree ty) names) view _ _ _ (names_unmapped i _ _ from ty names view _ gone.default)
    (λ k sure. first_visited (visits (vector_tree names)) (sure_visited i.reply i.next (read.entity_tree ty) write.entity_tree _ (gone.default k) (gone.sure k) sure)) refl _
    c.from_residual-in_err-ty-in-Compact2.ensures.1)

pub returns-in_err-names-in-Compact2 : goal.returns-in_err-names-in-Compact2
returns-in_err-names-in-Compact2 g c =
    let ty = c.in-Compact2.ty in
    let asked = c.in_ok-ty-in-Compact2.ensures.default in
    record {
      kept = take-length _;
      default = search rules;
      after_error = rw c.in-Compact2.is (λ k sure. visited_left _ (first_visited (visits (vector_tree c.in-Compact2.names)) (accepted_visited 0 (read.entity_tree ty) (asked k 0))));
    }

pub returns-in_err-imports-in-Compact2 : goal.returns-in_err-imports-in-Compact2
returns-in_err-imports-in-Compact2 g c =
    let i = g.T.ReencodeIndices in
    let from = c.in-Compact2.module.now in
    let held = c.in_ok-names-in-Compact2.names in
    let ty = c.in_ok-ty-in-Compact2.ty in
    let tree = compact_names_of from (read.entity_tree c.in-Compact2.ty) c.in-Compact2.names in
    let view = λ (made : EntityType). compact_names_of from (write.entity_tree made) (map name_tree held) in
    let gone = c.in_err-imports-in-Compact2.ensures in
    rw c.in-Compact2.is (row_not_added i tree view _ _ ty _ (names_map i _ _ from c.in-Compact2.ty c.in-Compact2.names held c.in_ok-names-in-Compact2.ensures ty c.in_ok-ty-in-Compact2.ensures.default) gone.err gone.large _
    c.from_residual-in_err-imports-in-Compact2.ensures.1)

pub returns-in_ok-imports-in-Compact2 : goal.returns-in_ok-imports-in-Compact2
returns-in_ok-imports-in-Compact2 g c =
    let i = g.T.ReencodeIndices in
    let from = c.in-Compact2.module.now in
    let held = c.in_ok-names-in-Compact2.names in
    let ty = c.in_ok-ty-in-Compact2.ty in
    let tree = compact_names_of from (read.entity_tree c.in-Compact2.ty) c.in-Compact2.names in
    let view = λ (made : EntityType). compact_names_of from (write.entity_tree made) (map name_tree held) in
    rw c.in-Compact2.is (row_mapped i tree view _ _ ty (names_map i _ _ from c.in-Compact2.ty c.in-Compact2.names held c.in_ok-names-in-Compact2.ensures ty c.in_ok-ty-in-Compact2.ensures.default) c.in_ok-imports-in-Compact2.ensures.ok)
