use Rattle.std.proofs.Common.{arith}
use Rattle.wasm_read_component.specs.Aliases as read
use Rattle.wasm_write_component.specs.Aliases as write
use Rattle.reencode_component.proofs.rows_walked.SortKept.{kind_refused, same_sort}
use Rattle.reencode_component.proofs.items.ReencodeComponentItems.component_alias.Goals as goal

pub returns-in_err-export_kind-in-CoreInstanceExport : goal.returns-in_err-export_kind-in-CoreInstanceExport
returns-in_err-export_kind-in-CoreInstanceExport g c =
    let gone = c.in_err-export_kind-in-CoreInstanceExport.ensures in
    kind_refused g.Self.ReencodeIndices (read.alias_tree c.args.alias) write.alias_tree _ _ (λ k other. gone.default k 0 other) gone.sure _ c.from_residual.ensures.1

pub returns-in_ok-export_kind-in-CoreInstanceExport : goal.returns-in_ok-export_kind-in-CoreInstanceExport
returns-in_ok-export_kind-in-CoreInstanceExport g c =
    record {
      default = λ k ceiling.
          let kind = c.in_ok-export_kind-in-CoreInstanceExport.ensures.default k 0 in
          let sort = same_sort _ _ kind in
          grind (arith, kind, sort);
      sure = λ k sure h. cc;
    }
