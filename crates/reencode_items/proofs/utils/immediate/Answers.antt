use Rattle.std.proofs.Common.{ap, refl, rules}
use Rattle.wasm_read.specs.Immediates as read
use Rattle.reencode_hooks.specs.Run.{ask}
use Rattle.reencode_items.proofs.Casts.{cast_accepted, from_stops, to_stops}
use Rattle.reencode_items.proofs.Clauses.{immediate_stopped, item_stops}
use Rattle.reencode_items.proofs.Immediates.{catches_tree, handlers_tree, index_tree, labels_accept, labels_tree, of_core, part_accepted, part_visited, same_count}
use Rattle.reencode_items.proofs.Loops.{items_accept, items_accepted, items_begin, items_counted, items_more}
use Rattle.reencode_items.proofs.utils.immediate.Goals as goal

-- ---- block types

pub returns-in_err-block_type-in-Block : goal.returns-in_err-block_type-in-Block
returns-in_err-block_type-in-Block g c = immediate_stopped g.T.ReencodeIndices _ _ c.in_err-block_type-in-Block.ensures c.args.imm (ap read.imm_tree c.in-Block.is) _ c.from_residual.ensures.1

-- ---- heap types

pub returns-in_err-heap_type-in-Heap : goal.returns-in_err-heap_type-in-Heap
returns-in_err-heap_type-in-Heap g c = immediate_stopped g.T.ReencodeIndices _ _ c.in_err-heap_type-in-Heap.ensures c.args.imm (ap read.imm_tree c.in-Heap.is) _ c.from_residual-in_err-heap_type-in-Heap.ensures.1

-- ---- casts

pub returns-in_err-from-in-Cast : goal.returns-in_err-from-in-Cast
returns-in_err-from-in-Cast g c =
    let stops = from_stops g.T.ReencodeIndices c.in-Cast.label c.in-Cast.from c.in-Cast.to _ c.in_err-from-in-Cast.ensures in
    immediate_stopped g.T.ReencodeIndices _ _ stops c.args.imm (ap read.imm_tree c.in-Cast.is) _ c.from_residual-in_err-from-in-Cast.ensures.1

pub returns-in_err-to-in-Cast : goal.returns-in_err-to-in-Cast
returns-in_err-to-in-Cast g c =
    let stops = to_stops g.T.ReencodeIndices c.in-Cast.label c.in-Cast.from c.in-Cast.to _ _ _ c.in_ok-from-in-Cast.ensures.default c.in_err-to-in-Cast.ensures in
    immediate_stopped g.T.ReencodeIndices _ _ stops c.args.imm (ap read.imm_tree c.in-Cast.is) _ c.from_residual-in_err-to-in-Cast.ensures.1

pub returns-in_ok-to-in-Cast : goal.returns-in_ok-to-in-Cast
returns-in_ok-to-in-Cast g c = let i = g.T.ReencodeIndices in
    record {
      kind = search rules;
      default = λ k. part_accepted (ask i.reply i.next) _ c.args.imm (ap read.imm_tree c.in-Cast.is)
          (cast_accepted (ask i.reply i.next) _ c.in-Cast.label _ _ _ _ (c.in_ok-from-in-Cast.ensures.default k) (c.in_ok-to-in-Cast.ensures.default k));
      after_error = search rules;
    }

-- ---- labels

pub returns-in-Labels : goal.returns-in-Labels
returns-in-Labels g c = let i = g.T.ReencodeIndices in
    record { kind = search rules; default = λ k. part_accepted (ask i.reply i.next) _ c.args.imm (labels_tree _ _ c.in-Labels.is c.requires) (labels_accept (ask i.reply i.next) _ c.in-Labels.targets c.in-Labels.default); after_error = search rules }

-- ---- indices

pub returns-in_err-core_index-in-Index : goal.returns-in_err-core_index-in-Index
returns-in_err-core_index-in-Index g c = let e = c.in_err-core_index-in-Index.ensures in
    immediate_stopped g.T.ReencodeIndices _ _ (record { default = λ k. e.default (of_core _ _ c.in-Index.is c.requires); sure = λ k. e.sure }) c.args.imm (index_tree _ _ c.in-Index.is c.requires) _ c.from_residual-in_err-core_index-in-Index.ensures.1

pub returns-in_ok-core_index-in-Index : goal.returns-in_ok-core_index-in-Index
returns-in_ok-core_index-in-Index g c = let i = g.T.ReencodeIndices in
    record { kind = search rules; default = λ k. part_accepted (ask i.reply i.next) _ c.args.imm (index_tree _ _ c.in-Index.is c.requires) (c.in_ok-core_index-in-Index.ensures.default (of_core _ _ c.in-Index.is c.requires)); after_error = search rules }

-- ---- memory accesses

pub returns-in_err-mem_arg-in-Mem : goal.returns-in_err-mem_arg-in-Mem
returns-in_err-mem_arg-in-Mem g c = immediate_stopped g.T.ReencodeIndices _ _ c.in_err-mem_arg-in-Mem.ensures c.args.imm (ap read.imm_tree c.in-Mem.is) _ c.from_residual-in_err-mem_arg-in-Mem.ensures.1

pub returns-in_ok-mem_arg-in-Mem : goal.returns-in_ok-mem_arg-in-Mem
returns-in_ok-mem_arg-in-Mem g c = let i = g.T.ReencodeIndices in
    record { kind = search rules; default = λ k. part_accepted (ask i.reply i.next) _ c.args.imm (ap read.imm_tree c.in-Mem.is) (c.in_ok-mem_arg-in-Mem.ensures.default k); after_error = search rules }

-- ---- what is caught

pub loop-arg-init : goal.loop-arg-init
loop-arg-init g c = rw c.in_ok-mapped-in-Catches.ensures (items_begin _ _)

pub loop-arg-preserved : goal.loop-arg-preserved
loop-arg-preserved g c = items_more _ c.loop-arg.invariant refl c.loop-arg-test.true c.in_ok-arg-in-Catches.ensures.default c.in_ok-push-in-Catches.ensures.ok

pub returns-in_err-arg-in-Catches : goal.returns-in_err-arg-in-Catches
returns-in_err-arg-in-Catches g c =
    let stops = item_stops g.T.ReencodeIndices _ c.loop-arg.invariant refl c.loop-arg-test.true c.in_err-arg-in-Catches.ensures in
    immediate_stopped g.T.ReencodeIndices _ _ stops c.args.imm (catches_tree _ c.in-Catches.is c.requires c.as_slice-arg-items.ensures) _ c.from_residual-in_err-arg-in-Catches.ensures.1

pub returns-in_err-push-in-Catches : goal.returns-in_err-push-in-Catches
returns-in_err-push-in-Catches g c =
    let i = g.T.ReencodeIndices in
    record { kind = search rules; default = search rules; after_error = λ k sure. part_visited (ask i.reply i.next) _ c.args.imm (catches_tree _ c.in-Catches.is c.requires c.as_slice-arg-items.ensures) _ (items_accepted _ c.loop-arg.invariant refl c.loop-arg-test.true k (c.in_ok-arg-in-Catches.ensures.default k 0)) }

pub returns-after-loop-arg : goal.returns-after-loop-arg
returns-after-loop-arg g c =
    let i = g.T.ReencodeIndices in
    record {
      kind = rw (c.in-Catches.is, ← c.as_slice-arg-items.ensures) (same_count _ (items_counted c.loop-arg.invariant refl c.loop-arg-test.false c.loop-arg.auto.arg-index-end));
      default = λ k. part_accepted (ask i.reply i.next) _ c.args.imm (catches_tree _ c.in-Catches.is c.requires c.as_slice-arg-items.ensures) (λ ceiling. items_accept ceiling c.loop-arg.invariant refl c.loop-arg-test.false k);
      after_error = search rules;
    }

-- ---- what is handled

pub loop-on-init : goal.loop-on-init
loop-on-init g c = rw c.in_ok-mapped-in-Handlers.ensures (items_begin _ _)

pub loop-on-preserved : goal.loop-on-preserved
loop-on-preserved g c = items_more _ c.loop-on.invariant refl c.loop-on-test.true c.in_ok-on-in-Handlers.ensures.default c.in_ok-push-in-Handlers.ensures.ok

pub returns-in_err-on-in-Handlers : goal.returns-in_err-on-in-Handlers
returns-in_err-on-in-Handlers g c =
    let stops = item_stops g.T.ReencodeIndices _ c.loop-on.invariant refl c.loop-on-test.true c.in_err-on-in-Handlers.ensures in
    immediate_stopped g.T.ReencodeIndices _ _ stops c.args.imm (handlers_tree _ c.in-Handlers.is c.requires c.as_slice-on-items.ensures) _ c.from_residual-in_err-on-in-Handlers.ensures.1

pub returns-in_err-push-in-Handlers : goal.returns-in_err-push-in-Handlers
returns-in_err-push-in-Handlers g c =
    let i = g.T.ReencodeIndices in
    record { kind = search rules; default = search rules; after_error = λ k sure. part_visited (ask i.reply i.next) _ c.args.imm (handlers_tree _ c.in-Handlers.is c.requires c.as_slice-on-items.ensures) _ (items_accepted _ c.loop-on.invariant refl c.loop-on-test.true k (c.in_ok-on-in-Handlers.ensures.default k 0)) }

pub returns-after-loop-on : goal.returns-after-loop-on
returns-after-loop-on g c =
    let i = g.T.ReencodeIndices in
    record {
      kind = rw (c.in-Handlers.is, ← c.as_slice-on-items.ensures) (same_count _ (items_counted c.loop-on.invariant refl c.loop-on-test.false c.loop-on.auto.on-index-end));
      default = λ k. part_accepted (ask i.reply i.next) _ c.args.imm (handlers_tree _ c.in-Handlers.is c.requires c.as_slice-on-items.ensures) (λ ceiling. items_accept ceiling c.loop-on.invariant refl c.loop-on-test.false k);
      after_error = search rules;
    }
