use Rattle.wasm_types.specs.ComponentTrees.{canonical_option_tree}
use Rattle.reencode_hooks.specs.Run.{ask}
use Rattle.reencode_items.proofs.Loops.{ItemsDone}
use Rattle.reencode_component.proofs.canonical.canonical_options.Given as goal

-- the options below the index are mapped
abbrev pub invariant-loop-option : goal.invariant-loop-option
invariant-loop-option g l = let i = g.T.ReencodeIndices in
    ItemsDone (ask i.reply i.next) i.keeps_defaults canonical_option_tree canonical_option_tree l.initial.reencoder l.fn.options l.option-index l.reencoder l.mapped
