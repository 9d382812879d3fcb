use Rattle.std.proofs.Common.{length}
use Rattle.wasm_write.specs.Counts.{counts}
use Rattle.wasm_write.specs.Types.{entity_tree}
use Rattle.wasm_write.proofs.Items.{large_second}
use Rattle.wasm_write.proofs.externals.write_import.Goals as goal

pub returns-in-Err-write_name-clause-large : goal.returns-in-Err-write_name-clause-large
returns-in-Err-write_name-clause-large c =
    let import = c.args.import.now in
    large_second c.in-Err-write_name.fault (length import.module.now) (length import.name.now) (counts (entity_tree import.ty)) c.in-Err-write_name.ensures.large
