use Rattle.std.proofs.Common.{◌≡◌, ◌++◌, map, length}
use Rattle.wasm_write.specs.Rows.{name_tree}
use Rattle.reencode_core.proofs.imports.compact_names.Given as goal

-- the names so far, and those that are left
abbrev pub invariant-names : goal.invariant-names
invariant-names l = map name_tree l.held ++ l.rest ≡ l.fn.names

abbrev pub decreases-names : goal.decreases-names
decreases-names l = length l.rest
