use Rattle.std.proofs.Common.{◌≤◌, ◌+◌}
use Rattle.module_names.specs.Names.{stays}
use Rattle.module_names.proofs.KeptEntries.{KeptAhead}
use Rattle.module_names.proofs.entries.kept_entries.Given as goal

-- the entries so far that stay
abbrev pub invariant-entries : goal.invariant-entries
invariant-entries l = record {
  few : l.count + l.left ≤ l.all;
  kept : KeptAhead l.indirect (stays l.stay.imports l.stay.marks.now) l.body l.left l.rest l.count l.out.items;
}

abbrev pub decreases-entries : goal.decreases-entries
decreases-entries l = l.left
