use Rattle.std.proofs.Common.{◌≡◌, []}
use Rattle.serde_json.specs.View.{members_view}
use Rattle.reencode_run.specs.Renamings.{entries_from}
use Rattle.reencode_run.proofs.renaming.entries_of.Given as goal

-- what is left goes on as the whole does
abbrev pub invariant-loop-key : goal.invariant-loop-key
invariant-loop-key l =
    entries_from l.entries.entries (members_view l.key-iterator) ≡ entries_from [] (members_view l.members.entries)
