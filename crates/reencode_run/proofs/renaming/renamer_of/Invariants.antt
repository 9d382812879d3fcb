use Rattle.std.proofs.Common.{◌≡◌, replicate}
use Rattle.reencode_hooks.specs.Renamings.{no_renaming}
use Rattle.serde_json.specs.View.{members_view}
use Rattle.reencode_run.specs.Renamings.{set_members}
use Rattle.reencode_run.proofs.renaming.renamer_of.Given as goal

-- what is left goes on as the whole does
abbrev pub invariant-loop-key : goal.invariant-loop-key
invariant-loop-key l = record {
  rest : set_members l.renamer (members_view l.key-iterator) ≡ set_members no_renaming (members_view l.members.entries);
  counts : l.renamer.counts ≡ replicate 19 0;
}
