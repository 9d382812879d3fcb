use Rattle.std.proofs.Common.{◌≡◌, ◌<◌, ◌^◌, ℕ, None, All, drop, length, take}
use Rattle.std.specs.FinMap as map
use Rattle.wasm_shapes.specs.declared.Space.{Space}
use Rattle.reencode_hooks.specs.Renamings.{entries_in, space_number}
use Rattle.reencode_c.specs.Entries.{HasSpace, entry_from, key}
use Rattle.reencode_c.proofs.entries.renamer_of.Given as goal

-- what is left goes on as the whole does, and what was passed has spaces
abbrev pub invariant-entries : goal.invariant-entries
invariant-entries l =
    record {
      strict : l.renamer.strict ≡ l.fn.strict;
      tables : length l.renamer.entries ≡ 16;
      found : (p : Space) (i : ℕ) → i < 2 ^ 32 → entry_from (map.get (entries_in l.renamer p) i) (drop l.place l.entries) (key (space_number p) i) ≡ entry_from None l.entries (key (space_number p) i);
      known : All HasSpace (take l.place l.entries);
    }
