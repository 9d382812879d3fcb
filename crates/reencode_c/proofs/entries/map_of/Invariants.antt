use Rattle.std.proofs.Common.{◌≡◌, ℕ, None, All, drop, take}
use Rattle.std.specs.BTreeMap.{get}
use Rattle.std.specs.Ordering.{nat_cmp}
use Rattle.reencode_c.specs.Entries.{HasSpace, entry_from}
use Rattle.reencode_c.proofs.entries.map_of.Given as goal

-- what is left goes on as the whole does, and what was passed has spaces
abbrev pub invariant-entries : goal.invariant-entries
invariant-entries l = ((k : ℕ) → entry_from (get nat_cmp l.map k) (drop l.place l.entries) k ≡ entry_from None l.entries k) × All HasSpace (take l.place l.entries)
