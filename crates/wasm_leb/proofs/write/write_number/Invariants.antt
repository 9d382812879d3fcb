use Rattle.std.proofs.Common.{◌≡◌, ℕ, ◌+◌, ◌<◌, ◌++◌, length, take}
use Rattle.wasm_leb.specs.Leb.{shortest}
use Rattle.wasm_leb.proofs.Shortest.{held}
use Rattle.wasm_leb.proofs.write.write_number.Given as goal

-- what is written, and the shortest spelling of the rest, are the number's
abbrev pub invariant-loop-rest : goal.invariant-loop-rest
invariant-loop-rest l =
    (more : ℕ) × (l.len + more ≡ 9) × (l.rest < held more l.limit) × (take l.len l.text ++ shortest more l.limit l.rest ≡ shortest 9 l.limit l.number) × (length l.text ≡ 10)

abbrev pub decreases-loop-rest : goal.decreases-loop-rest
decreases-loop-rest l = l.rest
