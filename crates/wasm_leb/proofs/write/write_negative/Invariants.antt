use Rattle.std.proofs.Common.{◌≡◌, ℕ, ◌+◌, ◌<◌, ◌++◌, length, take}
use Rattle.wasm_leb.specs.Leb.{shortest, inverted}
use Rattle.wasm_leb.proofs.Shortest.{held}
use Rattle.wasm_leb.proofs.write.write_negative.Given as goal

-- what is written, and the inverted spelling of the rest, are the number's
abbrev pub invariant-loop-rest : goal.invariant-loop-rest
invariant-loop-rest l =
    (more : ℕ) × (l.len + more ≡ 9) × (l.rest < held more 64) × (take l.len l.text ++ inverted (shortest more 64 l.rest) ≡ inverted (shortest 9 64 l.n)) × (length l.text ≡ 10)

abbrev pub decreases-loop-rest : goal.decreases-loop-rest
decreases-loop-rest l = l.rest
