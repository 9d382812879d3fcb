use Rattle.std.proofs.Common.{ℕ, ◌<◌, get_or, arith}
use Rattle.std.proofs.lemmas.Nat.{le_bytes_8}
use Rattle.wasm_read.proofs.OfKinds.{bytes_fit, same_bytes, raw_reads}
use Rattle.wasm_read.proofs.immediates.front_eight.Goals as goal

pub returns-in-Some-clause-some : goal.returns-in-Some-clause-some
returns-in-Some-clause-some c =
    let begins = c.in-Some.ensures.some in
    let small : (i : ℕ) → get_or c.args.bytes.now i 0 < 256 = λ i. omega (arith, c.type_inv.bytes i) in
    let fits = bytes_fit c.args.bytes.now c.in-Some.eight.now c.in-Some.rest.now (raw_reads begins) small in
    same_bytes (le_bytes_8 c.in-Some.eight.now c.from_le_bytes-bits.result c.in-Some.ensures.counted fits c.from_le_bytes-bits.ensures) begins
