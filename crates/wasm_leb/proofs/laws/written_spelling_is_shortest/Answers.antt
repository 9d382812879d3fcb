use Rattle.wasm_leb.proofs.Spellings.{unsigned_32_is_shortest, unsigned_64_is_shortest, index_is_shortest, signed_32_is_shortest, signed_33_is_shortest, signed_64_is_shortest}
use Rattle.wasm_leb.proofs.laws.written_spelling_is_shortest.Goals as goal

pub returns-clause-unsigned_32 : goal.returns-clause-unsigned_32
returns-clause-unsigned_32 c = unsigned_32_is_shortest

pub returns-clause-unsigned_64 : goal.returns-clause-unsigned_64
returns-clause-unsigned_64 c = unsigned_64_is_shortest

pub returns-clause-index : goal.returns-clause-index
returns-clause-index c = index_is_shortest

pub returns-clause-signed_32 : goal.returns-clause-signed_32
returns-clause-signed_32 c = signed_32_is_shortest

pub returns-clause-signed_33 : goal.returns-clause-signed_33
returns-clause-signed_33 c = signed_33_is_shortest

pub returns-clause-signed_64 : goal.returns-clause-signed_64
returns-clause-signed_64 c = signed_64_is_shortest
