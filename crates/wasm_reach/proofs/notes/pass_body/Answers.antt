use Rattle.std.proofs.Common.{refl}
use Rattle.wasm_shapes.specs.Tree.{Tree}
use Rattle.wasm_reach.proofs.Noted.{walked}
use Rattle.wasm_reach.proofs.notes.pass_body.Goals as goal

pub returns-in-Ok-clause-read : goal.returns-in-Ok-clause-read
returns-in-Ok-clause-read c = (c.in-Ok.ensures.default refl).readable

pub returns-in-Ok-clause-noted : goal.returns-in-Ok-clause-noted
returns-in-Ok-clause-noted c t p = let q = (c.in-Ok.ensures.default refl).reading t p in walked _ _ _ (Tree.sized t) q.0 q.1
