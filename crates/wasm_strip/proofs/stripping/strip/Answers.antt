use Rattle.std.proofs.lemmas.Result.{IfOk-weaker}
use Rattle.wasm_strip.proofs.Lengths.{tidied_stripped}
use Rattle.wasm_strip.proofs.stripping.strip.Goals as goal

pub returns-clause-ok : goal.returns-clause-ok
returns-clause-ok g c = IfOk-weaker c.tidy.result _ _ (λ out s. tidied_stripped s) c.tidy.ensures.ok
