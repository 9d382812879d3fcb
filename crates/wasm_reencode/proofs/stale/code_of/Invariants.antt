use Rattle.std.proofs.Common.{drop, map}
use Rattle.wasm_reencode.proofs.CodeBodies.{CodeSoFar}
use Rattle.wasm_reencode.proofs.stale.code_of.Given as goal

abbrev pub invariant-sections : goal.invariant-sections
invariant-sections l = CodeSoFar l.sections (drop l.section-index l.sections) (map (λ body. body.now) l.code.items)
