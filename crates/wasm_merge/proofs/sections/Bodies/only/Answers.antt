use Rattle.std.proofs.Common.{ℕ, get_or, sym, subst}
use Rattle.wasm_merge.specs.declared.sections.Found.TheVariants as found
use Rattle.wasm_merge.specs.Merged.{bodies_of}
use Rattle.wasm_merge.specs.Finding.{IsFound}
use Rattle.wasm_merge.proofs.sections.Bodies.only.Goals as goal

pub returns : goal.returns
returns c = λ bytes t a.
    let P : ℕ → Type 0 = λ n. IsFound bytes t c.args.kind (bodies_of c.args.kind t) (get_or c.args.self.now.found n found.Missing) in
    subst P (sym c.place.ensures.is) (a c.args.kind)
