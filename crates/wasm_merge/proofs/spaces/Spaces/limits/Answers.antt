use Rattle.wasm_merge.proofs.There.{limits_are}
use Rattle.wasm_merge.proofs.spaces.Spaces.limits.Goals as goal

pub returns : goal.returns
returns c = λ t are s.
    rw (c.number.ensures, c.number-2.ensures, c.number-3.ensures, c.number-4.ensures, c.number-5.ensures, c.number-6.ensures, c.number-7.ensures, c.number-8.ensures)
    (limits_are c.args.self.now t are s)
