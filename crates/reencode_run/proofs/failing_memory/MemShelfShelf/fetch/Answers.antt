use Rattle.std.proofs.Common.{◌≡◌, true, false, inl, sym, ◌∙◌, rules, true≢false}
use Rattle.reencode_run.specs.Memory.{fails_next}
use Rattle.reencode_run.proofs.failing_memory.MemShelfShelf.fetch.Goals as goal

pub returns-then-contains-clause-fails : goal.returns-then-contains-clause-fails
returns-then-contains-clause-fails c =
    let next : true ≡ fails_next c.args.self.now.fails c.args.self.now.calls = search rules in λ e. inl (sym next)

pub returns-in-Some-clause-failing : goal.returns-in-Some-clause-failing
returns-in-Some-clause-failing c =
    let next : false ≡ fails_next c.args.self.now.fails c.args.self.now.calls = search rules in λ e. absurd (true≢false (sym e ∙ sym next))
