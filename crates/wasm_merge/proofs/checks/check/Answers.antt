use Rattle.wasm_merge.proofs.checks.check.Goals as goal

pub check_by-requires-clause-spaces : goal.check_by-requires-clause-spaces
check_by-requires-clause-spaces c t r single = c.in-Some.ensures t (c.args.bytes.now, c.requires t r) single

pub returns-in-Ok-clause-ok : goal.returns-in-Ok-clause-ok
returns-in-Ok-clause-ok c =
    let m = c.in-Ok.ensures.ok in
    (m.0, m.1, c.in-Some.ensures m.0 (c.args.bytes.now, c.requires m.0 m.1.reading) m.1.ready.single)
