use Rattle.wasm_merge.proofs.spaces.rows_of.Goals as goal

pub returns : goal.returns
returns c = λ t a single. (c.rows-count.ensures a.0 t a.1 c.requires.rows (single c.args.kind c.requires.kind)).counted
