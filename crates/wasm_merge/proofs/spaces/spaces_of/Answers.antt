use Rattle.wasm_merge.proofs.spaces.spaces_of.Goals as goal

pub returns : goal.returns
returns c = λ t a single. record { imports = c.in_ok-imported.ensures t a single; definitions = c.in_ok-defined.ensures t a single }
