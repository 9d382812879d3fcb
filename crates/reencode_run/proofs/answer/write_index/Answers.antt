use Rattle.std.proofs.Common.{◌≡◌, ◌++◌, List, ℕ, codes, decimal, subst}
use Rattle.wasm_shapes.specs.Names.{space_name}
use Rattle.reencode_run.specs.Outside.{WhereTold, followed, TookFront}
use Rattle.reencode_run.proofs.OutsideLemmas.{TookFront-longer, TookFront-two, WhereTold-two}
use Rattle.reencode_run.proofs.answer.write_index.Goals as goal

pub returns-in-Ok-clause-ok : goal.returns-in-Ok-clause-ok
returns-in-Ok-clause-ok g c =
    let name : c.as_bytes.result.now ≡ space_name c.args.space = cc in
    let front = subst (λ (t : List ℕ). WhereTold (g.D.Sink.held c.write_both.new.out) (followed (g.D.Sink.held c.args.err.now) (c.args.text.now ++ t))) name c.in-Ok.ensures.ok in
    WhereTold-two _ _ _ _ (c.args.text.now ++ space_name c.args.space) (codes " ") (decimal c.args.index) front c.write_number.ensures.ok

pub returns-in-Ok-clause-front : goal.returns-in-Ok-clause-front
returns-in-Ok-clause-front g c =
    let name : c.as_bytes.result.now ≡ space_name c.args.space = cc in
    let front = subst (λ (t : List ℕ). WhereTold (g.D.Sink.held c.write_both.new.out) (followed (g.D.Sink.held c.args.err.now) (c.args.text.now ++ t))) name c.in-Ok.ensures.ok in
    TookFront-two _ _ _ _ (c.args.text.now ++ space_name c.args.space) (codes " ") (decimal c.args.index) front c.write_number.ensures.front

pub returns-in-Err-clause-front : goal.returns-in-Err-clause-front
returns-in-Err-clause-front g c =
    let name : c.as_bytes.result.now ≡ space_name c.args.space = cc in
    let front = subst (λ (t : List ℕ). TookFront (g.D.Sink.held c.args.err.now) (g.D.Sink.held c.write_both.new.out) (c.args.text.now ++ t)) name c.in-Err.ensures.front in
    TookFront-longer _ _ ((c.args.text.now ++ space_name c.args.space) ++ codes " ") (decimal c.args.index)
    (TookFront-longer _ _ (c.args.text.now ++ space_name c.args.space) (codes " ") front)
