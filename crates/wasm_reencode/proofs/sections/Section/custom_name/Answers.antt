use Rattle.wasm_reencode.proofs.Places.{no_name}
use Rattle.wasm_reencode.proofs.sections.Section.custom_name.Goals as goal

pub returns-in-None-clause-none : goal.returns-in-None-clause-none
returns-in-None-clause-none c = no_name c.args.self.now (c.in_ok-body.body, c.in_ok-body.field-0-1) (cc) c.in-None.ensures.none
