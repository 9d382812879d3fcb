use Rattle.module_spaces.proofs.Ahead.{no_header}
use Rattle.reencode_c.proofs.modules.is_module.Goals as goal

pub returns-in-Err : goal.returns-in-Err
returns-in-Err c = λ e. no_header c.in-Err.field-0 c.args.bytes.now c.in-Err.ensures.err
