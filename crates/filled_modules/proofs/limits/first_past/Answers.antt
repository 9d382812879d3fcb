use Rattle.filled_modules.proofs.BelowLimits.{accepted_is, refused_is}
use Rattle.filled_modules.proofs.limits.first_past.Goals as goal

pub returns-in-Ok-clause-ok : goal.returns-in-Ok-clause-ok
returns-in-Ok-clause-ok c = accepted_is c.args.limits c.in-Ok.ensures.accepted

pub returns-in-Err-UserError-clause-ok : goal.returns-in-Err-UserError-clause-ok
returns-in-Err-UserError-clause-ok c =
    refused_is c.args.limits c.in-Err-UserError.past (rw c.in-Err-UserError.field-0-is at c.in-Err-UserError.ensures.refused)

pub returns-in-Err-clause-err : goal.returns-in-Err-clause-err
returns-in-Err-clause-err c = c.fault_of.ensures c.args.bytes.now c.in-Err.ensures.unread
