use Rattle.reencode_items.proofs.Passing.{class_at, s32_kept, s32_next}
use Rattle.reencode_items.proofs.direct.passing.pass_class.Goals as goal

pub returns-in-S32-clause-kept : goal.returns-in-S32-clause-kept
returns-in-S32-clause-kept g c = s32_kept _ _ c.requires.head (class_at c.args.opcode c.in-S32.is c.requires.class) c.pass_s32.result c.pass_s32.ensures.kept

pub returns-in-S32-clause-next : goal.returns-in-S32-clause-next
returns-in-S32-clause-next g c = s32_next _ _ c.requires.head (class_at c.args.opcode c.in-S32.is c.requires.class) c.pass_s32.result c.pass_s32.new.next c.pass_s32.ensures.next
