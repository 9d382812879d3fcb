use Rattle.std.proofs.Common.{ap}
use Rattle.wasm_write.proofs.HeldSubsections.{view, subsections_none, subsections_none_is}
use Rattle.wasm_write.proofs.subsections.Subsections.new.Goals as goal

pub invariant_of-result : goal.invariant_of-result
invariant_of-result g c = (subsections_none g.K.SubsectionKind.shape c.new.ensures.items, tt)

pub returns : goal.returns
returns g c = ap (view c.args.ceiling) (subsections_none_is g.K.SubsectionKind.shape g.K.SubsectionKind.rows_sound _ c.new.ensures.items)
