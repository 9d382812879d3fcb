use Rattle.std.proofs.Common.{arith, rules}
use Rattle.reencode_hooks.proofs.Leaving.{handed}
use Rattle.reencode_items.proofs.items.ReencodeItems.tag_type.Goals as goal

pub returns-in_err-tag_kind : goal.returns-in_err-tag_kind
returns-in_err-tag_kind g c =
    record { default = rw (handed _ c.from_residual.ensures.1) (λ k ceiling other. let kind = c.in_err-tag_kind.ensures.default k 0 other in grind (arith, kind)); sure = search rules }

pub returns-in_err-type_index : goal.returns-in_err-type_index
returns-in_err-type_index g c =
    record { default = λ k ceiling. let kind = c.in_ok-tag_kind.ensures.default k 0 in grind (arith, kind); sure = search rules }

pub returns : goal.returns
returns g c =
    record { default = λ k ceiling. let kind = c.in_ok-tag_kind.ensures.default k 0 in grind (arith, kind); sure = search rules }
