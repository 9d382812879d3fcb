use Rattle.std.proofs.Common.{◌≡◌, Bool, true, false, ◌||◌, refl, ◌∙◌}
use Rattle.wasm_strip.specs.Choices.{is_stale}
use Rattle.wasm_reencode.proofs.stale.is_stale.Goals as goal

only_stale : (b : Bool) → ((b || false) || false) ≡ b
only_stale true = refl
only_stale false = refl

pub returns : goal.returns
returns c = c.removes_by_name.ensures ∙ only_stale (is_stale c.args.name.now)
