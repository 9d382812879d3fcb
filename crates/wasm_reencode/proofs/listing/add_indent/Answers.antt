use Rattle.std.proofs.Common.{ℕ, List, ◌++◌, ap, ◌∙◌, append_assoc, codes}
use Rattle.std.specs.List.{repeat}
use Rattle.wasm_reencode.proofs.Lines.{repeat_next}
use Rattle.wasm_reencode.proofs.listing.add_indent.Goals as goal

pub steps-preserved : goal.steps-preserved
steps-preserved c =
    c.in_ok-extend_from_slice.ensures.items ∙ ap (λ (z : List ℕ). z ++ codes "  ") c.steps.invariant ∙ append_assoc c.args.text.now.items (repeat c.steps.step (codes "  ")) (codes "  ")
    ∙ ap (λ (z : List ℕ). c.args.text.now.items ++ z) (repeat_next c.steps.step (codes "  "))
