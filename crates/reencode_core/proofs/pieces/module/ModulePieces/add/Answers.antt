use Rattle.std.proofs.Common.{◌≡◌, ℕ, List, Result, Ok, Err, OnOk, ap, ◌∙◌}
use Rattle.reencode_core.specs.Pieces.{Grown, with_bytes}
use Rattle.reencode_core.specs.Sinks.{ModuleGrown}
use Rattle.reencode_core.proofs.kept_pieces.SectionsHeld.{added_held, added_seen, same_seen, with_more}
use Rattle.reencode_core.proofs.pieces.module.ModulePieces.add.Goals as goal

-- the bytes by another name
named : {A E : Type 0} (r : Result A E) (new old : Grown) (text bytes : List ℕ) → text ≡ bytes → OnOk r (new ≡ with_bytes old text) → OnOk r (new ≡ with_bytes old bytes)
named (Ok a) new old text bytes e h = h ∙ ap (λ (z : List ℕ). with_bytes old z) e
named (Err x) new old text bytes e h = tt

pub invariant_of-self-inside : goal.invariant_of-self-inside
invariant_of-self-inside c = (
  added_held c.self.inside.ceiling c.self.inside.pieces c.self.inside.held c.add.new.self c.add.result _ c.args.module.now.sections
      (named c.add.result _ _ _ _ c.sections_as_slice.ensures.value c.add.ensures.ok) c.add.ensures.err c.sections_as_slice.ensures.held,
  tt,
)

pub returns-clause-ok : goal.returns-clause-ok
returns-clause-ok c =
    added_seen c.self.inside.ceiling c.self.inside.pieces c.self.inside.held c.add.new.self _ _ c.args.module.now.sections (c.in-Ok.ensures.ok ∙ ap (λ (z : List ℕ). with_bytes c.self.inside.pieces z) c.sections_as_slice.ensures.value)
    c.sections_as_slice.ensures.held ∙ ap (λ (m : ModuleGrown). with_more m c.args.module.now.sections) c.self.view_is

pub returns-in-Err-clause-err : goal.returns-in-Err-clause-err
returns-in-Err-clause-err c = same_seen c.self.inside.ceiling c.self.inside.pieces c.self.inside.held c.add.new.self _ c.in-Err.ensures.err ∙ c.self.view_is
