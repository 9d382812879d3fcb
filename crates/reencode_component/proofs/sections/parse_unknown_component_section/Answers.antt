use Rattle.std.proofs.Common.{Ok, refl}
use Rattle.wasm_shapes.specs.Tree.{Tree}
use Rattle.reencode_component.proofs.sections_walked.SectionAdded.{whole_added, whole_not_added}
use Rattle.reencode_component.proofs.rows_walked.PartsWalked.{Mapped}
use Rattle.reencode_component.proofs.sections.parse_unknown_component_section.Goals as goal

pub returns-in_err-section : goal.returns-in_err-section
returns-in_err-section g c =
    let raw = Tree.raw c.args.contents.now in
    let done : Mapped g.T.ReencodeIndices c.args.reencoder.now raw raw c.args.reencoder.now = record { walks = λ k n. refl } in
    let gone = c.in_err-section.ensures in
    whole_not_added g.T.ReencodeIndices 12 c.args.id (Tree.byte c.args.id) refl (λ n s. refl) raw raw _ _ _ done gone.err gone.large _ c.from_residual.ensures.1

pub returns : goal.returns
returns g c =
    let raw = Tree.raw c.args.contents.now in
    let done : Mapped g.T.ReencodeIndices c.args.reencoder.now raw raw c.args.reencoder.now = record { walks = λ k n. refl } in
    let given = c.in_ok-section.ensures in
    whole_added g.T.ReencodeIndices 12 c.args.id (Tree.byte c.args.id) refl (λ n s. refl) raw raw _ _ (Ok tt) done (given.ok, given.fits)
