use Rattle.std.proofs.Common.{Ok, refl}
use Rattle.wasm_shapes.specs.Tree.{Tree}
use Rattle.wasm_read_component.specs.ComponentRows.{start_tree}
use Rattle.reencode_component.proofs.sections_walked.SectionAdded.{made_tree, start_refused, whole_added, whole_not_added, whole_refused}
use Rattle.reencode_component.proofs.rows_walked.PartsWalked.{list_ended, list_mapped}
use Rattle.reencode_component.proofs.sections.parse_component_start_section.Goals as goal

pub returns-in_err-start : goal.returns-in_err-start
returns-in_err-start g c =
    let i = g.T.ReencodeIndices in
    let f = c.args.func in
    let gone = list_ended {i = i} (start_tree f) made_tree c.in_err-start.ensures in
    whole_refused i 9 9 (Tree.fixed 9) refl (λ n s. refl) (start_tree f) _ _ gone (start_refused i f.func_index f.arguments f.results _ gone) _ c.from_residual.ensures.1

pub returns-in_err-section : goal.returns-in_err-section
returns-in_err-section g c =
    let i = g.T.ReencodeIndices in
    let f = c.args.func in
    let done = list_mapped {i = i} {t = start_tree f} made_tree c.in_ok-start.start c.in_ok-start.ensures in
    let gone = c.in_err-section.ensures in
    whole_not_added i 9 9 (Tree.fixed 9) refl (λ n s. refl) (start_tree f) (made_tree c.in_ok-start.start) _ _ _ done gone.err gone.large _ c.from_residual-in_err-section.ensures.1

pub returns : goal.returns
returns g c =
    let i = g.T.ReencodeIndices in
    let f = c.args.func in
    let done = list_mapped {i = i} {t = start_tree f} made_tree c.in_ok-start.start c.in_ok-start.ensures in
    let given = c.in_ok-section.ensures in
    whole_added i 9 9 (Tree.fixed 9) refl (λ n s. refl) (start_tree f) (made_tree c.in_ok-start.start) _ _ (Ok tt) done (given.ok, given.fits)
