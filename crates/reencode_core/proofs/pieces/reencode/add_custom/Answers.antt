use Rattle.std.proofs.Common.{ap, ◌∙◌, ℕ, refl, rules}
use Rattle.wasm_write.specs.Types.{custom_section_tree}
use Rattle.reencode_core.specs.Sinks.{ModuleGrown}
use Rattle.reencode_core.specs.Clauses.{asks}
use Rattle.reencode_core.proofs.after_error.NoneOrAllVisited.{left_custom, left_none}
use Rattle.reencode_core.specs.NameFormats.{core_custom}
use Rattle.reencode_core.proofs.names_mapped.FormatLaws.{core_laws}
use Rattle.reencode_core.proofs.sections_walked.CustomSection.{other_added}
use Rattle.reencode_core.proofs.kept_pieces.FreshSink.{added_moved, fresh_module}
use Rattle.reencode_core.proofs.pieces.reencode.add_custom.Goals as goal

pub returns-in-Ok-add-clause-section : goal.returns-in-Ok-add-clause-section
returns-in-Ok-add-clause-section g c =
    let fresh = c.in-Ok.ensures ∙ ap (λ (n : ℕ). fresh_module n) c.ceiling.ensures in
    let given = rw fresh at c.in-Ok-parse_custom_section.ensures.default in
    let e = ap ModuleGrown.sections c.in-Ok-add.ensures.ok in record {
      kept = search rules;
      default = λ k. let d = given k in record {
        reading = λ t p. added_moved (asks g.R.ReencodeIndices) _ c.args.reencoder.now c.args.sink.now.sections t (d.reading t p) e;
        readable = d.readable;
        unreadable = tt;
        refusal = tt;
        unchanged = tt;
      };
      after_error = λ k. tt;
    }

pub returns-clause-section : goal.returns-clause-section
returns-clause-section g c =
    let fresh = c.in-Ok.ensures ∙ ap (λ (n : ℕ). fresh_module n) c.ceiling.ensures in
    let given = rw fresh at c.in-Ok-parse_custom_section.ensures.default in record {
      kept = search rules;
      default = search rules;
      after_error = λ k told. let r = (given k).readable in left_custom (asks g.R.ReencodeIndices) c.args.sink.now.sections.ceiling r.0 r.1 ((given k).reading r.0 r.1).2;
    }

pub returns-in_default-clause-section : goal.returns-in_default-clause-section
returns-in_default-clause-section g c = record { kept = search rules; default = search rules; after_error = λ k told. left_none (asks g.R.ReencodeIndices) _ }

-- a section that stays
pub returns-then-ne-clause-section : goal.returns-then-ne-clause-section
returns-then-ne-clause-section g c = other_added core_custom core_laws g.R.ReencodeIndices _ _ (λ e. search rules) custom_section_tree c.args.section _ (λ k ceiling. refl) c.keep_custom.ensures.adds
