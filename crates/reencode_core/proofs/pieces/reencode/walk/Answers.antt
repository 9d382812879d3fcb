use Rattle.std.proofs.Common.{◌≡◌, ◌+◌, ◌-◌, ◌++◌, ℕ, List, Some, inr, length, refl, sym, ap, ◌∙◌, append_assoc, subst, arith}
use Rattle.wasm_shapes.specs.declared.Visit.TheVariants.{Section, Closed}
use Rattle.wasm_shapes.specs.Module.{core_header}
use Rattle.reencode_core.proofs.sections_walked.EachSection.{core_closed, core_headless, core_more, core_section_refused, core_unframed, custom_called, kind_called, sections_begun, unknown_called}
use Rattle.reencode_core.specs.Woven.{AddedAt}
use Rattle.reencode_core.proofs.sections_walked.CoreLoop.{nothing_put}
use Rattle.wasm_shapes.proofs.SectionLaws.{frame_id}
use Rattle.reencode_core.specs.Pieces.{Range}
use Rattle.reencode_core.specs.Sinks.{KeepsKind, StandsAt}
use Rattle.reencode_core.specs.Clauses.{asks}
use Rattle.reencode_core.proofs.kept_pieces.KeptRanges.{body_place, custom_not_code, kind_one, ranges_begun, ranges_end, ranges_more, unknown_not_code}
use Rattle.reencode_core.proofs.kept_pieces.StandsAt.{custom_stands, section_stands, text_within}
use Rattle.reencode_core.proofs.kept_pieces.SectionLoop.{behind_refused, between_ended, between_refused, hook_answered}
use Rattle.reencode_core.proofs.pieces.reencode.walk.Goals as goal

-- what is left behind a part
behind : (bytes front rest text left : List ℕ) → bytes ≡ front ++ rest → rest ≡ text ++ left → bytes ≡ (front ++ text) ++ left
behind bytes front rest text left e f = e ∙ ap (λ (z : List ℕ). front ++ z) f ∙ sym (append_assoc front text left)

pub returns-in_err-payloads-clause-core : goal.returns-in_err-payloads-clause-core
returns-in_err-payloads-clause-core g c =
    let keeps = g.met.R.ReencodeIndices.adds_ok in
    core_headless g.R.ReencodeIndices keeps _ c.in_err-payloads.ensures.err _ c.from_residual.ensures.1

pub sections-init : goal.sections-init
sections-init g c =
    let header = c.in_ok-payloads.ensures.ok in
    record { done = sections_begun g.R.ReencodeIndices _ _ _; same = c.requires; stands = (core_header, header.stands); ranges = λ more k. ranges_begun (asks g.R.ReencodeIndices) g.R.ReencodeIndices.adds _ _ _ _ }

pub returns-in_err-id-clause-core : goal.returns-in_err-id-clause-core
returns-in_err-id-clause-core g c =
    let keeps = g.met.R.ReencodeIndices.adds_ok in
    let header = c.in_ok-payloads.ensures.ok in
    let inv = c.sections.invariant in
    core_unframed g.R.ReencodeIndices keeps header inv.done _ c.in_err-id.ensures.err _ c.from_residual-in_err-id.ensures.1

pub returns-in_err-add_between-in-Some-Section-clause-core : goal.returns-in_err-add_between-in-Some-Section-clause-core
returns-in_err-add_between-in-Some-Section-clause-core g c =
    let keeps = g.met.R.ReencodeIndices.adds_ok in
    let header = c.in_ok-payloads.ensures.ok in
    let inv = c.sections.invariant in
    let frame = rw (c.in-Some-Section.is, c.in-Some-Section.field-0-is) at c.in_ok-id.ensures.some in
    between_refused g.R.ReencodeIndices keeps header inv.done c.in-Some-Section.id _ frame c.in_err-add_between-in-Some-Section.ensures.answer c.in_err-add_between-in-Some-Section.ensures.leaves _ c.from_residual-in_err-add_between-in-Some-Section.ensures.1

pub add_kind-requires : goal.add_kind-requires
add_kind-requires g c =
    let header = c.in_ok-payloads.ensures.ok in
    let inv = c.sections.invariant in
    let frame = rw (c.in-Some-Section.is, c.in-Some-Section.field-0-is) at c.in_ok-id.ensures.some in
    let stands = section_stands c.args.bytes.now inv.stands.0 _ c.in-Some-Section.body.now _ _ inv.stands.1 frame in
    let within = text_within stands in
    let end : length c.args.bytes.now - length c.next.new.self.rest ≡ c.saturating_sub-start.result + length c.in-Some-Section.body.now = omega (arith, within, c.place.ensures, c.saturating_sub-start.ensures, c.in_ok-id.ensures.len, inv.done.len, header.len) in
    let Q : ℕ → Type 0 = λ n. StandsAt c.args.bytes.now c.in-Some-Section.body.now n in
    let P : List ℕ → Type 0 = λ z. StandsAt z c.in-Some-Section.body.now (c.saturating_sub-start.result + length c.in-Some-Section.body.now) in
    let input = c.in_ok-add_between-in-Some-Section.ensures.input ∙ inv.same in
    subst P (sym input) (subst Q end stands)

pub returns-in_err-add_between-in-Ok-clause-core : goal.returns-in_err-add_between-in-Ok-clause-core
returns-in_err-add_between-in-Ok-clause-core g c =
    let keeps = g.met.R.ReencodeIndices.adds_ok in
    let header = c.in_ok-payloads.ensures.ok in
    let inv = c.sections.invariant in
    let frame = rw (c.in-Some-Section.is, c.in-Some-Section.field-0-is) at c.in_ok-id.ensures.some in
    let e = c.in-Ok.ensures in
    behind_refused g.R.ReencodeIndices keeps header inv.done c.in-Some-Section.id _
    (kind_called g.R.ReencodeIndices keeps header inv.done c.in-Some-Section.id frame (hook_answered g.R.ReencodeIndices c.sections.reencoder c.add_between.new.reencoder c.sections.sink.sections c.add_between.new.sink.sections (Section c.sections.last (Some c.in-Some-Section.id)) c.in_ok-add_between-in-Some-Section.ensures.answer c.in_ok-add_between-in-Some-Section.ensures.fits) e.section)
    (hook_answered g.R.ReencodeIndices c.sections.reencoder c.add_between.new.reencoder c.sections.sink.sections c.add_between.new.sink.sections (Section c.sections.last (Some c.in-Some-Section.id)) c.in_ok-add_between-in-Some-Section.ensures.answer c.in_ok-add_between-in-Some-Section.ensures.fits)
    c.in_err-add_between-in-Ok.ensures.answer c.in_err-add_between-in-Ok.ensures.leaves _ c.from_residual-in_err-add_between-in-Ok.ensures.1

pub sections-preserved-in-Ok : goal.sections-preserved-in-Ok
sections-preserved-in-Ok g c =
    let keeps = g.met.R.ReencodeIndices.adds_ok in
    let header = c.in_ok-payloads.ensures.ok in
    let inv = c.sections.invariant in
    let frame = rw (c.in-Some-Section.is, c.in-Some-Section.field-0-is) at c.in_ok-id.ensures.some in
    let e = c.in-Ok.ensures in
    let stands = section_stands c.args.bytes.now inv.stands.0 _ c.in-Some-Section.body.now _ _ inv.stands.1 frame in
    let within = text_within stands in
    let end : length c.args.bytes.now - length c.next.new.self.rest ≡ c.saturating_sub-start.result + length c.in-Some-Section.body.now = omega (arith, within, c.place.ensures, c.saturating_sub-start.ensures, c.in_ok-id.ensures.len, inv.done.len, header.len) in
    let call = kind_called g.R.ReencodeIndices keeps header inv.done c.in-Some-Section.id frame (hook_answered g.R.ReencodeIndices c.sections.reencoder c.add_between.new.reencoder c.sections.sink.sections c.add_between.new.sink.sections (Section c.sections.last (Some c.in-Some-Section.id)) c.in_ok-add_between-in-Some-Section.ensures.answer c.in_ok-add_between-in-Some-Section.ensures.fits) e.section in
    let same_kept = c.in_ok-add_between-in-Some-Section.ensures.ranges in
    record {
      done = core_closed g.R.ReencodeIndices keeps header inv.done c.in-Some-Section.id refl c.in_ok-id.ensures.len (kind_called g.R.ReencodeIndices keeps header inv.done c.in-Some-Section.id frame (hook_answered g.R.ReencodeIndices c.sections.reencoder c.add_between.new.reencoder c.sections.sink.sections c.add_between.new.sink.sections (Section c.sections.last (Some c.in-Some-Section.id)) c.in_ok-add_between-in-Some-Section.ensures.answer c.in_ok-add_between-in-Some-Section.ensures.fits) e.section) (hook_answered g.R.ReencodeIndices c.add_kind.new.reencoder c.add_between-in-Ok.new.reencoder c.add_kind.new.sink.sections c.add_between-in-Ok.new.sink.sections (Closed c.in-Some-Section.id) c.in_ok-add_between-in-Ok.ensures.answer c.in_ok-add_between-in-Ok.ensures.fits);
      same = c.in_ok-add_between-in-Ok.ensures.input ∙ e.input ∙ c.in_ok-add_between-in-Some-Section.ensures.input ∙ inv.same;
      stands = (inv.stands.0 ++ frame.text, behind c.args.bytes.now inv.stands.0 _ frame.text _ inv.stands.1 frame.reads);
      ranges = λ more d.
          let K : List Range → Type 0 = λ z. KeepsKind (asks g.R.ReencodeIndices) c.add_between.new.sink.sections.ceiling c.in-Some-Section.id c.saturating_sub-start.result c.in-Some-Section.body.now c.add_between.new.reencoder c.add_kind.new.reencoder z c.add_kind.new.sink.kept in
          let L : List Range → Type 0 = λ z. KeepsKind (asks g.R.ReencodeIndices) c.add_between.new.sink.sections.ceiling c.in-Some-Section.id c.saturating_sub-start.result c.in-Some-Section.body.now c.add_between.new.reencoder c.add_kind.new.reencoder c.sections.sink.kept z in
          ranges_more (asks g.R.ReencodeIndices) g.R.ReencodeIndices.adds _ c.sections.sink.kept c.add_between-in-Ok.new.sink.kept (inv.ranges more d) (call.reached d) call.put (call.gives d)
          (record { own = g.R.ReencodeIndices.adds c.add_kind.new.reencoder (Closed c.in-Some-Section.id); gains = c.in_ok-add_between-in-Ok.ensures.answer.1; there = AddedAt.known c.in-Some-Section.id c.in-Some-Section.body.now c.add_between-in-Ok.new.reencoder c.in_ok-add_between-in-Ok.ensures.answer.0; fits = c.in_ok-add_between-in-Ok.ensures.fits })
          (λ text x t u st rd i w. kind_one (asks g.R.ReencodeIndices) _ c.in-Some-Section.id _ _ c.saturating_sub-start.result (8 + length text) _ x _ c.in-Some-Section.body.now t u _ _ (subst L (sym c.in_ok-add_between-in-Ok.ensures.ranges) (subst K same_kept (e.ranges more d))) i rd frame
          (body_place c.args.bytes.now _ text _ x _ _ header.stands st rd end) w);
    }

pub returns-in-Err-clause-core : goal.returns-in-Err-clause-core
returns-in-Err-clause-core g c =
    let keeps = g.met.R.ReencodeIndices.adds_ok in
    let header = c.in_ok-payloads.ensures.ok in
    let inv = c.sections.invariant in
    let frame = rw (c.in-Some-Section.is, c.in-Some-Section.field-0-is) at c.in_ok-id.ensures.some in
    let at = rw (c.in-Some-Section.is, c.in-Some-Section.field-0-is) at c.in_ok-id.ensures.at in
    let e = c.in-Err.ensures in
    core_section_refused g.R.ReencodeIndices keeps header inv.done c.in-Err.e c.in-Some-Section.at (kind_called g.R.ReencodeIndices keeps header inv.done c.in-Some-Section.id frame (hook_answered g.R.ReencodeIndices c.sections.reencoder c.add_between.new.reencoder c.sections.sink.sections c.add_between.new.sink.sections (Section c.sections.last (Some c.in-Some-Section.id)) c.in_ok-add_between-in-Some-Section.ensures.answer c.in_ok-add_between-in-Some-Section.ensures.fits) e.section) at _ c.placed.ensures

pub add_custom-requires : goal.add_custom-requires
add_custom-requires g c =
    let header = c.in_ok-payloads.ensures.ok in
    let inv = c.sections.invariant in
    let frame = rw (c.in-Some-Custom.is, c.in-Some-Custom.field-0-is) at c.in_ok-id.ensures.some in
    let contents = c.in-Some-Custom.section.contents.now in
    let stands = custom_stands c.args.bytes.now inv.stands.0 _ c.in-Some-Custom.section.name.now contents _ inv.stands.1 frame in
    let end : length c.args.bytes.now - length c.next.new.self.rest ≡ c.place-end.result = omega (arith, c.place-end.ensures, c.in_ok-id.ensures.len, inv.done.len, header.len) in
    let Q : ℕ → Type 0 = λ n. StandsAt c.args.bytes.now contents n in
    let P : List ℕ → Type 0 = λ z. StandsAt z contents c.place-end.result in
    subst P (sym inv.same) (subst Q end stands)

pub sections-preserved-in-Ok-add_custom : goal.sections-preserved-in-Ok-add_custom
sections-preserved-in-Ok-add_custom g c =
    let keeps = g.met.R.ReencodeIndices.adds_ok in
    let header = c.in_ok-payloads.ensures.ok in
    let inv = c.sections.invariant in
    let frame = rw (c.in-Some-Custom.is, c.in-Some-Custom.field-0-is) at c.in_ok-id.ensures.some in
    let e = c.in-Ok-add_custom.ensures in
    let call = custom_called g.R.ReencodeIndices keeps header inv.done frame e.section in
    record {
      done = core_more g.R.ReencodeIndices keeps header inv.done refl c.in_ok-id.ensures.len (custom_called g.R.ReencodeIndices keeps header inv.done frame e.section) (AddedAt.custom _ _);
      same = e.input ∙ inv.same;
      stands = (inv.stands.0 ++ frame.text, behind c.args.bytes.now inv.stands.0 _ frame.text _ inv.stands.1 frame.reads);
      ranges = λ more d. ranges_more (asks g.R.ReencodeIndices) g.R.ReencodeIndices.adds _ c.sections.sink.kept c.add_custom.new.sink.kept (inv.ranges more d) (call.reached d) call.put (call.gives d) (nothing_put (AddedAt.custom _ _)) (λ text x t u st rd i w. inr (custom_not_code _ _ t i, e.ranges more));
    }

pub returns-in-Err-add_custom-clause-core : goal.returns-in-Err-add_custom-clause-core
returns-in-Err-add_custom-clause-core g c =
    let keeps = g.met.R.ReencodeIndices.adds_ok in
    let header = c.in_ok-payloads.ensures.ok in
    let inv = c.sections.invariant in
    let frame = rw (c.in-Some-Custom.is, c.in-Some-Custom.field-0-is) at c.in_ok-id.ensures.some in
    let at = rw (c.in-Some-Custom.is, c.in-Some-Custom.field-0-is) at c.in_ok-id.ensures.at in
    let e = c.in-Err-add_custom.ensures in
    core_section_refused g.R.ReencodeIndices keeps header inv.done c.in-Err-add_custom.e c.in-Some-Custom.at (custom_called g.R.ReencodeIndices keeps header inv.done frame e.section) at _ c.placed-in-Err-add_custom.ensures

pub add_unknown-requires : goal.add_unknown-requires
add_unknown-requires g c =
    (frame_id (rw (c.in-Some-Unknown.is, c.in-Some-Unknown.field-0-is) at c.in_ok-id.ensures.some)).1

pub sections-preserved : goal.sections-preserved
sections-preserved g c =
    let keeps = g.met.R.ReencodeIndices.adds_ok in
    let header = c.in_ok-payloads.ensures.ok in
    let inv = c.sections.invariant in
    let frame = rw (c.in-Some-Unknown.is, c.in-Some-Unknown.field-0-is) at c.in_ok-id.ensures.some in
    let low = rw (c.in-Some-Unknown.is, c.in-Some-Unknown.field-0-is) at c.in_ok-id.ensures.unknown in
    let e = c.in-Ok-add_unknown.ensures in
    let call = unknown_called g.R.ReencodeIndices keeps header inv.done low frame e.section in
    record {
      done = core_more g.R.ReencodeIndices keeps header inv.done refl c.in_ok-id.ensures.len (unknown_called g.R.ReencodeIndices keeps header inv.done low frame e.section) (AddedAt.unknown _ _ low);
      same = e.input ∙ inv.same;
      stands = (inv.stands.0 ++ frame.text, behind c.args.bytes.now inv.stands.0 _ frame.text _ inv.stands.1 frame.reads);
      ranges = λ more d. ranges_more (asks g.R.ReencodeIndices) g.R.ReencodeIndices.adds _ c.sections.sink.kept c.add_unknown.new.sink.kept (inv.ranges more d) (call.reached d) call.put (call.gives d) (nothing_put (AddedAt.unknown _ _ low)) (λ text x t u st rd i w. inr (unknown_not_code _ _ t low i, e.ranges));
    }

pub returns-in-Err-add_unknown-clause-core : goal.returns-in-Err-add_unknown-clause-core
returns-in-Err-add_unknown-clause-core g c =
    let keeps = g.met.R.ReencodeIndices.adds_ok in
    let header = c.in_ok-payloads.ensures.ok in
    let inv = c.sections.invariant in
    let frame = rw (c.in-Some-Unknown.is, c.in-Some-Unknown.field-0-is) at c.in_ok-id.ensures.some in
    let low = rw (c.in-Some-Unknown.is, c.in-Some-Unknown.field-0-is) at c.in_ok-id.ensures.unknown in
    let at = rw (c.in-Some-Unknown.is, c.in-Some-Unknown.field-0-is) at c.in_ok-id.ensures.at in
    let e = c.in-Err-add_unknown.ensures in
    core_section_refused g.R.ReencodeIndices keeps header inv.done c.in-Err-add_unknown.e c.in-Some-Unknown.at (unknown_called g.R.ReencodeIndices keeps header inv.done low frame e.section) at _ c.placed-in-Err-add_unknown.ensures

pub returns-in-None-clause-core : goal.returns-in-None-clause-core
returns-in-None-clause-core g c =
    let keeps = g.met.R.ReencodeIndices.adds_ok in
    let header = c.in_ok-payloads.ensures.ok in
    let inv = c.sections.invariant in
    let ended = rw c.in-None.is at c.in_ok-id.ensures.ended in
    between_ended g.R.ReencodeIndices keeps header inv.done ended.0 _ c.add_between-in-None.ensures.answer c.add_between-in-None.ensures.leaves c.add_between-in-None.ensures.fits

pub returns-in-None-clause-ranges : goal.returns-in-None-clause-ranges
returns-in-None-clause-ranges g c =
    let header = c.in_ok-payloads.ensures.ok in
    let inv = c.sections.invariant in
    let ended = rw c.in-None.is at c.in_ok-id.ensures.ended in
    λ more d. ranges_end g.R.ReencodeIndices _ _ _ _ _ c.add_between-in-None.result header.stands (inv.ranges more d) ended.0 c.add_between-in-None.ensures.answer c.add_between-in-None.ensures.ranges
