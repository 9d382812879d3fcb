use Rattle.wasm_read.specs.declared.types.Payload.TheVariants as payload
use Rattle.examples.proofs.Stripping.{payload_short, wants_memory}
use Rattle.wasm_shapes.proofs.SectionLaws.{frame_id}
use Rattle.examples.proofs.stripper.add_kept.Goals as goal

pub invariant_of-section-in-Unknown : goal.invariant_of-section-in-Unknown
invariant_of-section-in-Unknown c = let read = rw c.in-Unknown.is at c.requires.read in record { framed = (frame_id read.2).1 }

pub returns-else-leaves_out-clause-wants : goal.returns-else-leaves_out-clause-wants
returns-else-leaves_out-clause-wants c =
    let read = rw c.in-Custom.is at c.requires.read in
    let short = payload_short (payload.Custom c.in-Custom.at c.in-Custom.section) read.2.text read.2.spells.spelled in
    wants_memory _ _ short c.requires.room c.section.result c.section.ensures.large
