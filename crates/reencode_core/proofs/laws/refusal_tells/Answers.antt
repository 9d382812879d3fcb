use Rattle.reencode_hooks.specs.Run.{ask}
use Rattle.reencode_core.proofs.faults.RefusalLaws as refusals
use Rattle.reencode_core.proofs.laws.refusal_tells.Goals as goal

pub returns : goal.returns
returns g c =
    let t = g.T.ReencodeIndices in
    record {
      bytes = refusals.refusal_tells (ask t.reply t.next);
      sections = refusals.refusal_tells_sections (ask t.reply t.next);
    }
