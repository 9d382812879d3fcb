use Rattle.std.proofs.Common.{length, refl, ◌∙◌, arith}
use Rattle.std.proofs.lemmas.Slice.{put_mid-paste}
use Rattle.std.proofs.lemmas.List.Edits.{paste_all}
use Rattle.reencode_core.proofs.pieces.cuts.put_at.Goals as goal

pub returns : goal.returns
returns c =
    let bytes = c.args.bytes.now in
    put_mid-paste c.args.place _ c.args.out.now c.copy_from_slice.new.self bytes (length bytes) c.copy_from_slice.ensures.after (omega arith) refl ∙ paste_all c.args.out.now c.args.place bytes (length bytes) refl
