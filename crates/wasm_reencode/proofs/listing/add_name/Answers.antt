use Rattle.std.proofs.Common.{[], inr, refl, sym, append-nil}
use Rattle.wasm_reencode.proofs.listing.add_name.Goals as goal

pub returns-in-None : goal.returns-in-None
returns-in-None c = ([], sym (append-nil c.args.text.now.items), inr (c.in-None.ensures.none, refl))
