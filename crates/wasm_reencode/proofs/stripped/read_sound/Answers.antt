use Rattle.wasm_reencode.proofs.stripped.read_sound.Goals as goal

pub returns-in-Ok-without_malformed-clause-sound : goal.returns-in-Ok-without_malformed-clause-sound
returns-in-Ok-without_malformed-clause-sound g c = (c.in-Ok.bytes.items, c.in-Ok.ensures.all, c.in-Ok-without_malformed.ensures)
