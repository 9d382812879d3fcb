use Rattle.std.proofs.Common.{Some, ap}
use Rattle.wasm_reencode.proofs.listing.name_value.Goals as goal

pub returns-in_ok-try_from_str-in-Some : goal.returns-in_ok-try_from_str-in-Some
returns-in_ok-try_from_str-in-Some c = (Some c.in-Some.name.now, record { some = c.in-Some.ensures.some; none = tt }, ap Some c.in_ok-try_from_str-in-Some.ensures)
