use Rattle.std.proofs.Common.{take}
use Rattle.std.specs.Str.Parse.{AllDigits}
use Rattle.wasm_reencode.proofs.explain.front_digits.Given as goal

abbrev pub invariant-bytes : goal.invariant-bytes
invariant-bytes l = AllDigits 10 (take l.count l.text)
