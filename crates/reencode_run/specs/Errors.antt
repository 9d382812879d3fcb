-- How an error of the library ends a command.
use Rattle.std.specs.Prelude.{◌≡◌, ℕ}
use Rattle.reencode_hooks.specs.declared.error.Error.{Error}
use Rattle.reencode_hooks.specs.declared.error.Error.TheVariants as error
use Rattle.reencode_run.specs.declared.answer.ReencodingFault.{ReencodingFault}
use Rattle.reencode_run.specs.declared.answer.ReencodingFault.TheVariants as reencoding_fault
use Rattle.reencode_run.specs.declared.renamers.Refusal.{Refusal}

-- the errors that an input of a command may give: the others come to no end
abbrev pub HasStatus : {E : Type 0} → Error E → Type 0
HasStatus error.CanonicalizedHeapTypeReference = ⊥
HasStatus error.InvalidConstExpr = ⊥
HasStatus error.UnsupportedCoreTypeInComponent = ⊥
HasStatus _ = Unit {0}

-- the fault that an error under a ceiling is, where a refusal is told so
abbrev pub EndsAs : {E : Type 0} → (E → Refusal) → ℕ → Error E → ReencodingFault → Type 0
EndsAs told ceiling error.InvalidCodeSectionSize fault = fault ≡ reencoding_fault.CodeSectionSize
EndsAs told ceiling error.UnexpectedNonCoreModuleSection fault = fault ≡ reencoding_fault.NonCoreModule
EndsAs told ceiling error.UnexpectedNonComponentSection fault = fault ≡ reencoding_fault.NonComponent
EndsAs told ceiling (error.ParseError e) fault = fault ≡ reencoding_fault.ParseError e.at
EndsAs told ceiling (error.UserError u) fault = fault ≡ reencoding_fault.Refused (told u)
EndsAs told ceiling (error.TooLarge size) fault = fault ≡ reencoding_fault.TooLarge size ceiling
EndsAs told ceiling error.NoMemory fault = fault ≡ reencoding_fault.NoMemory
EndsAs told ceiling _ fault = ⊥
