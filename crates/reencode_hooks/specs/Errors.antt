-- The errors: what they are made of, and their texts.
use Rattle.std.specs.Prelude.{◌++◌, ℕ, List, Option, Some, codes}
use Rattle.std.specs.Fmt.{decimal}
use Rattle.wasm_leb.specs.declared.fault.Fault.{Fault}
use Rattle.wasm_leb.specs.declared.fault.Fault.TheVariants as fault
use Rattle.wasm_leb.specs.declared.fault.Kind.TheVariants.{Module, Component}
use Rattle.wasm_write.specs.declared.fault.WriteFault.{WriteFault}
use Rattle.wasm_write.specs.declared.fault.WriteFault.TheVariants as write
use Rattle.reencode_hooks.specs.declared.error.Error.{Error}
use Rattle.reencode_hooks.specs.declared.error.Error.TheVariants.{CanonicalizedHeapTypeReference, InvalidConstExpr, InvalidCodeSectionSize, UnexpectedNonCoreModuleSection, UnexpectedNonComponentSection, UnsupportedCoreTypeInComponent, ParseError, UserError, TooLarge, NoMemory}

-- the error of a reader's refusal
abbrev pub error_of_fault : {E : Type 0} → Fault → Error E
error_of_fault (fault.Read e) = ParseError e
error_of_fault fault.CodeSize = InvalidCodeSectionSize
error_of_fault (fault.Header Component) = UnexpectedNonCoreModuleSection
error_of_fault (fault.Header Module) = UnexpectedNonComponentSection
error_of_fault fault.NoMemory = NoMemory

-- the error of a writer's refusal
abbrev pub error_of_write : {E : Type 0} → WriteFault → Error E
error_of_write (write.TooLarge size) = TooLarge size
error_of_write write.NoMemory = NoMemory

-- the text of an error, from those of the reencoder's own
abbrev pub error_text : {E : Type 0} → (E → Option (List ℕ)) → Error E → Option (List ℕ)
error_text own CanonicalizedHeapTypeReference =
    Some (codes "There was a canonicalized heap type reference without type index information")
error_text own InvalidConstExpr = Some (codes "The const expression was invalid")
error_text own InvalidCodeSectionSize = Some (codes "invalid code section size")
error_text own UnexpectedNonCoreModuleSection =
    Some (codes "There was a section that does not belong in a core wasm module")
error_text own UnexpectedNonComponentSection = Some (codes "There was a section that does not belong in a component")
error_text own UnsupportedCoreTypeInComponent = Some (codes "unsupported core type in a component")
error_text own (ParseError _) = Some (codes "There was an error when parsing")
error_text own (UserError e) = own e
error_text own (TooLarge size) = Some (codes "size " ++ decimal size ++ codes " is too large")
error_text own NoMemory = Some (codes "out of memory")
