-- What is added section by section.
use Rattle.std.specs.Prelude.{◌≡◌, ℕ, List, ◌++◌, Bool}
use Rattle.wasm_leb.specs.declared.fault.Kind.{Kind}
use Rattle.wasm_strip.specs.declared.fault.StripFault.{StripFault}
use Rattle.wasm_strip.specs.declared.fault.StripFault.TheVariants as fault
use Rattle.wasm_strip.specs.Binaries.{IsSectionList, Removed, SectionList, text_of}
use Rattle.wasm_strip.specs.Tidied.{Tidied}
use Rattle.wasm_strip.specs.Faults.{Fails}

-- the bytes are sections, and what they become is added
pub record AddsKept (removed : Removed) (sorts : Bool) (depth : ℕ) (kind : Kind) (bytes old new : List ℕ) : Type 0 where
  pub parts : SectionList
  pub left : SectionList
  pub are : IsSectionList depth kind bytes parts
  pub tidied : Tidied removed sorts kind parts left
  pub added : new ≡ old ++ text_of left

-- sections have this fault, or memory is wanting
abbrev pub FailsOr : ℕ → ℕ → Kind → List ℕ → StripFault → Type 0
FailsOr at depth kind bytes fault.NoMemory = Unit {0}
FailsOr at depth kind bytes e = Fails at depth kind bytes e

-- sections that begin with these bytes have this fault, or memory is wanting
abbrev pub FailsBefore : ℕ → ℕ → Kind → List ℕ → StripFault → Type 0
FailsBefore at depth kind text fault.NoMemory = Unit {0}
FailsBefore at depth kind text e = (rest : List ℕ) → Fails at depth kind (text ++ rest) e
