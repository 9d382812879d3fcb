-- The laws of what is stripped.
use Rattle.std.specs.Prelude.{◌≡◌, ℕ, List, Bool, false}
use Rattle.wasm_leb.specs.declared.fault.Kind.{Kind}
use Rattle.wasm_strip.specs.Binaries.{IsBinary, IsStripped, Leaves, Removed, SectionList, deepest}
use Rattle.wasm_strip.specs.Tidied.{IsTidied, Tidied}

-- bytes have one reading: they are of one kind, and of these sections alone
abbrev pub HaveOneReading : Type 0
HaveOneReading = (bytes : List ℕ) (depth deep : ℕ) (kind other : Kind) (parts others : SectionList) →
    IsBinary depth bytes kind parts → IsBinary deep bytes other others → (kind ≡ other) × (parts ≡ others)

-- what is stripped is a binary of the same kind, whose sections are those that are kept
abbrev pub ReadsAsKept : Removed → Type 0
ReadsAsKept removed = (bytes output : List ℕ) (kind : Kind) (parts : SectionList) →
    IsStripped removed bytes output → IsBinary deepest bytes kind parts → (left : SectionList) × Leaves removed kind parts left × IsBinary deepest output kind left

-- what is tidied is a binary of the same kind, whose sections are those that its sections become
abbrev pub ReadsAsTidied : Removed → Bool → Type 0
ReadsAsTidied removed sorts = (bytes output : List ℕ) (kind : Kind) (parts : SectionList) →
    IsTidied removed sorts bytes output → IsBinary deepest bytes kind parts → (left : SectionList) × Tidied removed sorts kind parts left × IsBinary deepest output kind left

-- without names in order what is tidied is what is stripped
pub record StripsUnsorted (removed : Removed) : Type 0 where
  pub stripped : (bytes output : List ℕ) → IsTidied removed false bytes output → IsStripped removed bytes output
  pub tidied : (bytes output : List ℕ) → IsStripped removed bytes output → IsTidied removed false bytes output

-- one input has one output, and stripped by the same rule again this stays as it is
pub record IsSettled (removed : Removed) : Type 0 where
  pub one : (bytes output other : List ℕ) → IsStripped removed bytes output → IsStripped removed bytes other → output ≡ other
  pub again : (bytes output other : List ℕ) → IsStripped removed bytes output → IsStripped removed output other → output ≡ other
