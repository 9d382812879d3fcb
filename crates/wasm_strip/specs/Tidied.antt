-- What is left of a binary without some custom sections, with its names in order.
use Rattle.std.specs.Prelude.{◌≡◌, ℕ, List, ◌++◌, Bool, true}
use Rattle.wasm_leb.specs.declared.fault.Kind.{Kind}
use Rattle.wasm_leb.specs.declared.fault.Kind.TheVariants as kind
use Rattle.wasm_shapes.specs.Module.{names_name}
use Rattle.wasm_strip.specs.Binaries.{IsBinary, Removed, SectionList, deepest, header_of, text_of}
use Rattle.wasm_strip.specs.Choices.{AreNames}
use Rattle.wasm_strip.specs.Sorted.{SortsNames}

-- in a core module such a section is a name section, and its contents have a reading
abbrev pub HasNames : Kind → List ℕ → List ℕ → Type 0
HasNames in_kind name contents = (in_kind ≡ kind.Module) × (name ≡ names_name) × AreNames contents

-- The second sections are the first, those of a binary of a kind, without the custom ones that are removed, and, where names are
-- sorted, with those of the others that have names sorted, here and in what is nested. All others stay, in order.
pub data Tidied (removed : Removed) (sorts : Bool) : Kind → SectionList → SectionList → Type 0 where
  nothing : {kind : Kind} → Tidied removed sorts kind SectionList.ended SectionList.ended
  goes : {kind : Kind} {name contents text : List ℕ} {more left : SectionList} → removed kind name contents → Tidied removed sorts kind more left →
      Tidied removed sorts kind (SectionList.custom name contents text more) left
  stays : {kind : Kind} {name contents text : List ℕ} {more left : SectionList} → ¬ removed kind name contents → ¬ ((sorts ≡ true) × HasNames kind name contents) →
      Tidied removed sorts kind more left → Tidied removed sorts kind (SectionList.custom name contents text more) (SectionList.custom name contents text left)
  sorted : {kind : Kind} {name contents text : List ℕ} {more left : SectionList} (front new : List ℕ) → ¬ removed kind name contents → sorts ≡ true → HasNames kind name contents →
      text ≡ front ++ contents → SortsNames contents new → Tidied removed sorts kind more left →
      Tidied removed sorts kind (SectionList.custom name contents text more) (SectionList.custom name new (front ++ new) left)
  unnamed : {kind : Kind} {text : List ℕ} {more left : SectionList} → Tidied removed sorts kind more left → Tidied removed sorts kind (SectionList.other text more) (SectionList.other text left)
  around : {kind inside : Kind} {inner within more left : SectionList} → Tidied removed sorts inside inner within → Tidied removed sorts kind more left →
      Tidied removed sorts kind (SectionList.nested inside inner more) (SectionList.nested inside within left)

-- The output is the input without the custom sections that are removed, where names are sorted with these in order.
pub record IsTidied (removed : Removed) (sorts : Bool) (bytes output : List ℕ) : Type 0 where
  pub kind : Kind
  pub parts : SectionList
  pub left : SectionList
  pub reads : IsBinary deepest bytes kind parts
  pub tidied : Tidied removed sorts kind parts left
  pub spelled : output ≡ header_of kind ++ text_of left
