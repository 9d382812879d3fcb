-- A binary without names that have no reading.
use Rattle.std.proofs.Common.{◌≡◌, ◌⊎◌, inl, inr, ℕ, List, [], true, false, refl, subst}
use Rattle.wasm_leb.specs.declared.fault.Kind.{Kind}
use Rattle.wasm_strip.specs.declared.fault.StripFault.{StripFault}
use Rattle.wasm_strip.specs.declared.fault.StripFault.TheVariants as fault
use Rattle.wasm_strip.specs.Binaries.{IsBinary, IsStripped, Leaves, Removed, SectionList, deepest}
use Rattle.wasm_strip.specs.Choices.{IsMalformed, RemovedBy}
use Rattle.wasm_strip.specs.Faults.{HasNone}

abbrev Chosen : Removed
Chosen = RemovedBy false true false false false []

only_malformed : (kind : Kind) (name contents : List ℕ) → Chosen kind name contents → IsMalformed kind name contents
only_malformed kind name contents (inl e) = absurd (let never : false ≡ true = e in cc)
only_malformed kind name contents (inr m) = m.1

leaves_malformed : {kind : Kind} {parts left : SectionList} → Leaves Chosen kind parts left → Leaves IsMalformed kind parts left
leaves_malformed Leaves.nothing = Leaves.nothing
leaves_malformed (Leaves.goes gone k) = Leaves.goes (only_malformed _ _ _ gone) (leaves_malformed k)
leaves_malformed (Leaves.stays stays k) = Leaves.stays (λ gone. stays (inr (refl, gone))) (leaves_malformed k)
leaves_malformed (Leaves.unnamed k) = Leaves.unnamed (leaves_malformed k)
leaves_malformed (Leaves.around j k) = Leaves.around (leaves_malformed j) (leaves_malformed k)

pub malformed_left : {bytes sound : List ℕ} → IsStripped Chosen bytes sound → IsStripped IsMalformed bytes sound
malformed_left s = record { kind = s.kind; parts = s.parts; left = s.left; reads = s.reads; leaves = leaves_malformed s.leaves; spelled = s.spelled }

pub no_sections : {bytes : List ℕ} {e : StripFault} → ((at : ℕ) × (e ≡ fault.Read at)) ⊎ ((at : ℕ) × (e ≡ fault.TooDeep at)) → HasNone bytes e → (kind : Kind) (parts : SectionList) →
    ¬ IsBinary deepest bytes kind parts
no_sections {bytes = bytes} (inl is) none = let N : StripFault → Type 0 = λ f. HasNone bytes f in subst N is.1 none deepest
no_sections {bytes = bytes} (inr is) none = let N : StripFault → Type 0 = λ f. HasNone bytes f in subst N is.1 none
