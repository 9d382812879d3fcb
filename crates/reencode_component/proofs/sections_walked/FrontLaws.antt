-- The laws of `specs/ComponentFronts.antt`.
use Rattle.std.proofs.Common.{◌≡◌, ◌<◌, ◌≤◌, ◌+◌, ℕ, zero, suc, List, [], ◌∷◌, ◌++◌, length, length-append, true, refl, sym, ap, arith}
use mathlib.Core.Bool.{false≢true}
use Rattle.wasm_shapes.specs.Component.{component_section}
use Rattle.wasm_shapes.specs.Module.{component_header}
use Rattle.wasm_shapes.specs.Sound.{nullable}
use Rattle.wasm_shapes.specs.Tree.{Tree}
use Rattle.wasm_shapes.specs.Types.{rows_tree}
use Rattle.wasm_shapes.proofs.Fronts.{nullable_sound}
use Rattle.reencode_component.specs.ComponentFronts as statements
use Rattle.reencode_component.specs.Components.{BeginsNoSection, BeginsSection, SectionsFirst}
use Rattle.reencode_component.proofs.sections_walked.SectionsAhead.{SectionsAhead, none_first, one_more, sections_ahead, whole_read}

-- a section takes a byte
shorter : {depth : ℕ} {rest left : List ℕ} {t : Tree} → BeginsSection depth rest t left → length left < length rest
shorter {rest = rest} {left = left} b = go b.begins.text refl
  where
    go : (x : List ℕ) → b.begins.text ≡ x → length left < length rest
    go [] e =
        let never : nullable component_section ≡ true = nullable_sound b.begins.spells.shaped b.begins.text b.begins.spells.spelled e in
        absurd (false≢true never)
    go (a ∷ x) e =
        let whole : length rest ≡ length (b.begins.text ++ left) = ap length b.begins.reads in
        let more : length b.begins.text ≡ suc (length x) = ap length e in omega (arith, length-append b.begins.text left)

search : (most depth : ℕ) (bytes rest : List ℕ) (read : List Tree) → length rest ≤ most → SectionsFirst depth bytes read rest →
    ((ts : List Tree) (left : List ℕ) → SectionsFirst depth bytes ts left → BeginsNoSection depth left → ⊥) → ⊥
search zero depth bytes rest read short s none =
    none read rest s (record { none = λ left t b. let less : length left < length rest = shorter b in absurd (omega (arith, short, less)) })
search (suc most) depth bytes rest read short s none =
    none read rest s (record { none = λ left t b. let less : length left < length rest = shorter b in search most depth bytes left (read ++ t ∷ []) (omega (arith, short, less)) (one_more s b) none })

from_header : (depth : ℕ) (bytes start : List ℕ) → depth ≤ 200 → bytes ≡ component_header ++ start →
    ((ts : List Tree) (left : List ℕ) → SectionsFirst depth bytes ts left → BeginsNoSection depth left → ⊥) → ⊥
from_header depth bytes start low stands none = search (length start) depth bytes start [] (omega arith) (none_first depth bytes start stands low) none

pub has_front : statements.HasFront
has_front depth bytes start low stands none = from_header depth bytes start low stands (λ ts left s n. none ts left (record { first = s; none = n }))

pub reads_or_fails : statements.ReadsOrFails
reads_or_fails depth bytes start low stands bare fault = from_header depth bytes start low stands (λ ts left s n. go ts left s n)
  where
    go : (ts : List Tree) (left : List ℕ) → SectionsFirst depth bytes ts left → BeginsNoSection depth left → ⊥
    go ts [] s n = bare (rows_tree ts) (whole_read s refl)
    go ts (b ∷ left) s n = fault ts (b ∷ left) (record { front = s; none = n; some = λ e. cc })

pub one_front : statements.OneFront
one_front depth bytes before others rest left a b = go (sections_ahead a.first b.first b.none)
  where
    go : SectionsAhead depth before rest others left → (before ≡ others) × (rest ≡ left)
    go (SectionsAhead.same e r) = (sym e, sym r)
    go (SectionsAhead.more t us behind e begins) = absurd (a.none.none behind t begins)
