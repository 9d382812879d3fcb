-- The size of a code section that passes the end.
use Rattle.std.proofs.Common.{◌≡◌, ◌≢◌, ℕ, ◌<◌, List, [], ◌∷◌, ◌++◌, length, arith, refl, sym, ap, ◌∙◌}
use Rattle.std.proofs.lemmas.List.{append_cancel_left}
use Rattle.wasm_leb.specs.Place.{BeginsNumber}
use Rattle.wasm_leb.proofs.Unique.{unsigned_unique}
use Rattle.wasm_shapes.specs.declared.SectionId.TheVariants as id
use Rattle.wasm_shapes.specs.Tree.{Tree}
use Rattle.wasm_shapes.specs.Place.{Begins, BeginsNone}
use Rattle.wasm_shapes.specs.CodeSize.{InvalidCodeSize}
use Rattle.wasm_shapes.specs.Module.{frame}
use Rattle.wasm_shapes.specs.SectionTable.{number}
use Rattle.wasm_shapes.proofs.Begins.{none_here, none_by_front, none_or, none_row}
use Rattle.wasm_shapes.proofs.Framing.{none_sized, no_body_room}
use Rattle.wasm_read.proofs.Framed.{none_behind_within}

-- the size that stands there is the one that passes the end
pub code_size_is : {b size : ℕ} {bytes sized body : List ℕ} → bytes ≡ b ∷ sized → BeginsNumber 128 32 32 sized size body → InvalidCodeSize bytes →
    (length body < size) × (count : ℕ) × (left : List ℕ) × BeginsNumber 128 32 32 body count left
code_size_is {size = size} {sized = sized} {body = body} e there p =
    let behind : sized ≡ p.sized = cc (e, p.is_code) in
    let both_ways : there.0 ++ body ≡ p.states.0 ++ p.body = sym there.2 ∙ behind ∙ p.states.2 in
    let same = unsigned_unique body p.body there.1 p.states.1 both_ways in
    let shifted : p.states.0 ++ body ≡ p.states.0 ++ p.body = ap (λ (z : List ℕ). z ++ body) (sym same.0) ∙ both_ways in
    let bodies : body ≡ p.body = append_cancel_left p.states.0 body p.body shifted in
    let sizes : size ≡ p.size = same.1 in
    let passes : length p.body < p.size = p.passes in
    rw bodies (omega arith, p.count, p.left, p.counts)

-- bytes are left there, and no frame begins
pub code_size_some : {bytes : List ℕ} → InvalidCodeSize bytes → bytes ≢ []
code_size_some p empty = let never : [] ≡ number id.Code ∷ p.sized = sym empty ∙ p.is_code in cc

code_size_none : {bytes : List ℕ} → InvalidCodeSize bytes → BeginsNone frame bytes
code_size_none p =
    none_here p.is_code (none_or (none_by_front refl refl) (none_or (none_behind_within (none_sized p.states (no_body_room p.passes))) none_row))

pub code_size_other : {t : Tree} {bytes left : List ℕ} → Begins frame bytes t left → InvalidCodeSize bytes → ⊥
code_size_other {t = t} {left = left} there p = (code_size_none p).none there.text left t there.spells there.reads
