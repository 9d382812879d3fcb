-- Rows that stand in a scope: the reader of the bytes of their vector has them left.
use Rattle.std.proofs.Common.{◌≡◌, ℕ, ◌+◌, ◌-◌, List, ◌++◌, refl, sym, ap, ◌∙◌, take, length, length-append, arith, subst}
use Rattle.std.proofs.Math.Seq.{take-append_seam}
use Rattle.std.proofs.lemmas.List.{append_cancel_left}
use Rattle.wasm_leb.specs.Place.{BeginsNoNumber}
use Rattle.wasm_leb.proofs.Unique.{unsigned_unique}
use Rattle.wasm_leb.specs.declared.fault.Fault.{Fault}
use Rattle.wasm_leb.specs.declared.fault.Fault.TheVariants as fault
use Rattle.wasm_shapes.specs.Tree.{Tree, count}
use Rattle.wasm_shapes.specs.Shape.{Shape}
use Rattle.wasm_shapes.specs.Spells.{Is, Spelled}
use Rattle.wasm_shapes.specs.Place.{Begins}
use Rattle.wasm_shapes.specs.Rows.{RowsLeft}
use Rattle.wasm_read.specs.Reading.{Standing, CountRead, ReadsNone}
use Rattle.wasm_read_component.specs.Scoped.{ScopedStanding}
use Rattle.wasm_read_component.specs.TypeRows.{Declares, DeclaresAt, Fresh}

-- the bytes before those that are left
pub taken : (bytes text behind : List ℕ) → bytes ≡ text ++ behind → take (length bytes - length behind) bytes ≡ text
taken bytes text behind e =
    let size : length bytes ≡ length text + length behind = ap length e ∙ length-append text behind in
    let few : length bytes - length behind ≡ length text = omega arith in
    ap (λ (k : ℕ). take k bytes) few ∙ ap (take (length text)) e ∙ take-append_seam text behind

-- these bytes stand before those that are left
abbrev pub IsBefore : List ℕ → List ℕ → List ℕ → Type 0
IsBefore bytes behind body = (text : List ℕ) → bytes ≡ text ++ behind → body ≡ text

items_of : {s : Shape} {t : Tree} → Is (Shape.vec s) (Tree.vec t) → Is (Shape.many s) t
items_of (Is.vec d) = d

pub rows_left : {s : Shape} {bytes behind body : List ℕ} {rows : Tree} (new : Standing) → IsBefore bytes behind body → CountRead body new →
    Begins (Shape.vec s) bytes (Tree.vec rows) behind → RowsLeft s new.left new.rest rows
rows_left {s = s} {bytes = bytes} {behind = behind} {body = body} {rows = rows} new before read p =
    let whole : body ≡ p.text = before p.text p.reads in
    let spelled = p.spells.spelled in
    let counted = read.counted in
    let both_ways : counted.0 ++ new.rest ≡ spelled.0 ++ spelled.1 = sym counted.2 ∙ whole ∙ spelled.2 in
    let same : (counted.0 ≡ spelled.0) × (new.left ≡ count rows) = unsigned_unique new.rest spelled.1 counted.1 spelled.3 both_ways in
    let shifted : spelled.0 ++ new.rest ≡ spelled.0 ++ spelled.1 = ap (λ (z : List ℕ). z ++ new.rest) (sym same.0) ∙ both_ways in
    let rest : new.rest ≡ spelled.1 = append_cancel_left spelled.0 new.rest spelled.1 shifted in
    let P : List ℕ → Type 0 = λ z. Spelled rows z in
    record { shaped = items_of p.spells.shaped; counted = sym same.1; spelled = subst P (sym rest) spelled.4 }

pub no_count : {s : Shape} {bytes behind body : List ℕ} {rows : Tree} → IsBefore bytes behind body → BeginsNoNumber 128 32 32 body →
    Begins (Shape.vec s) bytes (Tree.vec rows) behind → ⊥
no_count {rows = rows} before none p =
    let spelled = p.spells.spelled in
    none spelled.0 spelled.1 (count rows) spelled.3 (before p.text p.reads ∙ spelled.2)

pub declared : {s : Shape} {bytes behind body : List ℕ} {rows : Tree} (new : Standing) → IsBefore bytes behind body → CountRead body new →
    Begins (Shape.vec s) bytes (Tree.vec rows) behind → Declares s new (Tree.scope (Tree.vec rows))
declared {rows = rows} new before read p = record { rows = rows; is = refl; left = rows_left new before read p }

pub fresh : {s : Shape} {t : Tree} {bytes behind body : List ℕ} (new : Standing) → IsBefore bytes behind body → CountRead body new → Begins s bytes t behind → Fresh new bytes
fresh {bytes = bytes} {behind = behind} {body = body} new before read p =
    let P : List ℕ → Type 0 = λ z. bytes ≡ z ++ behind in
    record { body = body; left = behind; is = subst P (sym (before p.text p.reads)) p.reads; read = read }

pub declared_at : {s : Shape} {depth : ℕ} {bytes behind body : List ℕ} {rows : Tree} (new : ScopedStanding) → IsBefore bytes behind body → CountRead body new.rows →
    new.depth ≡ depth + 1 → Begins (Shape.vec s) bytes (Tree.vec rows) behind → DeclaresAt s depth new (Tree.scope (Tree.vec rows))
declared_at new before read deeper p = record { declares = declared new.rows before read p; deeper = deeper }

-- why nothing is read
pub reason : (at : ℕ) (why : Type 0) (e : Fault) → ReadsNone e at why → why
reason at why (fault.Read r) p = p.1
reason at why fault.CodeSize p = absurd p
reason at why (fault.Header k) p = absurd p
reason at why fault.NoMemory p = absurd p
