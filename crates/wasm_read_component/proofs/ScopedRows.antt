-- Rows that are not there, where scopes are open round them.
use Rattle.std.proofs.Common.{◌≡◌, ◌≢◌, ℕ, suc, ◌-◌, ◌<◌, List, [], Bool, true, false, inl, inr, refl, sym, subst, arith}
use Rattle.wasm_leb.specs.declared.fault.Fault.{Fault}
use Rattle.wasm_leb.specs.declared.fault.Fault.TheVariants as fault
use Rattle.wasm_shapes.specs.Tree.{Tree, count}
use Rattle.wasm_shapes.specs.Shape.{Shape}
use Rattle.wasm_shapes.specs.Spells.{Is, Spelled}
use Rattle.wasm_shapes.specs.Depth.{Shallow, BeginsNoneAt}
use Rattle.wasm_shapes.proofs.Depth.{at_here, shallow_first}
use Rattle.wasm_read.specs.Reading.{place_of, ReadsNone, ReadsNoneIf}
use Rattle.wasm_read_component.specs.Scoped.{ScopedStanding, NoRowsFill, ScopedMissing}

no_row_at : {s : Shape} {n m depth : ℕ} {bytes : List ℕ} → m ≡ suc n → BeginsNoneAt s depth bytes → NoRowsFill s m depth bytes
no_row_at {s = s} {n = n} {m = m} {depth = depth} {bytes = bytes} k none = record { none = λ rows r. go rows r.shaped r.counted r.spelled }
  where
    go : (rows : Tree) → Is (Shape.many s) rows → count rows ≡ m → Spelled rows bytes → Shallow depth rows → ⊥
    go rows Is.nil counted p shallow = omega arith
    go rows (Is.cons {t = t} {u = u} d d') counted p shallow =
        none.none p.1 t (record {
          begins = record { text = p.0; spells = record { shaped = d; spelled = p.3 }; reads = p.2 };
          shallow = (shallow_first shallow).0;
        })

no_rows_behind_at : {s : Shape} {n depth : ℕ} {bytes : List ℕ} → n ≡ 0 → bytes ≢ [] → NoRowsFill s n depth bytes
no_rows_behind_at {s = s} {n = n} {depth = depth} {bytes = bytes} k more = record { none = λ rows r. go rows r.shaped r.counted r.spelled }
  where
    go : (rows : Tree) → Is (Shape.many s) rows → count rows ≡ n → Spelled rows bytes → Shallow depth rows → ⊥
    go rows Is.nil counted p shallow = more p
    go rows (Is.cons {u = u} d d') counted p shallow = let some : suc (count u) ≡ n = counted in omega arith

scoped_missing : {shape : Shape} (reader : ScopedStanding) (bytes : List ℕ) → bytes ≡ reader.rows.rest → 0 < reader.rows.left →
    BeginsNoneAt shape reader.depth bytes → ScopedMissing shape reader
scoped_missing reader bytes e more none =
    let here = at_here (sym e) none in
    let some : reader.rows.left ≡ suc (reader.rows.left - 1) = omega arith in
    record { here = inl (more, here); rows = no_row_at some here }

scoped_behind : {shape : Shape} (reader : ScopedStanding) → (reader.rows.left ≡ 0) × (reader.rows.rest ≢ []) → ScopedMissing shape reader
scoped_behind reader left = record { here = inr left; rows = no_rows_behind_at left.0 left.1 }

-- ---- refusals

-- a reader that is seen as this one refuses so
abbrev Refuses : Bool → Shape → Fault → ScopedStanding → Type 0
Refuses takes shape e old = ReadsNoneIf takes e (place_of old.rows) (ScopedMissing shape old)

seen_as : (takes : Bool) (shape : Shape) (e : Fault) {inside old : ScopedStanding} → inside ≡ old → Refuses takes shape e inside → Refuses takes shape e old
seen_as takes shape e same p = let P : ScopedStanding → Type 0 = λ z. Refuses takes shape e z in subst P same p

either_way : (takes : Bool) (e : Fault) (at : ℕ) (why : Type 0) → ReadsNone e at why → ReadsNoneIf takes e at why
either_way true (fault.Read r) at why p = p
either_way true fault.CodeSize at why p = absurd p
either_way true (fault.Header k) at why p = absurd p
either_way true fault.NoMemory at why p = tt
either_way false e at why p = p

for_reason : {P Q : Type 0} (e : Fault) (at : ℕ) → (P → Q) → ReadsNone e at P → ReadsNone e at Q
for_reason (fault.Read r) at f p = (p.0, f p.1)
for_reason fault.CodeSize at f p = absurd p
for_reason (fault.Header k) at f p = absurd p
for_reason fault.NoMemory at f p = absurd p

pub refused_row : (takes : Bool) (shape : Shape) {e : Fault} {old : ScopedStanding} (inside : ScopedStanding) (bytes : List ℕ) → inside ≡ old →
    e ≡ fault.Read (record { at = place_of inside.rows }) → bytes ≡ inside.rows.rest → 0 < inside.rows.left → BeginsNoneAt shape inside.depth bytes → Refuses takes shape e old
refused_row takes shape {e = e} inside bytes same is at more none =
    let P : Fault → Type 0 = λ z. Refuses takes shape z inside in
    let read : Fault = fault.Read (record { at = place_of inside.rows }) in
    seen_as takes shape e same
    (subst P (sym is) (either_way takes read (place_of inside.rows) (ScopedMissing shape inside) (refl, scoped_missing inside bytes at more none)))

pub refused_behind : (takes : Bool) (shape : Shape) {old : ScopedStanding} (e : Fault) (inside : ScopedStanding) → inside ≡ old →
    ReadsNone e (place_of inside.rows) ((inside.rows.left ≡ 0) × (inside.rows.rest ≢ [])) → Refuses takes shape e old
refused_behind takes shape e inside same p =
    seen_as takes shape e same (either_way takes e (place_of inside.rows) (ScopedMissing shape inside) (for_reason e (place_of inside.rows) (scoped_behind inside) p))
