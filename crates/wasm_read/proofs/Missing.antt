-- Rows that are not there.
use Rattle.std.proofs.Common.{◌≡◌, ℕ, ◌-◌, ◌<◌, List, suc, inl, arith, refl, subst, sym}
use Rattle.wasm_leb.specs.declared.fault.Fault.{Fault}
use Rattle.wasm_leb.specs.declared.fault.Fault.TheVariants as fault
use Rattle.wasm_shapes.specs.Shape.{Shape}
use Rattle.wasm_shapes.specs.Place.{BeginsNone}
use Rattle.wasm_shapes.proofs.Begins.{none_here}
use Rattle.wasm_shapes.proofs.Rows.{no_row}
use Rattle.wasm_read.specs.Reading.{ReadsNone, RowMissing, Standing, place_of}

pub row_missing : {shape : Shape} (reader : Standing) (bytes : List ℕ) → bytes ≡ reader.rest → 0 < reader.left → BeginsNone shape bytes → RowMissing shape reader
row_missing reader bytes e more none =
    let here = none_here (sym e) none in
    let some : reader.left ≡ suc (reader.left - 1) = omega arith in
    record { here = inl (more, here); rows = no_row some here }

-- and a refusal that says so, of a reader by another name
pub reads_missing : {shape : Shape} {f : Fault} (rows reader : Standing) (bytes : List ℕ) → rows ≡ reader → f ≡ fault.Read (record { at = place_of rows }) → bytes ≡ rows.rest → 0 < rows.left →
    BeginsNone shape bytes → ReadsNone f (place_of reader) (RowMissing shape reader)
reads_missing {shape = shape} {f = f} rows reader bytes same is e more none =
    let P : Standing → Type 0 = λ z. ReadsNone f (place_of z) (RowMissing shape z) in
    let Q : Fault → Type 0 = λ z. ReadsNone z (place_of rows) (RowMissing shape rows) in
    subst P same (subst Q (sym is) (refl, row_missing rows bytes e more none))
