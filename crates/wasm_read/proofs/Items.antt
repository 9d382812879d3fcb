-- What is exported, at the front of some bytes, by the byte of its kind.
use Rattle.std.proofs.Common.{◌≡◌, ◌≢◌, ℕ, ◌<◌, List, ◌∷◌, refl, false, arith}
use Rattle.std.proofs.lemmas.Bool.Decides.{nat_tests}
use Rattle.wasm_leb.specs.Place.{BeginsNumber, BeginsNoNumber}
use Rattle.wasm_shapes.specs.Shape.{Shape, Named}
use Rattle.wasm_shapes.specs.NamedShapes.{shape_of}
use Rattle.wasm_shapes.specs.Sound.{contains, first_bytes}
use Rattle.wasm_shapes.specs.Place.{Begins, BeginsNone}
use Rattle.wasm_shapes.proofs.Begins.{begins_ref, begins_row, begins_seq, begins_byte, begins_ix, none_here, none_ref, none_choice, none_lead, none_seq_second, none_ix, none_by_front}
use Rattle.wasm_shapes.proofs.Parts.{begins_alike, begins_alike_other}
use Rattle.wasm_read.specs.declared.types.ExternalKind.{ExternalKind}
use Rattle.wasm_read.specs.declared.types.ExternalKind.TheVariants as external
use Rattle.wasm_read.specs.Types.{item_tree, kind_byte}

pub item_begins : (kind : ExternalKind) {i : ℕ} {bytes xs left : List ℕ} → bytes ≡ kind_byte kind ∷ xs → BeginsNumber 128 32 32 xs i left →
    Begins (Shape.ref Named.item) bytes (item_tree kind i) left
item_begins external.Func e n = begins_ref (begins_row {k = 0} (begins_seq (begins_alike e) (begins_ix n)))
item_begins external.FuncExact e n = begins_ref (begins_row {k = 0} (begins_seq (begins_alike_other e) (begins_ix n)))
item_begins external.Table e n = begins_ref (begins_row {k = 1} (begins_seq (begins_byte e) (begins_ix n)))
item_begins external.Memory e n = begins_ref (begins_row {k = 2} (begins_seq (begins_byte e) (begins_ix n)))
item_begins external.Global e n = begins_ref (begins_row {k = 3} (begins_seq (begins_byte e) (begins_ix n)))
item_begins external.Tag e n = begins_ref (begins_row {k = 4} (begins_seq (begins_byte e) (begins_ix n)))

pub item_none : (kind : ExternalKind) {bytes xs : List ℕ} → bytes ≡ kind_byte kind ∷ xs → BeginsNoNumber 128 32 32 xs → BeginsNone (Shape.ref Named.item) bytes
item_none external.Func e none =
    none_here e (none_ref (none_choice (shape_of Named.item) 0x00 _ refl (none_seq_second refl refl (begins_alike {b = 0x00} {c = 0x20} refl) (none_ix none), tt)))
item_none external.FuncExact e none =
    none_here e (none_ref (none_choice (shape_of Named.item) 0x20 _ refl (none_seq_second refl refl (begins_alike_other {b = 0x00} {c = 0x20} refl) (none_ix none), tt)))
item_none external.Table e none = none_here e (none_ref (none_choice (shape_of Named.item) 0x01 _ refl (none_lead refl (none_ix none), tt)))
item_none external.Memory e none = none_here e (none_ref (none_choice (shape_of Named.item) 0x02 _ refl (none_lead refl (none_ix none), tt)))
item_none external.Global e none = none_here e (none_ref (none_choice (shape_of Named.item) 0x03 _ refl (none_lead refl (none_ix none), tt)))
item_none external.Tag e none = none_here e (none_ref (none_choice (shape_of Named.item) 0x04 _ refl (none_lead refl (none_ix none), tt)))

-- no kind has the byte
pub no_kind : {b : ℕ} {bytes xs : List ℕ} → bytes ≡ b ∷ xs → 0x04 < b → b ≢ 0x20 → BeginsNone (Shape.ref Named.item) bytes
no_kind {b = b} e above other =
    let outside : contains (first_bytes (shape_of Named.item)) b ≡ false = grind (arith, nat_tests) in
    none_here e (none_ref (none_by_front refl outside))
