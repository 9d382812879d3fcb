-- Composite types, subtypes and groups at the front of some bytes, by the bytes that they begin with.
use Rattle.std.proofs.Common.{◌≡◌, ◌≢◌, ℕ, List, [], ◌∷◌, refl}
use Rattle.wasm_leb.specs.Place.{BeginsNumber, BeginsNoNumber}
use Rattle.wasm_shapes.specs.declared.Space.TheVariants as space
use Rattle.wasm_shapes.specs.Tree.{Tree}
use Rattle.wasm_shapes.specs.Shape.{Shape, Named, choice, lead, inner_rows, described_rows, describing_rows, composite_rows, sub_rows, group_rows}
use Rattle.wasm_shapes.specs.Place.{Begins, BeginsNone}
use Rattle.wasm_shapes.proofs.Begins.{begins_byte, begins_row, begins_seq, begins_ix, begins_ref, none_by_front, none_byte, none_choice, none_lead, none_seq_first, none_seq_second, none_ix, none_or, none_row, none_here, none_ref}
use Rattle.wasm_shapes.proofs.Parts.{begins_among, none_among, begins_swap, none_swap, begins_final, begins_final_left, none_final, begins_named, none_named}

-- ---- with a descriptor

abbrev descriptor_row : Shape
descriptor_row = Shape.swap (lead 0x4d (Shape.ix space.Type_)) (choice inner_rows)

pub undescribed_begins : {t : Tree} {bytes left : List ℕ} → Begins (choice inner_rows) bytes t left → Begins (choice described_rows) bytes t left
undescribed_begins p = begins_among inner_rows (descriptor_row ∷ []) p

pub undescribed_none : {c : ℕ} {bytes xs : List ℕ} → bytes ≡ c ∷ xs → c ≢ 0x4d → BeginsNone (choice inner_rows) bytes → BeginsNone (choice described_rows) bytes
undescribed_none e other none =
    none_among inner_rows (descriptor_row ∷ []) none (none_or (none_here e (none_swap (none_seq_first (none_seq_first (none_byte other))))) none_row)

pub described_begins : {i : ℕ} {t : Tree} {bytes xs middle left : List ℕ} → bytes ≡ 0x4d ∷ xs → BeginsNumber 128 32 32 xs i middle → Begins (choice inner_rows) middle t left →
    Begins (choice described_rows) bytes (Tree.row 4 (Tree.swap (Tree.pair (Tree.fixed 0x4d) (Tree.ix space.Type_ i)) t)) left
described_begins e n p = begins_row {k = 4} (begins_swap (begins_seq (begins_byte e) (begins_ix n)) p)

pub described_no_index : {bytes xs : List ℕ} → bytes ≡ 0x4d ∷ xs → BeginsNoNumber 128 32 32 xs → BeginsNone (choice described_rows) bytes
described_no_index {xs = xs} e none =
    none_here e (none_choice (choice described_rows) 0x4d xs refl (none_swap (none_seq_first (none_lead refl (none_ix none))), tt))

pub described_none : {i : ℕ} {bytes xs middle : List ℕ} → bytes ≡ 0x4d ∷ xs → BeginsNumber 128 32 32 xs i middle → BeginsNone (choice inner_rows) middle →
    BeginsNone (choice described_rows) bytes
described_none {xs = xs} e n none =
    none_here e
    (none_choice (choice described_rows) 0x4d xs refl
    (none_swap (none_seq_second refl refl (begins_seq (begins_byte refl) (begins_ix {s = space.Type_} n)) none), tt))

-- ---- with what it describes

abbrev describes_row : Shape
describes_row = Shape.swap (lead 0x4c (Shape.ix space.Type_)) (choice described_rows)

pub undescribing_begins : {t : Tree} {bytes left : List ℕ} → Begins (choice described_rows) bytes t left → Begins (choice describing_rows) bytes t left
undescribing_begins p = begins_among described_rows (describes_row ∷ []) p

pub undescribing_none : {c : ℕ} {bytes xs : List ℕ} → bytes ≡ c ∷ xs → c ≢ 0x4c → BeginsNone (choice described_rows) bytes → BeginsNone (choice describing_rows) bytes
undescribing_none e other none =
    none_among described_rows (describes_row ∷ []) none (none_or (none_here e (none_swap (none_seq_first (none_seq_first (none_byte other))))) none_row)

pub describing_begins : {i : ℕ} {t : Tree} {bytes xs middle left : List ℕ} → bytes ≡ 0x4c ∷ xs → BeginsNumber 128 32 32 xs i middle → Begins (choice described_rows) middle t left →
    Begins (choice describing_rows) bytes (Tree.row 5 (Tree.swap (Tree.pair (Tree.fixed 0x4c) (Tree.ix space.Type_ i)) t)) left
describing_begins e n p = begins_row {k = 5} (begins_swap (begins_seq (begins_byte e) (begins_ix n)) p)

pub describing_no_index : {bytes xs : List ℕ} → bytes ≡ 0x4c ∷ xs → BeginsNoNumber 128 32 32 xs → BeginsNone (choice describing_rows) bytes
describing_no_index {xs = xs} e none =
    none_here e (none_choice (choice describing_rows) 0x4c xs refl (none_swap (none_seq_first (none_lead refl (none_ix none))), tt))

pub describing_none : {i : ℕ} {bytes xs middle : List ℕ} → bytes ≡ 0x4c ∷ xs → BeginsNumber 128 32 32 xs i middle → BeginsNone (choice described_rows) middle →
    BeginsNone (choice describing_rows) bytes
describing_none {xs = xs} e n none =
    none_here e
    (none_choice (choice describing_rows) 0x4c xs refl
    (none_swap (none_seq_second refl refl (begins_seq (begins_byte refl) (begins_ix {s = space.Type_} n)) none), tt))

-- ---- shared

abbrev shared_row : Shape
shared_row = lead 0x65 (choice describing_rows)

pub unshared_begins : {t : Tree} {bytes left : List ℕ} → Begins (choice describing_rows) bytes t left → Begins (Shape.ref Named.composite) bytes t left
unshared_begins p = begins_ref (begins_among describing_rows (shared_row ∷ []) p)

pub unshared_none : {c : ℕ} {bytes xs : List ℕ} → bytes ≡ c ∷ xs → c ≢ 0x65 → BeginsNone (choice describing_rows) bytes → BeginsNone (Shape.ref Named.composite) bytes
unshared_none e other none =
    none_ref (none_among describing_rows (shared_row ∷ []) none (none_or (none_here e (none_seq_first (none_byte other))) none_row))

pub shared_begins : {t : Tree} {bytes xs left : List ℕ} → bytes ≡ 0x65 ∷ xs → Begins (choice describing_rows) xs t left →
    Begins (Shape.ref Named.composite) bytes (Tree.row 6 (Tree.pair (Tree.fixed 0x65) t)) left
shared_begins e p = begins_ref (begins_row {k = 6} (begins_seq (begins_byte e) p))

pub shared_none : {bytes xs : List ℕ} → bytes ≡ 0x65 ∷ xs → BeginsNone (choice describing_rows) xs → BeginsNone (Shape.ref Named.composite) bytes
shared_none {xs = xs} e none = none_here e (none_ref (none_choice (choice composite_rows) 0x65 xs refl (none_lead refl none, tt)))

-- ---- subtypes

abbrev supertypes : Shape
supertypes = Shape.vec (Shape.ix space.Type_)

pub open_begins : {t u : Tree} {bytes xs middle left : List ℕ} → bytes ≡ 0x50 ∷ xs → Begins supertypes xs t middle → Begins (Shape.ref Named.composite) middle u left →
    Begins (Shape.ref Named.sub) bytes (Tree.row 1 (Tree.pair (Tree.fixed 0x50) (Tree.pair t u))) left
open_begins e p q = begins_ref (begins_row {k = 1} (begins_seq (begins_byte e) (begins_seq p q)))

pub open_none : {bytes xs : List ℕ} → bytes ≡ 0x50 ∷ xs → BeginsNone (Shape.seq supertypes (Shape.ref Named.composite)) xs → BeginsNone (Shape.ref Named.sub) bytes
open_none {xs = xs} e none = none_here e (none_ref (none_choice (choice sub_rows) 0x50 xs refl (none_lead refl none, tt)))

pub final_begins : {t u : Tree} {bytes xs middle left : List ℕ} → bytes ≡ 0x4f ∷ xs → Begins supertypes xs (Tree.vec t) middle → Begins (Shape.ref Named.composite) middle u left →
    Begins (Shape.ref Named.sub) bytes (Tree.row 0 (Tree.final t u)) left
final_begins e p q = begins_ref (begins_row {k = 0} (begins_final e p q))

pub final_none : {bytes xs : List ℕ} → bytes ≡ 0x4f ∷ xs → BeginsNone (Shape.seq supertypes (Shape.ref Named.composite)) xs → BeginsNone (Shape.ref Named.sub) bytes
final_none {xs = xs} e none =
    none_here e (none_ref (none_choice (choice sub_rows) 0x4f xs refl (none_final (none_by_front refl refl) (none_lead refl none), tt)))

pub alone_begins : {u : Tree} {bytes left : List ℕ} → Begins (Shape.ref Named.composite) bytes u left → Begins (Shape.ref Named.sub) bytes (Tree.row 0 (Tree.final Tree.nil u)) left
alone_begins p = begins_ref (begins_row {k = 0} (begins_final_left p))

pub alone_none : {c : ℕ} {bytes xs : List ℕ} → bytes ≡ c ∷ xs → c ≢ 0x4f → c ≢ 0x50 → BeginsNone (Shape.ref Named.composite) bytes → BeginsNone (Shape.ref Named.sub) bytes
alone_none e other another none =
    none_ref
    (none_or (none_final none (none_here e (none_seq_first (none_byte other))))
    (none_or (none_here e (none_seq_first (none_byte another))) none_row))

-- ---- groups

abbrev explicit_row : Shape
explicit_row = lead 0x4e (Shape.vec (Shape.ref Named.sub))

pub bare_begins : {t : Tree} {bytes left : List ℕ} → Begins (Shape.ref Named.sub) bytes t left → Begins (Shape.ref Named.group) bytes t left
bare_begins p = begins_ref (begins_among sub_rows (explicit_row ∷ []) (begins_named p))

pub bare_none : {c : ℕ} {bytes xs : List ℕ} → bytes ≡ c ∷ xs → c ≢ 0x4e → BeginsNone (Shape.ref Named.sub) bytes → BeginsNone (Shape.ref Named.group) bytes
bare_none e other none =
    none_ref (none_among sub_rows (explicit_row ∷ []) (none_named Named.sub none) (none_or (none_here e (none_seq_first (none_byte other))) none_row))

pub explicit_begins : {t : Tree} {bytes xs left : List ℕ} → bytes ≡ 0x4e ∷ xs → Begins (Shape.vec (Shape.ref Named.sub)) xs t left →
    Begins (Shape.ref Named.group) bytes (Tree.row 2 (Tree.pair (Tree.fixed 0x4e) t)) left
explicit_begins e p = begins_ref (begins_row {k = 2} (begins_seq (begins_byte e) p))

pub explicit_none : {bytes xs : List ℕ} → bytes ≡ 0x4e ∷ xs → BeginsNone (Shape.vec (Shape.ref Named.sub)) xs → BeginsNone (Shape.ref Named.group) bytes
explicit_none {xs = xs} e none = none_here e (none_ref (none_choice (choice group_rows) 0x4e xs refl (none_lead refl none, tt)))
