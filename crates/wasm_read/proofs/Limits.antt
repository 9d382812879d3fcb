-- Limits at the front of some bytes, by their flags.
use Rattle.std.proofs.Common.{◌≡◌, ℕ, ◌<◌, Bool, true, false, not, List, ◌∷◌, Option, Some, None, refl, ap, ◌∙◌, arith}
use Rattle.wasm_leb.specs.Place.{BeginsNumber, BeginsNoNumber}
use Rattle.std.specs.Option.{is_some}
use Rattle.wasm_shapes.specs.Tree.{Tree}
use Rattle.wasm_shapes.specs.Shape.{bounds, paged, table_limits, memory_type, closed}
use Rattle.wasm_shapes.specs.Sound.{sound}
use Rattle.wasm_shapes.specs.Place.{Begins, BeginsNone}
use Rattle.wasm_shapes.proofs.Begins.{begins_byte, begins_row, begins_seq, begins_u64, none_here, none_choice, none_lead, none_seq_first, none_seq_second, none_u32, none_u64}
use Rattle.wasm_read.specs.Types.{limits_flags, limits_tree, bounds_tree, paged_tree}

-- ---- a minimum and a maximum

pub bounds_low : (m : Bool) {n : ℕ} {bytes left : List ℕ} → m ≡ false → BeginsNumber 128 64 64 bytes n left → Begins (bounds m) bytes (bounds_tree n None) left
bounds_low false e p = begins_u64 p
bounds_low true e p = absurd cc

pub bounds_both : (m : Bool) {n h : ℕ} {bytes middle left : List ℕ} → m ≡ true → BeginsNumber 128 64 64 bytes n middle → BeginsNumber 128 64 64 middle h left →
    Begins (bounds m) bytes (bounds_tree n (Some h)) left
bounds_both true e p q = begins_seq (begins_u64 p) (begins_u64 q)
bounds_both false e p q = absurd cc

pub no_low : (m : Bool) {bytes : List ℕ} → BeginsNoNumber 128 64 64 bytes → BeginsNone (bounds m) bytes
no_low false none = none_u64 none
no_low true none = none_seq_first (none_u64 none)

pub no_high : (m : Bool) {n : ℕ} {bytes middle : List ℕ} → m ≡ true → BeginsNumber 128 64 64 bytes n middle → BeginsNoNumber 128 64 64 middle → BeginsNone (bounds m) bytes
no_high true e p none = none_seq_second refl refl (begins_u64 p) (none_u64 none)
no_high false e p none = absurd cc

-- ---- a page size behind them

bounds_sound : (m : Bool) → (sound (bounds m) ≡ true) × (closed (bounds m) ≡ true)
bounds_sound false = (refl, refl)
bounds_sound true = (refl, refl)

-- the same maximum
pub bounds_as : {m k : Bool} {t : Tree} {bytes left : List ℕ} → k ≡ m → Begins (bounds m) bytes t left → Begins (bounds k) bytes t left
bounds_as {m = true} {k = true} e p = p
bounds_as {m = false} {k = false} e p = p
bounds_as {m = true} {k = false} e p = absurd cc
bounds_as {m = false} {k = true} e p = absurd cc

pub no_bounds : (m p : Bool) {bytes : List ℕ} → BeginsNone (bounds m) bytes → BeginsNone (paged p (bounds m)) bytes
no_bounds m false none = none
no_bounds m true none = none_seq_first none

pub no_page : (m p : Bool) {t : Tree} {bytes middle : List ℕ} → not p ≡ false → Begins (bounds m) bytes t middle → BeginsNoNumber 128 32 32 middle → BeginsNone (paged p (bounds m)) bytes
no_page m true e there none = none_seq_second (bounds_sound m).0 (bounds_sound m).1 there (none_u32 none)
no_page m false e there none = absurd cc

-- ---- behind their flags

pub memory_begins : (m s w p : Bool) {t : Tree} {bytes rest left : List ℕ} → bytes ≡ limits_flags m s w p ∷ rest → Begins (paged p (bounds m)) rest t left →
    Begins memory_type bytes (limits_tree (limits_flags m s w p) t) left
memory_begins false false false false e q = begins_row {k = 0} (begins_seq (begins_byte e) q)
memory_begins true false false false e q = begins_row {k = 1} (begins_seq (begins_byte e) q)
memory_begins false true false false e q = begins_row {k = 2} (begins_seq (begins_byte e) q)
memory_begins true true false false e q = begins_row {k = 3} (begins_seq (begins_byte e) q)
memory_begins false false true false e q = begins_row {k = 4} (begins_seq (begins_byte e) q)
memory_begins true false true false e q = begins_row {k = 5} (begins_seq (begins_byte e) q)
memory_begins false true true false e q = begins_row {k = 6} (begins_seq (begins_byte e) q)
memory_begins true true true false e q = begins_row {k = 7} (begins_seq (begins_byte e) q)
memory_begins false false false true e q = begins_row {k = 8} (begins_seq (begins_byte e) q)
memory_begins true false false true e q = begins_row {k = 9} (begins_seq (begins_byte e) q)
memory_begins false true false true e q = begins_row {k = 10} (begins_seq (begins_byte e) q)
memory_begins true true false true e q = begins_row {k = 11} (begins_seq (begins_byte e) q)
memory_begins false false true true e q = begins_row {k = 12} (begins_seq (begins_byte e) q)
memory_begins true false true true e q = begins_row {k = 13} (begins_seq (begins_byte e) q)
memory_begins false true true true e q = begins_row {k = 14} (begins_seq (begins_byte e) q)
memory_begins true true true true e q = begins_row {k = 15} (begins_seq (begins_byte e) q)

pub memory_none : (m s w p : Bool) {bytes rest : List ℕ} → bytes ≡ limits_flags m s w p ∷ rest → BeginsNone (paged p (bounds m)) rest → BeginsNone memory_type bytes
memory_none false false false false e none = none_here e (none_choice memory_type 0 _ refl (none_lead refl none, tt))
memory_none true false false false e none = none_here e (none_choice memory_type 1 _ refl (none_lead refl none, tt))
memory_none false true false false e none = none_here e (none_choice memory_type 2 _ refl (none_lead refl none, tt))
memory_none true true false false e none = none_here e (none_choice memory_type 3 _ refl (none_lead refl none, tt))
memory_none false false true false e none = none_here e (none_choice memory_type 4 _ refl (none_lead refl none, tt))
memory_none true false true false e none = none_here e (none_choice memory_type 5 _ refl (none_lead refl none, tt))
memory_none false true true false e none = none_here e (none_choice memory_type 6 _ refl (none_lead refl none, tt))
memory_none true true true false e none = none_here e (none_choice memory_type 7 _ refl (none_lead refl none, tt))
memory_none false false false true e none = none_here e (none_choice memory_type 8 _ refl (none_lead refl none, tt))
memory_none true false false true e none = none_here e (none_choice memory_type 9 _ refl (none_lead refl none, tt))
memory_none false true false true e none = none_here e (none_choice memory_type 10 _ refl (none_lead refl none, tt))
memory_none true true false true e none = none_here e (none_choice memory_type 11 _ refl (none_lead refl none, tt))
memory_none false false true true e none = none_here e (none_choice memory_type 12 _ refl (none_lead refl none, tt))
memory_none true false true true e none = none_here e (none_choice memory_type 13 _ refl (none_lead refl none, tt))
memory_none false true true true e none = none_here e (none_choice memory_type 14 _ refl (none_lead refl none, tt))
memory_none true true true true e none = none_here e (none_choice memory_type 15 _ refl (none_lead refl none, tt))

-- the flags of a table say nothing of pages
unpaged : (m s w : Bool) {b : ℕ} → b ≡ limits_flags m s w true → b < 8 → ⊥
unpaged m s w e l = omega arith

low_begins : (m s w : Bool) {t : Tree} {bytes rest left : List ℕ} → bytes ≡ limits_flags m s w false ∷ rest → Begins (bounds m) rest t left →
    Begins table_limits bytes (limits_tree (limits_flags m s w false) t) left
low_begins false false false e q = begins_row {k = 0} (begins_seq (begins_byte e) q)
low_begins true false false e q = begins_row {k = 1} (begins_seq (begins_byte e) q)
low_begins false true false e q = begins_row {k = 2} (begins_seq (begins_byte e) q)
low_begins true true false e q = begins_row {k = 3} (begins_seq (begins_byte e) q)
low_begins false false true e q = begins_row {k = 4} (begins_seq (begins_byte e) q)
low_begins true false true e q = begins_row {k = 5} (begins_seq (begins_byte e) q)
low_begins false true true e q = begins_row {k = 6} (begins_seq (begins_byte e) q)
low_begins true true true e q = begins_row {k = 7} (begins_seq (begins_byte e) q)

low_none : (m s w : Bool) {bytes rest : List ℕ} → bytes ≡ limits_flags m s w false ∷ rest → BeginsNone (bounds m) rest → BeginsNone table_limits bytes
low_none false false false e none = none_here e (none_choice table_limits 0 _ refl (none_lead refl none, tt))
low_none true false false e none = none_here e (none_choice table_limits 1 _ refl (none_lead refl none, tt))
low_none false true false e none = none_here e (none_choice table_limits 2 _ refl (none_lead refl none, tt))
low_none true true false e none = none_here e (none_choice table_limits 3 _ refl (none_lead refl none, tt))
low_none false false true e none = none_here e (none_choice table_limits 4 _ refl (none_lead refl none, tt))
low_none true false true e none = none_here e (none_choice table_limits 5 _ refl (none_lead refl none, tt))
low_none false true true e none = none_here e (none_choice table_limits 6 _ refl (none_lead refl none, tt))
low_none true true true e none = none_here e (none_choice table_limits 7 _ refl (none_lead refl none, tt))

pub table_begins : (m s w : Bool) (page : Option ℕ) {b : ℕ} {t : Tree} {bytes rest left : List ℕ} → b ≡ limits_flags m s w (is_some page) → b < 8 → bytes ≡ b ∷ rest →
    Begins (paged (is_some page) (bounds m)) rest (paged_tree page t) left → Begins table_limits bytes (limits_tree (limits_flags m s w false) t) left
table_begins m s w None {b = b} {rest = rest} e l is q = low_begins m s w (is ∙ ap (λ (z : ℕ). z ∷ rest) e) q
table_begins m s w (Some page) e l is q = absurd (unpaged m s w e l)

pub table_none : (m s w p : Bool) {b : ℕ} {bytes rest : List ℕ} → b ≡ limits_flags m s w p → b < 8 → bytes ≡ b ∷ rest → BeginsNone (paged p (bounds m)) rest → BeginsNone table_limits bytes
table_none m s w false {rest = rest} e l is none = low_none m s w (is ∙ ap (λ (z : ℕ). z ∷ rest) e) none
table_none m s w true e l is none = absurd (unpaged m s w e l)
