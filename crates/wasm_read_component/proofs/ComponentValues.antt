-- Types of values, sorts and names at the front of some bytes.
use Rattle.std.proofs.Common.{◌≡◌, ◌≢◌, ℕ, ◌≤◌, zero, suc, List, [], ◌∷◌, ◌++◌, Bool, true, false, nat_eq, refl, ap, arith}
use Rattle.std.proofs.lemmas.Bool.{eqb-true, eqb-false}
use Rattle.wasm_shapes.specs.Tree.{Tree}
use Rattle.wasm_shapes.specs.Shape.{Shape, choice, lead}
use Rattle.wasm_shapes.specs.Place.{Begins, BeginsNone}
use Rattle.wasm_shapes.specs.Component.{extern_name, primitive}
use Rattle.wasm_shapes.proofs.Begins.{begins_byte, begins_row, begins_seq, none_at_end, none_byte, none_choice, none_here, none_lead, none_or, none_row, none_seq_first}
use Rattle.wasm_shapes.proofs.Parts.{begins_alike, begins_alike_other}
use Rattle.wasm_types.specs.declared.components.ComponentExternalKind.{ComponentExternalKind}
use Rattle.wasm_types.specs.declared.components.ComponentExternalKind.TheVariants as kind
use Rattle.wasm_types.specs.declared.components.PrimitiveValType.{PrimitiveValType}
use Rattle.wasm_types.specs.declared.components.PrimitiveValType.TheVariants as ty
use Rattle.wasm_types.specs.ComponentTrees.{extern_name_tree, primitive_byte, primitive_tree, sort_bytes, sort_tree}

-- ---- primitive types

pub primitive_begins : (t : PrimitiveValType) {bytes left : List ℕ} → bytes ≡ primitive_byte t ∷ left → Begins primitive bytes (primitive_tree t) left
primitive_begins ty.Bool e = begins_row (begins_byte e)
primitive_begins _ e = begins_row (begins_byte e)

pub primitive_none : {b : ℕ} {xs : List ℕ} → ((t : PrimitiveValType) → b ≢ primitive_byte t) → BeginsNone primitive (b ∷ xs)
primitive_none f =
    none_or (none_byte (f ty.Bool)) (none_or (none_byte (f ty.S8)) (none_or (none_byte (f ty.U8)) (none_or (none_byte (f ty.S16))
    (none_or (none_byte (f ty.U16)) (none_or (none_byte (f ty.S32)) (none_or (none_byte (f ty.U32)) (none_or (none_byte (f ty.S64))
    (none_or (none_byte (f ty.U64)) (none_or (none_byte (f ty.F32)) (none_or (none_byte (f ty.F64)) (none_or (none_byte (f ty.Char))
    (none_or (none_byte (f ty.String)) (none_or (none_byte (f ty.ErrorContext)) none_row)))))))))))))

-- ---- what stands behind a sort

-- by the sort
abbrev pub sorts : (ComponentExternalKind → Shape) → Shape
sorts s = choice (
    lead 0x00 (lead 0x11 (s kind.Module)) ∷ lead 0x01 (s kind.Func) ∷ lead 0x02 (s kind.Value) ∷ lead 0x03 (s kind.Type_) ∷
    lead 0x04 (s kind.Component) ∷ lead 0x05 (s kind.Instance) ∷ [])

module _ (s : ComponentExternalKind → Shape) where
  pub sort_begins : (k : ComponentExternalKind) {bytes xs left : List ℕ} {t : Tree} → bytes ≡ sort_bytes k ++ xs → Begins (s k) xs t left →
      Begins (sorts s) bytes (sort_tree k t) left
  sort_begins kind.Module e p = begins_row {k = 0} (begins_seq (begins_byte e) (begins_seq (begins_byte refl) p))
  sort_begins kind.Func e p = begins_row {k = 1} (begins_seq (begins_byte e) p)
  sort_begins kind.Value e p = begins_row {k = 2} (begins_seq (begins_byte e) p)
  sort_begins kind.Type_ e p = begins_row {k = 3} (begins_seq (begins_byte e) p)
  sort_begins kind.Component e p = begins_row {k = 4} (begins_seq (begins_byte e) p)
  sort_begins kind.Instance e p = begins_row {k = 5} (begins_seq (begins_byte e) p)

  pub sort_none : (k : ComponentExternalKind) {bytes xs : List ℕ} → bytes ≡ sort_bytes k ++ xs → BeginsNone (s k) xs → BeginsNone (sorts s) bytes
  sort_none kind.Module e n = none_here e (none_choice (sorts s) 0x00 _ refl (none_lead refl (none_lead refl n), tt))
  sort_none kind.Func e n = none_here e (none_choice (sorts s) 0x01 _ refl (none_lead refl n, tt))
  sort_none kind.Value e n = none_here e (none_choice (sorts s) 0x02 _ refl (none_lead refl n, tt))
  sort_none kind.Type_ e n = none_here e (none_choice (sorts s) 0x03 _ refl (none_lead refl n, tt))
  sort_none kind.Component e n = none_here e (none_choice (sorts s) 0x04 _ refl (none_lead refl n, tt))
  sort_none kind.Instance e n = none_here e (none_choice (sorts s) 0x05 _ refl (none_lead refl n, tt))

  pub no_sort : (bytes : List ℕ) → ((k : ComponentExternalKind) (rest : List ℕ) → bytes ≢ sort_bytes k ++ rest) → BeginsNone (sorts s) bytes
  no_sort [] f = none_at_end refl
  no_sort (b ∷ xs) f =
      none_or (module_none xs (nat_eq b 0) refl (λ ys. f kind.Module ys))
      (none_or (none_seq_first (none_byte (apart kind.Func 1 refl))) (none_or (none_seq_first (none_byte (apart kind.Value 2 refl)))
      (none_or (none_seq_first (none_byte (apart kind.Type_ 3 refl))) (none_or (none_seq_first (none_byte (apart kind.Component 4 refl)))
      (none_or (none_seq_first (none_byte (apart kind.Instance 5 refl))) none_row)))))
    where
      apart : (k : ComponentExternalKind) (c : ℕ) → sort_bytes k ≡ c ∷ [] → b ≢ c
      apart k c e same = f k xs (rw e (ap (λ (z : ℕ). z ∷ xs) same))

      module_none : (ys : List ℕ) (zeroth : Bool) → nat_eq b 0 ≡ zeroth → ((rest : List ℕ) → b ∷ ys ≢ 0x00 ∷ 0x11 ∷ rest) →
          BeginsNone (lead 0x00 (lead 0x11 (s kind.Module))) (b ∷ ys)
      module_none ys false h g = none_seq_first (none_byte (eqb-false b 0 h))
      module_none [] true h g = none_lead (eqb-true b 0 h) (none_at_end refl)
      module_none (c ∷ ys) true h g =
          let zeroth : b ≡ 0 = eqb-true b 0 h in
          none_lead zeroth (none_seq_first (none_byte (λ same. g ys (rw (zeroth, same) refl))))

-- ---- names of what is imported and exported

pub extern_begins : {b : ℕ} {bytes xs left name : List ℕ} → bytes ≡ b ∷ xs → b ≤ 1 → Begins Shape.name xs (Tree.name name) left →
    Begins extern_name bytes (extern_name_tree name) left
extern_begins {b = zero} e low p = begins_seq (begins_alike e) p
extern_begins {b = suc zero} e low p = begins_seq (begins_alike_other e) p
extern_begins {b = suc (suc b)} e low p = absurd (omega (arith, low))
