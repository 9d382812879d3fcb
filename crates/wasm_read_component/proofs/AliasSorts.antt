-- Aliases at the front of some bytes, by their sorts.
use Rattle.std.proofs.Common.{◌≡◌, ◌≢◌, inl, inr, ℕ, ◌≤◌, List, ◌∷◌, Option, Some, None, IfSome, IfNone, refl, sym, subst, arith}
use Rattle.wasm_shapes.specs.declared.Space.TheVariants as space
use Rattle.wasm_shapes.specs.Tree.{Tree}
use Rattle.wasm_shapes.specs.Place.{Begins, BeginsNone}
use Rattle.wasm_shapes.specs.Component.{alias, core_alias, core_instance_export}
use Rattle.wasm_shapes.proofs.Begins.{begins_ref, begins_row, begins_seq, begins_byte, begins_within, at_byte, none_here, none_byte, none_or, none_row, none_seq_first, none_seq_second}
use Rattle.wasm_types.specs.declared.components.ComponentExternalKind.TheVariants as component
use Rattle.wasm_types.specs.declared.components.ComponentOuterAliasKind.TheVariants as outer
use Rattle.wasm_read_component.specs.Aliases.{ComponentAlias, alias_tree, CoreBegins, ExportBegins, TargetBegins}

pub some_to : {A : Type 0} {P Q : A → Type 0} (o : Option A) → IfSome o P → ((x : A) → P x → Q x) → IfSome o Q
some_to (Some x) p f = f x p
some_to None p f = tt

pub none_to : {A : Type 0} {P Q : Type 0} (o : Option A) → IfNone o P → (P → Q) → IfNone o Q
none_to (Some x) p f = tt
none_to None p f = f p

-- ---- core sorts

pub none_core : {b : ℕ} {bytes xs : List ℕ} → bytes ≡ b ∷ xs → b ≤ 4 → BeginsNone core_instance_export xs → BeginsNone core_alias bytes
none_core {b = b} e low none =
    none_here e
    (none_or (none_seq_second refl refl (begins_within (omega arith) low (omega (arith, low)) refl) none)
    (none_or (none_seq_first (none_byte (other 16 (omega arith)))) (none_or (none_seq_first (none_byte (other 17 (omega arith)))) none_row)))
  where
    other : (n : ℕ) → 5 ≤ n → b ≢ n
    other n above same = omega (arith, above, same, low)

pub core_begins : {b : ℕ} {bytes rest left : List ℕ} {t : Tree} → bytes ≡ b ∷ rest → b ≡ 0x00 → CoreBegins rest t left → Begins alias bytes t left
core_begins {bytes = bytes} {left = left} e same p =
    let P : Tree → Type 0 = λ z. Begins alias bytes z left in
    subst P (sym p.is) (begins_ref (begins_row {k = 0} (begins_seq (begins_byte (at_byte e same)) p.begins)))

-- ---- sorts of which instances export

there : {bytes left : List ℕ} {t u : Tree} → u ≡ t → Begins alias bytes t left → Begins alias bytes u left
there {bytes = bytes} {left = left} is p = let P : Tree → Type 0 = λ z. Begins alias bytes z left in subst P (sym is) p

module _ {b : ℕ} {bytes rest left : List ℕ} {a : ComponentAlias} (e : bytes ≡ b ∷ rest) where
  pub func_begins : b ≡ 0x01 → ExportBegins rest component.Func a left → Begins alias bytes (alias_tree a) left
  func_begins same p = there p.is (begins_ref (begins_row {k = 1} (begins_seq (begins_byte (at_byte e same)) p.begins)))

  pub value_begins : b ≡ 0x02 → ExportBegins rest component.Value a left → Begins alias bytes (alias_tree a) left
  value_begins same p = there p.is (begins_ref (begins_row {k = 2} (begins_seq (begins_byte (at_byte e same)) p.begins)))

  pub instance_begins : b ≡ 0x05 → ExportBegins rest component.Instance a left → Begins alias bytes (alias_tree a) left
  instance_begins same p = there p.is (begins_ref (begins_row {k = 5} (begins_seq (begins_byte (at_byte e same)) p.begins)))

  pub type_begins : b ≡ 0x03 → TargetBegins rest component.Type_ outer.Type_ a left → Begins alias bytes (alias_tree a) left
  type_begins same (inl p) = there p.is (begins_ref (begins_row {k = 3} (begins_seq (begins_byte (at_byte e same)) (p.begins space.ComponentType))))
  type_begins same (inr p) = there p.is (begins_ref (begins_row {k = 3} (begins_seq (begins_byte (at_byte e same)) (p.begins space.ComponentType))))

  pub component_begins : b ≡ 0x04 → TargetBegins rest component.Component outer.Component a left → Begins alias bytes (alias_tree a) left
  component_begins same (inl p) = there p.is (begins_ref (begins_row {k = 4} (begins_seq (begins_byte (at_byte e same)) (p.begins space.Component))))
  component_begins same (inr p) = there p.is (begins_ref (begins_row {k = 4} (begins_seq (begins_byte (at_byte e same)) (p.begins space.Component))))
