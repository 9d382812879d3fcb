-- Data segments, as rows.
use Rattle.std.specs.Prelude.{IfErr}
use Rattle.std.proofs.Common.{◌≡◌, ℕ, ◌-◌, ◌<◌, ◌^◌, List, [], ◌∷◌, ◌++◌, length, All, ◌⊎◌, Result, Ok, Err, refl, arith, inl, inr}
use Rattle.std.proofs.lemmas.List.Elements.{Contains-append_cases}
use mathlib.Core.Logic.{∥∥₁_map}
use Rattle.wasm_shapes.specs.Tree.{Tree, normal}
use Rattle.wasm_shapes.specs.Shape.{Shape, Named}
use Rattle.wasm_shapes.specs.Spells.{Is, Spells}
use Rattle.wasm_shapes.specs.Module.{data_row}
use Rattle.wasm_shapes.specs.Types.{expression_of, passive_data_tree}
use Rattle.wasm_shapes.proofs.Frameless.{frameless_spells}
use Rattle.wasm_shapes.proofs.ReadBack.{spelled_in_range, in_range_had}
use Rattle.wasm_write.specs.declared.fault.WriteFault.{WriteFault}
use Rattle.wasm_write.specs.declared.fault.WriteFault.TheVariants.{TooLarge, NoMemory}
use Rattle.wasm_write.specs.Counts.{counts, IsTooLarge}
use Rattle.wasm_write.specs.Faults.{IfTooLarge}
use Rattle.wasm_write.specs.Rows.{active_data_tree}
use Rattle.wasm_write.proofs.Items.{large_first, large_right}
use Rattle.wasm_write.proofs.SmallCounts.{IsSmall, counts_small, last_is_large}

-- the normal spelling of an expression spells it
abbrev pub OffsetSpelled : List Tree → Type 0
OffsetSpelled offset = ∥ Spells (Shape.ref Named.expression) (normal (expression_of offset)) (expression_of offset) ∥₁

pub active_spelled : (memory : ℕ) (offset : List Tree) (bytes : List ℕ) → memory < 2 ^ 32 → OffsetSpelled offset → length bytes < 2 ^ 32 →
    ∥ Spells data_row (normal (active_data_tree memory offset bytes)) (active_data_tree memory offset bytes) ∥₁
active_spelled memory offset bytes small p short =
    ∥∥₁_map p (λ q. frameless_spells data_row refl (Is.first (Is.placed q.shaped Is.content)) (small, spelled_in_range (expression_of offset) (normal (expression_of offset)) q.spelled, short))

pub passive_spelled : (bytes : List ℕ) → length bytes < 2 ^ 32 → ∥ Spells data_row (normal (passive_data_tree bytes)) (passive_data_tree bytes) ∥₁
passive_spelled bytes short = ∣ frameless_spells data_row refl (Is.later {k = 0} (Is.first (Is.seq Is.flag Is.content))) (omega arith, short) ∣₁

-- the bytes are too many
pub active_large : (memory : ℕ) (offset : List Tree) (bytes : List ℕ) (e : WriteFault) → IfTooLarge e (λ size. (size ≡ length bytes) × (2 ^ 32 - 1 < size)) →
    IfTooLarge e (IsTooLarge (counts (active_data_tree memory offset bytes)))
active_large memory offset bytes e p = large_right e (counts (expression_of offset)) (length bytes ∷ []) (large_first e (length bytes) [] p)

-- An expression has a spelling, and so a segment is refused for its bytes or for the number of the rows.
pub active_refused : {A : Type 0} (r : Result A WriteFault) (memory : ℕ) (offset : List Tree) (bytes : List ℕ) (n : ℕ) → OffsetSpelled offset →
    IfErr r (λ f. IfTooLarge f (IsTooLarge (counts (active_data_tree memory offset bytes) ++ n ∷ []))) →
    IfErr r (λ f. IfTooLarge f (λ size. ((size ≡ length bytes) ⊎ (size ≡ n)) × (2 ^ 32 - 1 < size)))
active_refused (Ok a) memory offset bytes n p q = tt
active_refused (Err NoMemory) memory offset bytes n p q = tt
active_refused (Err (TooLarge size)) memory offset bytes n p q =
    let e : Tree = expression_of offset in
    let ranged = in_range_had e (∥∥₁_map p (λ s. spelled_in_range e (normal e) s.spelled)) in
    one_of_two (counts e) (counts_small e ranged) q
  where
    one_of_two : (xs : List ℕ) → All IsSmall xs → IsTooLarge ((xs ++ length bytes ∷ []) ++ n ∷ []) size → ((size ≡ length bytes) ⊎ (size ≡ n)) × (2 ^ 32 - 1 < size)
    one_of_two xs small q = elim (Contains-append_cases (xs ++ length bytes ∷ []) (n ∷ []) size q.counted) [
      | inl among ↦ let one = last_is_large xs (length bytes) size small (record { counted = among; large = q.large }) in (inl one.0, one.1)
      | inr last ↦ let one = last_is_large [] n size (λ k i e. absurd (omega arith)) (record { counted = last; large = q.large }) in (inr one.0, one.1)
    ]
