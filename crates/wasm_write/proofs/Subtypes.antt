-- The spelling and the counts of a final type, with supertypes and without.
use Rattle.std.specs.Prelude.{IfErr}
use Rattle.std.proofs.Common.{◌≡◌, ℕ, Bool, true, false, List, [], ◌∷◌, length, nat_eq, map, Result, Ok, Err, ap, append_assoc, arith}
use Rattle.std.proofs.lemmas.Bool.{eqb-true}
use Rattle.wasm_leb.specs.Leb.{leb}
use Rattle.wasm_shapes.specs.Tree.{Tree, count, normal}
use Rattle.wasm_write.specs.declared.fault.WriteFault.{WriteFault}
use Rattle.wasm_write.specs.Counts.{counts, IsTooLarge}
use Rattle.wasm_write.specs.Faults.{IfTooLarge}
use Rattle.wasm_shapes.specs.Types.{led, rows_tree, sub_type_of}
use Rattle.wasm_write.specs.Types.{type_index, supertypes_tree}
use Rattle.wasm_write.proofs.Items.{large_right}

-- with supertypes the byte and their number stand before them
pub marked_normal : (is_final : Bool) (supertypes : List ℕ) (t : Tree) → is_final ≡ true → nat_eq (length supertypes) 0 ≡ false →
    normal (led 0x4f (Tree.pair (supertypes_tree supertypes) t)) ≡ normal (sub_type_of is_final (map type_index supertypes) t)
marked_normal false is t e h = absurd cc
marked_normal true [] t e h = absurd cc
marked_normal true (i ∷ is) t e h =
    let items = rows_tree (map type_index (i ∷ is)) in
    ap (λ (z : List ℕ). 0x4f ∷ z) (append_assoc (leb (count items)) (normal items) (normal t))

-- without supertypes a count of the type is one of all
pub alone_large : (r : Result Unit WriteFault) (is_final : Bool) (supertypes : List ℕ) (t : Tree) → is_final ≡ true → nat_eq (length supertypes) 0 ≡ true →
    IfErr r (λ e. IfTooLarge e (IsTooLarge (counts t))) → IfErr r (λ e. IfTooLarge e (IsTooLarge (counts (sub_type_of is_final (map type_index supertypes) t))))
alone_large (Ok a) is_final is t e h p = tt
alone_large (Err f) false is t e h p = absurd cc
alone_large (Err f) true [] t e h p = large_right f (0 ∷ []) (counts t) p
alone_large (Err f) true (i ∷ is) t e h p = let none : length (i ∷ is) ≡ 0 = eqb-true (length (i ∷ is)) 0 h in absurd (omega arith)
