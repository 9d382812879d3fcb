use Rattle.std.proofs.Common.{◌≡◌, ◌≢◌, List, [], ◌∷◌, ℕ, length, true, false, refl, sym, subst, arith}
use Rattle.std.proofs.lemmas.Bool.Decides.{Decides-eqb}
use Rattle.std.specs.Bool.{◌==◌}
use Rattle.wasm_shapes.specs.Tree.{Tree}
use Rattle.wasm_shapes.specs.Shape.{Shape}
use Rattle.wasm_shapes.specs.Module.{import_row}
use Rattle.wasm_shapes.specs.Place.{Begins}
use Rattle.wasm_shapes.proofs.Begins.{begins_seq, none_seq_first, none_seq_second}
use Rattle.wasm_shapes.proofs.Parts.{begins_this_name, begins_other_name, none_without_name, none_behind_this, none_behind_other}
use Rattle.wasm_read.proofs.externals.front_import.Goals as goal

empty_is : (xs : List ℕ) → true ≡ ((length xs) == 0) → xs ≡ []
empty_is [] e = refl
empty_is (x ∷ xs) e = let none : length (x ∷ xs) ≡ 0 = (Decides-eqb (length (x ∷ xs)) 0).0 (sym e) in absurd (omega arith)

not_empty : (xs : List ℕ) → false ≡ ((length xs) == 0) → xs ≢ []
not_empty xs f e =
    let N : List ℕ → Type 0 = λ z. false ≡ ((length z) == 0) in
    let never : false ≡ true = subst N e f in
    cc

pub returns-in_default-clause-none : goal.returns-in_default-clause-none
returns-in_default-clause-none c = none_seq_first c.in_default.ensures.none

pub returns-in_default-front_name-clause-none : goal.returns-in_default-front_name-clause-none
returns-in_default-front_name-clause-none c = none_seq_second refl refl c.in-Some.ensures.some (none_without_name c.in_default-front_name.ensures.none)

pub returns-in-Some-front_unnamed-clause-some : goal.returns-in-Some-front_unnamed-clause-some
returns-in-Some-front_unnamed-clause-some c =
    let row = c.in-Some-front_unnamed.ensures.some in
    let N : List ℕ → Type 0 = λ z. Begins Shape.name c.in-Some.rest.now (Tree.name z) c.in-Some-front_name.rest.now in
    let name = subst N (empty_is c.in-Some-front_name.name.now c.if-is_empty.ensures) c.in-Some-front_name.ensures.some in
    let T : Tree → Type 0 = λ z. Begins import_row c.args.bytes.now z c.in-Some-front_unnamed.rest.now in
    subst T (sym row.whole) (begins_seq c.in-Some.ensures.some (begins_this_name name row.begins))

pub returns-in-None-clause-none : goal.returns-in-None-clause-none
returns-in-None-clause-none c =
    let N : List ℕ → Type 0 = λ z. Begins Shape.name c.in-Some.rest.now (Tree.name z) c.in-Some-front_name.rest.now in
    let name = subst N (empty_is c.in-Some-front_name.name.now c.if-is_empty.ensures) c.in-Some-front_name.ensures.some in
    none_seq_second refl refl c.in-Some.ensures.some (none_behind_this name c.in-None.ensures.none)

pub returns-in-Some-front_type_ref-clause-some : goal.returns-in-Some-front_type_ref-clause-some
returns-in-Some-front_type_ref-clause-some c =
    begins_seq c.in-Some.ensures.some
    (begins_other_name (not_empty c.in-Some-front_name.name.now c.if-is_empty.ensures) c.in-Some-front_name.ensures.some c.in-Some-front_type_ref.ensures.some)

pub returns-in-None-front_type_ref-clause-none : goal.returns-in-None-front_type_ref-clause-none
returns-in-None-front_type_ref-clause-none c =
    none_seq_second refl refl c.in-Some.ensures.some
    (none_behind_other (not_empty c.in-Some-front_name.name.now c.if-is_empty.ensures) c.in-Some-front_name.ensures.some c.in-None-front_type_ref.ensures.none)
