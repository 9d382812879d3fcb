-- Core types: a group of types behind another byte where it is one open subtype, and a module type behind its byte.
use Rattle.std.proofs.Common.{◌≡◌, ℕ, zero, suc, Bool, true, false, List, [], ◌∷◌, Result, Ok, Err, IsErrAnd, refl, subst}
use Rattle.wasm_shapes.specs.declared.Visit.{Visit}
use Rattle.wasm_shapes.specs.Tree.{Tree, visits}
use Rattle.wasm_shapes.specs.Types.{sub_type_of}
use Rattle.wasm_types.specs.ComponentTrees.{core_group_tree}
use Rattle.wasm_read.specs.declared.types.RecGroup as read_group
use Rattle.wasm_read.specs.declared.types.SubType.{SubType}
use Rattle.wasm_read.specs.Types as read
use Rattle.wasm_write.specs.declared.types.RecGroup as write_group
use Rattle.wasm_write.specs.Types as write
use Rattle.wasm_read_component.specs.declared.declarations.CoreType.TheVariants as read_core
use Rattle.wasm_write_component.specs.declared.declarations.CoreType.{CoreType}
use Rattle.wasm_write_component.specs.declared.declarations.CoreType.TheVariants as core
use Rattle.reencode_hooks.specs.declared.error.Error.{Error}
use Rattle.reencode_hooks.specs.declared.indices.ReencodeIndices.{Ghosts}
use Rattle.reencode_hooks.specs.Run.{Step, Visited, accepted, and_then, ask, refused}
use Rattle.reencode_hooks.specs.Walk.{walk}
use Rattle.reencode_hooks.proofs.Leaving.{handed}
use Rattle.reencode_items.specs.Clauses.{ListClauses}
use Rattle.reencode_core.specs.Rows.{Asks}
use Rattle.reencode_component.specs.TypeClauses.{CoreTypeClauses}

-- ---- a group

-- no type, or a row of a choice
data IsRow : Tree → Type 0 where
  none : IsRow Tree.nil
  row : (k : ℕ) (t : Tree) → IsRow (Tree.row k t)

sub_type_row : (is_final : Bool) (supertypes : List Tree) (t : Tree) → IsRow (sub_type_of is_final supertypes t)
sub_type_row true supertypes t = IsRow.row 0 _
sub_type_row false supertypes t = IsRow.row 1 _

group_row : (group : read_group.RecGroup) → IsRow (read.group_tree group)
group_row group = go group.explicit group.types
  where
    go : (explicit : Bool) (types : List SubType) → IsRow (read.group_parts explicit types)
    go true types = IsRow.row 2 _
    go false [] = IsRow.none
    go false (ty ∷ types) = sub_type_row ty.is_final _ _

module _ {S E : Type 0} (asked : Asks S E) (c : ℕ) (s m : S) where
  core_walked : (t u : Tree) → IsRow t → walk asked c s t ≡ accepted u m → walk asked c s (core_group_tree t) ≡ accepted (core_group_tree u) m
  core_walked t u IsRow.none h =
      let is : Tree.nil ≡ u = cc in
      let same : s ≡ m = cc in
      let P : Tree → Type 0 = λ z. ◌≡◌ {A = Step S (Error E) Tree} (accepted (Tree.row 2 Tree.nil) s) (accepted (core_group_tree z) m) in
      subst P is (rw same refl)
  core_walked _ u (IsRow.row k t) h = go k (walk asked c s t) refl h
    where
      go : (k : ℕ) (step : Step S (Error E) Tree) → walk asked c s t ≡ step → and_then step (λ v n. accepted (Tree.row k v) n) ≡ accepted u m →
          walk asked c s (core_group_tree (Tree.row k t)) ≡ accepted (core_group_tree u) m
      go zero (accepted v n) w h =
          let is : Tree.row 0 v ≡ u = cc in
          let same : n ≡ m = cc in
          let P : Tree → Type 0 = λ z. walk asked c s (core_group_tree (Tree.row 0 t)) ≡ accepted (core_group_tree z) m in
          subst P is (rw (w, same) refl)
      go (suc zero) (accepted v n) w h =
          let is : Tree.row 1 v ≡ u = cc in
          let same : n ≡ m = cc in
          let P : Tree → Type 0 = λ z. walk asked c s (core_group_tree (Tree.row 1 t)) ≡ accepted (core_group_tree z) m in
          subst P is (rw (w, same) refl)
      go (suc (suc k)) (accepted v n) w h =
          let is : Tree.row (suc (suc k)) v ≡ u = cc in
          let same : n ≡ m = cc in
          let P : Tree → Type 0 = λ z. walk asked c s (core_group_tree (Tree.row (suc (suc k)) t)) ≡ accepted (core_group_tree z) m in
          subst P is (rw (w, same) refl)
      go k (refused e n) w h = absurd cc

  core_refused : (t : Tree) {e : Error E} → IsRow t → walk asked c s t ≡ refused e m → walk asked c s (core_group_tree t) ≡ refused e m
  core_refused t IsRow.none h = absurd cc
  core_refused _ {e = e} (IsRow.row k t) h = go k (walk asked c s t) refl h
    where
      go : (k : ℕ) (step : Step S (Error E) Tree) → walk asked c s t ≡ step → and_then step (λ v n. accepted (Tree.row k v) n) ≡ refused e m →
          walk asked c s (core_group_tree (Tree.row k t)) ≡ refused e m
      go k (accepted v n) w h = absurd cc
      go zero (refused d n) w h = rw w h
      go (suc zero) (refused d n) w h = rw w h
      go (suc (suc k)) (refused d n) w h = rw w h

-- the same visits
core_visits : (t : Tree) → IsRow t → visits (core_group_tree t) ≡ visits t
core_visits t IsRow.none = refl
core_visits _ (IsRow.row k t) = go k
  where
    go : (k : ℕ) → visits (core_group_tree (Tree.row k t)) ≡ visits (Tree.row k t)
    go zero = refl
    go (suc zero) = refl
    go (suc (suc k)) = refl

module _ {S E : Type 0} (i : Ghosts S E) (s m : S) where
  pub group_mapped : (group : read_group.RecGroup) (made : write_group.RecGroup) → ListClauses i (read.group_tree group) write.group_tree s m (Ok made) →
      CoreTypeClauses i (read_core.Rec group) s m (Ok (core.Rec made))
  group_mapped group made given = record {
    default = λ k c. core_walked (ask i.reply i.next) c s m (read.group_tree group) (write.group_tree made) (group_row group) (given.default k c);
    after_error = λ k sure. tt;
  }

  pub group_ended : (group : read_group.RecGroup) (e : Error E) → ListClauses i (read.group_tree group) write.group_tree s m (Err e) → (r : Result CoreType (Error E)) → IsErrAnd r (λ y. y ≡ e) →
      CoreTypeClauses i (read_core.Rec group) s m r
  group_ended group e gone r q =
      let P : Result CoreType (Error E) → Type 0 = λ z. CoreTypeClauses i (read_core.Rec group) s m z in
      let left : List Visit → Type 0 = λ z. Visited (ask i.reply i.next) s z m in
      rw (handed r q) (record {
        default = λ k c other. core_refused (ask i.reply i.next) c s m (read.group_tree group) (group_row group) (gone.default k c other);
        after_error = λ k sure. rw (core_visits (read.group_tree group) (group_row group)) (gone.after_error k sure);
      })
