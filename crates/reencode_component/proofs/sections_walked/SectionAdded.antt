-- A section that is mapped whole, as it is added to a component.
use Rattle.std.proofs.Common.{◌≡◌, ℕ, ◌<◌, List, [], ◌∷◌, length, map, Result, Ok, Err, IsErrAnd, IsTrue, refl}
use Rattle.wasm_shapes.specs.declared.Space.TheVariants as space
use Rattle.wasm_shapes.specs.declared.Visit.{Visit}
use Rattle.wasm_shapes.specs.declared.Visit.TheVariants.{Index}
use Rattle.wasm_shapes.specs.Tree.{Tree, normal}
use Rattle.wasm_shapes.specs.Types.{rows_tree}
use Rattle.wasm_types.specs.ComponentTrees.{component_start_tree}
use Rattle.wasm_write.specs.declared.fault.WriteFault.{WriteFault}
use Rattle.wasm_write.specs.Faults.{IfTooLarge}
use Rattle.wasm_write.specs.Sections.{Sections, section_row}
use Rattle.wasm_write_component.specs.declared.sections.ComponentStartSection.{ComponentStartSection}
use Rattle.wasm_write_component.specs.ComponentRows.{value_index_tree}
use Rattle.reencode_hooks.specs.declared.error.Error.{Error}
use Rattle.reencode_hooks.specs.declared.indices.ReencodeIndices.{Ghosts}
use Rattle.reencode_hooks.specs.Errors.{error_of_write}
use Rattle.reencode_hooks.specs.Run.{Step, accepted, and_then, ask, refused}
use Rattle.reencode_hooks.specs.Walk.{walk}
use Rattle.reencode_hooks.proofs.Leaving.{accepted_visited, handed, second_visited, visited_left}
use Rattle.reencode_core.specs.Clauses.{asks}
use Rattle.reencode_core.specs.Errors.{IfParse}
use Rattle.reencode_core.specs.Sections.{AddsMapped}
use Rattle.reencode_core.proofs.sections_walked.CustomSection.{added_usual, framed_added, keeps_added}
use Rattle.reencode_core.proofs.sections_walked.HeadAndFrame.{framed, framed_refused}
use Rattle.reencode_core.proofs.sections_walked.KnownKind.{keeps_same}
use Rattle.reencode_core.proofs.faults.WalkRefusals.{Usual, stops_usual, usual_ask}
use Rattle.reencode_component.specs.Clauses.{AddedClauses}
use Rattle.reencode_component.proofs.rows_walked.PartsWalked.{Ended, Mapped}

module _ {S E : Type 0} (i : Ghosts S E) (k id : ℕ) (head : Tree) (first : normal head ≡ id ∷ []) (still : (c : ℕ) (s : S) → walk (asks i) c s head ≡ accepted head s) {s m : S} (t : Tree) where
  -- it was mapped: it is added, or it is too large
  pub whole_added : (u : Tree) (old new : Sections) (r : Result (Unit {0}) (Error E)) → Mapped i s t u m → AddsMapped {E = E} (section_row id (normal u)) old (Ok tt) new r →
      AddedClauses i id (framed k head t) s old m new r
  whole_added u old new r done adds = record {
    kept = keeps_added (section_row id (normal u)) old new r adds;
    default = λ keeps. framed_added (asks i) k id head first old.ceiling s m t u (still old.ceiling s) (done.walks keeps old.ceiling) old new r refl adds;
    after_error = λ keeps sure. visited_left r (second_visited 0 head (still 0 s) (accepted_visited 0 t (done.walks keeps 0)));
    usual = λ keeps. added_usual (λ at. ⊥) (section_row id (normal u)) old new r adds;
  }

  -- it was mapped, and is not added
  pub whole_not_added : (u : Tree) (old new : Sections) (w : WriteFault) → Mapped i s t u m → new ≡ old → IfTooLarge w (λ size. (size ≡ length (normal u)) × (old.ceiling < size)) →
      (r : Result (Unit {0}) (Error E)) → IsErrAnd r (λ y. y ≡ error_of_write w) → AddedClauses i id (framed k head t) s old m new r
  whole_not_added u old new w done same large r q = rw (handed r q) (whole_added u old new (Err (error_of_write w)) done (same, w, refl, large))

  -- it was refused
  pub whole_refused : (old : Sections) (e : Error E) → Ended i s t e m → (IsTrue i.keeps_defaults → IfParse e (λ at. ⊥)) → (r : Result (Unit {0}) (Error E)) → IsErrAnd r (λ y. y ≡ e) →
      AddedClauses i id (framed k head t) s old m old r
  whole_refused old e gone usual r q = rw (handed r q) (record {
    kept = keeps_same old;
    default = λ keeps. (refl, λ other. framed_refused (asks i) k head old.ceiling s m t (still old.ceiling s) e (gone.stops keeps old.ceiling other));
    after_error = λ keeps sure. second_visited 0 head (still 0 s) (gone.left keeps sure);
    usual = usual;
  })

-- ---- a start

-- what its section stands for
abbrev pub made_tree : ComponentStartSection → Tree
made_tree made = component_start_tree made.function_index made.args made.results

-- it is refused by the reencoder alone

then_usual : {S E A B : Type 0} (a : Step S (Error E) A) (f : A → S → Step S (Error E) B) → Usual a → ((x : A) (m : S) → Usual (f x m)) → Usual (and_then a f)
then_usual (accepted x m) f p q = q x m
then_usual (refused e m) f p q = p

module _ {S E : Type 0} (reply : S → Visit → Result ℕ E) (next : S → Visit → S) (c : ℕ) where
  values_usual : (s : S) (args : List ℕ) → Usual (walk (ask reply next) c s (rows_tree (map value_index_tree args)))
  values_usual s [] = tt
  values_usual s (n ∷ args) =
      then_usual _ _ (then_usual _ _ (usual_ask reply next s (Index space.ComponentValue n)) (λ a m. tt)) (λ t m. then_usual _ _ (values_usual m args) (λ u n. tt))

  start_usual : (s : S) (f : ℕ) (args : List ℕ) (results : ℕ) → Usual (walk (ask reply next) c s (component_start_tree f args results))
  start_usual s f args results =
      then_usual _ _ (then_usual _ _ (usual_ask reply next s (Index space.ComponentFunc f)) (λ a m. tt))
      (λ t m. then_usual _ _ (then_usual _ _ (then_usual _ _ (values_usual m args) (λ u n. tt)) (λ u n. tt)) (λ u n. tt))

pub start_refused : {S E : Type 0} (i : Ghosts S E) {s m : S} (f : ℕ) (args : List ℕ) (results : ℕ) (e : Error E) → Ended i s (component_start_tree f args results) e m → IsTrue i.keeps_defaults → IfParse e (λ at. ⊥)
start_refused i f args results e gone keeps = stops_usual (λ at. ⊥) _ e _ (start_usual i.reply i.next 0 _ f args results) (gone.stops keeps 0)
