-- What comes out where nothing is renamed.
use Rattle.std.proofs.Common.{◌≡◌, ◌≤◌, ◌-◌, ◌^◌, ◌++◌, ℕ, List, [], ◌∷◌, length, map, Ok, refl, sym, ap, ◌∙◌, subst}
use Rattle.wasm_shapes.specs.declared.Visit.{Visit}
use Rattle.wasm_shapes.specs.declared.Visit.TheVariants.{Index, Outer}
use Rattle.wasm_shapes.specs.Tree.{Tree, visits, fill, normal}
use Rattle.wasm_shapes.specs.Own.{asked_index, own}
use Rattle.wasm_shapes.specs.Fits.{Fits}
use Rattle.wasm_shapes.specs.Sections.{component_header}
use Rattle.wasm_shapes.specs.Component.{component_sections}
use Rattle.wasm_shapes.specs.ComponentReadings.{ComponentReading}
use Rattle.wasm_shapes.proofs.OwnAnswers.{fill_own}
use Rattle.wasm_shapes.proofs.ComponentLaws.{one_reading}
use Rattle.wasm_shapes.proofs.Laws.{one_tree, read_back_as_is}
use Rattle.reencode_hooks.specs.declared.error.Error.{Error}
use Rattle.reencode_hooks.specs.Hooks.{index_of}
use Rattle.reencode_hooks.specs.Run.{Step, accepted, ask, run}
use Rattle.reencode_hooks.specs.Walk.{walk}
use Rattle.reencode_hooks.proofs.Agrees.{given}
use Rattle.reencode_hooks.proofs.Walks.{walk_is_run}
use Rattle.reencode_laws.specs.Own as statements
use Rattle.wasm_write.proofs.Shorter.{shorter}

one_index : (v : Visit) → index_of v ≡ asked_index v
one_index (Index p i) = refl
one_index (Outer p k i) = refl
one_index _ = refl

component_reads : (depth : ℕ) (bytes : List ℕ) (t : Tree) → ComponentReading depth bytes t → Fits t (2 ^ 32 - 1) →
    statements.ReadsAsAt depth (component_header ++ normal (fill t (own t))) t
component_reads depth bytes t r fits =
    let again : ComponentReading depth (component_header ++ normal t) t =
    record { rest = normal t; stands = refl; spells = read_back_as_is component_sections r.rest t r.spells fits; shallow = r.shallow } in
    let P : Tree → Type 0 = λ z. statements.ReadsAsAt depth (component_header ++ normal z) t in
    subst P (sym (fill_own t)) (again, λ other u q. one_reading.component other depth (component_header ++ normal t) u t q again)

module _ {S E : Type 0} where
  -- one visit of a reencoder that answers each index as it is, and stays as it is
  abbrev pub as_it_is : S → Visit → Step S (Error E) ℕ
  as_it_is s v = ask (λ _ w. Ok (index_of w)) (λ k _. k) s v

  runs : (s : S) (vs : List Visit) → run as_it_is s vs ≡ accepted (map asked_index vs) s
  runs s [] = refl
  runs s (v ∷ vs) = rw (runs s vs) (ap (λ (n : ℕ). accepted (n ∷ map asked_index vs) s) (one_index v))

  walked : (c : ℕ) (s m : S) (t u : Tree) → walk as_it_is c s t ≡ accepted u m → (u ≡ t) × (m ≡ s)
  walked c s m t u h =
      let a = (walk_is_run as_it_is).forth c s m t u h in
      let x = given (sym a.ran ∙ runs s (visits t)) in
      (sym a.filled ∙ ap (fill t) x.0 ∙ fill_own t, x.1)

  pub own_answers : statements.NothingRenamed as_it_is
  own_answers = record {
    same = fill_own;
    answers = λ s t. runs s (visits t);
    walked = walked;
    reads = λ shape k bytes t p fits.
        let q = read_back_as_is shape bytes t p fits in
        (q, λ u r. one_tree shape k (normal t) u t r q);
    core = refl;
    component = refl;
    component_reads = component_reads;
  }

pub own_is_normal : statements.OwnIsNormal
own_is_normal t bytes p = let same : normal (fill t (own t)) ≡ normal t = ap normal (fill_own t) in (λ e. sym e ∙ same, λ e. same ∙ sym e)

pub own_is_not_longer : statements.OwnIsNotLonger
own_is_not_longer = record {
  output = λ t bytes p. let P : Tree → Type 0 = λ u. length (normal u) ≤ length bytes in subst P (sym (fill_own t)) (shorter t bytes p);
  any = shorter;
}
