-- The laws of `specs/ComponentLaws.antt`.
use Rattle.std.proofs.Common.{◌≡◌, ℕ, zero, suc, ◌+◌, ◌≤◌, max, List, [], ◌∷◌, ◌++◌, drop, get_or, length, None, refl, sym, ap, ap₂, ◌∙◌, inr, subst, arith}
use Rattle.std.proofs.lemmas.List.{append_cancel_left}
use Rattle.wasm_shapes.specs.Tree.{Tree, Listed, normal, fill, after, past, before, aimed_at}
use Rattle.wasm_shapes.specs.Spells.{Spells}
use Rattle.wasm_shapes.specs.Sections.{core_header, component_header, headed_tree}
use Rattle.wasm_shapes.specs.Module.{CoreReading}
use Rattle.wasm_shapes.specs.Component.{component_sections, component, component_tree}
use Rattle.wasm_shapes.specs.Depth.{opens, Shallow}
use Rattle.wasm_shapes.specs.ComponentReadings.{ComponentReading}
use Rattle.wasm_shapes.specs.ComponentLaws as statements
use Rattle.wasm_shapes.proofs.Unique.{unique}
use Rattle.wasm_shapes.proofs.ReadBack.{read_back, spelled_in_range, fill_in_range, fill_is}
use Rattle.wasm_shapes.proofs.Laws.{head_forth, head_back}

pub components_sound : statements.AreComponentsSound
components_sound = record { section_sound = refl; section_ends = refl; component_sound = refl }

-- ---- answers open no scope

opens-aimed_at : (w : Listed) (i : ℕ) (o t : Tree) → opens (aimed_at w i o t) ≡ max (opens o) (opens t)
opens-aimed_at w zero o t = refl
opens-aimed_at Listed.functions (suc i) o t = refl
opens-aimed_at Listed.expressions (suc i) o t = let none : max zero (opens t) ≡ opens t = omega arith in ap (λ (n : ℕ). max (opens o) n) none

pub as_deep : statements.IsAsDeep
as_deep (Tree.pair t u) answers = ap₂ max (as_deep t answers) (as_deep u (after t answers))
as_deep (Tree.swap t u) answers = ap₂ max (as_deep t (after u answers)) (as_deep u answers)
as_deep (Tree.cons t u) answers = ap₂ max (as_deep t answers) (as_deep u (after t answers))
as_deep (Tree.vec t) answers = as_deep t answers
as_deep (Tree.present t) answers = as_deep t answers
as_deep (Tree.sized t) answers = as_deep t answers
as_deep (Tree.row k t) answers = as_deep t answers
as_deep (Tree.scope t) answers = ap suc (as_deep t (drop 1 answers))
as_deep (Tree.spare b t) answers = as_deep t answers
as_deep (Tree.kept b t) answers = as_deep t answers
as_deep (Tree.final t u) answers = ap₂ max (as_deep t answers) (as_deep u (after t answers))
as_deep (Tree.until b t) answers = as_deep t answers
as_deep (Tree.op c t) answers = as_deep t answers
as_deep (Tree.left w o t) answers =
    opens-aimed_at w (get_or (after t answers) 0 0) (fill o (drop 1 (after t answers))) (fill t answers)
    ∙ ap₂ max (as_deep o (drop 1 (after t answers))) (as_deep t answers)
as_deep (Tree.aimed w i o t) answers = ap₂ max (as_deep o (drop 1 (after t answers))) (as_deep t answers)
as_deep (Tree.placed i o t) answers = ap₂ max (as_deep o (drop 1 answers)) (as_deep t (after o (drop 1 answers)))
as_deep (Tree.told k t) answers = as_deep t answers
as_deep (Tree.also t u) answers =
    let own = drop (length (before None t)) answers in ap₂ max (as_deep t own) (as_deep u (past t own))
as_deep _ answers = refl

pub shallow_filled : {depth : ℕ} (t : Tree) (answers : List ℕ) → Shallow depth t → Shallow depth (fill t answers)
shallow_filled {depth = depth} t answers s =
    let same : opens (fill t answers) ≡ opens t = as_deep t answers in
    let most : opens t + depth ≤ 200 = s.most in
    record { most = omega arith }

-- ---- a header before the sections

pub headed_opens : (hs : List ℕ) (t : Tree) → opens (headed_tree hs t) ≡ opens t
headed_opens [] t = refl
headed_opens (h ∷ hs) t = let others = headed_opens hs t in omega (arith, others)

pub component_headed : statements.IsComponentHeaded
component_headed = record {
  forth = λ depth bytes t r. (forth bytes t r.rest r.stands r.spells, ahead t r.shallow);
  back = λ depth bytes t p s.
      let b = head_back component_header component_sections bytes t p.shaped p.spelled in
      (b.1, b.3, record { rest = b.0; stands = b.2; spells = b.4; shallow = behind b.1 (let P : Tree → Type 0 = λ z. Shallow depth z in subst P b.3 s) });
}
  where
    forth : (bytes : List ℕ) (t : Tree) (rest : List ℕ) → bytes ≡ component_header ++ rest → Spells component_sections rest t → Spells component bytes (component_tree t)
    forth bytes t rest e p = let whole = head_forth component_header p in record { shaped = whole.shaped; spelled = rw e whole.spelled }

    ahead : {depth : ℕ} (u : Tree) → Shallow depth u → Shallow depth (component_tree u)
    ahead {depth = depth} u s = record { most = rw (headed_opens component_header u) s.most }

    behind : {depth : ℕ} (u : Tree) → Shallow depth (component_tree u) → Shallow depth u
    behind {depth = depth} u s =
        let most : opens (component_tree u) + depth ≤ 200 = s.most in
        record { most = let same = headed_opens component_header u in omega (arith, same) }

-- ---- one reading

core_one : (bytes : List ℕ) (t u : Tree) → CoreReading bytes t → CoreReading bytes u → t ≡ u
core_one bytes t u p q =
    let same : p.rest ≡ q.rest = append_cancel_left core_header p.rest q.rest (sym p.stands ∙ q.stands) in
    (unique p.spells.shaped q.spells.shaped p.rest q.rest [] [] refl (inr (refl, refl)) p.spells.spelled q.spells.spelled (ap (λ (z : List ℕ). z ++ []) same)).1

component_one : (depth other : ℕ) (bytes : List ℕ) (t u : Tree) → ComponentReading depth bytes t → ComponentReading other bytes u → t ≡ u
component_one depth other bytes t u p q =
    let same : p.rest ≡ q.rest = append_cancel_left component_header p.rest q.rest (sym p.stands ∙ q.stands) in
    (unique p.spells.shaped q.spells.shaped p.rest q.rest [] [] refl (inr (refl, refl)) p.spells.spelled q.spells.spelled (ap (λ (z : List ℕ). z ++ []) same)).1

never_both : (depth : ℕ) (bytes : List ℕ) (t u : Tree) → CoreReading bytes t → ComponentReading depth bytes u → ⊥
never_both depth bytes t u p q =
    let same : core_header ++ p.rest ≡ component_header ++ q.rest = sym p.stands ∙ q.stands in
    let fifth : get_or (core_header ++ p.rest) 4 0 ≡ get_or (component_header ++ q.rest) 4 0 = ap (λ (z : List ℕ). get_or z 4 0) same in
    let never : ◌≡◌ {A = ℕ} 1 13 = fifth in
    omega arith

pub one_reading : statements.AreOneReading
one_reading = record { core = core_one; component = component_one; never_both = never_both }

-- ---- read back

pub read_back_at : statements.IsReadBackAt
read_back_at depth bytes t answers small r fits = record {
  rest = normal (fill t answers);
  stands = refl;
  spells = record {
    shaped = fill_is r.spells.shaped answers;
    spelled = read_back (fill t answers) (fill_in_range t answers (spelled_in_range t r.rest r.spells.spelled) small) fits;
  };
  shallow = shallow_filled t answers r.shallow;
}
