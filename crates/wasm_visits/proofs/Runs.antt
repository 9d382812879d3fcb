-- What a lister lists on a walk over a tree.
use Rattle.std.proofs.Common.{◌≡◌, ℕ, List, [], ◌∷◌, ◌++◌, map, sym, ap, ◌∙◌, append_assoc, append-nil}
use Rattle.wasm_shapes.specs.declared.SectionId.{SectionId}
use Rattle.wasm_shapes.specs.declared.Visit.{Visit}
use Rattle.wasm_shapes.specs.Tree.{Tree, visits}
use Rattle.reencode_hooks.specs.declared.error.Error.{Error}
use Rattle.reencode_hooks.specs.Hooks.{index_of}
use Rattle.reencode_hooks.specs.Run.{Step, accepted, ask, run}
use Rattle.reencode_hooks.specs.Walk.{walk}
use Rattle.reencode_hooks.proofs.Walks.{walk_is_run}
use Rattle.wasm_visits.specs.declared.lister.Lister.{Lister}
use Rattle.wasm_visits.specs.declared.lister.PlacedVisit.{PlacedVisit}
use Rattle.wasm_visits.specs.Placed.{Lists}
use Rattle.wasm_visits.specs.Visits.{all_listed, listed, lister_next, lister_reply}

module _ {E : Type 0} where
  abbrev pub asks : Lister → Visit → Step Lister (Error E) ℕ
  asks = ask lister_reply lister_next

  -- the list gains what is asked for
  runs : (s : Lister) (vs : List Visit) → run asks s vs ≡ accepted (map index_of vs) (record s { visits = s.visits ++ all_listed s.section s.place vs })
  runs s [] = ap (λ (z : List PlacedVisit). accepted [] (record s { visits = z })) (sym (append-nil s.visits))
  runs s (v ∷ vs) =
      rw (runs (lister_next s v) vs) (ap (λ (z : List PlacedVisit). accepted (index_of v ∷ map index_of vs) (record s { visits = z })) (append_assoc s.visits (listed s.section s.place v) (all_listed s.section s.place vs)))

  pub walked : (c : ℕ) (s m : Lister) (t u : Tree) → walk asks c s t ≡ accepted u m → Lists t s m
  walked c s m t u e =
      let a = (walk_is_run asks).forth c s m t u e in
      let ran : accepted (map index_of (visits t)) (record s { visits = s.visits ++ all_listed s.section s.place (visits t) }) ≡ accepted a.given m = sym (runs s (visits t)) ∙ a.ran in
      let same : record s { visits = s.visits ++ all_listed s.section s.place (visits t) } ≡ m = cc in
      ap (λ (z : Lister). z.visits) (sym same)

-- what is listed of a tree by a lister that moved there
pub listed_at : (t : Tree) (k : SectionId) (at : ℕ) (now there after : Lister) → there ≡ record now { place = at; section = k } → Lists t there after →
    after.visits ≡ now.visits ++ all_listed k at (visits t)
listed_at t k at now there after moves lists =
    lists ∙ ap (λ (z : Lister). z.visits ++ all_listed z.section z.place (visits t)) moves
