-- Where nothing that is added is too large, what the walk that weaves accepts is the answer.
use Rattle.std.proofs.Common.{◌≡◌, ◌≢◌, ℕ, List, [], ◌∷◌, ◌++◌, Option, None, Some, Ok, Err, refl, sym, ap, ◌∙◌, subst, append_assoc, append-nil, ◌⊎◌, inl, inr}
use Rattle.std.proofs.lemmas.List.{append_cancel_left}
use Rattle.wasm_shapes.specs.declared.SectionId.{SectionId}
use Rattle.wasm_shapes.specs.declared.Visit.{Visit}
use Rattle.wasm_shapes.specs.declared.Visit.TheVariants.{Section, Closed}
use Rattle.wasm_shapes.specs.Tree.{Tree, kind, behind, normal, visits, visits_from}
use Rattle.wasm_shapes.specs.Module.{core_header, alsos, CoreReading}
use Rattle.wasm_shapes.proofs.Laws.{module_headed}
use Rattle.wasm_shapes.proofs.SectionTable.{frame_there, section_there}
use Rattle.wasm_write.specs.Sections.{SectionRow}
use Rattle.reencode_hooks.specs.declared.error.Error.{Error}
use Rattle.reencode_hooks.specs.declared.error.Error.TheVariants.{NoMemory}
use Rattle.reencode_hooks.specs.Hooks.{HasTooLarge, MayAdd}
use Rattle.reencode_hooks.specs.Run.{Step, accepted, refused, run, state_after}
use Rattle.reencode_core.specs.Rows.{Asks}
use Rattle.reencode_core.specs.Weave.{Puts, added, weave}
use Rattle.reencode_core.specs.Woven.{AddsFit, IsOwn, OwnBehind, OwnNext, OwnTooLarge, WovenFront, AcceptedIsAnswered}
use Rattle.reencode_core.proofs.weave.AddsNothing.{own_fits}
use Rattle.reencode_core.proofs.sections_walked.CoreLoop.{Ahead, same, more, ahead, none_behind, same_there, visits_alsos}
use Rattle.reencode_hooks.specs.Walk.{walk}
use Rattle.reencode_hooks.proofs.Walks.{walk_is_run}
use Rattle.reencode_core.proofs.sections_walked.AnySection.{told_before, told_behind}
use Rattle.reencode_core.proofs.sections_walked.KnownKind.{some_begun}
use Rattle.reencode_core.proofs.after_error.VisitsMade.{run_state}
use Rattle.reencode_core.proofs.weave.Weaves.{weave_is_run}

module _ {S E : Type 0} {asked : Asks S E} {adds : Puts S SectionRow} {c : ℕ} {bytes : List ℕ} {s : S} {t : Tree} (r : CoreReading bytes t) (fit : AddsFit asked adds c s (visits t)) where
  module _ (f : WovenFront asked adds c bytes s) where
    -- the run over them is accepted, and leaves this state
    ran_so_far : (given : List ℕ) × (run asked s (visits (alsos f.read Tree.empty)) ≡ accepted given f.at)
    ran_so_far = let a = (weave_is_run asked).forth (added adds) c s f.at (alsos f.read Tree.empty) (alsos f.made Tree.empty) (f.weaves Tree.empty) in (a.given, a.ran)

    -- what is added at a visit behind some of the next section, in the state behind these, fits
    fits : (front : List Visit) (v : Visit) (rest : List Visit) → MayAdd v → visits t ≡ visits (alsos f.read Tree.empty) ++ (front ++ v ∷ rest) → (size : ℕ) →
        ¬ HasTooLarge c (adds (state_after (run asked f.at front)) v) size
    fits front v rest may parts size =
        let P : S → Type 0 = λ k. ¬ HasTooLarge c (adds k v) size in
        let seen : List Visit = visits (alsos f.read Tree.empty) in
        subst P (run_state asked s f.at seen front ran_so_far.0 ran_so_far.1) (fit (seen ++ front) v rest may (parts ∙ sym (append_assoc seen front (v ∷ rest))) size)

    behind_them : (u : Tree) → t ≡ alsos f.read u → visits t ≡ visits (alsos f.read Tree.empty) ++ visits_from f.last u
    behind_them u e = ap visits e ∙ visits_alsos None f.read u ∙ ap (λ (z : Option SectionId). visits (alsos f.read Tree.empty) ++ visits_from z u) (sym f.ends)

    next : Ahead f.read f.rest t []
    next =
        let start : f.text ++ f.rest ≡ r.rest = append_cancel_left core_header (f.text ++ f.rest) r.rest (sym f.stands ∙ r.stands) in
        ahead f.read (f.text ++ f.rest) f.text f.rest r.rest [] t f.spells refl r.spells (start ∙ sym (append-nil r.rest)) none_behind

  never : (e : Error E) → OwnTooLarge asked adds c bytes s e → ⊥
  never e o = go (next o.front) o.own
    where
      go : Ahead o.front.read o.front.rest t [] → OwnNext asked adds c o.front.last o.front.at o.front.rest e → ⊥
      go (same is empty) (inl q) = own_fits c (adds o.front.at (Section o.front.last None)) e (fits o.front [] (Section o.front.last None) [] tt (behind_them o.front Tree.finish is)) q.1
      go (same is empty) (inr q) = some_begun q.3 empty
      go (more u v left is b) (inl q) = none_behind.none b.text left u b.spells (sym q.0 ∙ b.reads)
      go (more u v left is b) (inr (k, body, others, framed, own)) = by own
        where
          -- what is asked at the section and behind it
          asks_are : visits_from o.front.last (Tree.also u v) ≡ Section o.front.last (Some k) ∷ (visits u ++ (Closed k ∷ visits_from (kind o.front.last u) v))
          asks_are =
              ap (λ (z : List Visit). z ++ (visits u ++ (behind u ++ visits_from (kind o.front.last u) v))) ((told_before o.front.last).kind k (frame_there framed b))
              ∙ ap (λ (z : List Visit). Section o.front.last (Some k) ∷ (visits u ++ (z ++ visits_from (kind o.front.last u) v))) (told_behind.kind k (frame_there framed b))

          parts : visits t ≡ visits (alsos o.front.read Tree.empty) ++ (Section o.front.last (Some k) ∷ (visits u ++ (Closed k ∷ visits_from (kind o.front.last u) v)))
          parts = behind_them o.front (Tree.also u v) is ∙ ap (λ (z : List Visit). visits (alsos o.front.read Tree.empty) ++ z) asks_are

          by : IsOwn c (adds o.front.at (Section o.front.last (Some k))) e ⊎ OwnBehind asked adds c o.front.last o.front.at k body e → ⊥
          by (inl x) =
              own_fits c (adds o.front.at (Section o.front.last (Some k))) e (fits o.front [] (Section o.front.last (Some k)) (visits u ++ (Closed k ∷ visits_from (kind o.front.last u) v)) tt parts) x
          by (inr x) =
              let same_tree : x.tree ≡ u = same_there b (section_there x.there framed) in
              let W : Tree → Type 0 = λ z. walk asked c x.from z ≡ accepted x.made x.at in
              let inside = (walk_is_run asked).forth c x.from x.at u x.made (subst W same_tree x.walked) in
              let ran : run asked o.front.at (Section o.front.last (Some k) ∷ visits u) ≡ accepted (0 ∷ inside.given) x.at = rw (x.told, inside.ran) refl in
              let Q : S → Type 0 = λ z. (size : ℕ) → ¬ HasTooLarge c (adds z (Closed k)) size in
              own_fits c (adds x.at (Closed k)) e (subst Q (ap state_after ran) (fits o.front (Section o.front.last (Some k) ∷ visits u) (Closed k) (visits_from (kind o.front.last u) v) tt parts)) x.own

pub accepted_is_answered : {S E A : Type 0} (asked : Asks S E) (adds : Puts S SectionRow) (view : A → List ℕ) → AcceptedIsAnswered asked adds view
accepted_is_answered {S = S} {E = E} asked adds view c bytes s m (Ok out) g t u n p fit h =
    let q = g.reading t p in
    let both : ◌≡◌ {A = Step S (Error E) Tree} (accepted q.0 m) (accepted u n) = sym q.1 ∙ h in
    let trees : q.0 ≡ u = cc in
    let states : m ≡ n = cc in (q.2 ∙ ap normal trees, states)
accepted_is_answered {S = S} {E = E} asked adds view c bytes s m (Err e) g t u n p fit h = only e (λ other. g.reading t p other)
  where
    stops : (w : Error E) → OwnTooLarge asked adds c bytes s w ⊎ (weave asked (added adds) c s t ≡ refused w m) → ⊥
    stops w (inl own) =
        let r = module_headed.back bytes t p in
        let P : Tree → Type 0 = λ z. AddsFit asked adds c s (visits z) in
        never r.2 (subst P r.1 fit) w own
    stops w (inr step) = let both : ◌≡◌ {A = Step S (Error E) Tree} (accepted u n) (refused w m) = sym h ∙ step in cc

    only : (w : Error E) → (w ≢ NoMemory → OwnTooLarge asked adds c bytes s w ⊎ (weave asked (added adds) c s t ≡ refused w m)) → w ≡ NoMemory
    only NoMemory f = refl
    only w f = absurd (stops w (f (λ same. absurd cc)))
