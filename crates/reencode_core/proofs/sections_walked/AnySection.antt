-- A section of any sort by its frame: of a known kind, a custom one, or one of another id.
use Rattle.std.proofs.Common.{◌≡◌, ℕ, ◌≤◌, List, [], ◌∷◌, Option, Some, Result, Ok, Err, IfOk, IfErr, refl, sym, ◌∙◌, subst, ◌⊎◌, inl, inr}
use Rattle.wasm_shapes.specs.declared.SectionId.{SectionId}
use Rattle.wasm_shapes.specs.declared.Visit.TheVariants.{Section, Closed}
use Rattle.wasm_shapes.specs.declared.Visit.{Visit}
use Rattle.wasm_shapes.specs.Drawn.{Drawn}
use Rattle.wasm_shapes.specs.Tree.{Tree, before, behind, kind}
use Rattle.wasm_shapes.proofs.Drawn.{drawn_hook, drawn_none}
use Rattle.wasm_shapes.specs.Place.{Begins}
use Rattle.wasm_shapes.specs.Module.{frame, numbered_frame, custom_frame, unknown_tree_of, ReadsCustom, InFrame}
use Rattle.wasm_shapes.specs.SectionTable.{number}
use Rattle.wasm_shapes.proofs.SectionTable.{kind_in_frame, custom_in_frame, unknown_in_frame}
use Rattle.wasm_write.specs.Sections.{Sections, SectionRow}
use Rattle.reencode_hooks.specs.declared.error.Error.{Error}
use Rattle.reencode_hooks.specs.Run.{accepted, run}
use Rattle.reencode_hooks.specs.Walk.{announced, followed}
use Rattle.reencode_core.specs.Errors.{IfParse, IfRefused}
use Rattle.reencode_core.specs.Rows.{Asks}
use Rattle.reencode_core.specs.Sections.{ReadsAs, GivesAdded, StopsSection, GivesSection}
use Rattle.reencode_core.specs.Names.{StopsCustom, GivesCustom}
use Rattle.reencode_core.specs.Core.{StopsThere}
use Rattle.reencode_core.specs.Weave.{Puts, put_at}
use Rattle.reencode_core.specs.Woven.{AddedAt}
use Rattle.wasm_shapes.proofs.SectionLaws.{frame_id}
use Rattle.reencode_core.proofs.sections_walked.KnownKind.{section_announced, section_followed}
use Rattle.reencode_core.proofs.faults.WalkRefusals.{IfParse-map, IfRefused-map, unless_wanting}

-- ---- its readings

pub kind_announced : {S E : Type 0} (asked : Asks S E) (k : SectionId) {body : List ℕ} (s : S) (last : Option SectionId) {t : Tree} → InFrame t (numbered_frame (number k) body) →
    (announced asked s last t ≡ asked s (Section last (Some k))) × (kind last t ≡ Some k)
kind_announced asked k {body = body} s last {t = t} i = let r = kind_in_frame k body t i in rw r.1 (section_announced k asked s last r.0)

-- behind it the closing hook
pub kind_followed : {S E : Type 0} (asked : Asks S E) (k : SectionId) {body : List ℕ} (s : S) {t : Tree} → InFrame t (numbered_frame (number k) body) → followed asked s t ≡ asked s (Closed k)
kind_followed asked k {body = body} s {t = t} i = let r = kind_in_frame k body t i in rw r.1 (section_followed k asked s r.0)

-- These are the visits of a hook at a section, by its frame: one at a section of a known kind, and none at another.
pub record AreTold (visit : SectionId → Visit) (told : Tree → List Visit) : Type 0 where
  pub kind : (k : SectionId) {body : List ℕ} {t : Tree} → InFrame t (numbered_frame (number k) body) → told t ≡ visit k ∷ []
  pub custom : {name contents : List ℕ} {t : Tree} → InFrame t (custom_frame name contents) → told t ≡ []
  pub unknown : {id : ℕ} {contents : List ℕ} {t : Tree} → 14 ≤ id → InFrame t (numbered_frame id contents) → told t ≡ []

-- those of the section hook before it
pub told_before : (last : Option SectionId) → AreTold (λ k. Section last (Some k)) (before last)
told_before last = record {
  kind = λ k {body} {t} i. let r = kind_in_frame k body t i in rw r.1 refl;
  custom = λ {name} {contents} {t} i. let r = custom_in_frame name contents t i in rw r.1 refl;
  unknown = λ {id} {contents} {t} low i. rw (unknown_in_frame id contents t low i) refl;
}

-- and of the closing hook behind it
pub told_behind : AreTold (λ k. Closed k) behind
told_behind = record {
  kind = λ k {body} {t} i. let r = kind_in_frame k body t i in rw r.1 refl;
  custom = λ {name} {contents} {t} i. let r = custom_in_frame name contents t i in rw r.1 refl;
  unknown = λ {id} {contents} {t} low i. rw (unknown_in_frame id contents t low i) refl;
}

-- what a hook puts there
pub kind_put : {S A : Type 0} (put : Puts S A) (visit : SectionId → Visit) (k : SectionId) {body : List ℕ} (s : S) {t : Tree} → InFrame t (numbered_frame (number k) body) →
    put_at put visit s t ≡ put s (visit k)
kind_put put visit k {body = body} s {t = t} i = let r = kind_in_frame k body t i in rw r.1 refl

custom_put : {S A : Type 0} (put : Puts S A) (visit : SectionId → Visit) {name contents : List ℕ} (s : S) {t : Tree} → InFrame t (custom_frame name contents) → put_at put visit s t ≡ []
custom_put put visit {name = name} {contents = contents} s {t = t} i = let r = custom_in_frame name contents t i in rw r.1 refl

unknown_put : {S A : Type 0} (put : Puts S A) (visit : SectionId → Visit) {id : ℕ} {contents : List ℕ} (s : S) {t : Tree} → 14 ≤ id → InFrame t (numbered_frame id contents) →
    put_at put visit s t ≡ []
unknown_put put visit {id = id} {contents = contents} s {t = t} low i = rw (unknown_in_frame id contents t low i) refl

module _ {S E : Type 0} {asked : Asks S E} {adds : Puts S SectionRow} {visit : SectionId → Visit} {s : S} where
  pub added_put : {n : S} {f : Tree} {own : List SectionRow} → AddedAt asked adds visit s f n own → (t : Tree) → InFrame t f → put_at adds visit s t ≡ own
  added_put (AddedAt.known k body n h) t i = kind_put adds visit k s i
  added_put (AddedAt.custom name contents) t i = custom_put adds visit s i
  added_put (AddedAt.unknown id contents low) t i = unknown_put adds visit s low i

  -- the hook was asked, and accepted
  pub added_run : {told : Tree → List Visit} {n : S} {f : Tree} {own : List SectionRow} → AreTold visit told → AddedAt asked adds visit s f n own → (t : Tree) → InFrame t f → (given : List ℕ) × (run asked s (told t) ≡ accepted given n)
  added_run are (AddedAt.known k body n h) t i =
      let P : List Visit → Type 0 = λ z. (given : List ℕ) × (run asked s z ≡ accepted given n) in subst P (sym (are.kind k i)) (0 ∷ [], rw h refl)
  added_run are (AddedAt.custom name contents) t i =
      let P : List Visit → Type 0 = λ z. (given : List ℕ) × (run asked s z ≡ accepted given s) in subst P (sym (are.custom i)) ([], refl)
  added_run are (AddedAt.unknown id contents low) t i =
      let P : List Visit → Type 0 = λ z. (given : List ℕ) × (run asked s z ≡ accepted given s) in subst P (sym (are.unknown low i)) ([], refl)

pub added_followed : {S E : Type 0} {asked : Asks S E} {adds : Puts S SectionRow} {s n : S} {f : Tree} {own : List SectionRow} → AddedAt asked adds (λ k. Closed k) s f n own → (t : Tree) → InFrame t f →
    followed asked s t ≡ accepted 0 n
added_followed {asked = asked} {s = s} (AddedAt.known k body n h) t i = kind_followed asked k s i ∙ h
added_followed (AddedAt.custom name contents) t i = let r = custom_in_frame name contents t i in rw r.1 refl
added_followed (AddedAt.unknown id contents low) t i = rw (unknown_in_frame id contents t low i) refl

framed_kind : (k : SectionId) {body : List ℕ} {t : Tree} → 1 ≤ number k → ReadsAs k body t → InFrame t (numbered_frame (number k) body)
framed_kind k {body = body} low r =
    let P : Tree → Type 0 = λ z. InFrame z (numbered_frame (number k) body) in subst P (sym r.1) (InFrame.of_kind k r.0 body low r.2)

framed_custom : {name contents : List ℕ} {t : Tree} → ReadsCustom name contents t → InFrame t (custom_frame name contents)
framed_custom {name = name} {contents = contents} r =
    let P : Tree → Type 0 = λ z. InFrame z (custom_frame name contents) in subst P (sym r.1) (InFrame.of_custom name contents r.0 r.2)

framed_unknown : {id : ℕ} {contents : List ℕ} {t : Tree} → 14 ≤ id → id ≤ 127 → t ≡ unknown_tree_of id contents → InFrame t (numbered_frame id contents)
framed_unknown {id = id} {contents = contents} low high r =
    let P : Tree → Type 0 = λ z. InFrame z (numbered_frame id contents) in subst P (sym r) (InFrame.of_unknown id contents low high)

-- ---- what the call that maps it gave

-- What is refused in it where it has no reading is a parameter: under which ceiling, the error, and the state that is left.
pub record GivesFramed {S E : Type 0} (asked : Asks S E) (id : ℕ) (f : Tree) (Stops : ℕ → Error E → S → Type 0) (before after : S × Sections) (result : Result (Unit {0}) (Error E)) : Type 0 where
  pub reading : (t : Tree) → InFrame t f → GivesAdded asked id before t after result
  pub readable : IfOk result (λ _. (t : Tree) × InFrame t f)
  pub unreadable : IfErr result (λ e. IfParse e (λ at. (t : Tree) → InFrame t f → ⊥))
  pub refusal : IfErr result (λ e. IfRefused e (((t : Tree) × InFrame t f) ⊎ Stops before.1.ceiling e after.0))
  pub unchanged : IfErr result (λ _. after.1 ≡ before.1)

-- the same of readings of any form
gives_framed : {S E : Type 0} {asked : Asks S E} {id : ℕ} {f : Tree} {Reads : Tree → Type 0} {Fault : ℕ → Type 0} {Stops : ℕ → Error E → S → Type 0} {before after : S × Sections}
    (forth : (t : Tree) → InFrame t f → Reads t) (back : (t : Tree) → Reads t → InFrame t f)
    (fault : (at : ℕ) → Fault at → (t : Tree) → Reads t → ⊥)
    (result : Result (Unit {0}) (Error E)) → ((t : Tree) → Reads t → GivesAdded asked id before t after result) → IfOk result (λ _. (t : Tree) × Reads t) →
    IfErr result (λ e. IfParse e Fault) → IfErr result (λ e. IfRefused e (((t : Tree) × Reads t) ⊎ Stops before.1.ceiling e after.0)) → IfErr result (λ _. after.1 ≡ before.1) →
    GivesFramed asked id f Stops before after result
gives_framed forth back fault (Ok u) reading readable unreadable refusal unchanged = record {
  reading = λ t i. reading t (forth t i);
  readable = (readable.0, back readable.0 readable.1);
  unreadable = tt;
  refusal = tt;
  unchanged = tt;
}
gives_framed {f = f} {Reads = Reads} {Stops = Stops} {before = before} {after = after} forth back fault (Err e) reading readable unreadable refusal unchanged = record {
  reading = λ t i. reading t (forth t i);
  readable = tt;
  unreadable = IfParse-map e (λ at h t i. fault at h t (forth t i)) unreadable;
  refusal = IfRefused-map e read refusal;
  unchanged = unchanged;
}
  where
    read : ((t : Tree) × Reads t) ⊎ Stops before.1.ceiling e after.0 → ((t : Tree) × InFrame t f) ⊎ Stops before.1.ceiling e after.0
    read (inl q) = inl (q.0, back q.0 q.1)
    read (inr q) = inr q

module _ {S E : Type 0} {asked : Asks S E} {s m : S} {old new : Sections} (r : Result (Unit {0}) (Error E)) where
  pub kind_gives : (k : SectionId) {bytes body left : List ℕ} → Begins frame bytes (numbered_frame (number k) body) left → GivesSection asked k body (s, old) (m, new) r →
      GivesFramed asked (number k) (numbered_frame (number k) body) (λ c e n. StopsSection asked c k body s e n) (s, old) (m, new) r
  kind_gives k {body = body} there g =
      gives_framed (kind_in_frame k body) (λ t q. framed_kind k (frame_id there).0 q) (λ at q. q.0) r g.reading g.readable g.unreadable g.refusal g.unchanged

  pub custom_gives : {name contents : List ℕ} → GivesCustom asked name contents (s, old) (m, new) r →
      GivesFramed asked 0 (custom_frame name contents) (λ c e n. StopsCustom asked c name contents s e n) (s, old) (m, new) r
  custom_gives {name = name} {contents = contents} g =
      gives_framed (custom_in_frame name contents) (λ t q. framed_custom q) (λ at q. q.0) r g.reading g.readable g.unreadable g.refusal g.unchanged

  pub unknown_gives : {id : ℕ} {bytes contents left : List ℕ} → 14 ≤ id → Begins frame bytes (numbered_frame id contents) left →
      GivesAdded asked id (s, old) (unknown_tree_of id contents) (m, new) r → IfErr r (λ e. IfParse e (λ _. ⊥)) →
      GivesFramed asked id (numbered_frame id contents) (λ c e n. ⊥) (s, old) (m, new) r
  unknown_gives {id = id} {contents = contents} low there g usual = go r g usual
    where
      at_tree : (r : Result (Unit {0}) (Error E)) → GivesAdded asked id (s, old) (unknown_tree_of id contents) (m, new) r → (t : Tree) → InFrame t (numbered_frame id contents) →
          GivesAdded asked id (s, old) t (m, new) r
      at_tree r g t i = let P : Tree → Type 0 = λ z. GivesAdded asked id (s, old) z (m, new) r in subst P (sym (unknown_in_frame id contents t low i)) g

      there_is : (t : Tree) × InFrame t (numbered_frame id contents)
      there_is = (unknown_tree_of id contents, framed_unknown low (frame_id there).1 refl)

      go : (r : Result (Unit {0}) (Error E)) → GivesAdded asked id (s, old) (unknown_tree_of id contents) (m, new) r → IfErr r (λ e. IfParse e (λ _. ⊥)) →
          GivesFramed asked id (numbered_frame id contents) (λ c e n. ⊥) (s, old) (m, new) r
      go (Ok u) g usual = record { reading = at_tree (Ok u) g; readable = there_is; unreadable = tt; refusal = tt; unchanged = tt }
      go (Err e) g usual = record {
        reading = at_tree (Err e) g;
        readable = tt;
        unreadable = IfParse-map e (λ at never. absurd never) usual;
        refusal = unless_wanting e (λ other. inl there_is);
        unchanged = g.0;
      }

-- ---- what was asked before it

-- It stands in a frame at the front of some bytes, what stands before it was asked, which was accepted, and from here it is
-- walked; what is refused in it where it has no reading is refused there.
pub record Reached {S E : Type 0} (asked : Asks S E) (Stops : ℕ → Error E → S → Type 0) (f : Tree) (bytes left : List ℕ) (last now : Option SectionId) (s n : S) : Type 0 where
  pub framed : Begins frame bytes f left
  pub told : (t : Tree) → InFrame t f → announced asked s last t ≡ accepted 0 n
  pub kinds : (t : Tree) → InFrame t f → kind last t ≡ now
  -- the visit of the section hook, where it was asked
  pub hook : List Visit
  pub given : List ℕ
  pub ran : run asked s hook ≡ accepted given n
  pub visited : (t : Tree) → InFrame t f → before last t ≡ hook
  pub drawn : (x : List ℕ) → Drawn x hook
  pub stops : (c : ℕ) (e : Error E) (m : S) → Stops c e m → StopsThere asked c bytes last s e m

module _ {S E : Type 0} (asked : Asks S E) {bytes left : List ℕ} {last : Option SectionId} {s : S} where
  -- before a section of a known kind the section hook
  pub kind_reached : (k : SectionId) {body : List ℕ} {n : S} → Begins frame bytes (numbered_frame (number k) body) left → asked s (Section last (Some k)) ≡ accepted 0 n →
      Reached asked (λ c e m. StopsSection asked c k body n e m) (numbered_frame (number k) body) bytes left last (Some k) s n
  kind_reached k {body = body} {n = n} there h = record {
    framed = there;
    told = λ t i. (kind_announced asked k s last i).0 ∙ h;
    kinds = λ t i. (kind_announced asked k s last i).1;
    hook = Section last (Some k) ∷ [];
    given = 0 ∷ [];
    ran = rw h refl;
    visited = λ t i. (told_before last).kind k i;
    drawn = λ x. drawn_hook;
    stops = λ c e m q. inl (record { id = k; body = body; left = left; framed = there; stops = inr (n, h, q) });
  }

  -- nothing before another
  pub custom_reached : {name contents : List ℕ} → Begins frame bytes (custom_frame name contents) left →
      Reached asked (λ c e m. StopsCustom asked c name contents s e m) (custom_frame name contents) bytes left last last s s
  custom_reached {name = name} {contents = contents} there = record {
    framed = there;
    told = λ t i. let r = custom_in_frame name contents t i in rw r.1 refl;
    kinds = λ t i. let r = custom_in_frame name contents t i in rw r.1 refl;
    hook = [];
    given = [];
    ran = refl;
    visited = λ t i. (told_before last).custom i;
    drawn = λ x. drawn_none;
    stops = λ c e m q.
        let P : List ℕ → Type 0 = λ z. Begins frame bytes (custom_frame z contents) left in
        inr (record { contents = contents; left = left; framed = subst P q.0 there; stops = q.1 });
  }

  pub unknown_reached : {id : ℕ} {contents : List ℕ} → 14 ≤ id → Begins frame bytes (numbered_frame id contents) left →
      Reached asked (λ c e m. ⊥) (numbered_frame id contents) bytes left last last s s
  unknown_reached {id = id} {contents = contents} low there = record {
    framed = there;
    told = λ t i. rw (unknown_in_frame id contents t low i) refl;
    kinds = λ t i. rw (unknown_in_frame id contents t low i) refl;
    hook = [];
    given = [];
    ran = refl;
    visited = λ t i. (told_before last).unknown low i;
    drawn = λ x. drawn_none;
    stops = λ c e m q. absurd q;
  }
