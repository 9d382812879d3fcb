-- A renamer without entries that is not strict answers each visit by its own index, and a walk of it changes nothing.
use Rattle.std.specs.Prelude.{slice_index_or, replicate, ◌&&◌}
use Rattle.std.proofs.Common.{◌≡◌, ℕ, ◌<◌, ◌≤◌, List, [], ◌∷◌, ◌++◌, length, map, Bool, true, false, nat_lt, ltb-true, ltb-false, Option, None, Result, Ok, refl, sym, ap, ap₂, ◌∙◌, subst}
use Rattle.std.specs.FinMap as entries
use Rattle.wasm_shapes.specs.declared.Space.{Space}
use Rattle.wasm_shapes.specs.declared.Space.TheVariants as space
use Rattle.wasm_shapes.specs.declared.Visit.{Visit}
use Rattle.wasm_shapes.specs.declared.Visit.TheVariants.{Index, Outer, Section, Closed, Push, Pop}
use Rattle.wasm_shapes.specs.Tree.{Tree, visits, fill}
use Rattle.wasm_shapes.specs.Spells.{Spelled}
use Rattle.wasm_shapes.specs.Own.{asked_index, own}
use Rattle.wasm_shapes.proofs.OwnAnswers.{fill_own}
use Rattle.reencode_hooks.specs.declared.asked.Unmapped.{Unmapped}
use Rattle.reencode_hooks.specs.declared.error.Error.{Error}
use Rattle.reencode_hooks.specs.declared.error.Error.TheVariants.{TooLarge}
use Rattle.wasm_shapes.specs.Types.{is_core}
use Rattle.reencode_hooks.specs.Renamings.{Renaming, Entries, no_renaming, entries_in, entry_of, if_index, or_itself, renamed, space_number, renamer_next, renamer_reply}
use Rattle.reencode_hooks.specs.Run.{Step, accepted, refused, answered, ask, run, answers}
use Rattle.reencode_hooks.specs.Walk.{walk}
use Rattle.reencode_hooks.specs.Moments as moment
use Rattle.reencode_hooks.proofs.Walks.{walk_is_run, walk_stops}
use Rattle.reencode_hooks.proofs.Moments as moments
use Rattle.reencode_run.specs.Counts.{counted_at}
use Rattle.wasm_write.proofs.FramesFit.{frames_in_text}

-- ---- one visit

-- what a renamer answers to a visit, and the renamer behind it
abbrev pub asks : Renaming → Visit → Step Renaming (Error Unmapped) ℕ
asks s v = ask renamer_reply renamer_next s v

-- no entries, and not strict
pub record Blank (r : Renaming) : Type 0 where
  pub entries : r.entries ≡ replicate 16 entries.empty
  pub strict : r.strict ≡ false

pub blank_new : Blank no_renaming
blank_new = record { entries = refl; strict = refl }

no_entries : (p : Space) → slice_index_or (replicate {A = Entries} 16 entries.empty) (space_number p) entries.empty ≡ entries.empty
no_entries space.Data = refl
no_entries _ = refl

itself : {r : Renaming} → Blank r → (p : Space) (i : ℕ) → renamed r p i ≡ Ok i
itself {r} b p i =
    let none : entries_in r p ≡ entries.empty = ap (λ (e : List Entries). slice_index_or e (space_number p) entries.empty) b.entries ∙ no_entries p in
    let entry : entry_of r p i ≡ None = ap (λ (e : Entries). if_index (entries.get e i)) none ∙ ap if_index (entries.get-empty _ i) in
    ap₂ (λ (o : Option ℕ) (s : Bool). or_itself o (s && is_core p) p i) entry b.strict

pub blank_asked : {s : Renaming} → Blank s → (v : Visit) → asks s v ≡ accepted (asked_index v) (renamer_next s v)
blank_asked {s} b (Index p i) = ap (λ (r : Result ℕ Unmapped). answered r (renamer_next s (Index p i))) (itself b p i)
blank_asked {s} b (Outer p k i) = ap (λ (r : Result ℕ Unmapped). answered r (renamer_next s (Outer p k i))) (itself b p i)
blank_asked b (Section x y) = refl
blank_asked b (Closed k) = refl
blank_asked b Push = refl
blank_asked b Pop = refl

pub blank_next : {s : Renaming} → Blank s → (v : Visit) → Blank (renamer_next s v)
blank_next b (Index p i) = record { entries = b.entries; strict = b.strict }
blank_next b (Outer p k i) = record { entries = b.entries; strict = b.strict }
blank_next b (Section x y) = record { entries = b.entries; strict = b.strict }
blank_next b (Closed k) = b
blank_next b Push = record { entries = b.entries; strict = b.strict }
blank_next b Pop = record { entries = b.entries; strict = b.strict }

-- ---- visits one after another

-- the renamer after some visits
abbrev pub after_all : Renaming → List Visit → Renaming
after_all s [] = s
after_all s (v ∷ vs) = after_all (renamer_next s v) vs

pub blank_after : (vs : List Visit) {s : Renaming} → Blank s → Blank (after_all s vs)
blank_after [] b = b
blank_after (v ∷ vs) b = blank_after vs (blank_next b v)

pub counts_next : (s : Renaming) (v : Visit) → (renamer_next s v).counts ≡ counted_at s.counts v
counts_next s (Index p i) = refl
counts_next s (Outer p k i) = refl
counts_next s (Section x y) = refl
counts_next s (Closed k) = refl
counts_next s Push = refl
counts_next s Pop = refl

pub blank_run : (vs : List Visit) {s : Renaming} → Blank s → run asks s vs ≡ accepted (map asked_index vs) (after_all s vs)
blank_run [] b = refl
blank_run (v ∷ vs) {s} b = rw (blank_asked b v, blank_run vs (blank_next b v)) refl

-- where visits were accepted, these are the answers and the state
pub run_is : {s k : Renaming} {a : List ℕ} → Blank s → (vs : List Visit) → run asks s vs ≡ accepted a k → (a ≡ map asked_index vs) × (k ≡ after_all s vs)
run_is {s} {k} {a} b vs h =
    let e : ◌≡◌ {A = Step Renaming (Error Unmapped) (List ℕ)} (accepted a k) (accepted (map asked_index vs) (after_all s vs)) = sym h ∙ blank_run vs b in
    let x : a ≡ map asked_index vs = cc in let y : k ≡ after_all s vs = cc in (x, y)

pub run_blank : {s k : Renaming} {a : List ℕ} → Blank s → (vs : List Visit) → run asks s vs ≡ accepted a k → Blank k
run_blank {s} {k} b vs h = let e : k ≡ after_all s vs = (run_is b vs h).1 in rw e (blank_after vs b)

-- ---- walks

-- a walk that was accepted gave the tree itself
pub walk_is : {s k : Renaming} {u : Tree} (c : ℕ) (t : Tree) → Blank s → walk asks c s t ≡ accepted u k → (u ≡ t) × (k ≡ after_all s (visits t))
walk_is {s} {k} {u} c t b h =
    let p = (walk_is_run asks).forth c s k t u h in
    let r = run_is b (visits t) p.ran in
    (sym p.filled ∙ ap (λ (z : List ℕ). fill t z) r.0 ∙ fill_own t, r.1)

pub walk_blank : {s k : Renaming} {u : Tree} (c : ℕ) (t : Tree) → Blank s → walk asks c s t ≡ accepted u k → Blank k
walk_blank {s} {k} c t b h = let e : k ≡ after_all s (visits t) = (walk_is c t b h).1 in rw e (blank_after (visits t) b)

-- a text that is no longer than the ceiling is accepted
pub short_accepted : {s : Renaming} (c : ℕ) (t : Tree) (x : List ℕ) → Blank s → Spelled t x → length x ≤ c → walk asks c s t ≡ accepted t (after_all s (visits t))
short_accepted {s} c t x b p h =
    (walk_is_run asks).back c s (after_all s (visits t)) t t x p (record {
      given = own t;
      ran = blank_run (visits t) b;
      filled = fill_own t;
      fits = frames_in_text c t x p h;
    })

-- an error says that a size is above the ceiling, and the text is longer than that
pub record Large (c : ℕ) (x : List ℕ) (e : Error Unmapped) : Type 0 where
  pub size : ℕ
  pub is : e ≡ TooLarge size
  pub long : c < length x

pub never_lost : (front rest : List moment.Moment) → moment.NoneLost (front ++ moment.lost ∷ rest) → ⊥
never_lost [] rest h = h
never_lost (moment.asks v ∷ front) rest h = never_lost front rest h
never_lost (moment.closes n ∷ front) rest h = never_lost front rest h
never_lost (moment.lost ∷ front) rest h = h

ended : (c : ℕ) {s k : Renaming} (m : Renaming) {a : List ℕ} (x : List ℕ) (front rest : List moment.Moment) (now : moment.Moment) (e : Error Unmapped) → Blank s → c < length x →
    moment.NoneLost (front ++ now ∷ rest) → run asks s (moment.asked_in front) ≡ accepted a k → moment.Ends asks c k now e m → Large c x e
ended c {s} {k} m x front rest (moment.asks v) e b long none ran h =
    let never : ◌≡◌ {A = Step Renaming (Error Unmapped) ℕ} (accepted (asked_index v) (renamer_next k v)) (refused e m) =
    sym (blank_asked (run_blank b (moment.asked_in front) ran) v) ∙ h in absurd cc
ended c m x front rest (moment.closes n) e b long none ran h = record { size = n; is = h.1; long = long }
ended c m x front rest moment.lost e b long none ran h = absurd (never_lost front rest none)

pub only_large : {s m : Renaming} {e : Error Unmapped} (c : ℕ) (t : Tree) (x : List ℕ) → Blank s → Spelled t x → walk asks c s t ≡ refused e m → Large c x e
only_large {s} {m} {e} c t x b p h = go (nat_lt c (length x)) refl
  where
    go : (z : Bool) → nat_lt c (length x) ≡ z → Large c x e
    go true f =
        let given = answers asks s (visits t) in
        let q = (walk_stops asks c s m t e).0 h in
        let none : moment.NoneLost (moment.moments t given) = moments.known t x given p in
        ended c m x q.front q.rest q.moment e b (ltb-true c (length x) f) (subst moment.NoneLost q.parts none) q.ran q.ends
    go false f =
        let short : length x ≤ c = ltb-false c (length x) f in
        let never : ◌≡◌ {A = Step Renaming (Error Unmapped) Tree} (accepted t (after_all s (visits t))) (refused e m) = sym (short_accepted c t x b p short) ∙ h in absurd cc
