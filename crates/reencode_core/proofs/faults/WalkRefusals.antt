-- The walk over a tree that is spelled is refused by the reencoder or by a frame, and by nothing else.
use Rattle.std.proofs.Common.{◌≡◌, ◌≢◌, ℕ, length, nat_le, Bool, true, false, if◌then◌else◌, Option, Some, None, List, Result, Ok, Err, inl, inr, subst}
use Rattle.wasm_shapes.specs.declared.SectionId.{SectionId}
use Rattle.wasm_shapes.specs.declared.Space.TheVariants as space
use Rattle.wasm_shapes.specs.declared.Visit.{Visit}
use Rattle.wasm_shapes.specs.declared.Visit.TheVariants.{Index, Outer, Section, Closed, Push, Pop}
use Rattle.wasm_shapes.specs.Tree.{Tree, normal, kind}
use Rattle.wasm_shapes.specs.Spells.{Spelled}
use Rattle.wasm_leb.specs.declared.fault.Fault.{Fault}
use Rattle.wasm_leb.specs.declared.fault.Fault.TheVariants as fault
use Rattle.wasm_leb.specs.declared.fault.Kind.TheVariants as kinds
use Rattle.wasm_write.specs.declared.fault.WriteFault.{WriteFault}
use Rattle.wasm_write.specs.declared.fault.WriteFault.TheVariants as write
use Rattle.reencode_hooks.specs.declared.error.Error.{Error}
use Rattle.reencode_hooks.specs.declared.error.Error.TheVariants.{CanonicalizedHeapTypeReference, InvalidConstExpr, InvalidCodeSectionSize, UnexpectedNonCoreModuleSection, UnexpectedNonComponentSection, UnsupportedCoreTypeInComponent, ParseError, UserError, TooLarge, NoMemory}
use Rattle.reencode_hooks.specs.Errors.{error_of_fault, error_of_write}
use Rattle.reencode_hooks.specs.Run.{Step, accepted, refused, and_then, ask, answered}
use Rattle.reencode_hooks.specs.Walk.{walk_from, closed, announced, followed}
use Rattle.reencode_core.specs.Errors.{IfParse, IfRefused}

pub IfParse-map : {E : Type 0} {P Q : ℕ → Type 0} (e : Error E) → ((at : ℕ) → P at → Q at) → IfParse e P → IfParse e Q
IfParse-map (ParseError x) f h = f x.at h
IfParse-map (UserError _) f h = h
IfParse-map (TooLarge _) f h = h
IfParse-map NoMemory f h = h
IfParse-map CanonicalizedHeapTypeReference f h = h
IfParse-map InvalidConstExpr f h = h
IfParse-map InvalidCodeSectionSize f h = h
IfParse-map UnexpectedNonCoreModuleSection f h = h
IfParse-map UnexpectedNonComponentSection f h = h
IfParse-map UnsupportedCoreTypeInComponent f h = h

pub IfRefused-map : {E : Type 0} {P Q : Type 0} (e : Error E) → (P → Q) → IfRefused e P → IfRefused e Q
IfRefused-map (UserError _) f h = f h
IfRefused-map (TooLarge _) f h = f h
IfRefused-map _ f h = tt

-- what holds of every error but out of memory
pub unless_wanting : {E : Type 0} {P : Type 0} (e : Error E) → (e ≢ NoMemory → P) → IfRefused e P
unless_wanting (UserError _) h = h (λ q. cc)
unless_wanting (TooLarge _) h = h (λ q. cc)
unless_wanting _ h = tt

-- a reader's fault is no refusal
pub fault_unrefused : (E : Type 0) (P : Type 0) (f : Fault) → IfRefused {E = E} (error_of_fault f) P
fault_unrefused E P (fault.Read _) = tt
fault_unrefused E P fault.NoMemory = tt
fault_unrefused E P fault.CodeSize = tt
fault_unrefused E P (fault.Header kinds.Module) = tt
fault_unrefused E P (fault.Header kinds.Component) = tt

-- a writer's refusal says nothing of the bytes that are read
pub write_usual : (E : Type 0) (P : ℕ → Type 0) (w : WriteFault) → IfParse {E = E} (error_of_write w) P
write_usual E P (write.TooLarge _) = tt
write_usual E P write.NoMemory = tt

-- a refusal, if it is one, says nothing of the bytes
abbrev pub Usual : {S E A : Type 0} → Step S (Error E) A → Type 0
Usual (accepted a m) = Unit {0}
Usual (refused e m) = IfParse e (λ at. ⊥)

usual_then : {S E A B : Type 0} (a : Step S (Error E) A) (f : A → S → Step S (Error E) B) → Usual a → ((x : A) (m : S) → Usual (f x m)) → Usual (and_then a f)
usual_then (accepted x m) f p q = q x m
usual_then (refused e m) f p q = p

usual_closed : (S E : Type 0) (c : ℕ) (u : Tree) (m : S) → Usual (closed {E = E} c u m)
usual_closed S E c u m = go (nat_le (length (normal u)) c)
  where
    go : (b : Bool) → Usual {S = S} {E = E} {A = Tree} (if b then accepted (Tree.sized u) m else refused (TooLarge (length (normal u))) m)
    go true = tt
    go false = tt

module _ {S E : Type 0} (reply : S → Visit → Result ℕ E) (next : S → Visit → S) where
  pub usual_ask : (s : S) (v : Visit) → Usual (ask reply next s v)
  usual_ask s v = go (reply s v)
    where
      go : (r : Result ℕ E) → Usual (answered r (next s v))
      go (Ok n) = tt
      go (Err e) = tt

  pub usual_announced : (s : S) (last : Option SectionId) (t : Tree) → Usual (announced (ask reply next) s last t)
  usual_announced s last (Tree.row k t) = usual_announced s last t
  usual_announced s last (Tree.told k t) = usual_ask s (Section last (Some k))
  usual_announced s last _ = tt

  pub usual_followed : (s : S) (t : Tree) → Usual (followed (ask reply next) s t)
  usual_followed s (Tree.row k t) = usual_followed s t
  usual_followed s (Tree.told k t) = usual_ask s (Closed k)
  usual_followed s _ = tt

  pub usual_walk : (c : ℕ) (last : Option SectionId) (s : S) (t : Tree) (x : List ℕ) → Spelled t x → Usual (walk_from (ask reply next) c last s t)
  usual_walk c last s (Tree.ix p i) x h = usual_then _ _ (usual_ask s (Index p i)) (λ n m. tt)
  usual_walk c last s (Tree.sx p i) x h = usual_then _ _ (usual_ask s (Index p i)) (λ n m. tt)
  usual_walk c last s (Tree.outer p k i) x h = usual_then _ _ (usual_ask s (Outer p k i)) (λ n m. tt)
  usual_walk c last s (Tree.mem a i o) x h = usual_then _ _ (usual_ask s (Index space.Memory i)) (λ n m. tt)
  usual_walk c last s (Tree.canonical i) x h = absurd h
  usual_walk c last s (Tree.pair t u) x h =
      usual_then _ _ (usual_walk c None s t h.0 h.3) (λ t' m. usual_then _ _ (usual_walk c None m u h.1 h.4) (λ u' n. tt))
  usual_walk c last s (Tree.swap t u) x h =
      usual_then _ _ (usual_walk c None s u h.1 h.4) (λ u' m. usual_then _ _ (usual_walk c None m t h.0 h.3) (λ t' n. tt))
  usual_walk c last s (Tree.cons t u) x h =
      usual_then _ _ (usual_walk c None s t h.0 h.3) (λ t' m. usual_then _ _ (usual_walk c None m u h.1 h.4) (λ u' n. tt))
  usual_walk c last s (Tree.vec t) x h = usual_then _ _ (usual_walk c None s t h.1 h.4) (λ u m. tt)
  usual_walk c last s (Tree.present t) x h = usual_then _ _ (usual_walk c None s t h.0 h.2) (λ u m. tt)
  usual_walk c last s (Tree.sized t) x h = usual_then _ _ (usual_walk c None s t h.1 h.4) (λ u m. usual_closed S E c u m)
  usual_walk c last s (Tree.row k t) x h = usual_then _ _ (usual_walk c None s t x h) (λ u m. tt)
  usual_walk c last s (Tree.scope t) x h =
      usual_then _ _ (usual_ask s Push) (λ n m. usual_then _ _ (usual_walk c None m t x h) (λ u n. usual_then _ _ (usual_ask n Pop) (λ k l. tt)))
  usual_walk c last s (Tree.spare b t) x (inl h) = usual_then _ _ (usual_walk c None s t x h) (λ u m. tt)
  usual_walk c last s (Tree.spare b t) x (inr h) = usual_then _ _ (usual_walk c None s t h.0 h.2) (λ u m. tt)
  usual_walk c last s (Tree.kept b t) x h = usual_then _ _ (usual_walk c None s t h.0 h.2) (λ u m. tt)
  usual_walk c last s (Tree.final t u) x (inl h) =
      usual_then _ _ (usual_walk c None s t h.0 h.4) (λ t' m. usual_then _ _ (usual_walk c None m u h.1 h.5) (λ u' n. tt))
  usual_walk c last s (Tree.final t u) x (inr h) =
      usual_then _ _ (usual_walk c None s t h.1 h.5) (λ t' m. usual_then _ _ (usual_walk c None m u h.2 h.6) (λ u' n. tt))
  usual_walk c last s (Tree.until b t) x h = usual_then _ _ (usual_walk c None s t h.0 h.2) (λ u m. tt)
  usual_walk c last s (Tree.op k t) x h = usual_then _ _ (usual_walk c None s t h.1 h.4) (λ u m. tt)
  usual_walk c last s (Tree.left w o t) x h =
      usual_then _ _ (usual_walk c None s t h.2 h.6) (λ t' m. usual_then _ _ (usual_ask m (Index space.Table 0)) (λ i n.
      usual_then _ _ (usual_walk c None n o h.1 h.5) (λ o' k. tt)))
  usual_walk c last s (Tree.aimed w i o t) x h =
      usual_then _ _ (usual_walk c None s t h.3 h.8) (λ t' m. usual_then _ _ (usual_ask m (Index space.Table i)) (λ j n.
      usual_then _ _ (usual_walk c None n o h.2 h.7) (λ o' k. tt)))
  usual_walk c last s (Tree.placed i o t) x h =
      usual_then _ _ (usual_ask s (Index space.Memory i)) (λ j m. usual_then _ _ (usual_walk c None m o h.1 h.5) (λ o' n.
      usual_then _ _ (usual_walk c None n t h.2 h.6) (λ t' k. tt)))
  usual_walk c last s (Tree.told k t) x h = usual_then _ _ (usual_walk c None s t x h) (λ u m. tt)
  usual_walk c last s Tree.finish x h = usual_then _ _ (usual_ask s (Section last None)) (λ n m. tt)
  usual_walk c last s (Tree.also t u) x h =
      usual_then _ _ (usual_announced s last t) (λ a m. usual_then _ _ (usual_walk c None m t h.0 h.3) (λ t' n.
      usual_then _ _ (usual_followed n t) (λ b l. usual_then _ _ (usual_walk c (kind last t) l u h.1 h.4) (λ u' k. tt))))
  usual_walk c last s Tree.empty x h = tt
  usual_walk c last s (Tree.fixed b) x h = tt
  usual_walk c last s (Tree.byte b) x h = tt
  usual_walk c last s (Tree.raw bs) x h = tt
  usual_walk c last s (Tree.u32 n) x h = tt
  usual_walk c last s (Tree.u64 n) x h = tt
  usual_walk c last s (Tree.s32 z) x h = tt
  usual_walk c last s (Tree.s64 z) x h = tt
  usual_walk c last s (Tree.name bs) x h = tt
  usual_walk c last s (Tree.content bs) x h = tt
  usual_walk c last s (Tree.alike b k) x h = tt
  usual_walk c last s (Tree.flag n) x h = tt
  usual_walk c last s Tree.nil x h = tt
  usual_walk c last s Tree.absent x h = tt

-- what a step was refused with says nothing of the bytes
refused_usual : {S E A : Type 0} (P : ℕ → Type 0) (step : Step S (Error E) A) (e : Error E) (m : S) → Usual step → step ≡ refused e m → IfParse e P
refused_usual P (accepted a n) e m p h = absurd cc
refused_usual {S = S} {E = E} P (refused d n) e m p h =
    let same : d ≡ e = cc in
    let Q : Error E → Type 0 = λ z. IfParse z (λ at. ⊥) in
    IfParse-map e (λ at never. absurd never) (subst Q same p)

pub stops_usual : {S E A : Type 0} (P : ℕ → Type 0) (step : Step S (Error E) A) (e : Error E) (m : S) → Usual step → (e ≢ NoMemory → step ≡ refused e m) → IfParse e P
stops_usual P step NoMemory m p h = tt
stops_usual P step (UserError x) m p h = tt
stops_usual P step (TooLarge x) m p h = tt
stops_usual P step (ParseError x) m p h = refused_usual P step (ParseError x) m p (h (λ q. cc))
stops_usual P step CanonicalizedHeapTypeReference m p h = refused_usual P step CanonicalizedHeapTypeReference m p (h (λ q. cc))
stops_usual P step InvalidConstExpr m p h = refused_usual P step InvalidConstExpr m p (h (λ q. cc))
stops_usual P step InvalidCodeSectionSize m p h = refused_usual P step InvalidCodeSectionSize m p (h (λ q. cc))
stops_usual P step UnexpectedNonCoreModuleSection m p h = refused_usual P step UnexpectedNonCoreModuleSection m p (h (λ q. cc))
stops_usual P step UnexpectedNonComponentSection m p h = refused_usual P step UnexpectedNonComponentSection m p (h (λ q. cc))
stops_usual P step UnsupportedCoreTypeInComponent m p h = refused_usual P step UnsupportedCoreTypeInComponent m p (h (λ q. cc))
