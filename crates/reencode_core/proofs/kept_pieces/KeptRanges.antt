-- The kept ranges of the sections of a module.
use Rattle.std.proofs.Common.{◌≡◌, ◌≢◌, ◌+◌, ◌-◌, ◌⊎◌, ◌<◌, ◌^◌, inl, inr, ℕ, List, [], ◌∷◌, ◌++◌, length, Option, None, Ok, Err, OnOk, Result, refl, sym, ap, ◌∙◌, subst, append_assoc, append-nil, length-append, arith, ◌≤◌}
use Rattle.std.proofs.lemmas.List.{append_cancel_left, append_cancel_right}
use Rattle.wasm_leb.specs.Leb.{IsUnsigned}
use Rattle.wasm_shapes.specs.declared.SectionId.{SectionId}
use Rattle.wasm_shapes.specs.declared.SectionId.TheVariants as id
use Rattle.wasm_shapes.specs.declared.Visit.{Visit}
use Rattle.wasm_shapes.specs.Fits.{Fits}
use Rattle.wasm_shapes.specs.Tree.{Tree, fill, frames, visits}
use Rattle.wasm_shapes.specs.Place.{Begins}
use Rattle.wasm_shapes.specs.Spells.{Spells}
use Rattle.wasm_shapes.specs.Module.{body_of, core_header, core_module, core_tree, custom_frame, frame, numbered_frame, section, tree_of, alsos, InFrame}
use Rattle.wasm_shapes.specs.SectionTable.{number}
use Rattle.wasm_shapes.proofs.Laws.{module_headed}
use Rattle.wasm_shapes.proofs.SectionTable.{custom_in_frame, kind_in_frame, of_frame, unknown_in_frame}
use Rattle.wasm_write.specs.Sections.{SectionRow, Sections}
use Rattle.reencode_hooks.specs.declared.error.Error.{Error}
use Rattle.wasm_shapes.specs.declared.Visit.TheVariants.{Section}
use Rattle.reencode_hooks.specs.Run.{Step, accepted, and_then, ask, run}
use Rattle.reencode_hooks.proofs.Walks.{walk_is_run}
use Rattle.reencode_hooks.proofs.InRange.{below}
use Rattle.reencode_core.proofs.weave.WovenReading.{reading_small}
use Rattle.reencode_core.specs.Kept.{Kept}
use Rattle.reencode_core.proofs.kept_pieces.KeptAnswers.{kept_is_answered}
use Rattle.reencode_hooks.specs.Walk.{walk}
use Rattle.reencode_hooks.specs.Hooks.{KeepsAnswers, RepliesSection}
use Rattle.reencode_hooks.specs.declared.indices.ReencodeIndices.{Ghosts}
use Rattle.reencode_core.specs.Rows.{Asks}
use Rattle.reencode_core.specs.Core.{onto}
use Rattle.reencode_core.specs.Weave.{Puts}
use Rattle.reencode_core.proofs.sections_walked.AnySection.{GivesFramed, Reached}
use Rattle.reencode_core.proofs.sections_walked.CoreLoop.{Ahead, PutBefore, PutBehind, SectionsDone, ahead, none_behind, sections_begin, sections_begin_parts, sections_more, sections_more_parts}
use Rattle.reencode_core.specs.Pieces.{Range}
use Rattle.reencode_core.specs.Sinks.{InCode, KeepsCodeSection, KeepsFrames, KeepsKind, KeptOf, KeepsRanges, KeepsSections, NotCode}
use Rattle.reencode_core.specs.Clauses.{asks}

-- ---- one section more

abbrev pub KeepsOne : ℕ → List ℕ → Tree → Tree → List Range → List Range → Type 0
KeepsOne at x t u old new = InCode at x t u old new ⊎ (NotCode t × (new ≡ old))

sections_snoc : (ts us : List Tree) (at at' : ℕ) (text x : List ℕ) (t u : Tree) (old mid new : List Range) → at' ≡ at + length text → Spells section x t → KeepsSections at text ts us old mid → KeepsOne at' x t u mid new →
    KeepsSections at (text ++ x) (ts ++ t ∷ []) (us ++ u ∷ []) old new
sections_snoc [] [] at at' text x t u old mid new e sp p q =
    let empty : text ≡ [] = p.0 in
    let here : at' ≡ at = omega (arith, e, ap length empty) in
    let B : ℕ → List Range → Type 0 = λ n o. KeepsOne n x t u o new in
    let kept : B at old = subst (λ (n : ℕ). B n old) here (subst (λ (o : List Range). B at' o) p.1 q) in
    (x, [], new, ap (λ (z : List ℕ). z ++ x) empty ∙ sym (append-nil x), sp, kept, (refl, refl))
sections_snoc [] (v ∷ us) at at' text x t u old mid new e sp p q = absurd p
sections_snoc (s ∷ ts) [] at at' text x t u old mid new e sp p q = absurd p
sections_snoc (s ∷ ts) (v ∷ us) at at' text x t u old mid new e sp p q =
    let a = ap length p.3 ∙ length-append p.0 p.1 in
    let next : at' ≡ at + length p.0 + length p.1 = omega (arith, e, a) in
    let whole : text ++ x ≡ p.0 ++ (p.1 ++ x) = ap (λ (z : List ℕ). z ++ x) p.3 ∙ append_assoc p.0 p.1 x in
    (p.0, p.1 ++ x, p.2, whole, p.4, p.5, sections_snoc ts us (at + length p.0) at' p.1 x t u p.2 mid new next sp p.6 q)

-- ---- what a section is

same_made : {S E : Type 0} {r : Step S E Tree} {u v : Tree} {m n : S} → r ≡ accepted u m → r ≡ accepted v n → u ≡ v
same_made h k = cc

pub in_code : {S E : Type 0} (asked : Asks S E) (c : ℕ) (n m : S) (at start : ℕ) (rest x left bytes : List ℕ) (t u : Tree) (old new : List Range) → KeepsCodeSection asked c start bytes n m old new →
    InFrame t (numbered_frame (number id.Code) bytes) → rest ≡ x ++ left → Begins frame rest (numbered_frame (number id.Code) bytes) left → start + length bytes ≡ at + length x →
    walk asked c n t ≡ accepted u m → InCode at x t u old new
in_code asked c n m at start rest x left bytes t u old new k i stands b place walked =
    let r = kind_in_frame id.Code bytes t i in
    let p = b.spells.spelled in
    let q = p.4 in
    let size : List ℕ = q.0 in
    let byte : p.0 ≡ 10 ∷ [] = p.3.0 in
    let framed : b.text ≡ (10 ∷ size) ++ bytes = p.2 ∙ ap (λ (z : List ℕ). z ++ p.1) byte ∙ ap (λ (z : List ℕ). 10 ∷ z) (q.2 ∙ ap (λ (z : List ℕ). size ++ z) q.4) in
    let same : x ≡ b.text = append_cancel_right x b.text left (sym stands ∙ b.reads) in
    let whole : x ≡ (10 ∷ size) ++ bytes = same ∙ framed in
    let len : length x ≡ length (10 ∷ size) + length bytes = ap length whole ∙ length-append (10 ∷ size) bytes in
    let here : start + length k.count ≡ at + length (10 ∷ size) + length k.count = omega (arith, place, len) in
    let F : ℕ → Type 0 = λ j. KeepsFrames j k.text k.made [] k.ranges in
    let N : List ℕ → Type 0 = λ z. IsUnsigned 32 size (length z) in
    record {
      head = 10 ∷ size;
      count = k.count;
      text = k.text;
      made = k.made;
      body = r.0;
      is = r.1;
      becomes = same_made walked (k.becomes t r);
      parts = whole ∙ ap (λ (z : List ℕ). (10 ∷ size) ++ z) k.parts;
      reads = let R : List ℕ → Type 0 = λ z. Spells (body_of id.Code) z r.0 in subst R k.parts r.2;
      framed = (size, refl, subst N k.parts (subst N q.4 q.3));
      counted = k.counted;
      ranges = k.ranges;
      inside = subst F here k.inside;
      kept = k.kept;
    }

pub kind_not_code : (k : SectionId) (bytes : List ℕ) (t : Tree) → k ≢ id.Code → InFrame t (numbered_frame (number k) bytes) → NotCode t
kind_not_code k bytes t other i body e =
    let r = kind_in_frame k bytes t i in
    let same : tree_of k r.0 ≡ tree_of id.Code body = sym r.1 ∙ e in
    other cc

pub custom_not_code : (name contents : List ℕ) (t : Tree) → InFrame t (custom_frame name contents) → NotCode t
custom_not_code name contents t i body e = let r = custom_in_frame name contents t i in let same = sym r.1 ∙ e in absurd cc

pub unknown_not_code : (k : ℕ) (contents : List ℕ) (t : Tree) → 14 ≤ k → InFrame t (numbered_frame k contents) → NotCode t
unknown_not_code k contents t low i body e = let r = unknown_in_frame k contents t low i in let same = sym r ∙ e in absurd cc

-- ---- the loop

abbrev pub RangesDone : {S E : Type 0} → Asks S E → Puts S SectionRow → List ℕ → S → Sections → List ℕ → Option SectionId → S → Sections → List Range → List Range → Type 0
RangesDone asked adds start s0 old rest last s new k0 k =
    (d : SectionsDone asked adds start s0 old rest last s new) × KeepsSections 8 d.text d.read d.made k0 k

module _ {S E : Type 0} (asked : Asks S E) (adds : Puts S SectionRow) where
  pub ranges_begun : (start : List ℕ) (s : S) (old : Sections) (k : List Range) → RangesDone asked adds start s old start None s old k k
  ranges_begun start s old k =
      let d = sections_begin asked adds start s old in
      let p = sections_begin_parts asked adds start s old in
      (d, begun d.text d.read d.made k p.2 p.0 p.1)
    where
      begun : (text : List ℕ) (read made : List Tree) (k : List Range) → text ≡ [] → read ≡ [] → made ≡ [] → KeepsSections 8 text read made k k
      begun text read made k a b c = rw (a, b, c) (refl, refl)

  pub ranges_more : {Stops : ℕ → Error E → S → Type 0} {id : ℕ} {f : Tree} {start rest rest' : List ℕ} {s0 s n l s' : S} {old new mid held new' : Sections} {last now : Option SectionId} (k0 k1 k2 : List Range) →
      RangesDone asked adds start s0 old rest last s new k0 k1 → Reached asked Stops f rest rest' last now s n → PutBefore asked adds last f s n new mid →
      GivesFramed asked id f Stops (n, mid) (l, held) (Ok tt) → PutBehind asked adds f l s' held new' →
      ((text x : List ℕ) (t u : Tree) → start ≡ text ++ rest → rest ≡ x ++ rest' → InFrame t f → walk asked mid.ceiling n t ≡ accepted u l → KeepsOne (8 + length text) x t u k1 k2) →
      RangesDone asked adds start s0 old rest' now s' new' k0 k2
  ranges_more k0 k1 k2 p reached put g behind one =
      let d = p.0 in
      let t = g.readable.0 in
      let in_it = g.readable.1 in
      let here = reached.framed in
      let q = g.reading t in_it in
      let e = sections_more asked adds d reached put g behind in
      let parts = sections_more_parts asked adds d reached put g behind in
      let next = sections_snoc d.read d.made 8 (8 + length d.text) d.text here.text t q.0 k0 k1 k2 refl (of_frame in_it here.spells) p.1 (one d.text here.text t q.0 d.stands here.reads in_it q.2) in
      (e, more e.text (d.text ++ here.text) e.read (d.read ++ t ∷ []) e.made (d.made ++ q.0 ∷ []) k0 k2 parts.2 parts.0 parts.1 next)
    where
      more : (x y : List ℕ) (a b u v : List Tree) (k0 k2 : List Range) → x ≡ y → a ≡ b → u ≡ v → KeepsSections 8 y b v k0 k2 → KeepsSections 8 x a u k0 k2
      more x y a b u v k0 k2 e f g h = rw (e, f, g) h

-- a section of a kind
pub kind_one : {S E : Type 0} (asked : Asks S E) (c : ℕ) (k : SectionId) (n m : S) (start at : ℕ) (rest x left bytes : List ℕ) (t u : Tree) (old new : List Range) →
    KeepsKind asked c k start bytes n m old new → InFrame t (numbered_frame (number k) bytes) → rest ≡ x ++ left → Begins frame rest (numbered_frame (number k) bytes) left →
    start + length bytes ≡ at + length x → walk asked c n t ≡ accepted u m → KeepsOne at x t u old new
kind_one asked c k n m start at rest x left bytes t u old new (inl h) i stands b place walked =
    let P : SectionId → Type 0 = λ z. InFrame t (numbered_frame (number z) bytes) in
    let Q : SectionId → Type 0 = λ z. Begins frame rest (numbered_frame (number z) bytes) left in
    inl (in_code asked c n m at start rest x left bytes t u old new h.1 (subst P h.0 i) stands (subst Q h.0 b) place walked)
kind_one asked c k n m start at rest x left bytes t u old new (inr h) i stands b place walked = inr (kind_not_code k bytes t h.0 i, h.1)

-- the place of a section's body, by what stands around it
pub body_place : (bytes first text rest x left : List ℕ) (end : ℕ) → bytes ≡ core_header ++ first → first ≡ text ++ rest → rest ≡ x ++ left → length bytes - length left ≡ end → end ≡ (8 + length text) + length x
body_place bytes first text rest x left end a b c e =
    let la = ap length a ∙ length-append core_header first in
    let lb = ap length b ∙ length-append text rest in
    let lc = ap length c ∙ length-append x left in
    omega (arith, la, lb, lc, e)

-- the end
module _ {S E : Type 0} (asked : Asks S E) (adds : Puts S SectionRow) where
  pub ranges_ended : {start bytes rest : List ℕ} {s0 s : S} {old new : Sections} {last : Option SectionId} (m : S) (k0 k : List Range) → bytes ≡ core_header ++ start →
      RangesDone asked adds start s0 old rest last s new k0 k → rest ≡ [] → asked s (Section last None) ≡ accepted 0 m → KeepsRanges asked old.ceiling bytes s0 m k0 k
  ranges_ended {start = start} {bytes = bytes} {rest = rest} {s0 = s0} {s = s} {old = old} {new = new} {last = last} m k0 k reads p empty told t r =
      let d = p.0 in
      let first : start ≡ r.rest = append_cancel_left core_header start r.rest (sym reads ∙ r.stands) in
      let all : d.text ≡ start = sym (append-nil d.text) ∙ ap (λ (z : List ℕ). d.text ++ z) (sym empty) ∙ sym d.stands in
      let K : List ℕ → Type 0 = λ z. KeepsSections 8 z d.read d.made k0 k in
      let walked : walk asked old.ceiling s0 (alsos d.read Tree.finish) ≡ accepted (alsos d.made Tree.finish) m =
      d.accepts Tree.finish ∙ ap (λ (a : Step S (Error E) ℕ). onto d.made (and_then a (λ _ n. accepted Tree.finish n))) told in
      go d.read d.made walked (subst K all p.1) (ahead d.read start d.text rest r.rest [] t d.spells d.stands r.spells (first ∙ sym (append-nil r.rest)) none_behind)
    where
      go : (read made : List Tree) → walk asked old.ceiling s0 (alsos read Tree.finish) ≡ accepted (alsos made Tree.finish) m → KeepsSections 8 start read made k0 k →
          Ahead read rest t [] → (read made : List Tree) × (rest : List ℕ) × (bytes ≡ core_header ++ rest) × (t ≡ alsos read Tree.finish)
          × (walk asked old.ceiling s0 t ≡ accepted (alsos made Tree.finish) m) × KeepsSections 8 rest read made k0 k
      go read made walked kept (Ahead.same e f) = (read, made, start, reads, e, rw e walked, kept)
      go read made walked kept (Ahead.more u v left e b) = absurd (none_behind.none b.text left u b.spells (sym empty ∙ b.reads))

pub ranges_end : {S E : Type 0} (i : Ghosts S E) {start bytes rest : List ℕ} {s0 s : S} {old new : Sections} {last : Option SectionId} (m : S) (mid : Sections) (k0 k k' : List Range) (r : Result (Unit {0}) (Error E)) →
    bytes ≡ core_header ++ start → RangesDone (asks i) i.adds start s0 old rest last s new k0 k → rest ≡ [] → RepliesSection i.reply i.next i.adds s m new mid (Section last None) r → OnOk r (k' ≡ k) →
    OnOk r (KeepsRanges (asks i) old.ceiling bytes s0 m k0 k')
ranges_end i {bytes = bytes} {s0 = s0} {old = old} m mid k0 k k' (Ok u) reads p empty answer same =
    let K : List Range → Type 0 = λ z. KeepsRanges (asks i) old.ceiling bytes s0 m k0 z in
    subst K (sym same) (ranges_ended (asks i) i.adds m k0 k reads p empty answer.0)
ranges_end i m mid k0 k k' (Err e) reads p empty answer same = tt

-- the whole module
core_accepted : {S E : Type 0} (asked : Asks S E) (c : ℕ) (s m : S) (t u v : Tree) → t ≡ core_tree u → walk asked c s u ≡ accepted v m → walk asked c s t ≡ accepted (core_tree v) m
core_accepted asked c s m t u v e h = rw (e, h) refl

pub module_kept : {S E : Type 0} (asked : Asks S E) (c : ℕ) (bytes : List ℕ) (s m : S) (ranges : List Range) → KeepsRanges asked c bytes s m [] ranges → (t : Tree) → Spells core_module bytes t →
    (u : Tree) × (walk asked c s t ≡ accepted u m) × KeptOf bytes t u ranges
module_kept asked c bytes s m ranges k t p =
    let r = module_headed.back bytes t p in
    let q = k r.0 r.2 in (
      core_tree (alsos q.1 Tree.finish),
      core_accepted asked c s m t r.0 (alsos q.1 Tree.finish) r.1 q.5,
      record {
        read = q.0;
        made = q.1;
        rest = q.2;
        stands = q.3;
        is = r.1 ∙ ap core_tree q.4;
        becomes = refl;
        kept = q.6;
      },
    )

-- by the answers to the visits
pub answered_kept : {S E : Type 0} (reply : S → Visit → Result ℕ E) (next : S → Visit → S) (c : ℕ) (bytes : List ℕ) (s m : S) (ranges : List Range) → KeepsAnswers reply → c < 2 ^ 32 →
    KeepsRanges (ask reply next) c bytes s m [] ranges → (t : Tree) → Spells core_module bytes t →
    (told : List ℕ) × (run (ask reply next) s (visits t) ≡ accepted told m) × Kept bytes t told ranges
answered_kept reply next c bytes s m ranges keeps bound k t p =
    let asked = ask reply next in
    let q = module_kept asked c bytes s m ranges k t p in
    let a = (walk_is_run asked).forth c s m t q.0 q.1 in
    let small = reading_small reply next keeps s m t bytes a.given p.spelled a.ran in
    let F : Tree → Type 0 = λ z. Fits z (2 ^ 32 - 1) in
    let K : Tree → Type 0 = λ z. KeptOf bytes t z ranges in
    let fits : F (fill t a.given) = subst F (sym a.filled) (below c (2 ^ 32 - 1) (frames q.0) (omega arith) a.fits) in
    (a.given, a.ran, kept_is_answered bytes t a.given ranges small fits (subst K (sym a.filled) q.2))
