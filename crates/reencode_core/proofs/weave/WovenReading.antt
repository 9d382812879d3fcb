-- What comes out of a reading and of added sections that have readings is read as what is woven of these, and as nothing else.
use Rattle.std.proofs.Common.{◌≡◌, ◌<◌, ◌≤◌, ◌^◌, ◌-◌, ℕ, List, [], ◌∷◌, ◌++◌, length, get_or, drop, map, Option, Some, None, Result, refl, sym, ap, ◌∙◌, subst, All}
use Rattle.std.proofs.lemmas.List.Elements.{All-nil, All-cons, All-head, All-tail}
use Rattle.wasm_shapes.specs.declared.SectionId.{SectionId}
use Rattle.wasm_shapes.specs.declared.Visit.{Visit}
use Rattle.wasm_shapes.specs.declared.Visit.TheVariants.{Section, Closed}
use Rattle.wasm_shapes.specs.Tree.{Tree, visits, visits_from, before, behind, kind, fill, after, past, normal, frames}
use Rattle.wasm_shapes.specs.Fits.{Fits}
use Rattle.wasm_shapes.specs.Spells.{Is, Spelled, Spells}
use Rattle.wasm_shapes.specs.Module.{core_header, section, sections, core_module, core_tree, headed_tree, alsos}
use Rattle.wasm_shapes.proofs.Laws.{filled_read_back, head_forth, module_headed, one_tree, tables_sound}
use Rattle.wasm_shapes.proofs.ReadBack.{spelled_in_range}
use Rattle.wasm_write.specs.Sections.{SectionRow, section_bytes, framed_tree}
use Rattle.reencode_hooks.specs.Run.{accepted, ask, run, state_after}
use Rattle.reencode_hooks.specs.Hooks.{KeepsAnswers}
use Rattle.reencode_hooks.proofs.InRange.{Small, all_small, answers_small, below, small_behind, visits_in_range}
use Rattle.reencode_core.specs.Rows.{Asks}
use Rattle.reencode_core.specs.Weave.{AtSections, Puts, added, put_at, put_behind, woven_from, woven}
use Rattle.reencode_core.specs.WovenLaws.{AreReadings, ReadsAdded, OutputIsRead}
use Rattle.reencode_core.proofs.weave.Weaves.{AtKind, also_behind, also_hooks, also_ran, forth, woven_alike}

-- the answers to the visits of what bytes spell
pub reading_small : {S E : Type 0} (reply : S → Visit → Result ℕ E) (next : S → Visit → S) → KeepsAnswers reply → (s m : S) (t : Tree) (bytes told : List ℕ) → Spelled t bytes →
    run (ask reply next) s (visits t) ≡ accepted told m → (k : ℕ) → get_or told k 0 < 2 ^ 32
reading_small reply next keeps s m t bytes told p ran = all_small told (answers_small reply next keeps s m (visits t) told (visits_in_range None t (spelled_in_range t bytes p)) ran)

-- ---- frames that fit

all_parts : (c : ℕ) (xs ys : List ℕ) → All (λ n. n ≤ c) (xs ++ ys) → All (λ n. n ≤ c) xs × All (λ n. n ≤ c) ys
all_parts c [] ys h = (All-nil (λ n. n ≤ c), h)
all_parts c (x ∷ xs) ys h =
    let rest = all_parts c xs ys (All-tail (λ n. n ≤ c) x (xs ++ ys) h) in
    (All-cons (λ n. n ≤ c) x xs (All-head (λ n. n ≤ c) x (xs ++ ys) h) rest.0, rest.1)

-- ---- sections

-- what is added, before others
reads_before : (rows : List SectionRow) (vs : List Tree) (p q : Tree) → AreReadings rows vs → Spells sections (normal p) q →
    Spells sections (normal (alsos (map framed_tree rows) p)) (alsos vs q)
reads_before _ _ p q AreReadings.none h = h
reads_before _ _ p q (AreReadings.more {row = row} {rows = rows} {vs = vs} r rest) h =
    let others = reads_before rows vs p q rest h in
    record { shaped = Is.also r.shaped others.shaped; spelled = (section_bytes row, normal (alsos (map framed_tree rows) p), refl, r.spelled, others.spelled) }

module _ {S E : Type 0} (asked : Asks S E) (adds : Puts S SectionRow) (readings : Puts S Tree) where
  abbrev Reads : S → Visit → Type 0
  Reads s v = AreReadings (adds s v) (readings s v)

  reads_hook : (visit : SectionId → Visit) (s : S) (t p q : Tree) → AtKind Reads visit s t → Spells sections (normal p) q →
      Spells sections (normal (alsos (put_at (added adds) visit s t) p)) (alsos (put_at readings visit s t) q)
  reads_hook visit s (Tree.row k t) p q are h = reads_hook visit s t p q are h
  reads_hook visit s (Tree.told k t) p q are h = reads_before (adds s (visit k)) (readings s (visit k)) p q are h
  reads_hook visit s _ p q are h = h

  reads_from : (last : Option SectionId) (s m : S) (t : Tree) (x xs told : List ℕ) → Is sections t → Spelled t x → Small xs → Fits (fill t xs) (2 ^ 32 - 1) →
      run asked s (visits_from last t) ≡ accepted told m → AtSections asked s (visits_from last t) Reads →
      Spells sections (normal (woven_from asked (added adds) last s t xs)) (woven_from asked readings last s t xs)
  reads_from last s m t x xs told Is.finish p small fits ran are =
      reads_before (adds s (Section last None)) (readings s (Section last None)) Tree.finish Tree.finish (are [] (Section last None) [] tt refl) (record { shaped = Is.finish; spelled = refl })
  reads_from last s m t x xs told (Is.also {t = v} {u = u} d d') p small fits ran are =
      let own : List ℕ = drop (length (before None v)) xs in
      let own_small : Small own = small_behind (length (before None v)) xs small in
      let rest_small : Small (past v own) = small_behind (length (behind v)) (after v own) (small_behind (length (visits v)) own own_small) in
      let parts = all_parts (2 ^ 32 - 1) (frames (fill v own)) (frames (fill u (past v own))) fits in
      let one : Spells section (normal (fill v own)) (fill v own) = filled_read_back section p.0 v own own_small (record { shaped = d; spelled = p.3 }) parts.0 in
      let r = also_ran asked s m last v u told ran in
      let hooks = also_hooks asked Reads s m last v u r are in
      let inner : Tree = woven_from asked (added adds) (kind last v) r.from u (past v own) in
      let inner_read : Tree = woven_from asked readings (kind last v) r.from u (past v own) in
      let others = reads_from (kind last v) r.from m u p.1 (past v own) r.others d' p.4 rest_small parts.1 r.others_ran (also_behind asked Reads s m last v u r are) in
      let made : Tree = alsos (put_behind (added adds) r.at v) inner in
      let read : Tree = alsos (put_behind readings r.at v) inner_read in
      let rest : Spells sections (normal made) read = reads_hook (λ k. Closed k) r.at v inner inner_read hooks.1 others in
      rw (r.at_is, r.from_is)
      (reads_hook (λ k. Section last (Some k)) s v (Tree.also (fill v own) made) (Tree.also (fill v own) read) hooks.0
      (record { shaped = Is.also one.shaped rest.shaped; spelled = (normal (fill v own), normal made, refl, one.spelled, rest.spelled) }))

-- ---- the header

normal_headed : (hs : List ℕ) (t : Tree) → normal (headed_tree hs t) ≡ hs ++ normal t
normal_headed [] t = refl
normal_headed (h ∷ hs) t = ap (λ (z : List ℕ). h ∷ z) (normal_headed hs t)

frames_headed : (hs : List ℕ) (t : Tree) (xs : List ℕ) → frames (fill (headed_tree hs t) xs) ≡ frames (fill t xs)
frames_headed [] t xs = refl
frames_headed (h ∷ hs) t xs = frames_headed hs t xs

visits_headed : (hs : List ℕ) (t : Tree) → visits (headed_tree hs t) ≡ visits t
visits_headed [] t = refl
visits_headed (h ∷ hs) t = visits_headed hs t

module _ {S E : Type 0} (asked : Asks S E) where
  woven_headed : (put : Puts S Tree) (hs : List ℕ) (s : S) (t : Tree) (xs : List ℕ) → woven_from asked put None s (headed_tree hs t) xs ≡ headed_tree hs (woven_from asked put None s t xs)
  woven_headed put [] s t xs = refl
  woven_headed put (h ∷ hs) s t xs = ap (λ (u : Tree). Tree.pair (Tree.fixed h) u) (woven_headed put hs s t xs)

  woven_core : (put : Puts S Tree) (s : S) (t u : Tree) (xs : List ℕ) → t ≡ core_tree u → woven asked put s t xs ≡ core_tree (woven asked put s u xs)
  woven_core put s t u xs e = ap (λ (z : Tree). woven asked put s z xs) e ∙ woven_headed put core_header s u xs

  reads_core : (adds : Puts S SectionRow) (readings : Puts S Tree) (s m : S) (t : Tree) (bytes xs : List ℕ) → Spells core_module bytes t → Small xs → Fits (fill t xs) (2 ^ 32 - 1) →
      run asked s (visits t) ≡ accepted xs m → ReadsAdded asked adds readings s (visits t) → Spells core_module (normal (woven asked (added adds) s t xs)) (woven asked readings s t xs)
  reads_core adds readings s m t bytes xs p small fits ran are =
      let b = module_headed.back bytes t p in
      let u = b.0 in
      let F : Tree → Type 0 = λ z. Fits (fill z xs) (2 ^ 32 - 1) in
      let A : List ℕ → Type 0 = λ z. All (λ n. n ≤ 2 ^ 32 - 1) z in
      let inner : Fits (fill u xs) (2 ^ 32 - 1) = subst A (frames_headed core_header u xs) (subst F b.1 fits) in
      let same : visits t ≡ visits u = ap visits b.1 ∙ visits_headed core_header u in
      let R : List Visit → Type 0 = λ z. ReadsAdded asked adds readings s z in
      let whole = head_forth core_header (reads_from asked adds readings None s m u b.2.rest xs xs b.2.spells.shaped b.2.spells.spelled small inner (ap (run asked s) (sym same) ∙ ran) (subst R same are)) in
      let bytes_are : normal (woven asked (added adds) s t xs) ≡ core_header ++ normal (woven asked (added adds) s u xs) =
      ap normal (woven_core (added adds) s t u xs b.1) ∙ normal_headed core_header (woven asked (added adds) s u xs) in
      let B : List ℕ → Type 0 = λ z. Spells core_module z (core_tree (woven asked readings s u xs)) in
      let T : Tree → Type 0 = λ z. Spells core_module (normal (woven asked (added adds) s t xs)) z in
      subst T (sym (woven_core readings s t u xs b.1)) (subst B (sym bytes_are) whole)

-- ---- what comes out

framed_alike : (rows : List SectionRow) → map normal (map framed_tree rows) ≡ map section_bytes rows
framed_alike [] = refl
framed_alike (row ∷ rows) = ap (λ (z : List (List ℕ)). section_bytes row ∷ z) (framed_alike rows)

pub output_is_read : {S E : Type 0} (reply : S → Visit → Result ℕ E) (next : S → Visit → S) (adds : Puts S SectionRow) → KeepsAnswers reply → OutputIsRead (ask reply next) adds
output_is_read reply next adds keeps readings c bound s m bytes t u p h are =
    let asked = ask reply next in
    let a = forth asked (added adds) c s m t u h in
    let w = woven asked readings s t a.given in
    let small : Small a.given = all_small a.given (answers_small reply next keeps s m (visits t) a.given (visits_in_range None t (spelled_in_range t bytes p.spelled)) a.ran) in
    let reads = reads_core asked adds readings s m t bytes a.given p small (below c (2 ^ 32 - 1) (frames (fill t a.given)) bound a.fits) a.ran are in
    let B : List ℕ → Type 0 = λ z. Spells core_module z w in
    let there : Spells core_module (normal u) w = subst B (ap normal a.wove) reads in record {
      given = a.given;
      ran = a.ran;
      reading = there;
      only = λ v q. one_tree core_module tables_sound.core_sound (normal u) v w q there;
      normally = λ are_normal.
          let alike : AtSections asked s (visits t) (λ k v. map normal (added adds k v) ≡ map normal (readings k v)) =
          λ front v rest may parts. framed_alike (adds (state_after (run asked s front)) v) ∙ sym (are_normal front v rest may parts) in
          sym (woven_alike asked (added adds) readings None s m t a.given a.given a.ran alike) ∙ ap normal a.wove;
    }
