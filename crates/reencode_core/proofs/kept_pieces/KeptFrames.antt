-- The frames of function bodies, and which of them are kept.
use Rattle.std.proofs.Common.{◌≡◌, ◌+◌, ◌-◌, ◌<◌, ◌≤◌, ◌^◌, ℕ, Bool, true, false, nat_le, if◌then◌else◌, List, [], ◌∷◌, ◌++◌, length, Ok, Err, OnOk, Result, IsTrue, inl, refl, sym, ap, ◌∙◌, subst, append_assoc, append-nil, length-append, arith}
use Rattle.std.proofs.lemmas.Bool.{leb-true}
use Rattle.wasm_leb.specs.Leb.{IsUnsigned}
use Rattle.wasm_shapes.specs.Tree.{Tree, normal}
use Rattle.wasm_shapes.specs.Module.{code_row, tree_of}
use Rattle.wasm_read.specs.Operations.{frame_row}
use Rattle.wasm_read.specs.Reading.{CountRead, RowRead, Standing, place_of}
use Rattle.wasm_shapes.specs.Types.{vector_tree}
use Rattle.wasm_write.specs.Sections.{section_row}
use Rattle.reencode_core.specs.Sections.{AddsMapped, ReadsAs}
use Rattle.wasm_shapes.specs.declared.SectionId.TheVariants as id
use Rattle.reencode_core.proofs.sections_walked.KnownKind.{section_fits}
use Rattle.reencode_core.proofs.sections_walked.OneSection.{rows_made}
use Rattle.wasm_write.specs.Bodies.{CodeRows, GainsBody, function_body}
use Rattle.reencode_hooks.specs.declared.error.Error.{Error}
use Rattle.reencode_hooks.specs.declared.error.Error.TheVariants.{TooLarge}
use Rattle.reencode_hooks.specs.declared.indices.ReencodeIndices.{Ghosts}
use Rattle.reencode_hooks.specs.Run.{Step, accepted, refused, and_then}
use Rattle.reencode_hooks.specs.Walk.{closed, walk}
use Rattle.reencode_core.specs.Rows.{Asks, GivesRows}
use Rattle.reencode_core.specs.Pieces.{Range, range}
use Rattle.reencode_core.specs.Sinks.{CodeGrown, FramesDone, GainsFrames, KeepsBody, KeepsCodeSection, KeepsFrames, KeepsRow, ModuleGrown, with_rows}
use Rattle.reencode_core.specs.Clauses.{BodyClauses, BodyStays, asks}
use Rattle.reencode_core.proofs.kept_pieces.FreshSink.{fresh_code}

-- ---- a body that was mapped

-- a frame that was closed is within the ceiling
closed_short : {S E : Type 0} (c : ℕ) (u v : Tree) (m n : S) → closed {E = E} c u m ≡ accepted v n → (v ≡ Tree.sized u) × (length (normal u) ≤ c)
closed_short {S = S} {E = E} c u v m n h = go (nat_le (length (normal u)) c) refl h
  where
    go : (b : Bool) → nat_le (length (normal u)) c ≡ b → ◌≡◌ {A = Step S (Error E) Tree} (if b then accepted (Tree.sized u) m else refused (TooLarge (length (normal u))) m) (accepted v n) →
        (v ≡ Tree.sized u) × (length (normal u) ≤ c)
    go true e h = (cc, leb-true _ _ e)
    go false e h = absurd cc

sized_short : {S E : Type 0} (c : ℕ) (r : Step S (Error E) Tree) (v : Tree) (n : S) → and_then r (λ u m. closed c u m) ≡ accepted v n → (u : Tree) × (v ≡ Tree.sized u) × (length (normal u) ≤ c)
sized_short {E = E} c (accepted u m) v n h = let q = closed_short {E = E} c u v m n h in (u, q.0, q.1)
sized_short c (refused e m) v n h = absurd cc

-- the one row that it became, and whether it is kept
pub row_kept : {S E : Type 0} (i : Ghosts S E) (bytes : List ℕ) (end : ℕ) (s m : S) (old new : CodeGrown) (one : CodeRows) → old.code.ceiling < 2 ^ 32 → IsTrue i.keeps_defaults →
    BodyClauses i bytes s (fresh_code old.code.ceiling) m one (Ok tt) → new.code ≡ with_rows old.code one.rows →
    ((u : Tree) → one.rows ≡ Tree.sized u ∷ [] → length (normal u) < 2 ^ 32 → KeepsBody (normal u) bytes (range (end - length bytes) end) old.kept new.kept) → KeepsRow bytes end old new
row_kept i bytes end s m old new one small k g added keeps =
    let d = g.default k in
    let t = d.readable.0 in
    let q = d.reading t d.readable.1 in
    let z = sized_short old.code.ceiling (walk (asks i) old.code.ceiling s t) q.0 m q.1 in
    let rows : one.rows ≡ Tree.sized z.0 ∷ [] = q.2 ∙ ap (λ (v : Tree). v ∷ []) z.1 in
    let short : length (normal z.0) < 2 ^ 32 = omega (arith, z.2, small) in
    (z.0, ap CodeRows.rows added ∙ ap (λ (r : List Tree). old.code.rows ++ r) rows, keeps z.0 rows short)

-- a body that stays is kept
pub row_stays : {S E : Type 0} (i : Ghosts S E) (bytes : List ℕ) (end : ℕ) (s m : S) (old new : CodeGrown) → BodyStays i bytes s m → GainsBody old.code bytes new.code →
    new.kept ≡ old.kept ++ range (end - length bytes) end ∷ [] → KeepsRow bytes end old new
row_stays i bytes end s m old new stays gains kept =
    (function_body stays.function, ap CodeRows.rows (gains stays.function stays.normally), inl (stays.normally.normally, kept))

-- ---- one frame more

abbrev KeepsOne : ℕ → List ℕ → Tree → List Range → List Range → Type 0
KeepsOne at text v old new =
    (number bytes : List ℕ) × (u : Tree) × (v ≡ Tree.sized u) × (text ≡ number ++ bytes) × IsUnsigned 32 number (length bytes)
    × KeepsBody (normal u) bytes (range (at + length number) (at + length number + length bytes)) old new

frames_snoc : (vs : List Tree) (at at' : ℕ) (text x : List ℕ) (v : Tree) (old mid new : List Range) → at' ≡ at + length text → KeepsFrames at text vs old mid → KeepsOne at' x v mid new →
    KeepsFrames at (text ++ x) (vs ++ v ∷ []) old new
frames_snoc [] at at' text x v old mid new e p q =
    let empty : text ≡ [] = p.0 in
    let here : at' ≡ at = omega (arith, e, ap length empty) in
    let B : ℕ → List Range → Type 0 = λ n o. KeepsBody (normal q.2) q.1 (range (n + length q.0) (n + length q.0 + length q.1)) o new in
    let kept : B at old = subst (λ (n : ℕ). B n old) here (subst (λ (o : List Range). B at' o) p.1 q.6) in
    (q.0, q.1, [], q.2, new, q.3, ap (λ (z : List ℕ). z ++ x) empty ∙ q.4 ∙ ap (λ (z : List ℕ). q.0 ++ z) (sym (append-nil q.1)), q.5, kept, (refl, refl))
frames_snoc (w ∷ vs) at at' text x v old mid new e p q =
    let a = ap length p.6 in
    let b = length-append p.0 (p.1 ++ p.2) in
    let d = length-append p.1 p.2 in
    let next : at' ≡ at + length p.0 + length p.1 + length p.2 = omega (arith, e, a, b, d) in
    let whole : text ++ x ≡ p.0 ++ (p.1 ++ (p.2 ++ x)) = ap (λ (z : List ℕ). z ++ x) p.6 ∙ append_assoc p.0 (p.1 ++ p.2) x ∙ ap (λ (z : List ℕ). p.0 ++ z) (append_assoc p.1 p.2 x) in
    (p.0, p.1, p.2 ++ x, p.3, p.4, p.5, whole, p.7, p.8, frames_snoc vs (at + length p.0 + length p.1) at' p.2 x v p.4 mid new next p.9 q)

-- ---- the loop

pub frames_begun : (start : ℕ) (first : Standing) (code : CodeGrown) → FramesDone start first code first code
frames_begun start first code = record {
  text = [];
  stands = refl;
  len = refl;
  frames = record { made = []; gains = sym (append-nil code.code.rows); kept = (refl, refl) };
}

pub frames_more : (start : ℕ) (bytes : List ℕ) (first reader next : Standing) (old mid new : CodeGrown) → length first.rest ≤ first.len → FramesDone start first old reader mid →
    RowRead frame_row reader (Tree.sized (Tree.raw bytes)) next → KeepsRow bytes (start + place_of next) mid new → FramesDone start first old next new
frames_more start bytes first reader next old mid new short d r k =
    let text : List ℕ = r.begins.text in
    let p = r.begins.spells.spelled in
    let number : List ℕ = p.0 in
    let text_is : text ≡ number ++ bytes = p.2 ∙ ap (λ (z : List ℕ). number ++ z) p.4 in
    let N : List ℕ → Type 0 = λ z. IsUnsigned 32 number (length z) in
    let numbered : IsUnsigned 32 number (length bytes) = subst N p.4 p.3 in
    let rest_is : reader.rest ≡ text ++ next.rest = r.begins.reads in
    let a = ap length d.stands ∙ length-append d.text reader.rest in
    let b = ap length rest_is ∙ length-append text next.rest in
    let e = ap length text_is ∙ length-append number bytes in
    let at : ℕ = start + place_of first + length d.text in
    let end_is : start + place_of next ≡ at + length number + length bytes = omega (arith, a, b, e, short, r.len, d.len) in
    let start_is : (start + place_of next) - length bytes ≡ at + length number = omega (arith, end_is) in
    let B : ℕ → ℕ → Type 0 = λ x y. KeepsBody (normal k.0) bytes (range x y) mid.kept new.kept in
    let kept : B (at + length number) (at + length number + length bytes) = subst (λ (x : ℕ). B x (at + length number + length bytes)) start_is (subst (λ (y : ℕ). B ((start + place_of next) - length bytes) y) end_is k.2) in
    record {
      text = d.text ++ text;
      stands = d.stands ∙ ap (λ (z : List ℕ). d.text ++ z) rest_is ∙ sym (append_assoc d.text text next.rest);
      len = r.len ∙ d.len;
      frames = record {
        made = d.frames.made ++ Tree.sized k.0 ∷ [];
        gains = k.1 ∙ ap (λ (z : List Tree). z ++ Tree.sized k.0 ∷ []) d.frames.gains ∙ append_assoc old.code.rows d.frames.made (Tree.sized k.0 ∷ []);
        kept = frames_snoc d.frames.made (start + place_of first) at d.text text (Tree.sized k.0) old.kept mid.kept new.kept refl d.frames.kept (number, bytes, k.0, refl, text_is, numbered, kept);
      };
    }

pub frames_ended : (start : ℕ) (first reader : Standing) (old new : CodeGrown) → FramesDone start first old reader new → reader.rest ≡ [] → GainsFrames (start + place_of first) first.rest old new
frames_ended start first reader old new d empty =
    let all : d.text ≡ first.rest = sym (append-nil d.text) ∙ ap (λ (z : List ℕ). d.text ++ z) (sym empty) ∙ sym d.stands in
    let P : List ℕ → Type 0 = λ z. GainsFrames (start + place_of first) z old new in subst P all d.frames

-- ---- the section

pub section_kept : {S E : Type 0} (asked : Asks S E) (s m : S) (start : ℕ) (bytes : List ℕ) (reader : Standing) (fresh code : CodeGrown) (old new : ModuleGrown) (mapped r : Result (Unit {0}) (Error E)) →
    fresh.code.rows ≡ [] → fresh.kept ≡ [] → CountRead bytes reader → GivesRows asked old.sections.ceiling code_row reader (s, fresh.code.rows) (m, code.code.rows) mapped →
    AddsMapped (section_row 10 (normal (vector_tree code.code.rows))) old.sections mapped new.sections r →
    OnOk mapped (GainsFrames (start + place_of reader) reader.rest fresh code) → OnOk r (new.kept ≡ old.kept ++ code.kept) →
    OnOk r (KeepsCodeSection asked old.sections.ceiling start bytes s m old.kept new.kept)
section_kept asked s m start bytes reader fresh code old new (Err x) (Err e) a b c g adds frames kept = tt
section_kept asked s m start bytes reader fresh code old new (Ok u) (Err e) a b c g adds frames kept = tt
section_kept asked s m start bytes reader fresh code old new (Err x) (Ok u) a b c g adds frames kept = absurd (let never = adds.0 in cc)
section_kept asked s m start bytes reader fresh code old new (Ok u) (Ok v) a b c g adds frames kept =
    let count : List ℕ = c.counted.0 in
    let parts : bytes ≡ count ++ reader.rest = c.counted.2 in
    let len = ap length parts ∙ length-append count reader.rest in
    let at : start + place_of reader ≡ start + length count = omega (arith, c.len, len) in
    let rows : code.code.rows ≡ frames.made = frames.gains ∙ ap (λ (z : List Tree). z ++ frames.made) a in
    let F : ℕ → List Range → Type 0 = λ n o. KeepsFrames n reader.rest frames.made o code.kept in
    let inside : F (start + length count) [] = subst (λ (n : ℕ). F n []) at (subst (λ (o : List Range). F (start + place_of reader) o) b frames.kept) in
    let W : List Tree → Type 0 = λ z. (t : Tree) → ReadsAs id.Code bytes t → walk asked old.sections.ceiling s t ≡ accepted (tree_of id.Code (vector_tree z)) m in
    let made = rows_made asked id.Code refl a c g in
    let becomes : W code.code.rows = λ t r. let w = made.becomes t r in rw w.1 (section_fits id.Code asked old.sections.ceiling s m w.0 (vector_tree code.code.rows) w.2 adds.1) in
    record {
      count = count;
      text = reader.rest;
      made = frames.made;
      parts = parts;
      counted = (reader.left, c.counted.1);
      becomes = subst W rows becomes;
      ranges = code.kept;
      inside = inside;
      kept = kept;
    }
