-- Sinks of pieces, as contracts see them: as the writer's sinks, with the ranges that are kept.
use Rattle.std.specs.Prelude.{◌≡◌, ◌≢◌, ◌⊎◌, ℕ, ◌+◌, ◌-◌, ◌≤◌, List, [], ◌∷◌, ◌++◌, length, map, true, Bool, Result, IfErr, IsTrue}
use Rattle.std.specs.Coded.{Coded, Coded-set, code_by, coded×, coded_list, coded_ℕ}
use Rattle.std.proofs.Common.{refl, sym, ap, subst, ◌∙◌}
use Rattle.std.proofs.lemmas.List.{append_cancel_left}
use mathlib.Core.HLevel.{Σ_prop_path}
use mathlib.Core.Logic.{∥∥₁_elim, ∥∥₁_prop}
use Rattle.wasm_leb.specs.Leb.{IsUnsigned}
use Rattle.wasm_shapes.specs.Tree.{Tree, normal}
use Rattle.wasm_shapes.specs.Types.{vector_tree}
use Rattle.wasm_shapes.specs.Shape.{Shape}
use Rattle.wasm_shapes.specs.Sound.{sound}
use Rattle.wasm_shapes.specs.declared.Visit.{Visit}
use Rattle.wasm_shapes.specs.Spells.{Spells}
use Rattle.wasm_shapes.specs.declared.SectionId.{SectionId}
use Rattle.wasm_shapes.specs.declared.SectionId.TheVariants as id
use Rattle.wasm_shapes.specs.Module.{CoreReading, alsos, body, body_of, code_row, core_header, core_tree, section, tree_of}
use Rattle.reencode_core.specs.Sections.{ReadsAs}
use Rattle.wasm_read.specs.Reading.{Standing, place_of}
use Rattle.wasm_write.specs.Bodies.{CodeRows, code_rows_code}
use Rattle.wasm_write.specs.Held.{AreHeld, rows_are_one}
use Rattle.wasm_write.specs.Sections.{AreSections, SectionRow, Sections, framed, framed_tree, framed_sound, module_bytes, section_row, with_section}
use Rattle.reencode_hooks.specs.declared.error.Error.{Error}
use Rattle.reencode_hooks.specs.declared.error.Error.TheVariants.{NoMemory}
use Rattle.reencode_hooks.specs.Run.{accepted}
use Rattle.reencode_hooks.specs.Walk.{walk}
use Rattle.reencode_core.specs.Leaves.{EndsBy, IsSize, TellsFault}
use Rattle.reencode_core.specs.Rows.{Asks}
use Rattle.reencode_core.specs.declared.pieces.piece.Piece.{Piece}
use Rattle.reencode_core.specs.Pieces.{Alternate, AreWithin, Range, joined, kept_ranges, range, total}

-- ---- a module in pieces

pub record ModuleGrown : Type 0 where
  pub input : List ℕ
  pub sections : Sections
  pub kept : List Range

-- ---- a code section in pieces

pub record CodeGrown : Type 0 where
  pub input : List ℕ
  pub code : CodeRows
  pub kept : List Range

pub range_code : Coded Range
range_code = code_by (ℕ × ℕ) (coded× coded_ℕ coded_ℕ) (λ r. (r.start, r.end)) (λ p. record { start = p.0; end = p.1 }) (λ r. refl)

abbrev pub code_grown_code : Coded CodeGrown
code_grown_code = code_by (List ℕ × (CodeRows × List Range)) (coded× (coded_list coded_ℕ) (coded× code_rows_code (coded_list range_code))) (λ g. (g.input, (g.code, g.kept)))
    (λ p. record { input = p.0; code = p.1.0; kept = p.1.1 }) (λ g. refl)

pub rows_code : Coded (List SectionRow)
rows_code = coded_list (code_by (ℕ × List ℕ) (coded× coded_ℕ (coded_list coded_ℕ)) (λ s. (s.id, s.body)) (λ p. section_row p.0 p.1) (λ s. refl))

pub sections_code : Coded Sections
sections_code = code_by (ℕ × List SectionRow) (coded× coded_ℕ rows_code) (λ m. (m.ceiling, m.sections)) (λ p. record { ceiling = p.0; sections = p.1 }) (λ m. refl)

abbrev pub module_grown_code : Coded ModuleGrown
module_grown_code = code_by (List ℕ × (Sections × List Range)) (coded× (coded_list coded_ℕ) (coded× sections_code (coded_list range_code))) (λ g. (g.input, (g.sections, g.kept)))
    (λ p. record { input = p.0; sections = p.1.0; kept = p.1.1 }) (λ g. refl)

pub code_sound : sound (Shape.many code_row) ≡ true
code_sound = refl

-- ---- the sections of a module in pieces

-- the sections that these bytes are behind the header
abbrev pub HeldModule : List ℕ → Type 0
HeldModule bytes = (rows : List SectionRow) × ∥ AreSections (length rows) bytes rows ∥₁

abbrev unframed : Tree → SectionRow
unframed (Tree.pair (Tree.byte id) (Tree.sized (Tree.raw body))) = record { id = id; body = body }
unframed _ = record { id = 0; body = [] }

unframed_rows : (rows : List SectionRow) → map unframed (map framed_tree rows) ≡ rows
unframed_rows [] = refl
unframed_rows (s ∷ rows) = ap (λ (z : List SectionRow). s ∷ z) (unframed_rows rows)

sections_are_one : {n m : ℕ} {bytes : List ℕ} {rows others : List SectionRow} → AreSections n bytes rows → AreSections m bytes others → rows ≡ others
sections_are_one {m = m} {rows = rows} {others = others} p q =
    let same : q.rest ≡ p.rest = append_cancel_left core_header q.rest p.rest (sym q.stands ∙ p.stands) in
    let P : List ℕ → Type 0 = λ z. AreHeld framed m z (map framed_tree others) in
    sym (unframed_rows rows) ∙ ap (map unframed) (rows_are_one framed_sound p.held (subst P same q.held)) ∙ unframed_rows others

module _ (bytes : List ℕ) where
  pub HeldModule-one : (p q : HeldModule bytes) → p.0 ≡ q.0
  HeldModule-one p q =
      ∥∥₁_elim p.1 (Coded-set rows_code p.0 q.0) (λ r.
      ∥∥₁_elim q.1 (Coded-set rows_code p.0 q.0) (λ s. sections_are_one r s))

  pub HeldModule-prop : IsProp (HeldModule bytes)
  HeldModule-prop p q = Σ_prop_path (λ rows. ∥∥₁_prop) (HeldModule-one p q)

unfoldable pub held_module : (bytes : List ℕ) → HeldModule bytes → List SectionRow
held_module bytes h = h.0

-- ---- ranges that are kept

-- A text stands in an input, up to this place.
pub record StandsAt (input text : List ℕ) (end : ℕ) : Type 0 where
  pub front : List ℕ
  pub behind : List ℕ
  pub parts : input ≡ front ++ (text ++ behind)
  pub place : length front + length text ≡ end

-- The range of a body is kept exactly where the body that was made has its bytes.
abbrev pub KeepsBody : List ℕ → List ℕ → Range → List Range → List Range → Type 0
KeepsBody made bytes r old new = ((made ≡ bytes) × (new ≡ old ++ r ∷ [])) ⊎ ((made ≢ bytes) × (new ≡ old))

-- the section with these rows more
abbrev pub with_rows : CodeRows → List Tree → CodeRows
with_rows s ts = record s { rows = s.rows ++ ts }

-- the sections with these more
abbrev pub with_sections : Sections → List SectionRow → Sections
with_sections m rows = record m { sections = m.sections ++ rows }

-- the module with a code section more, and the ranges that are kept in it
abbrev pub with_code : ModuleGrown → CodeGrown → ModuleGrown
with_code m c = record m {
  sections = with_section m.sections (section_row 10 (normal (vector_tree c.code.rows)));
  kept = m.kept ++ c.kept;
}

-- the pieces are those of a module
pub record AreModule (m : ModuleGrown) (pieces : List Piece) : Type 0 where
  pub joins : joined m.input pieces ≡ module_bytes m.sections.sections
  pub ranges : kept_ranges pieces ≡ m.kept
  pub within : AreWithin (length m.input) pieces
  pub alternate : Alternate pieces
  pub size : total pieces ≡ length (joined m.input pieces)

-- ---- what is kept of what was mapped

-- What a body up to a place became was added; it is kept exactly where that is spelled by its bytes.
abbrev pub KeepsRow : List ℕ → ℕ → CodeGrown → CodeGrown → Type 0
KeepsRow bytes end old new =
    (u : Tree) × (new.code.rows ≡ old.code.rows ++ Tree.sized u ∷ []) × KeepsBody (normal u) bytes (range (end - length bytes) end) old.kept new.kept

-- a reader of rows stands in an input, in a body that begins at this place
pub record RowsStand (input : List ℕ) (start : ℕ) (reader : Standing) : Type 0 where
  pub front : List ℕ
  pub behind : List ℕ
  pub parts : input ≡ front ++ (reader.rest ++ behind)
  pub place : length front ≡ start + place_of reader
  pub short : length reader.rest ≤ reader.len

-- What a section hook leaves with an error: it was not asked, since memory ran out; or it was, and the error is none of the bytes.
abbrev pub HookLeaves : {S E : Type 0} → Asks S E → S → S → Visit → Error E → Type 0
HookLeaves asked s m v e = ((e ≡ NoMemory) × (m ≡ s)) ⊎ (EndsBy asked s (v ∷ []) e m × ¬ TellsFault e)

-- The same of its answer. Of `NoMemory` nothing is said unless the reencoder is sure, and of a size that is too large unless it adds
-- nothing.
abbrev pub LeavesHook : {S E A : Type 0} → Bool → Bool → Asks S E → S → S → Visit → Result A (Error E) → Type 0
LeavesHook sure nothing asked s m v result = IfErr result (λ e. (e ≡ NoMemory → IsTrue sure) → (IsSize e → IsTrue nothing) → HookLeaves asked s m v e)

-- ---- the kept ranges of a code section

-- The frames of function bodies that some bytes are, of which the first stands at a place, became these rows; each body is kept
-- exactly where its bytes are the normal spelling of what it became.
abbrev pub KeepsFrames : ℕ → List ℕ → List Tree → List Range → List Range → Type 0
KeepsFrames at text [] old new = (text ≡ []) × (new ≡ old)
KeepsFrames at text (v ∷ vs) old new =
    (number bytes rest : List ℕ) × (u : Tree) × (mid : List Range) × (v ≡ Tree.sized u) × (text ≡ number ++ (bytes ++ rest)) × IsUnsigned 32 number (length bytes)
    × KeepsBody (normal u) bytes (range (at + length number) (at + length number + length bytes)) old mid × KeepsFrames (at + length number + length bytes) rest vs mid new

-- the second has rows more, which the frames in these bytes became
pub record GainsFrames (at : ℕ) (text : List ℕ) (old new : CodeGrown) : Type 0 where
  pub made : List Tree
  pub gains : new.code.rows ≡ old.code.rows ++ made
  pub kept : KeepsFrames at text made old.kept new.kept

-- so far: the frames in front of what is left
pub record FramesDone (start : ℕ) (first : Standing) (old : CodeGrown) (reader : Standing) (new : CodeGrown) : Type 0 where
  pub text : List ℕ
  pub stands : first.rest ≡ text ++ reader.rest
  pub len : reader.len ≡ first.len
  pub frames : GainsFrames (start + place_of first) text old new

-- The body of a code section that begins at a place became a section with these rows, and these ranges of it are kept. Where the
-- body is read as a tree, that became these rows.
pub record KeepsCodeSection {S E : Type 0} (asked : Asks S E) (c : ℕ) (start : ℕ) (bytes : List ℕ) (s m : S) (old new : List Range) : Type 0 where
  pub count : List ℕ
  pub text : List ℕ
  pub made : List Tree
  pub parts : bytes ≡ count ++ text
  pub counted : (n : ℕ) × IsUnsigned 32 count n
  pub becomes : (t : Tree) → ReadsAs id.Code bytes t → walk asked c s t ≡ accepted (tree_of id.Code (vector_tree made)) m
  pub ranges : List Range
  pub inside : KeepsFrames (start + length count) text made [] ranges
  pub kept : new ≡ old ++ ranges

-- the same of a section of any kind: nothing is kept of one that is no code section
abbrev pub KeepsKind : {S E : Type 0} → Asks S E → ℕ → SectionId → ℕ → List ℕ → S → S → List Range → List Range → Type 0
KeepsKind asked c k start bytes s m old new = ((k ≡ id.Code) × KeepsCodeSection asked c start bytes s m old new) ⊎ ((k ≢ id.Code) × (new ≡ old))

-- ---- the kept ranges of a module

-- a section at a place, which is one of function bodies, and the ranges of it that are kept
pub record InCode (at : ℕ) (x : List ℕ) (t u : Tree) (old new : List Range) : Type 0 where
  pub head : List ℕ
  pub count : List ℕ
  pub text : List ℕ
  pub made : List Tree
  pub body : Tree
  pub is : t ≡ tree_of id.Code body
  pub becomes : u ≡ tree_of id.Code (vector_tree made)
  pub parts : x ≡ head ++ (count ++ text)
  pub reads : Spells (body_of id.Code) (count ++ text) body
  pub framed : (size : List ℕ) × (head ≡ 10 ∷ size) × IsUnsigned 32 size (length (count ++ text))
  pub counted : (n : ℕ) × IsUnsigned 32 count n
  pub ranges : List Range
  pub inside : KeepsFrames (at + length head + length count) text made [] ranges
  pub kept : new ≡ old ++ ranges

-- a section of another kind, of which nothing is kept
abbrev pub NotCode : Tree → Type 0
NotCode t = (body : Tree) → t ≢ tree_of id.Code body

-- the sections that some bytes are, of which the first stands at a place, what they became, and the ranges that are kept of them
abbrev pub KeepsSections : ℕ → List ℕ → List Tree → List Tree → List Range → List Range → Type 0
KeepsSections at x [] [] old new = (x ≡ []) × (new ≡ old)
KeepsSections at x (t ∷ ts) (u ∷ us) old new =
    (y z : List ℕ) × (mid : List Range) × (x ≡ y ++ z) × Spells section y t × (InCode at y t u old mid ⊎ (NotCode t × (mid ≡ old)))
    × KeepsSections (at + length y) z ts us mid new
KeepsSections at x _ _ old new = ⊥

-- of the bytes of a module, which are read as this and become that
pub record KeptOf (bytes : List ℕ) (t u : Tree) (ranges : List Range) : Type 0 where
  pub read : List Tree
  pub made : List Tree
  pub rest : List ℕ
  pub stands : bytes ≡ core_header ++ rest
  pub is : t ≡ core_tree (alsos read Tree.finish)
  pub becomes : u ≡ core_tree (alsos made Tree.finish)
  pub kept : KeepsSections 8 rest read made [] ranges

-- Where the bytes of a module are read as some sections, these became others, and the ranges that are kept of them were added.
abbrev pub KeepsRanges : {S E : Type 0} → Asks S E → ℕ → List ℕ → S → S → List Range → List Range → Type 0
KeepsRanges asked c bytes s m old new =
    (t : Tree) → CoreReading bytes t → (read made : List Tree) × (rest : List ℕ) × (bytes ≡ core_header ++ rest) × (t ≡ alsos read Tree.finish)
    × (walk asked c s t ≡ accepted (alsos made Tree.finish) m) × KeepsSections 8 rest read made old new
