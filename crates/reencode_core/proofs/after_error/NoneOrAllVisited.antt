-- The visits that were made when memory ran out, or a size was too large: none, or all those of what was read.
use Rattle.std.proofs.Common.{◌≡◌, ℕ, List, [], ◌++◌, Option, None, inl, refl, sym, ap, ◌∙◌, append-nil, subst}
use Rattle.wasm_shapes.specs.declared.SectionId.{SectionId}
use Rattle.wasm_shapes.specs.declared.Visit.{Visit}
use Rattle.wasm_shapes.specs.Drawn.{Drawn, IsItem}
use Rattle.wasm_shapes.specs.Tree.{Tree, before, behind, kind, visits, visits_from}
use Rattle.wasm_shapes.specs.Spells.{Is, Spelled, Spells}
use Rattle.wasm_shapes.specs.Place.{Begins}
use Rattle.wasm_shapes.specs.Module.{CoreReading, ReadsCustom, body, core_header, core_module, core_tree, frame, sections}
use Rattle.wasm_shapes.proofs.Drawn.{drawn_behind, drawn_front, drawn_hook, drawn_joined, drawn_none}
use Rattle.wasm_shapes.proofs.Laws.{module_headed, one_tree, tables_sound}
use Rattle.wasm_shapes.proofs.SectionTable.{in_frame}
use Rattle.reencode_hooks.specs.declared.error.Error.{Error}
use Rattle.reencode_hooks.specs.declared.error.Error.TheVariants.{NoMemory}
use Rattle.reencode_hooks.specs.Run.{accepted, run}
use Rattle.reencode_hooks.specs.Walk.{walk}
use Rattle.reencode_core.specs.Leaves.{Leaves, Text, body_in, core_in, custom_in, section_in}
use Rattle.reencode_core.specs.Rows.{Asks}
use Rattle.reencode_core.specs.Sections.{ReadsAs}
use Rattle.reencode_core.specs.NameFormats.{core_custom}
use Rattle.reencode_core.proofs.names_mapped.FormatLaws.{core_laws}
use Rattle.reencode_core.proofs.sections_walked.CustomSection.{one_contents}
use Rattle.reencode_core.proofs.after_error.BodyVisited.{drawn_locals}
use Rattle.reencode_core.proofs.after_error.VisitsMade.{PartMade, Unasked, drawn_made, ended_all, front_none, front_same, tree_made, wants_tells_none, whole_made}
use Rattle.reencode_core.proofs.after_error.RowsVisited.{drawn_rows}
use Rattle.reencode_core.proofs.after_error.SectionVisited.{before_drawn, behind_drawn, contents_drawn, in_frame_drawn, section_leaves_part}

-- ---- what is drawn

-- from a function body
body_drawn : (t : Tree) (x : List ℕ) → Is body t → Spelled t x → Drawn x (visits t)
body_drawn t x (Is.seq {t = l} {u = u} d e) s =
    drawn_joined x (visits l) (visits u) (drawn_locals (record { text = s.0; spells = record { shaped = d; spelled = s.3 }; reads = s.2 }))
    (drawn_behind s.0 s.1 s.2 (drawn_rows IsItem.operator u s.1 e s.4))

-- from sections
pub sections_drawn : (last : Option SectionId) (t : Tree) (x : List ℕ) → Is sections t → Spelled t x → Drawn x (visits_from last t)
sections_drawn last t x Is.finish s = drawn_hook
sections_drawn last t x (Is.also {t = v} {u = u} d e) s =
    let f = in_frame v s.0 d s.3 in
    let whole : Begins frame s.0 f.0 [] = record { text = s.0; spells = f.2; reads = sym (append-nil s.0) } in
    let one : Drawn s.0 (visits v) = in_frame_drawn f.1 whole in
    let others : List Visit = visits_from (kind last v) u in
    drawn_joined x (before last v) (visits v ++ (behind v ++ others)) (before_drawn last v)
    (drawn_joined x (visits v) (behind v ++ others) (drawn_front s.0 s.1 s.2 one)
    (drawn_joined x (behind v) others (behind_drawn v) (drawn_behind s.0 s.1 s.2 (sections_drawn (kind last v) u s.1 e s.4))))

pub module_drawn : (bytes : List ℕ) (t : Tree) → Spells core_module bytes t → Drawn bytes (visits t)
module_drawn bytes t p =
    let r = module_headed.back bytes t p in
    let P : List Visit → Type 0 = λ z. Drawn bytes z in
    subst P (sym (ap visits r.1)) (drawn_behind core_header r.2.rest r.2.stands (sections_drawn None r.0 r.2.rest r.2.spells.shaped r.2.spells.spelled))

-- ---- what is left

-- memory ran out before anything was asked
pub left_none : {S E : Type 0} (asked : Asks S E) {s : S} (text : Text) → Leaves asked text s NoMemory s
left_none {E = E} asked text = record {
  made = [];
  ended = ended_all {a = []} NoMemory tt refl;
  drawn = drawn_none;
  reading = λ t p. front_none (visits t);
  fault = λ none t rest f. inl (wants_tells_none E, front_none (visits t));
}

module _ {S E : Type 0} (asked : Asks S E) {s m : S} where
  -- a part of the visits of the one tree that it is read as was made
  left_part : (text : Text) (e : Error E) (t : Tree) → text.reads t → PartMade asked s (visits t) e m → Drawn text.bytes (visits t) → ((u : Tree) → text.reads u → visits t ≡ visits u) →
      Leaves asked text s e m
  left_part text e t r p drawn same = record {
    made = p.part;
    ended = p.ended;
    drawn = drawn_made p.front drawn;
    reading = λ u q. front_same (same u q) p.front;
    fault = λ none u rest f. absurd (none t r);
  }

  -- a function body was accepted
  pub left_body : {bytes : List ℕ} {u : Tree} (c : ℕ) (e : Error E) → Unasked e → (t : Tree) → Spells body bytes t → walk asked c s (Tree.sized t) ≡ accepted u m → Leaves asked (body_in bytes) s e m
  left_body {bytes = bytes} c e unasked t p h =
      left_part (body_in bytes) e t p (tree_made asked c e (Tree.sized t) unasked h) (body_drawn t bytes p.shaped p.spelled) (λ v q. ap visits (one_tree body refl bytes t v p q))

  -- a section
  pub left_section : {bytes : List ℕ} {u : Tree} (k : SectionId) (c : ℕ) (t : Tree) → ReadsAs k bytes t → walk asked c s t ≡ accepted u m → Leaves asked (section_in k bytes) s NoMemory m
  left_section k c t r h = section_leaves_part asked k NoMemory r (tree_made asked c NoMemory t tt h)

  -- a custom section
  pub left_custom : {name contents : List ℕ} {u : Tree} (c : ℕ) (t : Tree) → ReadsCustom name contents t → walk asked c s t ≡ accepted u m → Leaves asked (custom_in name contents) s NoMemory m
  left_custom {name = name} {contents = contents} c t r h =
      let P : List Visit → Type 0 = λ z. Drawn contents z in
      left_part (custom_in name contents) NoMemory t r (tree_made asked c NoMemory t tt h) (subst P (sym (ap visits r.1)) (contents_drawn r.2))
      (λ v q. ap visits r.1 ∙ ap visits (one_contents core_custom core_laws r.2 q.2) ∙ sym (ap visits q.1))

  -- a module
  pub left_core : {bytes : List ℕ} {told : List ℕ} (t : Tree) → CoreReading bytes t → run asked s (visits t) ≡ accepted told m → Leaves asked (core_in bytes) s NoMemory m
  left_core {bytes = bytes} t r h =
      let p = module_headed.forth bytes t r in
      left_part (core_in bytes) NoMemory (core_tree t) p (whole_made asked NoMemory (visits t) tt h) (module_drawn bytes (core_tree t) p)
      (λ v q. ap visits (one_tree core_module tables_sound.core_sound bytes (core_tree t) v p q))
