-- What a refusal of a reencoder comes of: whatever is said by each walk of it that is refused, and kept by each that is accepted.
use Rattle.std.proofs.Common.{◌≡◌, ℕ, ◌≤◌, ◌⊎◌, inl, inr, List, ◌++◌, length, length-append, Option, Some, refl, ap, arith}
use Rattle.wasm_shapes.specs.declared.SectionId.{SectionId}
use Rattle.wasm_shapes.specs.declared.Visit.TheVariants.{Section, Push}
use Rattle.wasm_shapes.specs.Tree.{Tree}
use Rattle.wasm_shapes.specs.Shape.{Shape}
use Rattle.wasm_shapes.specs.Spells.{Spelled}
use Rattle.wasm_shapes.specs.Place.{Begins}
use Rattle.wasm_shapes.specs.Rows.{rows_then}
use Rattle.wasm_shapes.specs.Module.{core_header, frame, alsos, CoreReading, FaultAt}
use Rattle.wasm_read.specs.Operations.{frame_row}
use Rattle.wasm_read.specs.Frames.{numbered_frame, custom_frame}
use Rattle.wasm_read.specs.Subsections.{subsection_frame, subsection_frame_tree}
use Rattle.wasm_read.specs.Reading.{Standing}
use Rattle.reencode_hooks.specs.declared.error.Error.{Error}
use Rattle.reencode_hooks.specs.Run.{accepted, refused}
use Rattle.reencode_hooks.specs.Walk.{walk}
use Rattle.reencode_core.specs.Rows.{Asks, AcceptsRows, RefusesInside, RefusesRow, StopsBody, StopsDue, StopsEach}
use Rattle.reencode_core.specs.Sections.{StopsSection}
use Rattle.reencode_core.specs.NameFormats.{NameFormat, core_names}
use Rattle.reencode_core.specs.Names.{RefusesEntryOf, StopsInNames, StopsNamesOf, contents_standing}
use Rattle.reencode_core.specs.Core.{AcceptsSections, RefusedIn, StopsInside, StopsThere, BeforeFault}
use Rattle.reencode_core.proofs.faults.OneFront.{reads_or_fails}

-- ---- lengths

pub first_shorter : (y z : List ℕ) {x : List ℕ} → x ≡ y ++ z → length y ≤ length x
first_shorter y z e = omega (arith, length-append y z, ap length e)

pub second_shorter : (y z : List ℕ) {x : List ℕ} → x ≡ y ++ z → length z ≤ length x
second_shorter y z e = omega (arith, length-append y z, ap length e)

begun : {s : Shape} {x left : List ℕ} {t : Tree} (p : Begins s x t left) → length p.text ≤ length x
begun {left = left} p = first_shorter p.text left p.reads

-- the body in a frame is no longer than the bytes that begin with it
framed : {x left body : List ℕ} (p : Begins frame_row x (Tree.sized (Tree.raw body)) left) → length body ≤ length x
framed {x} {left} {body} p =
    let q = p.spells.spelled in
    let inner : length q.1 ≤ length p.text = second_shorter q.0 q.1 q.2 in
    let whole : length p.text ≤ length x = begun p in
    omega (arith, ap length q.4)

pub numbered : {n : ℕ} {x left body : List ℕ} (p : Begins frame x (numbered_frame n body) left) → length body ≤ length x
numbered {n} {x} {left} {body} p =
    let q = p.spells.spelled in
    let r = q.4 in
    let outer : length q.1 ≤ length p.text = second_shorter q.0 q.1 q.2 in
    let inner : length r.1 ≤ length q.1 = second_shorter r.0 r.1 r.2 in
    let whole : length p.text ≤ length x = begun p in
    omega (arith, ap length r.4)

-- and that of a subsection's frame
subsection_framed : {n : ℕ} {x left body : List ℕ} (p : Begins subsection_frame x (subsection_frame_tree n body) left) → length body ≤ length x
subsection_framed {n} {x} {left} {body} p =
    let q = p.spells.spelled in
    let r = q.4 in
    let outer : length q.1 ≤ length p.text = second_shorter q.0 q.1 q.2 in
    let inner : length r.1 ≤ length q.1 = second_shorter r.0 r.1 r.2 in
    let whole : length p.text ≤ length x = begun p in
    omega (arith, ap length r.4)

-- in the body of a subsection stands its map
abbrev pub MapsWithin : {V : Type 0} → NameFormat V → Type 0
MapsWithin f = (id : ℕ) (body : List ℕ) (row : Shape) (map : List ℕ) → f.map_at id body row map → length map ≤ length body

core_within : MapsWithin core_names
core_within id body row map h = omega (arith, ap length h.1)

-- and the contents of a custom section
pub custom : {x left name contents : List ℕ} (p : Begins frame x (custom_frame name contents) left) → length contents ≤ length x
custom {x} {left} {name} {contents} p =
    let q = p.spells.spelled in
    let r = q.4 in
    let u = r.4 in
    let outer : length q.1 ≤ length p.text = second_shorter q.0 q.1 q.2 in
    let inner : length r.1 ≤ length q.1 = second_shorter r.0 r.1 r.2 in
    let within : length u.1 ≤ length r.1 = second_shorter u.0 u.1 u.2 in
    let whole : length p.text ≤ length x = begun p in
    omega (arith, ap length u.4)

-- ---- what is kept, and what is said

-- This is kept by each accepted walk, by the beginning of a scope, and by the section hook, which is never refused; and that is said by each
-- refused walk over a text.
pub record Tells {S E : Type 0} (asked : Asks S E) (P : S → Type 0) (Q : ℕ → List ℕ → Error E → Type 0) : Type 0 where
  pub larger : {c : ℕ} {x y : List ℕ} {e : Error E} → length x ≤ length y → Q c x e → Q c y e
  pub kept : {s k : S} {u : Tree} (c : ℕ) (t : Tree) → P s → walk asked c s t ≡ accepted u k → P k
  pub hooked : (s k : S) (a : ℕ) (last before : Option SectionId) → P s → asked s (Section last before) ≡ accepted a k → P k
  pub opened : (s k : S) (a : ℕ) → P s → asked s Push ≡ accepted a k → P k
  pub unrefused : (s m : S) (e : Error E) (last before : Option SectionId) → P s → asked s (Section last before) ≡ refused e m → ⊥
  pub only : {s m : S} {e : Error E} (c : ℕ) (t : Tree) (x : List ℕ) → P s → Spelled t x → walk asked c s t ≡ refused e m → Q c x e

module _ {S E : Type 0} {asked : Asks S E} {P : S → Type 0} {Q : ℕ → List ℕ → Error E → Type 0} (tells : Tells asked P Q) where
  -- ---- states that are reached

  rows_state : (c : ℕ) {s : S} (n : S) (read made : List Tree) → P s → AcceptsRows asked c s read made n → P n
  rows_state c n read made b h = tells.kept c (rows_then read Tree.empty) b (h Tree.empty)

  sections_state : (c : ℕ) {s : S} (n : S) (read made : List Tree) (last : Option SectionId) → P s → AcceptsSections asked c s read made last n → P n
  sections_state c n read made last b h = tells.kept c (alsos read Tree.empty) b (h Tree.empty)

  -- ---- one section

  each_told : {c : ℕ} {item : Shape} {start : List ℕ} {s m : S} {e : Error E} → P s → StopsEach asked c item start s e m → Q c start e
  each_told {c} b h =
      let there = tells.only c h.next h.begins.text (rows_state c h.state h.read h.made b h.accepts) h.begins.spells.spelled h.refuses in
      tells.larger (second_shorter h.before.text h.rest h.before.stands) (tells.larger (begun h.begins) there)

  body_told : (c : ℕ) (bytes : List ℕ) (s m : S) (e : Error E) → P s → StopsBody asked c bytes s e m → Q c bytes e
  body_told c bytes s m e b (inl p) = tells.larger (begun p.2) (tells.only c p.0 p.2.text b p.2.spells.spelled p.3)
  body_told c bytes s m e b (inr p) = tells.larger (second_shorter p.4.text p.1 p.4.reads) (each_told (tells.kept c p.0 b p.5) p.6)

  whole_told : {c : ℕ} {row : Shape} {bytes : List ℕ} {s m : S} {e : Error E} → P s → RefusesRow asked c row bytes s e m → Q c bytes e
  whole_told {c} b h = tells.larger (begun h.begins) (tells.only c h.tree h.begins.text b h.begins.spells.spelled h.refusal)

  inside_told : {c : ℕ} {row : Shape} {bytes : List ℕ} {s m : S} {e : Error E} → P s → RefusesInside asked c row bytes s e m → Q c bytes e
  inside_told {c} {s = s} {m = m} {e = e} b h = tells.larger (framed h.begins) (body_told c h.body s m e b h.stops)

  pub row_told : {c : ℕ} {row : Shape} {reader : Standing} {s m : S} {e : Error E} → P s → StopsDue asked c row reader s e m → Q c reader.rest e
  row_told {c} {row} {m = m} {e = e} b h =
      tells.larger (second_shorter h.front.text h.rest h.front.stands) (go (rows_state c h.state h.read h.made b h.accepts) h.refuses)
    where
      go : P h.state → RefusesRow asked c row h.rest h.state e m ⊎ RefusesInside asked c row h.rest h.state e m → Q c h.rest e
      go state (inl w) = whole_told state w
      go state (inr w) = inside_told state w

  section_told : (c : ℕ) (k : SectionId) (body : List ℕ) (s m : S) (e : Error E) → P s → StopsSection asked c k body s e m → Q c body e
  section_told c k body s m e b h =
      let counted = h.counted.counted in tells.larger (second_shorter counted.0 h.reader.rest counted.2) (row_told b h.stops)

  -- ---- a name section

  module _ {V : Type 0} (f : NameFormat V) (within : MapsWithin f) where
    entry_told : {c : ℕ} {bytes : List ℕ} {s m : S} {e : Error E} → P s → RefusesEntryOf f asked bytes c s e m → Q c bytes e
    entry_told b h =
        let map = tells.larger (second_shorter h.counted.0 h.start h.counted.2) (each_told b h.stops) in
        tells.larger (subsection_framed h.begins) (tells.larger (within h.id h.body h.row h.map h.is_map) map)

    pub names_told : {c : ℕ} {contents : List ℕ} {s m : S} {e : Error E} → P s → StopsNamesOf f asked c (contents_standing contents) s e m → Q c contents e
    names_told {c} {contents} {s} {m} {e} b h =
        tells.larger (second_shorter h.front.text h.rest h.front.stands) (go (rows_state c h.state h.read h.made b h.accepts) h.refuses)
      where
        go : P h.state → RefusesRow asked c f.row h.rest h.state e m ⊎ RefusesEntryOf f asked h.rest c h.state e m → Q c h.rest e
        go state (inl w) = whole_told state w
        go state (inr w) = entry_told state w

  in_names_told : {c : ℕ} {bytes : List ℕ} {s m : S} {e : Error E} → P s → StopsInNames asked c bytes s e m → Q c bytes e
  in_names_told b h = tells.larger (custom h.framed) (names_told core_names core_within b h.stops)

  -- ---- the section in fault

  stops_told : {c : ℕ} {bytes : List ℕ} {last : Option SectionId} {s m : S} {e : Error E} → P s → StopsInside asked c bytes last s e m → Q c bytes e
  stops_told {c} {bytes} {last} {s} {m} {e} b h = tells.larger (numbered h.framed) (go h.stops)
    where
      go : (asked s (Section last (Some h.id)) ≡ refused e m) ⊎ ((n : S) × (asked s (Section last (Some h.id)) ≡ accepted 0 n) × StopsSection asked c h.id h.body n e m) → Q c h.body e
      go (inl w) = absurd (tells.unrefused s m e last (Some h.id) b w)
      go (inr w) = section_told c h.id h.body w.0 m e (tells.hooked s w.0 0 last (Some h.id) b w.1) w.2

  there_told : {c : ℕ} {bytes : List ℕ} {last : Option SectionId} {s m : S} {e : Error E} → P s → StopsThere asked c bytes last s e m → Q c bytes e
  there_told b (inl h) = stops_told b h
  there_told b (inr h) = in_names_told b h

  -- ---- the bytes

  fault_told : {c : ℕ} {bytes : List ℕ} {s m : S} {e : Error E} → P s → BeforeFault asked c bytes s m e → (before : List Tree) (rest : List ℕ) → FaultAt bytes before rest →
      Q c bytes e
  fault_told {c} {bytes} {s} {m} {e} b h before rest f = go (h.1 before rest f)
    where
      behind : length (f.front.text ++ rest) ≤ length bytes
      behind = second_shorter core_header (f.front.text ++ rest) f.front.stands

      go : RefusedIn asked c s before e m
          ⊎ ((made : List Tree) × (last : Option SectionId) × (n : S) × AcceptsSections asked c s before made last n × StopsThere asked c rest last n e m) → Q c bytes e
      go (inl r) =
          tells.larger behind (tells.larger (first_shorter f.front.text rest refl)
          (tells.only c (alsos before Tree.finish) f.front.text b f.front.spells.spelled (r Tree.finish)))
      go (inr r) = tells.larger behind (tells.larger (second_shorter f.front.text rest refl) (there_told (sections_state c r.2 before r.0 r.1 b r.3) r.4))

  -- a refusal is not another than of a size above the ceiling, in bytes that are longer than it
  pub refusal_is_told : {c : ℕ} {bytes : List ℕ} {s m : S} {e : Error E} → P s → BeforeFault asked c bytes s m e →
      ((t : Tree) → CoreReading bytes t → Q c bytes e) → (Q c bytes e → ⊥) → ⊥
  refusal_is_told {bytes = bytes} b h reading other =
      reads_or_fails bytes h.0.0 h.0.1 (λ t r. other (reading t r)) (λ before rest f. other (fault_told b h before rest f))
