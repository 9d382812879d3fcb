-- Rows that are read one by one, and written in the order of their indices.
use Rattle.std.proofs.Common.{◌≡◌, ◌≢◌, ℕ, suc, ◌+◌, ◌-◌, ◌<◌, List, [], ◌∷◌, ◌++◌, take, drop, get_or, length, length-append, append_assoc, append-nil, ◌⊎◌, inl, inr, Bool, true, false, not, refl, sym, ap, ap₂, ◌∙◌, subst, arith, add-one}
use Rattle.std.proofs.Math.Seq.{drop-cons, take-append_seam}
use Rattle.std.specs.List.{All}
use Rattle.std.proofs.lemmas.List.Elements.{All-cons, All-nil}
use Rattle.std.proofs.lemmas.List.Sorted.{All-permutation}
use Rattle.wasm_leb.specs.Place.{BeginsNumber}
use Rattle.wasm_shapes.specs.Tree.{Tree, count}
use Rattle.wasm_shapes.specs.Shape.{Shape, closed}
use Rattle.wasm_shapes.specs.Sound.{nullable, sound}
use Rattle.wasm_shapes.specs.Spells.{Is, Spelled, Spells}
use Rattle.wasm_shapes.specs.Place.{Begins, BeginsNone}
use Rattle.wasm_shapes.specs.Rows.{RowsLeft}
use Rattle.wasm_shapes.specs.Types.{rows_tree}
use Rattle.wasm_shapes.specs.Module.{name_subsection, plain_naming}
use Rattle.wasm_shapes.specs.Namings.{entries_trees, outers_trees, plain_indirect}
use Rattle.wasm_shapes.proofs.Lists.{both}
use Rattle.wasm_shapes.proofs.Rows.{rows_first}
use Rattle.wasm_read.proofs.Placed.{takes_bytes}
use Rattle.wasm_read.proofs.DataSegments.{one_number}
use Rattle.wasm_read.proofs.NameMaps.{whole_spelled}
use Rattle.wasm_read.proofs.Subsections.{reads_subsection, row_of}
use Rattle.wasm_read.specs.declared.types.Name.{Name}
use Rattle.wasm_read.specs.Names.{EntriesLeft, MapStanding}
use Rattle.wasm_read.specs.Subsections.{Content, Holds, HoldsName, KnownSubsection, NameRead, OtherSubsection, ReadsContent, content_of, subsection_frame, subsection_frame_tree}
use Rattle.wasm_strip.specs.declared.sorting.Row.{Row}
use Rattle.wasm_strip.specs.Choices.{AreNames}
use Rattle.wasm_strip.specs.Sorted.{AreOrdered, AreRows, FillRows, HoldsMap, IsRow, SortsContent, SortsSubsection, Written, lead_of}
use Rattle.wasm_strip.proofs.Adding.{text_is}

-- ---- rows that are left

not_true : (b : Bool) → not b ≡ true → b ≡ false
not_true true e = absurd cc
not_true false e = refl

-- a row takes bytes
fills : (s : Shape) → sound (Shape.many s) ≡ true → nullable s ≡ false
fills s k = not_true (nullable s) (both _ _ (both _ _ k).0).1

pub row_shrinks : {s : Shape} {rest left : List ℕ} {t : Tree} → sound (Shape.many s) ≡ true → Begins s rest t left → length left < length rest
row_shrinks {s = s} {left = left} k b =
    let long = ap length b.reads in
    let parts = length-append b.text left in
    let some = takes_bytes b.text (fills s k) b.spells in
    omega (arith, long, parts, some)

module _ {s : Shape} {rest : List ℕ} where
  -- behind the first row there are rows
  pub fill_behind : {left : List ℕ} {t : Tree} → sound s ≡ true → closed s ≡ true → rest ≢ [] → FillRows s rest → Begins s rest t left → FillRows s left
  fill_behind {left = left} {t = t} k h some f b = go f.rows f.left.shaped f.left
    where
      go : (rows : Tree) → Is (Shape.many s) rows → RowsLeft s f.count rest rows → FillRows s left
      go rows Is.nil r = absurd (some r.spelled)
      go rows (Is.cons {u = u} d d') r =
          let number : f.count ≡ suc (count u) = sym r.counted in
          let behind = rows_first k h number b rows r in
          record { count = count u; rows = behind.0; left = behind.2 }

  -- where bytes are left a row begins
  pub fill_begins : rest ≢ [] → FillRows s rest → BeginsNone s rest → ⊥
  fill_begins some f none = go f.rows f.left.shaped f.left.spelled
    where
      go : (rows : Tree) → Is (Shape.many s) rows → Spelled rows rest → ⊥
      go rows Is.nil p = some p
      go rows (Is.cons {t = t} d d') p = none.none p.0 p.1 t (record { shaped = d; spelled = p.3 }) p.2

-- ---- rows that were read

-- These rows were read so far, and more are left.
pub record ReadSoFar (s : Shape) (bytes rest : List ℕ) (rows : List Row) : Type 0 where
  pub left : FillRows s rest
  pub more : (behind : List Row) → AreRows s rest behind → AreRows s bytes (rows ++ behind)

module _ {s : Shape} {bytes : List ℕ} where
  pub read_none : FillRows s bytes → ReadSoFar s bytes bytes []
  read_none f = record { left = f; more = λ behind are. are }

  pub read_more : {rest left : List ℕ} {t : Tree} (rows : List Row) (r : Row) → sound s ≡ true → closed s ≡ true → rest ≢ [] → ReadSoFar s bytes rest rows → Begins s rest t left →
      r.index ≡ lead_of t → r.text.now ≡ take (length rest - length left) rest → ReadSoFar s bytes left (rows ++ r ∷ [])
  read_more {rest = rest} {left = left} {t = t} rows r k h some so_far b leads text = record {
    left = fill_behind k h some so_far.left b;
    more = λ behind are.
        let is : r.text.now ≡ b.text = text_is b text in
        let first : IsRow s r = (t, subst (λ (z : List ℕ). Spells s z t) (sym is) b.spells, leads) in
        let both : AreRows s rest (r ∷ behind) = record {
          text = b.reads ∙ ap₂ (λ (x y : List ℕ). x ++ y) (sym is) are.text;
          each = All-cons (IsRow s) r behind first are.each;
        } in
        let A : List Row → Type 0 = λ z. AreRows s bytes z in
        subst A (sym (append_assoc rows (r ∷ []) behind)) (so_far.more (r ∷ behind) both);
  }

  pub read_all : {rest : List ℕ} (rows : List Row) → ReadSoFar s bytes rest rows → rest ≡ [] → AreRows s bytes rows
  read_all rows so_far e =
      let none : AreRows s _ [] = record { text = e; each = All-nil (IsRow s) } in
      let A : List Row → Type 0 = λ z. AreRows s bytes z in
      subst A (append-nil rows) (so_far.more [] none)

-- ---- rows that are written

-- This was written for the first rows.
pub record WrittenSoFar (each : Row → List ℕ → Type 0) (rows : List Row) (i : ℕ) (old out : List ℕ) : Type 0 where
  pub done : List ℕ
  pub added : out ≡ old ++ done
  pub more : (y : List ℕ) → Written each (drop i rows) y → Written each rows (done ++ y)

module _ {each : Row → List ℕ → Type 0} {rows : List Row} {old : List ℕ} where
  pub written_none : WrittenSoFar each rows 0 old old
  written_none = record { done = []; added = sym (append-nil old); more = λ y w. w }

  pub written_more : {i : ℕ} {out new : List ℕ} (d : Row) (x : List ℕ) → i < length rows → WrittenSoFar each rows i old out → new ≡ out ++ x → each (get_or rows i d) x →
      WrittenSoFar each rows (i + 1) old new
  written_more {i = i} d x small so_far e w = record {
    done = so_far.done ++ x;
    added = e ∙ ap (λ (z : List ℕ). z ++ x) so_far.added ∙ append_assoc old so_far.done x;
    more = λ y behind.
        let rest : drop i rows ≡ get_or rows i d ∷ drop (i + 1) rows = rw add-one (drop-cons rows i d small) in
        let W : List Row → Type 0 = λ z. Written each z (x ++ y) in
        let first : Written each (get_or rows i d ∷ drop (i + 1) rows) (x ++ y) = (x, y, refl, w, behind) in
        let V : List ℕ → Type 0 = λ z. Written each rows z in
        subst V (sym (append_assoc so_far.done x y)) (so_far.more (x ++ y) (subst W (sym rest) first));
  }

  pub written_all : {i : ℕ} {out : List ℕ} → WrittenSoFar each rows i old out → drop i rows ≡ [] → (x : List ℕ) × (out ≡ old ++ x) × Written each rows x
  written_all so_far e =
      let W : List Row → Type 0 = λ z. Written each z [] in
      let V : List ℕ → Type 0 = λ z. Written each rows z in
      (so_far.done, so_far.added, subst V (append-nil so_far.done) (so_far.more [] (subst W (sym e) refl)))

-- ---- rows in order

pub ordered_rows : {s : Shape} {bytes : List ℕ} {rows : List Row} → AreOrdered s bytes rows → All (IsRow s) rows
ordered_rows {s = s} {rows = rows} o = All-permutation (IsRow s) o.rows rows o.permuted o.are.each

-- the text of a row begins with it
whole_row : {s : Shape} {text : List ℕ} {t : Tree} → Spells s text t → Begins s text t []
whole_row {text = text} p = record { text = text; spells = p; reads = sym (append-nil text) }

pub row_begins : {s : Shape} (r : Row) → IsRow s r → BeginsNone s r.text.now → ⊥
row_begins r is none = none.none r.text.now [] is.0 is.1 (sym (append-nil r.text.now))

-- behind the index of a group stands its map
pub names_behind : (r : Row) {i : ℕ} {names : List ℕ} → IsRow plain_indirect r → BeginsNumber 128 32 32 r.text.now i names → (t : Tree) × Spells (Shape.vec plain_naming) names t
names_behind r {names = names} is b = go is.0 is.1.shaped is.1.spelled
  where
    go : (t : Tree) → Is plain_indirect t → Spelled t r.text.now → (u : Tree) × Spells (Shape.vec plain_naming) names u
    go t (Is.seq {u = u} (Is.u32 {n = n}) d) s =
        let same = one_number b (s.0, s.3, s.2) in
        let S : List ℕ → Type 0 = λ z. Spells (Shape.vec plain_naming) z u in
        (u, subst S (sym same.1) (record { shaped = d; spelled = s.4 }))

-- ---- ids

-- a subsection begins with its id
pub subsection_leads : {bytes more rest : List ℕ} {t : Tree} {b : ℕ} → Begins name_subsection bytes t rest → bytes ≡ b ∷ more → b ≡ lead_of t
subsection_leads {bytes = bytes} {more = more} {rest = rest} {t = t} {b = b} p e = go (row_of p)
  where
    go : KnownSubsection bytes t rest ⊎ OtherSubsection bytes t rest → b ≡ lead_of t
    go (inl k) =
        let s = k.frame.spells.spelled in
        let front : k.frame.text ≡ k.id ∷ s.1 = s.2 ∙ ap (λ (z : List ℕ). z ++ s.1) s.3.0 in
        let whole : bytes ≡ k.id ∷ (s.1 ++ rest) = k.frame.reads ∙ ap (λ (z : List ℕ). z ++ rest) front in
        let same : b ≡ k.id = cc in
        same ∙ sym (ap lead_of k.is)
    go (inr k) =
        let s = k.frame.spells.spelled in
        let front : k.frame.text ≡ k.id ∷ s.1 = s.2 ∙ ap (λ (z : List ℕ). z ++ s.1) s.3.0 in
        let whole : bytes ≡ k.id ∷ (s.1 ++ rest) = k.frame.reads ∙ ap (λ (z : List ℕ). z ++ rest) front in
        let same : b ≡ k.id = cc in
        same ∙ sym (ap lead_of k.is)

-- the contents of a name section are rows
pub names_fill : {contents : List ℕ} → AreNames contents → FillRows name_subsection contents
names_fill n = record { count = count n.0; rows = n.0; left = record { shaped = n.1.shaped; counted = refl; spelled = n.1.spelled } }

-- ---- subsections

module _ {text rest body : List ℕ} {id : ℕ} {t : Tree} (n : Name) (spells : Spells name_subsection text t) (frame : Begins subsection_frame text (subsection_frame_tree id body) rest) (holds : HoldsName id body n) where
  read : NameRead (record { rest = text; len = 0 }) n (record { rest = rest; len = 0 })
  read = record { id = id; body = body; begins = frame; holds = holds; len = refl }

  content_map : (c : Content) → Holds id body c → ReadsContent c t → HoldsMap c body
  content_map (Content.text m) h r = tt
  content_map (Content.direct j s m) h r =
      let L : MapStanding → Type 0 = λ z. EntriesLeft plain_naming z (rows_tree (entries_trees r.0)) in
      (_, whole_spelled (subst L h.1 r.1))
  content_map (Content.indirect j s m) h r =
      let L : MapStanding → Type 0 = λ z. EntriesLeft plain_indirect z (rows_tree (outers_trees r.0)) in
      (_, whole_spelled (subst L h.1 r.1))
  content_map (Content.raw j c) h r = tt

  -- the body of a subsection that holds a map is one
  pub holds_map : HoldsMap (content_of n) body
  holds_map = content_map (content_of n) holds (reads_subsection read (whole_row spells)).0

  -- nothing stands behind the frame of a subsection
  pub frame_fills : Begins subsection_frame text (subsection_frame_tree id body) []
  frame_fills =
      let F : List ℕ → Type 0 = λ z. Begins subsection_frame text (subsection_frame_tree id body) z in
      subst F (sym (reads_subsection read (whole_row spells)).1) frame

-- a body stands behind what is in front of it
pub front_and_body : {text front : List ℕ} (before body : List ℕ) → text ≡ before ++ body → front ≡ take (length text - length body) text → text ≡ front ++ body
front_and_body {text = text} {front = front} before body e f =
    let whole : length text ≡ length before + length body = ap length e ∙ length-append before body in
    let many : length text - length body ≡ length before = omega (arith, whole) in
    let same : front ≡ before = f ∙ ap₂ (λ (n : ℕ) (z : List ℕ). take n z) many e ∙ take-append_seam before body in
    e ∙ ap (λ (z : List ℕ). z ++ body) (sym same)

-- a subsection whose body was written behind what is in front of it
pub subsection_sorted : (r : Row) (old : List ℕ) {rest front body middle new : List ℕ} {id : ℕ} (n : Name) → IsRow name_subsection r → Begins subsection_frame r.text.now (subsection_frame_tree id body) rest →
    HoldsName id body n → front ≡ take (length r.text.now - length body) r.text.now → middle ≡ old ++ front → (x : List ℕ) × (new ≡ middle ++ x) × SortsContent (content_of n) body x →
    (x : List ℕ) × (new ≡ old ++ x) × SortsSubsection r x
subsection_sorted r old {front = front} {body = body} {id = id} n is frame holds cut e w =
    let fills = frame_fills n is.1 frame holds in
    let s = fills.spells.spelled in
    let c = s.4 in
    let before = s.0 ++ c.0 in
    let text : r.text.now ≡ before ++ body =
    fills.reads ∙ append-nil fills.text ∙ s.2 ∙ ap (λ (z : List ℕ). s.0 ++ z) (c.2 ∙ ap (λ (z : List ℕ). c.0 ++ z) c.4) ∙ sym (append_assoc s.0 c.0 body) in (
      front ++ w.0,
      w.1 ∙ ap (λ (z : List ℕ). z ++ w.0) e ∙ append_assoc old front w.0,
      record { id = id; front = front; body = body; sorted = w.0; name = n; begins = fills; holds = holds; stands = front_and_body before body text cut; is = refl; sorts = w.2 },
    )
