-- What the loop over the subsections of a format rests on, and that the names of a core module have it.
use Rattle.std.proofs.Common.{◌≡◌, ℕ, List, [], true, false, refl, ap, subst, sym}
use Rattle.wasm_shapes.specs.declared.Visit.{Visit}
use Rattle.wasm_shapes.specs.Drawn.{Drawn}
use Rattle.wasm_shapes.proofs.Drawn.{drawn_front}
use Rattle.wasm_shapes.specs.Place.{Begins}
use Rattle.wasm_shapes.specs.Shape.{Shape, closed}
use Rattle.wasm_shapes.specs.Sound.{nullable, sound}
use Rattle.wasm_shapes.specs.Spells.{Is, Spelled}
use Rattle.wasm_shapes.specs.Tree.{Tree, visits}
use Rattle.wasm_read.specs.Names.{MapStanding, NamesStanding, whole_map}
use Rattle.wasm_read.specs.Subsections.{Content, Holds, SubsectionRead, content_of}
use Rattle.wasm_read.proofs.Subsections.{reads_subsection, subsection_there}
use Rattle.reencode_core.specs.NameFormats.{MapRow, NameFormat, OfMap, core_names, entries_bytes}
use Rattle.reencode_core.proofs.after_error.SectionVisited.{names_drawn}

pub record FormatLaws {N : Type 0} (form : NameFormat N) : Type 1 where
  pub passes : sound form.row ≡ true
  pub many_pass : sound (Shape.many form.row) ≡ true
  pub ends : closed form.row ≡ true
  pub fills : nullable form.row ≡ false
  -- a subsection that was read stands there, and what stands there is what it is read as
  pub there : (old new : NamesStanding) (n : N) (t : Tree) → SubsectionRead form.holds old n new → form.reads n t → Begins form.row old.rest t new.rest
  pub here : (old new : NamesStanding) (n : N) (t : Tree) (left : List ℕ) → SubsectionRead form.holds old n new → Begins form.row old.rest t left → form.reads n t × (left ≡ new.rest)
  -- its map stands in its body, and what is drawn from the entries of that is drawn from the body
  pub in_map : (id : ℕ) (body : List ℕ) (n : N) (P : Shape → MapStanding → Type 0) → form.holds id body n → form.of_map n P →
      (row : Shape) × (map : List ℕ) × form.map_at id body row map × P row (whole_map map)
  pub drawn_in : (id : ℕ) (body : List ℕ) (n : N) (vs : List Visit) → form.holds id body n → Drawn (form.entries n) vs → Drawn body vs
  pub rows_drawn : (t : Tree) (x : List ℕ) → Is (Shape.many form.row) t → Spelled t x → Drawn x (visits t)

-- ---- the names of a core module

content_map : (c : Content) (id : ℕ) (body : List ℕ) (P : Shape → MapStanding → Type 0) → Holds id body c → OfMap c P →
    (row : Shape) × (map : List ℕ) × (MapRow id row × (map ≡ body)) × P row (whole_map map)
content_map (Content.direct j s m) id body P h q =
    let R : ℕ → Type 0 = λ y. MapRow y q.0 in
    (q.0, body, (subst R (sym h.0) q.1, refl), subst (P q.0) h.1 q.2)
content_map (Content.indirect j s m) id body P h q =
    let R : ℕ → Type 0 = λ y. MapRow y q.0 in
    (q.0, body, (subst R (sym h.0) q.1, refl), subst (P q.0) h.1 q.2)
content_map (Content.text n) id body P h q = absurd q
content_map (Content.raw j c) id body P h q = absurd q

-- what is drawn from the entries of a map is drawn from its bytes
content_drawn : (k : Content) (id : ℕ) (body : List ℕ) (vs : List Visit) → Holds id body k → Drawn (entries_bytes k) vs → Drawn body vs
content_drawn (Content.direct j space m) id body vs h d = let P : List ℕ → Type 0 = λ z. Drawn z vs in subst P (ap MapStanding.rest h.1) d
content_drawn (Content.indirect j space m) id body vs h d = let P : List ℕ → Type 0 = λ z. Drawn z vs in subst P (ap MapStanding.rest h.1) d
content_drawn (Content.text n) id body vs h d = drawn_front [] body refl d
content_drawn (Content.raw j c) id body vs h d = drawn_front [] body refl d

pub core_laws : FormatLaws core_names
core_laws = record {
  passes = refl;
  many_pass = refl;
  ends = refl;
  fills = refl;
  there = λ old new n t r reads. subsection_there {old = old} {new = new} {n = n} r reads;
  here = λ old new n t left r p. reads_subsection {old = old} {new = new} {n = n} r p;
  in_map = λ id body n P h q. content_map (content_of n) id body P h q;
  drawn_in = λ id body n vs h d. content_drawn (content_of n) id body vs h d;
  rows_drawn = names_drawn;
}
