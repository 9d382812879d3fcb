-- Subsections of a name section, and the frames that they stand in.
use Rattle.std.proofs.Common.{◌≡◌, ◌≢◌, ◌⊎◌, inl, inr, ℕ, zero, suc, ◌+◌, ◌<◌, ◌≤◌, List, [], ◌∷◌, ◌++◌, length, map, Bool, true, false, nat_lt, refl, sym, ap, ap₂, ◌∙◌, append-nil, subst, arith}
use Rattle.std.proofs.lemmas.Bool.{ltb-true, ltb-false}
use Rattle.std.proofs.lemmas.List.{append_cancel_left}
use Rattle.wasm_shapes.specs.declared.Space.{Space}
use Rattle.wasm_shapes.specs.Tree.{Tree}
use Rattle.wasm_shapes.specs.Shape.{Shape, choice, closed}
use Rattle.wasm_shapes.specs.Sound.{sound}
use Rattle.wasm_shapes.specs.Spells.{Is, Spelled, Spells}
use Rattle.wasm_shapes.specs.Place.{Begins, BeginsNone}
use Rattle.wasm_shapes.specs.Types.{rows_tree, vector_tree}
use Rattle.wasm_shapes.specs.Module.{plain_naming, naming_row, indirect_row, name_rows, name_subsection, subsection}
use Rattle.wasm_shapes.specs.Namings.{plain_indirect, entries_trees, outers_trees, asked_in, subsection_tree, names_tree, raw_names_tree}
use Rattle.wasm_shapes.proofs.Unique.{unique}
use Rattle.wasm_shapes.proofs.Begins.{row_at, begins_row, begins_seq, none_seq_second}
use Rattle.wasm_read.proofs.OfKinds.{begins_lane}
use Rattle.wasm_read.proofs.NameMaps.{plain_row, asked_row, asked_spelled, spelled_asked, entries_of, outers_of}
use Rattle.wasm_read.specs.declared.types.Name.{Name}
use Rattle.wasm_read.specs.declared.types.Name.TheVariants as name
use Rattle.wasm_read.specs.Names.{MapStanding, whole_map, EntriesLeft, NamesStanding}
use Rattle.wasm_read.specs.Subsections.{Content, content_of, subsection_frame, subsection_frame_tree, body_in, body_of_id, KnownSubsection, OtherSubsection, ReadsContent, ReadsName, Holds, NoSubsection, NameRead, SubsectionMissing}
use Rattle.wasm_read.specs.Laws as statements

-- ---- what bytes begin with is one

pub begins_one : {s : Shape} {t u : Tree} {bytes left behind : List ℕ} → sound s ≡ true → closed s ≡ true → Begins s bytes t left → Begins s bytes u behind →
    (t ≡ u) × (left ≡ behind)
begins_one {left = left} {behind = behind} k h p q =
    let both_ways : p.text ++ left ≡ q.text ++ behind = sym p.reads ∙ q.reads in
    let same = unique p.spells.shaped q.spells.shaped p.text q.text left behind k (inl h) p.spells.spelled q.spells.spelled both_ways in
    (same.1, append_cancel_left q.text left behind (ap (λ (z : List ℕ). z ++ left) (sym same.0) ∙ both_ways))

pub frame_one : {id other : ℕ} {body contents bytes left behind : List ℕ} → Begins subsection_frame bytes (subsection_frame_tree id body) left →
    Begins subsection_frame bytes (subsection_frame_tree other contents) behind → (id ≡ other) × (body ≡ contents) × (left ≡ behind)
frame_one {id = id} {other = other} {body = body} {contents = contents} p q =
    let same = begins_one refl refl p q in
    let trees : subsection_frame_tree id body ≡ subsection_frame_tree other contents = same.0 in
    (cc, cc, same.1)

-- ---- a frame

pub frame_begins : {id : ℕ} {bytes rest body left : List ℕ} → id < 256 → bytes ≡ id ∷ rest → Begins (Shape.sized Shape.rest) rest (Tree.sized (Tree.raw body)) left →
    Begins subsection_frame bytes (subsection_frame_tree id body) left
frame_begins h e p = begins_seq (begins_lane h e) p

pub frame_none : {id : ℕ} {bytes rest : List ℕ} → id < 256 → bytes ≡ id ∷ rest → BeginsNone (Shape.sized Shape.rest) rest → BeginsNone subsection_frame bytes
frame_none h e none = none_seq_second refl refl (begins_lane h e) none

-- ---- a name that fills some bytes

pub name_spelled : {bytes text : List ℕ} → Begins Shape.name bytes (Tree.name text) [] → Spells Shape.name bytes (Tree.name text)
name_spelled {bytes = bytes} {text = text} p =
    let whole : bytes ≡ p.text = p.reads ∙ append-nil p.text in
    let S : List ℕ → Type 0 = λ z. Spells Shape.name z (Tree.name text) in
    subst S (sym whole) p.spells

pub name_short : {bytes left : List ℕ} {u : Tree} → Begins Shape.name bytes u left → 1 ≤ length left → (t : Tree) → Spells Shape.name bytes t → ⊥
name_short {bytes = bytes} {left = left} p more t q =
    let whole : Begins Shape.name bytes t [] = record { text = bytes; spells = q; reads = sym (append-nil bytes) } in
    let none : left ≡ [] = (begins_one refl refl p whole).1 in
    let empty = ap length none in
    omega arith

pub name_none : {bytes : List ℕ} → BeginsNone Shape.name bytes → (t : Tree) → Spells Shape.name bytes t → ⊥
name_none {bytes = bytes} none t q = none.none bytes [] t q (sym (append-nil bytes))

-- ---- rows and frames

-- so many rows lead with their numbers, from one on
abbrev Numbered : ℕ → ℕ → List Shape → Type 0
Numbered from (suc n) (r ∷ rows) = (r ≡ subsection from (body_in r)) × Numbered (suc from) n rows
Numbered from _ _ = Unit {0}

numbered : (from n : ℕ) (rows : List Shape) → Numbered from n rows → n ≤ length rows → (k id : ℕ) → k < n → id ≡ from + k →
    row_at (choice rows) k ≡ subsection id (body_in (row_at (choice rows) k))
numbered from zero rows p l k id h e = absurd (omega arith)
numbered from (suc n) [] p l k id h e = absurd (omega arith)
numbered from (suc n) (r ∷ rows) p l zero id h e =
    let same : from ≡ id = omega arith in
    p.0 ∙ ap (λ (z : ℕ). subsection z (body_in r)) same
numbered from (suc n) (r ∷ rows) p l (suc k) id h e = numbered (suc from) n rows p.1 (omega arith) k id (omega arith) (omega arith)

known_at : (id : ℕ) → id < 12 → row_at name_subsection id ≡ subsection id (body_of_id id)
known_at id h = numbered 0 12 name_rows (refl, (refl, (refl, (refl, (refl, (refl, (refl, (refl, (refl, (refl, (refl, (refl, tt)))))))))))) (omega arith) id id h (omega arith)

-- a row of a choice by its number
chosen : (rows : List Shape) {t : Tree} → Is (choice rows) t → (k : ℕ) × (u : Tree) × (t ≡ Tree.row k u) × (k < length rows) × Is (row_at (choice rows) k) u
chosen [] d = elim d [ ]
chosen (s ∷ rows) (Is.first {t = t} d) = (zero, t, refl, omega arith, d)
chosen (s ∷ rows) (Is.later {k = k} {t = t} d) =
    let r = chosen rows d in
    let rest : Tree.row k t ≡ Tree.row r.0 r.1 = r.2 in
    let number : k ≡ r.0 = cc in
    let tree : t ≡ r.1 = cc in
    (suc r.0, r.1, ap₂ (λ (n : ℕ) (u : Tree). Tree.row (suc n) u) number tree, omega arith, r.4)

known : (id : ℕ) {u t : Tree} {bytes left : List ℕ} (text : List ℕ) → id < 12 → t ≡ Tree.row id u → Is (subsection id (body_of_id id)) u → Spelled u text → bytes ≡ text ++ left → KnownSubsection bytes t left
known id text below is (Is.seq Is.fixed (Is.sized {t = u} d)) p e =
    let s = p.4 in record {
      id = id;
      body = s.1;
      tree = u;
      below = below;
      frame = record {
        text = text;
        spells = record {
          shaped = Is.seq Is.byte (Is.sized Is.rest);
          spelled = (p.0, p.1, p.2, (p.3, omega arith), (s.0, s.1, s.2, s.3, refl));
        };
        reads = e;
      };
      spells = record { shaped = d; spelled = s.4 };
      is = is;
    }

other : {u t : Tree} {bytes left : List ℕ} (text : List ℕ) → t ≡ Tree.row 12 u → Is (Shape.seq (Shape.within 12 255) (Shape.sized Shape.rest)) u → Spelled u text → bytes ≡ text ++ left → OtherSubsection bytes t left
other text is (Is.seq (Is.within {b = id} low high) (Is.sized (Is.rest {bs = body}))) p e = record {
  id = id;
  body = body;
  from = low;
  frame = record {
    text = text;
    spells = record { shaped = Is.seq Is.byte (Is.sized Is.rest); spelled = p };
    reads = e;
  };
  is = is;
}

-- a subsection stands in its frame
pub row_of : {bytes left : List ℕ} {t : Tree} → Begins name_subsection bytes t left → KnownSubsection bytes t left ⊎ OtherSubsection bytes t left
row_of {bytes = bytes} {left = left} {t = t} p = let r = chosen name_rows p.spells.shaped in go r.0 r.1 r.2 r.3 r.4 (nat_lt r.0 12) refl
  where
    go : (k : ℕ) (u : Tree) → t ≡ Tree.row k u → k < 13 → Is (row_at name_subsection k) u → (b : Bool) → nat_lt k 12 ≡ b → KnownSubsection bytes t left ⊎ OtherSubsection bytes t left
    go k u e h d true l =
        let below = ltb-true k 12 l in
        let I : Shape → Type 0 = λ z. Is z u in
        let S : Tree → Type 0 = λ z. Spelled z p.text in
        inl (known k p.text below e (subst I (known_at k below) d) (subst S e p.spells.spelled) p.reads)
    go k u e h d false l =
        let above = ltb-false k 12 l in
        let last : k ≡ 12 = omega arith in
        let I : ℕ → Type 0 = λ z. Is (row_at name_subsection z) u in
        let S : Tree → Type 0 = λ z. Spelled z p.text in
        inr (other p.text (e ∙ ap (λ (z : ℕ). Tree.row z u) last) (subst I last d) (subst S e p.spells.spelled) p.reads)

-- what a frame's body spells is a subsection
known_there : {id : ℕ} {u : Tree} {bytes body left : List ℕ} → id < 12 → Begins subsection_frame bytes (subsection_frame_tree id body) left → Spells (body_of_id id) body u →
    Begins name_subsection bytes (subsection_tree id u) left
known_there {id = id} {u = u} {bytes = bytes} {left = left} below p q =
    let s = p.spells.spelled in
    let c = s.4 in
    let P : List ℕ → Type 0 = λ z. Spelled u z in
    let B : Shape → Type 0 = λ z. Begins z bytes (Tree.pair (Tree.fixed id) (Tree.sized u)) left in
    let row : Begins (subsection id (body_of_id id)) bytes (Tree.pair (Tree.fixed id) (Tree.sized u)) left = record {
      text = p.text;
      spells = record {
        shaped = Is.seq Is.fixed (Is.sized q.shaped);
        spelled = (s.0, s.1, s.2, s.3.0, (c.0, c.1, c.2, c.3, subst P (sym c.4) q.spelled));
      };
      reads = p.reads;
    } in
    begins_row {k = id} (subst B (sym (known_at id below)) row)

other_there : {id : ℕ} {bytes body left : List ℕ} → 12 ≤ id → Begins subsection_frame bytes (subsection_frame_tree id body) left →
    Begins name_subsection bytes (raw_names_tree id body) left
other_there {id = id} from p =
    let small : id < 256 = p.spells.spelled.3.1 in
    begins_row {k = 12} (record { text = p.text; spells = record { shaped = Is.seq (Is.within from (omega arith)) (Is.sized Is.rest); spelled = p.spells.spelled }; reads = p.reads })

-- ---- what the contents are, by the name

-- what the tables have at the id of a map
abbrev InTable : Content → Type 0
InTable (Content.direct id s m) = (id < 12) × (body_of_id id ≡ Shape.vec (naming_row s))
InTable (Content.indirect id s m) = (id < 12) × (body_of_id id ≡ Shape.vec (indirect_row s))
InTable _ = Unit {0}

in_table : (n : Name) → InTable (content_of n)
in_table (name.Module n) = tt
in_table (name.Function m) = (omega arith, refl)
in_table (name.Local m) = (omega arith, refl)
in_table (name.Label m) = (omega arith, refl)
in_table (name.Type_ m) = (omega arith, refl)
in_table (name.Table m) = (omega arith, refl)
in_table (name.Memory m) = (omega arith, refl)
in_table (name.Global m) = (omega arith, refl)
in_table (name.Element m) = (omega arith, refl)
in_table (name.Data m) = (omega arith, refl)
in_table (name.Field m) = (omega arith, refl)
in_table (name.Tag m) = (omega arith, refl)
in_table (name.Unknown id c) = tt

-- ---- contents that are read stand there

map_there : (j id : ℕ) (s : Space) (c : Shape) (m : MapStanding) (ts : List Tree) {t : Tree} {bytes body left : List ℕ} → j < 12 → body_of_id j ≡ Shape.vec (asked_row s c) →
    Begins subsection_frame bytes (subsection_frame_tree id body) left → id ≡ j → m ≡ whole_map body → EntriesLeft (plain_row c) m (rows_tree ts) → t ≡ names_tree j s ts →
    Begins name_subsection bytes t left
map_there j id s c m ts {bytes = bytes} {body = body} {left = left} below row p i e w is =
    let F : ℕ → Type 0 = λ z. Begins subsection_frame bytes (subsection_frame_tree z body) left in
    let L : MapStanding → Type 0 = λ z. EntriesLeft (plain_row c) z (rows_tree ts) in
    let S : Shape → Type 0 = λ z. Spells z body (vector_tree (map (asked_in s) ts)) in
    let N : Tree → Type 0 = λ z. Begins name_subsection bytes z left in
    subst N (sym is) (known_there below (subst F i p) (subst S (sym row) (asked_spelled s ts (subst L e w))))

content_there : (c : Content) (id : ℕ) (bytes body left : List ℕ) (t : Tree) → InTable c → Begins subsection_frame bytes (subsection_frame_tree id body) left → Holds id body c →
    ReadsContent c t → Begins name_subsection bytes t left
content_there (Content.text n) id bytes body left t k p h r =
    let F : ℕ → Type 0 = λ z. Begins subsection_frame bytes (subsection_frame_tree z body) left in
    let N : Tree → Type 0 = λ z. Begins name_subsection bytes z left in
    subst N (sym r) (known_there {id = 0} (omega arith) (subst F h.0 p) h.1)
content_there (Content.direct j s m) id bytes body left t k p h r = map_there j id s Shape.name m (entries_trees r.0) k.0 k.1 p h.0 h.1 r.1 r.2
content_there (Content.indirect j s m) id bytes body left t k p h r = map_there j id s (Shape.vec plain_naming) m (outers_trees r.0) k.0 k.1 p h.0 h.1 r.1 r.2
content_there (Content.raw j c) id bytes body left t k p h r =
    let R : ℕ → List ℕ → Type 0 = λ y z. Begins name_subsection bytes (raw_names_tree y z) left in
    let N : Tree → Type 0 = λ z. Begins name_subsection bytes z left in
    let there : R id body = other_there (omega arith) p in
    subst N (sym r) (subst (R j) (sym h.2) (subst (λ (y : ℕ). R y body) h.0 there))

pub subsection_there : {old new : NamesStanding} {n : Name} {t : Tree} → NameRead old n new → ReadsName n t → Begins name_subsection old.rest t new.rest
subsection_there {old = old} {new = new} {n = n} {t = t} r reads = content_there (content_of n) r.id old.rest r.body new.rest t (in_table n) r.begins r.holds reads

-- ---- what stands there is what is read

map_read : (j : ℕ) (s : Space) (c : Shape) {tree t : Tree} {body : List ℕ} → body_of_id j ≡ Shape.vec (asked_row s c) → Spells (body_of_id j) body tree → t ≡ subsection_tree j tree →
    (ts : List Tree) × EntriesLeft (plain_row c) (whole_map body) (rows_tree ts) × (t ≡ names_tree j s ts)
map_read j s c {tree = tree} {body = body} row p is =
    let S : Shape → Type 0 = λ z. Spells z body tree in
    let r = spelled_asked (subst S row p) in
    (r.0, r.2, is ∙ ap (subsection_tree j) r.1)

-- at the frame that was read
known_here : {id : ℕ} {t : Tree} {bytes body left behind : List ℕ} → Begins subsection_frame bytes (subsection_frame_tree id body) left → (k : KnownSubsection bytes t behind) →
    (id < 12) × Spells (body_of_id id) body k.tree × (t ≡ subsection_tree id k.tree)
known_here {t = t} {body = body} p k =
    let same = frame_one k.frame p in
    let below = k.below in
    let i = same.0 in
    let S : ℕ → List ℕ → Type 0 = λ y z. Spells (body_of_id y) z k.tree in
    (omega arith, subst (λ (y : ℕ). S y body) i (subst (S k.id) same.1 k.spells), k.is ∙ ap (λ (y : ℕ). subsection_tree y k.tree) i)

content_read : (c : Content) (id : ℕ) (bytes body left behind : List ℕ) (t : Tree) → InTable c → Begins subsection_frame bytes (subsection_frame_tree id body) left → Holds id body c →
    KnownSubsection bytes t behind ⊎ OtherSubsection bytes t behind → ReadsContent c t
content_read (Content.text n) id bytes body left behind t k p h (inl q) =
    let here = known_here p q in
    let S : ℕ → Type 0 = λ y. Spells (body_of_id y) body q.tree in
    let name : Spells Shape.name body q.tree = subst S h.0 here.1 in
    let same : q.tree ≡ Tree.name n = (unique name.shaped h.1.shaped body body [] [] refl (inl refl) name.spelled h.1.spelled refl).1 in
    here.2 ∙ ap₂ subsection_tree h.0 same
content_read (Content.direct j s m) id bytes body left behind t k p h (inl q) =
    let here = known_here p q in
    let S : ℕ → Type 0 = λ y. Spells (body_of_id y) body q.tree in
    let r = map_read j s Shape.name k.1 (subst S h.0 here.1) (here.2 ∙ ap (λ (y : ℕ). subsection_tree y q.tree) h.0) in
    let es = entries_of r.0 r.1.rows_left.shaped in
    let L : MapStanding → List Tree → Type 0 = λ y z. EntriesLeft plain_naming y (rows_tree z) in
    (es.0, subst (λ (y : MapStanding). L y (entries_trees es.0)) (sym h.1) (subst (L (whole_map body)) es.1 r.1), r.2 ∙ ap (names_tree j s) es.1)
content_read (Content.indirect j s m) id bytes body left behind t k p h (inl q) =
    let here = known_here p q in
    let S : ℕ → Type 0 = λ y. Spells (body_of_id y) body q.tree in
    let r = map_read j s (Shape.vec plain_naming) k.1 (subst S h.0 here.1) (here.2 ∙ ap (λ (y : ℕ). subsection_tree y q.tree) h.0) in
    let os = outers_of r.0 r.1.rows_left.shaped in
    let L : MapStanding → List Tree → Type 0 = λ y z. EntriesLeft plain_indirect y (rows_tree z) in
    (os.0, subst (λ (y : MapStanding). L y (outers_trees os.0)) (sym h.1) (subst (L (whole_map body)) os.1 r.1), r.2 ∙ ap (names_tree j s) os.1)
content_read (Content.raw j c) id bytes body left behind t k p h (inl q) = let here = known_here p q in let below = here.0 in absurd (omega arith)
content_read (Content.text n) id bytes body left behind t k p h (inr q) = let i = (frame_one q.frame p).0 in let from = q.from in absurd (omega arith)
content_read (Content.direct j s m) id bytes body left behind t k p h (inr q) = let i = (frame_one q.frame p).0 in let from = q.from in let low = k.0 in absurd (omega arith)
content_read (Content.indirect j s m) id bytes body left behind t k p h (inr q) = let i = (frame_one q.frame p).0 in let from = q.from in let low = k.0 in absurd (omega arith)
content_read (Content.raw j c) id bytes body left behind t k p h (inr q) =
    let same = frame_one q.frame p in
    q.is ∙ ap₂ raw_names_tree (same.0 ∙ h.0) (same.1 ∙ sym h.2)

behind_row : {id : ℕ} {t : Tree} {bytes body left behind : List ℕ} → Begins subsection_frame bytes (subsection_frame_tree id body) left →
    KnownSubsection bytes t behind ⊎ OtherSubsection bytes t behind → behind ≡ left
behind_row p (inl q) = (frame_one q.frame p).2
behind_row p (inr q) = (frame_one q.frame p).2

pub reads_subsection : {old new : NamesStanding} {n : Name} {t : Tree} {left : List ℕ} → NameRead old n new → Begins name_subsection old.rest t left → ReadsName n t × (left ≡ new.rest)
reads_subsection {old = old} {new = new} {n = n} {t = t} {left = left} r p =
    let row = row_of p in
    (content_read (content_of n) r.id old.rest r.body new.rest left t (in_table n) r.begins r.holds row, behind_row r.begins row)

pub none_subsection : {old new : NamesStanding} {n : Name} → NameRead old n new → ((t : Tree) → ReadsName n t → ⊥) → BeginsNone name_subsection old.rest
none_subsection r none = record { none = λ text left t p e. none t (reads_subsection r (record { text = text; spells = p; reads = e })).0 }

-- ---- where none begins

no_frame : {bytes left : List ℕ} {t : Tree} → BeginsNone subsection_frame bytes → KnownSubsection bytes t left ⊎ OtherSubsection bytes t left → ⊥
no_frame {left = left} none (inl q) = none.none q.frame.text left (subsection_frame_tree q.id q.body) q.frame.spells q.frame.reads
no_frame {left = left} none (inr q) = none.none q.frame.text left (subsection_frame_tree q.id q.body) q.frame.spells q.frame.reads

no_name : {bytes body left behind : List ℕ} {t : Tree} → Begins subsection_frame bytes (subsection_frame_tree 0 body) left → ((u : Tree) → Spells Shape.name body u → ⊥) →
    KnownSubsection bytes t behind ⊎ OtherSubsection bytes t behind → ⊥
no_name p none (inl q) = none q.tree (known_here p q).1
no_name p none (inr q) = let i = (frame_one q.frame p).0 in let from = q.from in omega arith

pub none_begins : {bytes : List ℕ} → NoSubsection bytes → BeginsNone name_subsection bytes
none_begins {bytes = bytes} none = record { none = λ text left t p e. go none left t (row_of (record { text = text; spells = p; reads = e })) }
  where
    go : NoSubsection bytes → (left : List ℕ) (t : Tree) → KnownSubsection bytes t left ⊎ OtherSubsection bytes t left → ⊥
    go (inl n) left t q = no_frame n q
    go (inr n) left t q = no_name n.2 n.3 q

pub missing : {row : Shape} {old : NamesStanding} → BeginsNone row old.rest → old.rest ≢ [] → NoSubsection old.rest → SubsectionMissing row old
missing none some here = record { some = some; here = here; none = none }

-- ---- the law

pub subsections_framed : statements.AreSubsectionsFramed
subsections_framed = record {
  forth = λ bytes left t p. row_of p;
  back = λ id bytes body left u below p q. known_there below p q;
  others = λ id bytes body left from p. other_there from p;
}
