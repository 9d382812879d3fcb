-- The sections of a table, for any kind.
use Rattle.std.proofs.Common.{◌≡◌, ◌≢◌, ◌⊎◌, inl, inr, ℕ, zero, suc, ◌≤◌, lit≤, List, [], ◌∷◌, Bool, true, false, if◌then◌else◌, nat_eq, get_or, refl, sym, ap, ap₂, ◌∙◌, subst, arith}
use Rattle.std.proofs.lemmas.Bool.{false≢true, leb-true}
use Rattle.std.proofs.lemmas.Bool.Decides.{Decides-eqb}
use Rattle.wasm_shapes.specs.declared.SectionId.{SectionId}
use Rattle.wasm_shapes.specs.declared.SectionId.TheVariants as id
use Rattle.wasm_shapes.specs.Tree.{Tree}
use Rattle.wasm_shapes.specs.Shape.{Shape, choice, rows_and}
use Rattle.wasm_shapes.specs.Spells.{Is, Spelled, Spells}
use Rattle.wasm_shapes.specs.Place.{Begins, BeginsNone}
use Rattle.wasm_shapes.specs.SectionTable.{Kind, number, framed, framed_tree, shapes_of, place_in, body_in, ascending}
use Rattle.wasm_shapes.specs.Module.{in_force, names_name, custom, section, custom_section, unknown_section, body_of, tree_of, custom_tree_of, unknown_tree_of, frame, numbered_frame, custom_frame, ReadsContents, ReadsCustom, InFrame}
use Rattle.wasm_shapes.proofs.Lists.{both}
use Rattle.wasm_shapes.proofs.Unique.{unique}
use Rattle.wasm_shapes.proofs.Parts.{among}

-- ---- kinds have numbers of their own

-- the kinds in the order of their numbers
abbrev all_kinds : List SectionId
all_kinds =
    id.Custom ∷ id.Type_ ∷ id.Import ∷ id.Function ∷ id.Table ∷ id.Memory ∷ id.Global ∷ id.Export ∷ id.Start ∷ id.Element ∷ id.Code ∷ id.Data ∷
    id.DataCount ∷ id.Tag ∷ []

abbrev kind_of : ℕ → SectionId
kind_of n = get_or all_kinds n id.Tag

kind_back : (k : SectionId) → kind_of (number k) ≡ k
kind_back id.Custom = refl
kind_back id.Type_ = refl
kind_back id.Import = refl
kind_back id.Function = refl
kind_back id.Table = refl
kind_back id.Memory = refl
kind_back id.Global = refl
kind_back id.Export = refl
kind_back id.Start = refl
kind_back id.Element = refl
kind_back id.Code = refl
kind_back id.Data = refl
kind_back id.DataCount = refl
kind_back id.Tag = refl

pub same_kind : (j k : SectionId) → number j ≡ number k → j ≡ k
same_kind j k e = sym (kind_back j) ∙ ap kind_of e ∙ kind_back k

at_most : (k : SectionId) → number k ≤ 13
at_most id.Custom = lit≤ tt
at_most id.Type_ = lit≤ tt
at_most id.Import = lit≤ tt
at_most id.Function = lit≤ tt
at_most id.Table = lit≤ tt
at_most id.Memory = lit≤ tt
at_most id.Global = lit≤ tt
at_most id.Export = lit≤ tt
at_most id.Start = lit≤ tt
at_most id.Element = lit≤ tt
at_most id.Code = lit≤ tt
at_most id.Data = lit≤ tt
at_most id.DataCount = lit≤ tt
at_most id.Tag = lit≤ tt

-- ---- the tree of a kind is a row of the table

in_row : {j k : SectionId} {a b : Shape} {t : Tree} → j ≡ k → Is a t → Is (Shape.or (framed j a) b) (Tree.row zero (framed_tree k t))
in_row {j = j} {a = a} {b = b} {t = t} e d =
    let P : SectionId → Type 0 = λ x. Is (Shape.or (framed j a) b) (Tree.row zero (framed_tree x t)) in
    subst P e (Is.first (Is.told (Is.seq Is.fixed (Is.sized d))))

in_table : (xs : List Kind) (k : SectionId) (t : Tree) → Is (body_in xs k) t → Is (choice (shapes_of xs)) (Tree.row (place_in xs k) (framed_tree k t))
in_table [] k t d = elim d [ ]
in_table (x ∷ xs) k t d = go (nat_eq (number x.name) (number k)) (Decides-eqb (number x.name) (number k)).0 d (in_table xs k t)
  where
    go : (b : Bool) → (b ≡ true → number x.name ≡ number k) → Is (if b then x.body else body_in xs k) t →
        (Is (body_in xs k) t → Is (choice (shapes_of xs)) (Tree.row (place_in xs k) (framed_tree k t))) →
        Is (choice (shapes_of (x ∷ xs))) (Tree.row (if b then 0 else suc (place_in xs k)) (framed_tree k t))
    go true same d others = in_row (same_kind x.name k (same refl)) d
    go false same d others = Is.later (others d)

-- ---- what stands in a table

-- a kind stands in a table at a place
abbrev pub At : List Kind → ℕ → Kind → Type 0
At [] i y = ⊥
At (x ∷ xs) zero y = y ≡ x
At (x ∷ xs) (suc i) y = At xs i y

ascends : (low high : ℕ) (x : Kind) (xs : List Kind) → ascending low high (x ∷ xs) ≡ true →
    (low ≤ number x.name) × (number x.name ≤ high) × (ascending (suc (number x.name)) high xs ≡ true)
ascends low high x xs e = let tests = both _ _ e in let more = both _ _ tests.1 in (leb-true _ _ tests.0, leb-true _ _ more.0, more.1)

-- its id lies between the table's bounds
between : (low high : ℕ) (xs : List Kind) (i : ℕ) (y : Kind) → ascending low high xs ≡ true → At xs i y → (low ≤ number y.name) × (number y.name ≤ high)
between low high [] i y e at = absurd at
between low high (x ∷ xs) zero y e at = let a = ascends low high x xs e in rw at (a.0, a.1)
between low high (x ∷ xs) (suc i) y e at =
    let a = ascends low high x xs e in
    let there = between (suc (number x.name)) high xs i y a.2 at in
    (omega (arith, a.0, there.0), there.1)

-- a kind is looked up where it stands
found : (low high : ℕ) (xs : List Kind) (i : ℕ) (y : Kind) → ascending low high xs ≡ true → At xs i y → (body_in xs y.name ≡ y.body) × (place_in xs y.name ≡ i)
found low high [] i y e at = absurd at
found low high (x ∷ xs) zero y e at = rw at (here (nat_eq (number x.name) (number x.name)) ((Decides-eqb (number x.name) (number x.name)).1 refl))
  where
    here : (b : Bool) → b ≡ true → ((if b then x.body else body_in xs x.name) ≡ x.body) × ((if b then 0 else suc (place_in xs x.name)) ≡ 0)
    here true e = (refl, refl)
    here false e = absurd (false≢true e)
found low high (x ∷ xs) (suc i) y e at =
    let a = ascends low high x xs e in
    let after : suc (number x.name) ≤ number y.name = (between (suc (number x.name)) high xs i y a.2 at).0 in
    there (nat_eq (number x.name) (number y.name)) (λ same. other after ((Decides-eqb (number x.name) (number y.name)).0 same))
    (found (suc (number x.name)) high xs i y a.2 at)
  where
    other : suc (number x.name) ≤ number y.name → number x.name ≡ number y.name → ⊥
    other after same = omega arith

    there : (b : Bool) → (b ≡ true → ⊥) → (body_in xs y.name ≡ y.body) × (place_in xs y.name ≡ i) →
        ((if b then x.body else body_in xs y.name) ≡ y.body) × ((if b then 0 else suc (place_in xs y.name)) ≡ suc i)
    there true other f = absurd (other refl)
    there false other f = (f.0, ap suc f.1)

-- ---- a section that begins is the tree of its kind

record Stands (xs : List Kind) (t : Tree) : Type 0 where
  place : ℕ
  kind : Kind
  at : At xs place kind
  body : Tree
  is : t ≡ Tree.row place (framed_tree kind.name body)
  shaped : Is kind.body body

stands : (xs : List Kind) (t : Tree) → Is (choice (shapes_of xs)) t → Stands xs t
stands [] t d = elim d [ ]
stands (x ∷ xs) t (Is.first (Is.told (Is.seq Is.fixed (Is.sized {t = u} d)))) = record { place = zero; kind = x; at = refl; body = u; is = refl; shaped = d }
stands (x ∷ xs) t (Is.later {k = i} {t = v} d) =
    let s = stands xs (Tree.row i v) d in
    record { place = suc s.place; kind = s.kind; at = s.at; body = s.body; is = later s.is; shaped = s.shaped }
  where
    later : {i j : ℕ} {v w : Tree} → ◌≡◌ {A = Tree} (Tree.row i v) (Tree.row j w) → ◌≡◌ {A = Tree} (Tree.row (suc i) v) (Tree.row (suc j) w)
    later e = cc

-- ---- the other sections

-- the rows of known kinds, and those of the two other sections
abbrev two_others : List Shape
two_others = custom_section ∷ unknown_section ∷ []

data Either (t : Tree) : Type 0 where
  known : Stands in_force t → Either t
  custom_one : (u : Tree) → t ≡ custom_tree_of u → Is custom u → Either t
  unknown_one : (id : ℕ) (contents : List ℕ) → t ≡ unknown_tree_of id contents → 14 ≤ id → id ≤ 127 → Either t

other_rows : (i : ℕ) (t : Tree) → Is (choice two_others) (Tree.row i t) →
    ((i ≡ 0) × (u : Tree) × (t ≡ Tree.pair (Tree.fixed 0) (Tree.sized u)) × Is custom u)
    ⊎ ((i ≡ 1) × (id : ℕ) × (contents : List ℕ) × (t ≡ Tree.pair (Tree.byte id) (Tree.sized (Tree.raw contents))) × (14 ≤ id) × (id ≤ 127))
other_rows i t (Is.first (Is.seq Is.fixed (Is.sized {t = u} d))) = inl (refl, u, refl, d)
other_rows i t (Is.later (Is.first (Is.seq (Is.within {b = id} low high) (Is.sized (Is.rest {bs = bs}))))) = inr (refl, id, bs, refl, low, high)
other_rows i t (Is.later (Is.later d)) = elim d [ ]

-- a number behind those of a table
abbrev past : List Kind → ℕ → ℕ
past [] j = j
past (x ∷ xs) j = suc (past xs j)

-- a row among them is one of the first, or one of the others behind these
behind : (xs : List Kind) (i : ℕ) (t : Tree) → Is (choice (rows_and (shapes_of xs) two_others)) (Tree.row i t) →
    Stands xs (Tree.row i t) ⊎ ((j : ℕ) × (i ≡ past xs j) × Is (choice two_others) (Tree.row j t))
behind [] i t d = inr (i, refl, d)
behind (x ∷ xs) i t (Is.first d) = inl (stands (x ∷ xs) (Tree.row 0 t) (Is.first d))
behind (x ∷ xs) i t (Is.later {k = j} d) = go (behind xs j t d)
  where
    later : {i j : ℕ} {v w : Tree} → ◌≡◌ {A = Tree} (Tree.row i v) (Tree.row j w) → ◌≡◌ {A = Tree} (Tree.row (suc i) v) (Tree.row (suc j) w)
    later e = cc

    go : Stands xs (Tree.row j t) ⊎ ((m : ℕ) × (j ≡ past xs m) × Is (choice two_others) (Tree.row m t)) →
        Stands (x ∷ xs) (Tree.row (suc j) t) ⊎ ((m : ℕ) × (suc j ≡ suc (past xs m)) × Is (choice two_others) (Tree.row m t))
    go (inl s) = inl (record { place = suc s.place; kind = s.kind; at = s.at; body = s.body; is = later s.is; shaped = s.shaped })
    go (inr s) = inr (s.0, ap suc s.1, s.2)

either : (t : Tree) → Is section t → Either t
either t d = by_row t d
  where
    by_other : (i j : ℕ) (t : Tree) → i ≡ past in_force j →
        ((j ≡ 0) × (u : Tree) × (t ≡ Tree.pair (Tree.fixed 0) (Tree.sized u)) × Is custom u)
        ⊎ ((j ≡ 1) × (id : ℕ) × (contents : List ℕ) × (t ≡ Tree.pair (Tree.byte id) (Tree.sized (Tree.raw contents))) × (14 ≤ id) × (id ≤ 127)) → Either (Tree.row i t)
    by_other i j t e (inl o) = custom_one o.1 (let n : i ≡ 13 = e ∙ ap (past in_force) o.0 in ap₂ Tree.row n o.2) o.3
    by_other i j t e (inr o) = unknown_one o.1 o.2 (let n : i ≡ 14 = e ∙ ap (past in_force) o.0 in ap₂ Tree.row n o.3) o.4 o.5

    by_place : (i : ℕ) (t : Tree) → Stands in_force (Tree.row i t) ⊎ ((j : ℕ) × (i ≡ past in_force j) × Is (choice two_others) (Tree.row j t)) → Either (Tree.row i t)
    by_place i t (inl s) = known s
    by_place i t (inr s) = by_other i s.0 t s.1 (other_rows s.0 t s.2)

    by_row : (t : Tree) → Is section t → Either t
    by_row t (Is.first {t = u} d) = by_place 0 u (behind in_force 0 u (Is.first d))
    by_row t (Is.later {k = i} {t = u} d) = by_place (suc i) u (behind in_force (suc i) u (Is.later d))

-- ---- sections and their frames

-- the rows behind those of a table
last_rows : (xs : List Kind) {j : ℕ} {t : Tree} → Is (choice two_others) (Tree.row j t) → Is (choice (rows_and (shapes_of xs) two_others)) (Tree.row (past xs j) t)
last_rows [] d = d
last_rows (x ∷ xs) d = Is.later (last_rows xs d)

-- what a custom section's body is
contents_of : (u : Tree) (x : List ℕ) → Is custom u → Spelled u x →
    (name contents : List ℕ) × (v : Tree) × (u ≡ Tree.pair (Tree.name name) v) × ReadsContents name contents v × Spelled (Tree.pair (Tree.name name) (Tree.raw contents)) x
contents_of u x (Is.named {t = v} d) p =
    (names_name, p.1, v, refl, inl (refl, record { shaped = d; spelled = p.4 }), (p.0, p.1, p.2, p.3, refl))
contents_of u x (Is.other {bs = name} other (Is.rest {bs = r})) p = (name, r, Tree.raw r, refl, inr (other, refl), p)

-- a section stands in a frame
pub in_frame : (t : Tree) (x : List ℕ) → Is section t → Spelled t x → (f : Tree) × InFrame t f × Spells frame x f
in_frame t x d p = go (either t d) p
  where
    go : Either t → Spelled t x → (f : Tree) × InFrame t f × Spells frame x f
    go (known s) p =
        let f = found 1 127 in_force s.place s.kind refl s.at in
        let id = between 1 127 in_force s.place s.kind refl s.at in
        let P : Shape → Type 0 = λ a. Is a s.body in
        let Q : Tree → Type 0 = λ v. Spelled v x in
        let q = subst Q s.is p in
        let T : Tree → Type 0 = λ v. InFrame v (numbered_frame (number s.kind.name) q.4.1) in
        let is : t ≡ tree_of s.kind.name s.body = s.is ∙ ap (λ (i : ℕ). Tree.row i (framed_tree s.kind.name s.body)) (sym f.1) in (
          numbered_frame (number s.kind.name) q.4.1,
          subst T (sym is) (InFrame.of_kind s.kind.name s.body q.4.1 id.0 (record { shaped = subst P (sym f.0) s.shaped; spelled = q.4.4 })),
          record {
            shaped = Is.later {k = 0} (Is.first (Is.seq (Is.within id.0 id.1) (Is.sized Is.rest)));
            spelled = (q.0, q.1, q.2, (q.3, omega (arith, id.0, id.1)), (q.4.0, q.4.1, q.4.2, q.4.3, refl));
          },
        )
    go (custom_one u e d) p =
        let Q : Tree → Type 0 = λ v. Spelled v x in
        let q = subst Q e p in
        let c = contents_of u q.4.1 d q.4.4 in
        let T : Tree → Type 0 = λ v. InFrame v (custom_frame c.0 c.1) in (
          custom_frame c.0 c.1,
          subst T (sym (e ∙ ap custom_tree_of c.3)) (InFrame.of_custom c.0 c.1 c.2 c.4),
          record {
            shaped = Is.first (Is.seq Is.fixed (Is.sized (Is.seq Is.name Is.rest)));
            spelled = (q.0, q.1, q.2, q.3, (q.4.0, q.4.1, q.4.2, q.4.3, c.5));
          },
        )
    go (unknown_one id contents e low high) p =
        let Q : Tree → Type 0 = λ v. Spelled v x in
        let T : Tree → Type 0 = λ v. InFrame v (numbered_frame id contents) in (
          numbered_frame id contents,
          subst T (sym e) (InFrame.of_unknown id contents low high),
          record { shaped = Is.later {k = 0} (Is.first (Is.seq (Is.within (omega (arith, low)) high) (Is.sized Is.rest))); spelled = subst Q e p },
        )

pub row_shaped : (xs : List Kind) (k : SectionId) {t : Tree} → Is (body_in xs k) t → Is (choice (rows_and (shapes_of xs) two_others)) (Tree.row (place_in xs k) (framed_tree k t))
row_shaped xs k {t = t} d = among (shapes_of xs) two_others (in_table xs k t d)

pub custom_is : {name contents : List ℕ} {u : Tree} → ReadsContents name contents u → Is custom (Tree.pair (Tree.name name) u)
custom_is {u = u} (inl r) = let N : List ℕ → Type 0 = λ z. Is custom (Tree.pair (Tree.name z) u) in subst N (sym r.0) (Is.named r.1.shaped)
custom_is {name = name} (inr r) = let P : Tree → Type 0 = λ z. Is custom (Tree.pair (Tree.name name) z) in subst P (sym r.1) (Is.other r.0 Is.rest)

custom_spelled : {name contents x : List ℕ} {u : Tree} → ReadsContents name contents u → Spelled (Tree.pair (Tree.name name) (Tree.raw contents)) x →
    Spelled (Tree.pair (Tree.name name) u) x
custom_spelled {u = u} (inl r) p = let P : List ℕ → Type 0 = λ z. Spelled u z in (p.0, p.1, p.2, p.3, subst P (sym p.4) r.1.spelled)
custom_spelled {name = name} {x = x} (inr r) p = let P : Tree → Type 0 = λ z. Spelled (Tree.pair (Tree.name name) z) x in subst P (sym r.1) p

pub custom_row : {t : Tree} → Is custom t → Is section (custom_tree_of t)
custom_row d = last_rows in_force (Is.first (Is.seq Is.fixed (Is.sized d)))

-- and where its frame stands, so does the section
pub of_frame : {t f : Tree} {x : List ℕ} → InFrame t f → Spells frame x f → Spells section x t
of_frame {x = x} (InFrame.of_kind k u body low r) p =
    let q = p.spelled in
    let P : List ℕ → Type 0 = λ z. Spelled u z in record {
      shaped = row_shaped in_force k r.shaped;
      spelled = (q.0, q.1, q.2, q.3.0, (q.4.0, q.4.1, q.4.2, q.4.3, subst P (sym q.4.4) r.spelled));
    }
of_frame (InFrame.of_custom name contents u r) p =
    let q = p.spelled in record {
      shaped = custom_row (custom_is r);
      spelled = (q.0, q.1, q.2, q.3, (q.4.0, q.4.1, q.4.2, q.4.3, custom_spelled r q.4.4));
    }
of_frame (InFrame.of_unknown id contents low high) p = record {
  shaped = last_rows in_force (Is.later (Is.first (Is.seq (Is.within low high) (Is.sized Is.rest))));
  spelled = p.spelled;
}

-- ---- what begins where a frame does

pub section_there : {t f : Tree} {bytes left : List ℕ} → InFrame t f → Begins frame bytes f left → Begins section bytes t left
section_there i p = record { text = p.text; spells = of_frame i p.spells; reads = p.reads }

pub frame_there : {t f : Tree} {bytes left left' : List ℕ} → Begins frame bytes f left → Begins section bytes t left' → InFrame t f
frame_there {t = t} {left = left} {left' = left'} there here =
    let g = in_frame t here.text here.spells.shaped here.spells.spelled in
    let same = unique there.spells.shaped g.2.shaped there.text here.text left left' refl (inl refl) there.spells.spelled g.2.spelled (sym there.reads ∙ here.reads) in
    let P : Tree → Type 0 = λ z. InFrame t z in
    subst P (sym same.1) g.1

-- no section begins where its frame has no reading
pub none_in_frame : {f : Tree} {bytes left : List ℕ} → Begins frame bytes f left → ((t : Tree) → InFrame t f → ⊥) → BeginsNone section bytes
none_in_frame there none = record { none = λ text left t p e. none t (frame_there there (record { text = text; spells = p; reads = e })) }

-- and none where no frame begins
pub none_section : {bytes : List ℕ} → BeginsNone frame bytes → BeginsNone section bytes
none_section none = record { none = λ text left t p e. let f = in_frame t text p.shaped p.spelled in none.none text left f.0 f.2 e }

-- ---- what stands in a frame

same_number : {n m : ℕ} {a b : List ℕ} → numbered_frame n a ≡ numbered_frame m b → (n ≡ m) × (a ≡ b)
same_number e = (cc, cc)

same_name : {n m a b : List ℕ} → custom_frame n a ≡ custom_frame m b → (n ≡ m) × (a ≡ b)
same_name e = (cc, cc)

pub kind_in_frame : (k : SectionId) (body : List ℕ) (t : Tree) → InFrame t (numbered_frame (number k) body) → (u : Tree) × (t ≡ tree_of k u) × Spells (body_of k) body u
kind_in_frame k body t i = go t _ i refl
  where
    go : (t f : Tree) → InFrame t f → f ≡ numbered_frame (number k) body → (u : Tree) × (t ≡ tree_of k u) × Spells (body_of k) body u
    go t f (InFrame.of_kind j u b low r) e =
        let s = same_number e in
        let P : SectionId → Type 0 = λ z. Spells (body_of z) b u in
        let Q : List ℕ → Type 0 = λ z. Spells (body_of k) z u in
        let same : j ≡ k = same_kind j k s.0 in
        (u, ap (λ (z : SectionId). tree_of z u) same, subst Q s.1 (subst P same r))
    go t f (InFrame.of_custom name contents u r) e = absurd (let apart : custom_frame name contents ≡ numbered_frame (number k) body = e in cc)
    go t f (InFrame.of_unknown id contents low high) e = absurd (let s = (same_number e).0 in let l = at_most k in omega (arith, s, l, low))

pub custom_in_frame : (name contents : List ℕ) (t : Tree) → InFrame t (custom_frame name contents) → ReadsCustom name contents t
custom_in_frame name contents t i = go t _ i refl
  where
    go : (t f : Tree) → InFrame t f → f ≡ custom_frame name contents → ReadsCustom name contents t
    go t f (InFrame.of_kind j u b low r) e = absurd (let apart : numbered_frame (number j) b ≡ custom_frame name contents = e in cc)
    go t f (InFrame.of_custom n c u r) e =
        let s = same_name e in
        let P : List ℕ → Type 0 = λ z. ReadsContents z c u in
        let Q : List ℕ → Type 0 = λ z. ReadsContents name z u in
        (u, ap (λ (z : List ℕ). custom_tree_of (Tree.pair (Tree.name z) u)) s.0, subst Q s.1 (subst P s.0 r))
    go t f (InFrame.of_unknown id c low high) e = absurd (let apart : numbered_frame id c ≡ custom_frame name contents = e in cc)

pub unknown_in_frame : (id : ℕ) (contents : List ℕ) (t : Tree) → 14 ≤ id → InFrame t (numbered_frame id contents) → t ≡ unknown_tree_of id contents
unknown_in_frame id contents t high i = go t _ i refl
  where
    go : (t f : Tree) → InFrame t f → f ≡ numbered_frame id contents → t ≡ unknown_tree_of id contents
    go t f (InFrame.of_kind j u b low r) e = absurd (let s = (same_number e).0 in let l = at_most j in omega (arith, s, l, high))
    go t f (InFrame.of_custom n c u r) e = absurd (let apart : custom_frame n c ≡ numbered_frame id contents = e in cc)
    go t f (InFrame.of_unknown j c low high) e = let s = same_number e in ap₂ unknown_tree_of s.0 s.1

-- ---- a kind that is not in the table

abbrev pub NotIn : List Kind → SectionId → Type 0
NotIn [] k = Unit {0}
NotIn (x ∷ xs) k = (k ≢ x.name) × NotIn xs k

none_in : (xs : List Kind) (k : SectionId) → NotIn xs k → body_in xs k ≡ Shape.none
none_in [] k others = refl
none_in (x ∷ xs) k others = go (nat_eq (number x.name) (number k)) (Decides-eqb (number x.name) (number k)).0 (none_in xs k others.1)
  where
    go : (b : Bool) → (b ≡ true → number x.name ≡ number k) → body_in xs k ≡ Shape.none → (if b then x.body else body_in xs k) ≡ Shape.none
    go true same e = absurd (others.0 (sym (same_kind x.name k (same refl))))
    go false same e = e

pub not_in_force : (k : SectionId) → NotIn in_force k → body_of k ≡ Shape.none
not_in_force k others = none_in in_force k others
