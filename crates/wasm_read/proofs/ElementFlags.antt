-- Element segments at the front of some bytes, by the flags that they begin with.
use Rattle.std.proofs.Common.{◌≡◌, ℕ, zero, suc, ◌<◌, ◌≤◌, length, List, [], ◌∷◌, ◌++◌, map, refl, sym, ap, ◌∙◌, subst, append_assoc, arith}
use Rattle.std.proofs.lemmas.List.{append_cancel_left}
use Rattle.wasm_leb.specs.Leb.{IsUnsigned}
use Rattle.wasm_leb.specs.Place.{BeginsNumber, BeginsNoNumber}
use Rattle.wasm_leb.proofs.Unique.{unsigned_unique}
use Rattle.wasm_shapes.specs.declared.Space.{Space}
use Rattle.wasm_shapes.specs.declared.Space.TheVariants as space
use Rattle.wasm_shapes.specs.Tree.{Tree, count, Listed, left_flag, aimed_flag, kind_bytes, typed, funcref}
use Rattle.wasm_shapes.specs.Shape.{Shape, Named, choice, lead, listing, reference}
use Rattle.wasm_shapes.specs.Spells.{Is, Spelled}
use Rattle.wasm_shapes.specs.Place.{Begins, BeginsNone}
use Rattle.wasm_shapes.specs.Module.{element_row, element_functions, element_expressions}
use Rattle.wasm_shapes.specs.Types.{led, rows_tree, vector_tree, function_index_tree}
use Rattle.wasm_shapes.proofs.Begins.{begins_row, begins_seq, begins_flag, row_at, none_or, none_row}

-- ---- functions: numbers and indices of a space are spelled alike

indices_are : (s : Space) (is : List ℕ) → Is (Shape.many (Shape.ix s)) (rows_tree (map (Tree.ix s) is))
indices_are s [] = Is.nil
indices_are s (i ∷ is) = Is.cons Is.ix (indices_are s is)

as_many : (s : Space) (is : List ℕ) → count (rows_tree (map Tree.u32 is)) ≡ count (rows_tree (map (Tree.ix s) is))
as_many s [] = refl
as_many s (i ∷ is) = ap suc (as_many s is)

as_indices : (s : Space) (is : List ℕ) (x : List ℕ) → Spelled (rows_tree (map Tree.u32 is)) x → Spelled (rows_tree (map (Tree.ix s) is)) x
as_indices s [] x p = p
as_indices s (i ∷ is) x p = (p.0, p.1, p.2, p.3, as_indices s is p.1 p.4)

as_numbers : {s : Space} {t : Tree} {x : List ℕ} → Is (Shape.many (Shape.ix s)) t → Spelled t x →
    (u : Tree) × Is (Shape.many Shape.u32) u × (count u ≡ count t) × Spelled u x
as_numbers Is.nil p = (Tree.nil, Is.nil, refl, p)
as_numbers (Is.cons (Is.ix {i = i}) d) p =
    let r = as_numbers d p.4 in
    (Tree.cons (Tree.u32 i) r.0, Is.cons Is.u32 r.1, ap suc r.2, (p.0, p.1, p.2, p.3, r.3))

pub functions_begin : (is : List ℕ) {bytes left : List ℕ} → Begins (Shape.vec Shape.u32) bytes (vector_tree (map Tree.u32 is)) left →
    Begins element_functions bytes (vector_tree (map function_index_tree is)) left
functions_begin is p =
    let s = p.spells.spelled in
    let N : ℕ → Type 0 = λ n. IsUnsigned 32 s.0 n in record {
      text = p.text;
      spells = record {
        shaped = Is.vec (indices_are space.Function is);
        spelled = (s.0, s.1, s.2, subst N (as_many space.Function is) s.3, as_indices space.Function is s.1 s.4);
      };
      reads = p.reads;
    }

pub no_functions : {bytes : List ℕ} → BeginsNone (Shape.vec Shape.u32) bytes → BeginsNone element_functions bytes
no_functions {bytes = bytes} none = record { none = λ text left tree p e. go text left tree p.shaped p.spelled e }
  where
    go : (text left : List ℕ) (tree : Tree) → Is element_functions tree → Spelled tree text → bytes ≡ text ++ left → ⊥
    go text left tree (Is.vec d) p e =
        let N : ℕ → Type 0 = λ n. IsUnsigned 32 p.0 n in
        let r = as_numbers d p.4 in
        none.none text left (Tree.vec r.0) (record { shaped = Is.vec r.1; spelled = (p.0, p.1, p.2, subst N (sym r.2) p.3, r.3) }) e

-- ---- what they begin with

second_is : {a b : Shape} {t u : Tree} → Is (Shape.seq a b) (Tree.pair t u) → Is b u
second_is (Is.seq d d') = d'

flagged : {n k : ℕ} {text : List ℕ} → n ≡ k → IsUnsigned 32 text n → IsUnsigned 32 text k
flagged {text = text} e p = subst (λ (z : ℕ). IsUnsigned 32 text z) e p

-- the table is left out
left_begins : (w : Listed) {a r b : Shape} {o t : Tree} {n : ℕ} {bytes behind middle left : List ℕ} → BeginsNumber 128 32 32 bytes n behind → n ≡ left_flag w →
    Begins a behind o middle → Begins b middle t left → Is (listing w r b) (typed w t) → Begins (Shape.active w a r b) bytes (Tree.left w o t) left
left_begins w {left = left} f e p q d = record {
  text = f.0 ++ (p.text ++ q.text);
  spells = record { shaped = Is.left p.spells.shaped q.spells.shaped d; spelled = (f.0, p.text, q.text, refl, flagged e f.1, p.spells.spelled, q.spells.spelled) };
  reads = f.2 ∙ ap (λ (z : List ℕ). f.0 ++ z) (p.reads ∙ ap (λ (z : List ℕ). p.text ++ z) q.reads) ∙ sym (simp append_assoc);
}

-- the table is written
abbrev aim : Shape → Shape
aim a = Shape.seq (Shape.ix space.Table) a

aimed_begins : (w : Listed) {a r b : Shape} {i n : ℕ} {o t : Tree} {bytes behind middle left : List ℕ} (z : List ℕ) → BeginsNumber 128 32 32 bytes n behind → n ≡ aimed_flag w →
    Begins (aim a) behind (Tree.pair (Tree.ix space.Table i) o) middle → middle ≡ (kind_bytes w ++ z) ++ left → Is (listing w r b) t → Spelled t z →
    Begins (Shape.active w a r b) bytes (Tree.aimed w i o t) left
aimed_begins w {middle = middle} {left = left} z f e p q d s =
    let m = p.spells.spelled in record {
      text = f.0 ++ (m.0 ++ (m.1 ++ (kind_bytes w ++ z)));
      spells = record { shaped = Is.aimed (second_is p.spells.shaped) d; spelled = (f.0, m.0, m.1, z, refl, flagged e f.1, m.3, m.4, s) };
      reads =
          f.2 ∙ ap (λ (x : List ℕ). f.0 ++ x)
          (p.reads ∙ ap (λ (x : List ℕ). x ++ middle) m.2 ∙ append_assoc m.0 m.1 middle ∙ ap (λ (x : List ℕ). m.0 ++ (m.1 ++ x)) q) ∙ sym (simp append_assoc);
    }

abbrev pub offset : Shape
offset = Shape.ref Named.expression

pub left_functions : {n : ℕ} {o t : Tree} {bytes behind middle left : List ℕ} → BeginsNumber 128 32 32 bytes n behind → n ≡ 0 → Begins offset behind o middle →
    Begins element_functions middle t left → Begins element_row bytes (Tree.row 0 (Tree.left Listed.functions o t)) left
left_functions f e p q = begins_row {k = 0} (left_begins Listed.functions f e p q q.spells.shaped)

funcref_is : Is reference funcref
funcref_is = Is.later (Is.first (Is.spare (Is.first (Is.later (Is.later (Is.later (Is.first Is.fixed)))))))

pub left_expressions : {n : ℕ} {o t : Tree} {bytes behind middle left : List ℕ} → BeginsNumber 128 32 32 bytes n behind → n ≡ 4 → Begins offset behind o middle →
    Begins element_expressions middle t left → Begins element_row bytes (Tree.row 3 (Tree.left Listed.expressions o t)) left
left_expressions f e p q = begins_row {k = 3} (left_begins Listed.expressions f e p q (Is.swap funcref_is q.spells.shaped))

pub aimed_functions : {i n : ℕ} {o t : Tree} {bytes behind middle left : List ℕ} → BeginsNumber 128 32 32 bytes n behind → n ≡ 2 →
    Begins (aim offset) behind (Tree.pair (Tree.ix space.Table i) o) middle → Begins (lead 0x00 element_functions) middle (led 0x00 t) left →
    Begins element_row bytes (Tree.row 0 (Tree.aimed Listed.functions i o t)) left
aimed_functions {left = left} f e p q =
    let s = q.spells.spelled in
    let kind : q.text ≡ 0 ∷ s.1 = s.2 ∙ ap (λ (z : List ℕ). z ++ s.1) s.3 in
    begins_row {k = 0} (aimed_begins Listed.functions s.1 f e p (q.reads ∙ ap (λ (z : List ℕ). z ++ left) kind) (second_is q.spells.shaped) s.4)

pub aimed_expressions : {i n : ℕ} {o t : Tree} {bytes behind middle left : List ℕ} → BeginsNumber 128 32 32 bytes n behind → n ≡ 6 →
    Begins (aim offset) behind (Tree.pair (Tree.ix space.Table i) o) middle → Begins (Shape.swap reference element_expressions) middle t left →
    Begins element_row bytes (Tree.row 3 (Tree.aimed Listed.expressions i o t)) left
aimed_expressions f e p q = begins_row {k = 3} (aimed_begins Listed.expressions q.text f e p q.reads q.spells.shaped q.spells.spelled)

-- no table
flag_begins : (k : ℕ) {n : ℕ} {bytes behind : List ℕ} → BeginsNumber 128 32 32 bytes n behind → n ≡ k → Begins (Shape.flag k) bytes (Tree.flag k) behind
flag_begins k f e = begins_flag (f.0, flagged e f.1, f.2)

pub passive_functions : {n : ℕ} {t : Tree} {bytes behind left : List ℕ} → BeginsNumber 128 32 32 bytes n behind → n ≡ 1 → Begins (lead 0x00 element_functions) behind t left →
    Begins element_row bytes (Tree.row 1 (Tree.pair (Tree.flag 1) t)) left
passive_functions f e p = begins_row {k = 1} (begins_seq (flag_begins 1 f e) p)

pub declared_functions : {n : ℕ} {t : Tree} {bytes behind left : List ℕ} → BeginsNumber 128 32 32 bytes n behind → n ≡ 3 → Begins (lead 0x00 element_functions) behind t left →
    Begins element_row bytes (Tree.row 2 (Tree.pair (Tree.flag 3) t)) left
declared_functions f e p = begins_row {k = 2} (begins_seq (flag_begins 3 f e) p)

pub passive_expressions : {n : ℕ} {t : Tree} {bytes behind left : List ℕ} → BeginsNumber 128 32 32 bytes n behind → n ≡ 5 →
    Begins (Shape.swap reference element_expressions) behind t left → Begins element_row bytes (Tree.row 4 (Tree.pair (Tree.flag 5) t)) left
passive_expressions f e p = begins_row {k = 4} (begins_seq (flag_begins 5 f e) p)

pub declared_expressions : {n : ℕ} {t : Tree} {bytes behind left : List ℕ} → BeginsNumber 128 32 32 bytes n behind → n ≡ 7 →
    Begins (Shape.swap reference element_expressions) behind t left → Begins element_row bytes (Tree.row 5 (Tree.pair (Tree.flag 7) t)) left
declared_expressions f e p = begins_row {k = 5} (begins_seq (flag_begins 7 f e) p)

-- ---- what they do not

-- what stands behind each flag
abbrev shapes : List Shape
shapes =
    Shape.seq offset element_functions ∷ lead 0x00 element_functions ∷ Shape.seq (aim offset) (lead 0x00 element_functions) ∷ lead 0x00 element_functions ∷
    Shape.seq offset element_expressions ∷ Shape.swap reference element_expressions ∷
    Shape.seq (aim offset) (Shape.swap reference element_expressions) ∷ Shape.swap reference element_expressions ∷ []

abbrev pub behind_flags : Shape
behind_flags = choice shapes

-- the bytes are no flag and the shape behind it
abbrev NoneBehind : ℕ → Shape → List ℕ → Type 0
NoneBehind k a bytes = (f behind : List ℕ) → IsUnsigned 32 f k → bytes ≡ f ++ behind → BeginsNone a behind

parts : {bytes text : List ℕ} (f others left : List ℕ) → bytes ≡ text ++ left → text ≡ f ++ others → bytes ≡ f ++ (others ++ left)
parts f others left e t = e ∙ ap (λ (z : List ℕ). z ++ left) t ∙ append_assoc f others left

none_flagged : {k : ℕ} {a : Shape} {bytes : List ℕ} → NoneBehind k a bytes → BeginsNone (Shape.seq (Shape.flag k) a) bytes
none_flagged {k = k} {a = a} {bytes = bytes} none = record { none = λ text left tree p e. go text left tree p.shaped p.spelled e }
  where
    go : (text left : List ℕ) (tree : Tree) → Is (Shape.seq (Shape.flag k) a) tree → Spelled tree text → bytes ≡ text ++ left → ⊥
    go text left tree (Is.seq {u = u} Is.flag d) p e =
        (none p.0 (p.1 ++ left) p.3 (parts p.0 p.1 left e p.2)).none p.1 left u (record { shaped = d; spelled = p.4 }) refl

none_placed_functions : {a r b : Shape} {bytes : List ℕ} → NoneBehind 0 (Shape.seq a b) bytes → NoneBehind 2 (Shape.seq (aim a) (lead 0x00 b)) bytes →
    BeginsNone (Shape.active Listed.functions a r b) bytes
none_placed_functions {a = a} {r = r} {b = b} {bytes = bytes} left_out written = record { none = λ text left tree p e. go text left tree p.shaped p.spelled e }
  where
    go : (text left : List ℕ) (tree : Tree) → Is (Shape.active Listed.functions a r b) tree → Spelled tree text → bytes ≡ text ++ left → ⊥
    go text left tree (Is.left {o = o} {t = t} d d' d'') p e =
        (left_out p.0 ((p.1 ++ p.2) ++ left) p.4 (parts p.0 (p.1 ++ p.2) left e p.3)).none (p.1 ++ p.2) left (Tree.pair o t)
        (record { shaped = Is.seq d d'; spelled = (p.1, p.2, refl, p.5, p.6) }) refl
    go text left tree (Is.aimed {i = i} {o = o} {t = t} d d') p e =
        let others = p.1 ++ (p.2 ++ (0 ∷ p.3)) in
        (written p.0 (others ++ left) p.5 (parts p.0 others left e p.4)).none others left (Tree.pair (Tree.pair (Tree.ix space.Table i) o) (led 0x00 t))
        (record {
          shaped = Is.seq (Is.seq Is.ix d) (Is.seq Is.fixed d');
          spelled = (p.1 ++ p.2, 0 ∷ p.3, sym (append_assoc p.1 p.2 (0 ∷ p.3)), (p.1, p.2, refl, p.6, p.7), (0 ∷ [], p.3, refl, refl, p.8));
        })
        refl

none_placed_expressions : {a r b : Shape} {bytes : List ℕ} → NoneBehind 4 (Shape.seq a b) bytes → NoneBehind 6 (Shape.seq (aim a) (Shape.swap r b)) bytes →
    BeginsNone (Shape.active Listed.expressions a r b) bytes
none_placed_expressions {a = a} {r = r} {b = b} {bytes = bytes} left_out written = record { none = λ text left tree p e. go text left tree p.shaped p.spelled e }
  where
    go : (text left : List ℕ) (tree : Tree) → Is (Shape.active Listed.expressions a r b) tree → Spelled tree text → bytes ≡ text ++ left → ⊥
    go text left tree (Is.left {o = o} {t = t} d d' d'') p e =
        (left_out p.0 ((p.1 ++ p.2) ++ left) p.4 (parts p.0 (p.1 ++ p.2) left e p.3)).none (p.1 ++ p.2) left (Tree.pair o t)
        (record { shaped = Is.seq d d'; spelled = (p.1, p.2, refl, p.5, p.6) }) refl
    go text left tree (Is.aimed {i = i} {o = o} {t = t} d d') p e =
        let others = p.1 ++ (p.2 ++ p.3) in
        (written p.0 (others ++ left) p.5 (parts p.0 others left e p.4)).none others left (Tree.pair (Tree.pair (Tree.ix space.Table i) o) t)
        (record { shaped = Is.seq (Is.seq Is.ix d) d'; spelled = (p.1 ++ p.2, p.3, sym (append_assoc p.1 p.2 p.3), (p.1, p.2, refl, p.6, p.7), p.8) })
        refl

-- where nothing stands behind any flag
no_element : {bytes : List ℕ} → ((k : ℕ) → NoneBehind k (row_at behind_flags k) bytes) → BeginsNone element_row bytes
no_element none =
    none_or (none_placed_functions (none 0) (none 2))
    (none_or (none_flagged (none 1))
    (none_or (none_flagged (none 3))
    (none_or (none_placed_expressions (none 4) (none 6)) (none_or (none_flagged (none 5)) (none_or (none_flagged (none 7)) none_row)))))

pub no_flag : {bytes : List ℕ} → BeginsNoNumber 128 32 32 bytes → BeginsNone element_row bytes
no_flag none = no_element (λ k f behind p e. absurd (none f behind k p e))

-- where nothing stands behind the flag that was read
pub none_behind : {n k : ℕ} {bytes behind : List ℕ} → BeginsNumber 128 32 32 bytes n behind → n ≡ k → BeginsNone (row_at behind_flags k) behind → BeginsNone element_row bytes
none_behind {n = n} {k = k} {behind = behind} there known none = no_element (λ m f others p e.
    let both_ways : there.0 ++ behind ≡ f ++ others = sym there.2 ∙ e in
    let same : (there.0 ≡ f) × (n ≡ m) = unsigned_unique behind others there.1 p both_ways in
    let shifted : f ++ behind ≡ f ++ others = ap (λ (z : List ℕ). z ++ behind) (sym same.0) ∙ both_ways in
    let N : List ℕ → Type 0 = λ z. BeginsNone (row_at behind_flags m) z in
    let K : ℕ → Type 0 = λ z. BeginsNone (row_at behind_flags z) behind in
    subst N (append_cancel_left f behind others shifted) (subst K (sym known ∙ same.1) none))

past : (ss : List Shape) (n : ℕ) {bytes : List ℕ} → length ss ≤ n → BeginsNone (row_at (choice ss) n) bytes
past [] n h = none_row
past (s ∷ ss) zero h = absurd (omega arith)
past (s ∷ ss) (suc n) h = past ss n (omega arith)

pub unknown_flag : {n : ℕ} {bytes behind : List ℕ} → BeginsNumber 128 32 32 bytes n behind → 7 < n → BeginsNone element_row bytes
unknown_flag {n = n} there above = none_behind there refl (past shapes n above)
