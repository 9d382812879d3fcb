-- What bytes begin with: parts that are visited in the other order, rows among others, and bytes that may be left out.
use Rattle.std.proofs.Common.{◌≡◌, ◌≢◌, ℕ, zero, suc, List, [], ◌∷◌, ◌++◌, refl, sym, ap, ◌∙◌, append_assoc, inl, inr, ◌⊎◌, arith}
use Rattle.wasm_shapes.specs.Tree.{Tree, count}
use Rattle.wasm_shapes.specs.Shape.{Shape, Named, choice, rows_and, lead}
use Rattle.wasm_shapes.specs.NamedShapes.{shape_of}
use Rattle.wasm_shapes.specs.Spells.{Is, Spelled}
use Rattle.wasm_shapes.specs.Place.{Begins, BeginsNone}
use Rattle.wasm_shapes.proofs.Unique.{unique}
use Rattle.wasm_shapes.proofs.Begins.{begins_seq, none_seq_first, none_seq_second}

-- ---- parts in the other order

pub begins_swap : {a b : Shape} {t u : Tree} {bytes middle left : List ℕ} → Begins a bytes t middle → Begins b middle u left → Begins (Shape.swap a b) bytes (Tree.swap t u) left
begins_swap p q = record {
  text = p.text ++ q.text;
  spells = record { shaped = Is.swap p.spells.shaped q.spells.shaped; spelled = (p.text, q.text, refl, p.spells.spelled, q.spells.spelled) };
  reads = p.reads ∙ ap (λ (z : List ℕ). p.text ++ z) q.reads ∙ sym (append_assoc p.text q.text _);
}

-- the same parts side by side
pub none_swap : {a b : Shape} {bytes : List ℕ} → BeginsNone (Shape.seq a b) bytes → BeginsNone (Shape.swap a b) bytes
none_swap {a = a} {b = b} {bytes = bytes} none = record { none = λ text left tree p e. go text left tree p.shaped p.spelled e }
  where
    go : (text left : List ℕ) (tree : Tree) → Is (Shape.swap a b) tree → Spelled tree text → bytes ≡ text ++ left → ⊥
    go text left tree (Is.swap {t = t} {u = u} d d') p e =
        none.none text left (Tree.pair t u) (record { shaped = Is.seq d d'; spelled = p }) e

-- ---- one of two bytes that mean the same

pub begins_alike : {b c : ℕ} {bytes left : List ℕ} → bytes ≡ b ∷ left → Begins (Shape.alike b c) bytes (Tree.alike b c) left
begins_alike {b = b} e = record { text = b ∷ []; spells = record { shaped = Is.alike; spelled = inl refl }; reads = e }

pub begins_alike_other : {b c : ℕ} {bytes left : List ℕ} → bytes ≡ c ∷ left → Begins (Shape.alike b c) bytes (Tree.alike b c) left
begins_alike_other {c = c} e = record { text = c ∷ []; spells = record { shaped = Is.alike; spelled = inr refl }; reads = e }

-- ---- a name that says what stands behind it

pub begins_this_name : {n bytes middle left : List ℕ} {a b : Shape} {t : Tree} → Begins Shape.name bytes (Tree.name n) middle → Begins a middle t left →
    Begins (Shape.by_name n a b) bytes (Tree.pair (Tree.name n) t) left
begins_this_name {n = n} {a = a} p q = let r = begins_seq {a = Shape.name} {b = a} p q in record {
  text = r.text;
  spells = record { shaped = Is.named q.spells.shaped; spelled = r.spells.spelled };
  reads = r.reads;
}

pub begins_other_name : {n bs bytes middle left : List ℕ} {a b : Shape} {t : Tree} → bs ≢ n → Begins Shape.name bytes (Tree.name bs) middle → Begins b middle t left →
    Begins (Shape.by_name n a b) bytes (Tree.pair (Tree.name bs) t) left
begins_other_name {b = b} o p q = let r = begins_seq {a = Shape.name} {b = b} p q in record {
  text = r.text;
  spells = record { shaped = Is.other o q.spells.shaped; spelled = r.spells.spelled };
  reads = r.reads;
}

-- no name, or nothing behind the one that is there
pub none_without_name : {n bytes : List ℕ} {a b : Shape} → BeginsNone Shape.name bytes → BeginsNone (Shape.by_name n a b) bytes
none_without_name {n = n} {bytes = bytes} {a = a} {b = b} none = record { none = λ text left tree p e. go text left tree p.shaped p.spelled e }
  where
    go : (text left : List ℕ) (tree : Tree) → Is (Shape.by_name n a b) tree → Spelled tree text → bytes ≡ text ++ left → ⊥
    go text left tree (Is.named {t = t} d) p e = (none_seq_first {b = a} none).none text left tree (record { shaped = Is.seq Is.name d; spelled = p }) e
    go text left tree (Is.other {t = t} o d) p e = (none_seq_first {b = b} none).none text left tree (record { shaped = Is.seq Is.name d; spelled = p }) e

-- the name that is there
name_there : {bs cs bytes middle text : List ℕ} (left : List ℕ) (t : Tree) → Begins Shape.name bytes (Tree.name bs) middle → Spelled (Tree.pair (Tree.name cs) t) text → bytes ≡ text ++ left →
    bs ≡ cs
name_there {bs = bs} {cs = cs} {bytes = bytes} {middle = middle} left t there p e =
    let parts : bytes ≡ p.0 ++ (p.1 ++ left) = e ∙ ap (λ (z : List ℕ). z ++ left) p.2 ∙ append_assoc p.0 p.1 left in
    let same : _ × (Tree.name bs ≡ Tree.name cs) =
    unique there.spells.shaped Is.name there.text p.0 middle (p.1 ++ left) refl (inl refl) there.spells.spelled p.3 (sym there.reads ∙ parts) in
    let names : Tree.name bs ≡ Tree.name cs = same.1 in
    cc

pub none_behind_this : {n bytes middle : List ℕ} {a b : Shape} → Begins Shape.name bytes (Tree.name n) middle → BeginsNone a middle → BeginsNone (Shape.by_name n a b) bytes
none_behind_this {n = n} {bytes = bytes} {a = a} {b = b} there none = record { none = λ text left tree p e. go text left tree p.shaped p.spelled e }
  where
    go : (text left : List ℕ) (tree : Tree) → Is (Shape.by_name n a b) tree → Spelled tree text → bytes ≡ text ++ left → ⊥
    go text left tree (Is.named d) p e = (none_seq_second {b = a} refl refl there none).none text left tree (record { shaped = Is.seq Is.name d; spelled = p }) e
    go text left tree (Is.other {t = t} o d) p e = o (sym (name_there left t there p e))

pub none_behind_other : {n bs bytes middle : List ℕ} {a b : Shape} → bs ≢ n → Begins Shape.name bytes (Tree.name bs) middle → BeginsNone b middle → BeginsNone (Shape.by_name n a b) bytes
none_behind_other {n = n} {bytes = bytes} {a = a} {b = b} other there none = record { none = λ text left tree p e. go text left tree p.shaped p.spelled e }
  where
    go : (text left : List ℕ) (tree : Tree) → Is (Shape.by_name n a b) tree → Spelled tree text → bytes ≡ text ++ left → ⊥
    go text left tree (Is.named {t = t} d) p e = other (name_there left t there p e)
    go text left tree (Is.other o d) p e = (none_seq_second {b = b} refl refl there none).none text left tree (record { shaped = Is.seq Is.name d; spelled = p }) e

-- ---- rows among others

pub among : (rows others : List Shape) {t : Tree} → Is (choice rows) t → Is (choice (rows_and rows others)) t
among [] others d = elim d [ ]
among (s ∷ rows) others (Is.first d) = Is.first d
among (s ∷ rows) others (Is.later d) = Is.later (among rows others d)

pub begins_among : (rows others : List Shape) {t : Tree} {bytes left : List ℕ} → Begins (choice rows) bytes t left → Begins (choice (rows_and rows others)) bytes t left
begins_among rows others p = record {
  text = p.text;
  spells = record { shaped = among rows others p.spells.shaped; spelled = p.spells.spelled };
  reads = p.reads;
}

-- a row of both lists is one of the first or of the second, by other numbers
pub record RowOf (rows : List Shape) (t : Tree) : Type 0 where
  pub row : Tree
  pub shaped : Is (choice rows) row
  pub spelled : (x : List ℕ) → Spelled t x → Spelled row x

one_further : (s : Shape) (rows : List Shape) {k : ℕ} {t : Tree} (r : Tree) → Is (choice rows) r → ((x : List ℕ) → Spelled t x → Spelled r x) →
    RowOf (s ∷ rows) (Tree.row k t)
one_further s [] r d g = elim d [ ]
one_further s (s' ∷ rows) r (Is.first {t = u} d) g = record { row = Tree.row (suc zero) u; shaped = Is.later (Is.first d); spelled = g }
one_further s (s' ∷ rows) r (Is.later {k = j} {t = u} d) g = record { row = Tree.row (suc (suc j)) u; shaped = Is.later (Is.later d); spelled = g }

either_further : (s : Shape) (rows others : List Shape) {k j : ℕ} {t : Tree} → RowOf rows (Tree.row k t) ⊎ RowOf others (Tree.row k t) →
    RowOf (s ∷ rows) (Tree.row j t) ⊎ RowOf others (Tree.row j t)
either_further s rows others (inl r) = inl (one_further s rows r.row r.shaped r.spelled)
either_further s rows others (inr r) = inr (record { row = r.row; shaped = r.shaped; spelled = r.spelled })

apart_rows : (rows others : List Shape) {t : Tree} → Is (choice (rows_and rows others)) t → RowOf rows t ⊎ RowOf others t
apart_rows [] others {t = t} d = inr (record { row = t; shaped = d; spelled = λ x p. p })
apart_rows (s ∷ rows) others (Is.first {t = t} d) = inl (record { row = Tree.row zero t; shaped = Is.first d; spelled = λ x p. p })
apart_rows (s ∷ rows) others (Is.later d) = either_further s rows others (apart_rows rows others d)

pub none_among : (rows others : List Shape) {bytes : List ℕ} → BeginsNone (choice rows) bytes → BeginsNone (choice others) bytes → BeginsNone (choice (rows_and rows others)) bytes
none_among rows others {bytes = bytes} none behind = record { none = λ text left tree p e. go text left tree (apart_rows rows others p.shaped) p.spelled e }
  where
    go : (text left : List ℕ) (tree : Tree) → RowOf rows tree ⊎ RowOf others tree → Spelled tree text → bytes ≡ text ++ left → ⊥
    go text left tree (inl r) p e = none.none text left r.row (record { shaped = r.shaped; spelled = r.spelled text p }) e
    go text left tree (inr r) p e = behind.none text left r.row (record { shaped = r.shaped; spelled = r.spelled text p }) e

pub none_first_rows : (rows others : List Shape) {bytes : List ℕ} → BeginsNone (choice (rows_and rows others)) bytes → BeginsNone (choice rows) bytes
none_first_rows rows others none = record { none = λ text left tree p e. none.none text left tree (record { shaped = among rows others p.shaped; spelled = p.spelled }) e }

-- ---- a shape by its name

of_name : {n : Named} {t : Tree} → Is (Shape.ref n) t → Is (shape_of n) t
of_name (Is.ref d) = d

pub begins_named : {n : Named} {t : Tree} {bytes left : List ℕ} → Begins (Shape.ref n) bytes t left → Begins (shape_of n) bytes t left
begins_named p = record { text = p.text; spells = record { shaped = of_name p.spells.shaped; spelled = p.spells.spelled }; reads = p.reads }

pub none_named : (n : Named) {bytes : List ℕ} → BeginsNone (Shape.ref n) bytes → BeginsNone (shape_of n) bytes
none_named n none = record { none = λ text left tree p e. none.none text left tree (record { shaped = Is.ref p.shaped; spelled = p.spelled }) e }

-- ---- a byte that may be left out

pub begins_spare_left : {b : ℕ} {a c : Shape} {t : Tree} {bytes left : List ℕ} → Begins a bytes t left → Begins (Shape.spare b a c) bytes (Tree.spare b t) left
begins_spare_left p = record { text = p.text; spells = record { shaped = Is.spare p.spells.shaped; spelled = inl p.spells.spelled }; reads = p.reads }

pub begins_spare : {b : ℕ} {a c : Shape} {t : Tree} {bytes xs left : List ℕ} → bytes ≡ b ∷ xs → Begins a xs t left → Begins (Shape.spare b a c) bytes (Tree.spare b t) left
begins_spare {b = b} e p = record {
  text = b ∷ p.text;
  spells = record { shaped = Is.spare p.spells.shaped; spelled = inr (p.text, refl, p.spells.spelled) };
  reads = e ∙ ap (λ (z : List ℕ). b ∷ z) p.reads;
}

pub begins_kept : {b : ℕ} {a c : Shape} {t : Tree} {bytes xs left : List ℕ} → bytes ≡ b ∷ xs → Begins c xs t left → Begins (Shape.spare b a c) bytes (Tree.kept b t) left
begins_kept {b = b} e p = record {
  text = b ∷ p.text;
  spells = record { shaped = Is.kept p.spells.shaped; spelled = (p.text, refl, p.spells.spelled) };
  reads = e ∙ ap (λ (z : List ℕ). b ∷ z) p.reads;
}

-- behind the byte neither part begins, and the first does not begin with it
pub none_spare : {b : ℕ} {a c : Shape} {xs : List ℕ} → BeginsNone a (b ∷ xs) → BeginsNone a xs → BeginsNone c xs → BeginsNone (Shape.spare b a c) (b ∷ xs)
none_spare {b = b} {a = a} {c = c} {xs = xs} here first second = record { none = λ text left tree p e. go text left tree p.shaped p.spelled e }
  where
    go : (text left : List ℕ) (tree : Tree) → Is (Shape.spare b a c) tree → Spelled tree text → b ∷ xs ≡ text ++ left → ⊥
    go text left tree (Is.spare {t = t} d) (inl p) e = here.none text left t (record { shaped = d; spelled = p }) e
    go text left tree (Is.spare {t = t} d) (inr p) e =
        let parts : b ∷ xs ≡ b ∷ (p.0 ++ left) = e ∙ ap (λ (z : List ℕ). z ++ left) p.1 in
        first.none p.0 left t (record { shaped = d; spelled = p.2 }) cc
    go text left tree (Is.kept {t = t} d) p e =
        let parts : b ∷ xs ≡ b ∷ (p.0 ++ left) = e ∙ ap (λ (z : List ℕ). z ++ left) p.1 in
        second.none p.0 left t (record { shaped = d; spelled = p.2 }) cc

-- another byte stands there, with which the first part does not begin
pub none_spare_left : {b d : ℕ} {a c : Shape} {xs : List ℕ} → d ≢ b → BeginsNone a (d ∷ xs) → BeginsNone (Shape.spare b a c) (d ∷ xs)
none_spare_left {b = b} {d = d} {a = a} {c = c} {xs = xs} other here = record { none = λ text left tree p e. go text left tree p.shaped p.spelled e }
  where
    go : (text left : List ℕ) (tree : Tree) → Is (Shape.spare b a c) tree → Spelled tree text → d ∷ xs ≡ text ++ left → ⊥
    go text left tree (Is.spare {t = t} f) (inl p) e = here.none text left t (record { shaped = f; spelled = p }) e
    go text left tree (Is.spare {t = t} f) (inr p) e =
        let parts : d ∷ xs ≡ b ∷ (p.0 ++ left) = e ∙ ap (λ (z : List ℕ). z ++ left) p.1 in
        let heads : d ≡ b = cc in
        other heads
    go text left tree (Is.kept {t = t} f) p e =
        let parts : d ∷ xs ≡ b ∷ (p.0 ++ left) = e ∙ ap (λ (z : List ℕ). z ++ left) p.1 in
        let heads : d ≡ b = cc in
        other heads

-- ---- items that may be left out

pub begins_final_left : {a b : Shape} {u : Tree} {bytes left : List ℕ} → Begins b bytes u left → Begins (Shape.final a b) bytes (Tree.final Tree.nil u) left
begins_final_left p = record {
  text = p.text;
  spells = record { shaped = Is.final Is.nil p.spells.shaped; spelled = inl ([], p.text, refl, refl, refl, p.spells.spelled) };
  reads = p.reads;
}

items_of : {a : Shape} {t : Tree} → Is (Shape.vec a) (Tree.vec t) → Is (Shape.many a) t
items_of (Is.vec d) = d

pub begins_final : {a b : Shape} {t u : Tree} {bytes xs middle left : List ℕ} → bytes ≡ 0x4f ∷ xs → Begins (Shape.vec a) xs (Tree.vec t) middle → Begins b middle u left →
    Begins (Shape.final a b) bytes (Tree.final t u) left
begins_final {middle = middle} {left = left} e p q =
    let s = p.spells.spelled in
    let out : (s.0 ++ s.1) ++ middle ≡ (s.0 ++ (s.1 ++ q.text)) ++ left =
    ap (λ (z : List ℕ). (s.0 ++ s.1) ++ z) q.reads ∙ sym (append_assoc (s.0 ++ s.1) q.text left) ∙ ap (λ (z : List ℕ). z ++ left) (append_assoc s.0 s.1 q.text) in record {
      text = 0x4f ∷ (s.0 ++ (s.1 ++ q.text));
      spells = record {
        shaped = Is.final (items_of p.spells.shaped) q.spells.shaped;
        spelled = inr (s.0, s.1, q.text, refl, s.3, s.4, q.spells.spelled);
      };
      reads = e ∙ ap (λ (z : List ℕ). 0x4f ∷ z) (p.reads ∙ ap (λ (z : List ℕ). z ++ middle) s.2 ∙ out);
    }

no_items : {a : Shape} {t : Tree} {y : List ℕ} → Is (Shape.many a) t → count t ≡ 0 → Spelled t y → y ≡ []
no_items Is.nil k q = q
no_items (Is.cons {u = u} d d') k q = let some : suc (count u) ≡ 0 = k in absurd (omega arith)

-- neither the second part begins, nor the byte and the items with it behind them
pub none_final : {a b : Shape} {bytes : List ℕ} → BeginsNone b bytes → BeginsNone (lead 0x4f (Shape.seq (Shape.vec a) b)) bytes → BeginsNone (Shape.final a b) bytes
none_final {a = a} {b = b} {bytes = bytes} alone behind = record { none = λ text left tree p e. go text left tree p.shaped p.spelled e }
  where
    go : (text left : List ℕ) (tree : Tree) → Is (Shape.final a b) tree → Spelled tree text → bytes ≡ text ++ left → ⊥
    go text left tree (Is.final {u = u} d d') (inl p) e =
        let empty : p.0 ≡ [] = no_items d p.3 p.4 in
        let whole : text ≡ p.1 = p.2 ∙ ap (λ (z : List ℕ). z ++ p.1) empty in
        alone.none p.1 left u (record { shaped = d'; spelled = p.5 }) (e ∙ ap (λ (z : List ℕ). z ++ left) whole)
    go text left tree (Is.final {t = t} {u = u} d d') (inr p) e =
        behind.none text left (Tree.pair (Tree.fixed 0x4f) (Tree.pair (Tree.vec t) u))
        (record {
          shaped = Is.seq Is.fixed (Is.seq (Is.vec d) d');
          spelled = (0x4f ∷ [], p.0 ++ (p.1 ++ p.2), p.3, refl, (p.0 ++ p.1, p.2, sym (append_assoc p.0 p.1 p.2), (p.0, p.1, refl, p.4, p.5), p.6));
        }) e
