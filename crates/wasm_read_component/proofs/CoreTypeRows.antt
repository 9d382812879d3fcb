-- Groups of a core module's types and module types, as core types of a component.
use Rattle.std.proofs.Common.{◌≡◌, ◌≢◌, ℕ, suc, ◌+◌, ◌≤◌, ◌<◌, List, [], ◌∷◌, ◌++◌, refl, sym, ap, arith}
use Rattle.wasm_shapes.specs.Tree.{Tree}
use Rattle.wasm_shapes.specs.Shape.{Shape, Named, choice, group_rows, final_sub, open_sub, explicit_group}
use Rattle.wasm_shapes.specs.Types.{led}
use Rattle.wasm_shapes.specs.Spells.{Is, Spelled}
use Rattle.wasm_shapes.specs.Place.{Begins, BeginsNone}
use Rattle.wasm_shapes.specs.Component.{core_type, core_type_rows, module_declaration}
use Rattle.wasm_shapes.specs.Depth.{opens, BeginsAt, BeginsNoneAt}
use Rattle.wasm_shapes.proofs.Begins.{begins_byte, begins_row, begins_seq, none_by_front, none_byte, none_here, none_or, none_ref, none_row, none_seq_first}
use Rattle.wasm_shapes.proofs.Depth.{at_here, at_lead, at_none, at_ref}
use Rattle.wasm_shapes.proofs.Parts.{begins_named, none_named}
use Rattle.wasm_shapes.proofs.Unscoped.{unscoped_is}
use Rattle.wasm_types.specs.ComponentTrees.{core_group_tree}
use Rattle.wasm_read.specs.declared.types.RecGroup.{RecGroup}
use Rattle.wasm_read.specs.Reading.{Standing}
use Rattle.wasm_read.specs.Types.{group_tree}
use Rattle.wasm_read_component.specs.declared.declarations.CoreType.TheVariants as core
use Rattle.wasm_read_component.specs.Scoped.{ReadsAt}
use Rattle.wasm_read_component.specs.TypeRows.{CoreTypeStands, Declares}
use Rattle.wasm_read_component.proofs.TypeDepth.{at_choice, behind_at, flat_at, named_begins, named_reads, row_begins}

-- an open subtype, in its place among the rows of a group
abbrev pub open_row : Shape
open_row = choice (Shape.none ∷ open_sub ∷ [])

-- a group that is no open subtype
abbrev pub closed_group : Shape
closed_group = choice (final_sub ∷ Shape.none ∷ explicit_group ∷ [])

pub open_of_group : {bytes xs left : List ℕ} {t : Tree} → bytes ≡ 0x50 ∷ xs → Begins (Shape.ref Named.group) bytes t left →
    (u : Tree) × (t ≡ Tree.row 1 u) × Begins open_sub bytes u left
open_of_group {bytes = bytes} {xs = xs} {left = left} {t = t} here p =
    let q = begins_named p in go t q.text q.spells.shaped q.spells.spelled q.reads
  where
    go : (t : Tree) (text : List ℕ) → Is (choice group_rows) t → Spelled t text → bytes ≡ text ++ left → (u : Tree) × (t ≡ Tree.row 1 u) × Begins open_sub bytes u left
    go t text (Is.first {t = u} d) s e =
        let none : BeginsNone final_sub bytes = none_here here (none_by_front refl refl) in
        absurd (none.none text left u (record { shaped = d; spelled = s }) e)
    go t text (Is.later (Is.first {t = u} d)) s e = (u, refl, record { text = text; spells = record { shaped = d; spelled = s }; reads = e })
    go t text (Is.later (Is.later (Is.first {t = u} d))) s e =
        let none : BeginsNone explicit_group bytes = none_here here (none_by_front refl refl) in
        absurd (none.none text left u (record { shaped = d; spelled = s }) e)
    go t text (Is.later (Is.later (Is.later d))) s e = elim d [ ]

pub none_open : {bytes : List ℕ} → BeginsNone (Shape.ref Named.group) bytes → BeginsNone open_sub bytes
none_open none = record {
  none = λ text left tree p e. (none_named Named.group none).none text left (Tree.row 1 tree) (record { shaped = Is.later (Is.first p.shaped); spelled = p.spelled }) e;
}

pub closed_of_group : {c : ℕ} {bytes xs left : List ℕ} {t : Tree} → bytes ≡ c ∷ xs → c ≢ 0x50 → Begins (Shape.ref Named.group) bytes t left →
    (core_group_tree t ≡ Tree.row 2 t) × Begins closed_group bytes t left
closed_of_group {c = c} {bytes = bytes} {xs = xs} {left = left} {t = t} here other p =
    let q = begins_named p in go t q.text q.spells.shaped q.spells.spelled q.reads
  where
    go : (t : Tree) (text : List ℕ) → Is (choice group_rows) t → Spelled t text → bytes ≡ text ++ left → (core_group_tree t ≡ Tree.row 2 t) × Begins closed_group bytes t left
    go t text (Is.first {t = u} d) s e = (refl, record { text = text; spells = record { shaped = Is.first d; spelled = s }; reads = e })
    go t text (Is.later (Is.first {t = u} d)) s e =
        let none : BeginsNone open_sub bytes = none_here here (none_seq_first (none_byte other)) in
        absurd (none.none text left u (record { shaped = d; spelled = s }) e)
    go t text (Is.later (Is.later (Is.first {t = u} d))) s e =
        (refl, record { text = text; spells = record { shaped = Is.later (Is.later (Is.first d)); spelled = s }; reads = e })
    go t text (Is.later (Is.later (Is.later d))) s e = elim d [ ]

closed_row : {t : Tree} → Is closed_group t → Is (choice group_rows) t
closed_row (Is.first d) = Is.first d
closed_row (Is.later (Is.first d)) = elim d [ ]
closed_row (Is.later (Is.later (Is.first d))) = Is.later (Is.later (Is.first d))
closed_row (Is.later (Is.later (Is.later d))) = elim d [ ]

pub none_closed : {bytes : List ℕ} → BeginsNone (Shape.ref Named.group) bytes → BeginsNone closed_group bytes
none_closed none = record {
  none = λ text left tree p e. (none_named Named.group none).none text left tree (record { shaped = closed_row p.shaped; spelled = p.spelled }) e;
}

-- ---- core types where scopes are open round them

-- a module type opens one scope
module_at : {depth : ℕ} {t : Tree} {bytes left : List ℕ} → depth < 200 → Begins (Shape.scope (Shape.vec module_declaration)) bytes t left →
    BeginsAt (Shape.scope (Shape.vec module_declaration)) depth bytes t left
module_at {depth = depth} {t = t} deep p = record { begins = p; shallow = record { most = go t p.spells.shaped } }
  where
    go : (t : Tree) → Is (Shape.scope (Shape.vec module_declaration)) t → opens t + depth ≤ 200
    go t (Is.scope {t = u} d) =
        let f = unscoped_is d refl in
        let none : opens u ≡ 0 = f.opens in
        let most : suc (opens u) + depth ≤ 200 = omega arith in
        most

pub module_reads : {depth : ℕ} {t : Tree} {bytes xs left : List ℕ} (reader : Standing) → depth < 200 → bytes ≡ 0x50 ∷ xs → Declares module_declaration reader t →
    Begins (Shape.scope (Shape.vec module_declaration)) xs t left → ReadsAt core_type depth (CoreTypeStands (core.Module reader)) bytes left
module_reads {t = t} reader deep e held p = named_reads (behind_at core_type_rows refl e (record { tree = t; is = held; begins = module_at deep p }))

pub open_reads : {depth : ℕ} {bytes xs left : List ℕ} (group : RecGroup) (t : Tree) → depth ≤ 200 → bytes ≡ 0x00 ∷ xs → group_tree group ≡ Tree.row 1 t → Begins open_sub xs t left →
    ReadsAt core_type depth (CoreTypeStands (core.Rec group)) bytes left
open_reads group t deep e same p = record {
  tree = Tree.row 1 (led 0x00 (Tree.row 1 t));
  is = sym (ap core_group_tree same);
  begins = named_begins (row_begins core_type_rows refl (flat_at refl deep (begins_seq (begins_byte e) (begins_row {s = open_row} {k = 1} p))));
}

pub closed_reads : {depth c : ℕ} {bytes xs left : List ℕ} (group : RecGroup) → depth ≤ 200 → bytes ≡ c ∷ xs → c ≢ 0x50 → Begins (Shape.ref Named.group) bytes (group_tree group) left →
    ReadsAt core_type depth (CoreTypeStands (core.Rec group)) bytes left
closed_reads group deep e other p =
    let q = closed_of_group e other p in
    record { tree = Tree.row 2 (group_tree group); is = sym q.0; begins = named_begins (row_begins core_type_rows refl (flat_at refl deep q.1)) }

pub no_module : {depth : ℕ} {bytes xs : List ℕ} → bytes ≡ 0x50 ∷ xs → BeginsNoneAt (Shape.scope (Shape.vec module_declaration)) depth xs → BeginsNoneAt core_type depth bytes
no_module {depth = depth} e none = at_here e (at_ref (at_choice core_type_rows 0x50 _ depth refl (at_lead refl none, tt)))

pub no_open : {depth : ℕ} {bytes xs : List ℕ} → bytes ≡ 0x00 ∷ xs → BeginsNone open_sub xs → BeginsNoneAt core_type depth bytes
no_open {depth = depth} e none =
    at_here e (at_ref (at_choice core_type_rows 0x00 _ depth refl (at_lead refl (at_none (none_or none_row (none_or none none_row))), tt)))

pub no_closed : {depth c : ℕ} {bytes xs : List ℕ} → bytes ≡ c ∷ xs → c ≢ 0x50 → c ≢ 0x00 → BeginsNone (Shape.ref Named.group) bytes → BeginsNoneAt core_type depth bytes
no_closed e a b none =
    at_none (none_ref (none_or (none_here e (none_seq_first (none_byte a))) (none_or (none_here e (none_seq_first (none_byte b))) (none_or (none_closed none) none_row))))
