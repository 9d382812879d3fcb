-- Scopes that are mapped from bytes to bytes: their declarations one behind another, and each whole.
use Rattle.std.proofs.Common.{◌≡◌, ◌≢◌, ◌≤◌, ℕ, zero, suc, ◌+◌, ◌-◌, ◌<◌, ◌^◌, max, List, [], ◌∷◌, ◌++◌, length, take, Bor, Some, None, Ok, Err, IsTrue, true, false, refl, sym, ap, ◌∙◌, append_assoc, append-nil, subst, arith}
use Rattle.std.proofs.lemmas.List.Elements.{Contains-append_left}
use Rattle.std.proofs.Math.Seq.{take-length}
use mathlib.Core.Logic.{∥∥₁_elim, ∥∥₁_map, ∥∥₁_prop}
use Rattle.wasm_leb.specs.Leb.{leb}
use Rattle.wasm_leb.specs.Place.{BeginsNumber, BeginsNoNumber}
use Rattle.wasm_leb.proofs.Shortest.{leb_spells}
use Rattle.wasm_shapes.specs.declared.Visit.{Visit}
use Rattle.wasm_shapes.specs.declared.Visit.TheVariants.{Push, Pop}
use Rattle.wasm_shapes.specs.Tree.{Tree, count, normal, visits}
use Rattle.wasm_shapes.specs.Types.{led, rows_tree}
use Rattle.wasm_shapes.specs.Shape.{Named, Shape, closed, lead}
use Rattle.wasm_shapes.specs.Component.{alias, component_declaration, component_type, component_type_rows, core_type, defined_type, extern_row, function_type, instance_declaration}
use Rattle.wasm_shapes.specs.declared.Space.TheVariants as space
use Rattle.wasm_shapes.specs.Depth.{BeginsAt, BeginsNoneAt, Shallow, opens}
use Rattle.wasm_shapes.specs.Place.{Begins}
use Rattle.wasm_shapes.specs.Sound.{sound}
use Rattle.wasm_shapes.specs.Spells.{Is, Spelled}
use Rattle.wasm_shapes.proofs.Depth.{begins_unique, none_count, rows_split}
use Rattle.wasm_shapes.proofs.Rows.{snoc_is, snoc_spelled}
use Rattle.wasm_write.specs.Counts.{counts, IsTooLarge}
use Rattle.wasm_write.specs.Faults.{IfTooLarge}
use Rattle.wasm_write.specs.Held.{AddsIf}
use Rattle.wasm_write.specs.declared.fault.WriteFault.{WriteFault}
use Rattle.wasm_write.specs.declared.fault.WriteFault.TheVariants as fault
use Rattle.wasm_write.proofs.Holding.{count_rows, snoc_length, snoc_normal}
use Rattle.wasm_read_component.specs.Scoped.{ScopedStanding}
use Rattle.wasm_read_component.specs.TypeRows.{Behind, DeclaresAt}
use Rattle.wasm_write_component.proofs.TypeSpelling.{choice_spelled, named_spelled}
use Rattle.reencode_hooks.specs.declared.error.Error.{Error}
use Rattle.reencode_hooks.specs.declared.error.Error.TheVariants.{NoMemory, TooLarge}
use Rattle.reencode_hooks.specs.declared.indices.ReencodeIndices.{Ghosts}
use Rattle.reencode_hooks.specs.Errors.{error_of_write}
use Rattle.reencode_hooks.specs.Run.{NeverWants, Step, Visited, accepted, and_then, refused, run}
use Rattle.reencode_hooks.specs.Walk.{walk}
use Rattle.reencode_items.specs.Clauses.{ListClauses}
use Rattle.reencode_items.specs.Streams.{StreamsAs}
use Rattle.reencode_items.proofs.Leaving.{accepted_visited, first_visited, never_wants, second_visited}
use Rattle.reencode_items.proofs.Rows.{one_onto, onto_nothing}
use Rattle.reencode_items.proofs.Streaming.{Left, Wraps, grown_front, wrapped}
use Rattle.reencode_items.proofs.TypeParts.{back_ref, led_parts, row_parts, vec_parts}
use Rattle.reencode_core.specs.Clauses.{RowClauses, asks}
use Rattle.reencode_core.specs.Rows.{Asks, onto_rows}
use Rattle.reencode_core.proofs.rows_walked.OneRow.{one_too_many, row_mapped, row_not_added, row_unmapped}
use Rattle.reencode_core.proofs.rows_walked.SmallCounts.{only_rows}
use Rattle.reencode_component.proofs.types_walked.CoreTypeCalls.{more_state}
use Rattle.reencode_component.proofs.types_walked.ScopeCalls.{accepted_scope, refused_scope}
use Rattle.reencode_component.specs.DirectTypes.{RowsBegin, ScopeBegins, ScopeMapped, ScopeRefused, SpelledAs, StreamsAt, StreamsRowsAt, StreamsScope, TypeBegins, byte_of, declaration_of, number_of}
use Rattle.reencode_component.specs.declared.direct.Scope.{Scope}
use Rattle.reencode_component.specs.declared.direct.Scope.TheVariants as scope

-- ---- one declaration that was read

-- no number of a row that was read and mapped is too large
never_large : {S E : Type 0} (asked : Asks S E) (s m : S) (t u : Tree) (x : List ℕ) (w : WriteFault) → Spelled t x → walk asked 0 s t ≡ accepted u m → IfTooLarge w (IsTooLarge (counts u)) →
    error_of_write {E = E} w ≢ NoMemory → ⊥
never_large asked s m t u x (fault.TooLarge size) p h q other =
    let last = only_rows asked 0 s m t u x 0 size p h (record { counted = Contains-append_left (counts u) (0 ∷ []) size q.counted; large = q.large }) in
    let small : size ≡ 0 = last.0 in
    let large : 2 ^ 32 - 1 < size = last.1 in
    omega arith
never_large asked s m t u x fault.NoMemory p h q other = other refl

module _ {S E B : Type 0} (i : Ghosts S E) {shape : Shape} {depth : ℕ} {bytes rest : List ℕ} (k : sound shape ≡ true) (h : closed shape ≡ true) (t : Tree) (there : Begins shape bytes t rest) (view : B → Tree) {s m : S}
    {old new : List ℕ} where
  -- it was mapped, and appended
  pub row_streams : (left : Bor (List ℕ)) (b : B) → rest ≡ left.now → ListClauses i t view s m (Ok b) → SpelledAs shape (view b) → new ≡ old ++ normal (view b) → StreamsAt i shape depth bytes s old m new (Ok (Some left))
  row_streams left b e given spells adds = record {
    gives = (
      view b,
      spells,
      adds,
      record {
        behind = λ u l p. sym (begins_unique k h there p.begins).1 ∙ e;
        walks = λ keeps u l p c. rw (← (begins_unique k h there p.begins).0) (given.default keeps c);
      },
    );
  }

  -- it was refused
  pub row_stops : (x : Error E) → new ≡ old → ListClauses i t view s m (Err x) → StreamsAt i shape depth bytes s old m new (Err x)
  row_stops x same given = record {
    gives = (
      rw same (take-length old),
      record {
        refuses = λ keeps u l p other c. rw (← (begins_unique k h there p.begins).0) (given.default keeps c other);
        visited = λ keeps sure u l p. rw (← (begins_unique k h there p.begins).0) (given.after_error keeps sure);
      },
    );
  }

  -- it was mapped, and there was no memory for what it became
  pub row_unwritten : (b : B) (w : WriteFault) → take (length old) new ≡ old → ListClauses i t view s m (Ok b) → IfTooLarge w (IsTooLarge (counts (view b))) →
      StreamsAt i shape depth bytes s old m new (Err (error_of_write w))
  row_unwritten b w kept given large = record {
    gives = (
      kept,
      record {
        refuses = λ keeps u l p other c. absurd (never_large (asks i) s m t (view b) there.text w there.spells.spelled (given.default keeps 0) large other);
        visited = λ keeps sure u l p. rw (← (begins_unique k h there p.begins).0) (accepted_visited 0 t (given.default keeps 0));
      },
    );
  }

-- none begins
pub none_streams_at : {S E : Type 0} (i : Ghosts S E) {shape : Shape} {depth : ℕ} {bytes : List ℕ} {s m : S} {old new : List ℕ} → take (length old) new ≡ old → BeginsNoneAt shape depth bytes →
    StreamsAt i shape depth bytes s old m new (Ok None)
none_streams_at i kept none = record { gives = (kept, λ t l p. none.none l t p) }

-- ---- declarations one behind another

-- a first row, and the others
record FirstRow (row : Shape) (n depth : ℕ) (bytes : List ℕ) (rows : Tree) (l : List ℕ) : Type 0 where
  pub first : Tree
  pub others : Tree
  pub middle : List ℕ
  pub is : rows ≡ Tree.cons first others
  pub at : BeginsAt row depth bytes first middle
  pub behind : RowsBegin row n depth middle others l

first_row : {row : Shape} {n m depth : ℕ} {bytes : List ℕ} (rows : Tree) (l : List ℕ) → m ≡ suc n → RowsBegin row m depth bytes rows l → FirstRow row n depth bytes rows l
first_row {depth = depth} rows l more p =
    let q = rows_split more p.begins in
    let t : Tree = q.0 in
    let u : Tree = q.1 in
    let D : Tree → Type 0 = λ z. Shallow depth z in
    let most : max (opens t) (opens u) + depth ≤ 200 = (subst D q.3 p.shallow).most in record {
      first = t;
      others = u;
      middle = q.2;
      is = q.3;
      at = record { begins = q.4; shallow = record { most = omega arith } };
      behind = record { begins = q.5; shallow = record { most = omega arith } };
    }

no_rows : {row : Shape} {n depth : ℕ} {bytes : List ℕ} (rows : Tree) (l : List ℕ) → n ≡ 0 → RowsBegin row n depth bytes rows l → (rows ≡ Tree.nil) × (bytes ≡ l)
no_rows {row = row} {bytes = bytes} rows l none p = let q = p.begins in go rows q.begins.text q.begins.spells.shaped q.begins.spells.spelled q.begins.reads (q.counted ∙ none)
  where
    go : (rows : Tree) (text : List ℕ) → Is (Shape.many row) rows → Spelled rows text → bytes ≡ text ++ l → count rows ≡ 0 → (rows ≡ Tree.nil) × (bytes ≡ l)
    go rows text Is.nil p e k = (refl, e ∙ ap (λ (z : List ℕ). z ++ l) p)
    go rows text (Is.cons {t = u} {u = v} d d') p e k = let none : suc (count v) ≡ 0 = k in absurd (omega arith)

-- Of some declarations these are left: those in front of them were walked to these.
pub record RowsOn {S E : Type 0} (i : Ghosts S E) (row : Shape) (s0 : S) (t : Tree) (l : List ℕ) (left depth : ℕ) (rest : List ℕ) (s : S) (made : List Tree) : Type 0 where
  pub others : Tree
  pub there : RowsBegin row left depth rest others l
  pub walks : IsTrue i.keeps_defaults → (c : ℕ) → walk (asks i) c s0 t ≡ onto_rows made (walk (asks i) c s others)
  pub onward : IsTrue i.keeps_defaults → (m : S) → Visited (asks i) s (visits others) m → Visited (asks i) s0 (visits t) m

-- So many declarations are due, and those in front of them were mapped and appended.
pub record RowsSo {S E : Type 0} (i : Ghosts S E) (row : Shape) (n depth : ℕ) (start : List ℕ) (s0 : S) (old : List ℕ) (due : ℕ) (rest : List ℕ) (s : S) (out : List ℕ) : Type 0 where
  pub made : List Tree
  pub spelled : SpelledAs (Shape.many row) (rows_tree made)
  pub counted : length made + due ≡ n
  pub adds : out ≡ old ++ normal (rows_tree made)
  pub on : (t : Tree) (l : List ℕ) → RowsBegin row n depth start t l → RowsOn i row s0 t l due depth rest s made

snoc_spells : {row : Shape} (made : List Tree) (v : Tree) → SpelledAs (Shape.many row) (rows_tree made) → SpelledAs row v → SpelledAs (Shape.many row) (rows_tree (made ++ v ∷ []))
snoc_spells made v rows one = ∥∥₁_elim rows ∥∥₁_prop (λ p. ∥∥₁_map one (λ q. record {
  shaped = snoc_is made p.shaped q.shaped;
  spelled = (let P : List ℕ → Type 0 = λ z. Spelled (rows_tree (made ++ v ∷ [])) z in
      subst P (sym (snoc_normal made v)) (snoc_spelled made v (normal (rows_tree made)) (normal v) p.spelled q.spelled));
}))

module _ {S E : Type 0} (i : Ghosts S E) {row : Shape} {depth : ℕ} where
  pub rows_begun : (n : ℕ) (start : List ℕ) (s : S) (old : List ℕ) → RowsSo i row n depth start s old n start s old
  rows_begun n start s old = record {
    made = [];
    spelled = ∣ record { shaped = Is.nil; spelled = refl } ∣₁;
    counted = omega arith;
    adds = sym (append-nil old);
    on = λ t l p. record { others = t; there = p; walks = λ keeps c. onto_nothing (walk (asks i) c s t); onward = λ keeps m v. v };
  }

  module _ {n due : ℕ} {start rest : List ℕ} {s0 s m : S} {old out : List ℕ} (so : RowsSo i row n depth start s0 old due rest s out) where
    -- the next one was mapped
    pub rows_more : {fewer : ℕ} {new : List ℕ} {behind : Bor (List ℕ)} → due ≡ suc fewer → StreamsAt i row depth rest s out m new (Ok (Some behind)) → RowsSo i row n depth start s0 old fewer behind.now m new
    rows_more {fewer = fewer} {behind = behind} some g =
        let v : Tree = g.gives.0 in record {
          made = so.made ++ v ∷ [];
          spelled = snoc_spells so.made v so.spelled g.gives.1;
          counted = (let all = so.counted in omega (arith, snoc_length so.made v, all, some));
          adds = g.gives.2 ∙ ap (λ (z : List ℕ). z ++ normal v) so.adds ∙ append_assoc old (normal (rows_tree so.made)) (normal v) ∙ ap (λ (z : List ℕ). old ++ z) (sym (snoc_normal so.made v));
          on = λ t l p.
              let o = so.on t l p in
              let f = first_row o.others l some o.there in
              let P : List ℕ → Type 0 = λ z. RowsBegin row fewer depth z f.others l in record {
                others = f.others;
                there = subst P (g.gives.3.behind f.first f.middle f.at) f.behind;
                walks = λ keeps c.
                    let first : walk (asks i) c s (Tree.cons f.first f.others) ≡ and_then (walk (asks i) c m f.others) (λ u n. accepted (Tree.cons v u) n) = rw (g.gives.3.walks keeps f.first f.middle f.at c) refl in
                    o.walks keeps c ∙ ap (λ (z : Tree). onto_rows so.made (walk (asks i) c s z)) f.is ∙ ap (λ (z : Step S (Error E) Tree). onto_rows so.made z) first ∙ one_onto so.made v (walk (asks i) c m f.others);
                onward = λ keeps n w. o.onward keeps n (rw f.is (second_visited 0 f.first (g.gives.3.walks keeps f.first f.middle f.at 0) w));
              };
        }

    -- the next one is none
    pub rows_none : {fewer : ℕ} {new : List ℕ} → due ≡ suc fewer → StreamsAt i row depth rest s out m new (Ok None) → StreamsRowsAt i row n depth start s0 old m new (Ok None)
    rows_none some g = record {
      gives = (
        grown_front old (normal (rows_tree so.made)) _ so.adds g.gives.0,
        λ t l p. let o = so.on t l p in let f = first_row o.others l some o.there in g.gives.1 f.first f.middle f.at,
      );
    }

    -- the next one was not mapped
    pub rows_stop : {fewer : ℕ} {new : List ℕ} (x : Error E) → due ≡ suc fewer → StreamsAt i row depth rest s out m new (Err x) → StreamsRowsAt i row n depth start s0 old m new (Err x)
    rows_stop x some g = record {
      gives = (
        grown_front old (normal (rows_tree so.made)) _ so.adds g.gives.0,
        record {
          refuses = λ keeps t l p other c.
              let o = so.on t l p in
              let f = first_row o.others l some o.there in
              let first : walk (asks i) c s (Tree.cons f.first f.others) ≡ refused x m = rw (g.gives.1.refuses keeps f.first f.middle f.at other c) refl in
              o.walks keeps c ∙ ap (λ (z : Tree). onto_rows so.made (walk (asks i) c s z)) f.is ∙ ap (λ (z : Step S (Error E) Tree). onto_rows so.made z) first;
          visited = λ keeps sure t l p.
              let o = so.on t l p in
              let f = first_row o.others l some o.there in
              o.onward keeps m (rw f.is (first_visited (visits f.others) (g.gives.1.visited keeps sure f.first f.middle f.at)));
        },
      );
    }

  -- all were mapped
  pub rows_all : {n due : ℕ} {start : List ℕ} {s0 s : S} {old out : List ℕ} (left : Bor (List ℕ)) → RowsSo i row n depth start s0 old due left.now s out → due ≡ 0 →
      StreamsRowsAt i row n depth start s0 old s out (Ok (Some left))
  rows_all {s = s} left so none = record {
    gives = (
      rows_tree so.made,
      (so.spelled, (let all = so.counted in count_rows so.made ∙ omega (arith, all, none))),
      so.adds,
      record {
        behind = λ t l p. let o = so.on t l p in sym (no_rows o.others l none o.there).1;
        walks = λ keeps t l p c.
            let o = so.on t l p in
            o.walks keeps c ∙ ap (λ (z : Tree). onto_rows so.made (walk (asks i) c s z)) (no_rows o.others l none o.there).0;
      },
    );
  }

-- ---- a scope

module _ {S E : Type 0} (asked : Asks S E) where
  -- a front part of what is in it was asked
  opened_visited : (s : S) {n m : S} (t : Tree) → asked s Push ≡ accepted 0 n → Visited asked n (visits t) m → Visited asked s (visits (Tree.scope (Tree.vec t))) m
  opened_visited s {n = n} t push v = record {
    front = Push ∷ v.front;
    rest = v.rest ++ Pop ∷ [];
    parts = ap (λ (z : List Visit). Push ∷ z) (ap (λ (z : List Visit). z ++ Pop ∷ []) v.parts ∙ append_assoc v.front v.rest (Pop ∷ []));
    state = rw push (more_state 0 (run asked n v.front) ∙ v.state);
  }

scope_spells : {row : Shape} (n : ℕ) (t : Tree) → n < 2 ^ 32 → count t ≡ n → SpelledAs (Shape.many row) t → SpelledAs (Shape.scope (Shape.vec row)) (Tree.scope (Tree.vec t))
scope_spells n t small same p =
    let few : count t < 2 ^ 32 = rw same small in
    ∥∥₁_map p (λ q. record { shaped = Is.scope (Is.vec q.shaped); spelled = (leb (count t), normal t, refl, leb_spells (count t) few, q.spelled) })

module _ {S E : Type 0} (i : Ghosts S E) {row : Shape} {n depth : ℕ} {bytes : List ℕ} {s : S} (old : List ℕ) where
  -- it was not opened
  pub scope_unopened : {m : S} {out : List ℕ} (e : Error E) → out ≡ old ++ leb n → e ≡ NoMemory → NeverWants {A = Unit {0}} i.sure (Err e) → StreamsScope i row n depth bytes s old m out (Err e)
  scope_unopened {out = out} e grown wants never = record {
    gives = (
      grown_front old (leb n) out grown (take-length out),
      record {
        refuses = λ keeps t l p other c. absurd (other wants);
        visited = λ keeps sure t l p. absurd (never_wants e never sure wants);
      },
    );
  }

  module _ {out : List ℕ} {at : S} (grown : out ≡ old ++ leb n) (push : asks i s Push ≡ accepted 0 at) {m : S} {new : List ℕ} where
    -- all that is in it was mapped, and it was closed
    pub scope_streams : {k : S} (left : Bor (List ℕ)) → n < 2 ^ 32 → StreamsRowsAt i row n depth bytes at out k new (Ok (Some left)) → asks i k Pop ≡ accepted 0 m →
        StreamsScope i row n depth bytes s old m new (Ok (Some left))
    scope_streams left small g pop =
        let u : Tree = g.gives.0 in
        let spells = g.gives.1 in record {
          gives = (
            Tree.scope (Tree.vec u),
            scope_spells n u small spells.1 spells.0,
            g.gives.2 ∙ ap (λ (z : List ℕ). z ++ normal u) grown ∙ append_assoc old (leb n) (normal u) ∙ ap (λ (z : ℕ). old ++ (leb z ++ normal u)) (sym spells.1),
            record {
              behind = λ t l p. g.gives.3.behind p.rows l p.inside;
              walks = λ keeps t l p c. rw p.is (accepted_scope (asks i) s c p.rows u push (g.gives.3.walks keeps p.rows l p.inside c) pop);
            },
          );
        }

    -- not all that is in it are such rows
    pub scope_none : StreamsRowsAt i row n depth bytes at out m new (Ok None) → StreamsScope i row n depth bytes s old m new (Ok None)
    scope_none g = record { gives = (grown_front old (leb n) new grown g.gives.0, λ t l p. g.gives.1 p.rows l p.inside) }

    -- something in it was not mapped
    pub scope_stops : (x : Error E) → StreamsRowsAt i row n depth bytes at out m new (Err x) → StreamsScope i row n depth bytes s old m new (Err x)
    scope_stops x g = record {
      gives = (
        grown_front old (leb n) new grown g.gives.0,
        record {
          refuses = λ keeps t l p other c. rw p.is (refused_scope (asks i) s c p.rows push (g.gives.1.refuses keeps p.rows l p.inside other c));
          visited = λ keeps sure t l p. rw p.is (opened_visited (asks i) s p.rows push (g.gives.1.visited keeps sure p.rows l p.inside));
        },
      );
    }

-- ---- a scope behind what stands in front of it

-- what a component type and an instance type declare, and types of components, row by row
abbrev in_component : List Shape
in_component = lead 0x00 core_type ∷ lead 0x01 component_type ∷ lead 0x02 alias ∷ lead 0x03 extern_row ∷ lead 0x04 extern_row ∷ []

abbrev in_instance : List Shape
in_instance = lead 0x00 core_type ∷ lead 0x01 component_type ∷ lead 0x02 alias ∷ lead 0x04 extern_row ∷ []

abbrev types : List Shape
types =
    defined_type ∷ lead 0x40 function_type ∷ lead 0x43 function_type ∷ lead 0x41 (Shape.scope (Shape.vec component_declaration)) ∷
    lead 0x42 (Shape.scope (Shape.vec instance_declaration)) ∷ lead 0x3f (Shape.seq (Shape.ref Named.value) (Shape.opt (Shape.ix space.Function))) ∷ []

-- a type, and a declaration of a type
abbrev pub type_of : Scope → Tree → Tree
type_of s t = Tree.row (number_of s) (led (byte_of s) t)

abbrev pub declared_type : Scope → Tree → Tree
declared_type s t = Tree.row 1 (led 0x01 (type_of s t))

-- a scope is one tree in another
scope_parts : {s : Shape} {bytes : List ℕ} (t : Tree) (l : List ℕ) → Begins (Shape.scope s) bytes t l → (u : Tree) × (t ≡ Tree.scope u) × Begins s bytes u l
scope_parts {s = s} {bytes = bytes} t l p = go t p.text p.spells.shaped p.spells.spelled p.reads
  where
    go : (t : Tree) (text : List ℕ) → Is (Shape.scope s) t → Spelled t text → bytes ≡ text ++ l → (u : Tree) × (t ≡ Tree.scope u) × Begins s bytes u l
    go t text (Is.scope {t = u} d) p e = (u, refl, record { text = text; spells = record { shaped = d; spelled = p }; reads = e })

type_there : (inner : Scope) {xs : List ℕ} (t : Tree) (l : List ℕ) → Begins component_type (byte_of inner ∷ xs) t l →
    (u : Tree) × (t ≡ type_of inner (Tree.scope u)) × Begins (Shape.vec (declaration_of inner)) xs u l
type_there scope.Component t l p =
    let r = row_parts types 3 t l refl refl (back_ref t l p) in
    let q = led_parts r.held l refl r.begins in
    let z = scope_parts q.0 l q.2 in
    (z.0, r.is ∙ ap (λ (v : Tree). Tree.row 3 v) (q.1 ∙ ap (λ (v : Tree). led 0x41 v) z.1), z.2)
type_there scope.Instance t l p =
    let r = row_parts types 4 t l refl refl (back_ref t l p) in
    let q = led_parts r.held l refl r.begins in
    let z = scope_parts q.0 l q.2 in
    (z.0, r.is ∙ ap (λ (v : Tree). Tree.row 4 v) (q.1 ∙ ap (λ (v : Tree). led 0x42 v) z.1), z.2)

declared_there : (s : Scope) {bytes xs : List ℕ} (t : Tree) (l : List ℕ) → bytes ≡ 0x01 ∷ xs → Begins (declaration_of s) bytes t l →
    (u : Tree) × (t ≡ Tree.row 1 (led 0x01 u)) × Begins component_type xs u l
declared_there scope.Component t l e p =
    let r = row_parts in_component 1 t l e refl p in
    let q = led_parts r.held l e r.begins in
    (q.0, r.is ∙ ap (λ (v : Tree). Tree.row 1 v) q.1, q.2)
declared_there scope.Instance t l e p =
    let r = row_parts in_instance 1 t l e refl p in
    let q = led_parts r.held l e r.begins in
    (q.0, r.is ∙ ap (λ (v : Tree). Tree.row 1 v) q.1, q.2)

type_spelled : (inner : Scope) {u : Tree} → SpelledAs (Shape.scope (Shape.vec (declaration_of inner))) u → SpelledAs component_type (type_of inner u)
type_spelled scope.Component p = named_spelled Named.component_type (choice_spelled component_type_rows 3 0x41 refl p)
type_spelled scope.Instance p = named_spelled Named.component_type (choice_spelled component_type_rows 4 0x42 refl p)

declared_spelled : (s : Scope) {u : Tree} → SpelledAs component_type u → SpelledAs (declaration_of s) (Tree.row 1 (led 0x01 u))
declared_spelled scope.Component p = choice_spelled component_declaration 1 0x01 refl p
declared_spelled scope.Instance p = choice_spelled instance_declaration 1 0x01 refl p

two_bytes : {S E : Type 0} (j b k c : ℕ) (step : Step S (Error E) Tree) →
    and_then (and_then (and_then (and_then step (λ u m. accepted (led b u) m)) (λ u m. accepted (Tree.row j u) m)) (λ u m. accepted (led c u) m)) (λ u m. accepted (Tree.row k u) m)
    ≡ and_then step (λ u m. accepted (Tree.row k (led c (Tree.row j (led b u)))) m)
two_bytes j b k c (accepted u m) = refl
two_bytes j b k c (refused e m) = refl

one_byte : {S E : Type 0} (j b : ℕ) (step : Step S (Error E) Tree) →
    and_then (and_then step (λ u m. accepted (led b u) m)) (λ u m. accepted (Tree.row j u) m) ≡ and_then step (λ u m. accepted (Tree.row j (led b u)) m)
one_byte j b (accepted u m) = refl
one_byte j b (refused e m) = refl

-- the scope that a declaration of a type opens, whose declarations have so few scopes round them
record DeclaredThere (s inner : Scope) (depth : ℕ) (xs : List ℕ) (t : Tree) (l : List ℕ) : Type 0 where
  pub vec : Tree
  pub is : t ≡ declared_type inner (Tree.scope vec)
  pub begins : Begins (Shape.vec (declaration_of inner)) xs vec l
  pub most : suc (opens vec) + depth ≤ 200

module _ (s inner : Scope) {depth : ℕ} {bytes xs : List ℕ} (e : bytes ≡ 0x01 ∷ byte_of inner ∷ xs) where
  there_declared : (t : Tree) (l : List ℕ) → BeginsAt (declaration_of s) depth bytes t l → DeclaredThere s inner depth xs t l
  there_declared t l p =
      let q = declared_there s t l e p.begins in
      let r = type_there inner q.0 l q.2 in
      let same : t ≡ declared_type inner (Tree.scope r.0) = q.1 ∙ ap (λ (z : Tree). Tree.row 1 (led 0x01 z)) r.1 in
      let D : Tree → Type 0 = λ z. Shallow depth z in
      let most : max zero (max zero (suc (opens r.0))) + depth ≤ 200 = (subst D same p.shallow).most in
      record { vec = r.0; is = same; begins = r.2; most = omega arith }

  module _ {S E : Type 0} (i : Ghosts S E) {s0 m : S} where
    -- it would open one scope too many
    pub declared_full : {old : List ℕ} → 200 ≤ depth → StreamsAt i (declaration_of s) depth bytes s0 old m old (Ok None)
    declared_full {old = old} full = record { gives = (take-length old, λ t l p. let q = there_declared t l p in let most : suc (opens q.vec) + depth ≤ 200 = q.most in absurd (omega arith)) }

    -- nothing says how many declarations there are
    pub declared_uncounted : {old : List ℕ} → BeginsNoNumber 128 32 32 xs → StreamsAt i (declaration_of s) depth bytes s0 old m old (Ok None)
    declared_uncounted {old = old} none = record {
      gives = (
        take-length old,
        λ t l p. let q = there_declared t l p in let b = q.begins in (none_count {s = declaration_of inner} none).none b.text l q.vec b.spells b.reads,
      );
    }

    -- it was mapped behind what stands in front of it
    pub declared_streams : {n : ℕ} {start : List ℕ} (old : List ℕ) {out new : List ℕ} → BeginsNumber 128 32 32 xs n start → out ≡ old ++ (0x01 ∷ byte_of inner ∷ []) → (r : Left E) →
        StreamsScope i (declaration_of inner) n (depth + 1) start s0 out m new r → StreamsAt i (declaration_of s) depth bytes s0 old m new r
    declared_streams {n = n} {start = start} old number grown r g =
        wrapped i (λ u. declared_type inner u) (0x01 ∷ byte_of inner ∷ []) back
        (λ u w. (declared_spelled s (type_spelled inner w), refl)) old grown r g
      where
        back : (t : Tree) (l : List ℕ) → BeginsAt (declaration_of s) depth bytes t l → Wraps (asks i) (λ u. declared_type inner u) (λ u r. ScopeBegins (declaration_of inner) n (depth + 1) start u r) t l
        back t l p =
            let q = there_declared t l p in
            let v = vec_parts q.vec l number q.begins in
            let O : Tree → Type 0 = λ z. suc (opens z) + depth ≤ 200 in
            let most : suc (opens v.items) + depth ≤ 200 = subst O v.is q.most in record {
              inner = Tree.scope q.vec;
              is = q.is;
              there = record {
                rows = v.items;
                is = ap (λ (z : Tree). Tree.scope z) v.is;
                inside = record { begins = record { counted = v.counted; begins = v.begins }; shallow = record { most = omega arith } };
              };
              walks = λ c s. two_bytes (number_of inner) (byte_of inner) 1 0x01 (walk (asks i) c s (Tree.scope q.vec));
              visited = refl;
            }

-- ---- a component type or an instance type as a row of a section

module _ {S E : Type 0} (i : Ghosts S E) (sc : Scope) {n depth : ℕ} {bytes : List ℕ} {s m : S} where
  -- it was mapped behind its byte
  pub type_streams : (old : List ℕ) {out new : List ℕ} → out ≡ old ++ byte_of sc ∷ [] → (r : Left E) → StreamsScope i (declaration_of sc) n depth bytes s out m new r →
      StreamsAs i (λ t l. TypeBegins sc n depth bytes t l) (SpelledAs component_type) s old m new r
  type_streams old grown r g =
      wrapped i (λ u. type_of sc u) (byte_of sc ∷ [])
      (λ t l p. record {
        inner = p.inner;
        is = p.is;
        there = p.begins;
        walks = λ c s. one_byte (number_of sc) (byte_of sc) (walk (asks i) c s p.inner);
        visited = refl;
      })
      (λ u w. (type_spelled sc w, refl)) old grown r g

  -- nothing of the kind stands there
  pub type_absent : {old new : List ℕ} (e : Error E) → StreamsAs i (λ t l. TypeBegins sc n depth bytes t l) (SpelledAs component_type) s old m new (Ok None) → ScopeRefused i sc n depth bytes s e m
  type_absent e g = record { refuses = λ keeps t l p other c. absurd (g.gives.1 t l p); visited = λ keeps sure t l p. absurd (g.gives.1 t l p) }

  -- it was not begun
  pub type_unbegun : m ≡ s → ScopeRefused i sc n depth bytes s NoMemory m
  type_unbegun same = record { refuses = λ keeps t l p other c. absurd (other refl); visited = λ keeps sure t l p. record { front = []; rest = visits t; parts = refl; state = sym same } }

  module _ {old new : List Tree} (t : Tree) (left : List ℕ) (p : TypeBegins sc n depth bytes t left) where
    pub declared_added : AddsIf (λ u. ScopeMapped i sc n depth bytes s u m) old new true → RowClauses i t s old m new (Ok tt)
    declared_added h = row_mapped i t (λ (u : Tree). u) s m h.0 (λ keeps c. h.1 keeps t left p c) h.2

    -- it is one too many
    pub declared_too_many : AddsIf (λ u. ScopeMapped i sc n depth bytes s u m) old new false → RowClauses i t s old m new (Err (TooLarge (2 ^ 32)))
    declared_too_many h =
        row_not_added i t (λ (u : Tree). u) s m h.0 (fault.TooLarge (2 ^ 32)) (λ keeps c. h.1 keeps t left p c) h.2
        (one_too_many h.0 (length old) (fault.TooLarge (2 ^ 32)) (let all : length old + 1 ≡ 2 ^ 32 = h.3 in (omega (arith, all), omega arith))) (Err (TooLarge (2 ^ 32))) refl

    pub declared_refused : (e : Error E) → new ≡ old → ScopeRefused i sc n depth bytes s e m → RowClauses i t s old m new (Err e)
    declared_refused e same g =
        row_unmapped i t (λ (u : Tree). u) s m e (λ keeps c other. g.refuses keeps t left p other c) (λ keeps sure. g.visited keeps sure t left p) same (Err e) refl

-- what stands for a type whose declarations a reader has still to read
pub type_begins : (sc : Scope) (depth : ℕ) (reader : ScopedStanding) (t : Tree) → Behind (number_of sc) (byte_of sc) (DeclaresAt (declaration_of sc) depth reader) t → Shallow depth t →
    TypeBegins sc reader.rows.left reader.depth reader.rows.rest t []
type_begins sc depth reader t stands low =
    let inside = stands.stands.declares in
    let rows : Tree = inside.rows in
    let same : t ≡ type_of sc (Tree.scope (Tree.vec rows)) = stands.is ∙ ap (λ (z : Tree). type_of sc z) inside.is in
    let deeper : reader.depth ≡ depth + 1 = stands.stands.deeper in
    let D : Tree → Type 0 = λ z. Shallow depth z in
    let most : max zero (suc (opens rows)) + depth ≤ 200 = (subst D same low).most in record {
      inner = stands.inner;
      is = stands.is;
      begins = record {
        rows = rows;
        is = inside.is;
        inside = record {
          begins = record {
            counted = inside.left.counted;
            begins = record { text = reader.rows.rest; spells = record { shaped = inside.left.shaped; spelled = inside.left.spelled }; reads = sym (append-nil reader.rows.rest) };
          };
          shallow = record { most = omega arith };
        };
      };
    }
