-- Functions, code sections and constant expressions that are held, and one operator or row more.
use Rattle.std.specs.Prelude.{IfErr}
use Rattle.std.proofs.Common.{◌≡◌, ℕ, ◌-◌, ◌<◌, ◌≤◌, ◌^◌, ◌⊎◌, inr, Result, Ok, Err, List, [], ◌∷◌, ◌++◌, length, map, refl, sym, ap, ap₂, ◌∙◌, append-nil, append_assoc, subst, true, false, ◌≢◌, OnOk, OnErr}
use Rattle.std.specs.Coded.{Coded-set, coded_ℕ, coded_list}
use mathlib.Core.Logic.{∥∥₁_elim, ∥∥₁_map, ∥∥₁_prop}
use Rattle.wasm_leb.specs.Leb.{leb}
use Rattle.wasm_leb.proofs.Shortest.{leb_spells}
use Rattle.wasm_shapes.specs.Tree.{Tree, normal}
use Rattle.wasm_shapes.specs.Operators.{plain, code_of}
use Rattle.wasm_shapes.specs.Shape.{Shape, Named}
use Rattle.wasm_shapes.specs.Module.{local_row, body as body_shape, code_row}
use Rattle.wasm_shapes.specs.Spells.{Is, Spelled, Spells}
use Rattle.wasm_shapes.specs.Fits.{InRange}
use Rattle.wasm_shapes.proofs.Expressions.{inner_is}
use Rattle.wasm_shapes.proofs.Frameless.{frameless_spells}
use Rattle.wasm_shapes.proofs.ReadBack.{spelled_in_range, in_range_had}
use Rattle.wasm_write.specs.Types.{ValType}
use Rattle.wasm_shapes.specs.Types.{rows_tree, vector_tree, expression_of}
use Rattle.wasm_write.specs.declared.fault.WriteFault.{WriteFault}
use Rattle.wasm_write.specs.declared.fault.WriteFault.TheVariants.{TooLarge, NoMemory}
use Rattle.wasm_write.specs.Held.{AreHeld}
use Rattle.wasm_write.specs.Counts.{counts, IsTooLarge}
use Rattle.wasm_write.specs.Faults.{IfTooLarge}
use Rattle.wasm_write.specs.Instructions.{Parts, imms_tree, instruction_tree}
use Rattle.wasm_write.specs.Bodies.{AreOperators, Body, CodeRows, GainsBody, code_rows_code, with_row, local_tree, with_operator, with_operators, function_body, code_tree, IsBody, HeldBody, HeldBody-one, held_body, HeldOperators, HeldOperators-one, held_operators}
use Rattle.wasm_shapes.proofs.Rows.{snoc_is, snoc_spelled}
use Rattle.wasm_write.proofs.Holding.{snoc_normal, are_none, are_many_more}
use Rattle.wasm_write.proofs.SmallCounts.{counts_small, last_is_large}
use Rattle.wasm_write.proofs.TypeShapes.{items_are, value_is}

abbrev with_locals : List (ℕ × ValType) → Body
with_locals locals = record { locals = map local_tree locals; operators = [] }

is_new : (locals : List (ℕ × ValType)) → InRange (vector_tree (map local_tree locals)) → IsBody (normal (vector_tree (map local_tree locals))) (with_locals locals)
is_new locals r =
    let rows = vector_tree (map local_tree locals) in
    let all = frameless_spells (Shape.vec local_row) refl (Is.vec (items_are local_row local_tree (λ l. Is.seq Is.u32 (value_is l.1)) locals)) r in record {
      shaped = Is.seq all.shaped Is.nil;
      spelled = (normal rows, [], sym (append-nil (normal rows)), all.spelled, refl);
      normally = append-nil (normal rows);
    }

is_more : {bytes : List ℕ} {f : Body} {t : Tree} → IsBody bytes f → Spells (Shape.op true) (normal t) t → IsBody (bytes ++ normal t) (with_operator f t)
is_more {bytes = bytes} {f = f} {t = t} b p = record {
  shaped = go b.shaped;
  spelled = (
    b.spelled.0,
    b.spelled.1 ++ normal t,
    ap (λ (z : List ℕ). z ++ normal t) b.spelled.2 ∙ append_assoc b.spelled.0 b.spelled.1 (normal t),
    b.spelled.3,
    snoc_spelled f.operators t b.spelled.1 (normal t) b.spelled.4 p.spelled,
  );
  normally =
      ap (λ (z : List ℕ). normal (vector_tree f.locals) ++ z) (snoc_normal f.operators t)
      ∙ sym (append_assoc (normal (vector_tree f.locals)) (normal (rows_tree f.operators)) (normal t)) ∙ ap (λ (z : List ℕ). z ++ normal t) b.normally;
}
  where
    go : Is body_shape (function_body f) → Is body_shape (function_body (with_operator f t))
    go (Is.seq d e) = Is.seq d (snoc_is f.operators e p.shaped)

-- ---- several operators more

pub many_is : {s : Shape} (xs ys : List Tree) → Is (Shape.many s) (rows_tree xs) → Is (Shape.many s) (rows_tree ys) → Is (Shape.many s) (rows_tree (xs ++ ys))
many_is [] ys d e = e
many_is (u ∷ xs) ys (Is.cons d d') e = Is.cons d (many_is xs ys d' e)

pub many_spelled : (xs ys : List Tree) (x y : List ℕ) → Spelled (rows_tree xs) x → Spelled (rows_tree ys) y → Spelled (rows_tree (xs ++ ys)) (x ++ y)
many_spelled [] ys x y p q = let P : List ℕ → Type 0 = λ z. Spelled (rows_tree ys) (z ++ y) in subst P (sym p) q
many_spelled (u ∷ xs) ys x y p q =
    (p.0, p.1 ++ y, ap (λ (z : List ℕ). z ++ y) p.2 ∙ append_assoc p.0 p.1 y, p.3, many_spelled xs ys p.1 y p.4 q)

many_normal : (xs ys : List Tree) → normal (rows_tree (xs ++ ys)) ≡ normal (rows_tree xs) ++ normal (rows_tree ys)
many_normal [] ys = refl
many_normal (u ∷ xs) ys = ap (λ (z : List ℕ). normal u ++ z) (many_normal xs ys) ∙ sym (append_assoc (normal u) (normal (rows_tree xs)) (normal (rows_tree ys)))

is_many : {bytes text : List ℕ} {f : Body} {rows : List Tree} → IsBody bytes f → AreOperators text rows → IsBody (bytes ++ text) (with_operators f rows)
is_many {text = text} {f = f} {rows = rows} b p = record {
  shaped = go b.shaped;
  spelled = (
    b.spelled.0,
    b.spelled.1 ++ text,
    ap (λ (z : List ℕ). z ++ text) b.spelled.2 ∙ append_assoc b.spelled.0 b.spelled.1 text,
    b.spelled.3,
    many_spelled f.operators rows b.spelled.1 text b.spelled.4 p.spelled,
  );
  normally =
      ap (λ (z : List ℕ). normal (vector_tree f.locals) ++ z) (many_normal f.operators rows)
      ∙ sym (append_assoc (normal (vector_tree f.locals)) (normal (rows_tree f.operators)) (normal (rows_tree rows)))
      ∙ ap₂ (λ (y z : List ℕ). y ++ z) b.normally p.normally;
}
  where
    go : Is body_shape (function_body f) → Is body_shape (function_body (with_operators f rows))
    go (Is.seq d e) = Is.seq d (many_is f.operators rows e p.shaped)

module _ {bytes : List ℕ} (locals : List (ℕ × ValType)) (e : bytes ≡ normal (vector_tree (map local_tree locals))) (r : InRange (vector_tree (map local_tree locals))) where
  pub body_new : HeldBody bytes
  body_new = (with_locals locals, ∣ rw e (is_new locals r) ∣₁)

  pub body_new_is : (h : HeldBody bytes) → held_body bytes h ≡ with_locals locals
  unfolding held_body body_new
  body_new_is h = HeldBody-one bytes h body_new

module _ {bytes : List ℕ} (h : HeldBody bytes) where
  pub body_normal : normal (function_body (held_body bytes h)) ≡ bytes
  unfolding held_body
  body_normal = ∥∥₁_elim h.1 (Coded-set (coded_list coded_ℕ) (normal (function_body h.0)) bytes) (λ b. b.normally)

  pub body_spells : ∥ Spells body_shape (normal (function_body (held_body bytes h))) (function_body (held_body bytes h)) ∥₁
  unfolding held_body
  body_spells =
      let P : List ℕ → Type 0 = λ z. Spelled (function_body h.0) z in
      ∥∥₁_map h.1 (λ b. record { shaped = b.shaped; spelled = subst P (sym b.normally) b.spelled })

  -- the bytes have grown by an operator
  pub body_grown : {new : List ℕ} (t : Tree) → new ≡ bytes ++ normal t → ∥ Spells (Shape.op true) (normal t) t ∥₁ → HeldBody new
  body_grown t e p = (with_operator h.0 t, ∥∥₁_elim h.1 ∥∥₁_prop (λ b. ∥∥₁_map p (λ q. rw e (is_more b q))))

  pub body_grown_is : {new : List ℕ} (t : Tree) (k : HeldBody new) → new ≡ bytes ++ normal t → ∥ Spells (Shape.op true) (normal t) t ∥₁ →
      held_body new k ≡ with_operator (held_body bytes h) t
  unfolding held_body body_grown
  body_grown_is {new} t k e p = HeldBody-one new k (body_grown t e p)

  abbrev body_many : {text : List ℕ} (rows : List Tree) → AreOperators text rows → HeldBody (bytes ++ text)
  body_many rows p = (with_operators h.0 rows, ∥∥₁_map h.1 (λ b. is_many b p))

  -- the bytes have grown by several operators
  pub body_joined : {new text : List ℕ} (rows : List Tree) → new ≡ bytes ++ text → AreOperators text rows → HeldBody new
  body_joined rows e p = let P : List ℕ → Type 0 = λ z. HeldBody z in subst P (sym e) (body_many rows p)

  -- or they are as they were
  pub body_perhaps_joined : {A E : Type 0} {new text : List ℕ} (r : Result A E) (rows : List Tree) → OnOk r (new ≡ bytes ++ text) → OnErr r (new ≡ bytes) → AreOperators text rows → HeldBody new
  body_perhaps_joined (Ok a) rows grown same p = body_joined rows grown p
  body_perhaps_joined (Err e) rows grown same p = let P : List ℕ → Type 0 = λ z. HeldBody z in subst P (sym same) h

  pub body_joined_is : {new text : List ℕ} (rows : List Tree) (k : HeldBody new) → new ≡ bytes ++ text → AreOperators text rows →
      held_body new k ≡ with_operators (held_body bytes h) rows
  unfolding held_body
  body_joined_is {text = text} rows k e p =
      let P : List ℕ → Type 0 = λ z. (k : HeldBody z) → k.0 ≡ with_operators h.0 rows in
      subst P (sym e) (λ k. HeldBody-one (bytes ++ text) k (body_many rows p)) k

  -- the bytes are the same
  pub body_same_is : {new : List ℕ} (k : HeldBody new) → new ≡ bytes → held_body new k ≡ held_body bytes h
  unfolding held_body
  body_same_is {new} k e = HeldBody-one new k (h.0, ∥∥₁_map h.1 (λ b. rw e b))

-- ---- a code section

-- the function that these bytes spell
pub body_is : {bytes : List ℕ} (h : HeldBody bytes) (f : Body) → IsBody bytes f → held_body bytes h ≡ f
unfolding held_body
body_is {bytes = bytes} h f p = HeldBody-one bytes h (f, ∣ p ∣₁)

-- what a function holds
pub body_held : {bytes : List ℕ} (f : Body) → bytes ≡ normal (function_body f) → ∥ Spells body_shape (normal (function_body f)) (function_body f) ∥₁ → HeldBody bytes
body_held f e p = (f, ∥∥₁_map p (λ q. rw e (record { shaped = q.shaped; spelled = q.spelled; normally = refl })))

-- a section gains that row
pub gains_row : {bytes : List ℕ} (h : HeldBody bytes) (old new : CodeRows) → new ≡ with_row old (code_tree (held_body bytes h)) → GainsBody old bytes new
gains_row h old new e f p = e ∙ ap (λ (g : Body). with_row old (code_tree g)) (body_is h f p)

pub gained_row : {bytes : List ℕ} (f : Body) (old new : CodeRows) → bytes ≡ normal (function_body f) → ∥ Spells body_shape (normal (function_body f)) (function_body f) ∥₁ → GainsBody old bytes new →
    new ≡ with_row old (code_tree f)
unfolding body_held
gained_row f old new e p gains =
    ∥∥₁_elim (body_held f e p).1 (Coded-set code_rows_code new (with_row old (code_tree f))) (λ b. gains f b)

-- its spelling
pub row_normal : {bytes : List ℕ} (h : HeldBody bytes) → normal (code_tree (held_body bytes h)) ≡ leb (length bytes) ++ bytes
row_normal h = ap (λ (z : List ℕ). leb (length z) ++ z) (body_normal h)

-- a function in its frame
pub framed_spells : (f : Body) → length (normal (function_body f)) < 2 ^ 32 → ∥ Spells body_shape (normal (function_body f)) (function_body f) ∥₁ →
    ∥ Spells code_row (normal (code_tree f)) (code_tree f) ∥₁
framed_spells f small p =
    let body = normal (function_body f) in
    ∥∥₁_map p (λ q. record {
      shaped = Is.sized q.shaped;
      spelled = (leb (length body), body, refl, leb_spells (length body) small, q.spelled);
    })

-- a function that fits is refused for the number of the rows alone
pub code_large : {A : Type 0} {bytes : List ℕ} (r : Result A WriteFault) (h : HeldBody bytes) (ceiling n : ℕ) → length bytes ≤ ceiling →
    IfErr r (λ e. IfTooLarge e (IsTooLarge (counts (code_tree (held_body bytes h)) ++ n ∷ []))) →
    IfErr r (λ e. IfTooLarge e (λ size. ((size ≡ length bytes) × (ceiling < size)) ⊎ ((size ≡ n) × (2 ^ 32 - 1 < size) × (length bytes ≤ ceiling))))
code_large (Ok a) h ceiling n fits q = tt
code_large (Err NoMemory) h ceiling n fits q = tt
code_large {bytes = bytes} (Err (TooLarge size)) h ceiling n fits q =
    let body = function_body (held_body bytes h) in
    let ranged = in_range_had body (∥∥₁_map (body_spells h) (λ s. spelled_in_range body (normal body) s.spelled)) in
    let last = last_is_large (counts body) n size (counts_small body ranged) q in
    inr (last.0, last.1, fits)

-- ---- a constant expression

inner_operator : (i : Parts) → code_of i.opcode ≢ plain 0x0b → Spells (Shape.op true) (normal (instruction_tree i)) (instruction_tree i) →
    Spells (Shape.op false) (normal (instruction_tree i)) (instruction_tree i)
inner_operator i other p = record { shaped = inner_is (code_of i.opcode) (imms_tree i.imms) other p.shaped; spelled = p.spelled }

-- two runs of operators, one behind the other
are_joined : {s : Shape} {x y : List ℕ} {xs ys : List Tree} → AreHeld s (length xs) x xs → AreHeld s (length ys) y ys → AreHeld s (length (xs ++ ys)) (x ++ y) (xs ++ ys)
are_joined {x = x} {y = y} {xs = xs} {ys = ys} p q = record {
  shaped = many_is xs ys p.shaped q.shaped;
  counted = refl;
  spelled = many_spelled xs ys x y p.spelled q.spelled;
  normally = many_normal xs ys ∙ ap₂ (λ (v z : List ℕ). v ++ z) p.normally q.normally;
}

pub expression_none : {bytes : List ℕ} → bytes ≡ [] → HeldOperators bytes
expression_none e = ([], ∣ rw e (are_none (Shape.op false)) ∣₁)

pub expression_none_is : {bytes : List ℕ} (h : HeldOperators bytes) → bytes ≡ [] → held_operators bytes h ≡ []
unfolding held_operators expression_none
expression_none_is {bytes} h e = HeldOperators-one bytes h (expression_none e)

module _ {bytes : List ℕ} (h : HeldOperators bytes) where
  -- the bytes have grown by an operator
  pub operators_grown : {new : List ℕ} (i : Parts) → code_of i.opcode ≢ plain 0x0b → new ≡ bytes ++ normal (instruction_tree i) →
      ∥ Spells (Shape.op true) (normal (instruction_tree i)) (instruction_tree i) ∥₁ → HeldOperators new
  operators_grown i other e p =
      (h.0 ++ instruction_tree i ∷ [], ∥∥₁_elim h.1 ∥∥₁_prop (λ r. ∥∥₁_map p (λ q. rw e (are_many_more r (inner_operator i other q)))))

  pub operators_grown_is : {new : List ℕ} (i : Parts) (k : HeldOperators new) → code_of i.opcode ≢ plain 0x0b → new ≡ bytes ++ normal (instruction_tree i) →
      ∥ Spells (Shape.op true) (normal (instruction_tree i)) (instruction_tree i) ∥₁ → held_operators new k ≡ held_operators bytes h ++ instruction_tree i ∷ []
  unfolding held_operators operators_grown
  operators_grown_is {new} i k other e p = HeldOperators-one new k (operators_grown i other e p)

  -- the bytes have grown by several operators
  pub operators_joined : {new text : List ℕ} → new ≡ bytes ++ text → HeldOperators text → HeldOperators new
  operators_joined e q = (h.0 ++ q.0, ∥∥₁_elim h.1 ∥∥₁_prop (λ r. ∥∥₁_map q.1 (λ p. rw e (are_joined r p))))

  -- or they are as they were
  pub operators_perhaps_joined : {A E : Type 0} {new text : List ℕ} (r : Result A E) → OnOk r (new ≡ bytes ++ text) → OnErr r (new ≡ bytes) → HeldOperators text → HeldOperators new
  operators_perhaps_joined (Ok a) grown same q = operators_joined grown q
  operators_perhaps_joined (Err e) grown same q = let P : List ℕ → Type 0 = λ z. HeldOperators z in subst P (sym same) h

  pub operators_joined_is : {new text : List ℕ} (k : HeldOperators new) → new ≡ bytes ++ text → (q : HeldOperators text) → held_operators new k ≡ held_operators bytes h ++ q.0
  unfolding held_operators operators_joined
  operators_joined_is {new} k e q = HeldOperators-one new k (operators_joined e q)

  -- the bytes are the same
  pub operators_same_is : {new : List ℕ} (k : HeldOperators new) → new ≡ bytes → held_operators new k ≡ held_operators bytes h
  unfolding held_operators
  operators_same_is {new} k e = HeldOperators-one new k (h.0, ∥∥₁_map h.1 (λ r. rw e r))

  -- they stand before the byte of `end`
  pub expression_normal : normal (expression_of (held_operators bytes h)) ≡ bytes ++ 0x0b ∷ []
  unfolding held_operators
  expression_normal =
      ap (λ (z : List ℕ). z ++ 0x0b ∷ [])
      (∥∥₁_elim h.1 (Coded-set (coded_list coded_ℕ) (normal (rows_tree h.0)) bytes) (λ r. r.normally))

  pub expression_spells : ∥ Spells (Shape.ref Named.expression) (normal (expression_of (held_operators bytes h))) (expression_of (held_operators bytes h)) ∥₁
  unfolding held_operators
  expression_spells =
      let P : List ℕ → Type 0 = λ z. Spelled (rows_tree h.0) z in
      ∥∥₁_map h.1 (λ r. record {
        shaped = Is.ref (Is.until r.shaped);
        spelled = (normal (rows_tree h.0), refl, subst P (sym r.normally) r.spelled);
      })
