-- The rows of a code section that are held, and others behind them.
use Rattle.std.proofs.Common.{◌≡◌, ℕ, ◌+◌, ◌<◌, ◌^◌, List, [], ◌∷◌, ◌++◌, length, true, ◌-◌, take, refl, sym, ap, ap₂, ◌∙◌, subst, append_assoc, append-nil, length-append, arith}
use mathlib.Core.Bool.{false≢true}
use mathlib.Core.Logic.{∥∥₁_elim, ∥∥₁_map, ∥∥₁_prop}
use Rattle.wasm_leb.specs.Leb.{leb}
use Rattle.wasm_leb.specs.Place.{BeginsNumber, BeginsNoNumber}
use Rattle.wasm_leb.proofs.Shortest.{leb_spells}
use Rattle.wasm_leb.proofs.Unique.{leb_fills, unsigned_unique}
use Rattle.wasm_leb.specs.Leb.{IsUnsigned}
use Rattle.std.proofs.lemmas.List.{append_cancel_left}
use Rattle.std.proofs.Math.Seq.{take-append_seam}
use Rattle.wasm_shapes.specs.Tree.{Tree, normal}
use Rattle.wasm_shapes.specs.Shape.{Shape}
use Rattle.wasm_shapes.specs.Sound.{nullable, sound}
use Rattle.wasm_shapes.specs.Module.{body, code_row}
use Rattle.wasm_shapes.specs.Spells.{Is, Spelled, Spells}
use Rattle.wasm_shapes.specs.Types.{rows_tree}
use Rattle.wasm_shapes.proofs.Fronts.{nullable_sound}
use Rattle.wasm_shapes.proofs.Lists.{no_bytes}
use Rattle.wasm_write.specs.Held.{AreHeld, Held, Held-one, held_rows}
use Rattle.wasm_write.specs.Bodies.{HeldBody, code_tree, function_body, held_body}
use Rattle.wasm_write.proofs.Holding.{held_grown, held_grown_is}
use Rattle.wasm_write.proofs.HoldingBodies.{body_normal, body_spells, framed_spells, many_is, many_spelled, row_normal}
use Rattle.reencode_core.specs.Sinks.{code_sound}

many_normal : (xs ys : List Tree) → normal (rows_tree (xs ++ ys)) ≡ normal (rows_tree xs) ++ normal (rows_tree ys)
many_normal [] ys = refl
many_normal (u ∷ xs) ys = ap (λ (z : List ℕ). normal u ++ z) (many_normal xs ys) ∙ sym (append_assoc (normal u) (normal (rows_tree xs)) (normal (rows_tree ys)))

are_both : {s : Shape} {n : ℕ} {bytes : List ℕ} {rows : List Tree} (ts : List Tree) → AreHeld s n bytes rows → Spells (Shape.many s) (normal (rows_tree ts)) (rows_tree ts) →
    AreHeld s (n + length ts) (bytes ++ normal (rows_tree ts)) (rows ++ ts)
are_both {bytes = bytes} {rows = rows} ts r p = record {
  shaped = many_is rows ts r.shaped p.shaped;
  counted = length-append rows ts ∙ ap (λ (k : ℕ). k + length ts) r.counted;
  spelled = many_spelled rows ts bytes (normal (rows_tree ts)) r.spelled p.spelled;
  normally = many_normal rows ts ∙ ap (λ (z : List ℕ). z ++ normal (rows_tree ts)) r.normally;
}

module _ {s : Shape} {n : ℕ} {bytes : List ℕ} (h : Held s n bytes) (ts : List Tree) where
  -- the bytes have grown by rows
  pub held_both : {m : ℕ} {new : List ℕ} → m ≡ n + length ts → new ≡ bytes ++ normal (rows_tree ts) → ∥ Spells (Shape.many s) (normal (rows_tree ts)) (rows_tree ts) ∥₁ → Held s m new
  held_both c e p = (h.0 ++ ts, ∥∥₁_elim h.1 ∥∥₁_prop (λ r. ∥∥₁_map p (λ q. rw (c, e) (are_both ts r q))))

  pub held_both_is : {m : ℕ} {new : List ℕ} → sound (Shape.many s) ≡ true → (k : Held s m new) → m ≡ n + length ts → new ≡ bytes ++ normal (rows_tree ts) →
      ∥ Spells (Shape.many s) (normal (rows_tree ts)) (rows_tree ts) ∥₁ → held_rows s m new k ≡ held_rows s n bytes h ++ ts
  unfolding held_rows held_both
  held_both_is {m} {new} passes k c e p = Held-one s passes m new k (held_both c e p)

-- ---- one row

-- behind its number stands the body
pub body_behind : (u : Tree) (rows left : List ℕ) (n : ℕ) → length (normal u) < 2 ^ 32 → rows ≡ normal (rows_tree (Tree.sized u ∷ [])) → BeginsNumber 128 32 32 rows n left → left ≡ normal u
body_behind u rows left n short is b =
    let number : List ℕ = leb (length (normal u)) in
    let parts : number ++ normal u ≡ b.0 ++ left = sym (append-nil (number ++ normal u)) ∙ sym is ∙ b.2 in
    let same = unsigned_unique (normal u) left (leb_spells (length (normal u)) short) b.1 parts in
    sym (append_cancel_left b.0 (normal u) left (ap (λ (z : List ℕ). z ++ normal u) (sym same.0) ∙ parts))

pub body_begins : (u : Tree) (rows : List ℕ) → length (normal u) < 2 ^ 32 → rows ≡ normal (rows_tree (Tree.sized u ∷ [])) → BeginsNoNumber 128 32 32 rows → ⊥
body_begins u rows short is none =
    none (leb (length (normal u))) (normal u) (length (normal u)) (leb_spells (length (normal u)) short) (is ∙ append-nil (leb (length (normal u)) ++ normal u))

-- a number takes a byte
pub some_number : {n : ℕ} {text : List ℕ} → IsUnsigned 32 text n → 0 < length text
some_number {n = n} {text = []} p = absurd (leb_fills 128 [] n p.spelled refl)
some_number {text = b ∷ text} p = omega arith

-- what stands in front of what is left is the number
pub left_behind : {n : ℕ} (rows left body head : List ℕ) → BeginsNumber 128 32 32 rows n left → head ≡ take (length rows - length left) rows → left ≡ body →
    (rows ≡ head ++ body) × (0 < length head)
left_behind rows left body head b e same =
    let len : length rows ≡ length b.0 + length left = ap length b.2 ∙ length-append b.0 left in
    let counted : length rows - length left ≡ length b.0 = omega (arith, len) in
    let is : head ≡ b.0 = e ∙ ap (λ (k : ℕ). take k rows) counted ∙ ap (take (length b.0)) b.2 ∙ take-append_seam b.0 left in
    (b.2 ∙ ap₂ (λ (x y : List ℕ). x ++ y) (sym is) same, rw is (some_number b.1))

-- behind its number a row has a body, so that it is more than a number
pub more_than_number : (rows : List Tree) → ∥ Spells (Shape.many code_row) (normal (rows_tree rows)) (rows_tree rows) ∥₁ → length rows ≡ 1 → (n : ℕ) → IsUnsigned 32 (normal (rows_tree rows)) n → ⊥
more_than_number rows p one n q = ∥∥₁_elim p (λ x y. absurd x) (λ s. go rows one s.shaped s.spelled q)
  where
    row : (t : Tree) (x y : List ℕ) → Is code_row t → Spelled t x → IsUnsigned 32 (x ++ y) n → ⊥
    row t x y (Is.sized d) (number, text, parts, sized, spelled) q =
        let whole : number ++ (text ++ y) ≡ (x ++ y) ++ [] = sym (append_assoc number text y) ∙ ap (λ (z : List ℕ). z ++ y) (sym parts) ∙ sym (append-nil (x ++ y)) in
        let same = unsigned_unique (text ++ y) [] sized q whole in
        let none : text ++ y ≡ [] = append_cancel_left number (text ++ y) [] (whole ∙ ap (λ (z : List ℕ). z ++ []) (sym same.0)) in
        let never : nullable body ≡ true = nullable_sound d text spelled (no_bytes text y none).0 in
        false≢true never

    go : (rows : List Tree) → length rows ≡ 1 → Is (Shape.many code_row) (rows_tree rows) → Spelled (rows_tree rows) (normal (rows_tree rows)) → IsUnsigned 32 (normal (rows_tree rows)) n → ⊥
    go [] one d s q = absurd cc
    go (t ∷ rows) one (Is.cons d e) (x, y, parts, spelled, others) q = let P : List ℕ → Type 0 = λ z. IsUnsigned 32 z n in row t x y d spelled (subst P parts q)

-- what is left behind the number of rows that are more than one is not empty
pub some_left : {n : ℕ} {rows left : List ℕ} → ((n : ℕ) → IsUnsigned 32 rows n → ⊥) → BeginsNumber 128 32 32 rows n left → 0 < length left
some_left {n = n} {rows = rows} {left = []} more b = let P : List ℕ → Type 0 = λ z. IsUnsigned 32 z n in absurd (more n (subst P (sym (b.2 ∙ append-nil b.0)) b.1))
some_left {left = x ∷ left} more b = omega arith

-- ---- a body more

-- a body has bytes
pub body_fills : (bytes : List ℕ) → HeldBody bytes → 0 < length bytes
body_fills [] h = absurd (∥∥₁_elim h.1 (λ x y. absurd x) (λ b. let never : nullable body ≡ true = nullable_sound b.shaped [] b.spelled refl in false≢true never))
body_fills (b ∷ bytes) h = omega arith

-- the length of a body takes a byte
pub length_fills : (bytes : List ℕ) → length bytes < 2 ^ 32 → 0 < length (leb (length bytes))
length_fills bytes short = some_number (leb_spells (length bytes) short)

module _ {n : ℕ} {rows : List ℕ} (h : Held code_row n rows) {bytes : List ℕ} (held : HeldBody bytes) (short : length bytes < 2 ^ 32) where
  abbrev row : Tree
  row = code_tree (held_body bytes held)

  grows : {new : List ℕ} → new ≡ rows ++ (leb (length bytes) ++ bytes) → new ≡ rows ++ normal row
  grows e = e ∙ ap (λ (z : List ℕ). rows ++ z) (sym (row_normal held))

  row_spells : ∥ Spells code_row (normal row) row ∥₁
  row_spells =
      let small : length (normal (function_body (held_body bytes held))) < 2 ^ 32 = rw (body_normal held) short in
      framed_spells (held_body bytes held) small (body_spells held)

  -- the bytes have grown by a body in its frame
  pub held_framed : {m : ℕ} {new : List ℕ} → m ≡ n + 1 → new ≡ rows ++ (leb (length bytes) ++ bytes) → Held code_row m new
  held_framed {new = new} count e =
      let P : ℕ → Type 0 = λ k. Held code_row k new in
      subst P (sym count) (held_grown h row (grows e) row_spells)

  pub held_framed_is : {m : ℕ} {new : List ℕ} (k : Held code_row m new) → m ≡ n + 1 → new ≡ rows ++ (leb (length bytes) ++ bytes) → held_rows code_row m new k ≡ held_rows code_row n rows h ++ row ∷ []
  held_framed_is {new = new} k count e =
      let P : ℕ → Type 0 = λ m. (k : Held code_row m new) → held_rows code_row m new k ≡ held_rows code_row n rows h ++ row ∷ [] in
      subst P (sym count) (λ k. held_grown_is h row code_sound k (grows e) row_spells) k
