-- Rows that are held, and one more.
use Rattle.std.proofs.Common.{◌≡◌, ℕ, suc, ◌+◌, ◌<◌, ◌≤◌, ◌^◌, List, [], ◌∷◌, ◌++◌, length, refl, sym, ap, ap₂, ◌∙◌, append-nil, append_assoc, subst, true, length-append, drop, take, arith, Result, Ok, Err, OnOk}
use Rattle.std.proofs.lemmas.List.{drop-append-le}
use Rattle.std.proofs.Math.Seq.{take-append_seam}
use Rattle.std.specs.Coded.{Coded-set, coded_ℕ, coded_list}
use mathlib.Core.Logic.{∥∥₁_elim, ∥∥₁_map, ∥∥₁_prop}
use Rattle.wasm_leb.specs.Leb.{leb}
use Rattle.wasm_leb.proofs.Shortest.{leb_spells}
use Rattle.wasm_shapes.specs.Tree.{Tree, count, normal}
use Rattle.wasm_shapes.specs.Shape.{Shape}
use Rattle.wasm_shapes.specs.Sound.{sound}
use Rattle.wasm_shapes.specs.Spells.{Is, Spelled, Spells}
use Rattle.wasm_shapes.specs.Types.{rows_tree, vector_tree}
use Rattle.wasm_shapes.proofs.Rows.{snoc_is, snoc_spelled}
use Rattle.wasm_write.specs.Held.{BodySpells, AreHeld, Held, Held-one, held_rows}

-- ---- rows as a tree

pub count_rows : (rows : List Tree) → count (rows_tree rows) ≡ length rows
count_rows [] = refl
count_rows (t ∷ rows) = ap suc (count_rows rows)

pub snoc_normal : (rows : List Tree) (t : Tree) → normal (rows_tree (rows ++ t ∷ [])) ≡ normal (rows_tree rows) ++ normal t
snoc_normal [] t = append-nil (normal t)
snoc_normal (u ∷ rows) t = ap (λ (z : List ℕ). normal u ++ z) (snoc_normal rows t) ∙ sym (append_assoc (normal u) (normal (rows_tree rows)) (normal t))

pub snoc_length : (rows : List Tree) (t : Tree) → length (rows ++ t ∷ []) ≡ length rows + 1
snoc_length rows t = length-append rows (t ∷ [])

-- ---- none, one more, the same

pub are_none : (s : Shape) → AreHeld s 0 [] []
are_none s = record { shaped = Is.nil; counted = refl; spelled = refl; normally = refl }

pub are_more : {s : Shape} {n : ℕ} {bytes : List ℕ} {rows : List Tree} {t : Tree} → AreHeld s n bytes rows → Spells s (normal t) t →
    AreHeld s (n + 1) (bytes ++ normal t) (rows ++ t ∷ [])
are_more {bytes = bytes} {rows = rows} {t = t} r p = record {
  shaped = snoc_is rows r.shaped p.shaped;
  counted = snoc_length rows t ∙ ap (λ (k : ℕ). k + 1) r.counted;
  spelled = snoc_spelled rows t bytes (normal t) r.spelled p.spelled;
  normally = snoc_normal rows t ∙ ap (λ (z : List ℕ). z ++ normal t) r.normally;
}

-- the same where they are as many as they are
pub are_many_more : {s : Shape} {bytes : List ℕ} {rows : List Tree} {t : Tree} → AreHeld s (length rows) bytes rows → Spells s (normal t) t →
    AreHeld s (length (rows ++ t ∷ [])) (bytes ++ normal t) (rows ++ t ∷ [])
are_many_more {rows = rows} {t = t} r p = rw (snoc_length rows t) (are_more r p)

module _ (s : Shape) {bytes : List ℕ} where
  pub held_none : bytes ≡ [] → Held s 0 bytes
  held_none e = ([], ∣ rw e (are_none s) ∣₁)

  pub held_none_is : sound (Shape.many s) ≡ true → (h : Held s 0 bytes) → bytes ≡ [] → held_rows s 0 bytes h ≡ []
  unfolding held_rows held_none
  held_none_is passes h e = Held-one s passes 0 bytes h (held_none e)

module _ {s : Shape} {n : ℕ} {bytes : List ℕ} (h : Held s n bytes) where
  pub held_length : length (held_rows s n bytes h) ≡ n
  unfolding held_rows
  held_length = ∥∥₁_elim h.1 (Coded-set coded_ℕ (length h.0) n) (λ r. r.counted)

  -- the body is the number of the rows, and their spelling
  pub held_normal : normal (vector_tree (held_rows s n bytes h)) ≡ leb n ++ bytes
  unfolding held_rows
  held_normal =
      ap₂ (λ (k : ℕ) (z : List ℕ). leb k ++ z) (count_rows h.0 ∙ held_length)
      (∥∥₁_elim h.1 (Coded-set (coded_list coded_ℕ) (normal (rows_tree h.0)) bytes) (λ r. r.normally))

  pub held_rows_normal : normal (rows_tree (held_rows s n bytes h)) ≡ bytes
  unfolding held_rows
  held_rows_normal = ∥∥₁_elim h.1 (Coded-set (coded_list coded_ℕ) (normal (rows_tree h.0)) bytes) (λ r. r.normally)

  -- it spells rows one behind another
  pub held_many : ∥ Spells (Shape.many s) (normal (rows_tree (held_rows s n bytes h))) (rows_tree (held_rows s n bytes h)) ∥₁
  unfolding held_rows
  held_many =
      let P : List Tree → List ℕ → Type 0 = λ rows z. Spelled (rows_tree rows) z in
      ∥∥₁_map h.1 (λ r. record { shaped = r.shaped; spelled = subst (P h.0) (sym r.normally) r.spelled })

  -- it spells a vector of rows
  pub held_spells : n < 2 ^ 32 → BodySpells s (held_rows s n bytes h)
  unfolding held_rows
  held_spells small = record {
    spells = ∥∥₁_map h.1 (λ r. record { shaped = Is.vec r.shaped; spelled = go h.0 r });
    reads_back = λ shape d. ∥∥₁_map h.1 (λ r. record { shaped = d; spelled = go h.0 r });
  }
    where
      go : (rows : List Tree) → AreHeld s n bytes rows → Spelled (vector_tree rows) (normal (vector_tree rows))
      go rows r =
          let few : count (rows_tree rows) < 2 ^ 32 = rw (count_rows rows ∙ r.counted) small in
          let P : List ℕ → Type 0 = λ z. Spelled (rows_tree rows) z in
          (leb (count (rows_tree rows)), normal (rows_tree rows), refl, leb_spells (count (rows_tree rows)) few, subst P (sym r.normally) r.spelled)

  -- the bytes have grown by a row
  pub held_grown : {new : List ℕ} (t : Tree) → new ≡ bytes ++ normal t → ∥ Spells s (normal t) t ∥₁ → Held s (n + 1) new
  held_grown t e p = (h.0 ++ t ∷ [], ∥∥₁_elim h.1 ∥∥₁_prop (λ r. ∥∥₁_map p (λ q. rw e (are_more r q))))

  pub held_grown_is : {new : List ℕ} (t : Tree) → sound (Shape.many s) ≡ true → (k : Held s (n + 1) new) → new ≡ bytes ++ normal t → ∥ Spells s (normal t) t ∥₁ →
      held_rows s (n + 1) new k ≡ held_rows s n bytes h ++ t ∷ []
  unfolding held_rows held_grown
  held_grown_is {new} t passes k e p = Held-one s passes (n + 1) new k (held_grown t e p)

  -- the bytes are the same
  pub held_same_is : {new : List ℕ} → sound (Shape.many s) ≡ true → (k : Held s n new) → new ≡ bytes → held_rows s n new k ≡ held_rows s n bytes h
  unfolding held_rows
  held_same_is {new} passes k e = Held-one s passes n new k (h.0, ∥∥₁_map h.1 (λ r. rw e r))

-- ---- behind some room

module _ {front : ℕ} (bytes text : List ℕ) {new : List ℕ} (room : front ≤ length bytes) (e : new ≡ bytes ++ text) where
  pub room_grown : front ≤ length new
  room_grown = omega (arith, ap length e, length-append bytes text)

  pub behind_grown : drop front new ≡ drop front bytes ++ text
  behind_grown = ap (drop front) e ∙ drop-append-le front bytes text room

-- a number was appended, and rows behind it
pub behind_number : (old number rows : List ℕ) {out new body : List ℕ} → out ≡ old ++ number → new ≡ out ++ rows → body ≡ number ++ rows → new ≡ old ++ body
behind_number old number rows e f g = f ∙ ap (λ (z : List ℕ). z ++ rows) e ∙ append_assoc old number rows ∙ ap (λ (z : List ℕ). old ++ z) (sym g)

-- so many bytes, and nothing behind them
pub all_taken : (xs ys : List ℕ) {n : ℕ} → length xs ≡ n → take n (xs ++ ys) ≡ xs
all_taken xs ys e = rw (← e) (take-append_seam xs ys)

-- what holds anyway holds of an Ok
pub OnOk-of : {A E : Type 0} {P : Type 0} (r : Result A E) → P → OnOk r P
OnOk-of (Ok a) p = p
OnOk-of (Err e) p = tt

pub OnOk-map : {A E : Type 0} {P Q : Type 0} (r : Result A E) → OnOk r P → (P → Q) → OnOk r Q
OnOk-map (Ok a) p f = f p
OnOk-map (Err e) p f = tt
