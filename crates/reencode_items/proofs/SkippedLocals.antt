-- Locals, and other rows, that ask nothing and stand in their normal spelling.
use Rattle.std.proofs.Common.{◌≡◌, ◌<◌, ◌≤◌, ◌+◌, ◌-◌, ◌^◌, ℕ, List, [], ◌∷◌, ◌++◌, length, refl, sym, ap, ◌∙◌, append_assoc, subst, arith}
use Rattle.wasm_leb.specs.Leb.{leb}
use Rattle.wasm_leb.specs.Place.{BeginsNumber}
use Rattle.wasm_leb.proofs.Shortest.{leb_spells}
use Rattle.wasm_shapes.specs.Module.{local_row}
use Rattle.wasm_shapes.specs.Shape.{Shape}
use Rattle.wasm_shapes.specs.Spells.{Is, Spelled}
use Rattle.wasm_shapes.specs.Tree.{Tree, count, normal}
use Rattle.wasm_shapes.specs.Types.{rows_tree, vector_tree}
use Rattle.wasm_shapes.proofs.Rows.{snoc_is, snoc_spelled}
use Rattle.wasm_write.proofs.Holding.{count_rows, snoc_length, snoc_normal}
use Rattle.reencode_items.specs.Direct.{BeginsNormal, IsUnasked, SkipsLeaf}
use Rattle.reencode_items.proofs.Passing.{number_is, skips_seq}

-- a type of numbers behind a number
pub skips_local : (b : ℕ) {bytes types rest : List ℕ} → SkipsLeaf Shape.u32 bytes types → types ≡ b ∷ rest → 0x7b ≤ b → b < 0x80 → SkipsLeaf local_row bytes rest
skips_local b p e least most =
    skips_seq p (record {
      tree = Tree.row (0x7f - b) (Tree.fixed b);
      begins = record { shaped = Is.ref (number_is (0x7f - b) b (omega arith) (omega arith)); spelled = refl; reads = e };
      unasked = tt;
    })

-- so many rows are passed by
pub record RowsPassed (a : Shape) (start rest : List ℕ) (n : ℕ) : Type 0 where
  pub rows : List Tree
  pub counted : length rows ≡ n
  pub shaped : Is (Shape.many a) (rows_tree rows)
  pub spelled : Spelled (rows_tree rows) (normal (rows_tree rows))
  pub stands : start ≡ normal (rows_tree rows) ++ rest
  pub unasked : IsUnasked (rows_tree rows)

pub none_passed : (a : Shape) (start : List ℕ) → RowsPassed a start start 0
none_passed a start = record { rows = []; counted = refl; shaped = Is.nil; spelled = refl; stands = refl; unasked = tt }

snoc_unasked : (rows : List Tree) (t : Tree) → IsUnasked (rows_tree rows) → IsUnasked t → IsUnasked (rows_tree (rows ++ t ∷ []))
snoc_unasked [] t h k = (k, tt)
snoc_unasked (u ∷ rows) t h k = (h.0, snoc_unasked rows t h.1 k)

pub one_passed : {a : Shape} {start rest left : List ℕ} {n : ℕ} → RowsPassed a start rest n → SkipsLeaf a rest left → RowsPassed a start left (n + 1)
one_passed {left = left} d q =
    let t : Tree = q.tree in
    let text : List ℕ = normal (rows_tree d.rows) in
    let P : List ℕ → Type 0 = λ z. Spelled (rows_tree (d.rows ++ t ∷ [])) z in
    record {
      rows = d.rows ++ t ∷ [];
      counted = snoc_length d.rows t ∙ ap (λ (k : ℕ). k + 1) d.counted;
      shaped = snoc_is d.rows d.shaped q.begins.shaped;
      spelled = subst P (sym (snoc_normal d.rows t)) (snoc_spelled d.rows t text (normal t) d.spelled q.begins.spelled);
      stands = d.stands ∙ ap (λ (z : List ℕ). text ++ z) q.begins.reads ∙ sym (append_assoc text (normal t) left) ∙ ap (λ (z : List ℕ). z ++ left) (sym (snoc_normal d.rows t));
      unasked = snoc_unasked d.rows t d.unasked q.unasked;
    }

-- all of them are
pub all_passed : {a : Shape} (n k : ℕ) {bytes start rest : List ℕ} → BeginsNumber 128 32 32 bytes n start → bytes ≡ leb n ++ start → (d : RowsPassed a start rest k) → k ≡ n →
    BeginsNormal (Shape.vec a) bytes (vector_tree d.rows) rest
all_passed n k {rest = rest} b e d same =
    let few : n < 2 ^ 32 = b.1.fits in
    let are : count (rows_tree d.rows) ≡ n = count_rows d.rows ∙ d.counted ∙ same in
    let text : List ℕ = normal (rows_tree d.rows) in
    let small : count (rows_tree d.rows) < 2 ^ 32 = rw are few in
    record {
      shaped = Is.vec d.shaped;
      spelled = (leb (count (rows_tree d.rows)), text, refl, leb_spells (count (rows_tree d.rows)) small, d.spelled);
      reads = e ∙ ap (λ (z : List ℕ). leb n ++ z) d.stands ∙ sym (append_assoc (leb n) text rest) ∙ ap (λ (j : ℕ). (leb j ++ text) ++ rest) (sym are);
    }
