-- What is read from a list that holds a table is what the table has.
use Rattle.std.proofs.Common.{◌≡◌, ℕ, zero, suc, ◌+◌, ◌<◌, ◌≤◌, List, [], ◌∷◌, length, map, Bool, true, false, ◌&&◌, nat_le, nat_lt, if◌then◌else◌, Option, Some, None, Bor, IfSome, IfNone, get_or, refl, sym, ap, ◌∙◌, arith}
use Rattle.std.proofs.lemmas.Bool.{leb-true, ltb-true}
use Rattle.wasm_shapes.specs.declared.ImmKind.{ImmKind}
use Rattle.wasm_shapes.specs.declared.Opcode.{Opcode}
use Rattle.wasm_shapes.specs.Operators.{Operators, look_up, code_from, kinds_among, kinds_of}
use Rattle.wasm_shapes.specs.OperatorRows.{kinds_in, looked_up, lie_below, Holds}
use Rattle.wasm_shapes.proofs.Lists.{both}

row_from : (os : List Operators) (from : ℕ) (rows : List (Option (Bor (List ImmKind)))) → map kinds_in rows ≡ looked_up os from (length rows) →
    (n : ℕ) → n < length rows → kinds_in (get_or rows n None) ≡ look_up os (from + n)
unfolding looked_up
row_from os from [] e n h = absurd (omega arith)
row_from os from (r ∷ rows) e zero h =
    let head : kinds_in r ≡ look_up os from = cc in
    let same : from ≡ from + 0 = omega arith in
    head ∙ ap (look_up os) same
row_from os from (r ∷ rows) e (suc n) h =
    let others : map kinds_in rows ≡ looked_up os (suc from) (length rows) = cc in
    let same : suc from + n ≡ from + suc n = omega arith in
    row_from os (suc from) rows others n (omega arith) ∙ ap (look_up os) same

pub none_past : (k n : ℕ) (os : List Operators) → lie_below k os ≡ true → k ≤ n → look_up os n ≡ None
unfolding lie_below
none_past k n [] e h = refl
none_past k n (o ∷ os) e h =
    let tests = both (nat_lt o.to k) (lie_below k os) e in
    go (nat_le o.from n) (nat_le n o.to) refl (ltb-true o.to k tests.0) (none_past k n os tests.1 h)
  where
    go : (p q : Bool) → nat_le n o.to ≡ q → o.to < k → look_up os n ≡ None → (if p && q then Some o.kinds else look_up os n) ≡ None
    go true true e less others = let small : n ≤ o.to = leb-true n o.to e in absurd (omega arith)
    go true false e less others = others
    go false q e less others = others

-- the entry at a number
pub row_here : {rows : List (Option (Bor (List ImmKind)))} {n : ℕ} {r : Option (Bor (List ImmKind))} → n < length rows → r ≡ get_or rows n None → (os : List Operators) → Holds rows os →
    kinds_in r ≡ look_up os n
row_here {rows = rows} {n = n} inside e os h = let same : 0 + n ≡ n = omega arith in ap kinds_in e ∙ row_from os 0 rows h.same n inside ∙ ap (look_up os) same

-- there is none behind the list
pub row_past : {rows : List (Option (Bor (List ImmKind)))} {n : ℕ} → length rows ≤ n → (os : List Operators) → Holds rows os →
    ◌≡◌ {A = Option (List ImmKind)} None (look_up os n)
row_past {rows = rows} {n = n} past os h = sym (none_past (length rows) n os h.whole past)

-- ---- an operator's row, in the list of its prefix

module _ (op : Opcode) (p : ℕ) (prefix : op.prefix ≡ p) (r : Option (Bor (List ImmKind))) (is : kinds_in r ≡ kinds_among true (code_from p op.sub)) where
  kinds_are : kinds_of op ≡ kinds_in r
  kinds_are = ap (λ (q : ℕ). kinds_among true (code_from q op.sub)) prefix ∙ sym is

  pub row_found : IfSome r (λ kinds. kinds_of op ≡ Some kinds.now)
  row_found = go r kinds_are
    where
      go : (r : Option (Bor (List ImmKind))) → kinds_of op ≡ kinds_in r → IfSome r (λ kinds. kinds_of op ≡ Some kinds.now)
      go (Some kinds) e = e
      go None e = tt

  pub row_missing : IfNone r (kinds_of op ≡ None)
  row_missing = go r kinds_are
    where
      go : (r : Option (Bor (List ImmKind))) → kinds_of op ≡ kinds_in r → IfNone r (kinds_of op ≡ None)
      go (Some kinds) e = tt
      go None e = e
