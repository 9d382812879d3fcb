-- What holds of the rows of all tables of operators.
use Rattle.std.specs.List.{list_all}
use Rattle.std.proofs.Common.{◌≡◌, ℕ, ◌<◌, List, [], ◌∷◌, Bool, true, false, ◌&&◌, nat_le, nat_lt, nat_eq, if◌then◌else◌, Some, None, refl, ap, ◌∙◌, subst, arith}
use Rattle.std.proofs.lemmas.Bool.{leb-true, ltb-true, ltb-false, eqb-true}
use Rattle.wasm_shapes.specs.declared.ImmKind.{ImmKind}
use Rattle.wasm_shapes.specs.Operators.{Code, plain, prefixed, is_code, is_prefix, Operators, look_up, one_byte_operators, prefixed_operators, behind_fb, behind_fc, behind_fd, behind_fe, kinds_among}
use Rattle.wasm_shapes.specs.OperatorRows.{lie_below}
use Rattle.wasm_shapes.proofs.Lists.{both}
use Rattle.wasm_shapes.proofs.OperatorRows.{none_past}

-- ---- a test that all kinds of all rows pass

abbrev pub rows_pass : (ImmKind → Bool) → List Operators → Bool
rows_pass test os = list_all (λ o. list_all test o.kinds) os

abbrev pub tables_pass : (ImmKind → Bool) → Bool
tables_pass test = rows_pass test (one_byte_operators true) && (rows_pass test behind_fb && (rows_pass test behind_fc && (rows_pass test behind_fd && rows_pass test behind_fe)))

row_passes : (test : ImmKind → Bool) (os : List Operators) (n : ℕ) (ks : List ImmKind) → rows_pass test os ≡ true → look_up os n ≡ Some ks → list_all test ks ≡ true
row_passes test [] n ks h e = absurd cc
row_passes test (o ∷ os) n ks h e =
    let parts = both (list_all test o.kinds) (rows_pass test os) h in
    go (nat_le o.from n && nat_le n o.to) parts.0 e (row_passes test os n ks parts.1)
  where
    go : (b : Bool) → list_all test o.kinds ≡ true → (if b then Some o.kinds else look_up os n) ≡ Some ks → (look_up os n ≡ Some ks → list_all test ks ≡ true) →
        list_all test ks ≡ true
    go true h e others = let same : o.kinds ≡ ks = cc in let P : List ImmKind → Type 0 = λ z. list_all test z ≡ true in subst P same h
    go false h e others = others e

either_passes : (test : ImmKind → Bool) (b : Bool) (os others : List Operators) → rows_pass test os ≡ true → rows_pass test others ≡ true →
    rows_pass test (if b then os else others) ≡ true
either_passes test true os others h k = h
either_passes test false os others h k = k

pub kinds_pass : (test : ImmKind → Bool) → tables_pass test ≡ true → (c : Code) (ks : List ImmKind) → kinds_among true c ≡ Some ks → list_all test ks ≡ true
kinds_pass test h (plain b) ks e = row_passes test (one_byte_operators true) b ks (both _ _ h).0 e
kinds_pass test h (prefixed p n) ks e =
    let one = both _ _ h in
    let fb = both _ _ one.1 in
    let fc = both _ _ fb.1 in
    let fd = both _ _ fc.1 in
    row_passes test (prefixed_operators p) n ks
    (either_passes test (nat_eq p 0xfb) behind_fb _ fb.0
    (either_passes test (nat_eq p 0xfc) behind_fc _ fc.0
    (either_passes test (nat_eq p 0xfd) behind_fd _ fd.0 (either_passes test (nat_eq p 0xfe) behind_fe [] fd.1 refl)))) e

-- ---- their numbers

-- one byte of an operator is no prefix
pub one_byte_small : (n : ℕ) (ks : List ImmKind) → look_up (one_byte_operators true) n ≡ Some ks → n < 0xfb
unfolding lie_below
one_byte_small n ks e = go (nat_lt n 0xfb) refl
  where
    go : (b : Bool) → nat_lt n 0xfb ≡ b → n < 0xfb
    go true h = ltb-true n 0xfb h
    go false h =
        let none : look_up (one_byte_operators true) n ≡ None = none_past 0xfb n (one_byte_operators true) refl (ltb-false n 0xfb h) in
        absurd cc

small_no_prefix : (n : ℕ) → n < 0xfb → (b : Bool) → nat_le 0xfb n ≡ b → (b && nat_le n 0xfe) ≡ false
small_no_prefix n h true e = absurd (omega (arith, leb-true 0xfb n e))
small_no_prefix n h false e = refl

prefix_is : (p n : ℕ) (ks : List ImmKind) → look_up (prefixed_operators p) n ≡ Some ks → is_prefix p ≡ true
prefix_is p n ks e = fb (nat_eq p 0xfb) refl e
  where
    here : (q : ℕ) → is_prefix q ≡ true → nat_eq p q ≡ true → is_prefix p ≡ true
    here q h e = ap is_prefix (eqb-true p q e) ∙ h

    fe : (b : Bool) → nat_eq p 0xfe ≡ b → look_up (if b then behind_fe else []) n ≡ Some ks → is_prefix p ≡ true
    fe true h e = here 0xfe refl h
    fe false h e = absurd cc

    fd : (b : Bool) → nat_eq p 0xfd ≡ b → look_up (if b then behind_fd else if nat_eq p 0xfe then behind_fe else []) n ≡ Some ks → is_prefix p ≡ true
    fd true h e = here 0xfd refl h
    fd false h e = fe (nat_eq p 0xfe) refl e

    fc : (b : Bool) → nat_eq p 0xfc ≡ b → look_up (if b then behind_fc else if nat_eq p 0xfd then behind_fd else if nat_eq p 0xfe then behind_fe else []) n ≡ Some ks →
        is_prefix p ≡ true
    fc true h e = here 0xfc refl h
    fc false h e = fd (nat_eq p 0xfd) refl e

    fb : (b : Bool) → nat_eq p 0xfb ≡ b → look_up (if b then behind_fb else
        if nat_eq p 0xfc then behind_fc else if nat_eq p 0xfd then behind_fd else if nat_eq p 0xfe then behind_fe else []) n ≡ Some ks → is_prefix p ≡ true
    fb true h e = here 0xfb refl h
    fb false h e = fc (nat_eq p 0xfc) refl e

-- what has a row is a number of an operator
pub code_is : (c : Code) (ks : List ImmKind) → kinds_among true c ≡ Some ks → is_code c ≡ true
code_is (plain n) ks e = rw (small_no_prefix n (one_byte_small n ks e) (nat_le 0xfb n) refl) refl
code_is (prefixed p n) ks e = prefix_is p n ks e
