-- One operator that is passed by, made anew or refused.
use Rattle.std.proofs.Common.{◌≡◌, ◌≢◌, ◌≤◌, ◌+◌, ◌-◌, zero, suc, ℕ, ℤ, List, [], ◌∷◌, ◌++◌, length, length-append, get_or, Bool, true, false, ◌&&◌, map, if◌then◌else◌, Bor, IfNone, IfSome, Option, Some, None, Result, Ok, Err, refl, sym, ap, ◌∙◌, ◌<◌, drop, take, append-nil, append_assoc, subst, arith, inl}
use Rattle.std.proofs.lemmas.Bool.{lt-ltb}
use Rattle.std.proofs.Math.Seq.{take-length}
use Rattle.std.proofs.lemmas.List.{append_cancel_right, length-drop, length-take-le, take-append-drop}
use Rattle.wasm_leb.specs.Leb.{leb, one_byte_signed, shortest, shortest_signed}
use Rattle.wasm_leb.specs.Place.{BeginsNumber, BeginsSigned}
use Rattle.wasm_leb.proofs.Full.{one_byte_shortest_signed}
use Rattle.wasm_leb.proofs.Shortest.{leb_spells}
use Rattle.wasm_leb.proofs.Signed.{signed_one}
use Rattle.wasm_shapes.specs.declared.ImmKind.{ImmKind}
use Rattle.wasm_shapes.specs.declared.ImmKind.TheVariants as kind
use Rattle.wasm_shapes.specs.declared.Opcode.{Opcode}
use Rattle.wasm_shapes.specs.declared.Space.{Space}
use Rattle.wasm_shapes.specs.declared.Space.TheVariants as space
use Rattle.wasm_shapes.specs.declared.Visit.{Visit}
use Rattle.wasm_shapes.specs.declared.Visit.TheVariants.{Index}
use Rattle.wasm_shapes.specs.Operators.{code_of, is_code, is_prefix, kinds_of, look_up, one_byte_operators, plain}
use Rattle.wasm_shapes.proofs.TableRows.{code_is}
use Rattle.wasm_shapes.specs.Shape.{Named, Shape, block_type, shape_of_kind, shape_of_kinds, shape_of_row}
use Rattle.wasm_shapes.specs.NamedShapes.{shape_of}
use Rattle.wasm_shapes.specs.Tree.{Tree, code_bytes, normal}
use Rattle.wasm_shapes.specs.Spells.{Is, Spelled}
use Rattle.wasm_shapes.specs.Place.{Begins}
use Rattle.wasm_shapes.proofs.Begins.{begins_empty, begins_s32, begins_s64, begins_seq, begins_u32}
use Rattle.wasm_shapes.specs.Types.{is_core}
use Rattle.wasm_write.specs.Instructions.{Imm, imm_kind, imms_tree}
use Rattle.wasm_shapes.specs.Immediates.{AreOfRow}
use Rattle.wasm_types.specs.declared.types.Imm.TheVariants as imms
use Rattle.reencode_hooks.specs.declared.error.Error.{Error}
use Rattle.reencode_hooks.specs.declared.error.Error.TheVariants.{NoMemory}
use Rattle.reencode_hooks.specs.Hooks.{Replies}
use Rattle.reencode_hooks.specs.Run.{accepted, refused, ask}
use Rattle.reencode_hooks.specs.Walk.{walk}
use Rattle.reencode_items.specs.Rows.{Asks}
use Rattle.reencode_items.specs.declared.direct.classes.Class.{Class}
use Rattle.reencode_items.specs.declared.direct.classes.Class.TheVariants as class
use Rattle.reencode_items.specs.declared.direct.classes.Rare.{Rare}
use Rattle.reencode_items.specs.declared.direct.classes.Rare.TheVariants as rare
use Rattle.reencode_items.specs.declared.direct.passing.Next.{Next}
use Rattle.reencode_items.specs.declared.direct.passing.Next.TheVariants as next
use Rattle.reencode_items.specs.Direct.{BeginsNormal, HasClass, HasOne, HasRare, HasTwo, IsHead, IsOfKind, IsUnasked, KeepsOperator, MakesOperator, OperatorThere, PassesNext, PassesS32, RefusesOperator, SkipsClass, SkipsLeaf, SkipsOperator, class_of, class_of_kind, class_of_row, classes_from, imms_of, labels, rare_of, rare_of_kind, rare_of_row, rare_of_two}

pub class_at : {c d : Class} (op : Opcode) → c ≡ d → HasClass op c → HasClass op d
class_at op same h = let P : Class → Type 0 = λ z. HasClass op z in subst P same h

-- ---- the classes of operators

kind_is_index : (s : Space) (b : Bool) → is_core s ≡ b → IsOfKind (kind.Index s) (if b then class.Index s else class.Other)
kind_is_index s true e = (refl, e)
kind_is_index s false e = tt

kind_is : (k : ImmKind) → IsOfKind k (class_of_kind k)
kind_is kind.Block = refl
kind_is kind.Label = refl
kind_is kind.Local = refl
kind_is kind.Field = refl
kind_is kind.Size = refl
kind_is kind.S32 = refl
kind_is kind.S64 = refl
kind_is kind.Four = refl
kind_is kind.Eight = refl
kind_is kind.Sixteen = refl
kind_is kind.Lanes = refl
kind_is kind.Mem = refl
kind_is (kind.Index s) = kind_is_index s (is_core s) refl
kind_is _ = tt

one_of_class : (op : Opcode) (k : ImmKind) (c : Class) → kinds_of op ≡ Some (k ∷ []) → IsOfKind k c → HasClass op c
one_of_class op k class.Bare row is = absurd is
one_of_class op k class.Other row is = tt
one_of_class op k class.Number row is = record { kind = k; row = row; is = is }
one_of_class op k class.Long row is = record { kind = k; row = row; is = is }
one_of_class op k (class.Raw n) row is = record { kind = k; row = row; is = is }
one_of_class op k class.Block row is = record { kind = k; row = row; is = is }
one_of_class op k class.S32 row is = record { kind = k; row = row; is = is }
one_of_class op k (class.Index s) row is = record { kind = k; row = row; is = is }
one_of_class op k class.Mem row is = record { kind = k; row = row; is = is }

pub has_class : (op : Opcode) {c : Class} → c ≡ class_of op → HasClass op c
has_class op e = class_at op (sym e) (go (kinds_of op) refl)
  where
    go : (o : Option (List ImmKind)) → kinds_of op ≡ o → HasClass op (class_of_row o)
    go None row = tt
    go (Some []) row = row
    go (Some (k ∷ [])) row = one_of_class op k (class_of_kind k) row (kind_is k)
    go (Some (k ∷ l ∷ ks)) row = tt

class_from : (from : ℕ) (cs : List Class) (d : Class) → cs ≡ classes_from from (length cs) → (n : ℕ) → n < length cs → get_or cs n d ≡ class_of_row (look_up (one_byte_operators true) (from + n))
unfolding classes_from
class_from from [] d e n h = absurd (omega arith)
class_from from (c ∷ cs) d e zero h =
    let head : c ≡ class_of_row (look_up (one_byte_operators true) from) = cc in
    let same : from ≡ from + 0 = omega arith in
    head ∙ ap (λ (n : ℕ). class_of_row (look_up (one_byte_operators true) n)) same
class_from from (c ∷ cs) d e (suc n) h =
    let others : cs ≡ classes_from (suc from) (length cs) = cc in
    let same : suc from + n ≡ from + suc n = omega arith in
    class_from (suc from) cs d others n (omega arith) ∙ ap (λ (n : ℕ). class_of_row (look_up (one_byte_operators true) n)) same

-- what a list of the classes has at a number
pub class_here : {cs : List Class} (d : Class) (n : ℕ) → cs ≡ classes_from 0 (length cs) → n < length cs → get_or cs n d ≡ class_of (record { prefix = 0; sub = n })
class_here {cs = cs} d n e h = let same : 0 + n ≡ n = omega arith in class_from 0 cs d e n h ∙ ap (λ (n : ℕ). class_of_row (look_up (one_byte_operators true) n)) same

-- ---- operators of no class

two_indices : (op : Opcode) (s p : Space) (b d : Bool) → is_core s ≡ b → is_core p ≡ d → kinds_of op ≡ Some (kind.Index s ∷ kind.Index p ∷ []) →
    HasRare op (if b && d then rare.Two s p else rare.Other)
two_indices op s p true true e f row = record { row = row; first = e; second = f }
two_indices op s p true false e f row = tt
two_indices op s p false d e f row = tt

two_of_row : (op : Opcode) (k l : ImmKind) → kinds_of op ≡ Some (k ∷ l ∷ []) → HasRare op (rare_of_two k l)
two_of_row op (kind.Index s) (kind.Index p) row = two_indices op s p (is_core s) (is_core p) refl refl row
two_of_row op _ _ row = tt

one_of_row : (op : Opcode) (k : ImmKind) → kinds_of op ≡ Some (k ∷ []) → HasRare op (rare_of_kind k)
one_of_row op kind.Labels row = row
one_of_row op _ row = tt

pub has_rare : (op : Opcode) (c : Rare) → c ≡ rare_of op → HasRare op c
has_rare op c e = let P : Rare → Type 0 = λ z. HasRare op z in subst P (sym e) (go (kinds_of op) refl)
  where
    go : (o : Option (List ImmKind)) → kinds_of op ≡ o → HasRare op (rare_of_row o)
    go None row = tt
    go (Some []) row = tt
    go (Some (k ∷ [])) row = one_of_row op k row
    go (Some (k ∷ l ∷ [])) row = two_of_row op k l row
    go (Some (k ∷ l ∷ m ∷ ks)) row = tt

-- what has a row has the number of an operator
pub is_operator : (op : Opcode) {ks : List ImmKind} → kinds_of op ≡ Some ks → is_code (code_of op) ≡ true
is_operator op {ks = ks} row = code_is (code_of op) ks row

-- it is an operator with labels
pub labels_row : (op : Opcode) (c : Rare) → c ≡ rare_of op → c ≡ rare.Labels → kinds_of op ≡ Some (kind.Labels ∷ [])
labels_row op c e is = let P : Rare → Type 0 = λ z. HasRare op z in subst P is (has_rare op c e)

-- it is an operator with two indices
pub two_row : (op : Opcode) (c : Rare) (s p : Space) → c ≡ rare_of op → c ≡ rare.Two s p → HasTwo op s p
two_row op c s p e is = let P : Rare → Type 0 = λ z. HasRare op z in subst P is (has_rare op c e)

-- ---- the number of an operator

-- one byte
pub plain_head : {b : ℕ} {bytes rest : List ℕ} → is_code (plain b) ≡ true → bytes ≡ b ∷ rest → IsHead bytes (record { prefix = 0; sub = b }) rest
plain_head valid e = record { valid = valid; spelled = refl; reads = e }

-- what has a row is a number of an operator
pub has_row : (op : Opcode) (c : Class) → c ≡ class_of op → (c ≡ class.Other → ⊥) → is_code (code_of op) ≡ true
has_row op c e other = go (kinds_of op) refl e
  where
    go : (o : Option (List ImmKind)) → kinds_of op ≡ o → c ≡ class_of_row o → is_code (code_of op) ≡ true
    go None row same = absurd (other same)
    go (Some ks) row same = code_is (code_of op) ks row

pub plain_of_class : (b : ℕ) (c : Class) {bytes rest : List ℕ} {op : Opcode} → op ≡ record { prefix = 0; sub = b } → c ≡ class_of (record { prefix = 0; sub = b }) → (c ≡ class.Other → ⊥) → bytes ≡ b ∷ rest →
    IsHead bytes op rest × HasClass op c
plain_of_class b c {bytes = bytes} {rest = rest} is same other e =
    let plain_op : Opcode = record { prefix = 0; sub = b } in
    let P : Opcode → Type 0 = λ o. IsHead bytes o rest × HasClass o c in
    subst P (sym is) (plain_head (has_row plain_op c same other) e, has_class plain_op same)

-- a prefix and a number in its shortest spelling
pub prefixed_head : (p : ℕ) {n : ℕ} {bytes middle rest : List ℕ} → is_prefix p ≡ true → bytes ≡ p ∷ middle → BeginsNumber 128 32 32 middle n rest → middle ≡ leb n ++ rest →
    IsHead bytes (record { prefix = p; sub = n }) rest
prefixed_head zero valid e there f = absurd cc
prefixed_head (suc p) {n = n} valid e there f = record {
  valid = valid;
  spelled = (leb n, refl, leb_spells n there.1.fits);
  reads = e ∙ ap (λ (z : List ℕ). suc p ∷ z) f;
}

-- ---- normal spellings

-- how many bytes stand before others
before_others : (bytes text left : List ℕ) → bytes ≡ text ++ left → length text ≡ length bytes - length left
before_others bytes text left e = let long : length bytes ≡ length text + length left = ap length e ∙ length-append text left in omega arith

pub head_longer : {bytes rest : List ℕ} {op : Opcode} → IsHead bytes op rest → length rest ≤ length bytes
head_longer {bytes = bytes} {rest = rest} {op = op} h =
    let text = code_bytes (code_of op) in
    let long : length bytes ≡ length text + length rest = ap length h.reads ∙ length-append text rest in
    omega arith

pub begins_longer : {s : Shape} {t : Tree} {bytes left : List ℕ} → Begins s bytes t left → length left ≤ length bytes
begins_longer {bytes = bytes} {left = left} p = let long : length bytes ≡ length p.text + length left = ap length p.reads ∙ length-append p.text left in omega arith

-- the spelling that stands there is the normal one
pub normally : {s : Shape} {t : Tree} {bytes left : List ℕ} → Begins s bytes t left → bytes ≡ normal t ++ left → BeginsNormal s bytes t left
normally {t = t} {left = left} p e =
    let same : p.text ≡ normal t = append_cancel_right p.text (normal t) left (sym p.reads ∙ e) in
    let P : List ℕ → Type 0 = λ z. Spelled t z in
    record { shaped = p.spells.shaped; spelled = subst P same p.spells.spelled; reads = e }

abbrev pub begins_normally : {s : Shape} {t : Tree} {bytes left : List ℕ} → BeginsNormal s bytes t left → Begins s bytes t left
begins_normally {t = t} p = record { text = normal t; spells = record { shaped = p.shaped; spelled = p.spelled }; reads = p.reads }

-- ---- leaves in their normal spelling

pub skips_number : {n : ℕ} {bytes rest : List ℕ} → BeginsNumber 128 32 32 bytes n rest → bytes ≡ leb n ++ rest → SkipsLeaf Shape.u32 bytes rest
skips_number {n = n} p e = record { tree = Tree.u32 n; begins = normally (begins_u32 p) e; unasked = tt }

-- a number of one byte has its shortest spelling
pub short_number : (n : ℕ) {b : ℕ} {bytes left : List ℕ} → bytes ≡ b ∷ left → b < 128 → n ≡ b → bytes ≡ leb n ++ left
unfolding shortest
short_number n {b = b} {left = left} e small same =
    let P : ℕ → Type 0 = λ z. b ∷ left ≡ leb z ++ left in
    e ∙ subst P (sym same) (rw (lt-ltb b 128 small) refl)

signed_short : (bits : ℕ) {b : ℕ} {bytes left : List ℕ} → 7 ≤ bits → bits ≤ 64 → bytes ≡ b ∷ left → b < 128 → bytes ≡ shortest_signed (one_byte_signed b) ++ left
signed_short bits {b = b} {left = left} wide few e small =
    let p : BeginsSigned bits (b ∷ left) (one_byte_signed b) left = signed_one wide refl small refl in
    let one : p.0 ≡ b ∷ [] = append_cancel_right p.0 (b ∷ []) left (sym p.2) in
    let short : length p.0 < 2 = rw one (omega arith) in
    e ∙ p.2 ∙ ap (λ (z : List ℕ). z ++ left) (one_byte_shortest_signed (one_byte_signed b) few p.1 short)

-- one behind another
pub skips_seq : {a b : Shape} {bytes middle rest : List ℕ} → SkipsLeaf a bytes middle → SkipsLeaf b middle rest → SkipsLeaf (Shape.seq a b) bytes rest
skips_seq {rest = rest} p q =
    let first : List ℕ = normal p.tree in
    let second : List ℕ = normal q.tree in
    record {
      tree = Tree.pair p.tree q.tree;
      begins = record {
        shaped = Is.seq p.begins.shaped q.begins.shaped;
        spelled = (first, second, refl, p.begins.spelled, q.begins.spelled);
        reads = p.begins.reads ∙ ap (λ (z : List ℕ). first ++ z) q.begins.reads ∙ sym (append_assoc first second rest);
      };
      unasked = (p.unasked, q.unasked);
    }

pub skips_short_s32 : {b : ℕ} {bytes left : List ℕ} → bytes ≡ b ∷ left → b < 128 → SkipsLeaf Shape.s32 bytes left
skips_short_s32 {b = b} e small = record {
  tree = Tree.s32 (one_byte_signed b);
  begins = normally (begins_s32 (one_byte_signed b) (signed_one (omega arith) e small refl)) (signed_short 32 (omega arith) (omega arith) e small);
  unasked = tt;
}

pub skips_short_s64 : {b : ℕ} {bytes left : List ℕ} → bytes ≡ b ∷ left → b < 128 → SkipsLeaf Shape.s64 bytes left
skips_short_s64 {b = b} e small = record {
  tree = Tree.s64 (one_byte_signed b);
  begins = normally (begins_s64 (one_byte_signed b) (signed_one (omega arith) e small refl)) (signed_short 64 (omega arith) (omega arith) e small);
  unasked = tt;
}

pub skips_s32 : (z : ℤ) {bytes rest : List ℕ} → BeginsSigned 32 bytes z rest → bytes ≡ shortest_signed z ++ rest → SkipsLeaf Shape.s32 bytes rest
skips_s32 z p e = record { tree = Tree.s32 z; begins = normally (begins_s32 z p) e; unasked = tt }

pub skips_long : (z : ℤ) {bytes rest : List ℕ} → BeginsSigned 64 bytes z rest → bytes ≡ shortest_signed z ++ rest → SkipsLeaf Shape.s64 bytes rest
skips_long z p e = record { tree = Tree.s64 z; begins = normally (begins_s64 z p) e; unasked = tt }

-- the rest of some bytes from a place on
pub rest_is : (n : ℕ) (bytes : List ℕ) → take (length bytes - n) (drop n bytes) ≡ drop n bytes
rest_is n bytes = let P : ℕ → Type 0 = λ k. take k (drop n bytes) ≡ drop n bytes in subst P (length-drop n bytes) (take-length (drop n bytes))

pub skips_raw : (n : ℕ) (bytes : List ℕ) → n ≤ length bytes → SkipsLeaf (Shape.bytes n) bytes (take (length bytes - n) (drop n bytes))
skips_raw n bytes within =
    let B : List ℕ → Type 0 = λ z. SkipsLeaf (Shape.bytes n) bytes z in
    subst B (sym (rest_is n bytes)) (record {
      tree = Tree.raw (take n bytes);
      begins = record { shaped = Is.bytes (length-take-le n bytes within); spelled = refl; reads = sym (take-append-drop n bytes) };
      unasked = tt;
    })

-- a block of no type
pub skips_no_type : {b : ℕ} {bytes rest : List ℕ} → bytes ≡ b ∷ rest → b ≡ 0x40 → SkipsLeaf block_type bytes rest
skips_no_type {rest = rest} e same = record {
  tree = Tree.row 0 (Tree.fixed 0x40);
  begins = record { shaped = Is.first Is.fixed; spelled = refl; reads = e ∙ ap (λ (z : ℕ). z ∷ rest) same };
  unasked = tt;
}

-- the types of numbers, by how far they stand before the last one
pub number_is : (k b : ℕ) → b + k ≡ 0x7f → k < 5 → Is (shape_of Named.value) (Tree.row k (Tree.fixed b))
number_is zero b e small = let P : ℕ → Type 0 = λ z. Is (shape_of Named.value) (Tree.row 0 (Tree.fixed z)) in let same : 0x7f ≡ b = omega arith in subst P same (Is.first Is.fixed)
number_is (suc zero) b e small = let P : ℕ → Type 0 = λ z. Is (shape_of Named.value) (Tree.row 1 (Tree.fixed z)) in let same : 0x7e ≡ b = omega arith in subst P same (Is.later {k = 0} (Is.first Is.fixed))
number_is (suc (suc zero)) b e small =
    let P : ℕ → Type 0 = λ z. Is (shape_of Named.value) (Tree.row 2 (Tree.fixed z)) in let same : 0x7d ≡ b = omega arith in
    subst P same (Is.later {k = 1} (Is.later {k = 0} (Is.first Is.fixed)))
number_is (suc (suc (suc zero))) b e small =
    let P : ℕ → Type 0 = λ z. Is (shape_of Named.value) (Tree.row 3 (Tree.fixed z)) in let same : 0x7c ≡ b = omega arith in
    subst P same (Is.later {k = 2} (Is.later {k = 1} (Is.later {k = 0} (Is.first Is.fixed))))
number_is (suc (suc (suc (suc zero)))) b e small =
    let P : ℕ → Type 0 = λ z. Is (shape_of Named.value) (Tree.row 4 (Tree.fixed z)) in let same : 0x7b ≡ b = omega arith in
    subst P same (Is.later {k = 3} (Is.later {k = 2} (Is.later {k = 1} (Is.later {k = 0} (Is.first Is.fixed)))))
number_is (suc (suc (suc (suc (suc k))))) b e small = absurd (omega arith)

-- a block of one number
pub skips_number_type : (b : ℕ) {bytes rest : List ℕ} → bytes ≡ b ∷ rest → 0x7b ≤ b → b < 0x80 → SkipsLeaf block_type bytes rest
skips_number_type b e least most = record {
  tree = Tree.row 1 (Tree.row (0x7f - b) (Tree.fixed b));
  begins = record {
    shaped = Is.later {k = 0} (Is.first (Is.ref (number_is (0x7f - b) b (omega arith) (omega arith))));
    spelled = refl;
    reads = e;
  };
  unasked = tt;
}

-- ---- an operator

module _ {bytes rest behind : List ℕ} {op : Opcode} {ks : List ImmKind} {t : Tree} (h : IsHead bytes op rest) (row : kinds_of op ≡ Some ks) (p : Begins (shape_of_kinds ks) rest t behind) where
  abbrev whole_begins : Begins (Shape.op true) bytes (Tree.op (code_of op) t) behind
  whole_begins =
      let I : Option (List ImmKind) → Type 0 = λ o. Is (shape_of_row o) t in
      let front = code_bytes (code_of op) in
      record {
        text = front ++ p.text;
        spells = record {
          shaped = Is.op h.valid (subst I (sym row) p.spells.shaped);
          spelled = (front, p.text, refl, h.spelled, p.spells.spelled);
        };
        reads = h.reads ∙ ap (λ (z : List ℕ). front ++ z) p.reads ∙ sym (append_assoc front p.text behind);
      }

  abbrev whole_there : OperatorThere bytes (length bytes - length behind)
  whole_there = record {
    operator = Tree.op (code_of op) t;
    left = behind;
    begins = whole_begins;
    counted = before_others bytes (code_bytes (code_of op) ++ p.text) behind whole_begins.reads;
  }

abbrev one_begins : (k : ImmKind) {u : Tree} {rest behind : List ℕ} → Begins (shape_of_kind k) rest u behind → Begins (shape_of_kinds (k ∷ [])) rest (Tree.pair u Tree.empty) behind
one_begins k p = begins_seq p begins_empty

abbrev one_normally : (k : ImmKind) {u : Tree} {rest behind : List ℕ} → BeginsNormal (shape_of_kind k) rest u behind →
    BeginsNormal (shape_of_kinds (k ∷ [])) rest (Tree.pair u Tree.empty) behind
one_normally k {u = u} {behind = behind} p = record {
  shaped = Is.seq p.shaped Is.empty;
  spelled = (normal u, [], refl, p.spelled, refl);
  reads = p.reads ∙ ap (λ (z : List ℕ). z ++ behind) (sym (append-nil (normal u)));
}

-- it has one immediate
module _ {S E : Type 0} (asked : Asks S E) (s m : S) {bytes rest behind : List ℕ} {op : Opcode} {k : ImmKind} {u : Tree} (h : IsHead bytes op rest) (row : kinds_of op ≡ Some (k ∷ [])) where
  pub keeps_one : BeginsNormal (shape_of_kind k) rest u behind → ((c : ℕ) → walk asked c s u ≡ accepted u m) → KeepsOperator asked s bytes behind m
  keeps_one p walks = record {
    operator = Tree.op (code_of op) (Tree.pair u Tree.empty);
    begins = whole_begins h row (begins_normally (one_normally k p));
    normally = refl;
    walks = λ c. rw (walks c) refl;
  }

  pub makes_one : Begins (shape_of_kind k) rest u behind → (imms : List Imm) → map imm_kind imms ≡ Some k ∷ [] → {v : Tree} → imms_tree imms ≡ Tree.pair v Tree.empty →
      ((c : ℕ) → walk asked c s u ≡ accepted v m) → MakesOperator asked s bytes (length bytes - length behind) op imms m
  makes_one p imms same treed walks = record {
    there = whole_there h row (one_begins k p);
    kinds = let R : Option (List ImmKind) → Type 0 = λ o. AreOfRow o (map imm_kind imms) in subst R (sym row) same;
    walks = λ c. rw (walks c) (ap (λ (t : Tree). accepted (Tree.op (code_of op) t) m) (sym treed));
  }

  pub refuses_one : Begins (shape_of_kind k) rest u behind → (err : Error E) → ((c : ℕ) → err ≢ NoMemory → walk asked c s u ≡ refused err m) → RefusesOperator asked s bytes err m
  refuses_one p err walks = record {
    operator = Tree.op (code_of op) (Tree.pair u Tree.empty);
    left = behind;
    begins = whole_begins h row (one_begins k p);
    refuses = λ c other. rw (walks c other) refl;
  }

-- two immediates
abbrev two_begins : (k l : ImmKind) {u w : Tree} {rest middle behind : List ℕ} → Begins (shape_of_kind k) rest u middle → Begins (shape_of_kind l) middle w behind →
    Begins (shape_of_kinds (k ∷ l ∷ [])) rest (Tree.pair u (Tree.pair w Tree.empty)) behind
two_begins k l p q = begins_seq p (begins_seq q begins_empty)

-- it has two immediates
module _ {S E : Type 0} (asked : Asks S E) (s : S) {bytes rest middle behind : List ℕ} {op : Opcode} {k l : ImmKind} {u w : Tree} (h : IsHead bytes op rest) (row : kinds_of op ≡ Some (k ∷ l ∷ []))
    (p : Begins (shape_of_kind k) rest u middle) (q : Begins (shape_of_kind l) middle w behind) where
  pub keeps_two : {m n : S} → rest ≡ normal u ++ (normal w ++ behind) → ((c : ℕ) → walk asked c s u ≡ accepted u m) → ((c : ℕ) → walk asked c m w ≡ accepted w n) → KeepsOperator asked s bytes behind n
  keeps_two e first second =
      let whole : rest ≡ (normal u ++ (normal w ++ [])) ++ behind =
      e ∙ ap (λ (z : List ℕ). normal u ++ (z ++ behind)) (sym (append-nil (normal w))) ∙ sym (append_assoc (normal u) (normal w ++ []) behind) in
      record {
        operator = Tree.op (code_of op) (Tree.pair u (Tree.pair w Tree.empty));
        begins = whole_begins h row (begins_normally (normally (two_begins k l p q) whole));
        normally = refl;
        walks = λ c. rw (first c, second c) refl;
      }

  pub makes_two : {m n : S} → (imms : List Imm) → map imm_kind imms ≡ Some k ∷ Some l ∷ [] → {v x : Tree} → imms_tree imms ≡ Tree.pair v (Tree.pair x Tree.empty) →
      ((c : ℕ) → walk asked c s u ≡ accepted v m) → ((c : ℕ) → walk asked c m w ≡ accepted x n) → MakesOperator asked s bytes (length bytes - length behind) op imms n
  makes_two {n = n} imms same treed first second = record {
    there = whole_there h row (two_begins k l p q);
    kinds = let R : Option (List ImmKind) → Type 0 = λ o. AreOfRow o (map imm_kind imms) in subst R (sym row) same;
    walks = λ c. rw (first c, second c) (ap (λ (t : Tree). accepted (Tree.op (code_of op) t) n) (sym treed));
  }

  pub refuses_first : {m : S} → (err : Error E) → ((c : ℕ) → err ≢ NoMemory → walk asked c s u ≡ refused err m) → RefusesOperator asked s bytes err m
  refuses_first err walks = record {
    operator = Tree.op (code_of op) (Tree.pair u (Tree.pair w Tree.empty));
    left = behind;
    begins = whole_begins h row (two_begins k l p q);
    refuses = λ c other. rw (walks c other) refl;
  }

  pub refuses_second : {m n : S} → (err : Error E) → {v : Tree} → ((c : ℕ) → walk asked c s u ≡ accepted v m) → ((c : ℕ) → err ≢ NoMemory → walk asked c m w ≡ refused err n) →
      RefusesOperator asked s bytes err n
  refuses_second err first second = record {
    operator = Tree.op (code_of op) (Tree.pair u (Tree.pair w Tree.empty));
    left = behind;
    begins = whole_begins h row (two_begins k l p q);
    refuses = λ c other. rw (first c, second c other) refl;
  }

-- ---- operators that ask nothing

pub unasked_walk : {S E : Type 0} (asked : Asks S E) (s : S) (t : Tree) → IsUnasked t → (c : ℕ) → walk asked c s t ≡ accepted t s
unasked_walk asked s (Tree.u32 n) h c = refl
unasked_walk asked s (Tree.s32 z) h c = refl
unasked_walk asked s (Tree.s64 z) h c = refl
unasked_walk asked s (Tree.raw bs) h c = refl
unasked_walk asked s (Tree.fixed b) h c = refl
unasked_walk asked s Tree.empty h c = refl
unasked_walk asked s (Tree.row k t) h c = rw (unasked_walk asked s t h c) refl
unasked_walk asked s (Tree.pair t u) h c = rw (unasked_walk asked s t h.0 c, unasked_walk asked s u h.1 c) refl
unasked_walk asked s (Tree.op k t) h c = rw (unasked_walk asked s t h c) refl
unasked_walk asked s (Tree.vec t) h c = rw (unasked_walk asked s t h c) refl
unasked_walk asked s Tree.nil h c = refl
unasked_walk asked s (Tree.cons t u) h c = rw (unasked_walk asked s t h.0 c, unasked_walk asked s u h.1 c) refl
unasked_walk asked s _ h c = absurd h

-- nothing is asked, so the operator stays for every reencoder
pub skips_keeps : {S E : Type 0} (asked : Asks S E) (s : S) {bytes left : List ℕ} → SkipsOperator bytes left → KeepsOperator asked s bytes left s
skips_keeps asked s p = record { operator = p.operator; begins = p.begins; normally = p.normally; walks = unasked_walk asked s p.operator p.unasked }

skips_bare : {bytes rest : List ℕ} {op : Opcode} → IsHead bytes op rest → kinds_of op ≡ Some [] → SkipsOperator bytes rest
skips_bare {rest = rest} {op = op} h row =
    let none : Begins Shape.empty rest Tree.empty rest = record { text = []; spells = record { shaped = Is.empty; spelled = refl }; reads = refl } in
    record { operator = Tree.op (code_of op) Tree.empty; begins = whole_begins h row none; normally = refl; unasked = tt }

skips_leaf : {bytes rest left : List ℕ} {op : Opcode} {k : ImmKind} {a : Shape} → IsHead bytes op rest → kinds_of op ≡ Some (k ∷ []) → shape_of_kind k ≡ a → SkipsLeaf a rest left →
    SkipsOperator bytes left
skips_leaf {rest = rest} {left = left} {op = op} {k = k} h row same q =
    let B : Shape → Type 0 = λ z. BeginsNormal z rest q.tree left in
    record {
      operator = Tree.op (code_of op) (Tree.pair q.tree Tree.empty);
      begins = whole_begins h row (begins_normally (one_normally k (subst B (sym same) q.begins)));
      normally = refl;
      unasked = (q.unasked, tt);
    }

abbrev pub s32_row : {op : Opcode} → HasOne op class.S32 → kinds_of op ≡ Some (kind.S32 ∷ [])
s32_row one = one.row ∙ ap (λ (z : ImmKind). Some (z ∷ [])) one.is

-- an operator of a class
pub skips_class : (c : Class) {bytes rest left : List ℕ} {op : Opcode} → IsHead bytes op rest → HasClass op c → SkipsClass c rest left → SkipsOperator bytes left
skips_class class.Bare {bytes = bytes} h one q = let P : List ℕ → Type 0 = λ z. SkipsOperator bytes z in subst P q (skips_bare h one)
skips_class class.Number h one q = skips_leaf h one.row one.is q
skips_class class.Long h one q = skips_leaf h one.row one.is q
skips_class (class.Raw n) h one q = skips_leaf h one.row one.is q
skips_class class.Block h one q = skips_leaf h one.row one.is q
skips_class class.S32 h one q = skips_leaf h (s32_row one) refl q
skips_class (class.Index s) h one q = absurd q
skips_class class.Mem h one q = absurd q
skips_class class.Other h one q = absurd q

-- a table of branches
pub skips_table : {bytes rest left : List ℕ} {op : Opcode} → IsHead bytes op rest → kinds_of op ≡ Some (kind.Labels ∷ []) → SkipsLeaf labels rest left → SkipsOperator bytes left
skips_table h row q = skips_leaf h row refl q

-- an operator of one byte of a class
pub skips_plain : (b : ℕ) (c : Class) {bytes rest left : List ℕ} → bytes ≡ b ∷ rest → c ≡ class_of (record { prefix = 0; sub = b }) → SkipsClass c rest left → SkipsOperator bytes left
skips_plain b c {rest = rest} {left = left} e same q =
    let op : Opcode = record { prefix = 0; sub = b } in
    let other : c ≡ class.Other → ⊥ = λ (f : c ≡ class.Other). let P : Class → Type 0 = λ z. SkipsClass z rest left in subst P f q in
    skips_class c (plain_head (has_row op c same other) e) (has_class op same) q

pub some_skips_plain : (b : ℕ) (c : Class) {bytes rest : List ℕ} → bytes ≡ b ∷ rest → c ≡ class_of (record { prefix = 0; sub = b }) → (kept : Option (Bor (List ℕ))) →
    IfSome kept (λ left. SkipsClass c rest left.now) → IfSome kept (λ left. SkipsOperator bytes left.now)
some_skips_plain b c e same (Some left) q = skips_plain b c e same q
some_skips_plain b c e same None q = tt

-- ---- a number with sign that is written anew

pub s32_kept : {S E : Type 0} (asked : Asks S E) (s : S) {bytes rest : List ℕ} {op : Opcode} → IsHead bytes op rest → HasOne op class.S32 → (kept : Option (Bor (List ℕ))) →
    IfSome kept (λ left. SkipsLeaf Shape.s32 rest left.now) → IfSome kept (λ left. KeepsOperator asked s bytes left.now s)
s32_kept asked s h one (Some left) q = skips_keeps asked s (skips_leaf h (s32_row one) refl q)
s32_kept asked s h one None q = tt

pub s32_next : {S E : Type 0} (asked : Asks S E) (s : S) {bytes rest : List ℕ} {op : Opcode} → IsHead bytes op rest → HasOne op class.S32 → (kept : Option (Bor (List ℕ))) (next : Next) →
    IfNone kept (PassesS32 op bytes rest next) → IfNone kept (PassesNext asked s bytes s next)
s32_next asked s h one (Some left) next q = tt
s32_next asked s h one None next.Other q = refl
s32_next asked s {bytes = bytes} h one None (next.Made o f n) p =
    let q = p.1 in
    let M : ℕ → Type 0 = λ z. MakesOperator asked s bytes z o (imms_of f) s in
    let O : Opcode → Type 0 = λ z. MakesOperator asked s bytes (length bytes - length q.left) z (imms_of f) s in
    subst M (sym q.counted) (subst O (sym p.0) (makes_one asked s s h (s32_row one) q.begins (imms_of f) q.kind q.tree (λ c. refl)))

-- ---- an index

abbrev pub index_row : {op : Opcode} {p : Space} → HasOne op (class.Index p) → kinds_of op ≡ Some (kind.Index p ∷ [])
index_row one = one.row ∙ ap (λ (z : ImmKind). Some (z ∷ [])) one.is.0

pub index_kind_core : (p : Space) (i : ℕ) → is_core p ≡ true → map imm_kind (imms.Index p i ∷ []) ≡ Some (kind.Index p) ∷ []
index_kind_core p i h = rw h refl

-- the answer is the index itself
pub index_kept : {S E : Type 0} (asked : Asks S E) (s : S) {m : S} (p : Space) {i n : ℕ} → ((c : ℕ) → walk asked c s (Tree.ix p i) ≡ accepted (Tree.ix p n) m) → n ≡ i → (c : ℕ) →
    walk asked c s (Tree.ix p i) ≡ accepted (Tree.ix p i) m
index_kept asked s {m = m} p h same c = h c ∙ ap (λ (z : ℕ). accepted (Tree.ix p z) m) same

-- ---- two indices

-- their kinds, where core modules have their spaces
pub two_kinds : (p o : Space) (i j : ℕ) → is_core p ≡ true → is_core o ≡ true → map imm_kind (imms.Index p i ∷ imms.Index o j ∷ []) ≡ Some (kind.Index p) ∷ Some (kind.Index o) ∷ []
two_kinds p o i j h k = rw (h, k) refl

-- ---- a memory access

abbrev pub mem_row : {op : Opcode} → HasOne op class.Mem → kinds_of op ≡ Some (kind.Mem ∷ [])
mem_row one = one.row ∙ ap (λ (z : ImmKind). Some (z ∷ [])) one.is

-- its memory is left out
pub mem_begins : {a o : ℕ} {bytes middle left : List ℕ} → bytes ≡ a ∷ middle → a < 64 → BeginsNumber 128 64 64 middle o left → Begins Shape.mem bytes (Tree.mem a 0 o) left
mem_begins {a = a} e small p = record {
  text = a ∷ p.0;
  spells = record {
    shaped = Is.mem;
    spelled = (
      small,
      inl (record {
        flags = a ∷ [];
        offset = p.0;
        parts = refl;
        zero = refl;
        flagged = record { spelled = (omega arith, refl); short = omega arith; fits = omega arith };
        offsets = p.1;
      }),
    );
  };
  reads = e ∙ ap (λ (z : List ℕ). a ∷ z) p.2;
}

pub mem_short : (a o : ℕ) {bytes middle : List ℕ} (left : List ℕ) → bytes ≡ a ∷ middle → a < 64 → middle ≡ leb o ++ left → bytes ≡ normal (Tree.mem a 0 o) ++ left
unfolding shortest
mem_short a o left e small f = let near : a < 128 = omega arith in rw (lt-ltb a 128 near) (e ∙ ap (λ (z : List ℕ). a ∷ z) f)

module _ {S E : Type 0} (reply : S → Visit → Result ℕ E) (next : S → Visit → S) (s m : S) (a o : ℕ) where
  pub mem_made : (n : ℕ) → Replies reply next s m (Index space.Memory 0) (Ok n) → (c : ℕ) → walk (ask reply next) c s (Tree.mem a 0 o) ≡ accepted (Tree.mem a n o) m
  mem_made n h c = rw h refl

  pub mem_kept : (n : ℕ) → Replies reply next s m (Index space.Memory 0) (Ok n) → n ≡ 0 → (c : ℕ) → walk (ask reply next) c s (Tree.mem a 0 o) ≡ accepted (Tree.mem a 0 o) m
  mem_kept n h same c = rw h (ap (λ (z : ℕ). accepted (Tree.mem a z o) m) same)

  pub mem_refused : (e : Error E) → Replies reply next s m (Index space.Memory 0) (Err e) → (c : ℕ) → e ≢ NoMemory → walk (ask reply next) c s (Tree.mem a 0 o) ≡ refused e m
  mem_refused e h c other = rw (h other) refl
