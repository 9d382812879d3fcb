-- Data segments at the front of some bytes.
use Rattle.std.proofs.Common.{◌≡◌, ℕ, List, ◌++◌, length, refl, sym, ap, ◌∙◌, append_assoc, subst, inl, inr}
use Rattle.std.proofs.lemmas.List.{append_cancel_left}
use Rattle.wasm_leb.specs.Place.{BeginsNumber, BeginsNoNumber}
use Rattle.wasm_leb.proofs.Unique.{unsigned_unique}
use Rattle.wasm_leb.specs.Leb.{IsUnsigned}
use Rattle.wasm_shapes.specs.Tree.{Tree}
use Rattle.wasm_shapes.specs.Shape.{Shape, Named}
use Rattle.wasm_shapes.specs.Spells.{Is, Spelled, SpelledPlace}
use Rattle.wasm_shapes.specs.Place.{Begins, BeginsNone}
use Rattle.wasm_shapes.specs.Module.{data_row}
use Rattle.wasm_shapes.proofs.Begins.{begins_flag, begins_seq}

-- ---- bytes behind their length

pub sized_content : {bs bytes left : List ℕ} → Begins (Shape.sized Shape.rest) bytes (Tree.sized (Tree.raw bs)) left → Begins Shape.content bytes (Tree.content bs) left
sized_content {bs = bs} p =
    let s = p.spells.spelled in
    let P : List ℕ → Type 0 = λ z. IsUnsigned 32 s.0 (length z) in record {
      text = p.text;
      spells = record { shaped = Is.content; spelled = (s.0, s.2 ∙ ap (λ (z : List ℕ). s.0 ++ z) s.4, subst P s.4 s.3) };
      reads = p.reads;
    }

pub none_content : {bytes : List ℕ} → BeginsNone (Shape.sized Shape.rest) bytes → BeginsNone Shape.content bytes
none_content {bytes = bytes} none = record { none = λ text left tree p e. go text left tree p.shaped p.spelled e }
  where
    go : (text left : List ℕ) (tree : Tree) → Is Shape.content tree → Spelled tree text → bytes ≡ text ++ left → ⊥
    go text left tree (Is.content {bs = bs}) p e =
        none.none text left (Tree.sized (Tree.raw bs)) (record { shaped = Is.sized Is.rest; spelled = (p.0, bs, p.1, p.2, refl) }) e

-- ---- segments

-- what stands behind the memory of an active segment
abbrev pub behind_place : Shape
behind_place = Shape.seq (Shape.ref Named.expression) Shape.content

placed_begins : {i : ℕ} {bytes left : List ℕ} {o t : Tree} (front middle : List ℕ) → SpelledPlace i front → bytes ≡ front ++ middle → Begins behind_place middle (Tree.pair o t) left →
    Begins data_row bytes (Tree.row 0 (Tree.placed i o t)) left
placed_begins {i = i} {bytes = bytes} {left = left} {o = o} {t = t} front middle place here p = go p.spells.shaped p.spells.spelled
  where
    go : Is behind_place (Tree.pair o t) → Spelled (Tree.pair o t) p.text → Begins data_row bytes (Tree.row 0 (Tree.placed i o t)) left
    go (Is.seq d d') s = record {
      text = front ++ p.text;
      spells = record {
        shaped = Is.first (Is.placed d d');
        spelled = (front, s.0, s.1, ap (λ (z : List ℕ). front ++ z) s.2, place, s.3, s.4);
      };
      reads = here ∙ ap (λ (z : List ℕ). front ++ z) p.reads ∙ sym (append_assoc front p.text left);
    }

-- the memory is left out
pub begins_left : {bytes middle left : List ℕ} {o t : Tree} → BeginsNumber 128 32 32 bytes 0 middle → Begins behind_place middle (Tree.pair o t) left →
    Begins data_row bytes (Tree.row 0 (Tree.placed 0 o t)) left
begins_left {middle = middle} f p = placed_begins f.0 middle (inl (refl, f.1)) f.2 p

-- it is written
pub begins_written : {i : ℕ} {bytes middle behind left : List ℕ} {o t : Tree} → BeginsNumber 128 32 32 bytes 2 middle → BeginsNumber 128 32 32 middle i behind →
    Begins behind_place behind (Tree.pair o t) left → Begins data_row bytes (Tree.row 0 (Tree.placed i o t)) left
begins_written {behind = behind} f n p =
    placed_begins (f.0 ++ n.0) behind (inr (f.0, n.0, refl, f.1, n.1)) (f.2 ∙ ap (λ (z : List ℕ). f.0 ++ z) n.2 ∙ sym (append_assoc f.0 n.0 behind)) p

-- a passive segment
pub begins_passive : {bytes middle left : List ℕ} {t : Tree} → BeginsNumber 128 32 32 bytes 1 middle → Begins Shape.content middle t left →
    Begins data_row bytes (Tree.row 1 (Tree.pair (Tree.flag 1) t)) left
begins_passive f p =
    let q = begins_seq (begins_flag f) p in
    record { text = q.text; spells = record { shaped = Is.later {k = 0} (Is.first q.spells.shaped); spelled = q.spells.spelled }; reads = q.reads }

-- ---- none

-- a number at the front has one value, and these are behind it
pub one_number : {m n : ℕ} {bytes a b : List ℕ} → BeginsNumber 128 32 32 bytes m a → BeginsNumber 128 32 32 bytes n b → (m ≡ n) × (a ≡ b)
one_number {a = a} {b = b} p q =
    let both_ways : p.0 ++ a ≡ q.0 ++ b = sym p.2 ∙ q.2 in
    let same = unsigned_unique a b p.1 q.1 both_ways in
    (same.1, append_cancel_left q.0 a b (ap (λ (z : List ℕ). z ++ a) (sym same.0) ∙ both_ways))

pub none_flag : {bytes : List ℕ} → BeginsNoNumber 128 32 32 bytes → BeginsNone data_row bytes
none_flag {bytes = bytes} none = record { none = λ text left tree p e. go text left tree p.shaped p.spelled e }
  where
    placed : (i : ℕ) (f rest : List ℕ) → SpelledPlace i f → bytes ≡ f ++ rest → ⊥
    placed i f rest (inl p) e = none f rest 0 p.1 e
    placed i f rest (inr p) e = none p.0 (p.1 ++ rest) 2 p.3 (e ∙ ap (λ (z : List ℕ). z ++ rest) p.2 ∙ append_assoc p.0 p.1 rest)

    go : (text left : List ℕ) (tree : Tree) → Is data_row tree → Spelled tree text → bytes ≡ text ++ left → ⊥
    go text left tree (Is.first (Is.placed {i = i} d d')) p e =
        placed i p.0 ((p.1 ++ p.2) ++ left) p.4 (e ∙ ap (λ (z : List ℕ). z ++ left) p.3 ∙ append_assoc p.0 (p.1 ++ p.2) left)
    go text left tree (Is.later (Is.first (Is.seq Is.flag d))) p e =
        none p.0 (p.1 ++ left) 1 p.3 (e ∙ ap (λ (z : List ℕ). z ++ left) p.2 ∙ append_assoc p.0 p.1 left)
    go text left tree (Is.later (Is.later d)) p e = elim d [ ]

-- Nothing is a segment where none of its forms stands behind the flag.
pub none_data : {flag : ℕ} {bytes middle : List ℕ} → BeginsNumber 128 32 32 bytes flag middle → (flag ≡ 0 → BeginsNone behind_place middle) →
    (flag ≡ 1 → BeginsNone Shape.content middle) →
    (flag ≡ 2 → (i : ℕ) (behind : List ℕ) → BeginsNumber 128 32 32 middle i behind → BeginsNone behind_place behind) → BeginsNone data_row bytes
none_data {flag = flag} {bytes = bytes} {middle = middle} there left_out passive written =
    record { none = λ text left tree p e. go text left tree p.shaped p.spelled e }
  where
    placed : (i : ℕ) (f y z left : List ℕ) (o t : Tree) → Is (Shape.ref Named.expression) o → Is Shape.content t → SpelledPlace i f → Spelled o y → Spelled t z →
        bytes ≡ f ++ ((y ++ z) ++ left) → ⊥
    placed i f y z left o t d d' (inl p) q r e =
        let same = one_number there (f, p.1, e) in
        (left_out same.0).none (y ++ z) left (Tree.pair o t) (record { shaped = Is.seq d d'; spelled = (y, z, refl, q, r) }) same.1
    placed i f y z left o t d d' (inr p) q r e =
        let behind : List ℕ = (y ++ z) ++ left in
        let same = one_number there (p.0, p.3, e ∙ ap (λ (x : List ℕ). x ++ behind) p.2 ∙ append_assoc p.0 p.1 behind) in
        (written same.0 i behind (p.1, p.4, same.1)).none (y ++ z) left (Tree.pair o t) (record { shaped = Is.seq d d'; spelled = (y, z, refl, q, r) }) refl

    go : (text left : List ℕ) (tree : Tree) → Is data_row tree → Spelled tree text → bytes ≡ text ++ left → ⊥
    go text left tree (Is.first (Is.placed {i = i} {o = o} {t = t} d d')) p e =
        placed i p.0 p.1 p.2 left o t d d' p.4 p.5 p.6 (e ∙ ap (λ (z : List ℕ). z ++ left) p.3 ∙ append_assoc p.0 (p.1 ++ p.2) left)
    go text left tree (Is.later (Is.first (Is.seq {u = u} Is.flag d))) p e =
        let same = one_number there (p.0, p.3, e ∙ ap (λ (z : List ℕ). z ++ left) p.2 ∙ append_assoc p.0 p.1 left) in
        (passive same.0).none p.1 left u (record { shaped = d; spelled = p.4 }) same.1
    go text left tree (Is.later (Is.later d)) p e = elim d [ ]

-- the memory is there, and so it is the one that was read
pub none_behind : {i j : ℕ} {s : Shape} {bytes a b : List ℕ} → BeginsNumber 128 32 32 bytes i a → BeginsNumber 128 32 32 bytes j b → BeginsNone s a → BeginsNone s b
none_behind {s = s} p q none = let N : List ℕ → Type 0 = λ z. BeginsNone s z in subst N (one_number p q).1 none
