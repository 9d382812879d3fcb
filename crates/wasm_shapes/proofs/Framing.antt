-- Frames.
use Rattle.std.proofs.Common.{◌≡◌, ℕ, ◌+◌, ◌<◌, List, ◌∷◌, ◌++◌, length, length-append, refl, sym, ap, ◌∙◌, append_assoc, arith, subst}
use Rattle.std.proofs.lemmas.List.{append_cancel_left}
use Rattle.wasm_leb.specs.Leb.{IsUnsigned}
use Rattle.wasm_leb.specs.Place.{BeginsNumber, BeginsNoNumber}
use Rattle.wasm_leb.proofs.Unique.{unsigned_unique}
use Rattle.wasm_shapes.specs.Tree.{Tree}
use Rattle.wasm_shapes.specs.Shape.{Shape}
use Rattle.wasm_shapes.specs.Spells.{Is, Spelled, Spells}
use Rattle.wasm_shapes.specs.Place.{Begins, BeginsNone}
use Rattle.wasm_shapes.proofs.Lists.{same_length}

-- ---- a sized body

pub begins_sized : {a : Shape} {t : Tree} {bytes body left : List ℕ} → BeginsNumber 128 32 32 bytes (length body) (body ++ left) → Spells a body t →
    Begins (Shape.sized a) bytes (Tree.sized t) left
begins_sized {body = body} {left = left} n p = record {
  text = n.0 ++ body;
  spells = record { shaped = Is.sized p.shaped; spelled = (n.0, body, refl, n.1, p.spelled) };
  reads = n.2 ∙ sym (append_assoc n.0 body left);
}

pub none_sized_length : {a : Shape} {bytes : List ℕ} → BeginsNoNumber 128 32 32 bytes → BeginsNone (Shape.sized a) bytes
none_sized_length {a = a} {bytes = bytes} none = record { none = λ text left tree p e. go text left tree p.shaped p.spelled e }
  where
    go : (text left : List ℕ) (tree : Tree) → Is (Shape.sized a) tree → Spelled tree text → bytes ≡ text ++ left → ⊥
    go text left tree (Is.sized d) p e =
        none p.0 (p.1 ++ left) (length p.1) p.3 (e ∙ ap (λ (z : List ℕ). z ++ left) p.2 ∙ append_assoc p.0 p.1 left)

pub none_sized : {a : Shape} {n : ℕ} {bytes middle : List ℕ} → BeginsNumber 128 32 32 bytes n middle →
    ((body left : List ℕ) (t : Tree) → middle ≡ body ++ left → length body ≡ n → Spells a body t → ⊥) → BeginsNone (Shape.sized a) bytes
none_sized {a = a} {n = n} {bytes = bytes} {middle = middle} there none = record { none = λ text left tree p e. go text left tree p.shaped p.spelled e }
  where
    go : (text left : List ℕ) (tree : Tree) → Is (Shape.sized a) tree → Spelled tree text → bytes ≡ text ++ left → ⊥
    go text left tree (Is.sized {t = t} d) p e =
        let parts : bytes ≡ p.0 ++ (p.1 ++ left) = e ∙ ap (λ (z : List ℕ). z ++ left) p.2 ∙ append_assoc p.0 p.1 left in
        let both_ways : there.0 ++ middle ≡ p.0 ++ (p.1 ++ left) = sym there.2 ∙ parts in
        let same = unsigned_unique middle (p.1 ++ left) there.1 p.3 both_ways in
        let shifted : p.0 ++ middle ≡ p.0 ++ (p.1 ++ left) = ap (λ (z : List ℕ). z ++ middle) (sym same.0) ∙ both_ways in
        none p.1 left t (append_cancel_left p.0 middle (p.1 ++ left) shifted) (sym same.1) (record { shaped = d; spelled = p.4 })

pub no_body_room : {a : Shape} {n : ℕ} {middle : List ℕ} → length middle < n → (body left : List ℕ) (t : Tree) → middle ≡ body ++ left → length body ≡ n → Spells a body t → ⊥
no_body_room {n = n} {middle = middle} short body left t e l p =
    let parts : length middle ≡ length body + length left = ap length e ∙ length-append body left in
    omega arith

pub no_body : {a : Shape} (body behind : List ℕ) → ((t : Tree) → Spells a body t → ⊥) →
    (b left : List ℕ) (t : Tree) → body ++ behind ≡ b ++ left → length b ≡ length body → Spells a b t → ⊥
no_body {a = a} body behind none b left t e l p =
    let same : b ≡ body = same_length b body left behind l (sym e) in
    let P : List ℕ → Type 0 = λ z. Spells a z t in
    none t (subst P same p)

-- ---- a frame

-- an id, a size and a body
pub record FrameIs (id : ℕ) (bytes body left : List ℕ) : Type 0 where
  pub size : List ℕ
  pub counted : IsUnsigned 32 size (length body)
  pub reads : bytes ≡ id ∷ (size ++ (body ++ left))

pub begins_raw : {bytes : List ℕ} → Spells Shape.rest bytes (Tree.raw bytes)
begins_raw = record { shaped = Is.rest; spelled = refl }

-- an id that is a byte, and a body in a frame
pub frame_is : {id b : ℕ} {bytes rest body left : List ℕ} → bytes ≡ b ∷ rest → b ≡ id → Begins (Shape.sized Shape.rest) rest (Tree.sized (Tree.raw body)) left → FrameIs id bytes body left
frame_is {id = id} {b = b} {rest = rest} {body = body} {left = left} e same p =
    let s = p.spells.spelled in
    let whole : rest ≡ s.0 ++ (body ++ left) =
    p.reads ∙ ap (λ (z : List ℕ). z ++ left) (s.2 ∙ ap (λ (z : List ℕ). s.0 ++ z) s.4) ∙ append_assoc s.0 body left in
    let P : List ℕ → Type 0 = λ v. IsUnsigned 32 s.0 (length v) in record {
      size = s.0;
      counted = subst P s.4 s.3;
      reads = e ∙ ap (λ (v : ℕ). v ∷ rest) same ∙ ap (λ (v : List ℕ). id ∷ v) whole;
    }
