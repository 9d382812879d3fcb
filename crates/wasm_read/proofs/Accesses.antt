-- Memory accesses at the front of some bytes.
use Rattle.std.proofs.Common.{◌≡◌, ℕ, ◌<◌, ◌≤◌, ◌+◌, List, ◌++◌, refl, sym, ap, ◌∙◌, append_assoc, arith, inl, inr}
use Rattle.std.proofs.lemmas.List.{append_cancel_left}
use Rattle.wasm_leb.specs.Place.{BeginsNumber, BeginsNoNumber}
use Rattle.wasm_leb.proofs.Unique.{unsigned_unique}
use Rattle.wasm_shapes.specs.Tree.{Tree}
use Rattle.wasm_shapes.specs.Shape.{Shape}
use Rattle.wasm_shapes.specs.Spells.{Is, Spelled, SpelledMemLeft, SpelledMemWritten}
use Rattle.wasm_shapes.specs.Place.{Begins, BeginsNone}

-- the memory is left out
pub begins_mem_left : {a o : ℕ} {bytes middle left : List ℕ} → a < 64 → BeginsNumber 128 32 32 bytes a middle → BeginsNumber 128 64 64 middle o left →
    Begins Shape.mem bytes (Tree.mem a 0 o) left
begins_mem_left {left = left} small f n = record {
  text = f.0 ++ n.0;
  spells = record {
    shaped = Is.mem;
    spelled = (small, inl (record { flags = f.0; offset = n.0; parts = refl; zero = refl; flagged = f.1; offsets = n.1 }));
  };
  reads = f.2 ∙ ap (λ (z : List ℕ). f.0 ++ z) n.2 ∙ sym (append_assoc f.0 n.0 left);
}

-- the memory is written
pub begins_mem_written : {a b i o : ℕ} {bytes middle behind left : List ℕ} → a < 64 → b ≡ a + 64 → BeginsNumber 128 32 32 bytes b middle →
    BeginsNumber 128 32 32 middle i behind → BeginsNumber 128 64 64 behind o left → Begins Shape.mem bytes (Tree.mem a i o) left
begins_mem_written {left = left} small is f m n = record {
  text = f.0 ++ (m.0 ++ n.0);
  spells = record {
    shaped = Is.mem;
    spelled = (small, inr (record { flags = f.0; memory = m.0; offset = n.0; parts = refl; flagged = rw is at f.1; index = m.1; offsets = n.1 }));
  };
  reads =
      f.2 ∙ ap (λ (z : List ℕ). f.0 ++ z) (m.2 ∙ ap (λ (z : List ℕ). m.0 ++ z) n.2 ∙ sym (append_assoc m.0 n.0 left))
      ∙ sym (append_assoc f.0 (m.0 ++ n.0) left);
}

-- Nothing is a memory access where neither of its forms stands behind the flags.
pub none_mem : {b : ℕ} {bytes middle : List ℕ} → BeginsNumber 128 32 32 bytes b middle →
    (b < 64 → BeginsNoNumber 128 64 64 middle) →
    ((i : ℕ) (behind : List ℕ) → 64 ≤ b → b < 128 → BeginsNumber 128 32 32 middle i behind → BeginsNoNumber 128 64 64 behind) →
    BeginsNone Shape.mem bytes
none_mem {b = b} {bytes = bytes} {middle = middle} there short long = record { none = λ text left tree p e. go text left tree p.shaped p.spelled e }
  where
    left_out : (a i o : ℕ) (text left : List ℕ) → a < 64 → SpelledMemLeft a i o text → bytes ≡ text ++ left → ⊥
    left_out a i o text left small p e =
        let parts : bytes ≡ p.flags ++ (p.offset ++ left) = e ∙ ap (λ (z : List ℕ). z ++ left) p.parts ∙ append_assoc p.flags p.offset left in
        let both_ways : there.0 ++ middle ≡ p.flags ++ (p.offset ++ left) = sym there.2 ∙ parts in
        let same = unsigned_unique middle (p.offset ++ left) there.1 p.flagged both_ways in
        let shifted : p.flags ++ middle ≡ p.flags ++ (p.offset ++ left) = ap (λ (z : List ℕ). z ++ middle) (sym same.0) ∙ both_ways in
        let is : b ≡ a = same.1 in
        short (omega arith) p.offset left o p.offsets (append_cancel_left p.flags middle (p.offset ++ left) shifted)

    written : (a i o : ℕ) (text left : List ℕ) → a < 64 → SpelledMemWritten a i o text → bytes ≡ text ++ left → ⊥
    written a i o text left small p e =
        let inner : (p.memory ++ p.offset) ++ left ≡ p.memory ++ (p.offset ++ left) = append_assoc p.memory p.offset left in
        let parts : bytes ≡ p.flags ++ (p.memory ++ (p.offset ++ left)) =
        e ∙ ap (λ (z : List ℕ). z ++ left) p.parts ∙ append_assoc p.flags (p.memory ++ p.offset) left ∙ ap (λ (z : List ℕ). p.flags ++ z) inner in
        let both_ways : there.0 ++ middle ≡ p.flags ++ (p.memory ++ (p.offset ++ left)) = sym there.2 ∙ parts in
        let same = unsigned_unique middle (p.memory ++ (p.offset ++ left)) there.1 p.flagged both_ways in
        let shifted : p.flags ++ middle ≡ p.flags ++ (p.memory ++ (p.offset ++ left)) = ap (λ (z : List ℕ). z ++ middle) (sym same.0) ∙ both_ways in
        let is : b ≡ a + 64 = same.1 in
        long i (p.offset ++ left) (omega arith) (omega arith) (p.memory, p.index, append_cancel_left p.flags middle (p.memory ++ (p.offset ++ left)) shifted)
        p.offset left o p.offsets refl

    go : (text left : List ℕ) (tree : Tree) → Is Shape.mem tree → Spelled tree text → bytes ≡ text ++ left → ⊥
    go text left tree (Is.mem {a = a} {i = i} {o = o}) (small, inl p) e = left_out a i o text left small p e
    go text left tree (Is.mem {a = a} {i = i} {o = o}) (small, inr p) e = written a i o text left small p e

-- a number at the front has one value, and one rest
pub same_number : {m n : ℕ} {bytes a b : List ℕ} → BeginsNumber 128 32 32 bytes m a → BeginsNumber 128 32 32 bytes n b → a ≡ b
same_number {a = a} {b = b} p q =
    let both_ways : p.0 ++ a ≡ q.0 ++ b = sym p.2 ∙ q.2 in
    let same = unsigned_unique a b p.1 q.1 both_ways in
    append_cancel_left q.0 a b (ap (λ (z : List ℕ). z ++ a) (sym same.0) ∙ both_ways)
