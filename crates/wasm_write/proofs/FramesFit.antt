-- The frames of what was read: none is longer than the text that it stands in, and none passes 2^32 - 1.
use Rattle.std.proofs.Common.{◌≡◌, ℕ, suc, ◌^◌, ◌<◌, ◌≤◌, List, [], ◌∷◌, ◌++◌, length, length-append, refl, ap, arith, All, inl, inr}
use Rattle.std.proofs.lemmas.List.Elements.{All-append, All-cons}
use Rattle.wasm_shapes.specs.Tree.{Tree, normal, frames, kind_bytes}
use Rattle.wasm_shapes.specs.Spells.{Spelled}
use Rattle.wasm_shapes.specs.Fits.{Fits}
use Rattle.wasm_write.specs.Laws.{IsShortest}
use Rattle.wasm_write.proofs.Shorter.{shorter}

-- what is no longer than a text, and is a number of 32 bits, is not above the ceiling
abbrev pub Within : ℕ → List ℕ → Type 0
Within c x = (n : ℕ) → n ≤ length x → n < 2 ^ 32 → n ≤ c

-- so it is with the parts of the text
first_within : (c : ℕ) (y z : List ℕ) {x : List ℕ} → x ≡ y ++ z → Within c x → Within c y
first_within c y z e h n l = h n (omega (arith, length-append y z, ap length e))

second_within : (c : ℕ) (y z : List ℕ) {x : List ℕ} → x ≡ y ++ z → Within c x → Within c z
second_within c y z e h n l = h n (omega (arith, length-append y z, ap length e))

rest_within : (c b : ℕ) (y : List ℕ) {x : List ℕ} → x ≡ b ∷ y → Within c x → Within c y
rest_within c b y {x} e h n l = let long : length x ≡ suc (length y) = ap length e in h n (omega arith)

no_frames : (c : ℕ) → All (λ n. n ≤ c) []
no_frames c k d l = absurd (omega arith)

-- two parts of a text, side by side
two : (c : ℕ) (t u : Tree) (x y z : List ℕ) → x ≡ y ++ z → Within c x → (Within c y → Fits t c) → (Within c z → Fits u c) → All (λ n. n ≤ c) (frames t ++ frames u)
two c t u x y z e h p q =
    All-append (λ n. n ≤ c) (frames t) (frames u) (p (first_within c y z e h)) (q (second_within c y z e h))

pub frames_fit : (c : ℕ) (t : Tree) (x : List ℕ) → Spelled t x → Within c x → Fits t c
frames_fit c (Tree.pair t u) x p h = two c t u x p.0 p.1 p.2 h (frames_fit c t p.0 p.3) (frames_fit c u p.1 p.4)
frames_fit c (Tree.swap t u) x p h = two c t u x p.0 p.1 p.2 h (frames_fit c t p.0 p.3) (frames_fit c u p.1 p.4)
frames_fit c (Tree.cons t u) x p h = two c t u x p.0 p.1 p.2 h (frames_fit c t p.0 p.3) (frames_fit c u p.1 p.4)
frames_fit c (Tree.vec t) x p h = frames_fit c t p.1 p.4 (second_within c p.0 p.1 p.2 h)
frames_fit c (Tree.present t) x p h = frames_fit c t p.0 p.2 (rest_within c 1 p.0 p.1 h)
frames_fit c (Tree.sized t) x p h =
    let body : Within c p.1 = second_within c p.0 p.1 p.2 h in
    let short : length (normal t) ≤ length p.1 = shorter t p.1 p.4 in
    let size : length p.1 < 2 ^ 32 = p.3.fits in
    All-append (λ n. n ≤ c) (frames t) (length (normal t) ∷ []) (frames_fit c t p.1 p.4 body)
    (All-cons (λ n. n ≤ c) (length (normal t)) [] (body (length (normal t)) short (omega arith)) (no_frames c))
frames_fit c (Tree.row k t) x p h = frames_fit c t x p h
frames_fit c (Tree.scope t) x p h = frames_fit c t x p h
frames_fit c (Tree.spare b t) x (inl p) h = frames_fit c t x p h
frames_fit c (Tree.spare b t) x (inr p) h = frames_fit c t p.0 p.2 (rest_within c b p.0 p.1 h)
frames_fit c (Tree.kept b t) x p h = frames_fit c t p.0 p.2 (rest_within c b p.0 p.1 h)
frames_fit c (Tree.final t u) x (inl p) h = two c t u x p.0 p.1 p.2 h (frames_fit c t p.0 p.4) (frames_fit c u p.1 p.5)
frames_fit c (Tree.final t u) x (inr p) h =
    let rest : Within c (p.0 ++ (p.1 ++ p.2)) = rest_within c 0x4f (p.0 ++ (p.1 ++ p.2)) p.3 h in
    two c t u (p.1 ++ p.2) p.1 p.2 refl (second_within c p.0 (p.1 ++ p.2) refl rest) (frames_fit c t p.1 p.5) (frames_fit c u p.2 p.6)
frames_fit c (Tree.until b t) x p h = frames_fit c t p.0 p.2 (first_within c p.0 (b ∷ []) p.1 h)
frames_fit c (Tree.op k t) x p h = frames_fit c t p.1 p.4 (second_within c p.0 p.1 p.2 h)
frames_fit c (Tree.left w o t) x p h =
    two c o t (p.1 ++ p.2) p.1 p.2 refl (second_within c p.0 (p.1 ++ p.2) p.3 h) (frames_fit c o p.1 p.5) (frames_fit c t p.2 p.6)
frames_fit c (Tree.aimed w i o t) x p h =
    let listed = kind_bytes w ++ p.3 in
    let behind_flag : Within c (p.1 ++ (p.2 ++ listed)) = second_within c p.0 (p.1 ++ (p.2 ++ listed)) p.4 h in
    let behind_index : Within c (p.2 ++ listed) = second_within c p.1 (p.2 ++ listed) refl behind_flag in
    two c o t (p.2 ++ listed) p.2 listed refl behind_index (frames_fit c o p.2 p.7) (λ l. frames_fit c t p.3 p.8 (second_within c (kind_bytes w) p.3 refl l))
frames_fit c (Tree.placed i o t) x p h =
    two c o t (p.1 ++ p.2) p.1 p.2 refl (second_within c p.0 (p.1 ++ p.2) p.3 h) (frames_fit c o p.1 p.5) (frames_fit c t p.2 p.6)
frames_fit c (Tree.told k t) x p h = frames_fit c t x p h
frames_fit c (Tree.also t u) x p h = two c t u x p.0 p.1 p.2 h (frames_fit c t p.0 p.3) (frames_fit c u p.1 p.4)
frames_fit c _ x p h = no_frames c

-- a frame of the text is no longer than it
pub frames_in_text : (c : ℕ) (t : Tree) (x : List ℕ) → Spelled t x → length x ≤ c → Fits t c
frames_in_text c t x p h = frames_fit c t x p (λ n l s. omega arith)

-- and its size is a number of 32 bits
pub read_frames_fit : (t : Tree) (x : List ℕ) → Spelled t x → Fits t 4294967295
read_frames_fit t x p = frames_fit 4294967295 t x p (λ n l s. omega arith)

pub is_shortest : IsShortest
is_shortest = record { shortest = shorter; within = frames_in_text; sized = read_frames_fit }
