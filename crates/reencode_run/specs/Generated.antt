-- The module that is made of a number of functions.
use Rattle.std.specs.Prelude.{ℕ, zero, suc, ◌+◌, ◌/◌, ◌%◌, ◌^◌, pos, List, [], ◌∷◌, ◌++◌, length, replicate}
use Rattle.wasm_leb.specs.Leb.{leb, shortest_signed}
use Rattle.wasm_shapes.specs.Module.{core_header}

-- a number below 2^32 in just five bytes
abbrev pub five_bytes : ℕ → List ℕ
five_bytes n =
    (n % 128 + 128) ∷ (n / 2 ^ 7 % 128 + 128) ∷ (n / 2 ^ 14 % 128 + 128) ∷ (n / 2 ^ 21 % 128 + 128) ∷ (n / 2 ^ 28) ∷ []

-- what a function does: it drops its own number and calls the next one, the last one the first
abbrev pub body : ℕ → ℕ → List ℕ
body n i = 0 ∷ 65 ∷ shortest_signed (pos i) ++ (26 ∷ 16 ∷ five_bytes ((i + 1) % n)) ++ (11 ∷ [])

-- bytes behind their number
abbrev pub sized : List ℕ → List ℕ
sized bytes = leb (length bytes) ++ bytes

-- the first so many bodies, each with its size
abbrev pub bodies : ℕ → ℕ → List ℕ
bodies n zero = []
bodies n (suc i) = bodies n i ++ sized (body n i)

-- the bodies of the code section behind their number
abbrev pub code : ℕ → List ℕ
code n = leb n ++ bodies n n

-- a type of no parameters and no results, so many functions of it, and their bodies
abbrev pub generated : ℕ → List ℕ
generated n =
    core_header ++ (1 ∷ 4 ∷ 1 ∷ 96 ∷ 0 ∷ 0 ∷ []) ++ (3 ∷ sized (leb n ++ replicate n 0)) ++ (10 ∷ sized (code n))
