-- What a tree needs to have a spelling, and a ceiling on its frames.
use Rattle.std.specs.Prelude.{ℕ, ◌^◌, ◌<◌, ◌≤◌, length, IsUtf8, All}
use Rattle.wasm_leb.specs.Leb.{FitsBits}
use Rattle.wasm_shapes.specs.Operators.{Code, plain, prefixed}
use Rattle.wasm_shapes.specs.Tree.{Tree, count, frames}

abbrev pub CodeInRange : Code → Type 0
CodeInRange (plain b) = Unit {0}
CodeInRange (prefixed p n) = n < 2 ^ 32

-- Each number, count and length of a text has a spelling. Of the frames `Fits` speaks.
abbrev pub InRange : Tree → Type 0
InRange (Tree.byte b) = b < 256
InRange (Tree.u32 n) = n < 2 ^ 32
InRange (Tree.u64 n) = n < 2 ^ 64
InRange (Tree.s32 z) = FitsBits 32 z
InRange (Tree.s64 z) = FitsBits 64 z
InRange (Tree.ix s i) = i < 2 ^ 32
InRange (Tree.sx s i) = i < 2 ^ 32
InRange (Tree.outer s c i) = (c < 2 ^ 32) × (i < 2 ^ 32)
InRange (Tree.name bs) = (length bs < 2 ^ 32) × IsUtf8 bs
InRange (Tree.content bs) = length bs < 2 ^ 32
InRange (Tree.mem a i o) = (a < 64) × (i < 2 ^ 32) × (o < 2 ^ 64)
InRange (Tree.canonical i) = ⊥
InRange (Tree.flag n) = n < 2 ^ 32
InRange (Tree.pair t u) = InRange t × InRange u
InRange (Tree.swap t u) = InRange t × InRange u
InRange (Tree.cons t u) = InRange t × InRange u
InRange (Tree.vec t) = (count t < 2 ^ 32) × InRange t
InRange (Tree.present t) = InRange t
InRange (Tree.sized t) = InRange t
InRange (Tree.row k t) = InRange t
InRange (Tree.scope t) = InRange t
InRange (Tree.spare b t) = InRange t
InRange (Tree.kept b t) = InRange t
InRange (Tree.final t u) = (count t < 2 ^ 32) × InRange t × InRange u
InRange (Tree.until b t) = InRange t
InRange (Tree.op c t) = CodeInRange c × InRange t
InRange (Tree.left w o t) = InRange o × InRange t
InRange (Tree.aimed w i o t) = (i < 2 ^ 32) × InRange o × InRange t
InRange (Tree.placed i o t) = (i < 2 ^ 32) × InRange o × InRange t
InRange (Tree.told k t) = InRange t
InRange (Tree.also t u) = InRange t × InRange u
InRange _ = Unit {0}

-- no frame is above the ceiling
abbrev pub Fits : Tree → ℕ → Type 0
Fits tree ceiling = All (λ n. n ≤ ceiling) (frames tree)
