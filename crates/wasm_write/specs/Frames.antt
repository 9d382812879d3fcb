-- Bodies behind their lengths, and what stands in front of these (WebAssembly Core Specification 3.0, section 5.5).
use Rattle.std.specs.Prelude.{◌≡◌, ℕ, ◌<◌, ◌^◌, List, [], ◌∷◌, ◌++◌, length, slice_get, Some}
use Rattle.wasm_leb.specs.Leb.{leb}
use Rattle.wasm_shapes.specs.Tree.{Tree, normal}

-- some bytes, and a body that stands behind them and its length
pub record Frame : Type 0 where
  pub head : List ℕ
  pub body : List ℕ

abbrev pub frame_bytes : Frame → List ℕ
frame_bytes f = f.head ++ (leb (length f.body) ++ f.body)

-- frames one behind another
abbrev pub frames_bytes : List Frame → List ℕ
frames_bytes [] = []
frames_bytes (f ∷ fs) = frame_bytes f ++ frames_bytes fs

-- so many bytes stand in front of the length, which has a spelling of 32 bits
pub record IsFrame (n : ℕ) (f : Frame) : Type 0 where
  pub headed : length f.head ≡ n
  pub short : length f.body < 2 ^ 32

-- the parts of a frame, and what stands behind it
pub record AreParts (f : Frame) (left head body behind : List ℕ) : Type 0 where
  pub first : head ≡ f.head
  pub second : body ≡ f.body
  pub third : behind ≡ left

-- the normal spelling of what the row of this number holds in its frame
pub record IsBodyOf (rows : List Tree) (i : ℕ) (body : List ℕ) : Type 0 where
  pub tree : Tree
  pub row : slice_get rows i ≡ Some (Tree.sized tree)
  pub is : body ≡ normal tree
