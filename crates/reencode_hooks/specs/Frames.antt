-- Shapes whose frames close in the order of their bytes.
use Rattle.std.specs.Prelude.{◌≡◌, ℕ, List, Bool, true, false, ◌&&◌}
use Rattle.wasm_shapes.specs.Tree.{Tree, frames, fill}
use Rattle.wasm_shapes.specs.Shape.{Shape, flat}
use Rattle.wasm_shapes.specs.Spells.{Spells}
use Rattle.wasm_shapes.specs.Module.{core_module}
use Rattle.wasm_shapes.specs.Component.{component}
use Rattle.reencode_hooks.specs.Moments.{closings}

-- no frame stands in it; nor does one in the immediates of an operator
abbrev pub unframed : Shape → Bool
unframed (Shape.seq a b) = unframed a && unframed b
unframed (Shape.swap a b) = unframed a && unframed b
unframed (Shape.many a) = unframed a
unframed (Shape.vec a) = unframed a
unframed (Shape.opt a) = unframed a
unframed (Shape.sized a) = false
unframed (Shape.or a b) = unframed a && unframed b
unframed (Shape.scope a) = unframed a
unframed (Shape.spare b a c) = unframed a && unframed c
unframed (Shape.final a b) = unframed a && unframed b
unframed (Shape.until b a) = unframed a
unframed (Shape.active w a r b) = unframed a && (unframed r && unframed b)
unframed (Shape.placed a b) = unframed a && unframed b
unframed (Shape.by_name n a b) = unframed a && unframed b
unframed (Shape.begun fs a) = unframed a
unframed (Shape.told k a) = unframed a
unframed (Shape.sections a) = unframed a
unframed (Shape.ref n) = flat n
unframed _ = true

-- no frame stands in a part that is visited out of the order of the bytes; nor does one so in a named shape
abbrev pub in_order : Shape → Bool
in_order (Shape.seq a b) = in_order a && in_order b
in_order (Shape.swap a b) = unframed a && unframed b
in_order (Shape.many a) = in_order a
in_order (Shape.vec a) = in_order a
in_order (Shape.opt a) = in_order a
in_order (Shape.sized a) = in_order a
in_order (Shape.or a b) = in_order a && in_order b
in_order (Shape.scope a) = in_order a
in_order (Shape.spare b a c) = in_order a && in_order c
in_order (Shape.final a b) = in_order a && in_order b
in_order (Shape.until b a) = in_order a
in_order (Shape.active w a r b) = unframed a && (unframed r && unframed b)
in_order (Shape.placed a b) = in_order a && in_order b
in_order (Shape.by_name n a b) = in_order a && in_order b
in_order (Shape.begun fs a) = in_order a
in_order (Shape.told k a) = in_order a
in_order (Shape.sections a) = in_order a
in_order _ = true

-- In a reading of such a shape, filled or not, the frames close in the order of the bytes, and a core module and a component are of
-- such shapes.
pub record FramesAreInOrder : Type 0 where
  pub filled : (s : Shape) (bytes : List ℕ) (t : Tree) (given : List ℕ) → in_order s ≡ true → Spells s bytes t → closings (fill t given) ≡ frames (fill t given)
  pub core : in_order core_module ≡ true
  pub component : in_order component ≡ true
