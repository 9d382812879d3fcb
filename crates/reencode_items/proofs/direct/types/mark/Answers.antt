use Rattle.std.proofs.Common.{◌<◌, ◌^◌, arith, refl}
use Rattle.wasm_shapes.specs.declared.Space.TheVariants as space
use Rattle.wasm_shapes.specs.Tree.{Tree}
use Rattle.wasm_write.specs.Types as write
use Rattle.reencode_items.proofs.Leaving.{accepted_visited, sure_visited}
use Rattle.reencode_items.proofs.direct.types.mark.Goals as goal

pub returns-in-Ok-put_in_front : goal.returns-in-Ok-put_in_front
returns-in-Ok-put_in_front g c =
    let small : c.in-Ok.answer < 2 ^ 32 = omega arith in
    (c.in-Ok.answer, small, c.in-Ok-put_in_front.ensures.ok, c.in-Ok.ensures.default)

pub returns-in-Err-put_in_front : goal.returns-in-Err-put_in_front
returns-in-Err-put_in_front g c = (
  c.in-Err-put_in_front.ensures.err,
  λ keeps other. absurd (other refl),
  λ keeps sure. accepted_visited 0 (Tree.ix space.Type_ c.args.index) (c.in-Ok.ensures.default keeps 0),
)

pub returns-in-Err : goal.returns-in-Err
returns-in-Err g c =
    let i = g.R.ReencodeIndices in (
      refl,
      λ keeps other n. c.in-Err.ensures.default keeps n other,
      λ keeps sure. sure_visited i.reply i.next (Tree.ix space.Type_ c.args.index) write.type_index c.in-Err.e (c.in-Err.ensures.default keeps) (c.in-Err.ensures.sure keeps) sure,
    )
