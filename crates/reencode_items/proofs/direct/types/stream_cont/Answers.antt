use Rattle.std.proofs.Common.{◌<◌, ◌^◌, arith, refl}
use Rattle.wasm_shapes.specs.declared.Space.TheVariants as space
use Rattle.wasm_shapes.specs.Shape.{Shape}
use Rattle.wasm_shapes.specs.Spells.{Is}
use Rattle.wasm_shapes.specs.Tree.{Tree}
use Rattle.wasm_shapes.proofs.Begins.{begins_sx}
use Rattle.wasm_shapes.proofs.Frameless.{frameless_spells}
use Rattle.wasm_write.specs.Types as write
use Rattle.reencode_items.proofs.Streaming.{item_stops, item_streams, item_unwritten, kept_same}
use Rattle.reencode_items.proofs.direct.types.stream_cont.Goals as goal

pub returns-in-Ok-write_index : goal.returns-in-Ok-write_index
returns-in-Ok-write_index g c =
    item_streams g.R.ReencodeIndices (Tree.sx space.Type_ c.in-Some.index) (λ ty. write.signed_index ty.0) refl refl (begins_sx c.in-Some.ensures.some) c.in-Some.rest c.in-Ok.ty refl c.in-Ok.ensures.default (let small : c.in-Ok.ty.0 < 2 ^ 32 = omega arith in frameless_spells (Shape.sx space.Type_) refl Is.sx small) c.in-Ok-write_index.ensures.ok

pub returns-in-Err-write_index : goal.returns-in-Err-write_index
returns-in-Err-write_index g c = item_unwritten g.R.ReencodeIndices (Tree.sx space.Type_ c.in-Some.index) (λ ty. write.signed_index ty.0) refl refl (begins_sx c.in-Some.ensures.some) c.in-Ok.ty (kept_same _ c.in-Err-write_index.ensures.err) c.in-Ok.ensures.default

pub returns-in-Err : goal.returns-in-Err
returns-in-Err g c = item_stops g.R.ReencodeIndices (Tree.sx space.Type_ c.in-Some.index) (λ ty. write.signed_index ty.0) refl refl (begins_sx c.in-Some.ensures.some) c.in-Err.e refl c.in-Err.ensures.default c.in-Err.ensures.sure
