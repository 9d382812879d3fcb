use Rattle.std.proofs.Common.{◌<◌, ◌^◌, arith, refl}
use Rattle.wasm_shapes.specs.declared.Space.TheVariants as space
use Rattle.wasm_shapes.specs.Shape.{Shape}
use Rattle.wasm_shapes.specs.Spells.{Is}
use Rattle.wasm_shapes.specs.Tree.{Tree}
use Rattle.wasm_shapes.proofs.Begins.{begins_ix}
use Rattle.wasm_shapes.proofs.Frameless.{frameless_spells}
use Rattle.wasm_write.specs.Types as write
use Rattle.reencode_items.proofs.Streaming.{item_stops, item_streams, item_unwritten, kept_same}
use Rattle.reencode_items.proofs.direct.types.RUnpackedIndexStreamItem.stream.Goals as goal

pub returns-in-Ok-write_u32 : goal.returns-in-Ok-write_u32
returns-in-Ok-write_u32 g c =
    item_streams g.R.ReencodeIndices (Tree.ix space.Type_ c.in-Some.index) (write.type_index) refl refl (begins_ix c.in-Some.ensures.some) c.in-Some.rest c.in-Ok.index refl c.in-Ok.ensures.default (let small : c.in-Ok.index < 2 ^ 32 = omega arith in frameless_spells (Shape.ix space.Type_) refl Is.ix small) c.in-Ok-write_u32.ensures.ok

pub returns-in-Err-write_u32 : goal.returns-in-Err-write_u32
returns-in-Err-write_u32 g c = item_unwritten g.R.ReencodeIndices (Tree.ix space.Type_ c.in-Some.index) (write.type_index) refl refl (begins_ix c.in-Some.ensures.some) c.in-Ok.index (kept_same _ c.in-Err-write_u32.ensures.err) c.in-Ok.ensures.default

pub returns-in-Err : goal.returns-in-Err
returns-in-Err g c = item_stops g.R.ReencodeIndices (Tree.ix space.Type_ c.in-Some.index) (write.type_index) refl refl (begins_ix c.in-Some.ensures.some) c.in-Err.e refl c.in-Err.ensures.default c.in-Err.ensures.sure
