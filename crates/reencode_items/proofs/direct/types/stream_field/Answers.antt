use Rattle.std.proofs.Common.{refl}
use Rattle.wasm_shapes.specs.Shape.{field}
use Rattle.wasm_shapes.proofs.Frameless.{frameless_spells}
use Rattle.wasm_read.specs.Types as read
use Rattle.wasm_write.specs.Types as write
use Rattle.wasm_write.proofs.TypeShapes.{field_is}
use Rattle.reencode_items.proofs.Streaming.{item_stops, item_streams, item_unwritten, kept_len}
use Rattle.reencode_items.proofs.direct.types.stream_field.Goals as goal

pub returns-in-Ok-write_field_type : goal.returns-in-Ok-write_field_type
returns-in-Ok-write_field_type g c =
    item_streams g.R.ReencodeIndices (read.field_type_tree c.in-Some.ty) (write.field_type_tree) refl refl (c.in-Some.ensures.some) c.in-Some.rest c.in-Ok.ty refl c.in-Ok.ensures.default (frameless_spells field refl (field_is c.in-Ok.ty) c.in-Ok-write_field_type.ensures.in_range) c.in-Ok-write_field_type.ensures.ok

pub returns-in-Err-write_field_type : goal.returns-in-Err-write_field_type
returns-in-Err-write_field_type g c = item_unwritten g.R.ReencodeIndices (read.field_type_tree c.in-Some.ty) (write.field_type_tree) refl refl (c.in-Some.ensures.some) c.in-Ok.ty (kept_len _ _ c.args.out.now.ok.0 c.in-Err-write_field_type.ensures.err) c.in-Ok.ensures.default

pub returns-in-Err : goal.returns-in-Err
returns-in-Err g c = item_stops g.R.ReencodeIndices (read.field_type_tree c.in-Some.ty) (write.field_type_tree) refl refl (c.in-Some.ensures.some) c.in-Err.e refl c.in-Err.ensures.default c.in-Err.ensures.sure
