-- Memories of 64-bit addresses.
use Rattle.std.specs.Prelude.{◌≡◌, Bool, true}
use Rattle.wasm_read.specs.declared.types.MemoryType.{MemoryType}
use Rattle.wasm_read.specs.Types as read
use Rattle.wasm_write.specs.declared.types.MemoryType.{MemoryType as Written}
use Rattle.wasm_write.specs.Types as write

-- a memory of 64-bit addresses that is the other one but for the width of its addresses
pub record IsWide (old : MemoryType) (new : Written) : Type 0 where
  pub wide : new.memory64 ≡ true
  pub width : Bool
  pub same : write.memory_type_tree (record new { memory64 = width }) ≡ read.memory_type_tree old
