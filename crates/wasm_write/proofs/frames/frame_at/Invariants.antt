use Rattle.std.proofs.Common.{◌-◌, ◌≤◌}
use Rattle.wasm_write.proofs.FramesFound.{Skipped}
use Rattle.wasm_write.proofs.frames.frame_at.Given as goal

-- so many frames are passed by
abbrev pub invariant-frames : goal.invariant-frames
invariant-frames l = record { most : l.skipped ≤ l.fn.i; passed : Skipped l.fn.head l.fn.bytes l.skipped l.rest }

abbrev pub decreases-frames : goal.decreases-frames
decreases-frames l = l.fn.i - l.skipped
