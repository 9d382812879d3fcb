use Rattle.std.proofs.Common.{◌≡◌, ap, arith, ◌∙◌}
use Rattle.std.specs.Prelude.{slice_get}
use Rattle.wasm_write.proofs.FramesFound.{frame_found, frames_end}
use Rattle.wasm_write.proofs.frames.frame_at.Goals as goal

pub returns-in_default : goal.returns-in_default
returns-in_default c = λ fs all e. omega (arith, frames_end c.frames.invariant.passed c.in_default.ensures.framed fs all e)

pub frames-preserved : goal.frames-preserved
frames-preserved c =
    let p = c.in-Some.parts in
    record {
      most = omega arith;
      passed = λ fs all e. (frame_found c.frames.invariant.passed p.0.now p.1.now p.2.now c.in-Some.ensures.framed c.in-Some.ensures.none fs all e).1;
    }

pub returns-in-Some-front_frame : goal.returns-in-Some-front_frame
returns-in-Some-front_frame c =
    let p = c.in-Some-front_frame.parts in
    let all_skipped : c.args.i ≡ c.frames.skipped = omega (arith, c.frames.invariant.most) in
    λ fs all e.
    ap (slice_get fs) all_skipped
    ∙ (frame_found c.frames.invariant.passed p.0.now p.1.now p.2.now c.in-Some-front_frame.ensures.framed c.in-Some-front_frame.ensures.none fs all e).0

pub returns-in-None : goal.returns-in-None
returns-in-None c = λ fs all e. omega (arith, frames_end c.frames.invariant.passed c.in-None.ensures.framed fs all e)
