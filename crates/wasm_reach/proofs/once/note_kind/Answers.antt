use Rattle.wasm_reach.proofs.NotedSections.{code_calls, code_roots, on_ok, other_calls, other_roots}
use Rattle.wasm_reach.proofs.Seen.{code_below, code_read, seen_below}
use Rattle.wasm_reach.proofs.once.note_kind.Goals as goal

pub returns-in-Code : goal.returns-in-Code
returns-in-Code c =
    let noted = c.note_bodies.ensures in
    record {
      read = code_read c.args.body.now c.args.id c.in-Code.is c.note_bodies.result noted.read;
      below = code_below c.args.body.now c.args.id c.in-Code.is c.note_bodies.result c.args.bound noted.below;
      roots = code_roots c.args.seen.now.roots.items c.args.body.now c.args.id c.in-Code.is c.note_bodies.result;
      calls = code_calls c.args.seen.now.calls c.note_bodies.new.calls c.args.body.now c.args.id c.in-Code.is c.note_bodies.result noted.calls;
    }

pub returns-in_default : goal.returns-in_default
returns-in_default c =
    let noted = c.note_rows.ensures in
    record {
      read = noted.read;
      below = on_ok (seen_below c.args.bound c.args.id c.args.body.now) c.note_rows.result noted.below;
      roots = other_roots c.args.id c.in_default.not-Code c.args.body.now c.args.seen.now.roots.items c.note_rows.new.functions.items c.note_rows.result noted.noted;
      calls = other_calls c.args.id c.in_default.not-Code c.args.body.now c.args.seen.now.calls c.note_rows.result;
    }
