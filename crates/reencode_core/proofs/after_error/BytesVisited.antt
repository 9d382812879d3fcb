-- The visits that were made when the bytes of a module are at fault, or a part of them is refused.
use Rattle.std.proofs.Common.{ℕ, List, sym, ap}
use Rattle.wasm_shapes.specs.Tree.{visits}
use Rattle.wasm_shapes.specs.Module.{core_tree}
use Rattle.wasm_shapes.proofs.Laws.{module_headed}
use Rattle.reencode_hooks.specs.declared.error.Error.{Error}
use Rattle.reencode_core.specs.Leaves.{Leaves, core_in, module_in}
use Rattle.reencode_core.specs.Rows.{Asks}
use Rattle.reencode_core.proofs.after_error.VisitsMade.{front_same}

module _ {S E : Type 0} (asked : Asks S E) (bytes : List ℕ) {s : S} where
  -- behind the header
  pub bytes_leave : {m : S} {e : Error E} → Leaves asked (module_in bytes) s e m → Leaves asked (core_in bytes) s e m
  bytes_leave l = record {
    made = l.made;
    ended = l.ended;
    drawn = l.drawn;
    reading = λ t p. let r = module_headed.back bytes t p in front_same (sym (ap visits r.1)) (l.reading r.0 r.2);
    fault = λ none t rest f. l.fault (λ u q. none (core_tree u) (module_headed.forth bytes u q)) t rest f;
  }
