-- What the calls that map a component promise, whole: one record for each kind of call. `i` are the meanings of the reencoder; `s` is
-- its state and `old` what the component holds before the call, `m` and `new` are the same after it.
use Rattle.std.specs.Prelude.{◌≡◌, ℕ, List, Result, Ok, Err, IsTrue}
use Rattle.wasm_shapes.specs.Tree.{Tree}
use Rattle.wasm_write.specs.Sections.{Sections}
use Rattle.reencode_hooks.specs.declared.error.Error.{Error}
use Rattle.reencode_hooks.specs.declared.indices.ReencodeIndices.{Ghosts}
use Rattle.reencode_core.specs.Clauses.{asks}
use Rattle.reencode_core.specs.Errors.{placed_at}
use Rattle.reencode_core.specs.Sections.{KeepsModule}
use Rattle.reencode_component.specs.Gives.{GivesComponent, GivesSection}
use Rattle.reencode_component.specs.ComponentLeaves.{HoldsComponent, IfLeaves, LeavesComponent, LeavesSection, NoComponentHeading}

-- the answer of a call that maps a part which begins at a place: an error of the bytes is at that place
abbrev pub placed_in : {E : Type 0} → Result (Unit {0}) (Error E) → ℕ → Result (Unit {0}) (Error E)
placed_in (Ok u) at = Ok u
placed_in (Err e) at = Err (placed_at e at)

-- A section in its frame, at a place, is mapped and added. A place in its error is that one.
abbrev pub FrameClauses : {S E : Type 0} → Ghosts S E → ℕ → Tree → ℕ → S → Sections → S → Sections → Result (Unit {0}) (Error E) → Type 0
FrameClauses i depth f at s old m new result =
    record {
      kept : KeepsModule old new;
      default : IsTrue i.keeps_defaults → GivesSection (asks i) i.adds depth f at (s, old) (m, new) result;
      after_error : IsTrue i.keeps_defaults → IfLeaves i.sure i.adds_nothing (λ e. LeavesSection (asks i) depth f s e m) result;
    }

-- A component is read, and what its sections become is added.
abbrev pub ComponentClauses : {S E : Type 0} → Ghosts S E → ℕ → List ℕ → S → Sections → S → Sections → Result (Unit {0}) (Error E) → Type 0
ComponentClauses i depth bytes s old m new result =
    record {
      kept : KeepsModule old new;
      default : IsTrue i.keeps_defaults → GivesComponent (asks i) i.adds depth bytes (s, old) (m, new) result;
      after_error : IsTrue i.keeps_defaults → IfLeaves i.sure i.adds_nothing (λ e. LeavesComponent (asks i) depth bytes s e m) result;
      headless : IsTrue i.keeps_defaults → NoComponentHeading bytes → m ≡ s;
      wants : IsTrue i.keeps_defaults → IsTrue i.sure → HoldsComponent (asks i) i.adds depth bytes (s, old) (m, new) result;
    }
