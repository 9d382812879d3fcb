-- From what is noted of a module to its calls.
use Rattle.std.proofs.Common.{◌≡◌, ◌<◌, ◌+◌, ℕ, List, length, ap, arith}
use Rattle.std.proofs.lemmas.List.{length-map}
use Rattle.wasm_shapes.specs.declared.SectionId.TheVariants as id
use Rattle.wasm_shapes.specs.declared.Space.TheVariants as space
use Rattle.wasm_shapes.specs.Tree.{Tree}
use Rattle.wasm_shapes.specs.Module.{CoreReading}
use Rattle.module_spaces.specs.Functions.{IsEven}
use Rattle.module_spaces.specs.Sections.{rows_of}
use Rattle.module_spaces.specs.Spaces.{imported}
use Rattle.filled_modules.specs.Readings.{Reads}
use Rattle.wasm_reach.specs.declared.checks.Numbers.{Numbers}
use Rattle.wasm_reach.specs.Checks.{AllKnown}
use Rattle.wasm_reach.specs.Graph.{AreCalls}
use Rattle.wasm_reach.specs.Notes as asks

-- nothing is refused of a module, and these are its numbers
pub record IsReady (numbers : Numbers) (t : Tree) : Type 0 where
  pub even : IsEven t
  pub known : AllKnown t
  pub imports : numbers.imports ≡ imported space.Function t
  pub defined : numbers.defined ≡ length (rows_of id.Function t)
  pub few : numbers.imports + numbers.defined < 4294967295

module _ {bytes : List ℕ} {numbers : Numbers} {lists : List (List ℕ)} (ready : Reads bytes (IsReady numbers)) where
  pub are_calls : {noted : List ℕ} → ((t : Tree) → CoreReading bytes t → noted ≡ asks.roots t) → ((t : Tree) → CoreReading bytes t → lists ≡ asks.calls t) →
      AreCalls bytes numbers.imports noted lists
  are_calls noted_are lists_are =
      let t = ready.0 in
      let r = ready.1 in
      let is = ready.2 in
      record {
        tree = t;
        reading = r;
        sound = record { even = is.even; known = is.known };
        imports_are = is.imports;
        roots_are = noted_are t r;
        calls_are = lists_are t r;
      }

  -- they are as many as the functions
  pub few_calls : ((t : Tree) → CoreReading bytes t → lists ≡ asks.calls t) → numbers.imports + length lists < 4294967295
  few_calls lists_are =
      let t = ready.0 in
      let is = ready.2 in
      let even = is.even.even in
      let same = ap length (lists_are t ready.1) in
      omega (arith, is.few, is.defined, same, length-map (rows_of id.Code t) asks.functions_of)
