use Rattle.std.proofs.lemmas.List.Sorted.{IsNonDecreasingBy-from_sort_by_key}
use Rattle.std.proofs.Common.{rules, ◌≡◌}
use Rattle.std.proofs.lemmas.Fn.{always_returns_same}
use Rattle.wasm_strip.specs.declared.sorting.Row.{Row}
use Rattle.wasm_strip.proofs.sorting.ordered.Goals as goal

pub returns-in-Ok : goal.returns-in-Ok
returns-in-Ok g c = record {
  rows = c.in_ok-rows.rows.items;
  are = c.in_ok-rows.ensures;
  permuted = c.in-Ok.ensures.permutation;
  rising = IsNonDecreasingBy-from_sort_by_key (λ (r : Row). r.index) _ c.in-Ok.ensures.sorted (λ a r q k. search rules);
  stable = c.in-Ok.ensures.stable (λ (r : Row). r.index) (always_returns_same _ (λ a r. r ≡ a.0.now.index) _ (λ a r q k. search rules));
}
