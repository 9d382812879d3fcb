use Rattle.std.proofs.Common.{◌<◌, ◌≤◌, List, ℕ, None, Some, length, sym, subst, ◌∙◌}
use Rattle.serde_json.specs.View.{items_view, view}
use Rattle.wasm_reencode.specs.Json.{TellsOrder}
use Rattle.wasm_reencode.proofs.Wrong.{order_fits, order_here, order_last, order_next}
use Rattle.wasm_reencode.proofs.json.wrong_order.Goals as goal

pub returns-in_default-clause-told : goal.returns-in_default-clause-told
returns-in_default-clause-told c =
    let P : List ℕ → Type 0 = λ z. TellsOrder (view c.args.value.now) (Some z) in
    subst P (sym c.in_ok-from_str.ensures.ok) (TellsOrder.no_array (sym c.in_default.ensures))

pub places-init : goal.places-init
places-init c = record { goes = λ said told. TellsOrder.items (items_view c.in-Some.values.now.items) (sym c.in-Some.ensures) told }

pub places-preserved : goal.places-preserved
places-preserved c =
    let at = c.places.place-counter in
    let less : at < length c.in-Some.values.now.items = subst (λ (n : ℕ). at < n) (c.len-place-end.ensures ∙ c.in-Some.values.now.ok.0) c.places-test.true in
    order_next c.in-Some.values.now.items at c.index.result.now c.in-Some-whole_of.field-0 less c.index.ensures c.places.invariant (sym c.in-Some-whole_of.ensures)

pub returns-in_default-whole_of-clause-told : goal.returns-in_default-whole_of-clause-told
returns-in_default-whole_of-clause-told c =
    let at = c.places.place-counter in
    let less : at < length c.in-Some.values.now.items = subst (λ (n : ℕ). at < n) (c.len-place-end.ensures ∙ c.in-Some.values.now.ok.0) c.places-test.true in
    let P : List ℕ → Type 0 = λ z. TellsOrder (view c.args.value.now) (Some z) in
    subst P (sym c.in_ok-format.ensures.ok)
    (order_here c.in-Some.values.now.items at c.index.result.now less c.index.ensures c.places.invariant (sym c.in_default-whole_of.ensures))

pub returns-in_default-whole_of-clause-fits : goal.returns-in_default-whole_of-clause-fits
returns-in_default-whole_of-clause-fits c =
    let at = c.places.place-counter in
    let less : at < length c.in-Some.values.now.items = subst (λ (n : ℕ). at < n) (c.len-place-end.ensures ∙ c.in-Some.values.now.ok.0) c.places-test.true in
    order_fits (view c.args.value.now) (Some _)
    (order_here c.in-Some.values.now.items at c.index.result.now less c.index.ensures c.places.invariant (sym c.in_default-whole_of.ensures))

pub returns-clause-told : goal.returns-clause-told
returns-clause-told c =
    let last = subst (λ (n : ℕ). n ≤ c.places.place-counter) (c.len-place-end.ensures ∙ c.in-Some.values.now.ok.0) c.places-test.false in
    order_last c.in-Some.values.now.items c.places.place-counter last c.places.invariant

pub returns-clause-fits : goal.returns-clause-fits
returns-clause-fits c =
    let last = subst (λ (n : ℕ). n ≤ c.places.place-counter) (c.len-place-end.ensures ∙ c.in-Some.values.now.ok.0) c.places-test.false in
    order_fits (view c.args.value.now) None (order_last c.in-Some.values.now.items c.places.place-counter last c.places.invariant)
