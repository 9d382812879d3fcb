use Rattle.std.proofs.Common.{◌≡◌, ◌++◌, List, ℕ, codes}
use Rattle.wasm_reencode.proofs.Told.{begins_other, begins_so, if_none, none_told, other_name, other_words, place_told}
use Rattle.wasm_reencode.proofs.explain.place_in.Goals as goal

pub returns-in_err-behind-clause-none : goal.returns-in_err-behind-clause-none
returns-in_err-behind-clause-none c =
    let other = λ (behind : List ℕ). rw c.as_bytes.ensures.value at (begins_other c.args.line.now c.as_bytes.result.now behind c.in_err-behind.ensures.cases) in
    if_none c.from_residual.result _ (other_name c.args.name.now c.args.line.now other)

pub returns-in_err-place-clause-none : goal.returns-in_err-place-clause-none
returns-in_err-place-clause-none c =
    let line = c.args.line.now in
    let rest = c.in_ok-behind.behind.now in
    let a : line ≡ c.args.name.now ++ rest = rw c.as_bytes.ensures.value at (begins_so line c.as_bytes.result.now rest c.in_ok-behind.ensures.cases.0 c.in_ok-behind.ensures.cases.1) in
    if_none c.from_residual-in_err-place.result _
    (other_words c.args.name.now line rest a (λ behind. begins_other rest (codes ": parse error at ") behind c.in_err-place.ensures.cases))

pub returns-clause-some : goal.returns-clause-some
returns-clause-some c =
    let line = c.args.line.now in
    let a : line ≡ c.args.name.now ++ c.in_ok-behind.behind.now = rw c.as_bytes.ensures.value at (begins_so line c.as_bytes.result.now c.in_ok-behind.behind.now c.in_ok-behind.ensures.cases.0 c.in_ok-behind.ensures.cases.1) in
    let b = begins_so c.in_ok-behind.behind.now (codes ": parse error at ") c.in_ok-place.place.now c.in_ok-place.ensures.cases.0 c.in_ok-place.ensures.cases.1 in
    place_told c.args.name.now line c.in_ok-behind.behind.now c.in_ok-place.place.now c.front_digits.result.now a b c.front_digits.ensures c.number_of.result c.number_of.ensures.some

pub returns-clause-none : goal.returns-clause-none
returns-clause-none c =
    let line = c.args.line.now in
    let a : line ≡ c.args.name.now ++ c.in_ok-behind.behind.now = rw c.as_bytes.ensures.value at (begins_so line c.as_bytes.result.now c.in_ok-behind.behind.now c.in_ok-behind.ensures.cases.0 c.in_ok-behind.ensures.cases.1) in
    let b = begins_so c.in_ok-behind.behind.now (codes ": parse error at ") c.in_ok-place.place.now c.in_ok-place.ensures.cases.0 c.in_ok-place.ensures.cases.1 in
    none_told c.args.name.now line c.in_ok-behind.behind.now c.in_ok-place.place.now c.front_digits.result.now a b c.front_digits.ensures c.number_of.result c.number_of.ensures.none
