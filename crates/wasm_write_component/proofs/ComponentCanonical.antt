-- The spelling of canonical functions.
use Rattle.std.proofs.Common.{◌≡◌, ℕ, List, Bool, true, false, Option, Some, None, refl, sym, subst}
use Rattle.wasm_shapes.specs.Tree.{Tree}
use Rattle.wasm_shapes.specs.Shape.{Shape}
use Rattle.wasm_shapes.specs.Spells.{Is}
use Rattle.wasm_shapes.specs.Fits.{InRange}
use Rattle.wasm_shapes.specs.Component.{asynchronous, canonical_at, canonical_function, canonical_option, canonical_options, form_of, function_result, number_of, operands}
use Rattle.wasm_shapes.proofs.Begins.{row_is}
use Rattle.wasm_shapes.proofs.CanonicalRows.{canonical_row_is}
use Rattle.wasm_shapes.proofs.Frameless.{frameless_spells}
use Rattle.wasm_types.specs.declared.components.CanonicalFunction.{CanonicalFunction}
use Rattle.wasm_types.specs.declared.components.CanonicalFunction.TheVariants as canonical
use Rattle.wasm_types.specs.declared.components.CanonicalOption.{CanonicalOption}
use Rattle.wasm_types.specs.declared.components.CanonicalOption.TheVariants as option
use Rattle.wasm_types.specs.declared.components.ComponentValType.{ComponentValType}
use Rattle.wasm_types.specs.declared.components.Operands.{Operands}
use Rattle.wasm_types.specs.declared.components.Operands.TheVariants as parts
use Rattle.wasm_types.specs.ComponentTrees.{async_tree, canonical_option_tree, canonical_options_tree, canonical_parts, operands_form, result_tree}
use Rattle.wasm_write.proofs.TypeShapes.{items_are, value_is}
use Rattle.wasm_write_component.specs.ComponentRows.{canonical_tree, operands_tree}
use Rattle.wasm_write_component.proofs.ExternRows as extern
use Rattle.wasm_write_component.proofs.ExternRows.{SpelledAs}

option_is : (o : CanonicalOption) → Is canonical_option (canonical_option_tree o)
option_is option.UTF8 = row_is canonical_option 0 Is.fixed
option_is option.UTF16 = row_is canonical_option 1 Is.fixed
option_is option.CompactUTF16 = row_is canonical_option 2 Is.fixed
option_is (option.Memory i) = row_is canonical_option 3 (Is.seq Is.fixed Is.ix)
option_is (option.Realloc i) = row_is canonical_option 4 (Is.seq Is.fixed Is.ix)
option_is (option.PostReturn i) = row_is canonical_option 5 (Is.seq Is.fixed Is.ix)
option_is option.Async = row_is canonical_option 6 Is.fixed
option_is (option.Callback i) = row_is canonical_option 7 (Is.seq Is.fixed Is.ix)
option_is (option.CoreType i) = row_is canonical_option 8 (Is.seq Is.fixed Is.ix)
option_is option.Gc = row_is canonical_option 9 Is.fixed

options_are : (os : List CanonicalOption) → Is canonical_options (canonical_options_tree os)
options_are os = Is.vec (items_are canonical_option canonical_option_tree option_is os)

async_is : (a : Bool) → Is asynchronous (async_tree a)
async_is false = row_is asynchronous 0 Is.fixed
async_is true = row_is asynchronous 1 Is.fixed

pub result_is : (r : Option ComponentValType) → Is function_result (result_tree r)
result_is (Some ty) = row_is function_result 0 (Is.seq Is.fixed (extern.value_is ty))
result_is None = row_is function_result 1 (Is.seq Is.fixed Is.fixed)

operands_are : (o : Operands ℕ (List CanonicalOption)) → Is (operands (operands_form o)) (operands_tree o)
operands_are parts.Nothing = Is.empty
operands_are (parts.Lift f os t) = Is.seq Is.fixed (Is.seq Is.ix (Is.swap (options_are os) Is.ix))
operands_are (parts.Lower f os) = Is.seq Is.fixed (Is.seq Is.ix (options_are os))
operands_are (parts.Type_ t) = Is.ix
operands_are (parts.TypeAndOptions t os) = Is.swap Is.ix (options_are os)
operands_are (parts.TypeAndAsync t a) = Is.seq Is.ix (async_is a)
operands_are (parts.Async a) = async_is a
operands_are (parts.ResultAndOptions r os) = Is.swap (result_is r) (options_are os)
operands_are (parts.Slot t n) = Is.seq (value_is t) Is.u32
operands_are (parts.Options os) = options_are os
operands_are (parts.CoreType t) = Is.ix
operands_are (parts.CoreTypeAndTable t m) = Is.seq Is.ix Is.ix

-- the form of its byte is that of what stands behind it
parts_form : (f : CanonicalFunction ℕ) → form_of (canonical_at (canonical_parts f).0) ≡ Some (operands_form (canonical_parts f).1)
parts_form canonical.TaskCancel = refl
parts_form _ = refl

canonical_is : (f : CanonicalFunction ℕ) → Is canonical_function (canonical_tree f)
canonical_is f =
    let b = (canonical_parts f).0 in
    let P : Shape → Type 0 = λ z. Is z (Tree.pair (Tree.fixed b) (operands_tree (canonical_parts f).1)) in
    row_is canonical_function (number_of (canonical_at b)) (subst P (sym (canonical_row_is b (parts_form f))) (Is.seq Is.fixed (operands_are (canonical_parts f).1)))

pub canonical_spelled : (f : CanonicalFunction ℕ) → InRange (operands_tree (canonical_parts f).1) → SpelledAs canonical_function (canonical_tree f)
canonical_spelled f h = ∣ frameless_spells canonical_function refl (canonical_is f) (tt, h) ∣₁
