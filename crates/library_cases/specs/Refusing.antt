-- A reencoder of the cases that refuses one of its hook calls.
use Rattle.std.specs.Prelude.{ℕ, ◌+◌, ◌-◌, ◌^◌, ◌≡◌, Bool, true, false, not, ◌&&◌, Result, Ok, Err, nat_eq, min, if◌then◌else◌, refl}
use Rattle.wasm_shapes.specs.declared.Visit.{Visit}
use Rattle.wasm_shapes.specs.declared.Visit.TheVariants.{Index, Outer, Section, Closed, Push, Pop}
use Rattle.reencode_hooks.specs.Hooks.{IsAnswer, IsInRange, MayRefuse, index_of, index_of-given, is_of_components}

-- the number of a call behind so many others
abbrev pub next_call : ℕ → ℕ
next_call calls = min (calls + 1) (2 ^ 32 - 1)

-- a visit that asks an index of a core module, also so many scopes further out, or one of the two section hooks
abbrev pub may_refuse : Visit → Bool
may_refuse (Index s i) = not (is_of_components s)
may_refuse (Outer s c i) = not (is_of_components s)
may_refuse (Section after before) = true
may_refuse (Closed kind) = true
may_refuse _ = false

-- an answer, or the number of the call where it is due
abbrev pub unless_due : Bool → ℕ → ℕ → Result ℕ ℕ
unless_due due at n = if due then Err at else Ok n

-- each index as it is, but for the call of one number
abbrev pub refuses_call : (calls at : ℕ) → Visit → Result ℕ ℕ
refuses_call calls at v = unless_due (nat_eq (next_call calls) at && may_refuse v) at (index_of v)

of_core : (b : Bool) → not b ≡ true → b ≡ false
of_core false h = refl
of_core true h = absurd cc

refusal_is : (v : Visit) → may_refuse v ≡ true → MayRefuse v
refusal_is (Index s i) h = of_core (is_of_components s) h
refusal_is (Outer s c i) h = of_core (is_of_components s) h
refusal_is (Section after before) h = tt
refusal_is (Closed kind) h = tt
refusal_is Push h = absurd cc
refusal_is Pop h = absurd cc

pub refuses_call-given : (calls at : ℕ) (v : Visit) → IsInRange v → IsAnswer v (refuses_call calls at v)
refuses_call-given calls at v h = go (nat_eq (next_call calls) at) (may_refuse v) refl
  where
    go : (called may : Bool) → may_refuse v ≡ may → IsAnswer v (unless_due (called && may) at (index_of v))
    go true true e = refusal_is v e
    go true false e = index_of-given v h
    go false may e = index_of-given v h
