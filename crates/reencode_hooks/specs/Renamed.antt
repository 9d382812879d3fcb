-- The answers of a renamer are indices.
use Rattle.std.proofs.Common.{◌≡◌, ℕ, ◌<◌, ◌^◌, Bool, true, false, nat_lt, if◌then◌else◌, Option, Some, None, IfSome, refl}
use mathlib.Core.Bool.{false≢true}
use Rattle.std.specs.Prelude.{◌&&◌}
use Rattle.std.proofs.lemmas.Bool.{ltb-true}
use Rattle.wasm_shapes.specs.declared.Space.{Space}
use Rattle.wasm_shapes.specs.declared.Space.TheVariants as space
use Rattle.wasm_shapes.specs.declared.Visit.TheVariants.{Index, Outer, Section, Closed, Push, Pop}
use Rattle.wasm_shapes.specs.Types.{is_core}
use Rattle.reencode_hooks.specs.Hooks.{IsAnswer, KeepsAnswers, is_of_components}
use Rattle.reencode_hooks.specs.Renamings.{if_index, entry_of, entries_in, or_itself, renamer_reply}
use Rattle.std.specs.FinMap as map

within : (b : Bool) (n : ℕ) → nat_lt n (2 ^ 32) ≡ b → IfSome (if b then Some n else None) (λ m. m < 2 ^ 32)
within true n e = ltb-true n (2 ^ 32) e
within false n e = tt

small : (o : Option ℕ) → IfSome (if_index o) (λ m. m < 2 ^ 32)
small (Some n) = within (nat_lt n (2 ^ 32)) n refl
small None = tt

core_alone : (p : Space) → is_core p ≡ true → is_of_components p ≡ false
core_alone space.Data e = refl
core_alone space.Element e = refl
core_alone space.Function e = refl
core_alone space.Global e = refl
core_alone space.Memory e = refl
core_alone space.Table e = refl
core_alone space.Tag e = refl
core_alone space.Type_ e = refl
core_alone _ e = absurd (false≢true e)

second : (a b : Bool) → (a && b) ≡ true → b ≡ true
second true b e = e
second false b e = absurd (false≢true e)

answers : (o : Option ℕ) (refuses : Bool) (p : Space) (k i : ℕ) → IfSome o (λ m. m < 2 ^ 32) → i < 2 ^ 32 → (refuses ≡ true → is_of_components p ≡ false) →
    IsAnswer (Index p i) (or_itself o refuses p i) × IsAnswer (Outer p k i) (or_itself o refuses p i)
answers (Some n) refuses p k i s h c = (s, s)
answers None true p k i s h c = (c refl, c refl)
answers None false p k i s h c = (h, h)

pub renamer_answers : KeepsAnswers renamer_reply
renamer_answers r (Index p i) h = (answers (entry_of r p i) (r.strict && is_core p) p 0 i (small (map.get (entries_in r p) i)) h (λ e. core_alone p (second r.strict (is_core p) e))).0
renamer_answers r (Outer p k i) h = (answers (entry_of r p i) (r.strict && is_core p) p k i (small (map.get (entries_in r p) i)) h.1 (λ e. core_alone p (second r.strict (is_core p) e))).1
renamer_answers r (Section a b) h = refl
renamer_answers r (Closed kind) h = refl
renamer_answers r Push h = refl
renamer_answers r Pop h = refl
