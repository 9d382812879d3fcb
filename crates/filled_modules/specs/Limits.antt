-- The indices of a module that are there, and the first that is not.
use Rattle.std.specs.Prelude.{◌≡◌, ◌<◌, ◌≤◌, ◌^◌, ◌++◌, ◌∷◌, ℕ, List, Bool, true, false, nat_lt, if◌then◌else◌, Option, Some, None, Result, Ok, Err, refl}
use Rattle.std.specs.List.{AllByRecursion}
use Rattle.wasm_shapes.specs.declared.Space.{Space}
use Rattle.wasm_shapes.specs.declared.Space.TheVariants as space
use Rattle.wasm_shapes.specs.declared.Visit.{Visit}
use Rattle.wasm_shapes.specs.declared.Visit.TheVariants.{Index, Outer}
use Rattle.wasm_shapes.specs.Tree.{Tree, visits}
use Rattle.wasm_shapes.specs.Types.{is_core}
use Rattle.reencode_hooks.specs.Hooks.{IsAnswer, is_of_components}
use Rattle.module_spaces.specs.Spaces.{number_of}
use Rattle.filled_modules.specs.declared.limits.Limits.{Limits}
use Rattle.filled_modules.specs.declared.limits.Past.{Past}

-- ---- limits

-- the limit of a space, where it has one
abbrev pub limit_of : Limits → Space → Option ℕ
limit_of l space.Data = l.«data»
limit_of l space.Element = l.elements
limit_of l space.Function = l.functions
limit_of l space.Global = l.globals
limit_of l space.Memory = l.memories
limit_of l space.Table = l.tables
limit_of l space.Tag = l.tags
limit_of l space.Type_ = l.types
limit_of l _ = None

abbrev pub no_limits : Limits
no_limits = record { «data» = None; elements = None; functions = None; globals = None; memories = None; tables = None; tags = None; types = None }

-- the numbers of a module's index spaces
abbrev pub numbers_in : Tree → Space → Option ℕ
numbers_in t s = if is_core s then Some (number_of s t) else None

-- a number of functions alone
abbrev pub so_many_functions : ℕ → Space → Option ℕ
so_many_functions n space.Function = Some n
so_many_functions n _ = None

-- ---- which indices are there

-- a visit asks for this index
abbrev pub Asks : Space → ℕ → Visit → Type 0
Asks s i (Index p j) = (p ≡ s) × (j ≡ i)
Asks s i (Outer p c j) = (p ≡ s) × (j ≡ i)
Asks s i _ = ⊥

-- what a visit asks for is below the limit of its space
abbrev pub IsBelow : (Space → Option ℕ) → Visit → Type 0
IsBelow limit visit = (s : Space) (i n : ℕ) → Asks s i visit → limit s ≡ Some n → i < n

-- each index of a module is
abbrev pub AreBelow : (Space → Option ℕ) → Tree → Type 0
AreBelow limit t = AllByRecursion (IsBelow limit) (visits t)

-- the first index, in the order of the visits, that is not
pub record FirstPast (limit : Space → Option ℕ) (t : Tree) (s : Space) (i : ℕ) : Type 0 where
  pub front : List Visit
  pub visit : Visit
  pub rest : List Visit
  pub parts : visits t ≡ front ++ visit ∷ rest
  pub below : AllByRecursion (IsBelow limit) front
  pub asks : Asks s i visit
  pub number : ℕ
  pub limited : limit s ≡ Some number
  pub past : number ≤ i

-- or there is none
abbrev pub IsFirstPast : (Space → Option ℕ) → Tree → Option Past → Type 0
IsFirstPast limit t None = AreBelow limit t
IsFirstPast limit t (Some p) = FirstPast limit t p.space p.index

-- ---- the rule

abbrev pub answer_below : Option ℕ → Space → ℕ → Result ℕ Past
answer_below None s i = Ok i
answer_below (Some n) s i = if nat_lt i n then Ok i else Err (record { space = s; index = i })

abbrev pub below_limit : Limits → Space → ℕ → Result ℕ Past
below_limit l s i = answer_below (limit_of l s) s i

answer_is : (limit : Option ℕ) (s : Space) (i : ℕ) → is_of_components s ≡ false → i < 2 ^ 32 → IsAnswer (Index s i) (answer_below limit s i)
answer_is None s i core h = h
answer_is (Some n) s i core h = go (nat_lt i n)
  where
    go : (b : Bool) → IsAnswer {E = Past} (Index s i) (if b then Ok i else Err (record { space = s; index = i }))
    go true = h
    go false = core

pub below_limit_is_rule : (l : Limits) (s : Space) (i : ℕ) → i < 2 ^ 32 → IsAnswer (Index s i) (below_limit l s i)
below_limit_is_rule l space.Data i h = answer_is l.«data» space.Data i refl h
below_limit_is_rule l space.Element i h = answer_is l.elements space.Element i refl h
below_limit_is_rule l space.Function i h = answer_is l.functions space.Function i refl h
below_limit_is_rule l space.Global i h = answer_is l.globals space.Global i refl h
below_limit_is_rule l space.Memory i h = answer_is l.memories space.Memory i refl h
below_limit_is_rule l space.Table i h = answer_is l.tables space.Table i refl h
below_limit_is_rule l space.Tag i h = answer_is l.tags space.Tag i refl h
below_limit_is_rule l space.Type_ i h = answer_is l.types space.Type_ i refl h
below_limit_is_rule l _ i h = h
