-- Renamings by entries, each of which says what becomes of an index of a space.
use Rattle.std.specs.Prelude.{◌≡◌, ◌≤◌, ◌<◌, ◌++◌, ◌+◌, ◌*◌, ◌^◌, ◌&&◌, ◌==◌, ℕ, nat_lt, Bool, true, false, List, [], ◌∷◌, length, All, Option, Some, None, Result, if◌then◌else◌, refl}
use Rattle.std.proofs.lemmas.Bool.{ltb-true}
use Rattle.std.specs.Coded.{Coded, code_by, coded×, coded_list, coded_bool, coded_ℕ}
use Rattle.wasm_shapes.specs.declared.Space.{Space}
use Rattle.wasm_shapes.specs.declared.Space.TheVariants as space
use Rattle.wasm_shapes.specs.declared.Visit.{Visit}
use Rattle.wasm_shapes.specs.declared.Visit.TheVariants.{Index}
use Rattle.wasm_shapes.specs.Types.{is_core}
use Rattle.reencode_hooks.specs.declared.asked.Unmapped.{Unmapped}
use Rattle.std.specs.BTreeMap.{get}
use Rattle.std.specs.FinMap as map
use Rattle.std.specs.Ordering.{nat_cmp}
use Rattle.reencode_hooks.specs.Renamings.{entries_in, if_index, or_itself, space_number}
use Rattle.reencode_hooks.specs.Hooks.{IsAnswer, IsInRange, is_of_components}
use Rattle.reencode_hooks.specs.Rules.{by_rule, rule_answers}
use Rattle.reencode_c.specs.declared.entries.Held.{Held}
use Rattle.reencode_c.specs.declared.entries.Held.TheVariants as held
use Rattle.reencode_c.specs.declared.entries.EntryFault.{EntryFault}
use Rattle.reencode_c.specs.declared.entries.EntryFault.TheVariants.{NoSpace, NoMemory}
use Rattle.reencode_c.specs.declared.outcome.Entry.{Entry}
use Rattle.reencode_c.specs.declared.outcome.Outcome.{Outcome}
use Rattle.reencode_c.specs.Ends.{bare}

-- the number of a space in front of an index
abbrev pub key : ℕ → ℕ → ℕ
key p i = p * 2 ^ 32 + i

-- what the last of these entries with this key says, and where none has it, what was found before
abbrev pub entry_from : Option ℕ → List Entry → ℕ → Option ℕ
entry_from found [] k = found
entry_from found (e ∷ es) k = entry_from (if key e.space e.from == k then Some e.to else found) es k

-- the new index that the last entry for an index of a space says
abbrev pub entry_for : List Entry → Space → ℕ → Option ℕ
entry_for entries p i = if_index (entry_from None entries (key (space_number p) i))

-- entries, and whether an index of a core module that none of them names is refused
pub record Renaming : Type 0 where
  pub entries : List Entry
  pub strict : Bool

-- how contracts hold entries, and renamings by them
abbrev pub entry_code : Coded Entry
entry_code =
    code_by (ℕ × (ℕ × ℕ)) (coded× coded_ℕ (coded× coded_ℕ coded_ℕ)) (λ e. (e.space, (e.from, e.to)))
    (λ p. record { space = p.0; from = p.1.0; to = p.1.1 }) (λ e. refl)

abbrev pub renaming_code : Coded Renaming
renaming_code =
    code_by (List Entry × Bool) (coded× (coded_list entry_code) coded_bool) (λ r. (r.entries, r.strict))
    (λ p. record { entries = p.0; strict = p.1 }) (λ r. refl)

-- the answer to an index: what its entry says, else itself, unless it is one of a core module and is refused
abbrev pub renamed_by : Renaming → Space → ℕ → Result ℕ Unmapped
renamed_by r p i = or_itself (entry_for r.entries p i) (r.strict && is_core p) p i

-- the answer to a visit
abbrev pub renaming_reply : Renaming → Visit → Result ℕ Unmapped
renaming_reply r v = by_rule (renamed_by r) v

-- What entries are looked up in says of each index of a space what the last entry for it says: the tables of a renamer that is as
-- strict, or a map.
abbrev pub Holds : List Entry → Bool → Held → Type 0
Holds es strict (held.Rising r) = (r.strict ≡ strict) × ((p : Space) (i : ℕ) → i < 2 ^ 32 → map.get (entries_in r p) i ≡ entry_from None es (key (space_number p) i))
Holds es strict (held.Any m) = (k : ℕ) → get nat_cmp m k ≡ entry_from None es k

-- some space has the number that the entry says
abbrev pub HasSpace : Entry → Type 0
HasSpace e = e.space < 16

-- the first of these entries whose space has no number of a space stands at this place, and this is its space and its index
pub record FirstWithoutSpace (entries : List Entry) (place space index : ℕ) : Type 0 where
  pub front : List Entry
  pub entry : Entry
  pub rest : List Entry
  pub parts : entries ≡ front ++ entry ∷ rest
  pub place_is : length front ≡ place
  pub known : All HasSpace front
  pub unknown : 16 ≤ entry.space
  pub space_is : entry.space ≡ space
  pub index_is : entry.from ≡ index

-- the outcome tells of the first entry without a space
abbrev pub IsBadRenaming : List Entry → Outcome → Type 0
IsBadRenaming entries o = FirstWithoutSpace entries o.place o.space o.index

-- why a fault of entries comes: out of memory, or one of them has no space
abbrev pub IsBad : List Entry → EntryFault → Type 0
IsBad entries (NoSpace place entry) = FirstWithoutSpace entries place entry.space entry.from
IsBad entries NoMemory = Unit {0}

-- the outcome tells the fault
abbrev pub TellsFault : EntryFault → Outcome → Type 0
TellsFault (NoSpace place entry) o = o ≡ record (bare 11) { place = place; space = entry.space; index = entry.from }
TellsFault NoMemory o = o ≡ bare 1

-- ---- the answers are such as a hook may give

if_index_given : (o : Option ℕ) (refuses : Bool) (p : Space) (i : ℕ) → i < 2 ^ 32 → (refuses ≡ true → is_of_components p ≡ false) → IsAnswer (Index p i) (or_itself (if_index o) refuses p i)
if_index_given None false p i h core = h
if_index_given None true p i h core = core refl
if_index_given (Some n) refuses p i h core = go (nat_lt n (2 ^ 32)) refl refuses core
  where
    go : (b : Bool) → nat_lt n (2 ^ 32) ≡ b → (r : Bool) → (r ≡ true → is_of_components p ≡ false) → IsAnswer (Index p i) (or_itself (if b then Some n else None) r p i)
    go true e r core = ltb-true n (2 ^ 32) e
    go false e false core = h
    go false e true core = core refl

refused_core : (strict : Bool) (p : Space) → (strict && is_core p) ≡ true → is_of_components p ≡ false
refused_core false p e = absurd cc
refused_core true space.ComponentType e = absurd cc
refused_core true space.ComponentInstance e = absurd cc
refused_core true space.ComponentFunc e = absurd cc
refused_core true space.Component e = absurd cc
refused_core true space.Module e = absurd cc
refused_core true space.Instance e = absurd cc
refused_core true space.ComponentValue e = absurd cc
refused_core true _ e = refl

pub renaming_answers : (r : Renaming) (v : Visit) → IsInRange v → IsAnswer v (renaming_reply r v)
renaming_answers = rule_answers renamed_by (λ r p i h. if_index_given (entry_from None r.entries (key (space_number p) i)) (r.strict && is_core p) p i h (refused_core r.strict p))
