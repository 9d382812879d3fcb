-- What a renamer holds, and what it answers.
use Rattle.std.specs.Fmt.{decimal}
use Rattle.std.specs.Prelude.{◌++◌, codes, ◌+◌, ◌-◌, ◌^◌, ◌&&◌, ℕ, Bool, false, List, min, nat_lt, replicate, slice_index, slice_index_or, slice_set, Option, Some, None, Result, Ok, Err, if◌then◌else◌, refl}
use Rattle.std.specs.Ordering.{nat_cmp}
use Rattle.std.specs.FinMap as map
use Rattle.std.specs.Coded.{Coded, code_by, coded×, coded_list, coded_bool, coded_ℕ}
use Rattle.wasm_shapes.specs.declared.Space.{Space}
use Rattle.wasm_shapes.specs.declared.Space.TheVariants as space
use Rattle.wasm_shapes.specs.declared.Visit.{Visit}
use Rattle.wasm_shapes.specs.declared.Visit.TheVariants.{Index, Outer, Section, Closed, Push, Pop}
use Rattle.wasm_shapes.specs.Names.{space_name}
use Rattle.wasm_shapes.specs.Types.{is_core}
use Rattle.reencode_hooks.specs.declared.asked.Asked.{Asked}
use Rattle.reencode_hooks.specs.declared.asked.Asked.TheVariants as what
use Rattle.reencode_hooks.specs.declared.asked.Unmapped.{Unmapped}

-- the entries of one space, from an index to another
abbrev pub Entries : Type 0
Entries = map.FinMap nat_cmp ℕ

abbrev pub entries_code : Coded Entries
entries_code = map.code coded_ℕ coded_ℕ

-- the entries that a list of pairs holds
abbrev pub entries_of : List (ℕ × ℕ) → Entries
entries_of pairs = map.from_entries pairs

-- the entries of each space by its number, whether it is strict, and the counts by their places
pub record Renaming : Type 0 where
  pub entries : List Entries
  pub strict : Bool
  pub counts : List ℕ

abbrev pub renaming_code : Coded Renaming
renaming_code =
    code_by (List Entries × (Bool × List ℕ)) (coded× (coded_list entries_code) (coded× coded_bool (coded_list coded_ℕ)))
    (λ r. (r.entries, (r.strict, r.counts))) (λ p. record { entries = p.0; strict = p.1.0; counts = p.1.1 }) (λ r. refl)

-- the number of a space
abbrev pub space_number : Space → ℕ
space_number space.Data = 0
space_number space.Element = 1
space_number space.Function = 2
space_number space.Global = 3
space_number space.Memory = 4
space_number space.Table = 5
space_number space.Tag = 6
space_number space.Type_ = 7
space_number space.DataCount = 8
space_number space.ComponentType = 9
space_number space.ComponentInstance = 10
space_number space.ComponentFunc = 11
space_number space.Component = 12
space_number space.Module = 13
space_number space.Instance = 14
space_number space.ComponentValue = 15

-- the place of a count: those of the spaces, and of the section hook and the begin and the end of a scope behind them
abbrev pub count_place : Asked → ℕ
count_place (what.Of p) = space_number p
count_place what.SectionHook = 16
count_place what.Push = 17
count_place what.Pop = 18

-- no entries, not strict, and all counts 0
abbrev pub no_renaming : Renaming
no_renaming = record { entries = replicate 16 map.empty; strict = false; counts = replicate 19 0 }

abbrev pub entries_in : Renaming → Space → Entries
entries_in r p = slice_index_or r.entries (space_number p) map.empty

-- an entry is an index, below 2^32
abbrev pub if_index : Option ℕ → Option ℕ
if_index (Some n) = if nat_lt n (2 ^ 32) then Some n else None
if_index None = None

-- the entry of an index in a space
abbrev pub entry_of : Renaming → Space → ℕ → Option ℕ
entry_of r p i = if_index (map.get (entries_in r p) i)

-- the renaming with an entry, in place of an older one
abbrev pub with_entry : Renaming → Space → ℕ → ℕ → Renaming
with_entry r p from to =
    record r { entries = slice_set r.entries (space_number p) (map.insert (entries_in r p) from to) }

abbrev pub or_itself : Option ℕ → Bool → Space → ℕ → Result ℕ Unmapped
or_itself (Some n) refuses p i = Ok n
or_itself None refuses p i = if refuses then Err (record { space = p; index = i }) else Ok i

-- the answer to an index: its entry, else itself, unless it is one of a core module and a strict renamer refuses it
abbrev pub renamed : Renaming → Space → ℕ → Result ℕ Unmapped
renamed r p i = or_itself (entry_of r p i) (r.strict && is_core p) p i

-- how often it was asked
abbrev pub count_of : Renaming → Asked → ℕ
count_of r a = slice_index r.counts (count_place a)

-- one more of these, unless the count is at its end
abbrev pub noted : Renaming → Asked → Renaming
noted r a = record r { counts = slice_set r.counts (count_place a) (min (count_of r a + 1) (2 ^ 64 - 1)) }

abbrev pub renamer_reply : Renaming → Visit → Result ℕ Unmapped
renamer_reply r (Index p i) = renamed r p i
renamer_reply r (Outer p k i) = renamed r p i
renamer_reply r _ = Ok 0

abbrev pub renamer_next : Renaming → Visit → Renaming
renamer_next r (Index p i) = noted r (what.Of p)
renamer_next r (Outer p k i) = noted r (what.Of p)
renamer_next r (Section after before) = noted r what.SectionHook
renamer_next r (Closed kind) = r
renamer_next r Push = noted r what.Push
renamer_next r Pop = noted r what.Pop

abbrev pub unmapped_text : Unmapped → List ℕ
unmapped_text u = codes "refused " ++ space_name u.space ++ codes " " ++ decimal u.index
