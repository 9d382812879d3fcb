-- What is said of a JSON text that is to say a renaming, or an order.
use Rattle.std.specs.Prelude.{◌≡◌, ◌≢◌, ◌⊎◌, ◌+◌, ℕ, Bool, true, false, List, [], ◌++◌, Option, None, Some, IsSome, IfSome, IsUtf8, codes, decimal, option_and_then}
use Rattle.std.specs.Fmt.{◌++?◌, debug_str}
use Rattle.wasm_shapes.specs.declared.Space.{Space}
use Rattle.serde_json.specs.Data.{Data, Items, no_items, item, Members, no_members, member}
use Rattle.serde_json.specs.Find.{as_array, as_bool, as_object}
use Rattle.serde_json.specs.Read.{read}
use Rattle.reencode_hooks.specs.Renamings.{Renaming, no_renaming}
use Rattle.reencode_run.specs.Numerals.{index_of}
use Rattle.reencode_run.specs.Orders.{numbers_from}
use Rattle.reencode_run.specs.Renamings.{set_members, space_of, whole_of}

-- a text about a key, where it is told how that stands in quotes
abbrev pub IsOfKey : List ℕ → List ℕ → List ℕ → Type 0
IsOfKey key why text = IfSome (Some (codes "key ") ++? (debug_str key ++? Some why)) (λ told. text ≡ told)

-- the same about a key of a space
abbrev pub IsOfEntry : (space key : List ℕ) → List ℕ → List ℕ → Type 0
IsOfEntry space key why text = IfSome (Some (codes "key ") ++? (debug_str key ++? (Some (codes " of ") ++? (debug_str space ++? Some why)))) (λ told. text ≡ told)

-- what is said of an entry of a space
pub data TellsEntry (space key : List ℕ) (d : Data) : Option (List ℕ) → Type 0 where
  right : (from to : ℕ) → index_of key ≡ Some from → whole_of d ≡ Some to → TellsEntry space key d None
  no_old : {text : List ℕ} → index_of key ≡ None → IsOfEntry space key (codes ": no old index") text → TellsEntry space key d (Some text)
  no_new : {text : List ℕ} (from : ℕ) → index_of key ≡ Some from → whole_of d ≡ None → IsOfEntry space key (codes ": no new index") text → TellsEntry space key d (Some text)

-- what is said of the first of these members of which something is
pub data TellsFirst (Tells : List ℕ → Data → Option (List ℕ) → Type 0) : Members → Option (List ℕ) → Type 0 where
  none : TellsFirst Tells no_members None
  here : {key : List ℕ} {d : Data} {ms : Members} {text : List ℕ} → Tells key d (Some text) → TellsFirst Tells (member key d ms) (Some text)
  behind : {key : List ℕ} {d : Data} {ms : Members} {said : Option (List ℕ)} → Tells key d None → TellsFirst Tells ms said → TellsFirst Tells (member key d ms) said

-- what is said of a member of a renaming
pub data TellsMember (key : List ℕ) (d : Data) : Option (List ℕ) → Type 0 where
  strict : (b : Bool) → key ≡ codes "strict" → as_bool d ≡ Some b → TellsMember key d None
  no_flag : {text : List ℕ} → key ≡ codes "strict" → as_bool d ≡ None → IsOfKey key (codes ": neither true nor false") text → TellsMember key d (Some text)
  no_space : {text : List ℕ} → key ≢ codes "strict" → space_of key ≡ None → IsOfKey key (codes ": no space") text → TellsMember key d (Some text)
  no_object : {text : List ℕ} (s : Space) → key ≢ codes "strict" → space_of key ≡ Some s → as_object d ≡ None → IsOfKey key (codes ": no object") text → TellsMember key d (Some text)
  entries : {said : Option (List ℕ)} (s : Space) (ms : Members) → key ≢ codes "strict" → space_of key ≡ Some s → as_object d ≡ Some ms → TellsFirst (TellsEntry key) ms said
      → TellsMember key d said

-- what is said of a value that is to be a renaming
pub data TellsRenaming (d : Data) : Option (List ℕ) → Type 0 where
  no_object : as_object d ≡ None → TellsRenaming d (Some (codes "no object"))
  members : {said : Option (List ℕ)} (ms : Members) → as_object d ≡ Some ms → TellsFirst TellsMember ms said → TellsRenaming d said

-- what is said of the first of these items, from this place on, that is no index
pub data TellsItems : (place : ℕ) → Items → Option (List ℕ) → Type 0 where
  none : {place : ℕ} → TellsItems place no_items None
  here : {place : ℕ} {d : Data} {ds : Items} → whole_of d ≡ None → TellsItems place (item d ds) (Some (codes "place " ++ decimal place ++ codes ": no index"))
  behind : {place : ℕ} {d : Data} {ds : Items} {said : Option (List ℕ)} (n : ℕ) → whole_of d ≡ Some n → TellsItems (place + 1) ds said → TellsItems place (item d ds) said

-- what is said of a value that is to be an order
pub data TellsOrder (d : Data) : Option (List ℕ) → Type 0 where
  no_array : as_array d ≡ None → TellsOrder d (Some (codes "no array"))
  items : {said : Option (List ℕ)} (ds : Items) → as_array d ≡ Some ds → TellsItems 0 ds said → TellsOrder d said

-- the renaming that a value says
abbrev pub renaming_said : Data → Option Renaming
renaming_said d = option_and_then (λ ms. set_members no_renaming ms) (as_object d)

-- the order that a value says
abbrev pub order_said : Data → Option (List ℕ)
order_said d = option_and_then (λ ds. numbers_from [] ds) (as_array d)

-- nothing is wrong with what says something, and something with what says nothing
abbrev pub Fits : {A : Type 0} → Option A → Option (List ℕ) → Type 0
Fits said None = IsSome said
Fits said (Some wrong) = said ≡ None

-- what is said of a value that is to be a renaming, or an order
abbrev pub TellsValue : (is_order : Bool) → Data → Option (List ℕ) → Type 0
TellsValue false d said = TellsRenaming d said
TellsValue true d said = TellsOrder d said

-- the text is none of JSON
abbrev pub IsNoJson : List ℕ → Type 0
IsNoJson text = IsUtf8 text → read text ≡ None

-- what is said of a text that is to say a renaming, or an order: something of one that is none of JSON, and else what its value is wrong in
abbrev pub TellsText : (is_order : Bool) → List ℕ → Option (List ℕ) → Type 0
TellsText is_order text said = (IsNoJson text × IsSome said) ⊎ ((d : Data) × IsUtf8 text × (read text ≡ Some d) × TellsValue is_order d said)
