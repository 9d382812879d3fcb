-- What is said of members and items, one behind another.
use Rattle.std.proofs.Common.{◌≡◌, ◌≢◌, ℕ, ◌+◌, ◌<◌, ◌≤◌, Bool, true, false, true≢false, List, [], ◌∷◌, ◌++◌, length, get_or, take, drop, Option, None, Some, option_map, codes, decimal, nat_eq, String, Global, string_bytes, refl, sym, ◌∙◌, subst}
use Rattle.std.specs.Prelude.{IsSome}
use Rattle.std.specs.BTreeMap.{insert_entry}
use Rattle.std.specs.Ordering.{nat_cmp}
use Rattle.std.proofs.Math.Seq.{take-length}
use Rattle.std.specs.Cmp.Lexicographic.{bytes_decides, pointwise}
use Rattle.std.proofs.Math.ListN.{drop_of_length-le}
use Rattle.std.proofs.lemmas.List.{drop_more}
use Rattle.serde_json.specs.Data.{Data, Items, Members, member}
use Rattle.serde_json.specs.View.{items_view, members_view, view}
use Rattle.serde_json.specs.declared.value.Value.{Value}
use Rattle.reencode_hooks.specs.Renamings.{Renaming, no_renaming}
use Rattle.reencode_run.specs.Orders.{numbers_from}
use Rattle.reencode_run.specs.Renamings.{entries_from, set_member, set_members, whole_of}
use Rattle.wasm_reencode.specs.Json.{Fits, IsOfKey, TellsEntry, TellsFirst, TellsItems, TellsMember, TellsOrder, TellsRenaming, order_said, renaming_said}

-- what is said of the members that are left is said of the whole
pub record SoFar (Tells : List ℕ → Data → Option (List ℕ) → Type 0) (Whole : Option (List ℕ) → Type 0) (left : Members) : Type 0 where
  pub goes : (said : Option (List ℕ)) → TellsFirst Tells left said → Whole said

module _ {Tells : List ℕ → Data → Option (List ℕ) → Type 0} {Whole : Option (List ℕ) → Type 0} {left more : List (String Global × Value)} where
  pub so_next : (e : String Global × Value) (k : List ℕ) (w : Option (String Global)) → SoFar Tells Whole (members_view left) → left ≡ e ∷ more → k ≡ string_bytes e.0
      → Tells k (view e.1) (option_map string_bytes w) → w ≡ None → SoFar Tells Whole (members_view more)
  so_next e k w so is key told none =
      let P : List (String Global × Value) → Type 0 = λ z. SoFar Tells Whole (members_view z) in
      let Q : List ℕ → Type 0 = λ z. Tells z (view e.1) None in
      let R : Option (String Global) → Type 0 = λ z. Tells k (view e.1) (option_map string_bytes z) in
      record { goes = λ said rest. (subst P is so).goes said (TellsFirst.behind (subst Q key (subst R none told)) rest) }

  pub so_here : (e : String Global × Value) (k : List ℕ) (w : Option (String Global)) (text : String Global) → SoFar Tells Whole (members_view left) → left ≡ e ∷ more → k ≡ string_bytes e.0
      → Tells k (view e.1) (option_map string_bytes w) → w ≡ Some text → Whole (Some (string_bytes text))
  so_here e k w text so is key told some =
      let P : List (String Global × Value) → Type 0 = λ z. SoFar Tells Whole (members_view z) in
      let Q : List ℕ → Type 0 = λ z. Tells z (view e.1) (Some (string_bytes text)) in
      let R : Option (String Global) → Type 0 = λ z. Tells k (view e.1) (option_map string_bytes z) in
      (subst P is so).goes (Some (string_bytes text)) (TellsFirst.here (subst Q key (subst R some told)))

module _ {Tells : List ℕ → Data → Option (List ℕ) → Type 0} {Whole : Option (List ℕ) → Type 0} {left : List (String Global × Value)} where
  pub so_begin : (all : List (String Global × Value)) → ((said : Option (List ℕ)) → TellsFirst Tells (members_view all) said → Whole said) → all ≡ left → SoFar Tells Whole (members_view left)
  so_begin all goes is = let P : List (String Global × Value) → Type 0 = λ z. SoFar Tells Whole (members_view z) in subst P is (record { goes = goes })

  pub so_last : SoFar Tells Whole (members_view left) → left ≡ [] → Whole None
  so_last so is = let P : List (String Global × Value) → Type 0 = λ z. SoFar Tells Whole (members_view z) in (subst P is so).goes None TellsFirst.none

-- the key of a renaming that is no space
pub strict_key : (key : List ℕ) (b : Bool) → b ≡ pointwise nat_eq key (codes "strict") → b ≡ true → key ≡ codes "strict"
strict_key key b is same = (bytes_decides key (codes "strict")).0 (sym is ∙ same)

pub space_key : (key : List ℕ) (b : Bool) → b ≡ pointwise nat_eq key (codes "strict") → b ≡ false → key ≢ codes "strict"
space_key key b is other same = let yes : pointwise nat_eq key (codes "strict") ≡ true = (bytes_decides key (codes "strict")).1 same in true≢false (sym yes ∙ sym is ∙ other)

-- a text of all of a key
pub of_whole : (key why text : List ℕ) → IsOfKey (take (length key) key) why text → IsOfKey key why text
of_whole key why text is = subst (λ (z : List ℕ). IsOfKey z why text) (take-length key) is

-- the same of items, the first of which has a place
pub record OrderSoFar (d : Data) (place : ℕ) (left : List Value) : Type 0 where
  pub goes : (said : Option (List ℕ)) → TellsItems place (items_view left) said → TellsOrder d said

module _ {d : Data} (values : List Value) (place : ℕ) where
  -- the first of what is left
  order_first : (v : Value) → place < length values → v ≡ get_or values place v → OrderSoFar d place (drop place values) → OrderSoFar d place (v ∷ drop (place + 1) values)
  order_first v less is so =
      let P : List Value → Type 0 = λ z. OrderSoFar d place z in
      let Q : Value → Type 0 = λ z. OrderSoFar d place (z ∷ drop (place + 1) values) in
      subst Q (sym is) (subst P (drop_more values place v less) so)

  pub order_next : (v : Value) (n : ℕ) → place < length values → v ≡ get_or values place v → OrderSoFar d place (drop place values) → whole_of (view v) ≡ Some n
      → OrderSoFar d (place + 1) (drop (place + 1) values)
  order_next v n less is so whole = record { goes = λ said rest. (order_first v less is so).goes said (TellsItems.behind n whole rest) }

  pub order_here : (v : Value) → place < length values → v ≡ get_or values place v → OrderSoFar d place (drop place values) → whole_of (view v) ≡ None
      → TellsOrder d (Some (codes "place " ++ decimal place ++ codes ": no index"))
  order_here v less is so none = (order_first v less is so).goes _ (TellsItems.here none)

  pub order_last : length values ≤ place → OrderSoFar d place (drop place values) → TellsOrder d None
  order_last last so = let P : List Value → Type 0 = λ z. OrderSoFar d place z in (subst P (drop_of_length-le values last) so).goes None TellsItems.none

-- ---- nothing is said of what says something alone

fits_map : {A B : Type 0} (f : A → B) (x : Option A) (said : Option (List ℕ)) → Fits x said → Fits (option_map f x) said
fits_map f None None h = h
fits_map f (Some x) None h = refl
fits_map f None (Some text) h = refl
fits_map f (Some x) (Some text) h = absurd (cc)

other_key : (key : List ℕ) → key ≢ codes "strict" → pointwise nat_eq key (codes "strict") ≡ false
other_key key other = go (pointwise nat_eq key (codes "strict")) refl
  where
    go : (b : Bool) → pointwise nat_eq key (codes "strict") ≡ b → b ≡ false
    go true e = absurd (other ((bytes_decides key (codes "strict")).0 e))
    go false e = refl

entries_fit : (space : List ℕ) (found : List (ℕ × ℕ)) {ms : Members} {said : Option (List ℕ)} → TellsFirst (TellsEntry space) ms said → Fits (entries_from found ms) said
entries_fit space found TellsFirst.none = refl
entries_fit space found (TellsFirst.here (TellsEntry.no_old e is)) = rw e refl
entries_fit space found (TellsFirst.here (TellsEntry.no_new from e f is)) = rw (e, f) refl
entries_fit space found (TellsFirst.behind (TellsEntry.right from to e f) rest) = rw (e, f) (entries_fit space (insert_entry nat_cmp found from to) rest)

member_fits : (r : Renaming) (key : List ℕ) (d : Data) (said : Option (List ℕ)) → TellsMember key d said → Fits (set_member r key d) said
member_fits r key d said (TellsMember.strict b e f) = rw (e, f) refl
member_fits r key d said (TellsMember.no_flag e f is) = rw (e, f) refl
member_fits r key d said (TellsMember.no_space other e is) = rw (other_key key other, e) refl
member_fits r key d said (TellsMember.no_object s other e f is) = rw (other_key key other, e, f) refl
member_fits r key d said (TellsMember.entries s ms other e f told) = rw (other_key key other, e, f) (fits_map _ _ said (entries_fit key [] told))

members_fit : (r : Renaming) {ms : Members} {said : Option (List ℕ)} → TellsFirst TellsMember ms said → Fits (set_members r ms) said
members_fit r TellsFirst.none = refl
members_fit r (TellsFirst.here {key} {d} {ms} {text} wrong) = let none : set_member r key d ≡ None = member_fits r key d (Some text) wrong in rw none refl
members_fit r (TellsFirst.behind {key} {d} {ms} {said} right rest) = go (λ q. members_fit q rest) (set_member r key d) refl (member_fits r key d None right)
  where
    go : ((q : Renaming) → Fits (set_members q ms) said) → (x : Option Renaming) → set_member r key d ≡ x → IsSome x → Fits (set_members r (member key d ms)) said
    go again None e some = absurd (cc)
    go again (Some q) e some = rw e (again q)

pub renaming_fits : (d : Data) (said : Option (List ℕ)) → TellsRenaming d said → Fits (renaming_said d) said
renaming_fits d said (TellsRenaming.no_object e) = rw e refl
renaming_fits d said (TellsRenaming.members ms e told) = rw e (members_fit no_renaming told)

items_fit : (place : ℕ) (found : List ℕ) {ds : Items} {said : Option (List ℕ)} → TellsItems place ds said → Fits (numbers_from found ds) said
items_fit place found TellsItems.none = refl
items_fit place found (TellsItems.here e) = rw e refl
items_fit place found (TellsItems.behind n e rest) = rw e (items_fit (place + 1) (found ++ n ∷ []) rest)

pub order_fits : (d : Data) (said : Option (List ℕ)) → TellsOrder d said → Fits (order_said d) said
order_fits d said (TellsOrder.no_array e) = rw e refl
order_fits d said (TellsOrder.items ds e told) = rw e (items_fit 0 [] told)
