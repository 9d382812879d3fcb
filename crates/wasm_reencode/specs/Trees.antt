-- The sections as a JSON object.
use Rattle.std.specs.Prelude.{◌≡◌, ◌<◌, ℕ, List, [], ◌∷◌, ◌++◌, length, Option, None, Some, All, IfNone, IfSome, codes, option_map, if◌then◌else◌}
use Rattle.serde_json.specs.Data.{Data, null, number, string, array, object, unsigned, Items, no_items, item, Members, no_members, member, put}
use Rattle.serde_json.specs.View.{view}
use Rattle.serde_json.specs.Written.{compact_text}
use Rattle.serde_json.specs.declared.value.Value.{Value}
use Rattle.wasm_reencode.specs.declared.sections.Section.{Section}
use Rattle.wasm_reencode.specs.Sections.{Frame, HasName, HasRows, is_binary, kind_name}

-- a member where there is a value for it, in front of others
abbrev pub with_some : List ℕ → Option Data → Members → Members
with_some key None members = members
with_some key (Some d) members = member key d members

-- the same in its place by its key
abbrev pub put_some : List ℕ → Option Data → Members → Members
put_some key None members = members
put_some key (Some d) members = put key d members

-- a number that is not negative
abbrev pub count : ℕ → Data
count n = number (unsigned n)

-- the size of a body, or nothing where that passes the end
abbrev pub size_value : Option Frame → Data
size_value None = null
size_value (Some f) = count (length f.0.now)

-- the sections in one that is a whole binary
abbrev pub inner_value : Section → Items → Option Data
inner_value s inner = if is_binary s.layer s.id then Some (array inner) else None

-- how many rows it has, where it is a vector
pub record IsRowsOf (s : Section) (rows : Option ℕ) : Type 0 where
  pub some : IfSome rows (HasRows s)
  pub none : IfNone rows ((n : ℕ) → ¬ HasRows s n)

-- the name of a custom section
pub record IsNameOf (s : Section) (name : Option (List ℕ)) : Type 0 where
  pub some : IfSome name (HasName s)
  pub none : IfNone name ((other : List ℕ) → ¬ HasName s other)

-- the members of the object of a section with this name and so many rows, in the order of their keys
abbrev pub members_with : Section → (name : Option (List ℕ)) (rows : Option ℕ) → Items → Members
members_with s name rows inner =
    with_some (codes "custom_name") (option_map string name) (member (codes "id") (count s.id) (member (codes "name") (string (kind_name s.layer s.id))
    (member (codes "number") (count s.number) (member (codes "place") (count s.start) (with_some (codes "rows") (option_map count rows)
    (with_some (codes "sections") (inner_value s inner) (member (codes "size") (size_value s.frame) no_members)))))))

-- the object of a section, with those in it
pub record IsObject (s : Section) (inner : Items) (d : Data) : Type 0 where
  pub name : Option (List ℕ)
  pub rows : Option ℕ
  pub is_name : IsNameOf s name
  pub is_rows : IsRowsOf s rows
  pub is : d ≡ object (members_with s name rows inner)

-- the same of a value
abbrev pub IsObjectOf : Section → Items → Value → Type 0
IsObjectOf s inner value = IsObject s inner (view value)

-- a section stands in one of this depth, or in the binary itself
abbrev pub IsWithin : Option ℕ → Section → Type 0
IsWithin None s = Unit {0}
IsWithin (Some depth) s = depth < s.depth

-- the first of these sections, if there is one, does not stand in one of this depth
abbrev pub IsPast : Option ℕ → List Section → Type 0
IsPast holder [] = Unit {0}
IsPast holder (s ∷ sections) = ¬ IsWithin holder s

-- the objects of sections: in each those of the sections behind it that stand deeper
pub data AreObjects : List Section → Items → Type 0 where
  none : AreObjects [] no_items
  more : {s : Section} {inner behind : List Section} {within objects : Items} {d : Data} → All (IsWithin (Some s.depth)) inner → IsPast (Some s.depth) behind
      → AreObjects inner within → IsObject s within d → AreObjects behind objects → AreObjects (s ∷ (inner ++ behind)) (item d objects)

-- the objects of the sections at the front that stand in one of this depth, or in the binary itself; with those in them they are so many
pub record AreHeld (holder : Option ℕ) (sections : List Section) (objects : Items) (count : ℕ) : Type 0 where
  pub held : List Section
  pub left : List Section
  pub split : sections ≡ held ++ left
  pub counted : length held ≡ count
  pub within : All (IsWithin holder) held
  pub past : IsPast holder left
  pub are : AreObjects held objects

-- the JSON text of sections, and the line end
pub record IsTree (sections : List Section) (text : List ℕ) : Type 0 where
  pub objects : Items
  pub are : AreObjects sections objects
  pub is : text ≡ compact_text (object (member (codes "sections") (array objects) no_members)) ++ codes "\n"
