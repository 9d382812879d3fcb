-- Formats of subsections of names: those of a core module, and others that are mapped as they are.
use Rattle.std.specs.Prelude.{◌≡◌, ℕ, List, [], get_or}
use Rattle.wasm_shapes.specs.Module.{name_rows, name_subsection, names_name, subsection}
use Rattle.wasm_shapes.specs.Shape.{Shape}
use Rattle.wasm_shapes.specs.Tree.{Tree}
use Rattle.wasm_read.specs.declared.types.Name.{Name}
use Rattle.wasm_read.specs.Names.{MapStanding}
use Rattle.wasm_read.specs.Subsections.{Content, HoldsName, ReadsName, content_of}

-- A format of subsections, each of which is seen as an `N`: the shape of one; the id and the body that hold it; the trees that it is
-- read as; the fact about the rows of its map and about the map, if it has one; the bytes that the entries of the map are read from;
-- and that in the body of an id the map of such rows is these bytes.
pub record NameFormat (N : Type 0) : Type 1 where
  pub row : Shape
  pub holds : ℕ → List ℕ → N → Type 0
  pub reads : N → Tree → Type 0
  pub of_map : N → (Shape → MapStanding → Type 0) → Type 0
  pub entries : N → List ℕ
  pub map_at : ℕ → List ℕ → Shape → List ℕ → Type 0

-- A format of custom sections: the name of those whose contents are such subsections, and the number of a custom section among the
-- sections.
pub record CustomFormat (N : Type 0) : Type 1 where
  pub names : NameFormat N
  pub called : List ℕ
  pub number : ℕ

-- ---- the names of a core module

-- the rows of the map in a subsection of an id
abbrev pub MapRow : ℕ → Shape → Type 0
MapRow id row = get_or name_rows id Shape.none ≡ subsection id (Shape.vec row)

-- the fact about these rows and the content's map, if it has one
abbrev pub OfMap : Content → (Shape → MapStanding → Type 0) → Type 0
OfMap (Content.direct id _ m) P = (row : Shape) × MapRow id row × P row m
OfMap (Content.indirect id _ m) P = (row : Shape) × MapRow id row × P row m
OfMap _ P = ⊥

-- what the entries of a subsection's map are read from
abbrev pub entries_bytes : Content → List ℕ
entries_bytes (Content.direct id s m) = m.rest
entries_bytes (Content.indirect id s m) = m.rest
entries_bytes _ = []

abbrev pub core_names : NameFormat Name
core_names = record {
  row = name_subsection;
  holds = HoldsName;
  reads = ReadsName;
  of_map = λ n P. OfMap (content_of n) P;
  entries = λ n. entries_bytes (content_of n);
  map_at = λ id body row map. MapRow id row × (map ≡ body);
}

abbrev pub core_custom : CustomFormat Name
core_custom = record { names = core_names; called = names_name; number = 13 }
