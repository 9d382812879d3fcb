-- Which custom sections a choice removes.
use Rattle.std.specs.Prelude.{◌≡◌, ◌⊎◌, ℕ, List, [], ◌∷◌, Bool, true, false, not, ◌&&◌, ◌||◌, bytes_eq, codes, length, take}
use Rattle.std.specs.Borrow.{Bor}
use Rattle.std.specs.List.{list_any}
use Rattle.wasm_leb.specs.declared.fault.Kind.{Kind}
use Rattle.wasm_leb.specs.declared.fault.Kind.TheVariants as kind
use Rattle.wasm_shapes.specs.Tree.{Tree}
use Rattle.wasm_shapes.specs.Spells.{Spells}
use Rattle.wasm_shapes.specs.Component.{component_names, component_names_name}
use Rattle.wasm_shapes.specs.Module.{names, names_name}

-- the name begins with this text
abbrev pub begins : List ℕ → List ℕ → Bool
begins front name = bytes_eq (take (length front) name) front

-- names of functions, of types and so on
abbrev pub is_names : List ℕ → Bool
is_names name = bytes_eq name (codes "name") || bytes_eq name (codes "component-name")

-- what a debugger reads, or finds by it
abbrev pub is_debug : List ℕ → Bool
is_debug name = begins (codes ".debug_") name || bytes_eq name (codes "sourceMappingURL") || bytes_eq name (codes "external_debug_info")

-- what tells places in code, which are wrong once code has moved
abbrev pub is_stale : List ℕ → Bool
is_stale name = begins (codes "reloc.") name || begins (codes ".debug_") name || begins (codes "metadata.code.") name || bytes_eq name (codes "sourceMappingURL")

-- what stays where nothing is chosen
abbrev pub stays_by_default : List ℕ → Bool
stays_by_default name = is_names name || begins (codes "component-type:") name || bytes_eq name (codes "dylink.0")

-- whether a text is one of these
abbrev pub is_one_of : List (Bor (List ℕ)) → List ℕ → Bool
is_one_of texts name = list_any (λ text. bytes_eq text.now name) texts

-- whether nothing is among them
abbrev pub is_empty : List (Bor (List ℕ)) → Bool
is_empty [] = true
is_empty (_ ∷ _) = false

-- What is removed by its name: names, debug, stale, all, and single names, as they are chosen. Where nothing is, not even malformed
-- names, all but what stays by default.
abbrev pub removed_by : Bool → Bool → Bool → Bool → Bool → List (Bor (List ℕ)) → List ℕ → Bool
removed_by names malformed debug stale all sections name =
    all || (names && is_names name) || (debug && is_debug name) || (stale && is_stale name) || is_one_of sections name
    || (not all && not names && not malformed && not debug && not stale && is_empty sections && not (stays_by_default name))

-- the bytes are the contents of a name section
abbrev pub AreNames : List ℕ → Type 0
AreNames contents = (t : Tree) × Spells names contents t

-- they are those of a section of a component's names
abbrev pub AreComponentNames : List ℕ → Type 0
AreComponentNames contents = (t : Tree) × Spells component_names contents t

-- such a section holds the names of a core module, or of a component, and its contents are none
abbrev pub IsMalformed : Kind → List ℕ → List ℕ → Type 0
IsMalformed kind.Module name contents = (name ≡ names_name) × ¬ AreNames contents
IsMalformed kind.Component name contents = (name ≡ component_names_name) × ¬ AreComponentNames contents

-- What is removed: by its name, or, where malformed names are chosen, as such.
abbrev pub RemovedBy : Bool → Bool → Bool → Bool → Bool → List (Bor (List ℕ)) → Kind → List ℕ → List ℕ → Type 0
RemovedBy names malformed debug stale all sections in_kind name contents =
    (removed_by names malformed debug stale all sections name ≡ true) ⊎ ((malformed ≡ true) × IsMalformed in_kind name contents)
