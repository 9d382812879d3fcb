-- Custom sections that tell places in code, and code that moved.
use Rattle.std.specs.Prelude.{◌≡◌, ◌⊎◌, ℕ, Bool, true, false, List, [], ◌∷◌, ◌++◌, IfSome, Contains, codes}
use Rattle.std.specs.Bool.{Decides}
use Rattle.std.specs.Cmp.Lexicographic.{slice_cmp}
use Rattle.std.specs.Fmt.{debug_str}
use Rattle.std.specs.List.Sorted.{IsStrictlySortedBy}
use Rattle.std.specs.Ordering.{nat_cmp}
use Rattle.wasm_reencode.specs.declared.sections.Layer.{Layer}
use Rattle.wasm_reencode.specs.declared.sections.Section.{Section}
use Rattle.wasm_reencode.specs.Sections.{AreListed, HasCode, HasName, IsHeadless, header}
use Rattle.wasm_strip.specs.Choices.{is_stale}

-- one of these sections has this name, which tells places in code
abbrev pub IsStaleOf : List Section → List ℕ → Type 0
IsStaleOf sections name = (s : Section) × Contains sections s × HasName s name × (is_stale name ≡ true)

-- these are the names of the sections that tell places in code, each once, in the order of their bytes
pub record AreStale (sections : List Section) (names : List (List ℕ)) : Type 0 where
  pub each : (name : List ℕ) → Contains names name → IsStaleOf sections name
  pub all : (name : List ℕ) → IsStaleOf sections name → Contains names name
  pub ordered : IsStrictlySortedBy (slice_cmp nat_cmp) names

-- the bodies of the code sections among these, in order
pub data AreCode : List Section → List (List ℕ) → Type 0 where
  none : AreCode [] []
  code : {s : Section} {sections : List Section} {body : List ℕ} {bodies : List (List ℕ)} → HasCode s body → AreCode sections bodies → AreCode (s ∷ sections) (body ∷ bodies)
  other : {s : Section} {sections : List Section} {bodies : List (List ℕ)} → ((body : List ℕ) → ¬ HasCode s body) → AreCode sections bodies → AreCode (s ∷ sections) bodies

-- the bytes are a binary whose sections have just these bodies of code
abbrev pub HasCodeOf : List (List ℕ) → List ℕ → Type 0
HasCodeOf bodies bytes = (l : Layer) × (rest : List ℕ) × (listed : List Section) × (bytes ≡ header l ++ rest) × AreListed l 0 0 8 rest listed × AreCode listed bodies

-- whether the code of these sections is that of a binary: there is no header of one, or it tells whether all bodies are the same
abbrev pub TellsSame : List Section → List ℕ → Bool → Type 0
TellsSame sections bytes same =
    (IsHeadless bytes × (same ≡ false))
    ⊎ ((bodies others : List (List ℕ)) × AreCode sections bodies × HasCodeOf others bytes × Decides same (bodies ≡ others))

-- this is a name in quotes, where these are told of it
abbrev pub IsQuoted : List ℕ → List ℕ → Type 0
IsQuoted name text = IfSome (debug_str name) (λ quoted. text ≡ quoted)

-- these names in quotes, with commas between
pub data AreQuoted : List (List ℕ) → List ℕ → Type 0 where
  none : AreQuoted [] []
  one : {name text : List ℕ} → IsQuoted name text → AreQuoted (name ∷ []) text
  more : {names : List (List ℕ)} (name text quoted : List ℕ) → AreQuoted names text → IsQuoted name quoted → AreQuoted (names ++ name ∷ []) ((text ++ codes ", ") ++ quoted)

-- the names of the sections that tell places in code, in quotes
abbrev pub TellsStale : List Section → List ℕ → Type 0
TellsStale sections text = (names : List (List ℕ)) × AreStale sections names × AreQuoted names text
