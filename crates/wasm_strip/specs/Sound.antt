-- A binary without names that have no reading.
use Rattle.std.specs.Prelude.{◌≡◌, ◌⊎◌, ℕ, List}
use Rattle.wasm_leb.specs.declared.fault.Kind.{Kind}
use Rattle.wasm_strip.specs.Binaries.{IsBinary, IsStripped, SectionList, deepest}
use Rattle.wasm_strip.specs.Choices.{IsMalformed}

-- The second bytes are the first without their malformed names; or they are the first, where these are no binary by its sections.
abbrev pub IsSound : List ℕ → List ℕ → Type 0
IsSound bytes sound = IsStripped IsMalformed bytes sound ⊎ (((kind : Kind) (parts : SectionList) → ¬ IsBinary deepest bytes kind parts) × (sound ≡ bytes))
