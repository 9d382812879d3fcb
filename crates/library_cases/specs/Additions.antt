-- What the rules of the words add.
use Rattle.std.specs.Prelude.{◌++◌, ℕ, Bool, true, false, List, [], ◌∷◌, Option, Some, None, nat_eq, if◌then◌else◌}
use mathlib.Core.Bool.{false≢true}
use Rattle.wasm_shapes.specs.declared.SectionId.{SectionId}
use Rattle.wasm_shapes.specs.SectionTable.{number}
use Rattle.wasm_shapes.specs.Tree.{normal}
use Rattle.wasm_write.specs.Rows.{custom_tree}
use Rattle.wasm_shapes.specs.declared.Visit.{Visit}
use Rattle.reencode_hooks.specs.Hooks.{KeepsAdds, at_section, at_section-keeps, both_keep}
use Rattle.reencode_hooks.specs.Renamings.{Renaming}
use Rattle.wasm_write.specs.Sections.{SectionRow, section_row}
use Rattle.library_cases.specs.declared.additions.Place.{Place}
use Rattle.library_cases.specs.declared.additions.Place.TheVariants.{Before, Behind, End}

-- a custom section of this name and these contents
abbrev pub custom_row : List ℕ → List ℕ → SectionRow
custom_row name contents = section_row 0 (normal (custom_tree name contents))

-- whether the place is before a section of this kind, or at the end
abbrev pub is_before : Place → Option SectionId → Bool
is_before (Before kind) (Some k) = nat_eq (number k) (number kind)
is_before End None = true
is_before _ _ = false

-- whether the place is behind a section of this kind
abbrev pub is_behind : Place → SectionId → Bool
is_behind (Behind kind) k = nat_eq (number k) (number kind)
is_behind _ k = false

-- this section where it is wanted
abbrev pub row_if : Bool → SectionRow → List SectionRow
row_if wanted row = if wanted then row ∷ [] else []

-- what a rule adds before a section: one of this name and these contents, where it is at the place
abbrev pub rows_before : Place → List ℕ → List ℕ → Option SectionId → List SectionRow
rows_before place name contents before = row_if (is_before place before) (custom_row name contents)

-- and behind one
abbrev pub rows_behind : Place → List ℕ → List ℕ → SectionId → List SectionRow
rows_behind place name contents section = row_if (is_behind place section) (custom_row name contents)

-- a rule of the words
pub record Rule : Type 0 where
  pub place : Place
  pub name : List ℕ
  pub contents : List ℕ

-- a renamer around which two rules add sections
pub record Surrounding : Type 0 where
  pub renaming : Renaming
  pub inner : Rule
  pub outer : Rule

-- what a rule adds between two sections, and behind one
abbrev pub rule_before : Rule → Option SectionId → Option SectionId → List SectionRow
rule_before rule after before = rows_before rule.place rule.name rule.contents before

abbrev pub rule_behind : Rule → SectionId → List SectionRow
rule_behind rule section = rows_behind rule.place rule.name rule.contents section

-- the sections of both rules at a visit
abbrev pub rows_of_both : Surrounding → Visit → List SectionRow
rows_of_both s visit = at_section (rule_before s.inner) (rule_behind s.inner) visit ++ at_section (rule_before s.outer) (rule_behind s.outer) visit

pub rows_of_both-keep : KeepsAdds rows_of_both false
rows_of_both-keep =
    both_keep {S = Surrounding} (λ never. absurd (false≢true never))
    (at_section-keeps {S = Surrounding} (λ s. rule_before s.inner) (λ s. rule_behind s.inner))
    (at_section-keeps {S = Surrounding} (λ s. rule_before s.outer) (λ s. rule_behind s.outer))
