-- What sections make of a core module that are added by the kinds of sections alone, as those of a rule are.
use Rattle.std.specs.Prelude.{◌≡◌, ℕ, List, map, Option, None}
use Rattle.wasm_shapes.specs.declared.SectionId.{SectionId}
use Rattle.wasm_shapes.specs.declared.Visit.{Visit}
use Rattle.wasm_shapes.specs.declared.Visit.TheVariants.{Section}
use Rattle.wasm_shapes.specs.Tree.{Tree, kind, normal}
use Rattle.wasm_shapes.specs.Spells.{Spells}
use Rattle.wasm_shapes.specs.Fits.{Fits}
use Rattle.wasm_shapes.specs.Module.{alsos, core_module}
use Rattle.wasm_write.specs.Sections.{SectionRow, framed_tree}
use Rattle.reencode_hooks.specs.declared.error.Error.{Error}
use Rattle.reencode_hooks.specs.declared.error.Error.TheVariants.{NoMemory}
use Rattle.reencode_hooks.specs.Hooks.{HasTooLarge, MayAdd}
use Rattle.reencode_core.specs.Weave.{put_before, put_behind}

-- The sections with these before and behind each that the hooks are told of, and at the end. The kind is that of the last such section
-- so far.
abbrev pub interspersed_from : (Visit → List Tree) → Option SectionId → Tree → Tree
interspersed_from put last (Tree.pair t u) = Tree.pair (interspersed_from put None t) (interspersed_from put None u)
interspersed_from put last Tree.finish = alsos (put (Section last None)) Tree.finish
interspersed_from put last (Tree.also t u) =
    alsos (put_before (λ (_ : Unit {0}). put) tt last t) (Tree.also t (alsos (put_behind (λ (_ : Unit {0}). put) tt t) (interspersed_from put (kind last t) u)))
interspersed_from put last t = t

-- a module, and the sections that are added at its visits between its own
abbrev pub interspersed : (Visit → List SectionRow) → Tree → Tree
interspersed sections t = interspersed_from (λ v. map framed_tree (sections v)) None t

-- The bytes are a core module, and the output is its normal spelling, with these sections between its own.
pub record IsInterspersed (sections : Visit → List SectionRow) (bytes output : List ℕ) : Type 0 where
  pub tree : Tree
  pub reading : Spells core_module bytes tree
  pub spelled : output ≡ normal (interspersed sections tree)

-- Where the bytes are a core module, no frame of its normal spelling and no section between its own is above the ceiling, memory
-- is the one thing that may run out.
abbrev pub IsMadeBetween : {E : Type 0} → (Visit → List SectionRow) → ℕ → List ℕ → Error E → Type 0
IsMadeBetween sections ceiling bytes e =
    (tree : Tree) → Spells core_module bytes tree → Fits tree ceiling
    → ((v : Visit) → MayAdd v → (size : ℕ) → ¬ HasTooLarge ceiling (sections v) size) → e ≡ NoMemory
