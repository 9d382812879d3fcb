-- The walk of a nested section, step by step.
use Rattle.std.proofs.Common.{◌≡◌, ◌<◌, ◌≤◌, ℕ, List, [], ◌∷◌, ◌++◌, length, refl}
use Rattle.wasm_shapes.specs.declared.Visit.TheVariants.{Push, Pop}
use Rattle.wasm_shapes.specs.Component.{component_section_tree}
use Rattle.wasm_shapes.specs.Module.{CoreReading, core_tree, headed_tree, sections}
use Rattle.wasm_shapes.specs.Spells.{Is}
use Rattle.wasm_shapes.specs.Tree.{Tree, normal}
use Rattle.reencode_hooks.specs.declared.error.Error.{Error}
use Rattle.reencode_hooks.specs.declared.error.Error.TheVariants.{TooLarge}
use Rattle.reencode_hooks.specs.Run.{accepted, refused}
use Rattle.reencode_core.specs.Rows.{Asks}
use Rattle.reencode_core.specs.Weave.{Puts, weave}
use Rattle.reencode_core.proofs.sections_walked.KnownKind.{closed_fits, closed_large}
use Rattle.reencode_component.specs.WeaveIn.{weave_in}

-- a nested section, by what stands in its scope
abbrev pub nested_tree : ℕ → Tree → Tree
nested_tree id t = component_section_tree id (Tree.scope t)

-- ---- steps

module _ {S E : Type 0} (asked : Asks S E) (put : Puts S Tree) where
  pub walk_stopped : (c : ℕ) (s p m : S) (e : Error E) (id : ℕ) (t : Tree) → asked s Push ≡ accepted 0 p → weave_in asked put c p t ≡ refused e m → weave_in asked put c s (nested_tree id t) ≡ refused e m
  walk_stopped c s p m e id t h w = rw (h, w) refl

  pub walk_fits : (c : ℕ) (s p m n : S) (id : ℕ) (t u : Tree) → asked s Push ≡ accepted 0 p → weave_in asked put c p t ≡ accepted u m → asked m Pop ≡ accepted 0 n → length (normal u) ≤ c →
      weave_in asked put c s (nested_tree id t) ≡ accepted (nested_tree id u) n
  walk_fits c s p m n id t u h w q l = rw (h, w, q, closed_fits {E = E} c (Tree.scope u) n l) refl

  pub walk_large : (c : ℕ) (s p m n : S) (id : ℕ) (t u : Tree) → asked s Push ≡ accepted 0 p → weave_in asked put c p t ≡ accepted u m → asked m Pop ≡ accepted 0 n → c < length (normal u) →
      weave_in asked put c s (nested_tree id t) ≡ refused (TooLarge (length (normal u))) n
  walk_large c s p m n id t u h w q l = rw (h, w, q, closed_large {E = E} c (Tree.scope u) n l) refl

  -- ---- a header, and a module behind its own

  pub headed_accepted : (h : List ℕ) (c : ℕ) (s m : S) (t u : Tree) → weave_in asked put c s t ≡ accepted u m → weave_in asked put c s (headed_tree h t) ≡ accepted (headed_tree h u) m
  headed_accepted [] c s m t u w = w
  headed_accepted (b ∷ h) c s m t u w = rw (headed_accepted h c s m t u w) refl

  pub headed_refused : (h : List ℕ) (c : ℕ) (s m : S) (e : Error E) (t : Tree) → weave_in asked put c s t ≡ refused e m → weave_in asked put c s (headed_tree h t) ≡ refused e m
  headed_refused [] c s m e t w = w
  headed_refused (b ∷ h) c s m e t w = rw (headed_refused h c s m e t w) refl

  sections_same : (c : ℕ) (s : S) (t : Tree) → Is sections t → weave_in asked put c s t ≡ weave asked put c s t
  sections_same c s t Is.finish = refl
  sections_same c s t (Is.also d d') = refl

  -- a module is woven as the core weaves it
  pub core_same : (c : ℕ) (s : S) {body : List ℕ} (t : Tree) → CoreReading body t → weave_in asked put c s (core_tree t) ≡ weave asked put c s (core_tree t)
  core_same c s t r = rw (sections_same c s t r.spells.shaped) refl
