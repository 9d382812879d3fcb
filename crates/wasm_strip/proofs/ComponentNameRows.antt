-- The rows of a section of a component's names, one by one.
use Rattle.std.proofs.Common.{◌≡◌, ℕ, List, ◌⊎◌, inl, inr, true, Bool, Bor, refl, sym, ap, subst}
use Rattle.std.specs.Bool.{Decides}
use Rattle.wasm_shapes.specs.Tree.{Tree}
use Rattle.wasm_shapes.specs.Place.{Begins, BeginsNone}
use Rattle.wasm_shapes.specs.Types.{rows_tree}
use Rattle.wasm_shapes.specs.Component.{component_name_subsection}
use Rattle.wasm_shapes.specs.ComponentNames.{component_names_tree, raw_component_names_tree}
use Rattle.wasm_shapes.specs.Module.{plain_naming}
use Rattle.wasm_shapes.specs.Namings.{entries_trees, module_name_tree}
use Rattle.wasm_shapes.specs.declared.Space.{Space}
use Rattle.wasm_shapes.specs.declared.Space.TheVariants as space
use Rattle.wasm_read.specs.Names.{EntriesLeft, MapStanding}
use Rattle.wasm_read.specs.Subsections.{Content, ReadsContentAs, SubsectionRead, subsection_frame, subsection_frame_tree}
use Rattle.wasm_read.proofs.NameMaps.{entries_of}
use Rattle.wasm_read_component.specs.ComponentNames.{HoldsComponentName, component_content}
use Rattle.wasm_read_component.specs.declared.types.ComponentName.{ComponentName}
use Rattle.wasm_read_component.specs.declared.types.ComponentName.TheVariants as name
use Rattle.wasm_read_component.proofs.ComponentSubsections.{reads_subsection, subsection_there}
use Rattle.wasm_strip.specs.Readable.{HasComponentReading, HasEntries}

-- ---- what a subsection holds

content_decides : (n : ComponentName) {r : Bool} (c : Content) → component_content n ≡ c →
    Decides r ((t : Tree) × ReadsContentAs (λ _ p rows. component_names_tree p rows) raw_component_names_tree c t) → Decides r (HasComponentReading n)
content_decides n {r = r} c e d =
    subst (λ (z : Content). Decides r ((t : Tree) × ReadsContentAs (λ _ p rows. component_names_tree p rows) raw_component_names_tree z t)) (sym e) d

direct_decides : (n : ComponentName) {m : MapStanding} {r : Bool} (s : Space) → component_content n ≡ Content.direct 1 s m → Decides r (HasEntries plain_naming m) → Decides r (HasComponentReading n)
direct_decides n {m = m} s e d =
    content_decides n (Content.direct 1 s m) e (
      (λ told.
          let w = d.0 told in
          let es = entries_of w.0 w.1.rows_left.shaped in
          (component_names_tree s (entries_trees es.0), (es.0, subst (λ (z : List Tree). EntriesLeft plain_naming m (rows_tree z)) es.1 w.1, refl))),
      (λ reads. d.1 (entries_trees reads.1.0, reads.1.1)),
    )

module _ {n : ComponentName} {m : MapStanding} {r : Bool} where
  pub direct_readable : (n ≡ name.CoreFuncs m) ⊎ (n ≡ name.CoreTables m) ⊎ (n ≡ name.CoreMemories m) ⊎ (n ≡ name.CoreGlobals m) ⊎ (n ≡ name.CoreTags m) ⊎ (n ≡ name.CoreTypes m) ⊎ (n ≡ name.CoreModules m) ⊎ (n ≡ name.CoreInstances m) ⊎ (n ≡ name.Funcs m) ⊎ (n ≡ name.Values m) ⊎ (n ≡ name.Types m) ⊎ (n ≡ name.Components m) ⊎ (n ≡ name.Instances m) →
      Decides r (HasEntries plain_naming m) → Decides r (HasComponentReading n)
  direct_readable (inl e) = direct_decides n space.Function (ap component_content e)
  direct_readable (inr (inl e)) = direct_decides n space.Table (ap component_content e)
  direct_readable (inr (inr (inl e))) = direct_decides n space.Memory (ap component_content e)
  direct_readable (inr (inr (inr (inl e)))) = direct_decides n space.Global (ap component_content e)
  direct_readable (inr (inr (inr (inr (inl e))))) = direct_decides n space.Tag (ap component_content e)
  direct_readable (inr (inr (inr (inr (inr (inl e)))))) = direct_decides n space.Type_ (ap component_content e)
  direct_readable (inr (inr (inr (inr (inr (inr (inl e))))))) = direct_decides n space.Module (ap component_content e)
  direct_readable (inr (inr (inr (inr (inr (inr (inr (inl e)))))))) = direct_decides n space.Instance (ap component_content e)
  direct_readable (inr (inr (inr (inr (inr (inr (inr (inr (inl e))))))))) = direct_decides n space.ComponentFunc (ap component_content e)
  direct_readable (inr (inr (inr (inr (inr (inr (inr (inr (inr (inl e)))))))))) = direct_decides n space.ComponentValue (ap component_content e)
  direct_readable (inr (inr (inr (inr (inr (inr (inr (inr (inr (inr (inl e))))))))))) = direct_decides n space.ComponentType (ap component_content e)
  direct_readable (inr (inr (inr (inr (inr (inr (inr (inr (inr (inr (inr (inl e)))))))))))) = direct_decides n space.Component (ap component_content e)
  direct_readable (inr (inr (inr (inr (inr (inr (inr (inr (inr (inr (inr (inr e)))))))))))) = direct_decides n space.ComponentInstance (ap component_content e)

-- what is no map is always read
pub plain_readable : {n : ComponentName} → ((text : Bor (List ℕ)) × (n ≡ name.Component text)) ⊎ ((id : ℕ) × (contents : Bor (List ℕ)) × (n ≡ name.Unknown id contents)) →
    Decides true (HasComponentReading n)
plain_readable {n = n} (inl e) = content_decides n (Content.text e.0.now) (ap component_content e.1) (λ told. (module_name_tree e.0.now, refl), λ reads. refl)
plain_readable {n = n} (inr e) = content_decides n (Content.raw e.0 e.1.now) (ap component_content e.2) (λ told. (raw_component_names_tree e.0 e.1.now, refl), λ reads. refl)

-- ---- a subsection in its frame

module _ {bytes rest body : List ℕ} {id : ℕ} (n : ComponentName) (frame : Begins subsection_frame bytes (subsection_frame_tree id body) rest) (holds : HoldsComponentName id body n) where
  read : SubsectionRead HoldsComponentName (record { rest = bytes; len = 0 }) n (record { rest = rest; len = 0 })
  read = record { id = id; body = body; begins = frame; holds = holds; len = refl }

  pub subsection_begins : HasComponentReading n → (t : Tree) × Begins component_name_subsection bytes t rest
  subsection_begins reads = (reads.0, subsection_there read reads.1)

  pub unreadable : ¬ HasComponentReading n → BeginsNone component_name_subsection bytes
  unreadable none =
      record { none = λ text left tree p e. none (tree, (reads_subsection read (record { text = text; spells = p; reads = e })).0) }
