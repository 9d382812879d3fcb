-- What the calls that map a nested core module or component promise, whole: one record for each; and the one that maps a payload, which
-- may be such. `i` are the meanings of the reencoder; `s` is its state and `old` what the component round it holds before the call, `m`
-- and `new` are the same after it.
use Rattle.std.specs.Prelude.{◌≡◌, ◌⊎◌, ◌+◌, ◌<◌, ℕ, List, Result, Err, IfErr, IsTrue}
use Rattle.wasm_shapes.specs.declared.Visit.{Visit}
use Rattle.wasm_shapes.specs.Module.{numbered_frame}
use Rattle.wasm_shapes.specs.Tree.{Tree}
use Rattle.wasm_read_component.specs.declared.types.ComponentPayload.{ComponentPayload}
use Rattle.wasm_read_component.specs.declared.types.ComponentPayload.TheVariants as payload
use Rattle.wasm_read_component.specs.ComponentPayloads.{component_frame_tree, component_payload_at}
use Rattle.wasm_write.specs.Sections.{Sections}
use Rattle.reencode_hooks.specs.declared.error.Error.{Error}
use Rattle.reencode_hooks.specs.declared.error.Error.TheVariants.{UnexpectedNonComponentSection, ParseError, NoMemory}
use Rattle.reencode_hooks.specs.declared.indices.ReencodeIndices.{Ghosts}
use Rattle.reencode_hooks.specs.Run.{refused}
use Rattle.reencode_core.specs.Clauses.{CustomClausesOf, asks}
use Rattle.reencode_core.specs.Leaves.{IsSize, NoCoreHeading, Text, module_in}
use Rattle.reencode_core.specs.Rows.{Asks}
use Rattle.reencode_core.specs.Weave.{added}
use Rattle.reencode_core.specs.Woven.{IsWovenCause}
use Rattle.reencode_component.specs.Causes.{ComponentCause}
use Rattle.reencode_component.specs.ComponentClauses.{FrameClauses, placed_in}
use Rattle.reencode_component.specs.ComponentLeaves.{ComponentMade, IfLeaves, LeavesScopes, NoComponentHeading, component_in}
use Rattle.reencode_component.specs.ComponentNames.{component_custom}
use Rattle.reencode_component.specs.Components.{ReadsSection}
use Rattle.reencode_component.specs.TypeClauses.{Opened}
use Rattle.reencode_component.specs.WeaveIn.{weave_in}

-- What stands in the frame of a nested section: its bytes, how they are read and where they are at fault; what is known, by the error, of the
-- visits that were made of them where they have no reading; why an error of them comes under a ceiling, from the state behind the push to
-- the one after the error; and that their header is missing.
pub record Inner (S E : Type 0) : Type 1 where
  pub text : Text
  pub scopes : Error E → List Visit → Type 0
  pub cause : ℕ → S → S → Error E → Type 0
  pub headless : Type 0

-- a core module
abbrev pub inner_module : {S E : Type 0} → Ghosts S E → List ℕ → Inner S E
inner_module i bytes = record { text = module_in bytes; scopes = λ e made. Unit {0}; cause = λ c s m e. IsWovenCause (asks i) i.adds c bytes s m e; headless = NoCoreHeading bytes }

-- a component, with so many scopes open round its sections
abbrev pub inner_component : {S E : Type 0} → Ghosts S E → ℕ → List ℕ → Inner S E
inner_component i depth bytes =
    record { text = component_in depth bytes; scopes = ComponentMade depth bytes; cause = λ c s m e. ComponentCause (asks i) i.adds c depth bytes s m e; headless = NoComponentHeading bytes }

-- Why an error of a nested section in its frame comes: memory ran out; or the new section is longer than the ceiling, so that there is a
-- reading, whose walk ends there; or its scope was opened, and from the state behind the push this tells why.
abbrev pub CauseInside : {S E : Type 0} → Ghosts S E → ℕ → Tree → (S → S → Error E → Type 0) → ℕ → S → S → Error E → Type 0
CauseInside i depth f cause c s m e =
    (e ≡ NoMemory)
    ⊎ (IsSize e × (t : Tree) × ReadsSection depth f t × (weave_in (asks i) (added i.adds) c s t ≡ refused e m))
    ⊎ Opened (asks i) s (λ n. cause n m e)

-- What an error leaves of a nested section: memory ran out before anything was asked; or its scope was opened, and behind the push
-- visits of its text were made, and none where its header is missing.
abbrev pub LeavesInside : {S E : Type 0} → Asks S E → Inner S E → S → Error E → S → Type 0
LeavesInside asked inner s e m = ((e ≡ NoMemory) × (m ≡ s)) ⊎ Opened asked s (λ n. LeavesScopes asked inner.text inner.scopes n e m × (inner.headless → m ≡ n))

-- A nested section, whose frame has this id and holds this, is mapped and added, wherever it stands: a place in its error is then that
-- one, as of any section. By itself its error has the cause that its bytes give, also where they have no reading; and where they have
-- none, `inside` says what it leaves. With any error the component round it holds what it held. With 200 scopes open round it, it is not
-- read.
abbrev pub NestedClauses : {S E : Type 0} → Ghosts S E → ℕ → ℕ → Inner S E → S → Sections → S → Sections → Result (Unit {0}) (Error E) → Type 0
NestedClauses i depth id inner s old m new result =
    record {
      framed : (at : ℕ) → FrameClauses i depth (numbered_frame id inner.text.bytes) at s old m new (placed_in result at);
      unchanged : IfErr result (λ _. new ≡ old);
      cause : IsTrue i.keeps_defaults → depth < 200 → IfErr result (CauseInside i depth (numbered_frame id inner.text.bytes) (inner.cause old.ceiling) old.ceiling s m);
      inside : IsTrue i.keeps_defaults → depth < 200 → ((t : Tree) → ReadsSection depth (numbered_frame id inner.text.bytes) t → ⊥) →
          IfLeaves i.sure i.adds_nothing (λ e. LeavesInside (asks i) inner s e m) result;
      deep : depth ≡ 200 → (result ≡ Err (ParseError (record { at = 0 }))) × (m ≡ s) × (new ≡ old);
    }

-- a core module
abbrev pub SubmoduleClauses : {S E : Type 0} → Ghosts S E → ℕ → List ℕ → S → Sections → S → Sections → Result (Unit {0}) (Error E) → Type 0
SubmoduleClauses i depth bytes s old m new result = NestedClauses i depth 1 (inner_module i bytes) s old m new result

-- a component
abbrev pub SubcomponentClauses : {S E : Type 0} → Ghosts S E → ℕ → List ℕ → S → Sections → S → Sections → Result (Unit {0}) (Error E) → Type 0
SubcomponentClauses i depth bytes s old m new result = NestedClauses i depth 4 (inner_component i (depth + 1) bytes) s old m new result

-- ---- a payload

-- The call for such a section answered this, of which its clauses hold; a place in its error is now this one.
pub record AnswersAt {E : Type 0} (clauses : Result (Unit {0}) (Error E) → Type 0) (at : ℕ) (result : Result (Unit {0}) (Error E)) : Type 0 where
  pub mapped : Result (Unit {0}) (Error E)
  pub call : clauses mapped
  pub placed : result ≡ placed_in mapped at

-- A section in its frame, at its place, is mapped and added: a nested one, and a custom one, by the call for it. One of a core module is
-- refused, and nothing is asked.
abbrev pub PayloadClauses : {S E : Type 0} → Ghosts S E → ℕ → ComponentPayload → S → Sections → S → Sections → Result (Unit {0}) (Error E) → Type 0
PayloadClauses i depth (payload.Core id) s old m new result = (result ≡ Err UnexpectedNonComponentSection) × (m ≡ s) × (new ≡ old)
PayloadClauses i depth (payload.Module at bytes) s old m new result = AnswersAt (SubmoduleClauses i depth bytes.now s old m new) at result
PayloadClauses i depth (payload.Component at bytes) s old m new result = AnswersAt (SubcomponentClauses i depth bytes.now s old m new) at result
PayloadClauses i depth (payload.Custom at section) s old m new result =
    AnswersAt (CustomClausesOf component_custom i section.name.now section.contents.now s old m new) at result
PayloadClauses i depth p s old m new result = FrameClauses i depth (component_frame_tree p) (component_payload_at p) s old m new result
