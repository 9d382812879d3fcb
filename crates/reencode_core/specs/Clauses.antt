-- What a method of `Reencode` promises, whole: one record for each kind of method, which the method, its function in `utils` and its
-- body cite. Its fields are the clauses by which other pages name them. `i` are the meanings of the reencoder; `s` is its state and
-- `old` what a sink holds before the call, `m` and `new` are the same after it.
use Rattle.std.specs.Prelude.{◌≡◌, ◌≤◌, ◌<◌, ◌+◌, ◌-◌, ◌^◌, ◌⊎◌, ℕ, Bool, true, false, List, [], length, Result, Ok, Err, IsTrue, IfErr}
use Rattle.wasm_shapes.specs.declared.SectionId.{SectionId}
use Rattle.wasm_shapes.specs.Module.{code_row, unknown_tree_of}
use Rattle.wasm_shapes.specs.Shape.{Shape}
use Rattle.wasm_shapes.specs.Tree.{Tree, visits}
use Rattle.wasm_read.specs.declared.types.Name.{Name}
use Rattle.wasm_read.specs.Names.{NamesStanding}
use Rattle.wasm_read.specs.Reading.{Standing}
use Rattle.wasm_write.specs.Bodies.{Body, CodeRows, GainsBody, IsBody}
use Rattle.wasm_write.specs.Faults.{IfTooLarge}
use Rattle.wasm_write.specs.declared.fault.WriteFault.{WriteFault}
use Rattle.wasm_write.specs.Sections.{Sections}
use Rattle.reencode_hooks.specs.declared.error.Error.{Error}
use Rattle.reencode_hooks.specs.declared.indices.ReencodeIndices.{Ghosts}
use Rattle.reencode_hooks.specs.Errors.{error_of_write}
use Rattle.reencode_hooks.specs.Run.{LeavesVisited, ask}
use Rattle.reencode_core.specs.Bodies.{GivesBody, GivesLocals, KeepsCode}
use Rattle.reencode_core.specs.Core.{GivesBytes, GivesCore}
use Rattle.reencode_core.specs.Errors.{IfParse}
use Rattle.reencode_core.specs.Holds.{HoldsCore, HoldsRows}
use Rattle.reencode_core.specs.Leaves.{LeavesCore, LeavesMade, NoCoreHeading, body_in, core_in, custom_of, locals_in, many_in, module_in, rows_in, section_in, subsection_of}
use Rattle.reencode_core.specs.NameFormats.{CustomFormat, NameFormat, core_custom, core_names}
use Rattle.reencode_core.specs.Names.{GivesCustomOf, GivesNamesOf, GivesSubsectionOf}
use Rattle.reencode_core.specs.Rows.{Asks, GivesRow, GivesRows, KeepsFront}
use Rattle.reencode_core.specs.Sections.{GivesAdded, GivesSection, KeepsModule}
use Rattle.reencode_core.specs.Woven.{GivesWoven, GivesWovenBytes}

-- what a reencoder is asked
abbrev pub asks : {S E : Type 0} → Ghosts S E → Asks S E
asks i = ask i.reply i.next

-- ---- rows

-- The rows that a reader still has are mapped, and each is added to the section once it is mapped.
abbrev pub RowsClauses : {S E : Type 0} → Ghosts S E → Shape → Standing → S → List Tree → S → List Tree → Result (Unit {0}) (Error E) → Type 0
RowsClauses i row reader s old m new result =
    record {
      kept : KeepsFront old new;
      default : IsTrue i.keeps_defaults → (c : ℕ) → GivesRows (asks i) c row reader (s, old) (m, new) result;
      after_error : IsTrue i.keeps_defaults → LeavesMade i.sure (asks i) (rows_in row reader) s m result;
      wants : IsTrue i.keeps_defaults → IsTrue i.sure → (c : ℕ) → HoldsRows (asks i) c row reader (s, old) (m, new) result;
    }

-- A row is mapped and added.
abbrev pub RowClauses : {S E : Type 0} → Ghosts S E → Tree → S → List Tree → S → List Tree → Result (Unit {0}) (Error E) → Type 0
RowClauses i t s old m new result =
    record {
      kept : KeepsFront old new;
      default : IsTrue i.keeps_defaults → (c : ℕ) → GivesRow (asks i) c (s, old) t (m, new) result;
      after_error : IsTrue i.keeps_defaults → IsTrue i.sure → LeavesVisited (asks i) s (visits t) m result;
    }

-- ---- function bodies

-- The bodies that a reader still has are mapped, and each is added to the section once it is mapped.
abbrev pub CodeSectionClauses : {S E : Type 0} → Ghosts S E → Standing → S → CodeRows → S → CodeRows → Result (Unit {0}) (Error E) → Type 0
CodeSectionClauses i reader s old m new result =
    record {
      kept : KeepsCode old new;
      default : IsTrue i.keeps_defaults → GivesRows (asks i) old.ceiling code_row reader (s, old.rows) (m, new.rows) result;
      after_error : IsTrue i.keeps_defaults → LeavesMade i.sure (asks i) (rows_in code_row reader) s m result;
      wants : IsTrue i.keeps_defaults → IsTrue i.sure → HoldsRows (asks i) old.ceiling code_row reader (s, old.rows) (m, new.rows) result;
    }

-- A body is mapped and added.
abbrev pub BodyClauses : {S E : Type 0} → Ghosts S E → List ℕ → S → CodeRows → S → CodeRows → Result (Unit {0}) (Error E) → Type 0
BodyClauses i bytes s old m new result =
    record {
      kept : KeepsCode old new;
      default : IsTrue i.keeps_defaults → GivesBody (asks i) bytes (s, old) (m, new) result;
      after_error : IsTrue i.keeps_defaults → LeavesMade i.sure (asks i) (body_in bytes) s m result;
    }

-- A body is refused by a section: it is longer than the ceiling, or it fits and its row is one too many. Of want of memory nothing is said.
abbrev pub RefusesBody : List ℕ → CodeRows → WriteFault → Type 0
RefusesBody bytes old fault =
    IfTooLarge fault (λ size. ((size ≡ length bytes) × (old.ceiling < size)) ⊎ ((size ≡ length old.rows + 1) × (2 ^ 32 - 1 < size) × (length bytes ≤ old.ceiling)))

-- A body was mapped and stays as it stands: its bytes are the normal spelling of a function, and with that function added to a section, or
-- refused by it, the body is mapped and added.
pub record BodyStays {S E : Type 0} (i : Ghosts S E) (bytes : List ℕ) (s m : S) : Type 0 where
  pub function : Body
  pub normally : IsBody bytes function
  pub added : (old new : CodeRows) → GainsBody old bytes new → length bytes ≤ old.ceiling → BodyClauses i bytes s old m new (Ok tt)
  pub refused : (old : CodeRows) (fault : WriteFault) → RefusesBody bytes old fault → BodyClauses i bytes s old m old (Err (error_of_write fault))

-- A body is mapped; where it stays as it stands, that is the answer, and nothing is added, else what it became is.
abbrev pub BodyMapped : {S E : Type 0} → Ghosts S E → List ℕ → S → CodeRows → S → CodeRows → Result Bool (Error E) → Type 0
BodyMapped i bytes s old m new (Ok true) = (new ≡ old) × BodyStays i bytes s m
BodyMapped i bytes s old m new (Ok false) = BodyClauses i bytes s old m new (Ok tt)
BodyMapped i bytes s old m new (Err e) = BodyClauses i bytes s old m new (Err e)

-- The locals that a body begins with are mapped.
abbrev pub LocalsClauses : {S E : Type 0} → Ghosts S E → List ℕ → S → S → Result Body (Error E) → Type 0
LocalsClauses i bytes s m result =
    record {
      default : IsTrue i.keeps_defaults → GivesLocals (asks i) bytes s m result (λ f. f);
      after_error : IsTrue i.keeps_defaults → LeavesMade i.sure (asks i) (locals_in bytes) s m result;
    }

-- ---- sections

-- The body of a section of a kind is mapped, and the section is added.
abbrev pub SectionClauses : {S E : Type 0} → Ghosts S E → SectionId → List ℕ → S → Sections → S → Sections → Result (Unit {0}) (Error E) → Type 0
SectionClauses i kind body s old m new result =
    record {
      kept : KeepsModule old new;
      default : IsTrue i.keeps_defaults → GivesSection (asks i) kind body (s, old) (m, new) result;
      after_error : IsTrue i.keeps_defaults → LeavesMade i.sure (asks i) (section_in kind body) s m result;
    }

-- A custom section of a format is mapped and added.
abbrev pub CustomClausesOf : {N S E : Type 0} → CustomFormat N → Ghosts S E → List ℕ → List ℕ → S → Sections → S → Sections → Result (Unit {0}) (Error E) → Type 0
CustomClausesOf form i name contents s old m new result =
    record {
      kept : KeepsModule old new;
      default : IsTrue i.keeps_defaults → GivesCustomOf form (asks i) name contents (s, old) (m, new) result;
      after_error : IsTrue i.keeps_defaults → LeavesMade i.sure (asks i) (custom_of form name contents) s m result;
    }

abbrev pub CustomClauses : {S E : Type 0} → Ghosts S E → List ℕ → List ℕ → S → Sections → S → Sections → Result (Unit {0}) (Error E) → Type 0
CustomClauses i name contents s old m new result = CustomClausesOf core_custom i name contents s old m new result

-- A section of an id that no kind has is added by its bytes.
abbrev pub UnknownClauses : {S E : Type 0} → Ghosts S E → ℕ → List ℕ → S → Sections → S → Sections → Result (Unit {0}) (Error E) → Type 0
UnknownClauses i id contents s old m new result =
    record {
      kept : KeepsModule old new;
      default : IsTrue i.keeps_defaults → GivesAdded (asks i) id (s, old) (unknown_tree_of id contents) (m, new) result;
      after_error : IsTrue i.keeps_defaults → IsTrue i.sure → LeavesVisited (asks i) s [] m result;
      usual : IsTrue i.keeps_defaults → IfErr result (λ e. IfParse e (λ _. ⊥));
    }

-- The subsections of a format that a reader still has are mapped, and are the answer.
abbrev pub NamesClausesOf : {N S E : Type 0} → NameFormat N → Ghosts S E → ℕ → NamesStanding → S → S → Result CodeRows (Error E) → Type 0
NamesClausesOf f i c reader s m result =
    record {
      default : IsTrue i.keeps_defaults → GivesNamesOf f (asks i) c reader s m result (λ names. names);
      after_error : IsTrue i.keeps_defaults → LeavesMade i.sure (asks i) (many_in f.row reader) s m result;
    }

abbrev pub NamesClauses : {S E : Type 0} → Ghosts S E → ℕ → NamesStanding → S → S → Result CodeRows (Error E) → Type 0
NamesClauses i c reader s m result = NamesClausesOf core_names i c reader s m result

-- A subsection of a format is mapped and added.
abbrev pub SubsectionClausesOf : {N S E : Type 0} → NameFormat N → Ghosts S E → N → S → CodeRows → S → CodeRows → Result (Unit {0}) (Error E) → Type 0
SubsectionClausesOf f i n s old m new result =
    record {
      kept : KeepsCode old new;
      default : IsTrue i.keeps_defaults → GivesSubsectionOf f (asks i) n (s, old) (m, new) result;
      after_error : IsTrue i.keeps_defaults → LeavesMade i.sure (asks i) (subsection_of f n) s m result;
      unchanged : IsTrue i.keeps_defaults → IfErr result (λ _. new ≡ old);
    }

abbrev pub SubsectionClauses : {S E : Type 0} → Ghosts S E → Name → S → CodeRows → S → CodeRows → Result (Unit {0}) (Error E) → Type 0
SubsectionClauses i n s old m new result = SubsectionClausesOf core_names i n s old m new result

-- ---- modules

-- A module is read, and what its sections become is added.
abbrev pub ModuleClauses : {S E : Type 0} → Ghosts S E → List ℕ → S → Sections → S → Sections → Result (Unit {0}) (Error E) → Type 0
ModuleClauses i bytes s old m new result =
    record {
      kept : KeepsModule old new;
      default : IsTrue i.keeps_defaults → IsTrue i.adds_nothing → GivesCore (asks i) bytes (s, old) (m, new) result;
      woven : IsTrue i.keeps_defaults → GivesWoven (asks i) i.adds bytes (s, old) (m, new) result;
      after_error : IsTrue i.keeps_defaults → LeavesCore i.sure i.adds_nothing (asks i) (module_in bytes) s m result;
      headless : IsTrue i.keeps_defaults → NoCoreHeading bytes → m ≡ s;
      wants : IsTrue i.keeps_defaults → IsTrue i.sure → HoldsCore (asks i) i.adds bytes (s, old) (m, new) result;
    }

-- The same of a call that doesn't say by what rows it wants no memory.
abbrev pub CoreClauses : {S E : Type 0} → Ghosts S E → List ℕ → S → Sections → S → Sections → Result (Unit {0}) (Error E) → Type 0
CoreClauses i bytes s old m new result =
    record {
      kept : KeepsModule old new;
      default : IsTrue i.keeps_defaults → IsTrue i.adds_nothing → GivesCore (asks i) bytes (s, old) (m, new) result;
      woven : IsTrue i.keeps_defaults → GivesWoven (asks i) i.adds bytes (s, old) (m, new) result;
      after_error : IsTrue i.keeps_defaults → LeavesCore i.sure i.adds_nothing (asks i) (module_in bytes) s m result;
      headless : IsTrue i.keeps_defaults → NoCoreHeading bytes → m ≡ s;
    }

-- A module is read, and the bytes of the new one are in the answer, by a view of it.
abbrev pub BytesClauses : {S E A : Type 0} → Ghosts S E → ℕ → List ℕ → S → S → Result A (Error E) → (A → List ℕ) → Type 0
BytesClauses i ceiling bytes s m result view =
    record {
      default : IsTrue i.keeps_defaults → IsTrue i.adds_nothing → GivesBytes (asks i) ceiling bytes s m result view;
      woven : IsTrue i.keeps_defaults → GivesWovenBytes (asks i) i.adds ceiling bytes s m result view;
      after_error : IsTrue i.keeps_defaults → LeavesCore i.sure i.adds_nothing (asks i) (core_in bytes) s m result;
      headless : IsTrue i.keeps_defaults → NoCoreHeading bytes → m ≡ s;
    }
