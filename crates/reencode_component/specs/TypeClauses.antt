-- What a call that maps what a scope declares promises, whole: one record for each kind of call. `i` are the meanings of the
-- reencoder, `s` is its state before the call, and `m` the one after it.
use Rattle.std.specs.Prelude.{◌≡◌, ℕ, Bool, List, [], Result, IfOk, IfErr, IsTrue}
use Rattle.wasm_shapes.specs.declared.Visit.TheVariants.{Push}
use Rattle.wasm_shapes.specs.Tree.{Tree}
use Rattle.wasm_shapes.specs.Types.{led}
use Rattle.wasm_shapes.specs.Shape.{Shape}
use Rattle.wasm_shapes.specs.Component.{module_declaration}
use Rattle.wasm_types.specs.ComponentTrees.{core_group_tree}
use Rattle.wasm_read.specs.Reading.{Standing}
use Rattle.wasm_read.specs.Types.{group_tree}
use Rattle.wasm_read_component.specs.declared.declarations.CoreType as read
use Rattle.wasm_read_component.specs.declared.declarations.CoreType.TheVariants as core
use Rattle.wasm_write_component.specs.declared.declarations.CoreType as made
use Rattle.wasm_write_component.specs.TypeRows.{core_type_tree}
use Rattle.reencode_hooks.specs.declared.error.Error.{Error}
use Rattle.reencode_hooks.specs.declared.error.Error.TheVariants.{NoMemory}
use Rattle.reencode_hooks.specs.declared.indices.ReencodeIndices.{Ghosts}
use Rattle.reencode_hooks.specs.Run.{accepted}
use Rattle.reencode_items.specs.Clauses.{ListClauses}
use Rattle.reencode_items.specs.Maps.{Maps}
use Rattle.reencode_core.specs.Clauses.{asks}
use Rattle.reencode_core.specs.Errors.{IfParse, IfRefused}
use Rattle.reencode_core.specs.Leaves.{Leaves, Text, rows_in}
use Rattle.reencode_core.specs.Rows.{Asks, RowsFault, StopsAtRow}

-- ---- a scope

-- A scope was opened, and the fact holds from the state then on.
pub record Opened {S E : Type 0} (asked : Asks S E) (s : S) (says : S → Type 0) : Type 0 where
  pub at : S
  pub push : asked s Push ≡ accepted 0 at
  pub inside : says at

-- What an error leaves of what was to be read in a scope: the scope was opened, and behind `Push` these visits were made. Of `NoMemory`
-- nothing is said unless the reencoder is sure.
abbrev pub LeavesOpen : {S E A : Type 0} → Bool → Asks S E → Text → S → S → Result A (Error E) → Type 0
LeavesOpen sure asked text s m result = IfErr result (λ e. (e ≡ NoMemory → IsTrue sure) → Opened asked s (λ n. Leaves asked text n e m))

-- A scope is opened, what is to be read in it is mapped, and it is closed; `within` says where the scope stands. Where the bytes hold no
-- such rows the scope was opened, and the error holds the place in them, of which `faulty` holds; and where a row is refused, `stops`.
abbrev pub ScopeBy : {S E A : Type 0} → Ghosts S E → Text → (faulty : ℕ → S → List Tree → ℕ → Type 0) → (stops : ℕ → S → List Tree → Error E → Type 0)
    → (Tree → Tree) → (A → Tree) → S → S → Result A (Error E) → Type 0
ScopeBy i text faulty stops within view s m result =
    record {
      default : IsTrue i.keeps_defaults → (rows : Tree) → text.reads rows → Maps i.reply i.next s (within (Tree.scope (Tree.vec rows))) view m result;
      readable : IsTrue i.keeps_defaults → IfOk result (λ _. (rows : Tree) × text.reads rows);
      unreadable : IsTrue i.keeps_defaults → (c : ℕ) → IfErr result (λ e. IfParse e (λ at. Opened (asks i) s (λ n. (made : List Tree) × faulty c n made at)));
      refusal : IsTrue i.keeps_defaults → (c : ℕ) → IfErr result (λ e. IfRefused e (Opened (asks i) s (λ n. (made : List Tree) × stops c n made e)));
      after_error : IsTrue i.keeps_defaults → LeavesOpen i.sure (asks i) text s m result;
    }

-- the same of the rows that a reader still has
abbrev pub ScopeClauses : {S E A : Type 0} → Ghosts S E → Shape → Standing → (Tree → Tree) → (A → Tree) → S → S → Result A (Error E) → Type 0
ScopeClauses i row reader within view s m result =
    ScopeBy i (rows_in row reader) (λ c n made at. RowsFault (asks i) c row reader (n, []) (m, made) at)
    (λ c n made e. StopsAtRow (asks i) c row reader (n, []) e (m, made)) within view s m result

-- ---- core types

-- a core type: types of a core module, or what a module type declares; `within` says where it stands
abbrev pub CoreTypeWithin : {S E A : Type 0} → Ghosts S E → (Tree → Tree) → (A → Tree) → read.CoreType → S → S → Result A (Error E) → Type 0
CoreTypeWithin i within view (core.Rec group) s m result = ListClauses i (within (core_group_tree (group_tree group))) view s m result
CoreTypeWithin i within view (core.Module reader) s m result = ScopeClauses i module_declaration reader (λ t. within (Tree.row 0 (led 0x50 t))) view s m result

abbrev pub CoreTypeClauses : {S E : Type 0} → Ghosts S E → read.CoreType → S → S → Result made.CoreType (Error E) → Type 0
CoreTypeClauses i ty s m result = CoreTypeWithin i (λ t. t) core_type_tree ty s m result
