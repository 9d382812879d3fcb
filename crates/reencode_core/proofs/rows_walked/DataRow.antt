-- A data segment, as a row that one call maps.
use Rattle.std.proofs.Common.{◌≡◌, ℕ, ◌+◌, ◌-◌, ◌^◌, ◌<◌, List, [], ◌∷◌, ◌++◌, ◌⊎◌, Contains, Err, Ok, refl, sym, inl, inr, arith}
use Rattle.std.proofs.lemmas.List.Elements.{Contains-append_left, Contains-append_right}
use Rattle.wasm_shapes.specs.declared.Space.TheVariants as space
use Rattle.wasm_shapes.specs.declared.Visit.TheVariants.{Index}
use Rattle.wasm_shapes.specs.Tree.{Tree, visits}
use Rattle.wasm_shapes.specs.Types.{active_data_of, expression_of, passive_data_tree}
use Rattle.wasm_write.specs.declared.fault.WriteFault.{WriteFault}
use Rattle.wasm_write.specs.declared.fault.WriteFault.TheVariants as fault
use Rattle.wasm_write.specs.Counts.{IsTooLarge}
use Rattle.wasm_write.specs.Faults.{IfTooLarge}
use Rattle.reencode_hooks.specs.declared.error.Error.{Error}
use Rattle.reencode_hooks.specs.declared.indices.ReencodeIndices.{Ghosts}
use Rattle.reencode_hooks.specs.Hooks.{Replies}
use Rattle.reencode_hooks.specs.Run.{Visited, accepted, run}
use Rattle.reencode_hooks.proofs.Walks.{visited_then}
use Rattle.reencode_items.proofs.Leaving.{first_visited}
use Rattle.reencode_core.specs.Clauses.{asks}
use Rattle.reencode_core.proofs.rows_walked.OneRow.{MapsIf}

-- what a segment becomes, as it is
abbrev pub as_it_is : Tree → Tree
as_it_is t = t

-- the memory is refused
pub memory_refused : {S E : Type 0} (i : Ghosts S E) (memory : ℕ) (offset : Tree) (bytes : List ℕ) (s m : S) (e : Error E) → Replies i.reply i.next s m (Index space.Memory memory) (Err e) →
    MapsIf i s (active_data_of memory offset bytes) as_it_is m (Err e)
memory_refused i memory offset bytes s m e h = λ k c other. rw (h other) refl

-- the memory is answered
module _ {S E : Type 0} (i : Ghosts S E) (memory : ℕ) (offset : Tree) (bytes : List ℕ) (s m n : S) (j : ℕ)
    (h : Replies i.reply i.next s m (Index space.Memory memory) (Ok j)) where
  -- the offset was asked in part
  pub offset_visited : Visited (asks i) m (visits offset) n → Visited (asks i) s (visits (active_data_of memory offset bytes)) n
  offset_visited v =
      let ran : run (asks i) s (Index space.Memory memory ∷ []) ≡ accepted (j ∷ []) m = rw h refl in
      visited_then (asks i) (Index space.Memory memory ∷ []) ran (first_visited [] v)

  -- the offset is refused
  pub offset_refused : (e : Error E) → MapsIf i m offset expression_of n (Err e) → MapsIf i s (active_data_of memory offset bytes) as_it_is n (Err e)
  offset_refused e maps = λ k c other. rw (h, maps k c other) refl

  -- it is answered too
  pub segment_mapped : (made : List Tree) → MapsIf i m offset expression_of n (Ok made) →
      MapsIf i s (active_data_of memory offset bytes) as_it_is n (Ok (active_data_of j (expression_of made) bytes))
  segment_mapped made maps = λ k c. rw (h, maps k c) refl

-- a passive segment stays as it is, and nothing is asked
pub passive_mapped : {S E : Type 0} (i : Ghosts S E) (bytes : List ℕ) (s : S) → MapsIf i s (passive_data_tree bytes) as_it_is s (Ok (passive_data_tree bytes))
passive_mapped i bytes s = λ k c. refl

-- the bytes of a segment are too many, or the rows
pub data_large : (others : List ℕ) (len n : ℕ) (w : WriteFault) → IfTooLarge w (λ size. ((size ≡ len) ⊎ (size ≡ n + 1)) × (2 ^ 32 - 1 < size)) →
    IfTooLarge w (IsTooLarge ((others ++ len ∷ []) ++ (n + 1) ∷ []))
data_large others len n fault.NoMemory q = tt
data_large others len n (fault.TooLarge size) q = record { counted = among q.0; large = q.1 }
  where
    among : (size ≡ len) ⊎ (size ≡ n + 1) → Contains ((others ++ len ∷ []) ++ (n + 1) ∷ []) size
    among (inl e) = Contains-append_left (others ++ len ∷ []) ((n + 1) ∷ []) size (Contains-append_right others (len ∷ []) size (0, omega arith, sym e))
    among (inr e) = Contains-append_right (others ++ len ∷ []) ((n + 1) ∷ []) size (0, omega arith, sym e)
