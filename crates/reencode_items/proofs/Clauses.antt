-- What a call promises whole, by what the call promised that ended it.
use Rattle.std.proofs.Common.{◌≡◌, ◌≢◌, ◌<◌, ℕ, List, Result, Err, length, get_or, refl}
use Rattle.std.specs.Prelude.{IsErrAnd, IsTrue, map}
use Rattle.wasm_shapes.specs.Tree.{Tree, visits}
use Rattle.wasm_shapes.specs.Types.{vector_tree}
use Rattle.wasm_read.specs.Immediates.{Imm}
use Rattle.wasm_read.specs.Immediates as read
use Rattle.wasm_write.specs.Instructions.{Imm as WrittenImm}
use Rattle.reencode_hooks.specs.declared.error.Error.{Error}
use Rattle.reencode_hooks.specs.declared.error.Error.TheVariants.{NoMemory}
use Rattle.reencode_hooks.specs.declared.indices.ReencodeIndices.{Ghosts}
use Rattle.reencode_hooks.specs.Run.{NeverWants, Visited, accepted, ask, refused}
use Rattle.reencode_hooks.specs.Walk.{walk}
use Rattle.reencode_hooks.proofs.Leaving.{handed, never_wants, refused_visited}
use Rattle.reencode_items.specs.Clauses.{ImmediateClauses}
use Rattle.reencode_items.proofs.Loops.{ItemsDone, items_refuse}

-- an item was refused: its clauses, of which an error leaves no view
abbrev pub Stops : {S E : Type 0} → Type 0 → Ghosts S E → Tree → S → S → Error E → Type 0
Stops B i t s m e =
    record {
      default : IsTrue i.keeps_defaults → (c : ℕ) → e ≢ NoMemory → walk (ask i.reply i.next) c s t ≡ refused e m;
      sure : IsTrue i.keeps_defaults → NeverWants {A = B} i.sure (Err e);
    }

module _ {S E : Type 0} {B : Type 0} (i : Ghosts S E) (t : Tree) (s : S) {m : S} {e : Error E} (gone : Stops B i t s m e) where
  -- what it leaves
  pub item_left : IsTrue i.keeps_defaults → IsTrue i.sure → Visited (ask i.reply i.next) s (visits t) m
  item_left k sure = refused_visited 0 t (gone.default k 0 (never_wants _ (gone.sure k) sure))

  -- it is all of an immediate
  pub immediate_stopped : (x : Imm) → read.imm_tree x ≡ t → (r : Result WrittenImm (Error E)) → IsErrAnd r (λ y. y ≡ e) → ImmediateClauses i x s m r
  immediate_stopped x same r h = rw (handed r h) (record {
    kind = tt;
    default = λ k c other. rw same (gone.default k c other);
    after_error = λ k sure. rw same (item_left k sure);
  })

  -- it is the first of two parts, or the second
  pub first_stops : (u : Tree) → Stops B i (Tree.pair t u) s m e
  first_stops u = record { default = λ k c other. rw (gone.default k c other) refl; sure = gone.sure }

  pub second_stops : (u v : Tree) (s0 : S) → (IsTrue i.keeps_defaults → (c : ℕ) → walk (ask i.reply i.next) c s0 u ≡ accepted v s) → Stops B i (Tree.pair u t) s0 m e
  second_stops u v s0 walked = record { default = λ k c other. rw (walked k c) (rw (gone.default k c other) refl); sure = gone.sure }

-- the item at a place was refused, and with it the items behind their number
pub item_stops : {S E A B : Type 0} (i : Ghosts S E) {read : A → Tree} {write : B → Tree} {s0 s m : S} {items slice : List A} {place : ℕ} {made : List B} {e : Error E} (d : A) →
    ItemsDone (ask i.reply i.next) i.keeps_defaults read write s0 items place s made → slice ≡ items → place < length slice → Stops B i (read (get_or slice place d)) s m e →
    Stops B i (vector_tree (map read items)) s0 m e
item_stops i d done same here gone = record { default = λ k c other. items_refuse d c done same here k (gone.default k c other); sure = gone.sure }
