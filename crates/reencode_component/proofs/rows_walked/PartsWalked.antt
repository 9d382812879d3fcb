-- Items of several parts, which are mapped one behind another.
use Rattle.std.proofs.Common.{◌≡◌, ◌≢◌, ℕ, Result, Ok, Err, IsErrAnd, IsTrue, refl}
use Rattle.wasm_shapes.specs.declared.Space.{Space}
use Rattle.wasm_shapes.specs.declared.Visit.TheVariants.{Index}
use Rattle.wasm_shapes.specs.Tree.{Tree, visits}
use Rattle.wasm_shapes.specs.Types.{led}
use Rattle.reencode_hooks.specs.declared.error.Error.{Error}
use Rattle.reencode_hooks.specs.declared.error.Error.TheVariants.{NoMemory}
use Rattle.reencode_hooks.specs.declared.indices.ReencodeIndices.{Ghosts}
use Rattle.reencode_hooks.specs.Hooks.{Replies}
use Rattle.reencode_hooks.specs.Run.{NeverWants, Visited, accepted, ask, refused}
use Rattle.reencode_hooks.specs.Walk.{walk}
use Rattle.reencode_hooks.proofs.Leaving.{first_visited, handed, hook_visited, second_visited, sure_visited}
use Rattle.reencode_items.specs.Clauses.{ItemClauses, ListClauses}

module _ {S E : Type 0} (i : Ghosts S E) where
  -- an item was mapped, where the defaults are kept
  pub record Mapped (s : S) (t u : Tree) (m : S) : Type 0 where
    pub walks : IsTrue i.keeps_defaults → (c : ℕ) → walk (ask i.reply i.next) c s t ≡ accepted u m

  -- it was refused, or memory ran out
  pub record Ended (s : S) (t : Tree) (e : Error E) (m : S) : Type 0 where
    pub stops : IsTrue i.keeps_defaults → (c : ℕ) → e ≢ NoMemory → walk (ask i.reply i.next) c s t ≡ refused e m
    pub left : IsTrue i.keeps_defaults → IsTrue i.sure → Visited (ask i.reply i.next) s (visits t) m

module _ {S E : Type 0} {i : Ghosts S E} {s m : S} where
  -- ---- an index, by its hook

  pub index_mapped : (p : Space) (n : ℕ) {a : ℕ} → ask i.reply i.next s (Index p n) ≡ accepted a m → Mapped i s (Tree.ix p n) (Tree.ix p a) m
  index_mapped p n h = record { walks = λ k c. rw h refl }

  pub index_ended : (p : Space) (n : ℕ) {e : Error E} → Replies i.reply i.next s m (Index p n) (Err e) → NeverWants {A = ℕ} i.sure (Err e) → Ended i s (Tree.ix p n) e m
  index_ended p n answer never = record {
    stops = λ k c other. rw (answer other) refl;
    left = λ k sure. hook_visited i.reply i.next (Index p n) _ answer never sure;
  }

  -- ---- an item, by its call

  pub item_ended : {B : Type 0} (t : Tree) (view : B → Tree) {e : Error E} → ItemClauses i t view s m (Err e) → Ended i s t e m
  item_ended t view gone = record { stops = gone.default; left = λ k sure. sure_visited i.reply i.next t view _ (gone.default k) (gone.sure k) sure }

  pub list_mapped : {B : Type 0} {t : Tree} (view : B → Tree) (b : B) → ListClauses i t view s m (Ok b) → Mapped i s t (view b) m
  list_mapped view b given = record { walks = given.default }

  pub list_ended : {B : Type 0} (t : Tree) (view : B → Tree) {e : Error E} → ListClauses i t view s m (Err e) → Ended i s t e m
  list_ended t view gone = record { stops = gone.default; left = gone.after_error }

  -- ---- two parts

  pub first_ended : {t : Tree} (u : Tree) {e : Error E} → Ended i s t e m → Ended i s (Tree.pair t u) e m
  first_ended u gone = record { stops = λ k c other. rw (gone.stops k c other) refl; left = λ k sure. first_visited (visits u) (gone.left k sure) }

  pub second_ended : {n : S} {t u v : Tree} {e : Error E} → Mapped i s t v n → Ended i n u e m → Ended i s (Tree.pair t u) e m
  second_ended {t = t} first gone = record {
    stops = λ k c other. rw (first.walks k c) (rw (gone.stops k c other) refl);
    left = λ k sure. second_visited 0 t (first.walks k 0) (gone.left k sure);
  }

  pub both_mapped : {n : S} {t u v w : Tree} → Mapped i s t v n → Mapped i n u w m → Mapped i s (Tree.pair t u) (Tree.pair v w) m
  both_mapped first second = record { walks = λ k c. rw (first.walks k c) (rw (second.walks k c) refl) }

  -- of which the second is asked first
  pub early_ended : (t : Tree) {u : Tree} {e : Error E} → Ended i s u e m → Ended i s (Tree.swap t u) e m
  early_ended t gone = record { stops = λ k c other. rw (gone.stops k c other) refl; left = λ k sure. first_visited (visits t) (gone.left k sure) }

  pub late_ended : {n : S} {t u v : Tree} {e : Error E} → Mapped i s u v n → Ended i n t e m → Ended i s (Tree.swap t u) e m
  late_ended {u = u} first gone = record {
    stops = λ k c other. rw (first.walks k c) (rw (gone.stops k c other) refl);
    left = λ k sure. second_visited 0 u (first.walks k 0) (gone.left k sure);
  }

  pub swap_mapped : {n : S} {t u v w : Tree} → Mapped i s u w n → Mapped i n t v m → Mapped i s (Tree.swap t u) (Tree.swap v w) m
  swap_mapped first second = record { walks = λ k c. rw (first.walks k c) (rw (second.walks k c) refl) }

  -- ---- behind a byte, and as a row of a choice

  pub led_mapped : (b : ℕ) {t u : Tree} → Mapped i s t u m → Mapped i s (led b t) (led b u) m
  led_mapped b part = record { walks = λ k c. rw (part.walks k c) refl }

  pub led_ended : (b : ℕ) {t : Tree} {e : Error E} → Ended i s t e m → Ended i s (led b t) e m
  led_ended b gone = record { stops = λ k c other. rw (gone.stops k c other) refl; left = gone.left }

  pub row_walked : (j : ℕ) {t u : Tree} → Mapped i s t u m → Mapped i s (Tree.row j t) (Tree.row j u) m
  row_walked j part = record { walks = λ k c. rw (part.walks k c) refl }

  pub row_ended : (j : ℕ) {t : Tree} {e : Error E} → Ended i s t e m → Ended i s (Tree.row j t) e m
  row_ended j gone = record { stops = λ k c other. rw (gone.stops k c other) refl; left = gone.left }

  -- ---- what a call then gives

  pub gives_list : {B : Type 0} (t : Tree) (view : B → Tree) (b : B) → Mapped i s t (view b) m → ListClauses i t view s m (Ok b)
  gives_list t view b done = record { default = done.walks; after_error = λ k sure. tt }

  pub hands_on : {B : Type 0} (t : Tree) (view : B → Tree) (e : Error E) → Ended i s t e m → (r : Result B (Error E)) → IsErrAnd r (λ y. y ≡ e) → ListClauses i t view s m r
  hands_on t view e gone r q = rw (handed r q) (record { default = gone.stops; after_error = gone.left })
