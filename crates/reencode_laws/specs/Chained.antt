-- Two reencoders in a chain, beside the one after the other.
use Rattle.std.specs.Prelude.{◌≡◌, ◌≤◌, ◌-◌, ◌^◌, ◌∷◌, ◌++◌, true, ℕ, zero, suc, List, [], length, drop, get_or, None, Result}
use Rattle.wasm_shapes.specs.declared.Space.TheVariants as space
use Rattle.wasm_shapes.specs.declared.Visit.{Visit}
use Rattle.wasm_shapes.specs.declared.Visit.TheVariants.{Index}
use Rattle.wasm_shapes.specs.Tree.{Tree, Listed, visits, before, after, past, fill, typed, normal}
use Rattle.wasm_shapes.specs.Own.{own}
use Rattle.wasm_shapes.specs.Shape.{Shape}
use Rattle.wasm_shapes.specs.Sound.{sound}
use Rattle.wasm_shapes.specs.Spells.{Spelled, Spells}
use Rattle.reencode_hooks.specs.declared.error.Error.{Error}
use Rattle.reencode_hooks.specs.declared.error.Error.TheVariants.{UserError}
use Rattle.reencode_hooks.specs.declared.chain.Chain.{Chain}
use Rattle.reencode_hooks.specs.declared.chain.ChainError.{ChainError}
use Rattle.reencode_hooks.specs.declared.chain.ChainError.TheVariants.{First, Second}
use Rattle.reencode_hooks.specs.Run.{accepted, refused, ask, run}
use Rattle.reencode_hooks.specs.Walk.{walk}
use Rattle.reencode_hooks.specs.Chains.{reindexed, chain_reply, chain_next}
use Rattle.reencode_laws.specs.Own.{ReadsAs}

-- ---- tables that are left out

-- a left-out table stays so where it was answered 0, and else is written as 0
abbrev pub written_at : Listed → ℕ → Tree → Tree → Tree
written_at w zero o t = Tree.left w o t
written_at w (suc i) o t = Tree.aimed w 0 o (typed w t)

-- The tree with each left-out table of an element segment written as an explicit 0, where the answer to its visit is not 0.
-- Nothing else is changed. These are answers to the visits of the tree.
abbrev pub written : Tree → List ℕ → Tree
written (Tree.pair t u) answers = Tree.pair (written t answers) (written u (after t answers))
written (Tree.swap t u) answers = Tree.swap (written t (after u answers)) (written u answers)
written (Tree.cons t u) answers = Tree.cons (written t answers) (written u (after t answers))
written (Tree.vec t) answers = Tree.vec (written t answers)
written (Tree.present t) answers = Tree.present (written t answers)
written (Tree.sized t) answers = Tree.sized (written t answers)
written (Tree.row k t) answers = Tree.row k (written t answers)
written (Tree.scope t) answers = Tree.scope (written t (drop 1 answers))
written (Tree.spare b t) answers = Tree.spare b (written t answers)
written (Tree.kept b t) answers = Tree.kept b (written t answers)
written (Tree.final t u) answers = Tree.final (written t answers) (written u (after t answers))
written (Tree.until b t) answers = Tree.until b (written t answers)
written (Tree.op c t) answers = Tree.op c (written t answers)
written (Tree.left w o t) answers = written_at w (get_or (after t answers) 0 0) (written o (drop 1 (after t answers))) (written t answers)
written (Tree.aimed w i o t) answers = Tree.aimed w i (written o (drop 1 (after t answers))) (written t answers)
written (Tree.placed i o t) answers = Tree.placed i (written o (drop 1 answers)) (written t (after o (drop 1 answers)))
written (Tree.told k t) answers = Tree.told k (written t answers)
written (Tree.also t u) answers =
    let own = drop (length (before None t)) answers in Tree.also (written t own) (written u (past t own))
written t answers = t

-- the visits, each asked with the answer to it
abbrev pub asked_again : List Visit → List ℕ → List Visit
asked_again [] answers = []
asked_again (v ∷ vs) answers = reindexed v (get_or answers 0 0) ∷ asked_again vs (drop 1 answers)

-- each visit of the table 0 is answered 0
abbrev pub KeepsFirstTable : List Visit → List ℕ → Type 0
KeepsFirstTable [] answers = Unit {0}
KeepsFirstTable (v ∷ vs) answers = (v ≡ Index space.Table 0 → get_or answers 0 0 ≡ 0) × KeepsFirstTable vs (drop 1 answers)

-- What is asked of a filled tree, and what it is filled with a second time.
pub record FilledTwice : Type 0 where
  -- a filled tree asks again what the tree asks, with the answers in place of the indices;
  pub asked : (t : Tree) (first : List ℕ) → visits (fill t first) ≡ asked_again (visits t) first
  -- filled a second time, it is the tree filled with the second answers alone, but that a table that is left out there stands as an
  -- explicit 0 where the first answer to it was not 0;
  pub filled : (t : Tree) (first second : List ℕ) → fill (fill t first) second ≡ written (fill t second) first
  -- and with no exception where the first answers keep the table 0;
  pub alike : (t : Tree) (first second : List ℕ) → KeepsFirstTable (visits t) first → fill (fill t first) second ≡ fill t second
  -- so with the indices of its own visits it is the tree, up to these tables.
  pub undone : (t : Tree) (first : List ℕ) → fill (fill t first) (own t) ≡ written t first
  pub undone_alike : (t : Tree) (first : List ℕ) → KeepsFirstTable (visits t) first → written t first ≡ t

-- ---- runs

-- Of two reencoders, and a chain of them:
pub record ChainIsBoth {A B X Y : Type 0} (f : A → Visit → Result ℕ X) (f' : A → Visit → A) (g : B → Visit → Result ℕ Y) (g' : B → Visit → B) : Type 0 where
  -- where the first accepts the visits of a tree, and the second those of the tree with the first one's answers filled in, the chain
  -- accepts the visits of the tree, with the second one's answers, and ends in both states;
  pub back : (a m : A) (b n : B) (t : Tree) (first second : List ℕ) → run (ask f f') a (visits t) ≡ accepted first m
      → run (ask g g') b (visits (fill t first)) ≡ accepted second n
      → run (ask (chain_reply f g) (chain_next f f' g')) (record { a = a; b = b }) (visits t) ≡ accepted second (record { a = m; b = n })
  -- and only there.
  pub forth : (s m : Chain A B) (t : Tree) (second : List ℕ) → run (ask (chain_reply f g) (chain_next f f' g')) s (visits t) ≡ accepted second m
      → (first : List ℕ) × (run (ask f f') s.a (visits t) ≡ accepted first m.a) × (run (ask g g') s.b (visits (fill t first)) ≡ accepted second m.b)

-- The visit is refused by one of the two: by the first, and then the second is not asked; or by the second, which is asked with the
-- answer of the first.
abbrev pub IsRefusedBy : {A B X Y : Type 0} → (A → Visit → Result ℕ X) → (A → Visit → A) → (B → Visit → Result ℕ Y) → (B → Visit → B)
    → Chain A B → Visit → ChainError X Y → Chain A B → Type 0
IsRefusedBy f f' g g' s v (First x) m = (ask f f' s.a v ≡ refused (UserError x) m.a) × (m.b ≡ s.b)
IsRefusedBy f f' g g' s v (Second y) m = (n : ℕ) × (ask f f' s.a v ≡ accepted n m.a) × (ask g g' s.b (reindexed v n) ≡ refused (UserError y) m.b)

-- One of these visits is refused by one of the two, and both accept all before.
pub record ChainStops {A B X Y : Type 0} (f : A → Visit → Result ℕ X) (f' : A → Visit → A) (g : B → Visit → Result ℕ Y) (g' : B → Visit → B)
    (s : Chain A B) (visits : List Visit) (e : ChainError X Y) (m : Chain A B) : Type 0 where
  pub front : List Visit
  pub visit : Visit
  pub rest : List Visit
  pub parts : visits ≡ front ++ visit ∷ rest
  pub first : List ℕ
  pub second : List ℕ
  pub state : Chain A B
  pub ran : run (ask f f') s.a front ≡ accepted first state.a
  pub then_ran : run (ask g g') s.b (asked_again front first) ≡ accepted second state.b
  pub stops : IsRefusedBy f f' g g' state visit e m

-- A run of a chain is refused exactly where one of the two refuses a visit, and both accept all before.
pub record ChainRefuses {A B X Y : Type 0} (f : A → Visit → Result ℕ X) (f' : A → Visit → A) (g : B → Visit → Result ℕ Y) (g' : B → Visit → B) : Type 0 where
  pub back : (s m : Chain A B) (visits : List Visit) (e : ChainError X Y) → ChainStops f f' g g' s visits e m
      → run (ask (chain_reply f g) (chain_next f f' g')) s visits ≡ refused (UserError e) m
  pub forth : (s m : Chain A B) (visits : List Visit) (e : Error (ChainError X Y)) → run (ask (chain_reply f g) (chain_next f f' g')) s visits ≡ refused e m
      → (x : ChainError X Y) × (e ≡ UserError x) × ChainStops f f' g g' s visits x m

-- ---- walks

-- What comes out of the second, where it reads what came out of the first, and what comes out of the chain.
pub record AfterEachOther {A B X Y : Type 0} (f : A → Visit → Result ℕ X) (f' : A → Visit → A) (g : B → Visit → Result ℕ Y) (g' : B → Visit → B)
    (c : ℕ) (a m : A) (b n : B) (t u v : Tree) : Type 0 where
  -- the answers of the first, and of the second, which are those of the chain
  pub first : List ℕ
  pub second : List ℕ
  pub ran : run (ask f f') a (visits t) ≡ accepted first m
  pub then_ran : run (ask g g') b (visits u) ≡ accepted second n
  -- the chain's walk is accepted under the same ceiling, and ends in both states
  pub chained : walk (ask (chain_reply f g) (chain_next f f' g')) c (record { a = a; b = b }) t ≡ accepted (fill t second) (record { a = m; b = n })
  -- and what came out of the second is the same, but that tables which the first moved stand as an explicit 0
  pub same : v ≡ written (fill t second) first
  pub alike : KeepsFirstTable (visits t) first → v ≡ fill t second

-- Of two reencoders, where the second reads what came out of the first:
pub record ChainedWalks {A B X Y : Type 0} (f : A → Visit → Result ℕ X) (f' : A → Visit → A) (g : B → Visit → Result ℕ Y) (g' : B → Visit → B) : Type 0 where
  -- what came out of the first is read as its tree, and as nothing else;
  pub read : (shape : Shape) → sound shape ≡ true → (c : ℕ) → c ≤ 2 ^ 32 - 1 → (a m : A) (bytes : List ℕ) (t u : Tree) → Spells shape bytes t
      → walk (ask f f') c a t ≡ accepted u m → ReadsAs shape (normal u) u
  -- what comes out of the second is what comes out of the chain, but for tables;
  pub chained : (c d : ℕ) (a m : A) (b n : B) (bytes : List ℕ) (t u v : Tree) → Spelled t bytes → walk (ask f f') c a t ≡ accepted u m
      → walk (ask g g') d b u ≡ accepted v n → AfterEachOther f f' g g' d a m b n t u v
  -- and where the second answers each visit by the index that the tree asks there, it undoes the first, but for tables.
  pub undone : (c d : ℕ) (a m : A) (b n k : B) (t u v : Tree) → walk (ask f f') c a t ≡ accepted u m → walk (ask g g') d b u ≡ accepted v n
      → run (ask g g') b (visits u) ≡ accepted (own t) k
      → (first : List ℕ) × (run (ask f f') a (visits t) ≡ accepted first m) × (v ≡ written t first) × (KeepsFirstTable (visits t) first → v ≡ t)
