-- What a call gives that opens a scope, maps the rows in it and closes it.
use Rattle.std.proofs.Common.{◌≡◌, ◌≢◌, ◌+◌, ◌-◌, ◌^◌, ◌<◌, ◌⊎◌, ℕ, suc, List, [], ◌∷◌, ◌++◌, length, Result, Ok, Err, IfErr, IfOk, IsErrAnd, IsTrue, refl, sym, ap, ◌∙◌, subst, arith, inl, inr}
use Rattle.wasm_shapes.specs.declared.Visit.TheVariants.{Push, Pop}
use Rattle.wasm_shapes.specs.Shape.{Shape}
use Rattle.wasm_shapes.specs.Tree.{Tree, count}
use Rattle.wasm_shapes.specs.Rows.{rows_then}
use Rattle.wasm_read.specs.Reading.{Standing}
use Rattle.wasm_read_component.specs.Scoped.{ScopedStanding}
use Rattle.wasm_write_component.specs.TypeRows.{scope_tree}
use Rattle.reencode_hooks.specs.declared.error.Error.{Error}
use Rattle.reencode_hooks.specs.declared.error.Error.TheVariants.{CanonicalizedHeapTypeReference, InvalidConstExpr, InvalidCodeSectionSize, UnexpectedNonCoreModuleSection, UnexpectedNonComponentSection, UnsupportedCoreTypeInComponent, ParseError, UserError, TooLarge, NoMemory}
use Rattle.reencode_hooks.specs.declared.indices.ReencodeIndices.{Ghosts}
use Rattle.reencode_hooks.specs.Run.{NeverWants, Step, accepted, refused}
use Rattle.reencode_hooks.specs.Walk.{walk}
use Rattle.reencode_core.specs.Clauses.{RowsClauses, asks}
use Rattle.reencode_core.specs.Errors.{IfParse, IfRefused}
use Rattle.reencode_core.specs.Leaves.{LeavesMade, Text, rows_in}
use Rattle.reencode_core.specs.Rows.{Asks, GivesAll, RowsFault, StopsAtRow, StopsRows, RefusesFirst, TooMany, AcceptedHooks, onto_rows}
use Rattle.reencode_core.proofs.after_error.VisitsMade.{not_wanting}
use Rattle.reencode_core.proofs.rows_walked.OneRow.{answers}
use Rattle.reencode_core.proofs.faults.WalkRefusals.{IfParse-map, IfRefused-map}
use Rattle.reencode_component.specs.Hooks.{Answers, RepliesPush}
use Rattle.reencode_component.specs.DeclarationClauses.{ShallowScopeClauses}
use Rattle.reencode_component.specs.ScopedRows.{ShallowFault, ShallowRowsClauses, StopsShallow, shallow_rows_in}
use Rattle.reencode_component.specs.TypeClauses.{ScopeBy, ScopeClauses}

-- of an error that says that memory ran out nothing is asked
parse_wanting : {E : Type 0} (P : ℕ → Type 0) (e : Error E) → e ≡ NoMemory → IfParse e P
parse_wanting {E = E} P e h = let Q : Error E → Type 0 = λ z. IfParse z P in subst Q (sym h) tt

refused_wanting : {E : Type 0} (P : Type 0) (e : Error E) → e ≡ NoMemory → IfRefused e P
refused_wanting {E = E} P e h = let Q : Error E → Type 0 = λ z. IfRefused z P in subst Q (sym h) tt

count_then : (ts : List Tree) (u : Tree) → count (rows_then ts u) ≡ length ts + count u
count_then [] u = omega arith
count_then (t ∷ ts) u = let again : count (rows_then ts u) ≡ length ts + count u = count_then ts u in omega arith

-- fewer rows than a count can say are not too many
never_many : {E : Type 0} (e : Error E) (n : ℕ) → n + 1 < 2 ^ 32 → TooMany e n → ⊥
never_many (TooLarge size) n few h = let is : size ≡ n + 1 = h.0 in let large : 2 ^ 32 - 1 < size = h.1 in omega arith
never_many (ParseError x) n few h = h
never_many (UserError x) n few h = h
never_many NoMemory n few h = h
never_many CanonicalizedHeapTypeReference n few h = h
never_many InvalidConstExpr n few h = h
never_many InvalidCodeSectionSize n few h = h
never_many UnexpectedNonCoreModuleSection n few h = h
never_many UnexpectedNonComponentSection n few h = h
never_many UnsupportedCoreTypeInComponent n few h = h

module _ {S E : Type 0} (asked : Asks S E) where
  pub refused_scope : (s : S) {n m : S} (c : ℕ) (t : Tree) {e : Error E} → asked s Push ≡ accepted 0 n → walk asked c n t ≡ refused e m → walk asked c s (Tree.scope (Tree.vec t)) ≡ refused e m
  refused_scope s c t push h = rw (push, h) refl

  pub accepted_scope : (s : S) {n k m : S} (c : ℕ) (t u : Tree) → asked s Push ≡ accepted 0 n → walk asked c n t ≡ accepted u k → asked k Pop ≡ accepted 0 m →
      walk asked c s (Tree.scope (Tree.vec t)) ≡ accepted (Tree.scope (Tree.vec u)) m
  accepted_scope s c t u push h pop = rw (push, h, pop) refl

  refused_onto : {m : S} (made : List Tree) (step : Step S (Error E) Tree) {e : Error E} → step ≡ refused e m → onto_rows made step ≡ refused e m
  refused_onto made step h = rw h refl

  refused_first : (s : S) {m : S} (c : ℕ) (t u : Tree) {e : Error E} → walk asked c s t ≡ refused e m → walk asked c s (Tree.cons t u) ≡ refused e m
  refused_first s c t u h = rw h refl

  -- the walk of the rows of which one was refused
  refused_rows : {n m : S} {old new : List Tree} (c : ℕ) (rows : Tree) (e : Error E) → old ≡ [] → count rows < 2 ^ 32 → e ≢ NoMemory → StopsRows asked c (n, old) rows (m, new) e →
      walk asked c n rows ≡ refused e m
  refused_rows {n = n} {m = m} {old = old} {new = new} c rows e none few other stops = by first.refusal
    where
      first : RefusesFirst asked c stops.at stops.others (length new) e m
      first = stops.refuses other

      onward : walk asked c stops.at first.row ≡ refused e m → walk asked c n rows ≡ refused e m
      onward h =
          let behind : walk asked c stops.at stops.others ≡ refused e m = rw first.parts (refused_first stops.at c first.row first.behind h) in
          rw stops.parts (stops.accepts stops.others ∙ refused_onto stops.made (walk asked c stops.at stops.others) behind)

      by : (walk asked c stops.at first.row ≡ refused e m) ⊎ (AcceptedHooks asked stops.at first.row m × TooMany e (length new)) → walk asked c n rows ≡ refused e m
      by (inl h) = onward h
      by (inr h) =
          let all : count rows ≡ length stops.read + count stops.others = ap count stops.parts ∙ count_then stops.read stops.others in
          let some : count stops.others ≡ suc (count first.behind) = ap count first.parts in
          let added : length new ≡ length stops.made = ap length (stops.gains ∙ ap (λ (z : List Tree). z ++ stops.made) none) in
          let same : length stops.made ≡ length stops.read = stops.counted in
          absurd (never_many e (length new) (omega arith) h.1)

-- What is to be read in a scope was mapped from a state on, into what held no rows.
record InScope {S E : Type 0} (i : Ghosts S E) (left : ℕ) (text : Text) (faulty : ℕ → S → List Tree → ℕ → Type 0) (stops : ℕ → S → List Tree → Error E → Type 0)
    (n m : S) (new : List Tree) (result : Result (Unit {0}) (Error E)) : Type 0 where
  pub reading : IsTrue i.keeps_defaults → (c : ℕ) (rows : Tree) → text.reads rows → GivesAll (asks i) c (n, []) rows (m, new) result
  pub counted : (rows : Tree) → text.reads rows → count rows ≡ left
  pub readable : IsTrue i.keeps_defaults → IfOk result (λ _. (rows : Tree) × text.reads rows)
  pub unreadable : IsTrue i.keeps_defaults → (c : ℕ) → IfErr result (λ e. IfParse e (faulty c n new))
  pub refusal : IsTrue i.keeps_defaults → (c : ℕ) → IfErr result (λ e. IfRefused e (stops c n new e))
  pub after_error : IsTrue i.keeps_defaults → LeavesMade i.sure (asks i) text n m result

module _ {S E : Type 0} (i : Ghosts S E) (text : Text) (faulty : ℕ → S → List Tree → ℕ → Type 0) (stops : ℕ → S → List Tree → Error E → Type 0) (s m : S) where
  -- the scope was not opened
  unopened : {A : Type 0} (within : Tree → Tree) (view : A → Tree) (e : Error E) → RepliesPush i.reply i.next s m (Err e) → NeverWants {A = Unit {0}} i.sure (Err e) →
      (r : Result A (Error E)) → IsErrAnd r (λ y. y ≡ e) → ScopeBy i text faulty stops within view s m r
  unopened {A = A} within view e wants never r q =
      let P : Result A (Error E) → Type 0 = λ z. ScopeBy i text faulty stops within view s m z in
      subst P (answers r q) (record {
        default = λ k rows reads c other. absurd (other wants);
        readable = λ k. tt;
        unreadable = λ k c. parse_wanting _ e wants;
        refusal = λ k c. refused_wanting _ e wants;
        after_error = λ k told. absurd (not_wanting e never told wants);
      })

  module _ {n : S} {new : List Tree} (push : Answers i.reply i.next s n Push 0) where
    -- what is in it was refused, or has no reading
    stopped : (left : ℕ) → left < 2 ^ 32 → (e : Error E) → InScope i left text faulty stops n m new (Err e) → (r : Result (List Tree) (Error E)) → IsErrAnd r (λ y. y ≡ e) →
        ScopeBy i text faulty stops (λ t. t) scope_tree s m r
    stopped left few e given r q =
        let P : Result (List Tree) (Error E) → Type 0 = λ z. ScopeBy i text faulty stops (λ t. t) scope_tree s m z in
        subst P (answers r q) (record {
          default = λ k rows reads c other.
              let all : count rows ≡ left = given.counted rows reads in
              refused_scope (asks i) s c rows push (refused_rows (asks i) c rows e refl (omega arith) other (given.reading k c rows reads));
          readable = λ k. tt;
          unreadable = λ k c. IfParse-map e (λ at fault. record { at = n; push = push; inside = (new, fault) }) (given.unreadable k c);
          refusal = λ k c. IfRefused-map e (λ stops. record { at = n; push = push; inside = (new, stops) }) (given.refusal k c);
          after_error = λ k told. record { at = n; push = push; inside = given.after_error k told };
        })

    -- all of it was mapped, and the scope was closed
    closed : {j : S} → (IsTrue i.keeps_defaults → (c : ℕ) (rows : Tree) → text.reads rows → GivesAll (asks i) c (n, []) rows (j, new) (Ok tt)) →
        (IsTrue i.keeps_defaults → (rows : Tree) × text.reads rows) → Answers i.reply i.next j m Pop 0 → ScopeBy i text faulty stops (λ t. t) scope_tree s m (Ok new)
    closed {j = j} gives reads pop = record {
      default = λ k rows read c.
          let all : GivesAll (asks i) c (n, []) rows (j, new) (Ok tt) = gives k c rows read in
          accepted_scope (asks i) s c rows (rows_then new Tree.nil) push (subst (λ (z : List Tree). walk (asks i) c n rows ≡ accepted (rows_then z Tree.nil) j) (sym all.2) all.1) pop;
      readable = reads;
      unreadable = λ k c. tt;
      refusal = λ k c. tt;
      after_error = λ k. tt;
    }

-- ---- of rows

module _ {S E : Type 0} (i : Ghosts S E) (row : Shape) (reader : Standing) (s : S) where
  pub scope_unopened : {A : Type 0} (m : S) (within : Tree → Tree) (view : A → Tree) (e : Error E) → RepliesPush i.reply i.next s m (Err e) → NeverWants {A = Unit {0}} i.sure (Err e) →
      (r : Result A (Error E)) → IsErrAnd r (λ y. y ≡ e) → ScopeClauses i row reader within view s m r
  scope_unopened m = unopened i (rows_in row reader) (λ c n made at. RowsFault (asks i) c row reader (n, []) (m, made) at) (λ c n made e. StopsAtRow (asks i) c row reader (n, []) e (m, made)) s m

  module _ {n : S} {old : List Tree} (push : Answers i.reply i.next s n Push 0) (none : old ≡ []) where
    pub scope_stopped : {m : S} {new : List Tree} → reader.left < 2 ^ 32 → (e : Error E) → RowsClauses i row reader n old m new (Err e) → (r : Result (List Tree) (Error E)) → IsErrAnd r (λ y. y ≡ e) →
        ScopeClauses i row reader (λ t. t) scope_tree s m r
    scope_stopped {m = m} {new = new} few e given r q =
        let Q : List Tree → Type 0 = λ z. RowsClauses i row reader n z m new (Err e) in
        let fresh : RowsClauses i row reader n [] m new (Err e) = subst Q none given in
        stopped i (rows_in row reader) (λ c n made at. RowsFault (asks i) c row reader (n, []) (m, made) at) (λ c n made e. StopsAtRow (asks i) c row reader (n, []) e (m, made)) s m push reader.left few e (record {
          reading = λ k c rows left. (fresh.default k c).reading rows left;
          counted = λ rows left. left.counted;
          readable = λ k. tt;
          unreadable = λ k c. (fresh.default k c).unreadable;
          refusal = λ k c. (fresh.default k c).refusal;
          after_error = fresh.after_error;
        }) r q

    pub scope_closed : {j m : S} {new : List Tree} → RowsClauses i row reader n old j new (Ok tt) → Answers i.reply i.next j m Pop 0 → ScopeClauses i row reader (λ t. t) scope_tree s m (Ok new)
    scope_closed {j = j} {m = m} {new = new} given pop =
        let Q : List Tree → Type 0 = λ z. RowsClauses i row reader n z j new (Ok tt) in
        let fresh : RowsClauses i row reader n [] j new (Ok tt) = subst Q none given in
        closed i (rows_in row reader) (λ c n made at. RowsFault (asks i) c row reader (n, []) (m, made) at) (λ c n made e. StopsAtRow (asks i) c row reader (n, []) e (m, made)) s m push
        (λ k c rows left. (fresh.default k c).reading rows left) (λ k. (fresh.default k 0).readable) pop

-- ---- of rows of which none opens a scope too many

module _ {S E : Type 0} (i : Ghosts S E) (row : Shape) (reader : ScopedStanding) (s : S) where
  pub shallow_unopened : {A : Type 0} (m : S) (within : Tree → Tree) (view : A → Tree) (e : Error E) → RepliesPush i.reply i.next s m (Err e) → NeverWants {A = Unit {0}} i.sure (Err e) →
      (r : Result A (Error E)) → IsErrAnd r (λ y. y ≡ e) → ShallowScopeClauses i row reader within view s m r
  shallow_unopened m = unopened i (shallow_rows_in row reader) (λ c n made at. ShallowFault (asks i) c row reader (n, []) (m, made) at) (λ c n made e. StopsShallow (asks i) c row reader (n, []) e (m, made)) s m

  module _ {n : S} {old : List Tree} (push : Answers i.reply i.next s n Push 0) (none : old ≡ []) where
    pub shallow_stopped : {m : S} {new : List Tree} → reader.rows.left < 2 ^ 32 → (e : Error E) → ShallowRowsClauses i row reader n old m new (Err e) → (r : Result (List Tree) (Error E)) → IsErrAnd r (λ y. y ≡ e) →
        ShallowScopeClauses i row reader (λ t. t) scope_tree s m r
    shallow_stopped {m = m} {new = new} few e given r q =
        let Q : List Tree → Type 0 = λ z. ShallowRowsClauses i row reader n z m new (Err e) in
        let fresh : ShallowRowsClauses i row reader n [] m new (Err e) = subst Q none given in
        stopped i (shallow_rows_in row reader) (λ c n made at. ShallowFault (asks i) c row reader (n, []) (m, made) at) (λ c n made e. StopsShallow (asks i) c row reader (n, []) e (m, made)) s m push reader.rows.left few e (record {
          reading = λ k c rows all. (fresh.default k c).reading rows all;
          counted = λ rows all. all.left.counted;
          readable = λ k. tt;
          unreadable = λ k c. (fresh.default k c).unreadable;
          refusal = λ k c. (fresh.default k c).refusal;
          after_error = fresh.after_error;
        }) r q

    pub shallow_closed : {j m : S} {new : List Tree} → ShallowRowsClauses i row reader n old j new (Ok tt) → Answers i.reply i.next j m Pop 0 → ShallowScopeClauses i row reader (λ t. t) scope_tree s m (Ok new)
    shallow_closed {j = j} {m = m} {new = new} given pop =
        let Q : List Tree → Type 0 = λ z. ShallowRowsClauses i row reader n z j new (Ok tt) in
        let fresh : ShallowRowsClauses i row reader n [] j new (Ok tt) = subst Q none given in
        closed i (shallow_rows_in row reader) (λ c n made at. ShallowFault (asks i) c row reader (n, []) (m, made) at) (λ c n made e. StopsShallow (asks i) c row reader (n, []) e (m, made)) s m push
        (λ k c rows all. (fresh.default k c).reading rows all) (λ k. (fresh.default k 0).readable) pop
