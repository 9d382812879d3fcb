-- The loop over rows in which scopes may be opened, and what the call gives at each of its ends.
use Rattle.std.proofs.Common.{◌≡◌, ◌≢◌, ◌≤◌, ◌<◌, ◌+◌, ◌-◌, ◌⊎◌, ℕ, zero, suc, List, [], ◌∷◌, ◌++◌, length, length-append, Result, Ok, Err, IsErrAnd, IsTrue, true, refl, sym, ap, ◌∙◌, subst, arith, inl, inr}
use Rattle.wasm_leb.specs.declared.fault.Fault.{Fault}
use Rattle.wasm_leb.specs.declared.fault.Fault.TheVariants as fault
use Rattle.wasm_shapes.specs.declared.Visit.{Visit}
use Rattle.wasm_shapes.specs.Drawn.{Drawn, IsItem}
use Rattle.wasm_shapes.specs.Tree.{Tree, count, visits}
use Rattle.wasm_shapes.specs.Shape.{Shape, closed}
use Rattle.wasm_shapes.specs.Sound.{sound}
use Rattle.wasm_shapes.specs.Depth.{BeginsAt, BeginsNoneAt, Shallow, opens}
use Rattle.wasm_shapes.specs.Rows.{RowsLeft, rows_then}
use Rattle.wasm_shapes.specs.Spells.{Is}
use Rattle.wasm_shapes.specs.Types.{rows_tree}
use Rattle.wasm_shapes.proofs.Depth.{begins_unique, shallow_cons, shallow_first, shallow_then}
use Rattle.wasm_shapes.proofs.Drawn.{drawn_begun, drawn_none}
use Rattle.wasm_shapes.proofs.Rows.{no_rows_behind, rows_end, rows_first, rows_then-append}
use Rattle.wasm_shapes.proofs.Unique.{unique}
use Rattle.wasm_read.specs.Reading.{Standing, place_of, ReadsNoneOrWants, RowRead, RowsEnded}
use Rattle.wasm_read_component.specs.Scoped.{ScopedMissing, ScopedRead, ScopedStanding}
use Rattle.reencode_hooks.specs.declared.error.Error.{Error}
use Rattle.reencode_hooks.specs.declared.error.Error.TheVariants.{NoMemory}
use Rattle.reencode_hooks.specs.declared.indices.ReencodeIndices.{Ghosts}
use Rattle.reencode_hooks.specs.Errors.{error_of_fault}
use Rattle.reencode_hooks.specs.Run.{refused}
use Rattle.reencode_hooks.specs.Walk.{walk}
use Rattle.reencode_hooks.proofs.Walks.{walk_is_run}
use Rattle.reencode_core.specs.Clauses.{RowClauses, RowsClauses, asks}
use Rattle.reencode_core.specs.Errors.{IfParse, IfRefused}
use Rattle.reencode_core.specs.Holds.{AskedRow}
use Rattle.reencode_core.specs.Leaves.{EndsBy, IsFront, Leaves, MadeUpTo, TellsFault}
use Rattle.reencode_core.specs.Rows.{Asks, RowsBefore, TooLargeMade}
use Rattle.reencode_core.proofs.rows_walked.EachRow.{RowsKept, rows_added, rows_begun, rows_ended, rows_refused_at}
use Rattle.reencode_core.proofs.rows_walked.TypeGroup.{rows_then-both}
use Rattle.reencode_core.proofs.after_error.VisitsMade.{PartMade, drawn_made, ended_all, ended_behind, fault_unasked, front_first, front_none, front_same, front_then, tells_none}
use Rattle.reencode_core.proofs.rows_walked.OneRow.{answers}
use Rattle.reencode_core.proofs.rows_walked.RowLoop.{RowsDone, before_more, large_is_many, row_usual}
use Rattle.reencode_core.proofs.after_error.RowsVisited.{RowsAhead, drawn_then, row_made, rows_ahead, rows_held, visits_behind, visits_more}
use Rattle.reencode_core.proofs.faults.WalkRefusals.{IfParse-map, fault_unrefused, unless_wanting}
use Rattle.reencode_component.specs.ScopedRows.{AllShallow, ShallowFault, ShallowRowsClauses, ShallowUpTo, StopsShallow, shallow_rows_in}

-- the one number is below the other or not
below : (n m : ℕ) → (n < m) ⊎ (m ≤ n)
below zero zero = inr (omega arith)
below zero (suc m) = inl (omega arith)
below (suc n) zero = inr (omega arith)
below (suc n) (suc m) = by (below n m)
  where
    by : (n < m) ⊎ (m ≤ n) → (suc n < suc m) ⊎ (suc m ≤ suc n)
    by (inl h) = inl (omega (arith, h))
    by (inr h) = inr (omega (arith, h))

-- the same row, where the scopes are not spoken of
pub plain_read : {row : Shape} {stands : Tree → Type 0} {old new : ScopedStanding} (r : ScopedRead row stands old new) → RowRead row old.rows r.reads.tree new.rows
plain_read r = record { begins = r.reads.begins.begins; counted = r.counted; len = r.len; count = r.count }

-- ---- rows, by whether they open a scope too many

all_first : {d : ℕ} {t u : Tree} → AllShallow d (Tree.cons t u) → Shallow d t × AllShallow d u
all_first {t = t} {u = u} p = let both = shallow_first (p (omega arith)) in (both.0, λ some. both.1)

all_behind : (d : ℕ) (ts : List Tree) (u : Tree) → AllShallow d (rows_then ts u) → AllShallow d u
all_behind d [] u p = p
all_behind d (t ∷ ts) u p = all_behind d ts u (all_first p).1

all_more : (d : ℕ) (ts : List Tree) (t : Tree) → AllShallow d (rows_tree ts) → Shallow d t → AllShallow d (rows_tree (ts ++ t ∷ []))
all_more d ts t p low = let P : Tree → Type 0 = λ z. AllShallow d z in subst P (sym (rows_then-append ts t Tree.nil)) (go ts p)
  where
    none : Shallow d Tree.nil
    none = let most : opens t + d ≤ 200 = low.most in record { most = omega arith }

    go : (ts : List Tree) → AllShallow d (rows_tree ts) → AllShallow d (rows_then ts (Tree.cons t Tree.nil))
    go [] p = λ some. shallow_cons low none
    go (x ∷ xs) p = λ some. shallow_then d (x ∷ xs) (Tree.cons t Tree.nil) (p (omega arith)) (shallow_cons low none)

-- the one behind some of them
all_middle : (d : ℕ) (ts : List Tree) (u : Tree) (us : List Tree) → AllShallow d (rows_tree (ts ++ u ∷ us)) → Shallow d u
all_middle d ts u us h =
    let P : Tree → Type 0 = λ z. AllShallow d z in
    (all_first (all_behind d ts (Tree.cons u (rows_tree us)) (subst P (rows_then-both ts (u ∷ us) Tree.nil) h))).0

module _ {S E : Type 0} (asked : Asks S E) {c : ℕ} {row : Shape} (start reader : ScopedStanding) {s0 s : S} {old new : List Tree}
    (d : RowsDone asked c row start.rows s0 old reader.rows s new) (item : IsItem row) (is_sound : sound row ≡ true) (is_closed : closed row ≡ true)
    (shallow : AllShallow start.depth (rows_tree d.read)) where
  -- these visits were made behind the rows so far
  shallow_leave : {m : S} (e : Error E) (mid : List Visit) → EndsBy asked s mid e m → Drawn reader.rows.rest mid →
      ((others : Tree) → RowsLeft row reader.rows.left reader.rows.rest others → IsFront mid (visits others)) →
      ((t : Tree) (left : List ℕ) → 0 < reader.rows.left → BeginsAt row start.depth reader.rows.rest t left → (¬ TellsFault e) × IsFront mid (visits t)) →
      Leaves asked (shallow_rows_in row start) s0 e m
  shallow_leave {m = m} e mid ended drawn whole next = record {
    made = visits (rows_tree d.read) ++ mid;
    ended = ended_behind asked e (visits (rows_tree d.read)) mid ((walk_is_run asked).forth c s0 s (rows_tree d.read) (rows_tree d.made) (d.accepts Tree.nil)).ran ended;
    drawn = drawn_then item d.before drawn;
    reading = λ rows all.
        let b = d.so_far.back rows all.left in
        front_same (sym (ap visits b.1 ∙ visits_behind d.read b.0)) (front_then (visits (rows_tree d.read)) (whole b.0 b.2));
    fault = λ none t rest f. up_to t rest f;
  }
    where
      up_to : (t : Tree) (rest : List ℕ) → ShallowUpTo row start t rest → MadeUpTo e (visits (rows_tree d.read) ++ mid) (visits t) rest
      up_to t rest f = go (below (length f.rows) (length d.read))
        where
          longer : RowsAhead row d.read reader.rows.rest f.rows rest → MadeUpTo e (visits (rows_tree d.read) ++ mid) (visits t) rest
          longer (RowsAhead.same p q) =
              let P : List ℕ → Type 0 = λ z. Drawn z mid in
              let are : visits t ≡ visits (rows_tree d.read) = ap visits f.are ∙ ap (λ (z : List Tree). visits (rows_tree z)) p in
              inr (mid, ap (λ (z : List Visit). z ++ mid) (sym are), subst P (sym q) drawn)
          longer (RowsAhead.more u others left p b) =
              let P : Tree → Type 0 = λ z. AllShallow start.depth z in
              let Q : List Tree → Type 0 = λ z. AllShallow start.depth (rows_tree z) in
              let n = next u left (due f.missing) (record { begins = b; shallow = all_middle start.depth d.read u others (subst Q p (subst P f.are f.shallow)) }) in
              let are : visits t ≡ visits (rows_tree d.read) ++ (visits u ++ visits (rows_tree others)) =
              ap visits f.are ∙ ap (λ (z : List Tree). visits (rows_tree z)) p ∙ visits_more d.read u others in
              inl (n.0, front_same (sym are) (front_then (visits (rows_tree d.read)) (front_first (visits (rows_tree others)) n.1)))
            where
              due : ((length f.rows < start.rows.left) × BeginsNoneAt row start.depth rest) ⊎ ((length f.rows ≡ start.rows.left) × (rest ≢ [])) → 0 < reader.rows.left
              due (inl q) =
                  let all : start.rows.left ≡ length d.read + reader.rows.left = d.numbered in
                  let longer : length f.rows ≡ length d.read + suc (length others) = ap length p ∙ length-append d.read (u ∷ others) in
                  let fits : length f.rows < start.rows.left = q.0 in omega arith
              due (inr q) =
                  let all : start.rows.left ≡ length d.read + reader.rows.left = d.numbered in
                  let longer : length f.rows ≡ length d.read + suc (length others) = ap length p ∙ length-append d.read (u ∷ others) in
                  let full : length f.rows ≡ start.rows.left = q.0 in omega arith

          shorter : length f.rows < length d.read → RowsAhead row f.rows rest d.read reader.rows.rest → ⊥
          shorter h (RowsAhead.same p q) = let same : length d.read ≡ length f.rows = ap length p in omega (arith, h)
          shorter h (RowsAhead.more u others left p b) = by f.missing
            where
              by : ((length f.rows < start.rows.left) × BeginsNoneAt row start.depth rest) ⊎ ((length f.rows ≡ start.rows.left) × (rest ≢ [])) → ⊥
              by (inl q) =
                  let Q : List Tree → Type 0 = λ z. AllShallow start.depth (rows_tree z) in
                  q.1.none left u (record { begins = b; shallow = all_middle start.depth f.rows u others (subst Q p shallow) })
              by (inr q) =
                  let all : start.rows.left ≡ length d.read + reader.rows.left = d.numbered in
                  let full : length f.rows ≡ start.rows.left = q.0 in omega (arith, h)

          go : (length f.rows < length d.read) ⊎ (length d.read ≤ length f.rows) → MadeUpTo e (visits (rows_tree d.read) ++ mid) (visits t) rest
          go (inl h) = absurd (shorter h (rows_ahead is_sound is_closed f.front d.before (λ k. absurd (omega (arith, h, k)))))
          go (inr h) = longer (rows_ahead is_sound is_closed d.before f.front (λ k. absurd (omega (arith, h, k))))

-- the rows so far are walked and added, and none opens a scope too many
pub record ShallowKept {S E : Type 0} (i : Ghosts S E) (row : Shape) (start : ScopedStanding) (s0 : S) (old : List Tree) (reader : ScopedStanding) (s : S) (new : List Tree) : Type 0 where
  pub rows : RowsKept i row start.rows s0 old reader.rows s new
  pub depth : reader.depth ≡ start.depth
  pub read : List Tree
  pub front : RowsBefore row start.rows.rest read reader.rows.rest
  pub numbered : start.rows.left ≡ length read + reader.rows.left
  pub shallow : AllShallow start.depth (rows_tree read)

module _ {S E : Type 0} (i : Ghosts S E) {row : Shape} {start : ScopedStanding} {s0 : S} {old : List Tree} where
  pub shallow_begun : IsItem row → sound row ≡ true → closed row ≡ true → ShallowKept i row start s0 old start s0 old
  shallow_begun item is_sound is_closed = record {
    rows = rows_begun i item is_sound is_closed;
    depth = refl;
    read = [];
    front = record { text = []; shaped = Is.nil; spelled = refl; stands = refl };
    numbered = omega arith;
    shallow = λ some. absurd (omega (arith, some));
  }

  module _ {reader : ScopedStanding} {s : S} {new : List Tree} (inv : ShallowKept i row start s0 old reader s new) where
    -- the rows that were walked are those
    walked_shallow : (k : IsTrue i.keeps_defaults) (c : ℕ) → AllShallow start.depth (rows_tree (inv.rows.default k c).read)
    walked_shallow k c = go (rows_ahead inv.rows.is_sound inv.rows.is_closed d.before inv.front (λ h. absurd (omega (arith, h, all, d.numbered))))
      where
        d : RowsDone (asks i) c row start.rows s0 old reader.rows s new
        d = inv.rows.default k c

        all : start.rows.left ≡ length inv.read + reader.rows.left
        all = inv.numbered

        go : RowsAhead row d.read reader.rows.rest inv.read reader.rows.rest → AllShallow start.depth (rows_tree d.read)
        go (RowsAhead.same p q) = let P : List Tree → Type 0 = λ z. AllShallow start.depth (rows_tree z) in subst P p inv.shallow
        go (RowsAhead.more u others left p b) =
            let longer : length inv.read ≡ length d.read + suc (length others) = ap length p ∙ length-append d.read (u ∷ others) in
            absurd (omega (arith, longer, all, d.numbered))

    pub shallow_ended : {reader' : Standing} → RowsEnded reader.rows reader' → ShallowRowsClauses i row start s0 old s new (Ok tt)
    shallow_ended ended =
        let base : RowsClauses i row start.rows s0 old s new (Ok tt) = rows_ended i inv.rows ended in record {
          kept = base.kept;
          default = λ k c.
              let d = inv.rows.default k c in record {
                reading = λ rows all. (base.default k c).reading rows all.left;
                readable = (rows_tree d.read, record { left = d.so_far.forth Tree.nil (rows_end ended.counted ended.filled); shallow = walked_shallow k c });
                unreadable = tt;
                refusal = tt;
              };
          after_error = λ k. tt;
          wants = λ k sure c. tt;
        }

    -- no row is there
    pub shallow_stuck : (f : Fault) → ReadsNoneOrWants f (place_of reader.rows) (ScopedMissing row reader) → (r : Result (Unit {0}) (Error E)) → IsErrAnd r (λ y. y ≡ error_of_fault f) →
        ShallowRowsClauses i row start s0 old s new r
    shallow_stuck f missing r q =
        let P : Result (Unit {0}) (Error E) → Type 0 = λ z. ShallowRowsClauses i row start s0 old s new z in
        subst P (answers r q) (record {
          kept = inv.rows.kept;
          default = λ k c. record {
            reading = λ rows all.
                let d = inv.rows.default k c in
                let b = d.so_far.back rows all.left in record {
                  read = d.read;
                  others = b.0;
                  made = d.made;
                  at = s;
                  parts = b.1;
                  accepts = d.accepts;
                  counted = d.counted;
                  gains = d.gains;
                  refuses = λ other. absurd (never f missing other b.0 b.2 (behind d.read b.0 rows b.1 all.shallow));
                };
            readable = tt;
            unreadable = parse k c f missing;
            refusal = fault_unrefused E _ f;
          };
          after_error = λ k told.
              shallow_leave (asks i) start reader (inv.rows.default k 0) inv.rows.item inv.rows.is_sound inv.rows.is_closed (walked_shallow k 0) (error_of_fault f) [] (ended_all {a = []} (error_of_fault f) (fault_unasked E f) refl) drawn_none
              (λ others all. front_none (visits others)) (λ t left due there. (known f missing t left due there, front_none (visits t)));
          wants = λ k sure c h. rows_held (inv.rows.default k c) refl (AskedRow.nothing refl);
        })
      where
        at_depth : {t : Tree} → Shallow start.depth t → Shallow reader.depth t
        at_depth {t = t} h = let P : ℕ → Type 0 = λ n. Shallow n t in subst P (sym inv.depth) h

        behind : (ts : List Tree) (u rows : Tree) → rows ≡ rows_then ts u → AllShallow start.depth rows → AllShallow reader.depth u
        behind ts u rows is h = let P : Tree → Type 0 = λ z. AllShallow start.depth z in λ some. at_depth (all_behind start.depth ts u (subst P is h) some)

        stops : ScopedMissing row reader → (t : Tree) → RowsLeft row reader.rows.left reader.rows.rest t → AllShallow reader.depth t → ⊥
        stops h t r low = by h.here
          where
            by : ((0 < reader.rows.left) × BeginsNoneAt row reader.depth reader.rows.rest) ⊎ ((reader.rows.left ≡ 0) × (reader.rows.rest ≢ [])) → ⊥
            by (inl q) =
                let some : 0 < reader.rows.left = q.0 in
                let all : count t ≡ reader.rows.left = r.counted in
                h.rows.none t r (low (omega (arith, some, all)))
            by (inr q) = (no_rows_behind q.0 q.1).none t r

        never : (f : Fault) → ReadsNoneOrWants f (place_of reader.rows) (ScopedMissing row reader) → error_of_fault {E = E} f ≢ NoMemory → (t : Tree) → RowsLeft row reader.rows.left reader.rows.rest t →
            AllShallow reader.depth t → ⊥
        never (fault.Read x) h other t r low = stops h.1 t r low
        never fault.NoMemory h other t r low = other refl
        never fault.CodeSize h other t r low = h
        never (fault.Header k) h other t r low = h

        known : (f : Fault) → ReadsNoneOrWants f (place_of reader.rows) (ScopedMissing row reader) → (t : Tree) (left : List ℕ) → 0 < reader.rows.left → BeginsAt row start.depth reader.rows.rest t left →
            ¬ TellsFault (error_of_fault {E = E} f)
        known (fault.Read x) h t left due there = absurd (by h.1.here)
          where
            by : ((0 < reader.rows.left) × BeginsNoneAt row reader.depth reader.rows.rest) ⊎ ((reader.rows.left ≡ 0) × (reader.rows.rest ≢ [])) → ⊥
            by (inl q) = q.1.none left t (record { begins = there.begins; shallow = at_depth there.shallow })
            by (inr q) = let empty : reader.rows.left ≡ 0 = q.0 in omega (arith, due)
        known fault.NoMemory h t left due there = λ p. p
        known fault.CodeSize h t left due there = absurd h
        known (fault.Header k) h t left due there = absurd h

        parse : IsTrue i.keeps_defaults → (c : ℕ) (f : Fault) → ReadsNoneOrWants f (place_of reader.rows) (ScopedMissing row reader) →
            IfParse (error_of_fault {E = E} f) (ShallowFault (asks i) c row start (s0, old) (s, new))
        parse k c (fault.Read x) h =
            let d = inv.rows.default k c in record {
              none = λ rows all. let b = d.so_far.back rows all.left in stops h.1 b.0 b.2 (behind d.read b.0 rows b.1 all.shallow);
              front = rows_tree d.read;
              rest = reader.rows.rest;
              up_to = record { rows = d.read; are = refl; front = d.before; shallow = walked_shallow k c; missing = gone d.read d.numbered h.1.here };
              made = d.made;
              state = s;
              place = h.0 ∙ ap (λ (n : ℕ). n - length reader.rows.rest) d.len;
              accepts = d.accepts;
              gains = d.gains;
            }
          where
            gone : (ts : List Tree) → start.rows.left ≡ length ts + reader.rows.left →
                ((0 < reader.rows.left) × BeginsNoneAt row reader.depth reader.rows.rest) ⊎ ((reader.rows.left ≡ 0) × (reader.rows.rest ≢ [])) →
                ((length ts < start.rows.left) × BeginsNoneAt row start.depth reader.rows.rest) ⊎ ((length ts ≡ start.rows.left) × (reader.rows.rest ≢ []))
            gone ts all (inl q) =
                let P : ℕ → Type 0 = λ n. BeginsNoneAt row n reader.rows.rest in
                let some : 0 < reader.rows.left = q.0 in inl (omega (arith, all, some), subst P inv.depth q.1)
            gone ts all (inr q) = let empty : reader.rows.left ≡ 0 = q.0 in inr (omega (arith, all, empty), q.1)
        parse k c fault.NoMemory h = tt
        parse k c fault.CodeSize h = absurd h
        parse k c (fault.Header x) h = absurd h

    module _ {stands : Tree → Type 0} {reader' : ScopedStanding} (read : ScopedRead row stands reader reader') {m : S} {new' : List Tree} where
      -- the next row was mapped, and added
      pub shallow_added : RowClauses i read.reads.tree s new m new' (Ok tt) → ShallowKept i row start s0 old reader' m new'
      shallow_added given = record {
        rows = rows_added i inv.rows (plain_read read) given;
        depth = read.depth ∙ inv.depth;
        read = inv.read ++ read.reads.tree ∷ [];
        front = before_more inv.front read.reads.begins.begins;
        numbered =
            let longer : length (inv.read ++ read.reads.tree ∷ []) ≡ length inv.read + 1 = length-append inv.read (read.reads.tree ∷ []) in
            let less : reader.rows.left ≡ reader'.rows.left + 1 = read.counted in
            let all : start.rows.left ≡ length inv.read + reader.rows.left = inv.numbered in
            omega arith;
        shallow = all_more start.depth inv.read read.reads.tree inv.shallow low;
      }
        where
          low : Shallow start.depth read.reads.tree
          low = let P : ℕ → Type 0 = λ n. Shallow n read.reads.tree in subst P inv.depth read.reads.begins.shallow

      -- the next row is refused
      pub shallow_refused : (e : Error E) → RowClauses i read.reads.tree s new m new' (Err e) → (r : Result (Unit {0}) (Error E)) → IsErrAnd r (λ y. y ≡ e) → ShallowRowsClauses i row start s0 old m new' r
      shallow_refused e given r q =
          let P : Result (Unit {0}) (Error E) → Type 0 = λ z. ShallowRowsClauses i row start s0 old m new' z in
          let base : RowsClauses i row start.rows s0 old m new' (Err e) = rows_refused_at i inv.rows (plain_read read) e given (Err e) refl in
          subst P (answers r q) (record {
            kept = base.kept;
            default = λ k c. record {
              reading = λ rows all. (base.default k c).reading rows all.left;
              readable = tt;
              unreadable = IfParse-map e (λ at never. absurd never) (row_usual i.reply i.next c e (plain_read read) (given.default k c).1);
              refusal =
                  let P : List Tree → Type 0 = λ z. IfRefused e (StopsShallow (asks i) c row start (s0, old) e (m, z)) in
                  subst P (sym (given.default k c).0) (unless_wanting e (λ other. stops k c ((given.default k c).1 other)));
            };
            after_error = λ k told.
                let stops = (given.default k 0).1 in
                next_left k (row_made i.reply i.next 0 e stops (λ h. given.after_error k (told h))) (tells_none e (row_usual i.reply i.next 0 e (plain_read read) stops));
            wants = base.wants;
          })
        where
          stops : (k : IsTrue i.keeps_defaults) (c : ℕ) → (walk (asks i) c s read.reads.tree ≡ refused e m) ⊎ TooLargeMade (asks i) s read.reads.tree (length new) e m →
              StopsShallow (asks i) c row start (s0, old) e (m, new)
          stops k c h =
              let d = inv.rows.default k c in
              let here = read.reads.begins.begins in
              let less : reader.rows.left ≡ reader'.rows.left + 1 = read.counted in
              let all : start.rows.left ≡ length d.read + reader.rows.left = d.numbered in
              record {
                stops = record {
                  read = d.read;
                  rest = reader.rows.rest;
                  made = d.made;
                  state = s;
                  front = d.before;
                  due = omega (arith, less, all);
                  accepts = d.accepts;
                  counted = d.counted;
                  gains = d.gains;
                  refuses = inl (record {
                    tree = read.reads.tree;
                    left = reader'.rows.rest;
                    begins = here;
                    refusal = large_is_many (asks i) c s m read.reads.tree here.text (length new) e here.spells.spelled h;
                  });
                };
                shallow = walked_shallow k c;
                next = λ u left there. low (begins_unique inv.rows.is_sound inv.rows.is_closed here there).0;
              }
            where
              low : {u : Tree} → read.reads.tree ≡ u → Shallow start.depth u
              low is =
                  let P : Tree → Type 0 = λ z. Shallow start.depth z in
                  let Q : ℕ → Type 0 = λ n. Shallow n read.reads.tree in
                  subst P is (subst Q inv.depth read.reads.begins.shallow)

          next_left : (k : IsTrue i.keeps_defaults) → PartMade (asks i) s (visits read.reads.tree) e m → ¬ TellsFault e → Leaves (asks i) (shallow_rows_in row start) s0 e m
          next_left k p tells =
              shallow_leave (asks i) start reader (inv.rows.default k 0) inv.rows.item inv.rows.is_sound inv.rows.is_closed (walked_shallow k 0) e p.part p.ended (drawn_made p.front (drawn_begun inv.rows.item read.reads.begins.begins)) whole next
            where
              whole : (others : Tree) → RowsLeft row reader.rows.left reader.rows.rest others → IsFront p.part (visits others)
              whole others all =
                  let less : reader.rows.left ≡ reader'.rows.left + 1 = read.counted in
                  let f = rows_first {n = reader'.rows.left} inv.rows.is_sound inv.rows.is_closed (omega arith) read.reads.begins.begins others all in
                  front_same (sym (ap visits f.1)) (front_first (visits f.0) p.front)

              next : (u : Tree) (left : List ℕ) → 0 < reader.rows.left → BeginsAt row start.depth reader.rows.rest u left → (¬ TellsFault e) × IsFront p.part (visits u)
              next u left due there =
                  let here = read.reads.begins.begins in
                  let one = unique here.spells.shaped there.begins.spells.shaped here.text there.begins.text reader'.rows.rest left inv.rows.is_sound (inl inv.rows.is_closed) here.spells.spelled there.begins.spells.spelled (sym here.reads ∙ there.begins.reads) in
                  (tells, front_same (ap visits one.1) p.front)
