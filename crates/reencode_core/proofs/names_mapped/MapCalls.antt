-- From the calls of a closure over a reencoder to the walk of the reencoder over a map.
--
-- `see f` is the reencoder that the closure f holds, and `name f` the name of its reference. A call of the closure answers what
-- `asked` gives at an index of the space, and keeps the name: that is `one`. The entries of the map are an index, and behind it
-- `body`, which asks nothing.
use Rattle.std.proofs.Common.{◌≡◌, ◌≢◌, ℕ, ◌+◌, ◌<◌, ◌⊎◌, List, [], ◌∷◌, ◌++◌, length, map, true, Option, Some, None, Result, Ok, Err, IfOk, IfErr, refl, sym, ap, ap₂, subst, ◌∙◌, append_assoc, inl, inr, arith}
use Rattle.std.proofs.lemmas.List.{length-map}
use Rattle.wasm_shapes.specs.declared.Space.{Space}
use Rattle.wasm_shapes.specs.declared.Visit.{Visit}
use Rattle.wasm_shapes.specs.declared.Visit.TheVariants.{Index}
use Rattle.wasm_shapes.specs.Drawn.{Drawn, IsItem}
use Rattle.wasm_shapes.specs.Tree.{Tree, visits}
use Rattle.wasm_shapes.proofs.Drawn.{drawn_begun, drawn_behind, drawn_joined, drawn_none, drawn_part}
use Rattle.wasm_shapes.specs.Shape.{Shape, closed}
use Rattle.wasm_shapes.specs.Sound.{sound}
use Rattle.wasm_shapes.specs.Spells.{Is, Spelled}
use Rattle.wasm_shapes.specs.Place.{Begins, BeginsNone}
use Rattle.wasm_shapes.specs.Rows.{rows_then}
use Rattle.wasm_shapes.specs.Types.{rows_tree, vector_tree}
use Rattle.wasm_shapes.specs.Module.{plain_naming}
use Rattle.wasm_shapes.specs.Namings.{asked_in}
use Rattle.wasm_read.specs.Names.{MapStanding, map_place, Due, DueFrom, EntriesLeft, FaultHere, EntryMissing, EntryRead}
use Rattle.wasm_read.proofs.NameMaps.{plain_row, asked_row, asked_from, due_behind, due_one, left_less, left_one, lists_one}
use Rattle.reencode_hooks.specs.declared.error.Error.{Error}
use Rattle.reencode_hooks.specs.declared.error.Error.TheVariants.{NoMemory}
use Rattle.reencode_hooks.specs.Run.{Step, accepted, refused, and_then, Gives, run}
use Rattle.reencode_hooks.specs.Walk.{walk}
use Rattle.reencode_hooks.proofs.Walks.{walk_is_run}
use Rattle.reencode_core.specs.Errors.{IfParse, IfRefused}
use Rattle.reencode_core.specs.Rows.{Asks, AcceptsRows, RowsBefore, onto_rows}
use Rattle.reencode_core.specs.NameMaps.{Asked, entry_of, entries_of, renamed, Calls, ReadTo, CallRefused, Unread, Wants, MapsEntries}
use Rattle.reencode_core.specs.Names.{EntriesRead, MapFault, StopsMap}
use Rattle.reencode_core.proofs.bodies.BodyLoop.{rows_missing}
use Rattle.reencode_core.specs.Leaves.{EndsBy, EntriesUpTo, IsFront, MadeUpTo, TellsFault}
use Rattle.reencode_core.proofs.names_mapped.EntriesAhead.{ahead_one, entries_ahead, none_ahead}
use Rattle.reencode_core.proofs.after_error.VisitsMade.{Unasked, ended_all, ended_behind, front_none, front_same, front_then, made_then, tells_none, wants_tells_none}
use Rattle.reencode_core.proofs.after_error.RowsVisited.{visits_behind}
use Rattle.reencode_core.proofs.names_mapped.MapLoops.{left_front}
use Rattle.reencode_core.proofs.rows_walked.RowLoop.{onto_nothing}
use Rattle.reencode_core.proofs.faults.WalkRefusals.{Usual, stops_usual, unless_wanting}

-- ---- what the lemmas give

-- What the calls were is what the walk of the entries gives, with their indices asked for.
pub record GivesMap {S E : Type 0} (asked : Asks S E) (c : ℕ) (p : Space) (body : Shape) (m : MapStanding) (s k : S) (result : Result (List Tree) (Error E)) : Type 0 where
  pub reading : (ts : List Tree) → EntriesLeft (plain_row body) m (rows_tree ts) →
      Gives (walk asked c s (vector_tree (map (asked_in p) ts))) (λ es. vector_tree (map (asked_in p) es)) k result
  pub readable : IfOk result (λ _. (ts : List Tree) × EntriesLeft (plain_row body) m (rows_tree ts))
  pub unreadable : IfErr result (λ e. IfParse e (λ at. ((rows : Tree) → EntriesLeft (plain_row body) m rows → ⊥) × MapFault asked c (asked_row p body) m s k at))
  pub refusal : IfErr result (λ e. IfRefused e (StopsMap asked c (asked_row p body) m s e k))

-- What stands behind the index of an entry asks nothing, and such entries are told apart.
pub record Quiet {S E : Type 0} (asked : Asks S E) (body : Shape) : Type 0 where
  pub passes : sound (plain_row body) ≡ true
  pub ends : closed (plain_row body) ≡ true
  pub walks : (c : ℕ) (s : S) (t : Tree) → Is body t → walk asked c s t ≡ accepted t s

-- These visits were made when an error came: drawn from what the map has left, and of its entries, if it is such, a front part; if it is
-- none, a front part of those of the entries in front of the fault, or all of these and then some that are drawn from what is left there.
pub record MapLeaves {S E : Type 0} (asked : Asks S E) (p : Space) (body : Shape) (m : MapStanding) (s : S) (e : Error E) (k : S) : Type 0 where
  pub made : List Visit
  pub ended : EndsBy asked s made e k
  pub drawn : Drawn m.rest made
  pub reading : (ts : List Tree) → EntriesLeft (plain_row body) m (rows_tree ts) → IsFront made (visits (rows_tree (map (asked_in p) ts)))
  pub fault : (t : Tree) (rest : List ℕ) → EntriesUpTo (asked_row p body) m t rest → MadeUpTo e made (visits t) rest

-- what is drawn from where entries are due is drawn from what the map has left
pub due_drawn : (m : MapStanding) (n : ℕ) (bytes : List ℕ) (vs : List Visit) → Due m n bytes → Drawn bytes vs → Drawn m.rest vs
due_drawn m n bytes vs d drawn = go m.left d
  where
    go : (left : Option ℕ) → DueFrom m.rest left n bytes → Drawn m.rest vs
    go None d = drawn_behind d.0 bytes d.2 drawn
    go (Some k) d = let P : List ℕ → Type 0 = λ z. Drawn z vs in subst P d.1 drawn

-- the visits of entries that were read, and others behind them
entries_drawn : {row : Shape} → IsItem row → (ts : List Tree) (m n : MapStanding) (vs : List Visit) → EntriesRead row m ts n → Drawn n.rest vs → Drawn m.rest (visits (rows_tree ts) ++ vs)
entries_drawn item [] m n vs r d = let P : MapStanding → Type 0 = λ z. Drawn z.rest vs in subst P (sym r) d
entries_drawn item (t ∷ ts) m n vs r d =
    let one = r.1 in
    let others = entries_drawn item ts r.0 n vs r.2 d in
    let here : Drawn one.bytes (visits t ++ (visits (rows_tree ts) ++ vs)) =
    drawn_joined one.bytes (visits t) (visits (rows_tree ts) ++ vs) (drawn_begun item one.begins) (drawn_behind one.begins.text r.0.rest one.begins.reads others) in
    let P : List Visit → Type 0 = λ z. Drawn m.rest z in
    subst P (sym (append_assoc (visits t) (visits (rows_tree ts)) vs)) (due_drawn m (one.left + 1) one.bytes (visits t ++ (visits (rows_tree ts) ++ vs)) one.due here)

-- ---- what asks nothing

module _ {S E : Type 0} (asked : Asks S E) where
  name_walks : (c : ℕ) (s : S) (t : Tree) → Is Shape.name t → walk asked c s t ≡ accepted t s
  name_walks c s t Is.name = refl

  naming_walks : (c : ℕ) (s : S) (t : Tree) → Is plain_naming t → walk asked c s t ≡ accepted t s
  naming_walks c s t (Is.seq Is.u32 Is.name) = refl

  namings_walk : (c : ℕ) (s : S) (t : Tree) → Is (Shape.many plain_naming) t → walk asked c s t ≡ accepted t s
  namings_walk c s t Is.nil = refl
  namings_walk c s t (Is.cons {t = x} {u = u} d d') =
      let first = naming_walks c s x d in
      let others = namings_walk c s u d' in
      rw (first, others) refl

  map_walks : (c : ℕ) (s : S) (t : Tree) → Is (Shape.vec plain_naming) t → walk asked c s t ≡ accepted t s
  map_walks c s t (Is.vec {t = u} d) = let rows = namings_walk c s u d in rw rows refl

  -- a name, and a map of names
  pub quiet_name : Quiet asked Shape.name
  quiet_name = record { passes = refl; ends = refl; walks = name_walks }

  pub quiet_map : Quiet asked (Shape.vec plain_naming)
  quiet_map = record { passes = refl; ends = refl; walks = map_walks }

-- ---- rows whose index is asked for

onto_more : {S E : Type 0} (t : Tree) (ts : List Tree) (step : Step S (Error E) Tree) → and_then (onto_rows ts step) (λ u m. accepted (Tree.cons t u) m) ≡ onto_rows (t ∷ ts) step
onto_more t ts (accepted u m) = refl
onto_more t ts (refused e m) = refl

body_is : {body : Shape} {i : ℕ} {t : Tree} → Is (plain_row body) (entry_of i t) → Is body t
body_is (Is.seq d d') = d'

asked_is : {body : Shape} (p : Space) {i : ℕ} {t : Tree} → Is (plain_row body) (entry_of i t) → Is (asked_row p body) (Tree.pair (Tree.ix p i) t)
asked_is p (Is.seq d d') = Is.seq Is.ix d'

begins_asked : {body : Shape} (p : Space) {i : ℕ} {t : Tree} {bytes left : List ℕ} → Begins (plain_row body) bytes (entry_of i t) left →
    Begins (asked_row p body) bytes (Tree.pair (Tree.ix p i) t) left
begins_asked p b = record { text = b.text; spells = record { shaped = asked_is p b.spells.shaped; spelled = b.spells.spelled }; reads = b.reads }

-- the entries that were read, by rows whose index is asked for, and what is due behind them
record Front (p : Space) (body : Shape) (m n : MapStanding) (asks : List Asked) (left : ℕ) (bytes : List ℕ) : Type 0 where
  pub count : ℕ
  pub start : List ℕ
  pub due : Due m count start
  pub counted : count ≡ length asks + left
  pub before : RowsBefore (asked_row p body) start (map (asked_in p) (entries_of asks)) bytes

front : (p : Space) {body : Shape} (asks : List Asked) {m n : MapStanding} (left : ℕ) (bytes : List ℕ) → ReadTo (plain_row body) m asks n → Due n left bytes → Front p body m n asks left bytes
front p [] {m = m} {n = n} left bytes r d =
    let P : MapStanding → Type 0 = λ k. Due k left bytes in record {
      count = left;
      start = bytes;
      due = subst P (sym r) d;
      counted = omega arith;
      before = record { text = []; shaped = Is.nil; spelled = refl; stands = refl };
    }
front p (a ∷ asks) left bytes r d =
    let one = r.1 in
    let b = begins_asked p one.begins in
    let others = front p asks left bytes r.2 d in
    let same = due_one r.0 others.count one.left others.start r.0.rest others.due (due_behind one) in
    let number : others.count ≡ one.left = same.0 in
    let long = others.counted in
    let here : one.bytes ≡ (b.text ++ others.before.text) ++ bytes =
    b.reads ∙ ap (λ (z : List ℕ). b.text ++ z) (sym same.1 ∙ others.before.stands) ∙ sym (append_assoc b.text others.before.text bytes) in
    record {
      count = one.left + 1;
      start = one.bytes;
      due = one.due;
      counted = omega arith;
      before = record {
        text = b.text ++ others.before.text;
        shaped = Is.cons b.spells.shaped others.before.shaped;
        spelled = (b.text, others.before.text, refl, b.spells.spelled, others.before.spelled);
        stands = here;
      };
    }

-- rows of which a front was read, and those behind it
abbrev Behind : Space → List Asked → List Tree → Tree → Type 0
Behind p asks ts x = (us : List Tree) × (x ≡ rows_tree us) × (rows_then (map (asked_in p) (entries_of asks)) (rows_tree (map (asked_in p) us)) ≡ rows_tree (map (asked_in p) ts))

behind_more : (p : Space) (a : Asked) (t : Tree) (asks : List Asked) (ts : List Tree) (x : Tree) → entry_of a.index a.named ≡ t → Behind p asks ts x → Behind p (a ∷ asks) (t ∷ ts) x
behind_more p a t asks ts x e b = (b.0, b.1, ap₂ Tree.cons (ap (asked_in p) e) b.2)

behind : (p : Space) (asks : List Asked) (ts : List Tree) (x : Tree) → rows_then (entries_of asks) x ≡ rows_tree ts → Behind p asks ts x
behind p [] ts x e = (ts, e, refl)
behind p (a ∷ asks) [] x e = absurd cc
behind p (a ∷ asks) (t ∷ ts) x e =
    let head : entry_of a.index a.named ≡ t = cc in
    let tail : rows_then (entries_of asks) x ≡ rows_tree ts = cc in
    behind_more p a t asks ts x head (behind p asks ts x tail)

-- entries that were read have their shape
reads_are : {body : Shape} (asks : List Asked) (m n : MapStanding) → ReadTo (plain_row body) m asks n → Is (Shape.many (plain_row body)) (rows_tree (entries_of asks))
reads_are [] m n r = Is.nil
reads_are (a ∷ asks) m n r = let one = r.1 in Is.cons one.begins.spells.shaped (reads_are asks r.0 n r.2)

-- an entry that was read, by a row whose index is asked for
entry_asked : {body : Shape} (p : Space) {m n : MapStanding} {i : ℕ} {t : Tree} → EntryRead (plain_row body) m (entry_of i t) n → EntryRead (asked_row p body) m (Tree.pair (Tree.ix p i) t) n
entry_asked p one = record { left = one.left; bytes = one.bytes; due = one.due; fits = one.fits; begins = begins_asked p one.begins; counts = one.counts; len = one.len }

-- the same of all that were read
read_asked : (p : Space) (body : Shape) (asks : List Asked) (m n : MapStanding) → ReadTo (plain_row body) m asks n → EntriesRead (asked_row p body) m (map (asked_in p) (entries_of asks)) n
read_asked p body [] m n r = r
read_asked p body (a ∷ asks) m n r =
    (r.0, entry_asked p r.1, read_asked p body asks r.0 n r.2)

-- none begins as such a row either, and none are left
none_asked : {body : Shape} (p : Space) {bytes : List ℕ} → BeginsNone (plain_row body) bytes → BeginsNone (asked_row p body) bytes
none_asked {body = body} p {bytes = bytes} none = record { none = λ text left t q e. go text left t q.shaped q.spelled e }
  where
    go : (text left : List ℕ) (t : Tree) → Is (asked_row p body) t → Spelled t text → bytes ≡ text ++ left → ⊥
    go text left t (Is.seq {u = u} (Is.ix {i = i}) d) q e = none.none text left (entry_of i u) (record { shaped = Is.seq Is.u32 d; spelled = q }) e

here_asked : {body : Shape} (p : Space) {m : MapStanding} → FaultHere (plain_row body) m → FaultHere (asked_row p body) m
here_asked p (inl h) = inl h
here_asked {body = body} p {m = m} (inr (n, b, d, r)) = inr (n, b, d, rows_missing (row r.here))
  where
    row : ((0 < n) × BeginsNone (plain_row body) b) ⊎ ((n ≡ 0) × (b ≢ [])) → ((0 < n) × BeginsNone (asked_row p body) b) ⊎ ((n ≡ 0) × (b ≢ []))
    row (inl h) = inl (h.0, none_asked p h.1)
    row (inr h) = inr h

missing_asked : {body : Shape} (p : Space) {m : MapStanding} → EntryMissing (plain_row body) m → EntryMissing (asked_row p body) m
missing_asked p r = record {
  here = here_asked p r.here;
  none = λ rows w. let a = asked_from w.rows_left in r.none (rows_tree a.plain) (record { count = w.count; bytes = w.bytes; due = w.due; rows_left = a.left });
}

-- ---- what each call keeps

-- Where each call keeps a fact of the closure, the calls were such as it makes them.
module _ {F E : Type 0} (step call : F → ℕ → Result ℕ (Error E) → F → Type 0) (Fact : F → Type 0)
    (one : (f : F) (i : ℕ) (r : Result ℕ (Error E)) (g : F) → Fact f → step f i r g → call f i r g × Fact g) where
  calls_kept : (asks : List Asked) (f g : F) → Fact f → Calls step f asks g → Calls call f asks g × Fact g
  calls_kept [] f g h c = (c, subst Fact c h)
  calls_kept (a ∷ asks) f g h c =
      let first = one f a.index (Ok a.answer) c.0 h c.1 in
      let others = calls_kept asks c.0 g first.1 c.2 in
      ((c.0, first.0, others.0), others.1)

  refused_kept : {row : Shape} {rest : MapStanding} {f g : F} {e : Error E} → Fact f → CallRefused row step rest f g e → CallRefused row call rest f g e
  refused_kept {f = f} {g = g} {e = e} h r = record { index = r.index; named = r.named; behind = r.behind; read = r.read; call = (one f r.index (Err e) g h r.call).0 }

  pub maps_kept : (row : Shape) (m : MapStanding) (f g : F) (result : Result (List Tree) (Error E)) → Fact f → MapsEntries row step m f g result → MapsEntries row call m f g result
  maps_kept row m f g (Ok es) h w = record { asked = w.asked; whole = w.whole; calls = (calls_kept w.asked f g h w.calls).0; answers = w.answers }
  maps_kept row m f g (Err e) h w = record { asked = w.asked; rest = w.rest; reads = w.reads; between = w.between; calls = calls.0; why = why w.why }
    where
      calls : Calls call f w.asked w.between × Fact w.between
      calls = calls_kept w.asked f w.between h w.calls

      why : CallRefused row step w.rest w.between g e ⊎ Unread row m w.rest w.between g e ⊎ Wants w.between g e →
          CallRefused row call w.rest w.between g e ⊎ Unread row m w.rest w.between g e ⊎ Wants w.between g e
      why (inl r) = inl (refused_kept calls.1 r)
      why (inr other) = inr other

-- ---- the calls and the walk

module _ {F S E : Type 0} (step : F → ℕ → Result ℕ (Error E) → F → Type 0) (see : F → S) (name : F → ℕ) (asked : Asks S E) (p : Space) {body : Shape} (quiet : Quiet asked body)
    (usual : (s : S) (i : ℕ) → Usual (asked s (Index p i)))
    (one : (f : F) (i : ℕ) (r : Result ℕ (Error E)) (g : F) → step f i r g → Gives (asked (see f) (Index p i)) (λ n. n) (see g) r × (name g ≡ name f)) where
  -- ---- the name

  calls_name : (asks : List Asked) (f g : F) → Calls step f asks g → name g ≡ name f
  calls_name [] f g c = ap name (sym c)
  calls_name (a ∷ asks) f g c = calls_name asks c.0 g c.2 ∙ (one f a.index (Ok a.answer) c.0 c.1).1

  -- the reference is kept
  pub keeps_name : (m : MapStanding) (f g : F) (result : Result (List Tree) (Error E)) → MapsEntries (plain_row body) step m f g result → name g ≡ name f
  keeps_name m f g (Ok es) h = calls_name h.asked f g h.calls
  keeps_name m f g (Err e) h = by h.why
    where
      by : CallRefused (plain_row body) step h.rest h.between g e ⊎ Unread (plain_row body) m h.rest h.between g e ⊎ Wants h.between g e → name g ≡ name f
      by (inl r) = (one h.between r.index (Err e) g r.call).1 ∙ calls_name h.asked f h.between h.calls
      by (inr (inl u)) = ap name u.state ∙ calls_name h.asked f h.between h.calls
      by (inr (inr w)) = ap name w.state ∙ calls_name h.asked f h.between h.calls

  -- ---- entries that were accepted

  entry_walk : (c : ℕ) (s k : S) (i j : ℕ) (t : Tree) → Is body t → asked s (Index p i) ≡ accepted j k → walk asked c s (Tree.pair (Tree.ix p i) t) ≡ accepted (Tree.pair (Tree.ix p j) t) k
  entry_walk c s k i j t d h = let still = quiet.walks c k t d in rw (h, still) refl

  entry_stops : (c : ℕ) (s k : S) (i : ℕ) (t : Tree) (e : Error E) → asked s (Index p i) ≡ refused e k → walk asked c s (Tree.pair (Tree.ix p i) t) ≡ refused e k
  entry_stops c s k i t e h = rw h refl

  cons_walk : (c : ℕ) (s k : S) (t u x : Tree) → walk asked c s t ≡ accepted u k → walk asked c s (Tree.cons t x) ≡ and_then (walk asked c k x) (λ y m. accepted (Tree.cons u y) m)
  cons_walk c s k t u x h = rw h refl

  cons_stops : (c : ℕ) (s k : S) (t x : Tree) (e : Error E) → walk asked c s t ≡ refused e k → walk asked c s (Tree.cons t x) ≡ refused e k
  cons_stops c s k t x e h = rw h refl

  calls_walk : (c : ℕ) (asks : List Asked) (f g : F) → Is (Shape.many (plain_row body)) (rows_tree (entries_of asks)) → Calls step f asks g →
      AcceptsRows asked c (see f) (map (asked_in p) (entries_of asks)) (map (asked_in p) (renamed asks)) (see g)
  calls_walk c [] f g d k = λ others. ap (λ (h : F). walk asked c (see h) others) k ∙ onto_nothing asked _
  calls_walk c (a ∷ asks) f g (Is.cons d d') k = λ others.
      let y : Tree = Tree.pair (Tree.ix p a.answer) a.named in
      let here = entry_walk c (see f) (see k.0) a.index a.answer a.named (body_is d) (one f a.index (Ok a.answer) k.0 k.1).0 in
      let rest : Tree = rows_then (map (asked_in p) (entries_of asks)) others in
      cons_walk c (see f) (see k.0) (Tree.pair (Tree.ix p a.index) a.named) y rest here
      ∙ ap (λ (q : Step S (Error E) Tree). and_then q (λ u m. accepted (Tree.cons y u) m)) (calls_walk c asks k.0 g d' k.2 others)
      ∙ onto_more y (map (asked_in p) (renamed asks)) (walk asked c (see g) others)

  -- ---- the clauses

  vec_walk : (c : ℕ) (s k : S) (t u : Tree) → walk asked c s t ≡ accepted u k → walk asked c s (Tree.vec t) ≡ accepted (Tree.vec u) k
  vec_walk c s k t u h = rw h refl

  vec_stops : (c : ℕ) (s k : S) (t : Tree) (e : Error E) → walk asked c s t ≡ refused e k → walk asked c s (Tree.vec t) ≡ refused e k
  vec_stops c s k t e h = rw h refl

  reading_ok : (c : ℕ) (m : MapStanding) (f g : F) (asks : List Asked) (es ts : List Tree) → EntriesLeft (plain_row body) m (rows_tree (entries_of asks)) →
      Calls step f asks g → es ≡ renamed asks → EntriesLeft (plain_row body) m (rows_tree ts) →
      walk asked c (see f) (vector_tree (map (asked_in p) ts)) ≡ accepted (vector_tree (map (asked_in p) es)) (see g)
  reading_ok c m f g asks es ts whole k a w =
      let same : entries_of asks ≡ ts = lists_one (entries_of asks) ts (left_one quiet.passes quiet.ends whole w) in
      let all : walk asked c (see f) (rows_tree (map (asked_in p) (entries_of asks))) ≡ accepted (rows_tree (map (asked_in p) (renamed asks))) (see g) =
      calls_walk c asks f g whole.rows_left.shaped k Tree.nil in
      let P : List Tree → Type 0 = λ z. walk asked c (see f) (rows_tree (map (asked_in p) z)) ≡ accepted (rows_tree (map (asked_in p) es)) (see g) in
      let Q : List Tree → Type 0 = λ z. walk asked c (see f) (rows_tree (map (asked_in p) (entries_of asks))) ≡ accepted (rows_tree (map (asked_in p) z)) (see g) in
      vec_walk c (see f) (see g) (rows_tree (map (asked_in p) ts)) (rows_tree (map (asked_in p) es)) (subst P same (subst Q (sym a) all))

  -- the entries of which there is a front, and those behind it
  parts : (m n : MapStanding) (asks : List Asked) (ts : List Tree) → ReadTo (plain_row body) m asks n → EntriesLeft (plain_row body) m (rows_tree ts) →
      (us : List Tree) × EntriesLeft (plain_row body) n (rows_tree us)
      × (rows_then (map (asked_in p) (entries_of asks)) (rows_tree (map (asked_in p) us)) ≡ rows_tree (map (asked_in p) ts))
  parts m n asks ts r w =
      let f = left_front quiet.passes quiet.ends asks r w in
      let g = behind p asks ts f.0 (sym f.1) in
      let P : Tree → Type 0 = λ z. EntriesLeft (plain_row body) n z in
      (g.0, subst P g.1 f.2, g.2)

  -- the first of the entries that are left is the one that was read
  next_part : (n k : MapStanding) (i : ℕ) (t : Tree) (us : List Tree) → EntryRead (plain_row body) n (entry_of i t) k → EntriesLeft (plain_row body) n (rows_tree us) →
      (x : Tree) × (Tree.cons (Tree.pair (Tree.ix p i) t) x ≡ rows_tree (map (asked_in p) us))
  next_part n k i t us r w = go us (left_less quiet.passes quiet.ends r w).1
    where
      go : (us : List Tree) {x : Tree} → rows_tree us ≡ Tree.cons (entry_of i t) x → (x : Tree) × (Tree.cons (Tree.pair (Tree.ix p i) t) x ≡ rows_tree (map (asked_in p) us))
      go [] e = absurd cc
      go (u ∷ us) e =
          let head : u ≡ entry_of i t = cc in
          (rows_tree (map (asked_in p) us), ap (λ (z : Tree). Tree.cons (asked_in p z) (rows_tree (map (asked_in p) us))) (sym head))

  reading_err : (c : ℕ) (m n k : MapStanding) (f b g : F) (asks : List Asked) (i : ℕ) (t : Tree) (e : Error E) (ts : List Tree) → ReadTo (plain_row body) m asks n → Calls step f asks b →
      EntryRead (plain_row body) n (entry_of i t) k → step b i (Err e) g → EntriesLeft (plain_row body) m (rows_tree ts) → e ≢ NoMemory →
      walk asked c (see f) (vector_tree (map (asked_in p) ts)) ≡ refused e (see g)
  reading_err c m n k f b g asks i t e ts r calls read call w wants =
      let q = parts m n asks ts r w in
      let z = next_part n k i t q.0 read q.1 in
      let stops : walk asked c (see b) (Tree.pair (Tree.ix p i) t) ≡ refused e (see g) = entry_stops c (see b) (see g) i t e ((one b i (Err e) g call).0 wants) in
      let first : walk asked c (see b) (Tree.cons (Tree.pair (Tree.ix p i) t) z.0) ≡ refused e (see g) = cons_stops c (see b) (see g) (Tree.pair (Tree.ix p i) t) z.0 e stops in
      let P : Tree → Type 0 = λ x. walk asked c (see b) x ≡ refused e (see g) in
      let rest : walk asked c (see b) (rows_tree (map (asked_in p) q.0)) ≡ refused e (see g) = subst P z.1 first in
      let all : walk asked c (see f) (rows_then (map (asked_in p) (entries_of asks)) (rows_tree (map (asked_in p) q.0))) ≡ refused e (see g) =
      calls_walk c asks f b (reads_are asks m n r) calls (rows_tree (map (asked_in p) q.0)) ∙ ap (onto_rows (map (asked_in p) (renamed asks))) rest in
      let Q : Tree → Type 0 = λ x. walk asked c (see f) x ≡ refused e (see g) in
      vec_stops c (see f) (see g) (rows_tree (map (asked_in p) ts)) e (subst Q q.2 all)

  stops_due : (c : ℕ) (m n k : MapStanding) (f b g : F) (asks : List Asked) (i : ℕ) (t : Tree) (e : Error E) → ReadTo (plain_row body) m asks n → Calls step f asks b →
      EntryRead (plain_row body) n (entry_of i t) k → step b i (Err e) g → e ≢ NoMemory → StopsMap asked c (asked_row p body) m (see f) e (see g)
  stops_due c m n k f b g asks i t e r calls read call wants =
      let front = front p asks (read.left + 1) read.bytes r read.due in
      let long = length-map (entries_of asks) (asked_in p) ∙ length-map asks (λ a. entry_of a.index a.named) in
      let counted = front.counted in
      record {
        count = front.count;
        start = front.start;
        due = front.due;
        stops = record {
          read = map (asked_in p) (entries_of asks);
          rest = read.bytes;
          made = map (asked_in p) (renamed asks);
          state = see b;
          before = front.before;
          accepts = calls_walk c asks f b (reads_are asks m n r) calls;
          next = Tree.pair (Tree.ix p i) t;
          left = k.rest;
          begins = begins_asked p read.begins;
          refuses = entry_stops c (see b) (see g) i t e ((one b i (Err e) g call).0 wants);
        };
        more = omega arith;
      }

  -- the calls of a walk over a map are the walk of the reencoder
  pub gives_map : (c : ℕ) (m : MapStanding) (f g : F) (result : Result (List Tree) (Error E)) → MapsEntries (plain_row body) step m f g result → GivesMap asked c p body m (see f) (see g) result
  gives_map c m f g (Ok es) h = record {
    reading = λ ts w. reading_ok c m f g h.asked es ts h.whole h.calls h.answers w;
    readable = (entries_of h.asked, h.whole);
    unreadable = tt;
    refusal = tt;
  }
  gives_map c m f g (Err e) h = record { reading = λ ts w n. reading ts w n h.why; readable = tt; unreadable = unreadable h.why; refusal = refusal h.why }
    where
      Why : Type 0
      Why = CallRefused (plain_row body) step h.rest h.between g e ⊎ Unread (plain_row body) m h.rest h.between g e ⊎ Wants h.between g e

      reading : (ts : List Tree) → EntriesLeft (plain_row body) m (rows_tree ts) → e ≢ NoMemory → Why → walk asked c (see f) (vector_tree (map (asked_in p) ts)) ≡ refused e (see g)
      reading ts w n (inl r) = reading_err c m h.rest r.behind f h.between g h.asked r.index r.named e ts h.reads h.calls r.read r.call w n
      reading ts w n (inr (inl u)) = absurd (u.none (rows_tree ts) w)
      reading ts w n (inr (inr k)) = absurd (n k.memory)

      None_ : ℕ → Type 0
      None_ at = ((rows : Tree) → EntriesLeft (plain_row body) m rows → ⊥) × MapFault asked c (asked_row p body) m (see f) (see g) at

      unreadable : Why → IfParse e None_
      unreadable (inl r) = stops_usual None_ (asked (see h.between) (Index p r.index)) e (see g) (usual (see h.between) r.index) (one h.between r.index (Err e) g r.call).0
      unreadable (inr (inl u)) =
          let P : F → Type 0 = λ k. MapFault asked c (asked_row p body) m (see f) (see k) (map_place h.rest) in
          let Q : Error E → Type 0 = λ x. IfParse x None_ in
          subst Q (sym u.parse) (
            u.none,
            subst P (sym u.state) (record {
              read = map (asked_in p) (entries_of h.asked);
              rest = h.rest;
              made = map (asked_in p) (renamed h.asked);
              front = read_asked p body h.asked m h.rest h.reads;
              missing = missing_asked p u.missing;
              place = refl;
              accepts = calls_walk c h.asked f h.between (reads_are h.asked m h.rest h.reads) h.calls;
            }),
          )
      unreadable (inr (inr k)) = let P : Error E → Type 0 = λ x. IfParse x None_ in subst P (sym k.memory) tt

      refusal : Why → IfRefused e (StopsMap asked c (asked_row p body) m (see f) e (see g))
      refusal (inl r) = unless_wanting e (λ n. stops_due c m h.rest r.behind f h.between g h.asked r.index r.named e h.reads h.calls r.read r.call n)
      refusal (inr (inl u)) = let P : Error E → Type 0 = λ x. IfRefused x (StopsMap asked c (asked_row p body) m (see f) e (see g)) in subst P (sym u.parse) tt
      refusal (inr (inr k)) = let P : Error E → Type 0 = λ x. IfRefused x (StopsMap asked c (asked_row p body) m (see f) e (see g)) in subst P (sym k.memory) tt

  -- The visits that were made when an error came, where no call answers out of memory.
  pub map_leaves : IsItem (asked_row p body) → ((s k : S) (v : Visit) (e : Error E) → asked s v ≡ refused e k → EndsBy asked s (v ∷ []) e k) → (m : MapStanding) (f g : F) (e : Error E) →
      MapsEntries (plain_row body) step m f g (Err e) → (e ≡ NoMemory → (f : F) (i : ℕ) (g : F) → step f i (Err NoMemory) g → ⊥) → MapLeaves asked p body m (see f) e (see g)
  map_leaves item ends m f g e h never = by h.why
    where
      -- behind the entries that were asked for
      build : (mid : List Visit) → EndsBy asked (see h.between) mid e (see g) → Drawn h.rest.rest mid →
          ((us : List Tree) → EntriesLeft (plain_row body) h.rest (rows_tree us) → IsFront mid (visits (rows_tree (map (asked_in p) us)))) →
          ((u : Tree) (rest : List ℕ) → EntriesUpTo (asked_row p body) h.rest u rest → MadeUpTo e mid (visits u) rest) → MapLeaves asked p body m (see f) e (see g)
      build mid ended drawn whole up_to =
          let front : List Tree = map (asked_in p) (entries_of h.asked) in
          let walked : walk asked 0 (see f) (rows_tree front) ≡ accepted (rows_tree (map (asked_in p) (renamed h.asked))) (see h.between) =
          calls_walk 0 h.asked f h.between (reads_are h.asked m h.rest h.reads) h.calls Tree.nil in record {
            made = visits (rows_tree front) ++ mid;
            ended = ended_behind asked e (visits (rows_tree front)) mid ((walk_is_run asked).forth 0 (see f) (see h.between) (rows_tree front) (rows_tree (map (asked_in p) (renamed h.asked))) walked).ran ended;
            drawn = entries_drawn item front m h.rest mid (read_asked p body h.asked m h.rest h.reads) drawn;
            reading = λ ts w.
                let q = parts m h.rest h.asked ts h.reads w in
                front_same (sym (visits_behind front (rows_tree (map (asked_in p) q.0))) ∙ ap visits q.2) (front_then (visits (rows_tree front)) (whole q.0 q.1));
            fault = λ t rest at.
                let a = entries_ahead {row = asked_row p body} quiet.passes quiet.ends front (read_asked p body h.asked m h.rest h.reads) at in
                let P : List Visit → Type 0 = λ z. MadeUpTo e (visits (rows_tree front) ++ mid) z rest in
                subst P (sym (ap visits a.1 ∙ visits_behind front a.0)) (made_then e (visits (rows_tree front)) (up_to a.0 rest a.2));
          }

      -- nothing more was asked for
      stands : Unasked e → g ≡ h.between → ((u : Tree) (rest : List ℕ) → EntriesUpTo (asked_row p body) h.rest u rest → MadeUpTo e [] (visits u) rest) → MapLeaves asked p body m (see f) e (see g)
      stands u same up_to =
          let ran : run asked (see h.between) [] ≡ accepted [] (see g) = ap (λ (z : F). accepted [] (see z)) (sym same) in
          build [] (ended_all e u ran) drawn_none (λ us w. front_none (visits (rows_tree (map (asked_in p) us)))) up_to

      refused_by : CallRefused (plain_row body) step h.rest h.between g e → MapLeaves asked p body m (see f) e (see g)
      refused_by r =
          let wants : e ≢ NoMemory = λ same. never same h.between r.index g (subst (λ (x : Error E). step h.between r.index (Err x) g) same r.call) in
          let v : Visit = Index p r.index in
          let call = (one h.between r.index (Err e) g r.call).0 in
          let tells : ¬ TellsFault e = tells_none e (stops_usual (λ at. ⊥) (asked (see h.between) v) e (see g) (usual (see h.between) r.index) call) in
          build (v ∷ []) (ends (see h.between) (see g) v e ((one h.between r.index (Err e) g r.call).0 wants))
          (due_drawn h.rest (r.read.left + 1) r.read.bytes (v ∷ []) r.read.due (drawn_part (v ∷ []) (visits r.named) (drawn_begun item (begins_asked p r.read.begins))))
          (λ us w. let z = next_part h.rest r.behind r.index r.named us r.read w in front_same (ap visits z.1) (record { rest = visits r.named ++ visits z.0; parts = refl }))
          (λ u rest at. let a = ahead_one {row = asked_row p body} quiet.passes quiet.ends (entry_asked p r.read) at in inl (tells, front_same (sym (ap visits a.1)) (record { rest = visits r.named ++ visits a.0; parts = refl })))

      by : CallRefused (plain_row body) step h.rest h.between g e ⊎ Unread (plain_row body) m h.rest h.between g e ⊎ Wants h.between g e → MapLeaves asked p body m (see f) e (see g)
      by (inl r) = refused_by r
      by (inr (inl u)) =
          let P : Error E → Type 0 = λ z. Unasked z in
          stands (subst P (sym u.parse) tt) u.state (λ t rest at. inr ([], sym (ap (λ (z : Tree). visits z ++ []) (none_ahead (missing_asked p u.missing) at)), drawn_none))
      by (inr (inr k)) =
          let P : Error E → Type 0 = λ z. Unasked z in
          let Q : Error E → Type 0 = λ z. ¬ TellsFault z in
          stands (subst P (sym k.memory) tt) k.state (λ t rest at. inl (subst Q (sym k.memory) (wants_tells_none E), front_none (visits t)))

  -- the same, where the reencoder's last value is known by the name of its reference
  pub gives_map_at : (c : ℕ) (m : MapStanding) (f g : F) (result : Result (List Tree) (Error E)) (last : S) → MapsEntries (plain_row body) step m f g result →
      (name f ≡ name g → last ≡ see g) → GivesMap asked c p body m (see f) last result
  gives_map_at c m f g result last h k = subst (λ (s : S). GivesMap asked c p body m (see f) s result) (sym (k (sym (keeps_name m f g result h)))) (gives_map c m f g result h)

  pub map_leaves_at : IsItem (asked_row p body) → ((s k : S) (v : Visit) (e : Error E) → asked s v ≡ refused e k → EndsBy asked s (v ∷ []) e k) → (m : MapStanding) (f g : F) (e : Error E) (last : S) →
      MapsEntries (plain_row body) step m f g (Err e) → (name f ≡ name g → last ≡ see g) → (e ≡ NoMemory → (f : F) (i : ℕ) (g : F) → step f i (Err NoMemory) g → ⊥) →
      MapLeaves asked p body m (see f) e last
  map_leaves_at item ends m f g e last h k never = subst (λ (s : S). MapLeaves asked p body m (see f) e s) (sym (k (sym (keeps_name m f g (Err e) h)))) (map_leaves item ends m f g e h never)
