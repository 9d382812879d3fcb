-- What is mapped from bytes to bytes: the whole, by calls that map its parts.
use Rattle.std.proofs.Common.{◌≡◌, ◌≢◌, ◌≤◌, ℕ, suc, ◌+◌, ◌<◌, ◌^◌, List, [], ◌∷◌, ◌++◌, length, length-append, length-take, take-take, take, Bor, Option, Some, None, Result, Ok, Err, IsTrue, zero, true, ap₂, inl, refl, sym, ap, ◌∙◌, append_assoc, append-nil, subst, arith}
use Rattle.std.proofs.Math.Seq.{drop-append_seam, take-append_seam, take-length}
use Rattle.wasm_leb.specs.Leb.{leb}
use Rattle.wasm_leb.specs.Place.{BeginsNumber}
use Rattle.wasm_leb.proofs.Shortest.{leb_spells}
use Rattle.wasm_leb.proofs.Unique.{unsigned_unique}
use Rattle.wasm_shapes.specs.declared.Space.TheVariants as space
use Rattle.wasm_shapes.specs.Tree.{Tree, count, final_bytes, normal, visits}
use Rattle.wasm_shapes.specs.Shape.{Named, Shape, choice, closed, lead, rows_and}
use Rattle.wasm_shapes.specs.NamedShapes.{shape_of}
use Rattle.wasm_shapes.specs.Sound.{sound}
use Rattle.wasm_shapes.specs.Spells.{Is, Spelled, Spells}
use Rattle.wasm_shapes.specs.Place.{Begins, BeginsNone}
use Rattle.wasm_shapes.specs.Fits.{InRange}
use Rattle.wasm_shapes.specs.Types.{rows_tree}
use Rattle.wasm_shapes.proofs.Begins.{row_at, row_is}
use Rattle.wasm_shapes.proofs.Depth.{begins_unique}
use Rattle.wasm_shapes.proofs.Frameless.{frameless_spells}
use Rattle.wasm_shapes.proofs.Parts.{among}
use Rattle.wasm_shapes.proofs.ReadBack.{spelled_in_range}
use Rattle.wasm_shapes.proofs.Rows.{snoc_is, snoc_spelled}
use Rattle.wasm_write.proofs.Holding.{count_rows, snoc_length, snoc_normal}
use Rattle.reencode_hooks.specs.declared.error.Error.{Error}
use Rattle.reencode_hooks.specs.declared.error.Error.TheVariants.{NoMemory}
use Rattle.reencode_hooks.specs.declared.indices.ReencodeIndices.{Ghosts}
use Rattle.reencode_hooks.specs.Run.{Step, Visited, NeverWants, accepted, refused, and_then, ask}
use Rattle.reencode_hooks.specs.Walk.{walk}
use Rattle.reencode_items.specs.Maps.{Maps}
use Rattle.reencode_items.specs.Rows.{Asks, onto_rows}
use Rattle.reencode_items.specs.Streams.{Reads, Streams, StreamsAs, StreamsCounted, StreamsItems, StreamsMark, counted_first}
use Rattle.reencode_items.proofs.Leaving.{accepted_visited, first_visited, second_visited, sure_visited}
use Rattle.reencode_items.proofs.Rows.{one_onto, onto_nothing}
use Rattle.reencode_items.proofs.TypeParts.{TwoParts, alone, alone_parts, back_ref, final_parts, first_item, led_parts, marked_parts, no_items, parts, row_parts, seq_parts, supertypes, vec_parts}

-- what a call answers: the bytes that are left, or none
abbrev pub Left : Type 0 → Type 0
Left E = Result (Option (Bor (List ℕ))) (Error E)

abbrev asks : {S E : Type 0} → Ghosts S E → Asks S E
asks i = ask i.reply i.next

-- what stood in front stands there still
pub kept_front : (old out new : List ℕ) → take (length old) out ≡ old → take (length out) new ≡ out → take (length old) new ≡ old
kept_front old out new p q =
    let short : length old ≤ length out = let taken : length (take (length old) out) ≡ length old = ap length p in omega (arith, length-take (length old) out, taken) in
    sym (take-take (length old) (length out) new short) ∙ ap (take (length old)) q ∙ p

pub grown_front : (old front : List ℕ) {out : List ℕ} (new : List ℕ) → out ≡ old ++ front → take (length out) new ≡ out → take (length old) new ≡ old
grown_front old front {out = out} new e q = kept_front old out new (rw e (take-append_seam old front)) q

pub kept_len : {n : ℕ} (old new : List ℕ) → n ≡ length old → take n new ≡ old → take (length old) new ≡ old
kept_len old new e q = rw (← e) q

pub kept_same : (old : List ℕ) {new : List ℕ} → new ≡ old → take (length old) new ≡ old
kept_same old e = rw e (take-length old)

-- ---- one part behind others

-- A tree holds another, by which it is walked.
pub record Wraps {S E : Type 0} (asked : Asks S E) (f : Tree → Tree) (reads : Reads) (t : Tree) (l : List ℕ) : Type 0 where
  pub inner : Tree
  pub is : t ≡ f inner
  pub there : reads inner l
  pub walks : (c : ℕ) (s : S) → walk asked c s (f inner) ≡ and_then (walk asked c s inner) (λ u m. accepted (f u) m)
  pub visited : visits (f inner) ≡ visits inner

-- the same walk as that of what is held
held_walk : {S E : Type 0} {asked : Asks S E} {f : Tree → Tree} {reads : Reads} {t : Tree} {l : List ℕ} (w : Wraps asked f reads t l) (c : ℕ) (s : S) {step : Step S (Error E) Tree} →
    walk asked c s w.inner ≡ step → walk asked c s t ≡ and_then step (λ u m. accepted (f u) m)
held_walk {S} {E} {asked} {f} w c s e = rw w.is (w.walks c s ∙ ap (λ (z : Step S (Error E) Tree). and_then z (λ u m. accepted (f u) m)) e)

held_visited : {S E : Type 0} {asked : Asks S E} {f : Tree → Tree} {reads : Reads} {t : Tree} {l : List ℕ} (w : Wraps asked f reads t l) {s m : S} →
    Visited asked s (visits w.inner) m → Visited asked s (visits t) m
held_visited w v = rw (w.is, w.visited) v

module _ {S E : Type 0} (i : Ghosts S E) where
  -- what is held was mapped behind some bytes
  pub wrapped : {reads reads' : Reads} {writes writes' : Tree → Type 0} (f : Tree → Tree) (front : List ℕ) →
      ((t : Tree) (l : List ℕ) → reads' t l → Wraps (asks i) f reads t l) →
      ((u : Tree) → writes u → writes' (f u) × (normal (f u) ≡ front ++ normal u)) →
      {s m : S} (old : List ℕ) {out new : List ℕ} → out ≡ old ++ front → (r : Left E) → StreamsAs i reads writes s out m new r → StreamsAs i reads' writes' s old m new r
  wrapped f front inv spelt {s = s} old e (Ok (Some left)) g =
      let w = spelt g.gives.0 g.gives.1 in record {
        gives = (
          f g.gives.0,
          w.0,
          g.gives.2 ∙ ap (λ (z : List ℕ). z ++ normal g.gives.0) e ∙ append_assoc old front (normal g.gives.0) ∙ ap (λ (z : List ℕ). old ++ z) (sym w.1),
          record {
            behind = λ t l p. let q = inv t l p in g.gives.3.behind q.inner l q.there;
            walks = λ k t l p c. let q = inv t l p in held_walk q c _ (g.gives.3.walks k q.inner l q.there c);
          },
        );
      }
  wrapped f front inv spelt old e (Ok None) g = record { gives = (grown_front old front _ e g.gives.0, λ t l p. let q = inv t l p in g.gives.1 q.inner l q.there) }
  wrapped f front inv spelt old e (Err x) g = record {
    gives = (
      grown_front old front _ e g.gives.0,
      record {
        refuses = λ k t l p other c. let q = inv t l p in held_walk q c _ (g.gives.1.refuses k q.inner l q.there other c);
        visited = λ k sure t l p. let q = inv t l p in held_visited q (g.gives.1.visited k sure q.inner l q.there);
      },
    );
  }

  -- the same tree under another name
  pub renamed : {reads reads' : Reads} {writes writes' : Tree → Type 0} → ((t : Tree) (l : List ℕ) → reads' t l → reads t l) → ((u : Tree) → writes u → writes' u) →
      {s m : S} {old new : List ℕ} (r : Left E) → StreamsAs i reads writes s old m new r → StreamsAs i reads' writes' s old m new r
  renamed back forth (Ok (Some left)) g = record {
    gives = (
      g.gives.0,
      forth g.gives.0 g.gives.1,
      g.gives.2,
      record {
        behind = λ t l p. g.gives.3.behind t l (back t l p);
        walks = λ k t l p c. g.gives.3.walks k t l (back t l p) c;
      },
    );
  }
  renamed back forth (Ok None) g = record { gives = (g.gives.0, λ t l p. g.gives.1 t l (back t l p)) }
  renamed back forth (Err x) g = record {
    gives = (
      g.gives.0,
      record {
        refuses = λ k t l p other c. g.gives.1.refuses k t l (back t l p) other c;
        visited = λ k sure t l p. g.gives.1.visited k sure t l (back t l p);
      },
    );
  }

  -- ---- two parts

  -- the first was not mapped
  pub first_stops : {a b : Shape} {bytes : List ℕ} {s m : S} {old new : List ℕ} (x : Error E) → Streams i a bytes s old m new (Err x) → Streams i (Shape.seq a b) bytes s old m new (Err x)
  first_stops {s = s} x g = record {
    gives = (
      g.gives.0,
      record {
        refuses = λ k t l p other c. let q = seq_parts t l p in rw (q.is, g.gives.1.refuses k q.first q.middle q.begins other c) refl;
        visited = λ k sure t l p. let q = seq_parts t l p in rw q.is (first_visited (visits q.second) (g.gives.1.visited k sure q.first q.middle q.begins));
      },
    );
  }

  pub first_none : {a b : Shape} {bytes : List ℕ} {s m : S} {old new : List ℕ} → Streams i a bytes s old m new (Ok None) → Streams i (Shape.seq a b) bytes s old m new (Ok None)
  first_none g = record { gives = (g.gives.0, λ t l p. let q = seq_parts t l p in g.gives.1 q.first q.middle q.begins) }

  module _ {a b : Shape} {bytes : List ℕ} {s n : S} (old mid : List ℕ) {rest : Bor (List ℕ)} (g : Streams i a bytes s old n mid (Ok (Some rest))) where
    behind_first : (l : List ℕ) {t : Tree} (q : TwoParts a b Tree.pair bytes t l) → Begins b rest.now q.second l
    behind_first l q = let P : List ℕ → Type 0 = λ z. Begins b z q.second l in subst P (g.gives.3.behind q.first q.middle q.begins) q.behind

    -- the second was mapped behind it
    pub second_streams : {m : S} {new : List ℕ} (r : Left E) → Streams i b rest.now n mid m new r → Streams i (Shape.seq a b) bytes s old m new r
    second_streams (Ok (Some left)) h = record {
      gives = (
        Tree.pair g.gives.0 h.gives.0,
        record { shaped = Is.seq g.gives.1.shaped h.gives.1.shaped; spelled = (normal g.gives.0, normal h.gives.0, refl, g.gives.1.spelled, h.gives.1.spelled) },
        h.gives.2 ∙ ap (λ (z : List ℕ). z ++ normal h.gives.0) g.gives.2 ∙ append_assoc old (normal g.gives.0) (normal h.gives.0),
        record {
          behind = λ t l p. let q = seq_parts t l p in h.gives.3.behind q.second l (behind_first l q);
          walks = λ k t l p c. let q = seq_parts t l p in rw (q.is, g.gives.3.walks k q.first q.middle q.begins c, h.gives.3.walks k q.second l (behind_first l q) c) refl;
        },
      );
    }
    second_streams (Ok None) h = record { gives = (grown_front old (normal g.gives.0) _ g.gives.2 h.gives.0, λ t l p. let q = seq_parts t l p in h.gives.1 q.second l (behind_first l q)) }
    second_streams (Err x) h = record {
      gives = (
        grown_front old (normal g.gives.0) _ g.gives.2 h.gives.0,
        record {
          refuses = λ k t l p other c. let q = seq_parts t l p in rw (q.is, g.gives.3.walks k q.first q.middle q.begins c, h.gives.1.refuses k q.second l (behind_first l q) other c) refl;
          visited = λ k sure t l p. let q = seq_parts t l p in rw q.is (second_visited 0 q.first (g.gives.3.walks k q.first q.middle q.begins 0) (h.gives.1.visited k sure q.second l (behind_first l q)));
        },
      );
    }

  -- ---- one item

  module _ {B : Type 0} {shape : Shape} {bytes rest : List ℕ} (t : Tree) (view : B → Tree) {s m : S} (k : sound shape ≡ true) (h : closed shape ≡ true) (there : Begins shape bytes t rest) where
    -- it was mapped, and appended
    pub item_streams : {old new : List ℕ} (left : Bor (List ℕ)) (b : B) → rest ≡ left.now → (IsTrue i.keeps_defaults → Maps i.reply i.next s t view m (Ok b)) → Spells shape (normal (view b)) (view b) → new ≡ old ++ normal (view b) →
        Streams i shape bytes s old m new (Ok (Some left))
    item_streams left b e maps spells adds = record {
      gives = (
        view b,
        spells,
        adds,
        record {
          behind = λ u l p. sym (begins_unique k h there p).1 ∙ e;
          walks = λ keeps u l p c. rw (← (begins_unique k h there p).0) (maps keeps c);
        },
      );
    }

    -- it was refused
    pub item_stops : {old new : List ℕ} (x : Error E) → new ≡ old → (IsTrue i.keeps_defaults → Maps {B = B} i.reply i.next s t view m (Err x)) → (IsTrue i.keeps_defaults → NeverWants {A = B} i.sure (Err x)) →
        Streams i shape bytes s old m new (Err x)
    item_stops {old = old} x same maps never = record {
      gives = (
        rw same (take-length old),
        record {
          refuses = λ keeps u l p other c. rw (← (begins_unique k h there p).0) (maps keeps c other);
          visited = λ keeps sure u l p. rw (← (begins_unique k h there p).0) (sure_visited i.reply i.next t view x (maps keeps) (never keeps) sure);
        },
      );
    }

    -- it was mapped, and there was no memory for what it became
    pub item_unwritten : {old new : List ℕ} (b : B) → take (length old) new ≡ old → (IsTrue i.keeps_defaults → Maps i.reply i.next s t view m (Ok b)) →
        Streams i shape bytes s old m new (Err NoMemory)
    item_unwritten b kept maps = record {
      gives = (
        kept,
        record {
          refuses = λ keeps u l p other c. absurd (other refl);
          visited = λ keeps sure u l p. rw (← (begins_unique k h there p).0) (accepted_visited 0 t (maps keeps 0));
        },
      );
    }

-- none begins
pub none_streams : {S E : Type 0} (i : Ghosts S E) {shape : Shape} {bytes : List ℕ} {writes : Tree → Type 0} {s m : S} {old new : List ℕ} → take (length old) new ≡ old → BeginsNone shape bytes →
    StreamsAs i (λ t l. Begins shape bytes t l) writes s old m new (Ok None)
none_streams i kept none = record { gives = (kept, λ t l p. none.none p.text l t p.spells p.reads) }

-- there was no memory, and nothing was asked
pub unasked_stops : {S E : Type 0} (i : Ghosts S E) {reads : Reads} {writes : Tree → Type 0} {s m : S} {old new : List ℕ} → take (length old) new ≡ old → m ≡ s →
    StreamsAs i reads writes s old m new (Err NoMemory)
unasked_stops i kept same = record {
  gives = (
    kept,
    record {
      refuses = λ k t l p other c. absurd (other refl);
      visited = λ k sure t l p. record { front = []; rest = visits t; parts = refl; state = sym same };
    },
  );
}

-- a byte was appended, which is this one
pub byte_grown : (old : List ℕ) {out : List ℕ} {b c : ℕ} → out ≡ old ++ b ∷ [] → b ≡ c → out ≡ old ++ c ∷ []
byte_grown old e same = e ∙ ap (λ (z : ℕ). old ++ z ∷ []) same

-- the number of the items aside
pub uncounted : {S E : Type 0} (i : Ghosts S E) {shape : Shape} {bytes : List ℕ} {s m : S} {old new : List ℕ} (r : Left E) → StreamsCounted i shape bytes s old m new r → Streams i shape bytes s old m new r
uncounted i r g = renamed i (λ t l p. p) (λ u w. w.0) r g

-- the first of two parts is none, and with it both; the same of a refusal
pub first_of : {S E : Type 0} (i : Ghosts S E) {a b : Shape} {bytes : List ℕ} {s m : S} {old new : List ℕ} → StreamsCounted i a bytes s old m new (Ok None) →
    StreamsCounted i (Shape.seq a b) bytes s old m new (Ok None)
first_of i g = record { gives = (first_none i (uncounted i (Ok None) g)).gives }

pub first_err : {S E : Type 0} (i : Ghosts S E) {a b : Shape} {bytes : List ℕ} {s m : S} {old new : List ℕ} (x : Error E) → StreamsCounted i a bytes s old m new (Err x) →
    StreamsCounted i (Shape.seq a b) bytes s old m new (Err x)
first_err i x g = record { gives = (first_stops i x (uncounted i (Err x) g)).gives }

-- ---- a row of a choice behind its byte

abbrev pub row_led : ℕ → ℕ → Tree → Tree
row_led k b u = Tree.row k (Tree.pair (Tree.fixed b) u)

two_changes : {S E : Type 0} (f g : Tree → Tree) (step : Step S (Error E) Tree) →
    and_then (and_then step (λ u m. accepted (f u) m)) (λ u m. accepted (g u) m) ≡ and_then step (λ u m. accepted (g (f u)) m)
two_changes f g (accepted u m) = refl
two_changes f g (refused e m) = refl

led_wraps : {S E : Type 0} (asked : Asks S E) (rows : List Shape) (k b : ℕ) (s : Shape) → row_at (choice rows) k ≡ lead b s → alone rows k b ≡ true → {bytes xs : List ℕ} → bytes ≡ b ∷ xs →
    (t : Tree) (l : List ℕ) → Begins (choice rows) bytes t l → Wraps asked (row_led k b) (λ u r. Begins s xs u r) t l
led_wraps asked rows k b s is h {bytes = bytes} e t l p =
    let r = row_parts rows k t l e h p in
    let P : Shape → Type 0 = λ z. Begins z bytes r.held l in
    let q = led_parts r.held l e (subst P is r.begins) in record {
      inner = q.0;
      is = r.is ∙ ap (λ (z : Tree). Tree.row k z) q.1;
      there = q.2;
      walks = λ c s. two_changes (λ u. Tree.pair (Tree.fixed b) u) (λ u. Tree.row k u) (walk asked c s q.0);
      visited = refl;
    }

led_spelt : (rows : List Shape) (k b : ℕ) (s : Shape) → row_at (choice rows) k ≡ lead b s → (u : Tree) → Spells s (normal u) u →
    Spells (choice rows) (normal (row_led k b u)) (row_led k b u) × (normal (row_led k b u) ≡ (b ∷ []) ++ normal u)
led_spelt rows k b s is u w =
    let P : Shape → Type 0 = λ z. Is z (Tree.pair (Tree.fixed b) u) in
    (record { shaped = row_is (choice rows) k (subst P (sym is) (Is.seq Is.fixed w.shaped)); spelled = (b ∷ [], normal u, refl, refl, w.spelled) }, refl)

module _ {S E : Type 0} (i : Ghosts S E) where
  pub led_streams : (rows : List Shape) (k b : ℕ) (s : Shape) → row_at (choice rows) k ≡ lead b s → alone rows k b ≡ true → {bytes xs : List ℕ} → bytes ≡ b ∷ xs →
      {s0 m : S} (old : List ℕ) {out new : List ℕ} → out ≡ old ++ b ∷ [] → (r : Left E) → Streams i s xs s0 out m new r → Streams i (choice rows) bytes s0 old m new r
  led_streams rows k b s is h e old grown r g = wrapped i (row_led k b) (b ∷ []) (led_wraps (asks i) rows k b s is h e) (led_spelt rows k b s is) old grown r g

  -- a shape that has a name
  pub named_streams : (n : Named) {bytes : List ℕ} {s m : S} {old new : List ℕ} (r : Left E) → Streams i (shape_of n) bytes s old m new r → Streams i (Shape.ref n) bytes s old m new r
  named_streams n r g = renamed i (λ t l p. back_ref t l p) (λ u w. record { shaped = Is.ref w.shaped; spelled = w.spelled }) r g

  -- rows among more of them, of which none begins there
  pub among_streams : (rows others : List Shape) {bytes : List ℕ} {s m : S} {old new : List ℕ} →
      ((t : Tree) (l : List ℕ) → Begins (choice (rows_and rows others)) bytes t l → Begins (choice rows) bytes t l) → (r : Left E) →
      Streams i (choice rows) bytes s old m new r → Streams i (choice (rows_and rows others)) bytes s old m new r
  among_streams rows others back r g = renamed i back (λ u w. record { shaped = among rows others w.shaped; spelled = w.spelled }) r g

  -- ---- an index that is asked behind what it stands in front of

  module _ (rows : List Shape) (k b index : ℕ) (s : Shape) (is : row_at (choice rows) k ≡ Shape.swap (lead b (Shape.ix space.Type_)) s) (h : alone rows k b ≡ true)
      {bytes xs middle : List ℕ} (e : bytes ≡ b ∷ xs) (number : BeginsNumber 128 32 32 xs index middle) where
    mark_of : ℕ → Tree
    mark_of j = Tree.pair (Tree.fixed b) (Tree.ix space.Type_ j)

    marked_there : (t : Tree) (l : List ℕ) → Begins (choice rows) bytes t l → (u : Tree) × (t ≡ Tree.row k (Tree.swap (mark_of index) u)) × Begins s middle u l
    unfolding mark_of
    marked_there t l p =
        let r = row_parts rows k t l e h p in
        let P : Shape → Type 0 = λ z. Begins z bytes r.held l in
        let q = marked_parts r.held l e number (subst P is r.begins) in
        (q.0, r.is ∙ ap (λ (z : Tree). Tree.row k z) q.1, q.2)

    -- what stands behind it was not mapped
    pub marked_stops : {s0 m : S} {old new : List ℕ} (x : Error E) → Streams i s middle s0 old m new (Err x) → Streams i (choice rows) bytes s0 old m new (Err x)
    unfolding mark_of
    marked_stops x g = record {
      gives = (
        g.gives.0,
        record {
          refuses = λ keeps t l p other c. let q = marked_there t l p in rw (q.1, g.gives.1.refuses keeps q.0 l q.2 other c) refl;
          visited = λ keeps sure t l p. let q = marked_there t l p in rw q.1 (first_visited (visits (mark_of index)) (g.gives.1.visited keeps sure q.0 l q.2));
        },
      );
    }

    pub marked_none : {s0 m : S} {old new : List ℕ} → Streams i s middle s0 old m new (Ok None) → Streams i (choice rows) bytes s0 old m new (Ok None)
    unfolding mark_of
    marked_none g = record { gives = (g.gives.0, λ t l p. let q = marked_there t l p in g.gives.1 q.0 l q.2) }

    walk_marked : (c : ℕ) (s0 : S) {n m : S} (w w' u v : Tree) → walk (asks i) c s0 u ≡ accepted v n → walk (asks i) c n w ≡ accepted w' m →
        walk (asks i) c s0 (Tree.row k (Tree.swap (Tree.pair (Tree.fixed b) w) u)) ≡ accepted (Tree.row k (Tree.swap (Tree.pair (Tree.fixed b) w') v)) m
    walk_marked c s0 w w' u v first second = rw (first, second) refl

    stop_marked : (c : ℕ) (s0 : S) {n m : S} {x : Error E} (w u v : Tree) → walk (asks i) c s0 u ≡ accepted v n → walk (asks i) c n w ≡ refused x m →
        walk (asks i) c s0 (Tree.row k (Tree.swap (Tree.pair (Tree.fixed b) w) u)) ≡ refused x m
    stop_marked c s0 w u v first second = rw (first, second) refl

    module _ {s0 n : S} (old mid : List ℕ) {rest : Bor (List ℕ)} (g : Streams i s middle s0 old n mid (Ok (Some rest))) where
      front_of : take (length old) mid ≡ old
      front_of = rw g.gives.2 (take-append_seam old (normal g.gives.0))

      pub behind_front : length old ≤ length mid
      behind_front = omega (arith, ap length g.gives.2, length-append old (normal g.gives.0))

      -- the index was mapped and put in front of it
      pub marked_streams : {at : ℕ} {m : S} {new : List ℕ} → at ≡ length old → StreamsMark i at b index n mid m new (Ok tt) → Streams i (choice rows) bytes s0 old m new (Ok (Some rest))
      unfolding mark_of
      marked_streams {at = at} same h = record {
        gives = (
          Tree.row k (Tree.swap (mark_of h.0) g.gives.0),
          (let P : Shape → Type 0 = λ z. Is z (Tree.swap (mark_of h.0) g.gives.0) in record {
            shaped = row_is (choice rows) k (subst P (sym is) (Is.swap (Is.seq Is.fixed Is.ix) g.gives.1.shaped));
            spelled = (b ∷ leb h.0, normal g.gives.0, refl, (b ∷ [], leb h.0, refl, refl, leb_spells h.0 h.1), g.gives.1.spelled);
          }),
          h.2 ∙ rw same (ap₂ (λ (x y : List ℕ). x ++ (b ∷ leb h.0 ++ y)) front_of (rw g.gives.2 (drop-append_seam old (normal g.gives.0)))),
          record {
            behind = λ t l p. let q = marked_there t l p in g.gives.3.behind q.0 l q.2;
            walks = λ keeps t l p c. let q = marked_there t l p in rw q.1 (walk_marked c s0 (Tree.ix space.Type_ index) (Tree.ix space.Type_ h.0) q.0 g.gives.0 (g.gives.3.walks keeps q.0 l q.2 c) (h.3 keeps c));
          },
        );
      }

      -- it was refused
      pub mark_stops : {at : ℕ} {m : S} {new : List ℕ} (x : Error E) → at ≡ length old → StreamsMark i at b index n mid m new (Err x) → Streams i (choice rows) bytes s0 old m new (Err x)
      unfolding mark_of
      mark_stops {at = at} x same h = record {
        gives = (
          rw (← same) (h.0 ∙ rw same front_of),
          record {
            refuses = λ keeps t l p other c. let q = marked_there t l p in rw q.1 (stop_marked c s0 (Tree.ix space.Type_ index) q.0 g.gives.0 (g.gives.3.walks keeps q.0 l q.2 c) (h.1 keeps other c));
            visited = λ keeps sure t l p. let q = marked_there t l p in rw q.1 (second_visited 0 q.0 (g.gives.3.walks keeps q.0 l q.2 0) (h.2 keeps sure));
          },
        );
      }

-- ---- items one behind another

-- Of some items so many are due where these bytes are left: those in front of them were walked to these.
pub record ItemsOn {S E : Type 0} (i : Ghosts S E) (shape : Shape) (s0 : S) (t : Tree) (l : List ℕ) (left : ℕ) (rest : List ℕ) (s : S) (made : List Tree) : Type 0 where
  pub others : Tree
  pub there : Begins (Shape.many shape) rest others l
  pub due : count others ≡ left
  pub walks : IsTrue i.keeps_defaults → (c : ℕ) → walk (asks i) c s0 t ≡ onto_rows made (walk (asks i) c s others)
  pub onward : IsTrue i.keeps_defaults → (m : S) → Visited (asks i) s (visits others) m → Visited (asks i) s0 (visits t) m

pub record ItemsSo {S E : Type 0} (i : Ghosts S E) (shape : Shape) (n : ℕ) (start : List ℕ) (s0 : S) (old : List ℕ) (due : ℕ) (rest : List ℕ) (s : S) (out : List ℕ) : Type 0 where
  pub made : List Tree
  pub shaped : Is (Shape.many shape) (rows_tree made)
  pub spelled : Spelled (rows_tree made) (normal (rows_tree made))
  pub counted : length made + due ≡ n
  pub adds : out ≡ old ++ normal (rows_tree made)
  pub on : (t : Tree) (l : List ℕ) → Begins (Shape.many shape) start t l → count t ≡ n → ItemsOn i shape s0 t l due rest s made

module _ {S E : Type 0} (i : Ghosts S E) {shape : Shape} where
  pub items_begun : (n : ℕ) (start : List ℕ) (s : S) (old : List ℕ) → ItemsSo i shape n start s old n start s old
  items_begun n start s old = record {
    made = [];
    shaped = Is.nil;
    spelled = refl;
    counted = omega arith;
    adds = sym (append-nil old);
    on = λ t l p k. record { others = t; there = p; due = k; walks = λ keeps c. onto_nothing (walk (asks i) c s t); onward = λ keeps m v. v };
  }

  module _ {n due : ℕ} {start rest : List ℕ} {s0 s m : S} {old out : List ℕ} (so : ItemsSo i shape n start s0 old due rest s out) where
    -- the next one was mapped
    pub items_more : {fewer : ℕ} {new : List ℕ} {behind : Bor (List ℕ)} → due ≡ suc fewer → Streams i shape rest s out m new (Ok (Some behind)) → ItemsSo i shape n start s0 old fewer behind.now m new
    items_more {fewer = fewer} {behind = behind} some g =
        let v : Tree = g.gives.0 in record {
          made = so.made ++ v ∷ [];
          shaped = snoc_is so.made so.shaped g.gives.1.shaped;
          spelled = (let P : List ℕ → Type 0 = λ z. Spelled (rows_tree (so.made ++ v ∷ [])) z in
              subst P (sym (snoc_normal so.made v)) (snoc_spelled so.made v (normal (rows_tree so.made)) (normal v) so.spelled g.gives.1.spelled));
          counted = (let all = so.counted in omega (arith, snoc_length so.made v, all, some));
          adds = g.gives.2 ∙ ap (λ (z : List ℕ). z ++ normal v) so.adds ∙ append_assoc old (normal (rows_tree so.made)) (normal v) ∙ ap (λ (z : List ℕ). old ++ z) (sym (snoc_normal so.made v));
          on = λ t l p k.
              let o = so.on t l p k in
              let f = first_item o.others l o.there (o.due ∙ some) in
              let P : List ℕ → Type 0 = λ z. Begins (Shape.many shape) z f.1 l in record {
                others = f.1;
                there = subst P (g.gives.3.behind f.0 f.2 f.4) f.5;
                due = f.6;
                walks = λ keeps c.
                    let first : walk (asks i) c s (Tree.cons f.0 f.1) ≡ and_then (walk (asks i) c m f.1) (λ u n. accepted (Tree.cons v u) n) = rw (g.gives.3.walks keeps f.0 f.2 f.4 c) refl in
                    o.walks keeps c ∙ ap (λ (z : Tree). onto_rows so.made (walk (asks i) c s z)) f.3 ∙ ap (λ (z : Step S (Error E) Tree). onto_rows so.made z) first ∙ one_onto so.made v (walk (asks i) c m f.1);
                onward = λ keeps n w. o.onward keeps n (rw f.3 (second_visited 0 f.0 (g.gives.3.walks keeps f.0 f.2 f.4 0) w));
              };
        }

    pub items_none : {fewer : ℕ} {new : List ℕ} → due ≡ suc fewer → Streams i shape rest s out m new (Ok None) → StreamsItems i shape n start s0 old m new (Ok None)
    items_none some g = record {
      gives = (
        grown_front old (normal (rows_tree so.made)) _ so.adds g.gives.0,
        λ t l p.
            let o = so.on t l p.0 p.1 in
            let f = first_item o.others l o.there (o.due ∙ some) in
            g.gives.1 f.0 f.2 f.4,
      );
    }

    pub items_stop : {fewer : ℕ} {new : List ℕ} (x : Error E) → due ≡ suc fewer → Streams i shape rest s out m new (Err x) → StreamsItems i shape n start s0 old m new (Err x)
    items_stop x some g = record {
      gives = (
        grown_front old (normal (rows_tree so.made)) _ so.adds g.gives.0,
        record {
          refuses = λ keeps t l p other c.
              let o = so.on t l p.0 p.1 in
              let f = first_item o.others l o.there (o.due ∙ some) in
              let first : walk (asks i) c s (Tree.cons f.0 f.1) ≡ refused x m = rw (g.gives.1.refuses keeps f.0 f.2 f.4 other c) refl in
              o.walks keeps c ∙ ap (λ (z : Tree). onto_rows so.made (walk (asks i) c s z)) f.3 ∙ ap (λ (z : Step S (Error E) Tree). onto_rows so.made z) first;
          visited = λ keeps sure t l p.
              let o = so.on t l p.0 p.1 in
              let f = first_item o.others l o.there (o.due ∙ some) in
              o.onward keeps m (rw f.3 (first_visited (visits f.1) (g.gives.1.visited keeps sure f.0 f.2 f.4)));
        },
      );
    }

  -- all were mapped
  pub items_all : {n due : ℕ} {start : List ℕ} {s0 s : S} {old out : List ℕ} (left : Bor (List ℕ)) → ItemsSo i shape n start s0 old due left.now s out → due ≡ 0 → StreamsItems i shape n start s0 old s out (Ok (Some left))
  items_all {s = s} left so none = record {
    gives = (
      rows_tree so.made,
      (record { shaped = so.shaped; spelled = so.spelled }, (let all = so.counted in count_rows so.made ∙ omega (arith, all, none))),
      so.adds,
      record {
        behind = λ t l p. let o = so.on t l p.0 p.1 in sym (no_items o.others l o.there (o.due ∙ none)).1;
        walks = λ keeps t l p c.
            let o = so.on t l p.0 p.1 in
            o.walks keeps c ∙ ap (λ (z : Tree). onto_rows so.made (walk (asks i) c s z)) (no_items o.others l o.there (o.due ∙ none)).0;
      },
    );
  }

  -- items behind their number
  pub vec_streams : {n : ℕ} {bytes start : List ℕ} {s m : S} (old : List ℕ) {out new : List ℕ} → n < 2 ^ 32 → BeginsNumber 128 32 32 bytes n start → out ≡ old ++ leb n → (r : Left E) →
      StreamsItems i shape n start s out m new r → StreamsCounted i (Shape.vec shape) bytes s old m new r
  vec_streams {n = n} {bytes = bytes} {start = start} old small number grown r g =
      wrapped i (λ u. Tree.vec u) (leb n)
      (λ t l p. let q = vec_parts t l number p in record { inner = q.items; is = q.is; there = (q.begins, q.counted); walks = λ c s. refl; visited = refl })
      (λ u w. let few : count u < 2 ^ 32 = rw w.1 small in (
        (
          record { shaped = Is.vec w.0.shaped; spelled = (leb (count u), normal u, refl, leb_spells (count u) few, w.0.spelled) },
          (λ k xs other. w.1 ∙ same_number number other),
        ),
        rw w.1 refl,
      ))
      old grown r g
    where
      same_number : {k : ℕ} {xs ys : List ℕ} → BeginsNumber 128 32 32 bytes n ys → BeginsNumber 128 32 32 bytes k xs → n ≡ k
      same_number {xs = xs} {ys = ys} p q = (unsigned_unique ys xs p.1 q.1 (sym p.2 ∙ q.2)).1

-- the number of the items of the first of two parts
pub counted_second : {S E : Type 0} (i : Ghosts S E) {a b : Shape} {bytes : List ℕ} {s n m : S} (old mid : List ℕ) {new : List ℕ} {rest : Bor (List ℕ)} →
    StreamsCounted i a bytes s old n mid (Ok (Some rest)) → (r : Left E) → Streams i b rest.now n mid m new r → StreamsCounted i (Shape.seq a b) bytes s old m new r
unfolding second_streams uncounted renamed
counted_second i old mid {rest = rest} g (Ok (Some left)) h =
    let both = second_streams i old mid (uncounted i (Ok (Some rest)) g) (Ok (Some left)) h in
    record { gives = (both.gives.0, (both.gives.1, g.gives.1.1), both.gives.2, both.gives.3) }
counted_second i old mid {rest = rest} g (Ok None) h = record { gives = (second_streams i old mid (uncounted i (Ok (Some rest)) g) (Ok None) h).gives }
counted_second i old mid {rest = rest} g (Err x) h = record { gives = (second_streams i old mid (uncounted i (Ok (Some rest)) g) (Err x) h).gives }

-- ---- final subtypes

-- supertypes and a composite type, as those of a final subtype
abbrev as_final : Tree → Tree
as_final (Tree.pair (Tree.vec t) u) = Tree.row 0 (Tree.final t u)
as_final t = t

final_walk : {S E : Type 0} (first : Step S (Error E) Tree) (second : S → Step S (Error E) Tree) →
    and_then (and_then first (λ t m. and_then (second m) (λ u n. accepted (Tree.final t u) n))) (λ u m. accepted (Tree.row 0 u) m)
    ≡ and_then (and_then (and_then first (λ t m. accepted (Tree.vec t) m)) (λ t m. and_then (second m) (λ u n. accepted (Tree.pair t u) n))) (λ u m. accepted (as_final u) m)
final_walk {S} {E} (accepted t m) second = go (second m)
  where
    go : (step : Step S (Error E) Tree) → and_then (and_then step (λ u n. accepted (Tree.final t u) n)) (λ u m. accepted (Tree.row 0 u) m)
        ≡ and_then (and_then step (λ u n. accepted (Tree.pair (Tree.vec t) u) n)) (λ u m. accepted (as_final u) m)
    go (accepted u n) = refl
    go (refused e n) = refl
final_walk (refused e m) second = refl

-- a subtype without supertypes, and its normal spelling
bare_spelt : (u : Tree) → Spells (Shape.ref Named.composite) (normal u) u →
    Spells (Shape.ref Named.sub) (normal (Tree.row 0 (Tree.final Tree.nil u))) (Tree.row 0 (Tree.final Tree.nil u)) × (normal (Tree.row 0 (Tree.final Tree.nil u)) ≡ [] ++ normal u)
bare_spelt u w = (record { shaped = Is.ref (Is.first (Is.final Is.nil w.shaped)); spelled = inl ([], normal u, refl, refl, refl, w.spelled) }, refl)

-- a subtype with supertypes, and its normal spelling
final_spelt : {xs : List ℕ} (n : ℕ) (start : List ℕ) → BeginsNumber 128 32 32 xs n start → n ≢ 0 → (u : Tree) →
    Spells parts (normal u) u × ((k : ℕ) (ys : List ℕ) → BeginsNumber 128 32 32 xs k ys → counted_first u ≡ k) →
    Spells (Shape.ref Named.sub) (normal (as_final u)) (as_final u) × (normal (as_final u) ≡ (0x4f ∷ []) ++ normal u)
final_spelt n start number some u w = go u w.0.shaped w.0.spelled (w.1 n start number)
  where
    suc_bytes : (k : ℕ) (x y : List ℕ) → k ≢ 0 → final_bytes k x y ≡ 0x4f ∷ (leb k ++ (x ++ y))
    suc_bytes zero x y h = absurd (h refl)
    suc_bytes (suc k) x y h = refl

    held : (v u : Tree) → Is (Shape.many (Shape.ix space.Type_)) v → Is (Shape.ref Named.composite) u → InRange (Tree.pair (Tree.vec v) u) → count v ≡ n →
        Spells (Shape.ref Named.sub) (normal (Tree.row 0 (Tree.final v u))) (Tree.row 0 (Tree.final v u)) × (normal (Tree.row 0 (Tree.final v u)) ≡ (0x4f ∷ []) ++ normal (Tree.pair (Tree.vec v) u))
    held v u d d' r k = (
      frameless_spells (Shape.ref Named.sub) refl (Is.ref (Is.first (Is.final d d'))) (r.0.0, r.0.1, r.1),
      suc_bytes (count v) (normal v) (normal u) (λ none. some (sym k ∙ none)) ∙ ap (λ (z : List ℕ). 0x4f ∷ z) (sym (append_assoc (leb (count v)) (normal v) (normal u))),
    )

    split : (t u : Tree) → Is supertypes t → Is (Shape.ref Named.composite) u → InRange (Tree.pair t u) → counted_first t ≡ n →
        Spells (Shape.ref Named.sub) (normal (as_final (Tree.pair t u))) (as_final (Tree.pair t u)) × (normal (as_final (Tree.pair t u)) ≡ (0x4f ∷ []) ++ normal (Tree.pair t u))
    split t u (Is.vec {t = v} d) d' r k = held v u d d' r k

    go : (u : Tree) → Is parts u → Spelled u (normal u) → counted_first u ≡ n → Spells (Shape.ref Named.sub) (normal (as_final u)) (as_final u) × (normal (as_final u) ≡ (0x4f ∷ []) ++ normal u)
    go u (Is.seq {t = t} {u = v} d d') p k = split t v d d' (spelled_in_range (Tree.pair t v) (normal (Tree.pair t v)) p) k

module _ {S E : Type 0} (i : Ghosts S E) {xs : List ℕ} where
  -- a final subtype with supertypes behind its byte
  pub final_streams : {n : ℕ} {start : List ℕ} → BeginsNumber 128 32 32 xs n start → n ≢ 0 → {s m : S} (old : List ℕ) {out new : List ℕ} → out ≡ old ++ 0x4f ∷ [] → (r : Left E) →
      StreamsCounted i parts xs s out m new r → Streams i (Shape.ref Named.sub) (0x4f ∷ xs) s old m new r
  final_streams {n = n} {start = start} number some old grown r g =
      wrapped i as_final (0x4f ∷ [])
      (λ t l p. let q = final_parts t l p in record {
        inner = Tree.pair (Tree.vec q.0) q.1;
        is = q.2;
        there = q.3;
        walks = λ c s. final_walk (walk (asks i) c s q.0) (λ m. walk (asks i) c m q.1);
        visited = refl;
      })
      (final_spelt n start number some) old grown r g

  -- one without supertypes that is spelled with their number
  pub bare_final_streams : {start : List ℕ} → BeginsNumber 128 32 32 xs 0 start → {s m : S} {old new : List ℕ} (r : Left E) → Streams i (Shape.ref Named.composite) start s old m new r →
      Streams i (Shape.ref Named.sub) (0x4f ∷ xs) s old m new r
  bare_final_streams {start = start} number {old = old} r g =
      wrapped i (λ u. Tree.row 0 (Tree.final Tree.nil u)) []
      (λ t l p.
      let q = final_parts t l p in
      let b = seq_parts (Tree.pair (Tree.vec q.0) q.1) l q.3 in
      bare t l q.0 q.1 q.2 b)
      bare_spelt old (sym (append-nil old)) r g
    where
      bare : (t : Tree) (l : List ℕ) (items u : Tree) → t ≡ Tree.row 0 (Tree.final items u) → TwoParts supertypes (Shape.ref Named.composite) Tree.pair xs (Tree.pair (Tree.vec items) u) l →
          Wraps (asks i) (λ u. Tree.row 0 (Tree.final Tree.nil u)) (λ u r. Begins (Shape.ref Named.composite) start u r) t l
      bare t l items u is b =
          let v = vec_parts b.first b.middle number b.begins in
          let none = no_items v.items b.middle v.begins v.counted in
          let halves : Tree.pair (Tree.vec items) u ≡ Tree.pair (Tree.vec v.items) b.second = b.is ∙ ap (λ (z : Tree). Tree.pair z b.second) v.is in
          let first : items ≡ v.items = cc in
          let second : b.second ≡ u = cc in
          let P : Tree → List ℕ → Type 0 = λ z y. Begins (Shape.ref Named.composite) y z l in
          record {
            inner = u;
            is = is ∙ ap (λ (z : Tree). Tree.row 0 (Tree.final z u)) (first ∙ none.0);
            there = (let Q : List ℕ → Type 0 = λ y. P u y in let R : Tree → Type 0 = λ z. P z b.middle in subst Q (sym none.1) (subst R second b.behind));
            walks = λ c s. two_changes (λ z. Tree.final Tree.nil z) (λ z. Tree.row 0 z) (walk (asks i) c s u);
            visited = refl;
          }

-- a final subtype without supertypes, spelled as its composite type alone
pub alone_streams : {S E : Type 0} (i : Ghosts S E) {bytes xs : List ℕ} {b : ℕ} → bytes ≡ b ∷ xs → b ≢ 0x4f → b ≢ 0x50 → {s m : S} {old new : List ℕ} (r : Left E) →
    Streams i (Shape.ref Named.composite) bytes s old m new r → Streams i (Shape.ref Named.sub) bytes s old m new r
alone_streams i e led other {old = old} r g =
    wrapped i (λ u. Tree.row 0 (Tree.final Tree.nil u)) []
    (λ t l p. let q = alone_parts t l e led other p in record {
      inner = q.0;
      is = q.1;
      there = q.2;
      walks = λ c s. two_changes (λ z. Tree.final Tree.nil z) (λ z. Tree.row 0 z) (walk (asks i) c s q.0);
      visited = refl;
    })
    bare_spelt old (sym (append-nil old)) r g
