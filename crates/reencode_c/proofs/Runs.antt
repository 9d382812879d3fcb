-- Runs of the three reencoders: by entries, the lister, and by answers in order.
use Rattle.std.proofs.Common.{◌≡◌, ℕ, ◌+◌, ◌≤◌, List, [], ◌∷◌, map, length, drop, false, Result, Ok, Err, refl, sym, ap, ap₂, ◌∙◌}
use Rattle.wasm_shapes.specs.declared.Visit.{Visit}
use Rattle.wasm_shapes.specs.declared.Visit.TheVariants.{Index, Outer, Section, Closed, Push, Pop}
use Rattle.wasm_shapes.specs.Own.{asked_index, own}
use Rattle.wasm_shapes.specs.Tree.{Tree, fill, visits}
use Rattle.wasm_shapes.proofs.OwnAnswers.{fill_own}
use Rattle.reencode_hooks.specs.declared.asked.Unmapped.{Unmapped}
use Rattle.reencode_hooks.specs.declared.error.Error.{Error}
use Rattle.reencode_hooks.specs.Hooks.{index_of}
use Rattle.reencode_hooks.specs.Run.{Step, accepted, refused, and_then, answered, ask, run}
use Rattle.reencode_hooks.specs.Walk.{walk}
use Rattle.reencode_hooks.proofs.Walks.{walk_is_run}
use Rattle.reencode_c.specs.Entries.{Renaming, renaming_reply}
use Rattle.reencode_c.specs.Places.{Lists}
use Rattle.reencode_c.specs.Visits.{Answering, Placing, all_listed, answer_to, answers_next, answers_reply, at, dealt, listed, lister_next, lister_reply, moved, placed, put_all, taken_by, tally}
use Rattle.reencode_c.proofs.Lists.{counted_low, counted_more, counted_none, put_all-append}

-- ---- by entries

abbrev pub renames : Renaming → Visit → Step Renaming (Error Unmapped) ℕ
renames r v = ask renaming_reply (λ k _. k) r v

-- the answers of an accepted run are those of the entries
pub renamed_run : (vs : List Visit) (r : Renaming) {m : Renaming} {given : List ℕ} → run renames r vs ≡ accepted given m → map (renaming_reply r) vs ≡ map Ok given
renamed_run [] r {m} {given} e = let none : ◌≡◌ {A = List ℕ} [] given = cc in ap (λ (z : List ℕ). map Ok z) none
renamed_run (v ∷ vs) r {m} {given} e = go (λ ns j same. renamed_run vs r same) (renaming_reply r v) refl e
  where
    more : ((ns : List ℕ) (j : Renaming) → run renames r vs ≡ accepted ns j → map (renaming_reply r) vs ≡ map Ok ns) → (n : ℕ) → renaming_reply r v ≡ Ok n →
        (w : Step Renaming (Error Unmapped) (List ℕ)) → run renames r vs ≡ w → and_then w (λ ns j. accepted (n ∷ ns) j) ≡ accepted given m → map (renaming_reply r) (v ∷ vs) ≡ map Ok given
    more again n is (accepted ns j) same e =
        let whole : n ∷ ns ≡ given = cc in
        ap₂ (λ (x : Result ℕ Unmapped) (xs : List (Result ℕ Unmapped)). x ∷ xs) is (again ns j same) ∙ ap (λ (z : List ℕ). map Ok z) whole
    more again n is (refused d j) same e = absurd cc

    go : ((ns : List ℕ) (j : Renaming) → run renames r vs ≡ accepted ns j → map (renaming_reply r) vs ≡ map Ok ns) → (y : Result ℕ Unmapped) → renaming_reply r v ≡ y →
        and_then (answered y r) (λ n j. and_then (run renames j vs) (λ ns h. accepted (n ∷ ns) h)) ≡ accepted given m → map (renaming_reply r) (v ∷ vs) ≡ map Ok given
    go again (Ok n) is e = more again n is (run renames r vs) refl e
    go again (Err u) is e = absurd cc

-- without entries each index is answered by itself
itself : (vs : List Visit) → map (renaming_reply (record { entries = []; strict = false })) vs ≡ map Ok (map asked_index vs)
itself [] = refl
itself (Index p i ∷ vs) = ap (λ (z : List (Result ℕ Unmapped)). Ok i ∷ z) (itself vs)
itself (Outer p k i ∷ vs) = ap (λ (z : List (Result ℕ Unmapped)). Ok i ∷ z) (itself vs)
itself (Section a b ∷ vs) = ap (λ (z : List (Result ℕ Unmapped)). Ok 0 ∷ z) (itself vs)
itself (Closed k ∷ vs) = ap (λ (z : List (Result ℕ Unmapped)). Ok 0 ∷ z) (itself vs)
itself (Push ∷ vs) = ap (λ (z : List (Result ℕ Unmapped)). Ok 0 ∷ z) (itself vs)
itself (Pop ∷ vs) = ap (λ (z : List (Result ℕ Unmapped)). Ok 0 ∷ z) (itself vs)

one_answer : (xs ys : List ℕ) → ◌≡◌ {A = List (Result ℕ Unmapped)} (map Ok xs) (map Ok ys) → xs ≡ ys
one_answer [] [] e = refl
one_answer [] (y ∷ ys) e = absurd cc
one_answer (x ∷ xs) [] e = absurd cc
one_answer (x ∷ xs) (y ∷ ys) e =
    let same : x ≡ y = cc in
    let rest : ◌≡◌ {A = List (Result ℕ Unmapped)} (map Ok xs) (map Ok ys) = cc in
    let more = one_answer xs ys rest in cc

-- and the reading stays as it is
pub unchanged : (t : Tree) (answers : List ℕ) → map (renaming_reply (record { entries = []; strict = false })) (visits t) ≡ map Ok answers → fill t answers ≡ t
unchanged t answers e = ap (λ (a : List ℕ). fill t a) (one_answer answers (own t) (sym e ∙ itself (visits t))) ∙ fill_own t

-- ---- the lister

abbrev pub lists : Placing → Visit → Step Placing (Error Unmapped) ℕ
lists l v = ask lister_reply lister_next l v

-- a run lists its visits where they stand
pub listed_run : (vs : List Visit) (l : Placing) {m : Placing} {given : List ℕ} → run lists l vs ≡ accepted given m → m.listing ≡ put_all l.listing (placed l.place vs)
listed_run [] l {m} {given} e = let same : l ≡ m = cc in ap (λ (z : Placing). z.listing) (sym same)
listed_run (v ∷ vs) l {m} {given} e = more (λ ns k same. listed_run vs (lister_next l v) same) (run lists (lister_next l v) vs) refl e
  where
    more : ((ns : List ℕ) (k : Placing) → run lists (lister_next l v) vs ≡ accepted ns k → k.listing ≡ put_all (lister_next l v).listing (placed (moved l.place v) vs)) →
        (w : Step Placing (Error Unmapped) (List ℕ)) → run lists (lister_next l v) vs ≡ w → and_then w (λ ns k. accepted (index_of v ∷ ns) k) ≡ accepted given m →
        m.listing ≡ put_all l.listing (placed l.place (v ∷ vs))
    more again (accepted ns k) same e =
        let state : k ≡ m = cc in
        ap (λ (z : Placing). z.listing) (sym state) ∙ again ns k same ∙ sym (put_all-append (map (at l.place) (listed v)) l.listing (placed (moved l.place v) vs))
    more again (refused d k) same e = absurd cc

-- and so does a walk
pub listed_walk : (c : ℕ) (s m : Placing) (t u : Tree) → walk lists c s t ≡ accepted u m → Lists t s m
listed_walk c s m t u e = listed_run (visits t) s ((walk_is_run lists).forth c s m t u e).ran

-- ---- answers in order

abbrev pub deals : Answering → Visit → Step Answering (Error Unmapped) ℕ
deals a v = ask answers_reply answers_next a v

-- what a run of the answers gives, and how many it took
pub record Dealt (a m : Answering) (vs : List Visit) (given : List ℕ) : Type 0 where
  pub answers : given ≡ dealt vs a.left
  pub count : m.count ≡ tally (a.count + length (all_listed vs))

next_left : (a : Answering) (v : Visit) → (answers_next a v).left ≡ drop (taken_by v) a.left
next_left a (Section x y) = refl
next_left a (Closed k) = refl
next_left a (Index p i) = refl
next_left a (Outer p k i) = refl
next_left a Push = refl
next_left a Pop = refl

next_low : (a : Answering) (v : Visit) → a.count ≤ 18446744073709551615 → (answers_next a v).count ≤ 18446744073709551615
next_low a (Section x y) h = h
next_low a (Closed k) h = h
next_low a (Index p i) h = counted_low (a.count + 1)
next_low a (Outer p k i) h = counted_low (a.count + 1)
next_low a Push h = counted_low (a.count + 1)
next_low a Pop h = counted_low (a.count + 1)

next_count : (a : Answering) (v : Visit) (vs : List Visit) → tally ((answers_next a v).count + length (all_listed vs)) ≡ tally (a.count + length (all_listed (v ∷ vs)))
next_count a (Section x y) vs = refl
next_count a (Closed k) vs = refl
next_count a (Index p i) vs = counted_more a.count (length (all_listed vs))
next_count a (Outer p k i) vs = counted_more a.count (length (all_listed vs))
next_count a Push vs = counted_more a.count (length (all_listed vs))
next_count a Pop vs = counted_more a.count (length (all_listed vs))

pub dealt_run : (vs : List Visit) (a : Answering) {m : Answering} {given : List ℕ} → a.count ≤ 18446744073709551615 → run deals a vs ≡ accepted given m → Dealt a m vs given
dealt_run [] a {m} {given} low e =
    let none : ◌≡◌ {A = List ℕ} [] given = cc in
    let same : a ≡ m = cc in
    record { answers = sym none; count = ap (λ (z : Answering). z.count) (sym same) ∙ counted_none a.count low }
dealt_run (v ∷ vs) a {m} {given} low e = more (λ ns k same. dealt_run vs (answers_next a v) (next_low a v low) same) (run deals (answers_next a v) vs) refl e
  where
    more : ((ns : List ℕ) (k : Answering) → run deals (answers_next a v) vs ≡ accepted ns k → Dealt (answers_next a v) k vs ns) →
        (w : Step Answering (Error Unmapped) (List ℕ)) → run deals (answers_next a v) vs ≡ w → and_then w (λ ns k. accepted (answer_to a.left v ∷ ns) k) ≡ accepted given m →
        Dealt a m (v ∷ vs) given
    more again (accepted ns k) same e =
        let whole : answer_to a.left v ∷ ns ≡ given = cc in
        let state : k ≡ m = cc in
        let rest = again ns k same in
        record {
          answers = sym whole ∙ ap (λ (z : List ℕ). answer_to a.left v ∷ z) (rest.answers ∙ ap (dealt vs) (next_left a v));
          count = ap (λ (z : Answering). z.count) (sym state) ∙ rest.count ∙ next_count a v vs;
        }
    more again (refused d k) same e = absurd cc
