-- Runs of a renamer, or of two in a chain: the answers are those of the entries, whatever was counted.
use Rattle.std.proofs.Common.{◌≡◌, ℕ, ◌<◌, ◌⊎◌, inl, inr, List, [], ◌∷◌, ◌++◌, map, Bool, true, false, Option, Some, None, Result, Ok, Err, refl, sym, ap, ap₂, ◌∙◌, subst}
use mathlib.Core.Bool.{false≢true}
use Rattle.std.specs.Prelude.{◌&&◌}
use Rattle.wasm_shapes.specs.declared.SectionId.{SectionId}
use Rattle.wasm_shapes.specs.declared.Space.{Space}
use Rattle.wasm_shapes.specs.declared.Visit.{Visit}
use Rattle.wasm_shapes.specs.declared.Visit.TheVariants.{Index, Outer, Section, Closed, Push, Pop}
use Rattle.wasm_shapes.specs.Tree.{Tree, visits}
use Rattle.wasm_shapes.specs.Spells.{Spelled}
use Rattle.wasm_shapes.specs.Types.{is_core}
use Rattle.reencode_hooks.specs.declared.asked.Unmapped.{Unmapped}
use Rattle.reencode_hooks.specs.declared.chain.ChainError.{ChainError}
use Rattle.reencode_hooks.specs.declared.chain.ChainError.TheVariants.{First, Second}
use Rattle.reencode_hooks.specs.declared.error.Error.{Error}
use Rattle.reencode_hooks.specs.declared.error.Error.TheVariants.{TooLarge, UserError}
use Rattle.reencode_hooks.specs.Chains.{first_then, reindexed, second_of, unless_err}
use Rattle.reencode_hooks.specs.Renamings.{Renaming, Entries, entry_of, or_itself, renamed, renamer_reply, renamer_next}
use Rattle.reencode_hooks.specs.Rules.{by_rule}
use Rattle.reencode_hooks.specs.Run.{Step, accepted, refused, and_then, answered, run, answers}
use Rattle.reencode_hooks.specs.Walk.{walk}
use Rattle.reencode_hooks.specs.Moments as moment
use Rattle.reencode_hooks.proofs.Walks.{walk_is_run, walk_stops}
use Rattle.reencode_hooks.proofs.Moments as moments
use Rattle.reencode_core.specs.Rules.{Refuses}
use Rattle.reencode_run.specs.Counts.{counted, counted_at}
use Rattle.reencode_run.specs.declared.renamers.Renamers.{Renamers}
use Rattle.reencode_run.specs.declared.renamers.Renamers.TheVariants.{Alone, Both}
use Rattle.reencode_run.specs.Renamers.{IsLacking, IsUnmapped, Lack, State, all_counted, asks_of, begun, counts_in, next_of, reply_of, rule_of}
use Rattle.reencode_run.proofs.Blank.{counts_next, never_lost}

-- ---- one renamer

-- the same entries, and as strict
pub record Like (r s : Renaming) : Type 0 where
  pub entries : s.entries ≡ r.entries
  pub strict : s.strict ≡ r.strict

pub like_itself : (r : Renaming) → Like r r
like_itself r = record { entries = refl; strict = refl }

abbrev rule : Renaming → Visit → Result ℕ Unmapped
rule r v = by_rule (renamed r) v

same_renamed : {r s : Renaming} → Like r s → (p : Space) (i : ℕ) → renamed s p i ≡ renamed r p i
same_renamed {r} {s} l p i =
    let of : List Entries → Bool → Result ℕ Unmapped = λ e b. renamed (record { entries = e; strict = b; counts = [] }) p i in
    ap₂ of l.entries l.strict

pub replies : {r s : Renaming} → Like r s → (v : Visit) → renamer_reply s v ≡ rule r v
replies l (Index p i) = same_renamed l p i
replies l (Outer p k i) = same_renamed l p i
replies l (Section a b) = refl
replies l (Closed k) = refl
replies l Push = refl
replies l Pop = refl

pub like_next : {r s : Renaming} → Like r s → (v : Visit) → Like r (renamer_next s v)
like_next l (Index p i) = record { entries = l.entries; strict = l.strict }
like_next l (Outer p k i) = record { entries = l.entries; strict = l.strict }
like_next l (Section x y) = record { entries = l.entries; strict = l.strict }
like_next l (Closed k) = l
like_next l Push = record { entries = l.entries; strict = l.strict }
like_next l Pop = record { entries = l.entries; strict = l.strict }

-- ---- one or two

-- a state that is reached: its renamers have the entries of those that it began with
abbrev pub Keeps : (rs : Renamers) → State rs → Type 0
Keeps (Alone r) s = Like r s
Keeps (Both c) s = Like c.a s.a × Like c.b s.b

pub keeps_begun : (rs : Renamers) → Keeps rs (begun rs)
keeps_begun (Alone r) = like_itself r
keeps_begun (Both c) = (like_itself c.a, like_itself c.b)

-- the second one's answers to what the first one answered
then_same : (x : Result ℕ Unmapped) {q s : Renaming} → Like q s → (v : Visit) →
    first_then x (λ n. renamer_reply s (reindexed v n)) ≡ first_then x (λ n. rule q (reindexed v n))
then_same (Ok n) l v = ap (λ (z : Result ℕ Unmapped). second_of {X = Unmapped} z) (replies l (reindexed v n))
then_same (Err e) l v = refl

pub replies_by_rule : (rs : Renamers) (s : State rs) → Keeps rs s → (v : Visit) → reply_of rs s v ≡ rule_of rs v
replies_by_rule (Alone r) s l v = replies l v
replies_by_rule (Both c) s l v =
    ap (λ (z : Result ℕ Unmapped). first_then z (λ n. renamer_reply s.b (reindexed v n))) (replies l.0 v) ∙ then_same (rule c.a v) l.1 v

then_like : (x : Result ℕ Unmapped) {q s : Renaming} → Like q s → (v : Visit) → Like q (unless_err x s (λ n. renamer_next s (reindexed v n)))
then_like (Ok n) l v = like_next l (reindexed v n)
then_like (Err e) l v = l

pub keeps_next : (rs : Renamers) (s : State rs) → Keeps rs s → (v : Visit) → Keeps rs (next_of rs s v)
keeps_next (Alone r) s l v = like_next l v
keeps_next (Both c) s l v = (like_next l.0 v, then_like (renamer_reply s.a v) l.1 v)

-- ---- counts

-- the renamers in a state
abbrev pub now : (rs : Renamers) → State rs → Renamers
now (Alone r) s = Alone s
now (Both c) s = Both s

pub now_begun : (rs : Renamers) → now rs (begun rs) ≡ rs
now_begun (Alone r) = refl
now_begun (Both c) = refl

counted_again : (counts : List ℕ) (v : Visit) (n : ℕ) → counted_at counts (reindexed v n) ≡ counted_at counts v
counted_again counts (Index p i) n = refl
counted_again counts (Outer p k i) n = refl
counted_again counts (Section a b) n = refl
counted_again counts (Closed k) n = refl
counted_again counts Push n = refl
counted_again counts Pop n = refl

then_counted : (x : Result ℕ Unmapped) (second : ℕ → Result ℕ Unmapped) (s : Renaming) (v : Visit) (n : ℕ) → first_then x second ≡ Ok n →
    (unless_err x s (λ k. renamer_next s (reindexed v k))).counts ≡ counted_at s.counts v
then_counted (Ok k) second s v n e = counts_next s (reindexed v k) ∙ counted_again s.counts v k
then_counted (Err u) second s v n e = absurd cc

-- one visit more is counted for each
pub all_raised : (rs : Renamers) (s : State rs) (v : Visit) (n : ℕ) → reply_of rs s v ≡ Ok n →
    counts_in (now rs (next_of rs s v)) ≡ map (λ c. counted_at c v) (counts_in (now rs s))
all_raised (Alone r) s v n e = ap (λ (c : List ℕ). c ∷ []) (counts_next s v)
all_raised (Both c) s v n e =
    ap₂ (λ (x y : List ℕ). x ∷ y ∷ []) (counts_next s.a v) (then_counted (renamer_reply s.a v) (λ k. renamer_reply s.b (reindexed v k)) s.b v n e)

none_counted : (counts : List (List ℕ)) → counts ≡ all_counted counts []
none_counted [] = refl
none_counted (c ∷ cs) = ap (λ (z : List (List ℕ)). c ∷ z) (none_counted cs)

more_counted : (counts : List (List ℕ)) (v : Visit) (vs : List Visit) → all_counted (map (λ c. counted_at c v) counts) vs ≡ all_counted counts (v ∷ vs)
more_counted [] v vs = refl
more_counted (c ∷ cs) v vs = ap (λ (z : List (List ℕ)). counted (counted_at c v) vs ∷ z) (more_counted cs v vs)

-- ---- one visit that is refused

lost_entry : (o : Option ℕ) (b : Bool) (p : Space) (i : ℕ) (u : Unmapped) → or_itself o b p i ≡ Err u → (o ≡ None) × (b ≡ true) × (u ≡ record { space = p; index = i })
lost_entry (Some n) b p i u e = absurd cc
lost_entry None true p i u e = let same : u ≡ record { space = p; index = i } = cc in (refl, refl, same)
lost_entry None false p i u e = absurd cc

first : (a b : Bool) → (a && b) ≡ true → (a ≡ true) × (b ≡ true)
first true b e = (refl, e)
first false b e = absurd (false≢true e)

unmapped : (r : Renaming) (p : Space) (i : ℕ) (u : Unmapped) → renamed r p i ≡ Err u → IsUnmapped r u
unmapped r p i u e =
    let h = lost_entry (entry_of r p i) (r.strict && is_core p) p i u e in
    let both = first r.strict (is_core p) h.1 in
    let P : Unmapped → Type 0 = λ z. IsUnmapped r z in
    subst P (sym h.2) (record { strict = both.0; core = both.1; none = h.0 })

no_entry : (r : Renaming) (v : Visit) (u : Unmapped) → rule r v ≡ Err u → IsUnmapped r u
no_entry r (Index p i) u e = unmapped r p i u e
no_entry r (Outer p k i) u e = unmapped r p i u e
no_entry r (Section a b) u e = absurd cc
no_entry r (Closed k) u e = absurd cc
no_entry r Push u e = absurd cc
no_entry r Pop u e = absurd cc

pub no_answer : (rs : Renamers) (v : Visit) (u : Lack rs) → rule_of rs v ≡ Err u → IsLacking rs u
no_answer (Alone r) v u e = no_entry r v u e
no_answer (Both c) v u e = go (rule c.a v) refl e
  where
    by_second : (n : ℕ) (y : Result ℕ Unmapped) → rule c.b (reindexed v n) ≡ y → second_of {X = Unmapped} y ≡ Err u → IsLacking (Both c) u
    by_second n (Ok k) is e = absurd cc
    by_second n (Err x) is e =
        let same : Second x ≡ u = cc in
        let P : ChainError Unmapped Unmapped → Type 0 = λ z. IsLacking (Both c) z in
        subst P same (no_entry c.b (reindexed v n) x is)

    go : (y : Result ℕ Unmapped) → rule c.a v ≡ y → first_then y (λ n. rule c.b (reindexed v n)) ≡ Err u → IsLacking (Both c) u
    go (Ok n) is e = by_second n (rule c.b (reindexed v n)) refl e
    go (Err x) is e =
        let same : First x ≡ u = cc in
        let P : ChainError Unmapped Unmapped → Type 0 = λ z. IsLacking (Both c) z in
        subst P same (no_entry c.a v x is)

unmapped_or_not : (r : Renaming) (u : Unmapped) → (IsUnmapped r u → ⊥) ⊎ IsUnmapped r u
unmapped_or_not r u = go r.strict refl (is_core u.space) refl (entry_of r u.space u.index) refl
  where
    go : (s : Bool) → r.strict ≡ s → (k : Bool) → is_core u.space ≡ k → (o : Option ℕ) → entry_of r u.space u.index ≡ o → (IsUnmapped r u → ⊥) ⊎ IsUnmapped r u
    go true es true ek None eo = inr (record { strict = es; core = ek; none = eo })
    go true es true ek (Some n) eo = inl (λ h. let none : entry_of r u.space u.index ≡ None = h.none in cc)
    go true es false ek o eo = inl (λ h. let core : is_core u.space ≡ true = h.core in false≢true (sym ek ∙ core))
    go false es k ek o eo = inl (λ h. let strict : r.strict ≡ true = h.strict in false≢true (sym es ∙ strict))

pub lacking_or_not : (rs : Renamers) (u : Lack rs) → (IsLacking rs u → ⊥) ⊎ IsLacking rs u
lacking_or_not (Alone r) u = unmapped_or_not r u
lacking_or_not (Both c) (First u) = unmapped_or_not c.a u
lacking_or_not (Both c) (Second u) = unmapped_or_not c.b u

-- the section hook is never refused
pub hook_answers : (rs : Renamers) (last before : Option SectionId) → rule_of rs (Section last before) ≡ Ok 0
hook_answers (Alone r) last before = refl
hook_answers (Both c) last before = refl

-- ---- runs

module _ (rs : Renamers) where
  -- the answers of an accepted run, and the renamers behind it
  pub record Ran (s k : State rs) (vs : List Visit) (given : List ℕ) : Type 0 where
    pub answers : map (rule_of rs) vs ≡ map Ok given
    pub keeps : Keeps rs k
    pub counts : counts_in (now rs k) ≡ all_counted (counts_in (now rs s)) vs

  ran_from : {s k : State rs} (v : Visit) (vs : List Visit) (n : ℕ) (ns given : List ℕ) → reply_of rs s v ≡ Ok n → Keeps rs s → Ran (next_of rs s v) k vs ns → n ∷ ns ≡ given
      → Ran s k (v ∷ vs) given
  ran_from {s} {k} v vs n ns given is l h whole = record {
    answers = ap₂ (λ (x : Result ℕ (Lack rs)) (xs : List (Result ℕ (Lack rs))). x ∷ xs) (sym (replies_by_rule rs s l v) ∙ is) h.answers ∙ ap (λ (z : List ℕ). map Ok z) whole;
    keeps = h.keeps;
    counts = h.counts ∙ ap (λ (z : List (List ℕ)). all_counted z vs) (all_raised rs s v n is) ∙ more_counted (counts_in (now rs s)) v vs;
  }

  pub ran : (vs : List Visit) (s : State rs) {k : State rs} {given : List ℕ} → Keeps rs s → run (asks_of rs) s vs ≡ accepted given k → Ran s k vs given
  ran [] s {k} {given} l e =
      let none : ◌≡◌ {A = List ℕ} [] given = cc in
      let same : s ≡ k = cc in
      record {
        answers = ap (λ (z : List ℕ). map Ok z) none;
        keeps = subst (Keeps rs) same l;
        counts = ap (λ (z : State rs). counts_in (now rs z)) (sym same) ∙ none_counted (counts_in (now rs s));
      }
  ran (v ∷ vs) s {k} {given} l e = go (λ ns j same. ran vs (next_of rs s v) (keeps_next rs s l v) same) (reply_of rs s v) refl e
    where
      more : ((ns : List ℕ) (j : State rs) → run (asks_of rs) (next_of rs s v) vs ≡ accepted ns j → Ran (next_of rs s v) j vs ns) → (n : ℕ) → reply_of rs s v ≡ Ok n
          → (w : Step (State rs) (Error (Lack rs)) (List ℕ)) → run (asks_of rs) (next_of rs s v) vs ≡ w →
          and_then w (λ ns j. accepted (n ∷ ns) j) ≡ accepted given k → Ran s k (v ∷ vs) given
      more again n is (accepted ns j) same e =
          let whole : n ∷ ns ≡ given = cc in let state : j ≡ k = cc in
          ran_from v vs n ns given is l (again ns k (same ∙ ap (λ (z : State rs). accepted ns z) state)) whole
      more again n is (refused d j) same e = absurd cc

      go : ((ns : List ℕ) (j : State rs) → run (asks_of rs) (next_of rs s v) vs ≡ accepted ns j → Ran (next_of rs s v) j vs ns) → (x : Result ℕ (Lack rs)) → reply_of rs s v ≡ x →
          and_then (answered x (next_of rs s v)) (λ n j. and_then (run (asks_of rs) j vs) (λ ns i. accepted (n ∷ ns) i)) ≡ accepted given k → Ran s k (v ∷ vs) given
      go again (Ok n) is e = more again n is (run (asks_of rs) (next_of rs s v) vs) refl e
      go again (Err x) is e = absurd cc

  -- where each visit has an answer, the run is accepted
  pub runs : (vs : List Visit) (s : State rs) (given : List ℕ) → Keeps rs s → map (rule_of rs) vs ≡ map Ok given → (m : State rs) × (run (asks_of rs) s vs ≡ accepted given m)
  runs [] s [] l e = (s, refl)
  runs [] s (g ∷ gs) l e = absurd cc
  runs (v ∷ vs) s [] l e = absurd cc
  runs (v ∷ vs) s (g ∷ gs) l e =
      let first : rule_of rs v ≡ Ok g = cc in
      let reply : reply_of rs s v ≡ Ok g = replies_by_rule rs s l v ∙ first in
      let rest : map (rule_of rs) vs ≡ map Ok gs = cc in
      let more = runs vs (next_of rs s v) gs (keeps_next rs s l v) rest in
      (more.0, rw (reply, more.1) refl)

  -- a refused run is refused at the first visit without an answer
  pub stops : (vs : List Visit) (s : State rs) {m : State rs} {x : Lack rs} → Keeps rs s → run (asks_of rs) s vs ≡ refused (UserError x) m → Refuses (rule_of rs) vs x
  stops [] s l e = absurd cc
  stops (v ∷ vs) s {m} {x} l e = go (λ k same. stops vs (next_of rs s v) (keeps_next rs s l v) same) (reply_of rs s v) refl e
    where
      behind : (n : ℕ) → reply_of rs s v ≡ Ok n → Refuses (rule_of rs) vs x → Refuses (rule_of rs) (v ∷ vs) x
      behind n is h = record {
        front = v ∷ h.front;
        visit = h.visit;
        rest = h.rest;
        parts = ap (λ (z : List Visit). v ∷ z) h.parts;
        answers = n ∷ h.answers;
        accepted = ap₂ (λ (y : Result ℕ (Lack rs)) (ys : List (Result ℕ (Lack rs))). y ∷ ys) (sym (replies_by_rule rs s l v) ∙ is) h.accepted;
        refused = h.refused;
      }

      more : ((k : State rs) → run (asks_of rs) (next_of rs s v) vs ≡ refused (UserError x) k → Refuses (rule_of rs) vs x) → (n : ℕ) → reply_of rs s v ≡ Ok n
          → (w : Step (State rs) (Error (Lack rs)) (List ℕ)) → run (asks_of rs) (next_of rs s v) vs ≡ w →
          and_then w (λ ns j. accepted (n ∷ ns) j) ≡ refused (UserError x) m → Refuses (rule_of rs) (v ∷ vs) x
      more again n is (accepted ns j) same e = absurd cc
      more again n is (refused d j) same e =
          let user : d ≡ UserError x = cc in behind n is (again j (same ∙ ap (λ (z : Error (Lack rs)). refused z j) user))

      go : ((k : State rs) → run (asks_of rs) (next_of rs s v) vs ≡ refused (UserError x) k → Refuses (rule_of rs) vs x) → (y : Result ℕ (Lack rs)) → reply_of rs s v ≡ y →
          and_then (answered y (next_of rs s v)) (λ n j. and_then (run (asks_of rs) j vs) (λ ns i. accepted (n ∷ ns) i)) ≡ refused (UserError x) m → Refuses (rule_of rs) (v ∷ vs) x
      go again (Ok n) is e = more again n is (run (asks_of rs) (next_of rs s v) vs) refl e
      go again (Err y) is e =
          let same : y ≡ x = cc in
          record { front = []; visit = v; rest = vs; parts = refl; answers = []; accepted = refl; refused = sym (replies_by_rule rs s l v) ∙ is ∙ ap (λ (z : Lack rs). Err z) same }

  -- ---- what a refusal says

  -- an index has no entry, or a size is above the ceiling
  abbrev pub Told : ℕ → Error (Lack rs) → Type 0
  Told c (UserError u) = IsLacking rs u
  Told c (TooLarge size) = c < size
  Told c _ = ⊥

  pub told_visit : (s : State rs) {m : State rs} (c : ℕ) (v : Visit) (e : Error (Lack rs)) → Keeps rs s → asks_of rs s v ≡ refused e m → Told c e
  told_visit s {m} c v e l h = go (reply_of rs s v) refl h
    where
      go : (y : Result ℕ (Lack rs)) → reply_of rs s v ≡ y → answered y (next_of rs s v) ≡ refused e m → Told c e
      go (Ok n) is h = absurd cc
      go (Err u) is h =
          let same : UserError u ≡ e = cc in
          let P : Error (Lack rs) → Type 0 = λ z. Told c z in
          subst P same (no_answer rs v u (sym (replies_by_rule rs s l v) ∙ is))

  ended : (c : ℕ) (s k : State rs) (m : State rs) {a : List ℕ} (front rest : List moment.Moment) (now : moment.Moment) (e : Error (Lack rs)) → Keeps rs s →
      moment.NoneLost (front ++ now ∷ rest) → run (asks_of rs) s (moment.asked_in front) ≡ accepted a k → moment.Ends (asks_of rs) c k now e m → Told c e
  ended c s k m front rest (moment.asks v) e l none ran_there h = told_visit k c v e (ran (moment.asked_in front) s l ran_there).keeps h
  ended c s k m front rest (moment.closes n) e l none ran_there h =
      let P : Error (Lack rs) → Type 0 = λ z. Told c z in subst P (sym h.1) h.0
  ended c s k m front rest moment.lost e l none ran_there h = absurd (never_lost front rest none)

  -- a walk over a tree that bytes spell is refused for no other cause
  pub told_walk : (s : State rs) {m : State rs} {e : Error (Lack rs)} (c : ℕ) (t : Tree) (x : List ℕ) → Keeps rs s → Spelled t x → walk (asks_of rs) c s t ≡ refused e m → Told c e
  told_walk s {m} {e} c t x l p h =
      let given = answers (asks_of rs) s (visits t) in
      let q = (walk_stops (asks_of rs) c s m t e).0 h in
      let none : moment.NoneLost (moment.moments t given) = moments.known t x given p in
      ended c s q.state m q.front q.rest q.moment e l (subst moment.NoneLost q.parts none) q.ran q.ends

  -- an accepted walk leaves such renamers
  pub walk_keeps : (s : State rs) {k : State rs} {u : Tree} (c : ℕ) (t : Tree) → Keeps rs s → walk (asks_of rs) c s t ≡ accepted u k → Keeps rs k
  walk_keeps s {k} {u} c t l h = (ran (visits t) s l ((walk_is_run (asks_of rs)).forth c s k t u h).ran).keeps
