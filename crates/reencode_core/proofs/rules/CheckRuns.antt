-- Runs of the reencoder that keeps the first refusal of a rule.
use Rattle.std.proofs.Common.{◌≡◌, ◌≢◌, ℕ, List, [], ◌∷◌, map, true, IsTrue, Option, Some, None, Result, Ok, Err, refl, sym, ap, ap₂, ◌∙◌, subst, ◌⊎◌, inl, inr, ◌-◌, length}
use Rattle.wasm_shapes.specs.declared.SectionId.{SectionId}
use Rattle.wasm_shapes.specs.declared.Space.{Space}
use Rattle.wasm_shapes.specs.declared.Visit.{Visit}
use Rattle.wasm_shapes.specs.declared.Visit.TheVariants.{Index, Outer, Section}
use Rattle.wasm_shapes.specs.Tree.{Tree, visits}
use Rattle.wasm_shapes.specs.Own.{asked_index, own}
use Rattle.wasm_shapes.specs.Shape.{Shape}
use Rattle.wasm_shapes.specs.Spells.{Spelled, Spells}
use Rattle.wasm_shapes.specs.CodeSize.{InvalidCodeSize}
use Rattle.wasm_shapes.specs.Module.{core_module, core_tree, alsos, FaultAt}
use Rattle.wasm_shapes.proofs.OwnAnswers.{fill_own}
use Rattle.wasm_shapes.proofs.Laws.{module_headed}
use Rattle.wasm_read.specs.Names.{NamesStanding}
use Rattle.wasm_read.specs.Reading.{Standing}
use Rattle.wasm_write.proofs.FramesFit.{read_frames_fit}
use Rattle.reencode_hooks.specs.declared.error.Error.{Error}
use Rattle.reencode_hooks.specs.declared.error.Error.TheVariants.{InvalidCodeSectionSize, UnexpectedNonCoreModuleSection, ParseError, UserError, TooLarge, NoMemory}
use Rattle.reencode_hooks.specs.Hooks.{index_of}
use Rattle.reencode_hooks.specs.Rules.{by_rule}
use Rattle.reencode_hooks.specs.Run.{Step, accepted, refused, ask, run}
use Rattle.reencode_hooks.specs.Walk.{walk}
use Rattle.reencode_hooks.proofs.Walks.{walk_is_run}
use Rattle.reencode_core.specs.declared.rule.Checking.{Checking}
use Rattle.reencode_core.specs.Checks.{IsAccepted, IsNoModule, IsRefused, IsUnread, noted, refusal_of}
use Rattle.reencode_core.specs.Core.{AcceptsSections, GivesBytes, NoHeader, FaultThere, RefusedIn, StopsThere}
use Rattle.reencode_core.specs.Names.{RefusesEntry, RefusesSubsection, StopsNames}
use Rattle.reencode_core.specs.Rows.{RefusesInside, RefusesRow, StopsBody, StopsDue, StopsEach}
use Rattle.reencode_core.specs.Leaves.{IsSize, Leaves, core_in}
use Rattle.reencode_core.specs.Rules.{IfUser, Refuses}
use Rattle.reencode_core.specs.Sections.{StopsSection}
use Rattle.reencode_core.proofs.faults.OneFront.{reads_or_fails}
use Rattle.reencode_core.proofs.faults.RefusalLaws.{refusal_tells}

-- ---- a rule's first refusal of some visits

module _ {E : Type 0} (renamed : Space → ℕ → Result ℕ E) where
  abbrev noted_all : Option E → List Visit → Option E
  noted_all o [] = o
  noted_all o (v ∷ vs) = noted_all (noted renamed o v) vs

  stays : (x : E) (vs : List Visit) → noted_all (Some x) vs ≡ Some x
  stays x [] = refl
  stays x (v ∷ vs) = stays x vs

  -- none says that each visit has an answer
  abbrev Told : List Visit → Option E → Type 0
  Told vs None = (answers : List ℕ) × (map (by_rule renamed) vs ≡ map Ok answers)
  Told vs (Some x) = Refuses (by_rule renamed) vs x

  told_more : (v : Visit) (vs : List Visit) (n : ℕ) → by_rule renamed v ≡ Ok n → (o : Option E) → Told vs o → Told (v ∷ vs) o
  told_more v vs n is None t = (n ∷ t.0, ap₂ (λ (x : Result ℕ E) (xs : List (Result ℕ E)). x ∷ xs) is t.1)
  told_more v vs n is (Some x) r = record {
    front = v ∷ r.front;
    visit = r.visit;
    rest = r.rest;
    parts = ap (λ (z : List Visit). v ∷ z) r.parts;
    answers = n ∷ r.answers;
    accepted = ap₂ (λ (y : Result ℕ E) (ys : List (Result ℕ E)). y ∷ ys) is r.accepted;
    refused = r.refused;
  }

  told : (vs : List Visit) → Told vs (noted_all None vs)
  told [] = ([], refl)
  told (v ∷ vs) = go (by_rule renamed v) refl (told vs)
    where
      go : (r : Result ℕ E) → by_rule renamed v ≡ r → Told vs (noted_all None vs) → Told (v ∷ vs) (noted_all (refusal_of r) vs)
      go (Ok n) is t = told_more v vs n is (noted_all None vs) t
      go (Err x) is t =
          subst (Told (v ∷ vs)) (sym (stays x vs)) (record { front = []; visit = v; rest = vs; parts = refl; answers = []; accepted = refl; refused = is })

one_index : (v : Visit) → index_of v ≡ asked_index v
one_index (Index p i) = refl
one_index (Outer p k i) = refl
one_index _ = refl

-- the bytes are a core module, and this is the rule's first refusal of its visits
record Checked {R E : Type 0} (renamed : R → Space → ℕ → Result ℕ E) (rule : R) (bytes : List ℕ) (o : Option E) : Type 0 where
  tree : Tree
  reading : Spells core_module bytes tree
  told : Told (renamed rule) (visits tree) o

-- ---- its reencoder

module _ {R E : Type 0} (renamed : R → Space → ℕ → Result ℕ E) where
  abbrev pub next : Checking R E → Visit → Checking R E
  next s v = record s { refusal = noted (renamed s.rule) s.refusal v }

  abbrev pub asks : Checking R E → Visit → Step (Checking R E) (Error E) ℕ
  asks = ask (λ _ v. Ok (index_of v)) next

  abbrev after : Checking R E → List Visit → Checking R E
  after s vs = record { rule = s.rule; refusal = noted_all (renamed s.rule) s.refusal vs }

  runs : (s : Checking R E) (vs : List Visit) → run asks s vs ≡ accepted (map asked_index vs) (after s vs)
  runs s [] = refl
  runs s (v ∷ vs) =
      rw (runs (next s v) vs) (ap (λ (n : ℕ). accepted (n ∷ map asked_index vs) (after s (v ∷ vs))) (one_index v))

  abbrev start : R → Checking R E
  start rule = record { rule = rule; refusal = None }

  -- What stands whole is accepted: its indices keep their numbers, and its frames are no longer than they stand.
  never : {e : Error E} {k : Checking R E} (s : Checking R E) (t : Tree) (x : List ℕ) → Spelled t x → walk asks 4294967295 s t ≡ refused e k → ⊥
  never s t x p refusal =
      let accepts : walk asks 4294967295 s t ≡ accepted t (after s (visits t)) =
      (walk_is_run asks).back 4294967295 s (after s (visits t)) t t x p
      (record { given = own t; ran = runs s (visits t); filled = fill_own t; fits = read_frames_fit t x p }) in
      absurd cc

  never_row : {row : Shape} {rest : List ℕ} {s k : Checking R E} {e : Error E} → RefusesRow asks 4294967295 row rest s e k → ⊥
  never_row {s = s} r = never s r.tree r.begins.text r.begins.spells.spelled r.refusal

  never_each : {item : Shape} {rest : List ℕ} {s k : Checking R E} {e : Error E} → StopsEach asks 4294967295 item rest s e k → ⊥
  never_each h = never h.state h.next h.begins.text h.begins.spells.spelled h.refuses

  never_body : {body : List ℕ} {s k : Checking R E} {e : Error E} → StopsBody asks 4294967295 body s e k → ⊥
  never_body {s = s} (inl h) = never s h.0 h.2.text h.2.spells.spelled h.3
  never_body (inr h) = never_each h.6

  never_due : {row : Shape} {reader : Standing} {s k : Checking R E} {e : Error E} → StopsDue asks 4294967295 row reader s e k → ⊥
  never_due {row = row} {k = k} {e = e} h = go h.refuses
    where
      go : RefusesRow asks 4294967295 row h.rest h.state e k ⊎ RefusesInside asks 4294967295 row h.rest h.state e k → ⊥
      go (inl r) = never_row r
      go (inr r) = never_body r.stops

  never_names : {reader : NamesStanding} {s k : Checking R E} {e : Error E} → StopsNames asks 4294967295 reader s e k → ⊥
  never_names {k = k} {e = e} h = go h.refuses
    where
      go : RefusesSubsection asks 4294967295 h.rest h.state e k ⊎ RefusesEntry asks h.rest 4294967295 h.state e k → ⊥
      go (inl r) = never_row r
      go (inr r) = never_each r.stops

  never_there : {rest : List ℕ} {last : Option SectionId} {s k : Checking R E} {e : Error E} → StopsThere asks 4294967295 rest last s e k → ⊥
  never_there (inr h) = never_names h.stops
  never_there {last = last} {s = s} {k = k} {e = e} (inl h) = go h.stops
    where
      go : (asks s (Section last (Some h.id)) ≡ refused e k)
          ⊎ ((n : Checking R E) × (asks s (Section last (Some h.id)) ≡ accepted 0 n) × StopsSection asks 4294967295 h.id h.body n e k) → ⊥
      go (inl hook) = absurd cc
      go (inr behind) = never_due behind.2.stops

  module _ {bytes : List ℕ} {rule : R} {m : Checking R E} where
    -- no refusal is one of the reencoder's
    never_refused : (x : E) → Leaves asks (core_in bytes) (start rule) (UserError x) m → ⊥
    never_refused x l = (refusal_tells asks).never (λ s v. (index_of v, next s v, refl)) bytes (start rule) m x l

    pub check_user : (P : E → Type 0) (e : Error E) → ((e ≡ NoMemory → IsTrue true) → (IsSize e → IsTrue true) → Leaves asks (core_in bytes) (start rule) e m) → IfUser e P
    check_user P (UserError x) l = absurd (never_refused x (l (λ same. refl) (λ size. refl)))
    check_user P e l = tt

    fault : (at : ℕ) → FaultThere asks 4294967295 bytes (start rule) m at →
        (NoHeader bytes × (at ≡ 0)) ⊎ ((before : List Tree) × (rest : List ℕ) × FaultAt bytes before rest × ¬ InvalidCodeSize rest × (at ≡ length bytes - length rest))
    fault at (inl h) = inl (h.0, h.1)
    fault at (inr h) = inr (h.0, h.1, h.2, h.3, h.4)

  module _ {A : Type 0} {bytes : List ℕ} {rule : R} {m : Checking R E} {view : A → List ℕ} where
    checked : {out : A} → GivesBytes asks 4294967295 bytes (start rule) m (Ok out) view → Checked renamed rule bytes m.refusal
    checked {out} g =
        let p = g.readable in
        let q = g.reading p.0 p.1 in
        let a = (walk_is_run asks).forth 4294967295 (start rule) m p.0 q.0 q.1 in
        let same : ◌≡◌ {A = Step (Checking R E) (Error E) (List ℕ)} (accepted (map asked_index (visits p.0)) (after (start rule) (visits p.0))) (accepted a.given m) =
        sym (runs (start rule) (visits p.0)) ∙ a.ran in
        let end : after (start rule) (visits p.0) ≡ m = cc in
        record {
          tree = p.0;
          reading = p.1;
          told = subst (λ (z : Checking R E). Told (renamed rule) (visits p.0) z.refusal) end (told (renamed rule) (visits p.0));
        }

    pub check_accepts : {out : A} → GivesBytes asks 4294967295 bytes (start rule) m (Ok out) view → m.refusal ≡ None → IsAccepted (renamed rule) bytes
    check_accepts g none =
        let h = subst (Checked renamed rule bytes) none (checked g) in record { tree = h.tree; reading = h.reading; answers = h.told.0; answered = h.told.1 }

    pub check_refuses : {out : A} {x : E} → GivesBytes asks 4294967295 bytes (start rule) m (Ok out) view → m.refusal ≡ Some x → IsRefused (renamed rule) bytes x
    check_refuses g some = let h = subst (Checked renamed rule bytes) some (checked g) in record { tree = h.tree; reading = h.reading; refuses = h.told }

    -- an error says that the bytes are no core module
    no_module : (e : Error E) → GivesBytes {A = A} asks 4294967295 bytes (start rule) m (Err e) view → e ≢ NoMemory → IsNoModule bytes
    no_module e g other t p =
        never (start rule) t bytes p.spelled (g.reading t p other)

    -- no size is too large: the bytes have no reading, so a fault, and what stands before it is accepted
    none_large : (size : ℕ) → GivesBytes {A = A} asks 4294967295 bytes (start rule) m (Err (TooLarge size)) view → ⊥
    none_large size g =
        let none = no_module (TooLarge size) g (λ same. absurd cc) in
        let cause = g.cause in
        reads_or_fails bytes cause.0.0 cause.0.1 (λ t p. none (core_tree t) (module_headed.forth bytes t p)) (λ before rest f. go before f (cause.1 before rest f))
      where
        go : (before : List Tree) {rest : List ℕ} → FaultAt bytes before rest → RefusedIn asks 4294967295 (start rule) before (TooLarge size) m
            ⊎ ((made : List Tree) × (last : Option SectionId) × (n : Checking R E) × AcceptsSections asks 4294967295 (start rule) before made last n
            × StopsThere asks 4294967295 rest last n (TooLarge size) m) → ⊥
        go before f (inl refusal) = never (start rule) (alsos before Tree.finish) f.front.text f.front.spells.spelled (refusal Tree.finish)
        go before f (inr h) = never_there h.4

    pub check_unread : (e : Error E) → GivesBytes {A = A} asks 4294967295 bytes (start rule) m (Err e) view → IsUnread bytes e
    check_unread (UserError x) g = tt
    check_unread NoMemory g = tt
    check_unread (ParseError e) g = (no_module (ParseError e) g (λ same. absurd cc), fault e.at g.cause)
    check_unread InvalidCodeSectionSize g = let c = g.cause in (no_module InvalidCodeSectionSize g (λ same. absurd cc), (c.0, c.1, c.2, c.3))
    check_unread UnexpectedNonCoreModuleSection g = let c = g.cause in (no_module UnexpectedNonCoreModuleSection g (λ same. absurd cc), (c.0, c.1))
    check_unread (TooLarge size) g = absurd (none_large size g)
    check_unread e g = absurd g.cause
