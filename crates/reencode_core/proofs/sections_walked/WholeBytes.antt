-- From the sections of a module to its bytes.
use Rattle.std.proofs.Common.{◌≡◌, ◌≢◌, ℕ, List, [], ◌∷◌, ◌++◌, Option, None, Ok, Err, refl, sym, ap, ◌∙◌, subst, append_assoc, ◌⊎◌, inl, inr}
use Rattle.wasm_shapes.specs.declared.SectionId.{SectionId}
use Rattle.wasm_shapes.specs.declared.Visit.TheVariants.{Section}
use Rattle.wasm_shapes.specs.Tree.{Tree, visits}
use Rattle.wasm_shapes.specs.Spells.{Is, Spelled, Spells}
use Rattle.wasm_shapes.specs.Place.{Begins}
use Rattle.wasm_shapes.specs.Module.{core_header, core_tree, sections, section, alsos, frame, tree_of, InFrame, CoreReading}
use Rattle.wasm_shapes.proofs.Laws.{module_headed}
use Rattle.wasm_shapes.proofs.SectionTable.{in_frame}
use Rattle.wasm_write.specs.Sections.{Sections, SectionRow, sections_bytes, module_bytes}
use Rattle.reencode_hooks.specs.declared.error.Error.{Error}
use Rattle.reencode_hooks.specs.declared.error.Error.TheVariants.{NoMemory}
use Rattle.reencode_hooks.specs.Hooks.{HasTooLarge}
use Rattle.reencode_hooks.specs.Run.{Step, accepted, refused}
use Rattle.reencode_hooks.specs.Walk.{announced, followed, walk}
use Rattle.reencode_core.specs.Rows.{Asks}
use Rattle.reencode_core.specs.Core.{onto}
use Rattle.reencode_core.specs.Weave.{Puts, added, put_before, put_behind, weave, weave_from}
use Rattle.reencode_core.specs.Woven.{AddsFit, IsOwn, OwnNext, OwnTooLarge, IsWovenCause, StopsNext, StopsWoven, GivesWoven, GivesWovenBytes}
use Rattle.reencode_core.proofs.weave.AddsNothing.{none_own}

-- ---- sections in two parts

-- what spells some sections and others behind them spells the first, and then the others
parts_read : (ts : List Tree) (others : Tree) (x : List ℕ) → Spells sections x (alsos ts others) →
    (y z : List ℕ) × (x ≡ y ++ z) × Spells sections y (alsos ts Tree.finish) × Spells sections z others
parts_read [] others x p = ([], x, refl, record { shaped = Is.finish; spelled = refl }, p)
parts_read (t ∷ ts) others x p = go p.shaped p.spelled (λ z q. parts_read ts others z q)
  where
    go : Is sections (Tree.also t (alsos ts others)) → Spelled (Tree.also t (alsos ts others)) x →
        ((z : List ℕ) → Spells sections z (alsos ts others) → (y w : List ℕ) × (z ≡ y ++ w) × Spells sections y (alsos ts Tree.finish) × Spells sections w others) →
        (y z : List ℕ) × (x ≡ y ++ z) × Spells sections y (Tree.also t (alsos ts Tree.finish)) × Spells sections z others
    go (Is.also d d') s again =
        let q = again s.1 (record { shaped = d'; spelled = s.4 }) in (
          s.0 ++ q.0,
          q.1,
          s.2 ∙ ap (λ (w : List ℕ). s.0 ++ w) q.2 ∙ sym (append_assoc s.0 q.0 q.1),
          record { shaped = Is.also d q.3.shaped; spelled = (s.0, q.0, refl, s.3, q.3.spelled) },
          q.4,
        )

-- the first of these sections
first_begins : {t others : Tree} {x : List ℕ} → Spells sections x (Tree.also t others) → (left : List ℕ) × Begins section x t left
first_begins {t = t} {others = others} {x = x} p = go p.shaped p.spelled
  where
    go : Is sections (Tree.also t others) → Spelled (Tree.also t others) x → (left : List ℕ) × Begins section x t left
    go (Is.also d d') s = (s.1, record { text = s.0; spells = record { shaped = d; spelled = s.3 }; reads = s.2 })

module _ {S E : Type 0} (asked : Asks S E) (adds : Puts S SectionRow) where
  -- a section that the section hook puts something before stands in its frame
  own_next : (c : ℕ) (last : Option SectionId) (s : S) (t others : Tree) (x : List ℕ) (e : Error E) → Spells sections x (Tree.also t others) → IsOwn c (put_before adds s last t) e →
      OwnNext asked adds c last s x e
  own_next c last s t others x e p own = go f.1 f.2 own
    where
      b : (left : List ℕ) × Begins section x t left
      b = first_begins p

      f : (f : Tree) × InFrame t f × Spells frame b.1.text f
      f = in_frame t b.1.text b.1.spells.shaped b.1.spells.spelled

      go : {u g : Tree} → InFrame u g → Spells frame b.1.text g → IsOwn c (put_before adds s last u) e → OwnNext asked adds c last s x e
      go (InFrame.of_kind k u body low r) spells h = inr (k, body, b.0, record { text = b.1.text; spells = spells; reads = b.1.reads }, inl h)
      go (InFrame.of_custom name contents u r) spells h = absurd (none_own c [] e refl h)
      go (InFrame.of_unknown id contents low high) spells h = absurd (none_own c [] e refl h)

  -- and so does one that the closing hook puts something behind
  behind_next : (c : ℕ) (last : Option SectionId) (s n l : S) (t others made : Tree) (x : List ℕ) (e : Error E) → Spells sections x (Tree.also t others) → announced asked s last t ≡ accepted 0 n →
      ((size : ℕ) → ¬ HasTooLarge c (put_before adds s last t) size) → walk asked c n t ≡ accepted made l → IsOwn c (put_behind adds l t) e → OwnNext asked adds c last s x e
  behind_next c last s n l t others made x e p told fits walked own = go f.1 f.2 told fits walked own
    where
      b : (left : List ℕ) × Begins section x t left
      b = first_begins p

      f : (f : Tree) × InFrame t f × Spells frame b.1.text f
      f = in_frame t b.1.text b.1.spells.shaped b.1.spells.spelled

      go : {u g : Tree} → InFrame u g → Spells frame b.1.text g → announced asked s last u ≡ accepted 0 n → ((size : ℕ) → ¬ HasTooLarge c (put_before adds s last u) size) → walk asked c n u ≡ accepted made l →
          IsOwn c (put_behind adds l u) e → OwnNext asked adds c last s x e
      go (InFrame.of_kind k u body low r) spells told fits walked h =
          inr (
            k,
            body,
            b.0,
            record { text = b.1.text; spells = spells; reads = b.1.reads },
            inr (record {
              from = n;
              told = told;
              fits = fits;
              tree = tree_of k u;
              there = InFrame.of_kind k u body low r;
              made = made;
              at = l;
              walked = walked;
              own = h;
            }),
          )
      go (InFrame.of_custom name contents u r) spells told fits walked h = absurd (none_own c [] e refl h)
      go (InFrame.of_unknown id contents low high) spells told fits walked h = absurd (none_own c [] e refl h)

  -- the walk stops where its sections do, or a section that the hook was to add is too large
  sections_stopped : (c : ℕ) (s m : S) (bytes : List ℕ) (t : Tree) (old new : Sections) (e : Error E) → CoreReading bytes t → StopsWoven asked adds c (s, old) t (m, new) e → e ≢ NoMemory →
      OwnTooLarge asked adds c bytes s e ⊎ (weave asked (added adds) c s t ≡ refused e m)
  sections_stopped c s m bytes t old new e r g other = go g.others g.parts g.stops
    where
      -- the sections before
      large : (y z : List ℕ) → r.rest ≡ y ++ z → Spells sections y (alsos g.read Tree.finish) → OwnNext asked adds c g.last g.at z e → OwnTooLarge asked adds c bytes s e
      large y z parts spells own = record {
        front = record {
          read = g.read;
          text = y;
          rest = z;
          made = g.made;
          last = g.last;
          at = g.at;
          spells = spells;
          stands = r.stands ∙ ap (λ (w : List ℕ). core_header ++ w) parts;
          ends = g.ends;
          weaves = g.weaves;
          fits = g.fits;
        };
        own = own;
      }

      behind : (u : Tree) → t ≡ alsos g.read u → Spells sections r.rest (alsos g.read u)
      behind u is = let P : Tree → Type 0 = λ z. Spells sections r.rest z in subst P is r.spells

      refuses : (u : Tree) → t ≡ alsos g.read u → weave_from asked (added adds) c g.last g.at u ≡ refused e m → weave asked (added adds) c s t ≡ refused e m
      refuses u is step = rw is (g.weaves u ∙ ap (λ (w : Step S (Error E) Tree). onto g.made w) step)

      hook : {A : Type 0} (u : Tree) (own : List SectionRow) (step : Step S (Error E) A) → t ≡ alsos g.read u → (IsOwn c own e → (z : List ℕ) → Spells sections z u → OwnNext asked adds c g.last g.at z e) →
          (step ≡ refused e m → weave_from asked (added adds) c g.last g.at u ≡ refused e m) → IsOwn c own e ⊎ (step ≡ refused e m) →
          OwnTooLarge asked adds c bytes s e ⊎ (weave asked (added adds) c s t ≡ refused e m)
      hook u own step is next walks (inl x) = let p = parts_read g.read u r.rest (behind u is) in inl (large p.0 p.1 p.2 p.3 (next x p.1 p.4))
      hook u own step is next walks (inr h) = inr (refuses u is (walks h))

      at_end : (z : List ℕ) → Spells sections z Tree.finish → z ≡ []
      at_end z p = p.spelled

      go : (u : Tree) → t ≡ alsos g.read u → StopsNext asked adds c g.last g.at u g.part e m → OwnTooLarge asked adds c bytes s e ⊎ (weave asked (added adds) c s t ≡ refused e m)
      go (Tree.also v others) is (inl h) =
          hook (Tree.also v others) (put_before adds g.at g.last v) (announced asked g.at g.last v) is (λ x z p. own_next c g.last g.at v others z e p x) (λ step. rw step refl) (h.1 other)
      go (Tree.also v others) is (inr (n, told, inl h)) = inr (refuses (Tree.also v others) is (rw (told, h.2 other) refl))
      go (Tree.also v others) is (inr (n, told, inr h)) =
          hook (Tree.also v others) (put_behind adds h.1 v) (followed asked h.1 v) is (λ x z p. behind_next c g.last g.at n h.1 v others h.0 z e p told h.7 h.4 x) (λ step. rw (told, h.4, step) refl) (h.8.1 other)
      go Tree.finish is h =
          hook Tree.finish (adds g.at (Section g.last None)) (asked g.at (Section g.last None)) is (λ x z p. inl (at_end z p, x)) (λ step. rw step refl) (h.1 other)
      go _ is h = absurd h

  core_accepted : (c : ℕ) (s m : S) (t u v : Tree) → t ≡ core_tree u → weave asked (added adds) c s u ≡ accepted v m → weave asked (added adds) c s t ≡ accepted (core_tree v) m
  core_accepted c s m t u v e h = rw (e, h) refl

  core_refused : (c : ℕ) (s m : S) (e : Error E) (t u : Tree) → t ≡ core_tree u → weave asked (added adds) c s u ≡ refused e m → weave asked (added adds) c s t ≡ refused e m
  core_refused c s m e t u f h = rw (f, h) refl

  pub bytes_given : {A : Type 0} (bytes : List ℕ) (c : ℕ) (s s' : S) (old new : Sections) (u : Unit {0}) → old ≡ record { ceiling = c; sections = [] } →
      GivesWoven asked adds bytes (s, old) (s', new) (Ok u) → (out : A) (view : A → List ℕ) → view out ≡ module_bytes new.sections →
      GivesWovenBytes asked adds c bytes s s' (Ok out) view
  bytes_given bytes c s s' old new u fresh g out view spelled = record {
    reading = λ t p.
        let r = module_headed.back bytes t p in
        let q = g.reading r.0 r.2 in
        let W : ℕ → Type 0 = λ n. weave asked (added adds) n s r.0 ≡ accepted q.0 s' in
        let walked : weave asked (added adds) c s r.0 ≡ accepted q.0 s' = subst W (ap Sections.ceiling fresh) q.2 in
        let rows : new.sections ≡ q.1 = ap Sections.sections q.3 ∙ ap (λ (m : Sections). m.sections ++ q.1) fresh in (
          core_tree q.0,
          core_accepted c s s' t r.0 q.0 r.1 walked,
          spelled ∙ ap (λ (z : List SectionRow). core_header ++ sections_bytes z) rows ∙ ap (λ (z : List ℕ). core_header ++ z) q.4,
        );
    readable = (core_tree g.readable.0, module_headed.forth bytes g.readable.0 g.readable.1);
    fits = λ t p.
        let r = module_headed.back bytes t p in
        let P : Tree → Type 0 = λ z. AddsFit asked adds c s (visits z) in
        let Q : ℕ → Type 0 = λ n. AddsFit asked adds n s (visits r.0) in
        subst P (sym r.1) (subst Q (ap Sections.ceiling fresh) (g.fits r.0 r.2));
    cause = tt;
  }

  pub bytes_refused : {A : Type 0} (bytes : List ℕ) (c : ℕ) (s s' : S) (old new : Sections) (e : Error E) (view : A → List ℕ) → old ≡ record { ceiling = c; sections = [] } →
      GivesWoven asked adds bytes (s, old) (s', new) (Err e) → GivesWovenBytes asked adds c bytes s s' (Err e) view
  bytes_refused bytes c s s' old new e view fresh g =
      let ceiling : old.ceiling ≡ c = ap Sections.ceiling fresh in
      let P : ℕ → Type 0 = λ n. IsWovenCause asked adds n bytes s s' e in record {
        reading = λ t p other.
            let r = module_headed.back bytes t p in
            let Q : ℕ → Type 0 = λ n. OwnTooLarge asked adds n bytes s e ⊎ (weave asked (added adds) n s r.0 ≡ refused e s') in
            at_bytes t r.0 r.1 (subst Q ceiling (sections_stopped old.ceiling s s' bytes r.0 old new e r.2 (g.reading r.0 r.2) other));
        readable = tt;
        fits = tt;
        cause = subst P ceiling g.cause;
      }
    where
      at_bytes : (t u : Tree) → t ≡ core_tree u → OwnTooLarge asked adds c bytes s e ⊎ (weave asked (added adds) c s u ≡ refused e s') →
          OwnTooLarge asked adds c bytes s e ⊎ (weave asked (added adds) c s t ≡ refused e s')
      at_bytes t u is (inl own) = inl own
      at_bytes t u is (inr step) = inr (core_refused c s s' e t u is step)

  -- memory runs out, and of that nothing is said
  pub bytes_wanting : {A : Type 0} (bytes : List ℕ) (c : ℕ) (s s' : S) (view : A → List ℕ) → GivesWovenBytes asked adds c bytes s s' (Err NoMemory) view
  bytes_wanting bytes c s s' view = record { reading = λ t p other. absurd (other refl); readable = tt; fits = tt; cause = inl (tt, λ other. absurd (other refl)) }
