-- The section hook of a chain where one of the two refuses.
use Rattle.std.specs.Prelude.{◌≡◌, ◌++◌, ◌∷◌, ℕ, List, Result, Ok, Err}
use Rattle.std.proofs.Common.{refl, sym, ap, subst, ◌∙◌, append_assoc}
use Rattle.wasm_shapes.specs.declared.Visit.{Visit}
use Rattle.wasm_write.specs.Sections.{SectionRow, Sections}
use Rattle.reencode_hooks.specs.declared.error.Error.{Error}
use Rattle.reencode_hooks.specs.declared.error.Error.TheVariants.{CanonicalizedHeapTypeReference, InvalidConstExpr, InvalidCodeSectionSize, UnexpectedNonCoreModuleSection, UnexpectedNonComponentSection, UnsupportedCoreTypeInComponent, ParseError, UserError, TooLarge, NoMemory}
use Rattle.reencode_hooks.specs.declared.chain.Chain.{Chain}
use Rattle.reencode_hooks.specs.declared.chain.ChainError.{ChainError}
use Rattle.reencode_hooks.specs.Run.{accepted, refused, answered, ask}
use Rattle.reencode_hooks.specs.Hooks.{Gains, GainsPart, HasTooLarge, RefusesSection, RepliesSection}
use Rattle.reencode_hooks.specs.Chains.{reindexed, first_then, unless_err, chain_reply, chain_next, chain_adds, as_first, as_second}

-- ---- sections in front of others

-- a section that is too large is one of more sections too
pub too_large_front : {c size : ℕ} {rows : List SectionRow} (more : List SectionRow) → HasTooLarge c rows size → HasTooLarge c (rows ++ more) size
too_large_front more h =
    record { front = h.front; row = h.row; rest = h.rest ++ more; parts = ap (λ z. z ++ more) h.parts ∙ append_assoc h.front (h.row ∷ h.rest) more; sized = h.sized; above = h.above }

pub too_large_behind : {c size : ℕ} {more : List SectionRow} (rows : List SectionRow) → HasTooLarge c more size → HasTooLarge c (rows ++ more) size
too_large_behind rows h =
    record { front = rows ++ h.front; row = h.row; rest = h.rest; parts = ap (λ z. rows ++ z) h.parts ∙ sym (append_assoc rows h.front (h.row ∷ h.rest)); sized = h.sized; above = h.above }

-- a front part of them is one of more sections too
pub part_front : {m n : Sections} {rows : List SectionRow} (more : List SectionRow) → GainsPart m n rows → GainsPart m n (rows ++ more)
part_front more h = record { part = h.part; rest = h.rest ++ more; parts = ap (λ z. z ++ more) h.parts ∙ append_assoc h.part h.rest more; gains = h.gains }

-- what was added one behind the other was added at once
pub gains_both : (m n o : Sections) (rows more : List SectionRow) → Gains m n rows → Gains n o more → Gains m o (rows ++ more)
gains_both m n o rows more first second =
    let at_first : Gains (record m { sections = m.sections ++ rows }) o more = subst (λ z. Gains z o more) first second in
    at_first ∙ ap (λ z. record m { sections = z }) (append_assoc m.sections rows more)

pub part_behind : {m n o : Sections} {more : List SectionRow} (rows : List SectionRow) → Gains m n rows → GainsPart n o more → GainsPart m o (rows ++ more)
part_behind {m} {n} {o} rows gains h =
    record { part = rows ++ h.part; rest = h.rest; parts = ap (λ z. rows ++ z) h.parts ∙ sym (append_assoc rows h.part h.rest); gains = gains_both m n o rows h.part gains h.gains }

-- ---- a refusal of one of the two

refused_first : {A B X Y : Type 0} (r : Result ℕ X) (k : ℕ → Result ℕ Y) (s a : A) (b : B) (next : ℕ → B) (e : Error X) → answered r s ≡ refused e a
    → answered {S = Chain A B} {A = ℕ} (first_then r k) (record { a = s; b = unless_err r b next }) ≡ refused (as_first e) (record { a = a; b = b })
refused_first (Ok n) k s a b next e h = cc
refused_first (Err x) k s a b next e h =
    let same_error : UserError x ≡ e = cc in
    let same_state : s ≡ a = cc in
    rw (← same_error, ← same_state) refl

refused_second : {A B X Y : Type 0} (r : Result ℕ X) (k : ℕ → Result ℕ Y) (n : ℕ) (s a : A) (b m : B) (next : ℕ → B) (e : Error Y)
    → answered r s ≡ accepted n a → answered (k n) (next n) ≡ refused e m
    → answered {S = Chain A B} {A = ℕ} (first_then r k) (record { a = s; b = unless_err r b next }) ≡ refused (as_second e) (record { a = a; b = m })
refused_second (Err x) k n s a b m next e h q = cc
refused_second {A} {B} {X} {Y} (Ok j) k n s a b m next e h q =
    let same_answer : j ≡ n = cc in
    let same_state : s ≡ a = cc in
    rw (same_answer, same_state) (go (k n) (next n) q)
  where
    go : (r : Result ℕ Y) (t : B) → answered r t ≡ refused e m →
        answered {S = Chain A B} {A = ℕ} (first_then {X = X} (Ok n) (λ _. r)) (record { a = a; b = t }) ≡ refused (as_second e) (record { a = a; b = m })
    go (Ok i) t q = cc
    go (Err y) t q =
        let same_error : UserError y ≡ e = cc in
        let same_state : t ≡ m = cc in
        rw (← same_error, ← same_state) refl

module _ {A B X Y : Type 0} (f : A → Visit → Result ℕ X) (f' : A → Visit → A) (adds : A → Visit → List SectionRow)
    (g : B → Visit → Result ℕ Y) (g' : B → Visit → B) (more : B → Visit → List SectionRow) where
  abbrev Refuses : A → A → B → B → Visit → ℕ → List SectionRow → Error (ChainError X Y) → Type 0
  Refuses s a t b v c rows e = RefusesSection (chain_reply f g) (chain_next f f' g') (record { a = s; b = t }) (record { a = a; b = b }) v c rows e

  first_refuses : (e : Error X) (s a : A) (t : B) (v : Visit) (c : ℕ) (rows behind : List SectionRow) → RefusesSection f f' s a v c rows e → Refuses s a t t v c (rows ++ behind) (as_first e)
  first_refuses (TooLarge size) s a t v c rows behind h = too_large_front behind h
  first_refuses NoMemory s a t v c rows behind h = tt
  first_refuses CanonicalizedHeapTypeReference s a t v c rows behind h = refused_first (f s v) _ (f' s v) a t _ CanonicalizedHeapTypeReference h
  first_refuses InvalidConstExpr s a t v c rows behind h = refused_first (f s v) _ (f' s v) a t _ InvalidConstExpr h
  first_refuses InvalidCodeSectionSize s a t v c rows behind h = refused_first (f s v) _ (f' s v) a t _ InvalidCodeSectionSize h
  first_refuses UnexpectedNonCoreModuleSection s a t v c rows behind h = refused_first (f s v) _ (f' s v) a t _ UnexpectedNonCoreModuleSection h
  first_refuses UnexpectedNonComponentSection s a t v c rows behind h = refused_first (f s v) _ (f' s v) a t _ UnexpectedNonComponentSection h
  first_refuses UnsupportedCoreTypeInComponent s a t v c rows behind h = refused_first (f s v) _ (f' s v) a t _ UnsupportedCoreTypeInComponent h
  first_refuses (ParseError x) s a t v c rows behind h = refused_first (f s v) _ (f' s v) a t _ (ParseError x) h
  first_refuses (UserError x) s a t v c rows behind h = refused_first (f s v) _ (f' s v) a t _ (UserError x) h

  second_refuses : (e : Error Y) (s a : A) (t b : B) (v : Visit) (n c : ℕ) (front rows : List SectionRow) → ask f f' s v ≡ accepted n a
      → RefusesSection g g' t b (reindexed v n) c rows e → Refuses s a t b v c (front ++ rows) (as_second e)
  second_refuses (TooLarge size) s a t b v n c front rows p h = too_large_behind front h
  second_refuses NoMemory s a t b v n c front rows p h = tt
  second_refuses CanonicalizedHeapTypeReference s a t b v n c front rows p h = refused_second (f s v) _ n (f' s v) a t b _ CanonicalizedHeapTypeReference p h
  second_refuses InvalidConstExpr s a t b v n c front rows p h = refused_second (f s v) _ n (f' s v) a t b _ InvalidConstExpr p h
  second_refuses InvalidCodeSectionSize s a t b v n c front rows p h = refused_second (f s v) _ n (f' s v) a t b _ InvalidCodeSectionSize p h
  second_refuses UnexpectedNonCoreModuleSection s a t b v n c front rows p h = refused_second (f s v) _ n (f' s v) a t b _ UnexpectedNonCoreModuleSection p h
  second_refuses UnexpectedNonComponentSection s a t b v n c front rows p h = refused_second (f s v) _ n (f' s v) a t b _ UnexpectedNonComponentSection p h
  second_refuses UnsupportedCoreTypeInComponent s a t b v n c front rows p h = refused_second (f s v) _ n (f' s v) a t b _ UnsupportedCoreTypeInComponent p h
  second_refuses (ParseError x) s a t b v n c front rows p h = refused_second (f s v) _ n (f' s v) a t b _ (ParseError x) p h
  second_refuses (UserError x) s a t b v n c front rows p h = refused_second (f s v) _ n (f' s v) a t b _ (UserError x) p h

  -- the section hook of the chain
  abbrev Hook : A → A → B → B → Sections → Sections → Visit → Error (ChainError X Y) → Type 0
  Hook s a t b old new v e =
      RepliesSection (chain_reply f g) (chain_next f f' g') (chain_adds adds more) (record { a = s; b = t }) (record { a = a; b = b }) old new v (Err e)

  -- the first one's hook refused
  pub first_error : (s a : A) (t : B) (old new : Sections) (v : Visit) (e : Error X)
      → RepliesSection f f' adds s a old new v (Err e) → Hook s a t t old new v (as_first e)
  first_error s a t old new v e h =
      (first_refuses e s a t v old.ceiling (adds s v) (more t v) h.0, part_front (more t v) h.1)

  -- the second one's hook refused, where the first one's accepted
  pub second_error : (s a : A) (t b : B) (old mid new : Sections) (v : Visit) (e : Error Y) → reindexed v 0 ≡ v
      → (ask f f' s v ≡ accepted 0 a) × Gains old mid (adds s v)
      → RepliesSection g g' more t b mid new v (Err e) → Hook s a t b old new v (as_second e)
  second_error s a t b old mid new v e asks_none p h =
      let same : mid.ceiling ≡ old.ceiling = ap (λ z. z.ceiling) p.1 in
      let own : RefusesSection g g' t b (reindexed v 0) old.ceiling (more t v) e =
      subst (λ w. RefusesSection g g' t b w old.ceiling (more t v) e) (sym asks_none) (subst (λ z. RefusesSection g g' t b v z (more t v) e) same h.0) in
      (second_refuses e s a t b v 0 old.ceiling (adds s v) (more t v) p.0 own, part_behind (adds s v) p.1 h.1)
