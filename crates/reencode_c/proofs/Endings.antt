-- How calls end, from the clauses of the re-encoding of a whole binary.
use Rattle.std.proofs.Common.{◌≡◌, ◌≢◌, ◌⊎◌, inl, inr, ℕ, ◌+◌, ◌<◌, ◌≤◌, ◌++◌, List, [], ◌∷◌, All, length, take, Bool, true, false, nat_lt, ltb-true, ltb-false, Result, Ok, Err, refl, sym, ap, ap₂, ◌∙◌, subst, arith}
use Rattle.std.proofs.Math.Nat.{min-eq_left, min-eq_right}
use Rattle.std.proofs.lemmas.List.{length-replicate}
use Rattle.wasm_shapes.specs.declared.Visit.{Visit}
use Rattle.wasm_shapes.specs.Fits.{Fits}
use Rattle.wasm_shapes.specs.Module.{CoreReading, NoCoreReading, core_tree}
use Rattle.wasm_shapes.specs.Tree.{Tree, fill, normal, visits}
use Rattle.wasm_shapes.proofs.Laws.{module_headed}
use Rattle.reencode_hooks.specs.declared.asked.Unmapped.{Unmapped}
use Rattle.reencode_hooks.specs.declared.error.Error.{Error}
use Rattle.reencode_hooks.specs.declared.error.Error.TheVariants as error
use Rattle.reencode_hooks.specs.declared.indices.ReencodeIndices.{Ghosts}
use Rattle.reencode_core.specs.Clauses.{asks}
use Rattle.reencode_component.specs.Causes.{IfFault}
use Rattle.reencode_component.specs.ComponentLaws.{IsTaken}
use Rattle.reencode_component.specs.Within.{WithinClauses}
use Rattle.reencode_component.specs.WithinLaws.{BinaryFault, ReadsBinary, as_binary}
use Rattle.reencode_component.proofs.whole_binaries.WithinLaws.{binary_error_tells, binary_output}
use Rattle.reencode_c.specs.declared.entries.EntryFault.{EntryFault}
use Rattle.reencode_c.specs.declared.entries.EntryFault.TheVariants.{NoSpace, NoMemory}
use Rattle.reencode_c.specs.declared.outcome.Entry.{Entry}
use Rattle.reencode_c.specs.declared.outcome.ListedVisit.{ListedVisit}
use Rattle.reencode_c.specs.declared.outcome.Outcome.{Outcome}
use Rattle.reencode_c.specs.Ends.{Ends, HasStatus, IsErrorOf, IsPut, IsTooSmall, Tells, bare, hooks_by}
use Rattle.reencode_c.specs.Entries.{FirstWithoutSpace, HasSpace, IsBad, IsBadRenaming, Renaming, TellsFault, renaming_reply}
use Rattle.reencode_c.specs.Outputs.{ArePlaced, AreVisits, IsAnswered, IsMiscounted, IsPlain, IsRenamed}
use Rattle.reencode_c.specs.Places.{Gains, module_placed}
use Rattle.reencode_c.specs.Visits.{Answering, Listing, Placing, all_listed, answers_next, answers_reply, dealt, listed_scope, lister_next, lister_reply, listing_none, nowhere, placed, tally}
use Rattle.reencode_c.proofs.Lists.{put_count, put_front, put_length}
use Rattle.reencode_c.proofs.Runs.{Dealt, dealt_run, listed_run, renamed_run, unchanged}
use Rattle.reencode_c.proofs.Unplaced.{unplaced_module, unplaced_visits}

-- ---- any reencoder that answers by one method

module _ {S : Type 0} (reply : S → Visit → Result ℕ Unmapped) (next : S → Visit → S) (c : ℕ) (bytes : List ℕ) (begun m : S) where
  pub stopped : (e : Error Unmapped) → WithinClauses {A = List ℕ} (hooks_by reply next) c bytes begun m (Err e) (λ out. out) → IsErrorOf (hooks_by reply next) begun c bytes e
  stopped e g =
      let tells = binary_error_tells {A = List ℕ} (hooks_by reply next) (λ s v h. refl) (λ out. out) in
      let output = binary_output {A = List ℕ} (hooks_by reply next) (λ s v h. refl) (λ out. out) in
      record {
        after = m;
        allowed = g;
        fault = tells.fault c bytes begun m e g refl;
        before = λ is t rest f. tells.accepted c bytes begun m e g refl refl is t rest f;
        first = λ x is t r. tells.reading c bytes begun m e g refl x is t r;
        further = λ x is t rest f. tells.further c bytes begun m e g refl x is t rest f;
        last = λ x is. tells.last c bytes begun m e g refl x is;
        never = λ none x. tells.never c bytes begun m e g refl none x;
        walked = λ other t r. tells.stops c bytes begun m e g refl refl other t r;
        unmade = λ other out n h. other (output.complete c bytes begun m (Err e) g refl refl out n h);
      }

  pub taken : (out : List ℕ) → WithinClauses {A = List ℕ} (hooks_by reply next) c bytes begun m (Ok out) (λ v. v) →
      IsTaken as_binary (asks (hooks_by reply next)) c bytes begun m out
  taken out g = (binary_output {A = List ℕ} (hooks_by reply next) (λ s v h. refl) (λ v. v)).output c bytes begun m (Ok out) g refl refl

-- ---- errors

with_status : (e : Error Unmapped) (bytes : List ℕ) → IfFault e (BinaryFault bytes) → HasStatus e
with_status error.CanonicalizedHeapTypeReference bytes h = h
with_status error.InvalidConstExpr bytes h = h
with_status error.UnsupportedCoreTypeInComponent bytes h = h
with_status error.InvalidCodeSectionSize bytes h = tt
with_status error.UnexpectedNonCoreModuleSection bytes h = tt
with_status error.UnexpectedNonComponentSection bytes h = tt
with_status (error.ParseError e) bytes h = tt
with_status (error.UserError u) bytes h = tt
with_status (error.TooLarge size) bytes h = tt
with_status error.NoMemory bytes h = tt

pub has_status : {S : Type 0} {i : Ghosts S Unmapped} {begun : S} {c : ℕ} {bytes : List ℕ} {e : Error Unmapped} → IsErrorOf i begun c bytes e → HasStatus e
has_status {bytes = bytes} {e = e} h = with_status e bytes h.fault

module _ {X : Type 0} (Done : List X → Type 0) (Bad Miscounted : Type 0) (Why : Error Unmapped → Type 0) (o : Outcome) (room : List X) where
  at : {n : ℕ} → o.status ≡ n → Ends Done Bad Miscounted Why o room n → Ends Done Bad Miscounted Why o room o.status
  at e h = subst (λ (z : ℕ). Ends Done Bad Miscounted Why o room z) (sym e) h

  -- an error that is told
  pub told : (e : Error Unmapped) → Why e → Tells e o → Ends Done Bad Miscounted Why o room o.status
  told error.NoMemory w t = at (ap (λ (x : Outcome). x.status) t) (Ends.no_memory t)
  told (error.ParseError e) w t =
      let place = ap (λ (x : Outcome). x.place) t in
      at (ap (λ (x : Outcome). x.status) t)
      (Ends.parse_error (t ∙ ap (λ (n : ℕ). record (bare 5) { place = n }) (sym place))
      (subst (λ (n : ℕ). Why (error.ParseError (record { at = n }))) (sym place) w))
  told (error.UserError u) w t = at (ap (λ (x : Outcome). x.status) t) (Ends.unmapped u t w)
  told error.InvalidCodeSectionSize w t = at (ap (λ (x : Outcome). x.status) t) (Ends.code_size t w)
  told error.UnexpectedNonCoreModuleSection w t = at (ap (λ (x : Outcome). x.status) t) (Ends.component t w)
  told error.UnexpectedNonComponentSection w t = at (ap (λ (x : Outcome). x.status) t) (Ends.core_module t w)
  told (error.TooLarge size) w t =
      let large = ap (λ (x : Outcome). x.size) t in
      at (ap (λ (x : Outcome). x.status) t)
      (Ends.too_large (t ∙ ap (λ (n : ℕ). record (bare 10) { size = n }) (sym large)) (subst (λ (n : ℕ). Why (error.TooLarge n)) (sym large) w))
  told error.CanonicalizedHeapTypeReference w t = absurd t
  told error.InvalidConstExpr w t = absurd t
  told error.UnsupportedCoreTypeInComponent w t = absurd t

  -- an output that was put, or not
  pub put_ends : (out : List X) → Done out → (o.status ≡ 0 → IsPut o room out) → (o.status ≡ 16 → IsTooSmall o room (tally (length out))) → (o.status ≡ 0) ⊎ (o.status ≡ 16) →
      Ends Done Bad Miscounted Why o room o.status
  put_ends out d done small (inl e) = at e (Ends.done out (done e) d)
  put_ends out d done small (inr e) = at e (Ends.too_small out (small e) d)

  -- the same of an output that is seen another way
  pub put_as : (out seen : List X) → seen ≡ out → Done out → (o.status ≡ 0 → IsPut o room seen) → (o.status ≡ 16 → IsTooSmall o room (tally (length seen))) →
      (o.status ≡ 0) ⊎ (o.status ≡ 16) → Ends Done Bad Miscounted Why o room o.status
  put_as out seen same d done small other = put_ends seen (subst Done (sym same) d) done small other

  pub wanting : o ≡ bare 1 → Ends Done Bad Miscounted Why o room o.status
  wanting e = at (ap (λ (x : Outcome). x.status) e) (Ends.no_memory e)

  pub bad : o ≡ record (bare 11) { place = o.place; space = o.space; index = o.index } → Bad → Ends Done Bad Miscounted Why o room o.status
  bad e h = at (ap (λ (x : Outcome). x.status) e) (Ends.bad_renaming e h)

  pub wrong_number : o ≡ record (bare 15) { length = o.length } → Miscounted → Ends Done Bad Miscounted Why o room o.status
  wrong_number e h = at (ap (λ (x : Outcome). x.status) e) (Ends.miscounted e h)

-- the first entry without a space, as it is told
pub bad_told : {entries : List Entry} {place space index : ℕ} (o : Outcome) → FirstWithoutSpace entries place space index → o.place ≡ place → o.space ≡ space → o.index ≡ index →
    FirstWithoutSpace entries o.place o.space o.index
bad_told o h place space index = record {
  front = h.front;
  entry = h.entry;
  rest = h.rest;
  parts = h.parts;
  place_is = h.place_is ∙ sym place;
  known = h.known;
  unknown = h.unknown;
  space_is = h.space_is ∙ sym space;
  index_is = h.index_is ∙ sym index;
}

-- a fault of entries that is told
pub told_fault : {X : Type 0} (Done : List X → Type 0) (Why : Error Unmapped → Type 0) (o : Outcome) (room : List X) (entries : List Entry) (fault : EntryFault) → IsBad entries fault →
    TellsFault fault o → Ends Done (IsBadRenaming entries o) ⊥ Why o room o.status
told_fault Done Why o room entries (NoSpace place entry) h t =
    let place_is = ap (λ (x : Outcome). x.place) t in
    let space_is = ap (λ (x : Outcome). x.space) t in
    let index_is = ap (λ (x : Outcome). x.index) t in
    bad Done (IsBadRenaming entries o) ⊥ Why o room
    (t ∙ ap (λ (n : ℕ). record (bare 11) { place = n; space = entry.space; index = entry.from }) (sym place_is)
    ∙ ap (λ (n : ℕ). record (bare 11) { place = o.place; space = n; index = entry.from }) (sym space_is)
    ∙ ap (λ (n : ℕ). record (bare 11) { place = o.place; space = o.space; index = n }) (sym index_is))
    (bad_told o h place_is space_is index_is)
told_fault Done Why o room entries NoMemory h t = wanting Done (IsBadRenaming entries o) ⊥ Why o room t

-- a fault of entries is told by these two statuses alone
pub no_other_fault : (o : Outcome) (entries : List Entry) (fault : EntryFault) → TellsFault fault o → o.status ≢ 1 → o.status ≢ 11 → All HasSpace entries
no_other_fault o entries (NoSpace place entry) t wants other = absurd (other (ap (λ (x : Outcome). x.status) t))
no_other_fault o entries NoMemory t wants other = absurd (wants (ap (λ (x : Outcome). x.status) t))

-- ---- outputs

pub is_renamed : {c : ℕ} {bytes out : List ℕ} {r m : Renaming} → IsTaken as_binary (asks (hooks_by renaming_reply (λ k _. k))) c bytes r m out → IsRenamed r c bytes out
is_renamed {r = r} h = record {
  tree = h.tree;
  reading = h.reads;
  answers = h.filled.given;
  answered = renamed_run (visits h.tree) r h.filled.ran;
  fits = h.filled.fits;
  spelled = h.spelled;
}

pub is_plain : {c : ℕ} {bytes out : List ℕ} → IsRenamed (record { entries = []; strict = false }) c bytes out → IsPlain c bytes out
is_plain {c} {bytes} {out} h =
    let same = unchanged h.tree h.answers h.answered in
    record {
      tree = h.tree;
      reading = h.reading;
      fits = subst (λ (t : Tree). Fits t c) same h.fits;
      spelled = h.spelled ∙ ap normal same;
    }

-- what renames by no entries spells the reading, and no entry lacks a space
pub plain_ends : {c : ℕ} {bytes room : List ℕ} {o : Outcome} {n : ℕ} {Why : Error Unmapped → Type 0} →
    Ends (IsRenamed (record { entries = []; strict = false }) c bytes) (FirstWithoutSpace [] o.place o.space o.index) ⊥ Why o room n → Ends (IsPlain c bytes) ⊥ ⊥ Why o room n
plain_ends (Ends.done out p d) = Ends.done out p (is_plain d)
plain_ends (Ends.no_memory e) = Ends.no_memory e
plain_ends (Ends.parse_error e w) = Ends.parse_error e w
plain_ends (Ends.unmapped u e w) = Ends.unmapped u e w
plain_ends (Ends.code_size e w) = Ends.code_size e w
plain_ends (Ends.component e w) = Ends.component e w
plain_ends (Ends.core_module e w) = Ends.core_module e w
plain_ends (Ends.too_large e w) = Ends.too_large e w
plain_ends (Ends.bad_renaming e b) = Ends.bad_renaming e (no_front b.front b.entry b.rest b.parts)
  where
    no_front : (front : List Entry) (e : Entry) (rest : List Entry) → [] ≡ front ++ e ∷ rest → ⊥
    no_front [] e rest p = absurd cc
    no_front (x ∷ xs) e rest p = absurd cc
plain_ends (Ends.miscounted e m) = absurd m
plain_ends (Ends.too_small out s d) = Ends.too_small out s (is_plain d)

-- ---- the visits

-- what is counted below the end is as many
below : (n : ℕ) → tally n < 18446744073709551615 → tally n ≡ n
below n h = go (nat_lt n 18446744073709551615) refl
  where
    go : (b : Bool) → nat_lt n 18446744073709551615 ≡ b → tally n ≡ n
    go true e =
        let less : n < 18446744073709551615 = ltb-true n 18446744073709551615 e in
        let low : n ≤ 18446744073709551615 = omega arith in min-eq_left low
    go false e =
        let high : 18446744073709551615 ≤ n = ltb-false n 18446744073709551615 e in
        let all : tally n ≡ 18446744073709551615 = min-eq_right high in
        absurd (omega (arith, all, h))

-- these were listed in room for so many
module _ {bytes : List ℕ} (xs : List ListedVisit) (are : AreVisits bytes xs) (wide : ℕ) (m : Placing) (gains : Gains (listing_none wide) m xs) where
  begun : Listing
  begun = (listing_none wide).listing

  counted : m.listing.count ≡ tally (length xs)
  counted =
      let same : 0 + length xs ≡ length xs = omega arith in
      ap (λ (l : Listing). l.count) gains ∙ put_count xs (listing_none wide).listing (omega arith) ∙ ap tally same

  room_is : length m.listing.list ≡ length (listing_none wide).listing.list
  room_is = ap (λ (l : Listing). length l.list) gains ∙ put_length xs (listing_none wide).listing

  pub as_long : length m.listing.list ≡ wide
  as_long = room_is ∙ length-replicate wide (listed_scope 0)

  front : m.listing.count ≤ length m.listing.list → m.listing.count < 18446744073709551615 → take m.listing.count m.listing.list ≡ xs
  front fits low =
      let many : m.listing.count ≡ length xs = counted ∙ below (length xs) (subst (λ (n : ℕ). n < 18446744073709551615) counted low) in
      let zero : 0 + length xs ≡ length xs = omega arith in
      let room : 0 + length xs ≤ length (listing_none wide).listing.list = omega (arith, many, fits, room_is) in
      let less : 0 + length xs ≤ 18446744073709551615 = omega (arith, many, low) in
      ap (λ (n : ℕ). take n m.listing.list) (many ∙ sym zero) ∙ ap (λ (l : Listing). take (0 + length xs) l.list) gains ∙ put_front xs (listing_none wide).listing room less

  pub listed_ends : (Bad Miscounted : Type 0) (Why : Error Unmapped → Type 0) (o : Outcome) (room seen : List ListedVisit) (n : ℕ) → seen ≡ m.listing.list → n ≡ m.listing.count →
      (o.status ≡ 0 → (room ≡ seen) × (o ≡ record (bare 0) { length = n }) × (n ≤ length seen) × (n < 18446744073709551615)) →
      (o.status ≡ 16 → IsTooSmall o room n) → (o.status ≡ 0) ⊎ (o.status ≡ 16) → Ends (AreVisits bytes) Bad Miscounted Why o room o.status
  listed_ends Bad Miscounted Why o room seen n same many done small other =
      put_ends (AreVisits bytes) Bad Miscounted Why o room xs are
      (λ e.
      let d = done e in
      let fits : m.listing.count ≤ length m.listing.list = subst (λ (k : ℕ). k ≤ length m.listing.list) many (subst (λ (ys : List ListedVisit). n ≤ length ys) same d.2) in
      let low : m.listing.count < 18446744073709551615 = subst (λ (k : ℕ). k < 18446744073709551615) many d.3 in
      let long = ap (λ (x : Outcome). x.length) d.1 in (
        d.1 ∙ ap (λ (k : ℕ). record (bare 0) { length = k }) (sym long),
        subst (λ (k : ℕ). k ≤ length room) (sym long) (subst (λ (ys : List ListedVisit). n ≤ length ys) (sym d.0) d.2),
        ap₂ (λ (k : ℕ) (ys : List ListedVisit). take k ys) (long ∙ many) (d.0 ∙ same) ∙ front fits low,
      ))
      (λ e. subst (λ (k : ℕ). IsTooSmall o room k) (many ∙ counted) (small e)) other

-- by the rows of a core module
pub module_visits : {bytes : List ℕ} (t : Tree) → CoreReading bytes t → AreVisits bytes (module_placed t)
module_visits {bytes} t reading = record {
  tree = core_tree t;
  reading = inl (module_headed.forth bytes t reading);
  are = unplaced_module t;
  places = ArePlaced.of_module t reading refl;
}

-- of bytes that are no core module
pub component_visits : {bytes : List ℕ} → NoCoreReading bytes → (t : Tree) → ReadsBinary bytes t → AreVisits bytes (placed nowhere (visits t))
component_visits {bytes} none t reading = record { tree = t; reading = reading; are = unplaced_visits nowhere (visits t); places = go reading }
  where
    go : ReadsBinary bytes t → ArePlaced bytes (placed nowhere (visits t))
    go (inl p) = let b = module_headed.back bytes t p in absurd (none b.0 b.2)
    go (inr p) = ArePlaced.of_component p.0 p.2 (ap (λ (z : Tree). placed nowhere (visits z)) p.1)

module _ {c : ℕ} {bytes out : List ℕ} {begun m : Placing} (wide : ℕ) (is : begun ≡ listing_none wide)
    (h : IsTaken as_binary (asks (hooks_by lister_reply lister_next)) c bytes begun m out) where
  pub taken_gains : Gains (listing_none wide) m (placed nowhere (visits h.tree))
  taken_gains = subst (λ (l : Placing). Gains l m (placed l.place (visits h.tree))) is (listed_run (visits h.tree) begun h.filled.ran)

-- ---- answers

module _ {c : ℕ} {bytes out : List ℕ} {answers : List ℕ} {m : Answering}
    (h : IsTaken as_binary (asks (hooks_by answers_reply answers_next)) c bytes (record { left = answers; count = 0 }) m out) where
  deal : Dealt (record { left = answers; count = 0 }) m (visits h.tree) h.filled.given
  deal = dealt_run (visits h.tree) (record { left = answers; count = 0 }) (omega arith) h.filled.ran

  zero : 0 + length (all_listed (visits h.tree)) ≡ length (all_listed (visits h.tree))
  zero = omega arith

  all_fit : Fits (fill h.tree (dealt (visits h.tree) answers)) c
  all_fit = subst (λ (a : List ℕ). Fits (fill h.tree a) c) deal.answers h.filled.fits

  pub is_answered : m.count ≡ length answers → IsAnswered answers c bytes out
  is_answered e = record {
    tree = h.tree;
    reading = h.reads;
    enough = ap tally (sym zero) ∙ sym deal.count ∙ e;
    fits = all_fit;
    spelled = h.spelled ∙ ap (λ (a : List ℕ). normal (fill h.tree a)) deal.answers;
  }

  pub is_miscounted : m.count ≢ length answers → IsMiscounted answers c bytes m.count
  is_miscounted other = record { tree = h.tree; reading = h.reads; counted = deal.count ∙ ap tally zero; differs = other; fits = all_fit }

  pub answered_ends : (Bad : Type 0) (Why : Error Unmapped → Type 0) (o : Outcome) (room seen : List ℕ) → seen ≡ out → m.count ≡ length answers →
      (o.status ≡ 0 → IsPut o room seen) → (o.status ≡ 16 → IsTooSmall o room (tally (length seen))) → (o.status ≡ 0) ⊎ (o.status ≡ 16) →
      Ends (IsAnswered answers c bytes) Bad (IsMiscounted answers c bytes o.length) Why o room o.status
  answered_ends Bad Why o room seen same enough done small other =
      put_as (IsAnswered answers c bytes) Bad (IsMiscounted answers c bytes o.length) Why o room out seen same (is_answered enough) done small other

  pub miscounted_ends : (Bad : Type 0) (Why : Error Unmapped → Type 0) (o : Outcome) (room : List ℕ) (n : ℕ) → n ≡ m.count → m.count ≢ length answers →
      o ≡ record (bare 15) { length = n } → Ends (IsAnswered answers c bytes) Bad (IsMiscounted answers c bytes o.length) Why o room o.status
  miscounted_ends Bad Why o room n same other tells =
      let long = ap (λ (x : Outcome). x.length) tells in
      wrong_number (IsAnswered answers c bytes) Bad (IsMiscounted answers c bytes o.length) Why o room (tells ∙ ap (λ (k : ℕ). record (bare 15) { length = k }) (sym long))
      (subst (λ (k : ℕ). IsMiscounted answers c bytes k) (sym (long ∙ same)) (is_miscounted other))

-- ---- from the state of the call, of which it is known that nothing was counted before

module _ {c : ℕ} {bytes out : List ℕ} {m : Answering} (a : Answering) (none : a.count ≡ 0) (h : IsTaken as_binary (asks (hooks_by answers_reply answers_next)) c bytes a m out) where
  begun_none : IsTaken as_binary (asks (hooks_by answers_reply answers_next)) c bytes (record { left = a.left; count = 0 }) m out
  begun_none = subst (λ (n : ℕ). IsTaken as_binary (asks (hooks_by answers_reply answers_next)) c bytes (record { left = a.left; count = n }) m out) none h

  pub enough_ends : (Bad : Type 0) (Why : Error Unmapped → Type 0) (o : Outcome) (room seen : List ℕ) → seen ≡ out → m.count ≡ length a.left →
      (o.status ≡ 0 → IsPut o room seen) → (o.status ≡ 16 → IsTooSmall o room (tally (length seen))) → (o.status ≡ 0) ⊎ (o.status ≡ 16) →
      Ends (IsAnswered a.left c bytes) Bad (IsMiscounted a.left c bytes o.length) Why o room o.status
  enough_ends = answered_ends begun_none

  pub wrong_ends : (Bad : Type 0) (Why : Error Unmapped → Type 0) (o : Outcome) (room : List ℕ) (n : ℕ) → n ≡ m.count → m.count ≢ length a.left →
      o ≡ record (bare 15) { length = n } → Ends (IsAnswered a.left c bytes) Bad (IsMiscounted a.left c bytes o.length) Why o room o.status
  wrong_ends = miscounted_ends begun_none
