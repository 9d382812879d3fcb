-- The loops over maps of names: entries that were read, asked for and added.
use Rattle.std.proofs.Common.{◌≡◌, ℕ, ◌+◌, ◌-◌, ◌<◌, ◌^◌, ◌⊎◌, List, [], ◌∷◌, ◌++◌, length, All, true, Option, Some, None, Result, Ok, Err, refl, sym, ap, subst, ◌∙◌, inl, inr, length-append, arith}
use Rattle.std.proofs.lemmas.List.{map-append, length-map}
use Rattle.std.proofs.lemmas.List.Elements.{All-nil, All-cons, All-contains}
use Rattle.std.proofs.lemmas.Fn.{FoldsTo-push}
use Rattle.wasm_leb.specs.declared.fault.ReadError.{ReadError}
use Rattle.wasm_shapes.specs.Tree.{Tree}
use Rattle.wasm_shapes.specs.Shape.{Shape, closed}
use Rattle.wasm_shapes.specs.Sound.{sound}
use Rattle.wasm_shapes.specs.Rows.{rows_then}
use Rattle.wasm_shapes.specs.Types.{rows_tree, vector_tree}
use Rattle.wasm_shapes.specs.Module.{plain_naming}
use Rattle.wasm_shapes.specs.Namings.{Entry, entries_trees, plain_indirect}
use Rattle.wasm_read.specs.Names.{MapStanding, map_place, DueFrom, EntriesLeft, NamesLeft, EntryRead, IndirectRead, EntryMissing, EntriesEnded}
use Rattle.wasm_read.proofs.NameMaps.{left_more, left_less, left_none, left_one, left_shrinks, lists_one}
use Rattle.wasm_write.specs.declared.fault.WriteFault.{WriteFault}
use Rattle.wasm_write.specs.declared.fault.WriteFault.TheVariants as faults
use Rattle.wasm_write.specs.Counts.{IsTooLarge}
use Rattle.wasm_write.specs.Faults.{IfTooLarge}
use Rattle.reencode_hooks.specs.declared.error.Error.{Error}
use Rattle.reencode_hooks.specs.declared.error.Error.TheVariants.{ParseError, NoMemory}
use Rattle.reencode_hooks.specs.Errors.{error_of_write}
use Rattle.reencode_core.specs.NameMaps.{Asked, entry_of, entries_of, renamed, Calls, ReadTo, CallRefused, Unread, Wants, Mapped, Stopped, MapsEntries, KeepsNames}

-- Entries were read and asked for, and what they became was added. With those that are left they are no more than a count.
pub record Walked {F E : Type 0} (row : Shape) (step : F → ℕ → Result ℕ (Error E) → F → Type 0) (m : MapStanding) (old : F) (n : MapStanding) (now : F) (added : List Tree) : Type 0 where
  pub asked : List Asked
  pub reads : ReadTo row m asked n
  pub calls : Calls step old asked now
  pub answers : added ≡ renamed asked
  pub count : (asked ≡ []) ⊎ ((k : ℕ) × (n.left ≡ Some k) × (length asked + k < 2 ^ 32))

-- ---- entries that were read, and what is left behind them

module _ {row : Shape} where
  -- the entries that were read, and what is left behind them
  pub left_behind : (asks : List Asked) {m n : MapStanding} {rows : Tree} → ReadTo row m asks n → EntriesLeft row n rows → EntriesLeft row m (rows_then (entries_of asks) rows)
  left_behind [] {rows = rows} r w = let P : MapStanding → Type 0 = λ k. EntriesLeft row k rows in subst P (sym r) w
  left_behind (a ∷ asks) r w = left_more r.1 (left_behind asks r.2 w)

  -- a whole map begins with those that were read
  pub left_front : sound row ≡ true → closed row ≡ true → (asks : List Asked) {m n : MapStanding} {all : Tree} → ReadTo row m asks n → EntriesLeft row m all →
      (rows : Tree) × (all ≡ rows_then (entries_of asks) rows) × EntriesLeft row n rows
  left_front k h [] {all = all} r w = let P : MapStanding → Type 0 = λ k. EntriesLeft row k all in (all, refl, subst P r w)
  left_front k h (a ∷ asks) r w =
      let one = left_less k h r.1 w in
      let more = left_front k h asks r.2 one.2 in
      (more.0, one.1 ∙ ap (λ (z : Tree). Tree.cons (entry_of a.index a.named) z) more.1, more.2)

-- a reader that has a number left is due that many
due_left : {row : Shape} {n k : MapStanding} {t : Tree} (l : ℕ) → n.left ≡ Some l → (r : EntryRead row n t k) → r.left + 1 ≡ l
due_left {n = n} l e r = go n.left e r.due
  where
    go : (o : Option ℕ) → o ≡ Some l → DueFrom n.rest o (r.left + 1) r.bytes → r.left + 1 ≡ l
    go None e d = absurd cc
    go (Some x) e d = let same : x ≡ l = cc in d.0 ∙ same

-- numbers that have a spelling of 32 bits are not too large
none_large : (a b size : ℕ) → a < 2 ^ 32 → b < 2 ^ 32 → IsTooLarge (a ∷ b ∷ []) size → ⊥
none_large a b size p q h =
    let Small : ℕ → Type 0 = λ n. n < 2 ^ 32 in
    let all : All Small (a ∷ b ∷ []) = All-cons Small a (b ∷ []) p (All-cons Small b [] q (All-nil Small)) in
    let small : size < 2 ^ 32 = All-contains Small (a ∷ b ∷ []) size all h.counted in
    let large : 2 ^ 32 - 1 < size = h.large in
    omega arith

one_large : (a size : ℕ) → a < 2 ^ 32 → IsTooLarge (a ∷ []) size → ⊥
one_large a size p h =
    let Small : ℕ → Type 0 = λ n. n < 2 ^ 32 in
    let all : All Small (a ∷ []) = All-cons Small a [] p (All-nil Small) in
    let small : size < 2 ^ 32 = All-contains Small (a ∷ []) size all h.counted in
    let large : 2 ^ 32 - 1 < size = h.large in
    omega arith

-- a name that was read has a length of 32 bits
name_small : {m n : MapStanding} {i : ℕ} {name : List ℕ} → EntryRead plain_naming m (entry_of i (Tree.name name)) n → length name < 2 ^ 32
name_small r = let spelled = r.begins.spells.spelled in let named = spelled.4 in let counted = named.2 in counted.fits

module _ {F E : Type 0} {row : Shape} (step : F → ℕ → Result ℕ (Error E) → F → Type 0) where
  pub walked_none : (m : MapStanding) (f : F) → Walked row step m f m f []
  walked_none m f = record { asked = []; reads = refl; calls = refl; answers = refl; count = inl refl }

  -- the entries so far and those that are due have a count of 32 bits
  room : {m n k : MapStanding} {old now : F} {added : List Tree} {t : Tree} (w : Walked row step m old n now added) (r : EntryRead row n t k) → length w.asked + 1 + r.left < 2 ^ 32
  room {n = n} w r = by w.count
    where
      by : (w.asked ≡ []) ⊎ ((k : ℕ) × (n.left ≡ Some k) × (length w.asked + k < 2 ^ 32)) → length w.asked + 1 + r.left < 2 ^ 32
      by (inl p) = let none : length w.asked ≡ 0 = ap length p in let fits = r.fits in omega arith
      by (inr p) = let due = due_left p.0 p.1 r in let fits = p.2 in omega arith

  added_room : {m n k : MapStanding} {old now : F} {added : List Tree} {t : Tree} → Walked row step m old n now added → EntryRead row n t k → length added + 1 < 2 ^ 32
  added_room w r =
      let long = ap length w.answers ∙ length-map w.asked (λ a. entry_of a.answer a.named) in
      let fits = room w r in
      omega arith

  pub walked_more : {m n k : MapStanding} {old now new : F} {added more : List Tree} {i j : ℕ} {t : Tree} →
      Walked row step m old n now added → EntryRead row n (entry_of i t) k → step now i (Ok j) new → more ≡ added ++ entry_of j t ∷ [] → Walked row step m old k new more
  walked_more {i = i} {j = j} {t = t} w r s a =
      let one : Asked = record { index = i; named = t; answer = j } in
      let long = length-append w.asked (one ∷ []) in
      let fits = room w r in
      record {
        asked = w.asked ++ one ∷ [];
        reads = FoldsTo-push (λ m (a : Asked) n. EntryRead row m (entry_of a.index a.named) n) _ _ _ _ _ w.reads r;
        calls = FoldsTo-push (λ f (a : Asked) g. step f a.index (Ok a.answer) g) _ _ _ _ _ w.calls s;
        answers = a ∙ ap (λ (ts : List Tree). ts ++ entry_of j t ∷ []) w.answers ∙ sym (map-append (λ (a : Asked). entry_of a.answer a.named) w.asked (one ∷ []));
        count = inr (r.left, r.counts, omega arith);
      }

  pub walked_all : {m n : MapStanding} {old now : F} {added : List Tree} → Walked row step m old n now added → EntriesEnded n → Mapped row step m old now added
  walked_all w r = record { asked = w.asked; whole = left_behind w.asked w.reads (left_none r); calls = w.calls; answers = w.answers }

  pub walked_refused : {m n k : MapStanding} {old now new : F} {added : List Tree} {i : ℕ} {t : Tree} {x : Error E} →
      Walked row step m old n now added → EntryRead row n (entry_of i t) k → step now i (Err x) new → Stopped row step m old new x
  walked_refused {i = i} {t = t} w r s = record {
    asked = w.asked;
    rest = _;
    reads = w.reads;
    between = _;
    calls = w.calls;
    why = inl (record { index = i; named = t; behind = _; read = r; call = s });
  }

  pub walked_unread : {m n : MapStanding} {old now : F} {added : List Tree} (x : ReadError) → sound row ≡ true → closed row ≡ true →
      Walked row step m old n now added → EntryMissing row n → x.at ≡ map_place n → Stopped row step m old now (ParseError x)
  walked_unread {m = m} x k h w r p = record {
    asked = w.asked;
    rest = _;
    reads = w.reads;
    between = _;
    calls = w.calls;
    why = inr (inl (record { parse = ap (λ (at : ℕ). ParseError (record { at = at })) p; none = none; missing = r; state = refl }));
  }
    where
      none : (rows : Tree) → EntriesLeft row m rows → ⊥
      none rows all = let f = left_front k h w.asked w.reads all in r.none f.0 f.2

  pub walked_wants : {m n : MapStanding} {old now : F} {added : List Tree} {x : Error E} → Walked row step m old n now added → x ≡ NoMemory → Stopped row step m old now x
  walked_wants w e = record { asked = w.asked; rest = _; reads = w.reads; between = _; calls = w.calls; why = inr (inr (record { memory = e; state = refl })) }

  -- an entry was asked for, and there is no memory for it
  asked_wants : {m n k : MapStanding} {old now new : F} {added : List Tree} {i j : ℕ} {t : Tree} {x : Error E} →
      Walked row step m old n now added → EntryRead row n (entry_of i t) k → step now i (Ok j) new → x ≡ NoMemory → Stopped row step m old new x
  asked_wants w r s e = walked_wants (walked_more w r s refl) e

-- ---- one map

module _ {F E : Type 0} (step : F → ℕ → Result ℕ (Error E) → F → Type 0) {m n k : MapStanding} {old now new : F} {added : List Tree} {i j : ℕ} where
  -- the entry was not added
  pub name_fault : {name : List ℕ} → Walked plain_naming step m old n now added → EntryRead plain_naming n (entry_of i (Tree.name name)) k → step now i (Ok j) new → (w : WriteFault) →
      IfTooLarge w (IsTooLarge (length name ∷ (length added + 1) ∷ [])) → Stopped plain_naming step m old new (error_of_write w)
  name_fault {name = name} w r s (faults.TooLarge size) h = absurd (none_large (length name) (length added + 1) size (name_small r) (added_room step w r) h)
  name_fault w r s faults.NoMemory h = asked_wants step w r s refl

  pub names_fault : {t : Tree} → Walked plain_indirect step m old n now added → EntryRead plain_indirect n (entry_of i t) k → step now i (Ok j) new → (w : WriteFault) →
      IfTooLarge w (IsTooLarge ((length added + 1) ∷ [])) → Stopped plain_indirect step m old new (error_of_write w)
  names_fault w r s (faults.TooLarge size) h = absurd (one_large (length added + 1) size (added_room step w r) h)
  names_fault w r s faults.NoMemory h = asked_wants step w r s refl

  -- the entry was added with its names
  pub names_more : {names more : List Tree} {inner : MapStanding} → Walked plain_indirect step m old n now added → (r : IndirectRead n i inner k) → step now i (Ok j) new →
      KeepsNames {E = E} inner (Ok names) → more ≡ added ++ Tree.pair (Tree.u32 j) (vector_tree names) ∷ [] → Walked plain_indirect step m old k new more
  names_more w r s h a = walked_more step w r.read s (a ∙ ap (λ (ts : List Tree). added ++ Tree.pair (Tree.u32 j) (vector_tree ts) ∷ []) (h r.entries r.whole))

  pub names_wants : {inner : MapStanding} {x : Error E} → Walked plain_indirect step m old n now added → (r : IndirectRead n i inner k) → step now i (Ok j) new →
      KeepsNames inner (Err x) → Stopped plain_indirect step m old new x
  names_wants w r s h = asked_wants step w r.read s (h r.entries r.whole)

-- a step takes bytes
pub name_shrinks : {m n : MapStanding} {t : Tree} → EntryRead plain_naming m t n → length n.rest < length m.rest
name_shrinks r = left_shrinks refl r

pub names_shrink : {m n inner : MapStanding} {i : ℕ} → IndirectRead m i inner n → length n.rest < length m.rest
names_shrink r = left_shrinks refl r.read

-- ---- a closure that answers the index itself

module _ {F E : Type 0} (step : F → ℕ → Result ℕ (Error E) → F → Type 0) (same : (f : F) (i : ℕ) (r : Result ℕ (Error E)) (g : F) → step f i r g → r ≡ Ok i) where
  unchanged : (asks : List Asked) (f g : F) → Calls step f asks g → renamed asks ≡ entries_of asks
  unchanged [] f g c = refl
  unchanged (a ∷ asks) f g c =
      let e : a.answer ≡ a.index = cc (same f a.index (Ok a.answer) c.0 c.1) in
      ap (λ (n : ℕ). entry_of n a.named ∷ renamed asks) e ∙ ap (λ (ts : List Tree). entry_of a.index a.named ∷ ts) (unchanged asks c.0 g c.2)

  pub keeps_names : (m : MapStanding) (f g : F) (result : Result (List Tree) (Error E)) → MapsEntries plain_naming step m f g result → KeepsNames m result
  keeps_names m f g (Ok ts) h = λ es w. h.answers ∙ unchanged h.asked f g h.calls ∙ lists_one (entries_of h.asked) (entries_trees es) (left_one refl refl h.whole w)
  keeps_names m f g (Err e) h = λ es w. by es w h.why
    where
      by : (es : List Entry) → NamesLeft m es → CallRefused plain_naming step h.rest h.between g e ⊎ Unread plain_naming m h.rest h.between g e ⊎ Wants h.between g e → e ≡ NoMemory
      by es w (inl r) = absurd (cc (same h.between r.index (Err e) g r.call))
      by es w (inr (inl u)) = absurd (u.none (rows_tree (entries_trees es)) w)
      by es w (inr (inr k)) = k.memory
