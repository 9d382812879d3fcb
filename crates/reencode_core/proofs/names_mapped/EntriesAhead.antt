-- Entries of a map that were read, and those in front of its fault.
use Rattle.std.proofs.Common.{◌≡◌, ◌≢◌, ℕ, suc, ◌+◌, ◌<◌, ◌⊎◌, List, [], ◌∷◌, ◌++◌, length, true, Option, Some, None, refl, sym, ap, subst, ◌∙◌, append_assoc, inl, inr, arith}
use Rattle.std.proofs.lemmas.List.{append_cancel_left}
use Rattle.wasm_leb.specs.Place.{BeginsNoNumber}
use Rattle.wasm_shapes.specs.Tree.{Tree}
use Rattle.wasm_shapes.specs.Shape.{Shape, closed}
use Rattle.wasm_shapes.specs.Sound.{sound}
use Rattle.wasm_shapes.specs.Spells.{Is, Spelled}
use Rattle.wasm_shapes.specs.Place.{BeginsNone}
use Rattle.wasm_shapes.specs.Rows.{rows_then}
use Rattle.wasm_shapes.specs.Types.{rows_tree}
use Rattle.wasm_shapes.proofs.Unique.{unique}
use Rattle.wasm_read.specs.Names.{MapStanding, Due, DueFrom, EntryMissing, EntryRead, FaultHere}
use Rattle.wasm_read.proofs.NameMaps.{due_behind, due_one}
use Rattle.reencode_core.specs.Leaves.{EntriesUpTo}
use Rattle.reencode_core.specs.Names.{EntriesRead}

-- where the count is due and none begins, no entry is due
uncounted : (m : MapStanding) → m.left ≡ None → BeginsNoNumber 128 32 32 m.rest → (n : ℕ) (b : List ℕ) → Due m n b → ⊥
uncounted m e bare n b d = go m.left e d
  where
    go : (left : Option ℕ) → left ≡ None → DueFrom m.rest left n b → ⊥
    go None e d = bare d.0 b n d.1 d.2
    go (Some k) e d = cc

module _ {row : Shape} (is_sound : sound row ≡ true) (is_closed : closed row ≡ true) where
  -- the first entry in front of the fault is the one that was read
  pub ahead_one : {m n : MapStanding} {e t : Tree} {rest : List ℕ} → EntryRead row m e n → EntriesUpTo row m t rest → (u : Tree) × (t ≡ Tree.cons e u) × EntriesUpTo row n u rest
  ahead_one {m = m} r (EntriesUpTo.uncounted e bare) = absurd (uncounted m e bare (r.left + 1) r.bytes r.due)
  ahead_one {m = m} {n = n} {e = e} {t = t} {rest = rest} r (EntriesUpTo.entries count start v left due f) = go f.rows f.front.text f.are f.front.shaped f.front.spelled f.front.stands f.missing
    where
      same : (count ≡ r.left + 1) × (start ≡ r.bytes)
      same = due_one m count (r.left + 1) start r.bytes due r.due

      go : (rows : List Tree) (text : List ℕ) → t ≡ rows_tree rows → Is (Shape.many row) (rows_tree rows) → Spelled (rows_tree rows) text → start ≡ text ++ rest →
          ((length rows < count) × BeginsNone row rest) ⊎ ((length rows ≡ count) × (rest ≢ [])) → (u : Tree) × (t ≡ Tree.cons e u) × EntriesUpTo row n u rest
      go [] text are d s stands (inl none) =
          let empty : text ≡ [] = s in
          let here : rest ≡ r.bytes = sym (stands ∙ ap (λ (z : List ℕ). z ++ rest) empty) ∙ same.1 in
          absurd (none.1.none r.begins.text n.rest e r.begins.spells (here ∙ r.begins.reads))
      go [] text are d s stands (inr full) = let number = same.0 in let zero : 0 ≡ count = full.0 in absurd (omega arith)
      go (u ∷ us) text are (Is.cons d d') s stands missing =
          let left : start ≡ s.0 ++ (s.1 ++ rest) = stands ∙ ap (λ (z : List ℕ). z ++ rest) s.2 ∙ append_assoc s.0 s.1 rest in
          let both_ways : s.0 ++ (s.1 ++ rest) ≡ r.begins.text ++ n.rest = sym left ∙ same.1 ∙ r.begins.reads in
          let agree = unique d r.begins.spells.shaped s.0 r.begins.text (s.1 ++ rest) n.rest is_sound (inl is_closed) s.3 r.begins.spells.spelled both_ways in
          let shifted : r.begins.text ++ (s.1 ++ rest) ≡ r.begins.text ++ n.rest = ap (λ (z : List ℕ). z ++ (s.1 ++ rest)) (sym agree.0) ∙ both_ways in
          let behind : s.1 ++ rest ≡ n.rest = append_cancel_left r.begins.text (s.1 ++ rest) n.rest shifted in (
            rows_tree us,
            are ∙ ap (λ (z : Tree). Tree.cons z (rows_tree us)) agree.1,
            EntriesUpTo.entries r.left n.rest (rows_tree us) rest (due_behind r) (record {
              rows = us;
              are = refl;
              front = record { text = s.1; shaped = d'; spelled = s.4; stands = sym behind };
              missing = fewer missing;
            }),
          )
        where
          fewer : ((suc (length us) < count) × BeginsNone row rest) ⊎ ((suc (length us) ≡ count) × (rest ≢ [])) → ((length us < r.left) × BeginsNone row rest) ⊎ ((length us ≡ r.left) × (rest ≢ []))
          fewer (inl h) = let number = same.0 in let below = h.0 in inl (omega arith, h.1)
          fewer (inr h) = let number = same.0 in let full = h.0 in inr (omega arith, h.1)

  -- those in front of the fault are the ones that were read, and others behind them
  pub entries_ahead : (ts : List Tree) {m n : MapStanding} {t : Tree} {rest : List ℕ} → EntriesRead row m ts n → EntriesUpTo row m t rest → (u : Tree) × (t ≡ rows_then ts u) × EntriesUpTo row n u rest
  entries_ahead [] {t = t} {rest = rest} r f = let P : MapStanding → Type 0 = λ k. EntriesUpTo row k t rest in (t, refl, subst P r f)
  entries_ahead (e ∷ ts) r f =
      let one = ahead_one r.1 f in
      let more = entries_ahead ts r.2 one.2 in
      (more.0, one.1 ∙ ap (λ (z : Tree). Tree.cons e z) more.1, more.2)

-- where the fault stands, there is none in front of it
pub none_ahead : {row : Shape} {m : MapStanding} {t : Tree} {rest : List ℕ} → EntryMissing row m → EntriesUpTo row m t rest → t ≡ Tree.nil
none_ahead r (EntriesUpTo.uncounted e bare) = refl
none_ahead {row = row} {m = m} {t = t} {rest = rest} r (EntriesUpTo.entries count start v left due f) = go f.rows f.front.text f.are f.front.shaped f.front.spelled f.front.stands f.missing
  where
    at_fault : (x : Tree) (text behind : List ℕ) → Is row x → Spelled x text → start ≡ text ++ behind → 0 < count → FaultHere row m → ⊥
    at_fault x text behind d s stands some (inl h) = uncounted m h.0 h.1 count start due
    at_fault x text behind d s stands some (inr (n, b, d', h)) =
        let same = due_one m n count b start d' due in
        by same h.here
      where
        by : (n ≡ count) × (b ≡ start) → ((0 < n) × BeginsNone row b) ⊎ ((n ≡ 0) × (b ≢ [])) → ⊥
        by same (inl q) = q.1.none text behind x (record { shaped = d; spelled = s }) (same.1 ∙ stands)
        by same (inr q) = let zero = q.0 in let number = same.0 in omega arith

    go : (rows : List Tree) (text : List ℕ) → t ≡ rows_tree rows → Is (Shape.many row) (rows_tree rows) → Spelled (rows_tree rows) text → start ≡ text ++ rest →
        ((length rows < count) × BeginsNone row rest) ⊎ ((length rows ≡ count) × (rest ≢ [])) → t ≡ Tree.nil
    go [] text are d s stands missing = are
    go (u ∷ us) text are (Is.cons d d') s stands missing =
        absurd (at_fault u s.0 (s.1 ++ rest) d s.3 (stands ∙ ap (λ (z : List ℕ). z ++ rest) s.2 ∙ append_assoc s.0 s.1 rest) (some missing) r.here)
      where
        some : ((suc (length us) < count) × BeginsNone row rest) ⊎ ((suc (length us) ≡ count) × (rest ≢ [])) → 0 < count
        some (inl h) = let below = h.0 in omega arith
        some (inr h) = let full = h.0 in omega arith
