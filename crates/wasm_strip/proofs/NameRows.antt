-- The rows of a name section, one by one.
use Rattle.std.proofs.Common.{◌≡◌, ◌≢◌, ℕ, ◌<◌, List, [], ◌∷◌, ◌⊎◌, inl, inr, length, length-append, true, false, Bool, Bor, refl, sym, ap, subst, arith}
use Rattle.std.specs.Bool.{Decides}
use Rattle.wasm_shapes.specs.Tree.{Tree}
use Rattle.wasm_shapes.specs.Shape.{Shape, closed}
use Rattle.wasm_shapes.specs.Sound.{nullable, sound}
use Rattle.wasm_shapes.specs.Spells.{Is, Spelled, Spells}
use Rattle.wasm_shapes.specs.Place.{Begins, BeginsNone}
use Rattle.wasm_shapes.specs.Types.{rows_tree}
use Rattle.wasm_shapes.specs.Module.{name_subsection, plain_naming}
use Rattle.wasm_shapes.specs.Namings.{entries_trees, module_name_tree, names_tree, outers_trees, plain_indirect, raw_names_tree}
use Rattle.wasm_shapes.specs.declared.Space.{Space}
use Rattle.wasm_shapes.specs.declared.Space.TheVariants as space
use Rattle.wasm_read.specs.declared.types.Name.{Name}
use Rattle.wasm_read.specs.declared.types.Name.TheVariants as name
use Rattle.wasm_read.specs.Names.{EntriesEnded, EntriesLeft, EntryMissing, EntryRead, MapStanding}
use Rattle.wasm_read.specs.Subsections.{Content, ReadsContent, content_of, subsection_frame, subsection_frame_tree, HoldsName, NameRead}
use Rattle.wasm_read.proofs.NameMaps.{entries_of, left_less, left_more, left_none, outers_of}
use Rattle.wasm_read.proofs.Placed.{takes_bytes}
use Rattle.wasm_read.proofs.Subsections.{begins_one, none_subsection, subsection_there}
use Rattle.wasm_strip.specs.Readable.{HasEntries, HasReading}

-- one holds where the other does
pub record Same (P Q : Type 0) : Type 0 where
  pub forth : P → Q
  pub back : Q → P

pub same : {P : Type 0} → Same P P
same = record { forth = λ p. p; back = λ p. p }

pub told_true : {P Q : Type 0} → Same P Q → Q → Decides true P
told_true s q = (λ e. s.back q, λ p. refl)

pub told_false : {P Q : Type 0} → Same P Q → ¬ Q → Decides false P
told_false s none = (λ e. absurd cc, λ p. absurd (none (s.forth p)))

-- ---- the entries of a map

module _ {row : Shape} {m : MapStanding} where
  pub entry_read : {all next : MapStanding} {t : Tree} → sound row ≡ true → closed row ≡ true → Same (HasEntries row all) (HasEntries row m) → EntryRead row m t next →
      Same (HasEntries row all) (HasEntries row next)
  entry_read {next = next} {t = t} k h s r = record {
    forth = λ e. let p = s.forth e in let q = left_less k h r p.1 in go p.0 q.0 q.1 q.2;
    back = λ e. s.back (t ∷ e.0, left_more r e.1);
  }
    where
      go : (ts : List Tree) (rows : Tree) → rows_tree ts ≡ Tree.cons t rows → EntriesLeft row next rows → HasEntries row next
      go [] rows e w = absurd cc
      go (u ∷ ts) rows e w = let behind : rows_tree ts ≡ rows = cc in (ts, subst (EntriesLeft row next) (sym behind) w)

  pub entries_ended : {all : MapStanding} → Same (HasEntries row all) (HasEntries row m) → EntriesEnded m → Decides true (HasEntries row all)
  entries_ended s ended = told_true s ([], left_none ended)

  pub entry_missing : {all : MapStanding} → Same (HasEntries row all) (HasEntries row m) → EntryMissing row m → Decides false (HasEntries row all)
  entry_missing s missing = told_false s (λ e. missing.none (rows_tree e.0) e.1)

-- ---- what a subsection holds

content_decides : (n : Name) {r : Bool} (c : Content) → content_of n ≡ c → Decides r ((t : Tree) × ReadsContent c t) → Decides r (HasReading n)
content_decides n {r = r} c e d = subst (λ (z : Content). Decides r ((t : Tree) × ReadsContent z t)) (sym e) d

direct_decides : (n : Name) {m : MapStanding} {r : Bool} (id : ℕ) (s : Space) → content_of n ≡ Content.direct id s m → Decides r (HasEntries plain_naming m) → Decides r (HasReading n)
direct_decides n {m = m} id s e d =
    content_decides n (Content.direct id s m) e (
      (λ told.
          let w = d.0 told in
          let es = entries_of w.0 w.1.rows_left.shaped in
          (names_tree id s (entries_trees es.0), (es.0, subst (λ (z : List Tree). EntriesLeft plain_naming m (rows_tree z)) es.1 w.1, refl))),
      (λ reads. d.1 (entries_trees reads.1.0, reads.1.1)),
    )

indirect_decides : (n : Name) {m : MapStanding} {r : Bool} (id : ℕ) (s : Space) → content_of n ≡ Content.indirect id s m → Decides r (HasEntries plain_indirect m) → Decides r (HasReading n)
indirect_decides n {m = m} id s e d =
    content_decides n (Content.indirect id s m) e (
      (λ told.
          let w = d.0 told in
          let os = outers_of w.0 w.1.rows_left.shaped in
          (names_tree id s (outers_trees os.0), (os.0, subst (λ (z : List Tree). EntriesLeft plain_indirect m (rows_tree z)) os.1 w.1, refl))),
      (λ reads. d.1 (outers_trees reads.1.0, reads.1.1)),
    )

module _ {n : Name} {m : MapStanding} {r : Bool} where
  pub direct_readable : (n ≡ name.Function m) ⊎ (n ≡ name.Type_ m) ⊎ (n ≡ name.Table m) ⊎ (n ≡ name.Memory m) ⊎ (n ≡ name.Global m) ⊎ (n ≡ name.Element m) ⊎ (n ≡ name.Data m) ⊎ (n ≡ name.Tag m) →
      Decides r (HasEntries plain_naming m) → Decides r (HasReading n)
  direct_readable (inl e) = direct_decides n 1 space.Function (ap content_of e)
  direct_readable (inr (inl e)) = direct_decides n 4 space.Type_ (ap content_of e)
  direct_readable (inr (inr (inl e))) = direct_decides n 5 space.Table (ap content_of e)
  direct_readable (inr (inr (inr (inl e)))) = direct_decides n 6 space.Memory (ap content_of e)
  direct_readable (inr (inr (inr (inr (inl e))))) = direct_decides n 7 space.Global (ap content_of e)
  direct_readable (inr (inr (inr (inr (inr (inl e)))))) = direct_decides n 8 space.Element (ap content_of e)
  direct_readable (inr (inr (inr (inr (inr (inr (inl e))))))) = direct_decides n 9 space.Data (ap content_of e)
  direct_readable (inr (inr (inr (inr (inr (inr (inr e))))))) = direct_decides n 11 space.Tag (ap content_of e)

  pub indirect_readable : (n ≡ name.Local m) ⊎ (n ≡ name.Label m) ⊎ (n ≡ name.Field m) → Decides r (HasEntries plain_indirect m) → Decides r (HasReading n)
  indirect_readable (inl e) = indirect_decides n 2 space.Function (ap content_of e)
  indirect_readable (inr (inl e)) = indirect_decides n 3 space.Function (ap content_of e)
  indirect_readable (inr (inr e)) = indirect_decides n 10 space.Type_ (ap content_of e)

-- what is no map is always read
pub plain_readable : {n : Name} → ((text : Bor (List ℕ)) × (n ≡ name.Module text)) ⊎ ((id : ℕ) × (contents : Bor (List ℕ)) × (n ≡ name.Unknown id contents)) → Decides true (HasReading n)
plain_readable {n = n} (inl e) = content_decides n (Content.text e.0.now) (ap content_of e.1) (λ told. (module_name_tree e.0.now, refl), λ reads. refl)
plain_readable {n = n} (inr e) = content_decides n (Content.raw e.0 e.1.now) (ap content_of e.2) (λ told. (raw_names_tree e.0 e.1.now, refl), λ reads. refl)

-- ---- a subsection in its frame

module _ {bytes rest body : List ℕ} {id : ℕ} (n : Name) (frame : Begins subsection_frame bytes (subsection_frame_tree id body) rest) (holds : HoldsName id body n) where
  read : NameRead (record { rest = bytes; len = 0 }) n (record { rest = rest; len = 0 })
  read = record { id = id; body = body; begins = frame; holds = holds; len = refl }

  pub subsection_begins : HasReading n → (t : Tree) × Begins name_subsection bytes t rest
  subsection_begins reads = (reads.0, subsection_there read reads.1)

  pub unreadable : ¬ HasReading n → BeginsNone name_subsection bytes
  unreadable none = none_subsection read (λ t reads. none (t, reads))

-- ---- subsections

-- the bytes are rows of a shape, one behind another
abbrev pub AreRows : Shape → List ℕ → Type 0
AreRows shape bytes = (t : Tree) × Spells (Shape.many shape) bytes t

module _ (shape : Shape) {rest : List ℕ} where
  first_of : rest ≢ [] → AreRows shape rest → (t : Tree) × (left : List ℕ) × Begins shape rest t left × AreRows shape left
  first_of some n = go n.0 n.1.shaped n.1.spelled
    where
      go : (u : Tree) → Is (Shape.many shape) u → Spelled u rest → (t : Tree) × (left : List ℕ) × Begins shape rest t left × AreRows shape left
      go u Is.nil s = absurd (some s)
      go u (Is.cons {t = t} {u = others} d d') s =
          (t, s.1, record { text = s.0; spells = record { shaped = d; spelled = s.3 }; reads = s.2 }, (others, record { shaped = d'; spelled = s.4 }))

  pub subsection_read : {all left : List ℕ} {t : Tree} → sound shape ≡ true → closed shape ≡ true → rest ≢ [] → Same (AreRows shape all) (AreRows shape rest) → Begins shape rest t left →
      Same (AreRows shape all) (AreRows shape left)
  subsection_read {left = left} {t = t} k h some s b = record {
    forth = λ n.
        let first = first_of some (s.forth n) in
        subst (AreRows shape) (sym (begins_one k h b first.2).1) first.3;
    back = λ n.
        s.back (Tree.cons t n.0, record { shaped = Is.cons b.spells.shaped n.1.shaped; spelled = (b.text, left, b.reads, b.spells.spelled, n.1.spelled) });
  }

  pub subsections_ended : {all : List ℕ} → Same (AreRows shape all) (AreRows shape rest) → rest ≡ [] → Decides true (AreRows shape all)
  subsections_ended s e = told_true s (Tree.nil, record { shaped = Is.nil; spelled = e })

  pub subsection_missing : {all : List ℕ} → rest ≢ [] → Same (AreRows shape all) (AreRows shape rest) → BeginsNone shape rest → Decides false (AreRows shape all)
  subsection_missing some s none =
      told_false s (λ n. let first = first_of some n in let b = first.2 in none.none b.text first.1 first.0 b.spells b.reads)

  pub subsection_shrinks : {left : List ℕ} {t : Tree} → nullable shape ≡ false → Begins shape rest t left → length left < length rest
  subsection_shrinks {left = left} fills b =
      let long = ap length b.reads in
      let parts = length-append b.text left in
      let some = takes_bytes b.text fills b.spells in
      omega (arith, long, parts, some)
