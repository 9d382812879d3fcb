-- Rows that open no scope, as rows that may open some.
use Rattle.std.proofs.Common.{◌≡◌, ◌≢◌, ◌<◌, ◌≤◌, ◌⊎◌, ℕ, List, [], length, Result, Ok, Err, true, refl, arith, inl, inr}
use Rattle.wasm_shapes.specs.Depth.{BeginsNoneAt, Shallow, opens}
use Rattle.wasm_shapes.specs.Place.{BeginsNone}
use Rattle.wasm_shapes.specs.Shape.{Shape}
use Rattle.wasm_shapes.specs.Spells.{Is}
use Rattle.wasm_shapes.specs.Tree.{Tree}
use Rattle.wasm_shapes.proofs.Depth.{at_none}
use Rattle.wasm_shapes.proofs.Unscoped.{unscoped, unscoped_is}
use Rattle.wasm_read.specs.Reading.{Standing}
use Rattle.reencode_hooks.specs.declared.error.Error.{Error}
use Rattle.reencode_hooks.specs.declared.indices.ReencodeIndices.{Ghosts}
use Rattle.reencode_core.specs.Clauses.{RowsClauses, asks}
use Rattle.reencode_core.specs.Leaves.{Leaves, LeavesMade, RowsUpTo, rows_in}
use Rattle.reencode_core.specs.Rows.{Asks, GivesRows, RowsFault}
use Rattle.reencode_core.proofs.faults.WalkRefusals.{IfParse-map, IfRefused-map}
use Rattle.reencode_component.specs.ScopedRows.{AllShallow, GivesShallow, ShallowFault, ShallowRowsClauses, ShallowUpTo, shallow_rows_in, standing_at}

module _ {row : Shape} (flat : unscoped row ≡ true) {depth : ℕ} (deep : depth ≤ 200) where
  one_flat : {t : Tree} → Is row t → Shallow depth t
  one_flat {t = t} d = let none : opens t ≡ 0 = (unscoped_is d flat).opens in record { most = omega (arith, none, deep) }

  all_flat : {rows : Tree} → Is (Shape.many row) rows → AllShallow depth rows
  all_flat {rows = rows} d = λ some. let none : opens rows ≡ 0 = (unscoped_is d flat).opens in record { most = omega (arith, none, deep) }

  none_flat : {bytes : List ℕ} → BeginsNoneAt row depth bytes → BeginsNone row bytes
  none_flat n = record { none = λ text left t spells reads. n.none left t (record { begins = record { text = text; spells = spells; reads = reads }; shallow = one_flat spells.shaped }) }

  up_to_flat : {reader : Standing} {t : Tree} {rest : List ℕ} → ShallowUpTo row (standing_at depth reader) t rest → RowsUpTo row reader t rest
  up_to_flat {reader = reader} {rest = rest} u = record { rows = u.rows; are = u.are; front = u.front; missing = go u.rows u.missing }
    where
      go : (rows : List Tree) → ((length rows < reader.left) × BeginsNoneAt row depth rest) ⊎ ((length rows ≡ reader.left) × (rest ≢ [])) →
          ((length rows < reader.left) × BeginsNone row rest) ⊎ ((length rows ≡ reader.left) × (rest ≢ []))
      go rows (inl q) = inl (q.0, none_flat q.1)
      go rows (inr q) = inr q

  module _ {S E : Type 0} {reader : Standing} where
    fault_flat : {asked : Asks S E} {c : ℕ} {before after : S × List Tree} {at : ℕ} → RowsFault asked c row reader before after at → ShallowFault asked c row (standing_at depth reader) before after at
    fault_flat f = record {
      none = λ rows all. f.none.none rows all.left;
      front = _;
      rest = f.rest;
      up_to = record { rows = f.read; are = refl; front = f.front; shallow = all_flat f.front.shaped; missing = go f.read f.rest f.missing };
      made = f.made;
      state = f.state;
      place = f.place;
      accepts = f.accepts;
      gains = f.gains;
    }
      where
        go : (rows : List Tree) (rest : List ℕ) → ((length rows < reader.left) × BeginsNone row rest) ⊎ ((length rows ≡ reader.left) × (rest ≢ [])) →
            ((length rows < reader.left) × BeginsNoneAt row depth rest) ⊎ ((length rows ≡ reader.left) × (rest ≢ []))
        go rows rest (inl q) = inl (q.0, at_none q.1)
        go rows rest (inr q) = inr q

    gives_flat : {asked : Asks S E} {c : ℕ} {before after : S × List Tree} (r : Result (Unit {0}) (Error E)) → GivesRows asked c row reader before after r →
        GivesShallow asked c row (standing_at depth reader) before after r
    gives_flat (Ok u) g = record {
      reading = λ rows all. g.reading rows all.left;
      readable = (g.readable.0, record { left = g.readable.1; shallow = all_flat g.readable.1.shaped });
      unreadable = tt;
      refusal = tt;
    }
    gives_flat (Err e) g = record {
      reading = λ rows all. g.reading rows all.left;
      readable = tt;
      unreadable = IfParse-map e (λ at f. fault_flat f) g.unreadable;
      refusal = IfRefused-map e (λ h. record { stops = h; shallow = all_flat h.front.shaped; next = λ t left b. one_flat b.spells.shaped }) g.refusal;
    }

    leaves_flat : {asked : Asks S E} {s m : S} {e : Error E} → Leaves asked (rows_in row reader) s e m → Leaves asked (shallow_rows_in row (standing_at depth reader)) s e m
    leaves_flat l = record {
      made = l.made;
      ended = l.ended;
      drawn = l.drawn;
      reading = λ t r. l.reading t r.left;
      fault = λ none t rest u. l.fault (λ rows all. none rows (record { left = all; shallow = all_flat all.shaped })) t rest (up_to_flat u);
    }

    pub flat_clauses : (i : Ghosts S E) {s m : S} {old new : List Tree} (r : Result (Unit {0}) (Error E)) → RowsClauses i row reader s old m new r →
        ShallowRowsClauses i row (standing_at depth reader) s old m new r
    flat_clauses i {s = s} {m = m} r given = record { kept = given.kept; default = λ k c. gives_flat r (given.default k c); after_error = λ k. left r (given.after_error k); wants = given.wants }
      where
        left : (r : Result (Unit {0}) (Error E)) → LeavesMade i.sure (asks i) (rows_in row reader) s m r → LeavesMade i.sure (asks i) (shallow_rows_in row (standing_at depth reader)) s m r
        left (Ok u) h = tt
        left (Err e) h = λ told. leaves_flat (h told)
