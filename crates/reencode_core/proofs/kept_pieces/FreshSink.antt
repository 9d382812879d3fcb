-- What a call gives in a fresh sink, in one that holds more.
use Rattle.std.proofs.Common.{◌≡◌, ◌+◌, ◌-◌, ◌^◌, ◌<◌, ◌⊎◌, inl, inr, ℕ, List, [], ◌∷◌, ◌++◌, length, Ok, Err, refl, sym, ap, ◌∙◌, subst, arith}
use Rattle.std.proofs.Math.Seq.{take-append_seam}
use Rattle.std.proofs.lemmas.List.Elements.{All-cons, All-contains, All-nil, Contains-append_left, Contains-append_cases}
use Rattle.wasm_shapes.specs.Tree.{Tree}
use Rattle.wasm_write.specs.declared.fault.WriteFault.{WriteFault}
use Rattle.wasm_write.specs.declared.fault.WriteFault.TheVariants as faults
use Rattle.wasm_write.specs.Bodies.{CodeRows}
use Rattle.wasm_write.specs.Counts.{counts}
use Rattle.wasm_write.specs.Faults.{IfTooLarge}
use Rattle.wasm_write.specs.Sections.{Sections}
use Rattle.wasm_write.proofs.Items.{large_last}
use Rattle.reencode_hooks.specs.declared.error.Error.{Error}
use Rattle.reencode_hooks.specs.declared.error.Error.TheVariants.{NoMemory, TooLarge}
use Rattle.reencode_hooks.specs.declared.indices.ReencodeIndices.{Ghosts}
use Rattle.reencode_hooks.specs.Errors.{error_of_write}
use Rattle.reencode_hooks.specs.Run.{refused}
use Rattle.reencode_hooks.specs.Walk.{walk}
use Rattle.reencode_core.specs.Bodies.{KeepsCode}
use Rattle.reencode_core.specs.Rows.{Asks, TooLargeMade, TooLargeRow}
use Rattle.reencode_core.specs.Sections.{GivesAdded}
use Rattle.reencode_core.proofs.bodies.BodyLoop.{keeps_code}
use Rattle.reencode_core.proofs.bodies.EachBody.{BodyClauses}
use Rattle.reencode_core.proofs.rows_walked.OneRow.{asks}
use Rattle.reencode_core.specs.Sinks.{with_rows, with_sections}
use Rattle.reencode_core.proofs.after_error.NoneOrAllVisited.{left_body}

-- ---- a row

abbrev pub fresh_code : ℕ → CodeRows
fresh_code ceiling = record { ceiling = ceiling; rows = [] }

more_large : {E : Type 0} (e : Error E) (u : Tree) (n : ℕ) → TooLargeRow e u 0 → TooLargeRow e u n
more_large (TooLarge size) u n h = elim (Contains-append_cases (counts u) (1 ∷ []) size h.counted) [
  | inl among ↦ record { counted = Contains-append_left (counts u) ((n + 1) ∷ []) size among; large = h.large }
  | inr last ↦
      let small : size < 2 ^ 32 = All-contains (λ (k : ℕ). k < 2 ^ 32) (1 ∷ []) size (All-cons (λ (k : ℕ). k < 2 ^ 32) 1 [] (omega arith) (All-nil (λ (k : ℕ). k < 2 ^ 32))) last in
      let large : 2 ^ 32 - 1 < size = h.large in absurd (omega arith)
]
more_large _ u n h = absurd h

module _ {S E : Type 0} (i : Ghosts S E) {bytes : List ℕ} {s m : S} {old one : CodeRows} where
  -- its rows were added
  pub body_moved : {new : CodeRows} → BodyClauses i bytes s (fresh_code old.ceiling) m one (Ok tt) → new ≡ with_rows old one.rows → BodyClauses i bytes s old m new (Ok tt)
  body_moved g e = record {
    kept = let P : CodeRows → Type 0 = λ z. KeepsCode old z in subst P (sym e) (record { ceiling = refl; rows = take-append_seam old.rows one.rows });
    default = λ k. let d = g.default k in record {
      reading = λ t p. let q = d.reading t p in (q.0, q.1, ap CodeRows.rows e ∙ ap (λ (z : List Tree). old.rows ++ z) q.2);
      readable = d.readable;
      unchanged = tt;
      unreadable = tt;
      refusal = tt;
    };
    after_error = λ k. tt;
  }

  -- it was refused
  pub body_stopped : (e : Error E) → BodyClauses i bytes s (fresh_code old.ceiling) m one (Err e) → BodyClauses i bytes s old m old (Err e)
  body_stopped e g = record {
    kept = keeps_code old;
    default = λ k. let d = g.default k in record {
      reading = λ t p. (refl, λ other. go t ((d.reading t p).1 other));
      readable = tt;
      unchanged = refl;
      unreadable = d.unreadable;
      refusal = d.refusal;
    };
    after_error = g.after_error;
  }
    where
      go : (t : Tree) → (walk (asks i) old.ceiling s (Tree.sized t) ≡ refused e m) ⊎ TooLargeMade (asks i) s (Tree.sized t) 0 e m →
          (walk (asks i) old.ceiling s (Tree.sized t) ≡ refused e m) ⊎ TooLargeMade (asks i) s (Tree.sized t) (length old.rows) e m
      go t (inl h) = inl h
      go t (inr h) = inr (record { accepts = h.accepts; large = more_large e h.accepts.made (length old.rows) h.large })

  -- its rows were too many, or there is no memory for them
  pub rows_not_added : (w : WriteFault) → BodyClauses i bytes s (fresh_code old.ceiling) m one (Ok tt) →
      IfTooLarge w (λ size. (size ≡ length old.rows + length one.rows) × (2 ^ 32 - 1 < size)) → BodyClauses i bytes s old m old (Err (error_of_write w))
  rows_not_added faults.NoMemory g large = record {
    kept = keeps_code old;
    default = λ k. let d = g.default k in record {
      reading = λ t p. (refl, λ other. absurd (other refl));
      readable = tt;
      unchanged = refl;
      unreadable = tt;
      refusal = tt;
    };
    after_error = λ k told. let p = (g.default k).readable in left_body (asks i) old.ceiling NoMemory tt p.0 p.1 ((g.default k).reading p.0 p.1).1;
  }
  rows_not_added (faults.TooLarge size) g large = record {
    kept = keeps_code old;
    default = λ k. let d = g.default k in record {
      reading = λ t p.
          let q = d.reading t p in
          let n : length one.rows ≡ 1 = ap length q.2 in
          let is : size ≡ length old.rows + 1 = large.0 ∙ ap (λ (j : ℕ). length old.rows + j) n in (
            refl,
            λ other. inr (record {
              accepts = record { ceiling = old.ceiling; made = q.0; walked = q.1 };
              large = large_last (counts q.0) is large.1;
            }),
          );
      readable = tt;
      unchanged = refl;
      unreadable = tt;
      refusal = inl d.readable;
    };
    after_error = λ k told. let p = (g.default k).readable in left_body (asks i) old.ceiling (TooLarge size) tt p.0 p.1 ((g.default k).reading p.0 p.1).1;
  }

-- ---- a section

abbrev pub fresh_module : ℕ → Sections
fresh_module ceiling = record { ceiling = ceiling; sections = [] }

module _ {S E : Type 0} (asked : Asks S E) (id : ℕ) (s : S) (old : Sections) where
  pub added_moved : {m : S} {one new : Sections} (t : Tree) → GivesAdded asked id (s, fresh_module old.ceiling) t (m, one) (Ok tt) → new ≡ with_sections old one.sections →
      GivesAdded asked id (s, old) t (m, new) (Ok tt)
  added_moved t g e = (g.0, g.1, g.2, e ∙ ap (λ (z : Sections). with_sections old z.sections) g.3, g.4)
