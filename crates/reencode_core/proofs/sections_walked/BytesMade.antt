-- What a call that answers the bytes of a module promises, from what the walk of its sections promises.
use Rattle.std.proofs.Common.{◌≡◌, ℕ, List, [], Result, Ok, Err, IsErrAnd, IsTrue, refl, subst}
use Rattle.wasm_write.specs.Sections.{Sections, module_bytes}
use Rattle.reencode_hooks.specs.declared.error.Error.{Error}
use Rattle.reencode_hooks.specs.declared.error.Error.TheVariants.{NoMemory}
use Rattle.reencode_hooks.specs.declared.indices.ReencodeIndices.{Ghosts}
use Rattle.reencode_hooks.specs.Hooks.{KeepsAdds}
use Rattle.reencode_core.specs.Clauses.{BytesClauses, CoreClauses, asks}
use Rattle.reencode_core.specs.Leaves.{core_in}
use Rattle.reencode_core.specs.Weave.{added}
use Rattle.reencode_core.proofs.after_error.BytesVisited.{bytes_leave}
use Rattle.reencode_core.proofs.after_error.NoneOrAllVisited.{left_core, left_none}
use Rattle.reencode_core.proofs.rows_walked.OneRow.{answers}
use Rattle.reencode_core.proofs.sections_walked.WholeBytes.{bytes_given, bytes_refused, bytes_wanting}
use Rattle.reencode_core.proofs.weave.AddsNothing.{added_none, bytes_nothing}
use Rattle.reencode_core.proofs.weave.Weaves.{weave_is_run}

module _ {S E A : Type 0} (i : Ghosts S E) (adds : KeepsAdds i.adds i.adds_nothing) {ceiling : ℕ} {bytes : List ℕ} {s : S} (view : A → List ℕ) where
  -- an error is the answer
  answered : {n : S} (e : Error E) → BytesClauses i ceiling bytes s n (Err e) view → (r : Result A (Error E)) → IsErrAnd r (λ y. y ≡ e) → BytesClauses i ceiling bytes s n r view
  answered {n = n} e given r q =
      let P : Result A (Error E) → Type 0 = λ z. BytesClauses i ceiling bytes s n z view in
      subst P (answers r q) given

  -- there was no memory to begin
  pub bytes_unmade : (r : Result A (Error E)) → IsErrAnd r (λ y. y ≡ NoMemory) → BytesClauses i ceiling bytes s s r view
  bytes_unmade = answered NoMemory (record {
    default = λ k n. bytes_nothing (asks i) i.adds (added_none adds n) ceiling bytes s s (Err NoMemory) view (bytes_wanting (asks i) i.adds bytes ceiling s s view);
    woven = λ k. bytes_wanting (asks i) i.adds bytes ceiling s s view;
    after_error = λ k told size. left_none (asks i) (core_in bytes);
    headless = λ k none. refl;
  })

  module _ {m : S} {old new : Sections} (fresh : old ≡ record { ceiling = ceiling; sections = [] }) where
    -- the walk was refused
    pub bytes_stopped : (e : Error E) → CoreClauses i bytes s old m new (Err e) → (r : Result A (Error E)) → IsErrAnd r (λ y. y ≡ e) → BytesClauses i ceiling bytes s m r view
    bytes_stopped e gone =
        let woven = λ (k : IsTrue i.keeps_defaults). bytes_refused (asks i) i.adds bytes ceiling s m old new e view fresh (gone.woven k) in
        answered e (record {
          default = λ k n. bytes_nothing (asks i) i.adds (added_none adds n) ceiling bytes s m (Err e) view (woven k);
          woven = woven;
          after_error = λ k told size. bytes_leave (asks i) bytes (gone.after_error k told size);
          headless = gone.headless;
        })

    -- behind it there was no memory for the bytes
    pub bytes_lost : CoreClauses i bytes s old m new (Ok tt) → (r : Result A (Error E)) → IsErrAnd r (λ y. y ≡ NoMemory) → BytesClauses i ceiling bytes s m r view
    bytes_lost given = answered NoMemory (record {
      default = λ k n. bytes_nothing (asks i) i.adds (added_none adds n) ceiling bytes s m (Err NoMemory) view (bytes_wanting (asks i) i.adds bytes ceiling s m view);
      woven = λ k. bytes_wanting (asks i) i.adds bytes ceiling s m view;
      after_error = λ k told size.
          let w = given.woven k in
          let r = w.readable in
          left_core (asks i) r.0 r.1 ((weave_is_run (asks i)).forth (added i.adds) _ _ _ r.0 _ (w.reading r.0 r.1).2).ran;
      headless = given.headless;
    })

    -- they are the answer
    pub bytes_made : CoreClauses i bytes s old m new (Ok tt) → (out : A) → view out ≡ module_bytes new.sections → BytesClauses i ceiling bytes s m (Ok out) view
    bytes_made given out is =
        let woven = λ (k : IsTrue i.keeps_defaults). bytes_given (asks i) i.adds bytes ceiling s m old new tt fresh (given.woven k) out view is in
        record {
          default = λ k n. bytes_nothing (asks i) i.adds (added_none adds n) ceiling bytes s m (Ok out) view (woven k);
          woven = woven;
          after_error = λ k. tt;
          headless = given.headless;
        }
