-- How a command ends whose output goes to memory first.
use Rattle.std.proofs.Common.{◌≡◌, ◌≢◌, ℕ, ◌==◌, Bool, true, false, List, Option, Result, Err, if◌then◌else◌, refl, sym, subst}
use Rattle.std.proofs.lemmas.Bool.Decides.{Decides-eqb}
use Rattle.reencode_run.specs.Answer.{Ends, MadeFor, Outside}
use Rattle.reencode_run.specs.Words.{Job}
use Rattle.wasm_strip.specs.declared.fault.StripFault.{StripFault}
use Rattle.wasm_strip.specs.declared.fault.StripFault.TheVariants as fault
use Rattle.wasm_reencode.specs.declared.stripped.Ended.{Ended}
use Rattle.wasm_reencode.specs.declared.stripped.Ended.TheVariants as ended
use Rattle.wasm_reencode.specs.Stripped.{IfCommand, IfStrip, status_in, unmade}

module _ {job : Job} {o : Outside} {U : Type 0} where
  -- an end that does not come of the sink is the same with another sink
  pub other_sink : {n : ℕ} {t : List ℕ} (a b : Option (List ℕ)) (w x : ℕ) → n ≢ 0 → n ≢ 4 → Ends job o U n t
      → Ends job (record o { held_old = a; held_new = b; write_faults_old = w; write_faults_new = x }) U n t
  other_sink a b w x z f (Ends.printed made told) = absurd (z refl)
  other_sink a b w x z f Ends.no_memory = Ends.no_memory
  other_sink a b w x z f (Ends.read_fault h) = Ends.read_fault h
  other_sink a b w x z f (Ends.write_fault made took rose) = absurd (f refl)
  other_sink a b w x z f (Ends.parse_error at by h) = Ends.parse_error at by h
  other_sink a b w x z f (Ends.refused u by h) = Ends.refused u by h
  other_sink a b w x z f (Ends.code_size by h) = Ends.code_size by h
  other_sink a b w x z f (Ends.component by h) = Ends.component by h
  other_sink a b w x z f (Ends.core_module by h) = Ends.core_module by h
  other_sink a b w x z f (Ends.too_large size ceiling by h) = Ends.too_large size ceiling by h
  other_sink a b w x z f (Ends.uneven stated rows by h) = Ends.uneven stated rows by h
  other_sink a b w x z f (Ends.repeated id by h) = Ends.repeated id by h
  other_sink a b w x z f (Ends.not_an_order place by h) = Ends.not_an_order place by h
  other_sink a b w x z f (Ends.dangling space index by h) = Ends.dangling space index by h
  other_sink a b w x z f (Ends.clash name by h) = Ends.clash name by h
  other_sink a b w x z f (Ends.two_starts by h) = Ends.two_starts by h
  other_sink a b w x z f (Ends.bad_file h u) = Ends.bad_file h u
  other_sink a b w x z f (Ends.unfetched h u) = Ends.unfetched h u
  other_sink a b w x z f (Ends.too_long h) = Ends.too_long h
  other_sink a b w x z f (Ends.no_digits h) = Ends.no_digits h

  -- where memory did not take the output there is one
  pub made_unwritten : {t : List ℕ} → Ends job o U 4 t → MadeFor job o
  made_unwritten (Ends.write_fault made took rose) = made

-- what holds of what comes of a status, where that is 4 and where it is another
pub by_four : (status : ℕ) (R : Ended → Type 0) → (status ≡ 4 → R (ended.Strip fault.NoMemory)) → (status ≢ 4 → R (ended.Command status)) → R (unmade status)
by_four status R four other = go (status == 4) refl
  where
    go : (b : Bool) → (status == 4) ≡ b → R (if b then ended.Strip fault.NoMemory else ended.Command status)
    go true e = four ((Decides-eqb status 4).0 e)
    go false e = other (λ same. let is : (status == 4) ≡ true = (Decides-eqb status 4).1 same in cc (is, e))

module _ (status : ℕ) (e : Ended) where
  pub command_by : (P : ℕ → Type 0) → e ≡ unmade status → (status ≢ 4 → P status) → IfCommand {A = Unit {0}} (Err e) P
  command_by P is other = subst (λ (z : Ended). IfCommand {A = Unit {0}} (Err z) P) (sym is) (by_four status (λ z. IfCommand {A = Unit {0}} (Err z) P) (λ same. tt) other)

  pub strip_by : (P : StripFault → Type 0) → e ≡ unmade status → (status ≡ 4 → P fault.NoMemory) → IfStrip {A = Unit {0}} (Err e) P
  strip_by P is four = subst (λ (z : Ended). IfStrip {A = Unit {0}} (Err z) P) (sym is) (by_four status (λ z. IfStrip {A = Unit {0}} (Err z) P) four (λ other. tt))

  pub status_by : (Q : ℕ → Type 0) → e ≡ unmade status → (status ≡ 4 → Q 0) → (status ≢ 4 → Q status) → Q (status_in {A = Unit {0}} (Err e))
  status_by Q is four other = subst (λ (z : Ended). Q (status_in {A = Unit {0}} (Err z))) (sym is) (by_four status (λ z. Q (status_in {A = Unit {0}} (Err z))) four other)
