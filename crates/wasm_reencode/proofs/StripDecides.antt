-- Which status comes where an output goes to memory first.
use Rattle.std.proofs.Common.{◌≡◌, ◌≢◌, ℕ, ◌⊎◌, inl, inr, List, [], ◌∷◌, Option, None, Some, arith}
use Rattle.reencode_run.specs.declared.answer.ReencodingFault.{ReencodingFault}
use Rattle.reencode_run.specs.declared.answer.ReencodingFault.TheVariants as reencoding_fault
use Rattle.reencode_run.specs.declared.task.Task.{Task}
use Rattle.reencode_run.specs.Answer.{IsDecided, IsDecidedByBytes, IsDecidedByFile, IsDecidedByFiles, IsDecidedByForm, IsDecidedByInput, IsDecidedByLeft, IsDecidedByTask, IsDecidedFor, IsDecidedForFile, Texts, fault_status, told_text}
use Rattle.reencode_run.specs.Generated.{generated}
use Rattle.reencode_run.specs.Hexadecimal.{bytes_of}
use Rattle.reencode_run.specs.Tasks.{Saying, formed, task_of}
use Rattle.reencode_run.specs.Words.{Job, Kind, files, functions, says}

-- a status that comes neither of success nor of the sink
abbrev IsOther : ℕ → Type 0
IsOther n = (n ≢ 0) × (n ≢ 4)

of_fault : (f : ReencodingFault) → IsOther (fault_status f)
of_fault reencoding_fault.NoMemory = (λ e. omega (arith, e), λ e. omega (arith, e))
of_fault (reencoding_fault.ParseError at) = (λ e. omega (arith, e), λ e. omega (arith, e))
of_fault (reencoding_fault.Refused u) = (λ e. omega (arith, e), λ e. omega (arith, e))
of_fault reencoding_fault.CodeSectionSize = (λ e. omega (arith, e), λ e. omega (arith, e))
of_fault reencoding_fault.NonCoreModule = (λ e. omega (arith, e), λ e. omega (arith, e))
of_fault reencoding_fault.NonComponent = (λ e. omega (arith, e), λ e. omega (arith, e))
of_fault (reencoding_fault.TooLarge size ceiling) = (λ e. omega (arith, e), λ e. omega (arith, e))
of_fault (reencoding_fault.Uneven stated rows) = (λ e. omega (arith, e), λ e. omega (arith, e))
of_fault (reencoding_fault.Repeated id) = (λ e. omega (arith, e), λ e. omega (arith, e))
of_fault (reencoding_fault.NotAnOrder place) = (λ e. omega (arith, e), λ e. omega (arith, e))
of_fault (reencoding_fault.Dangling space index) = (λ e. omega (arith, e), λ e. omega (arith, e))
of_fault (reencoding_fault.Clash name) = (λ e. omega (arith, e), λ e. omega (arith, e))
of_fault reencoding_fault.TwoStarts = (λ e. omega (arith, e), λ e. omega (arith, e))

-- one status comes with one sink, and another with another sink
module _ (H R V W : Type 0) (s z : ℕ) (same : (n : ℕ) → (n ≢ 0) × (n ≢ 4) → s ≡ n → z ≡ n) (made : (s ≡ 0) ⊎ ((s ≡ 4) × V) → (z ≡ 0) ⊎ ((z ≡ 4) × W)) where
  either : (n m : ℕ) → IsOther n → IsOther m → (s ≡ n) ⊎ (s ≡ m) → (z ≡ n) ⊎ (z ≡ m)
  either n m a b (inl e) = inl (same n a e)
  either n m a b (inr e) = inr (same m b e)

  by_bytes : (t : Task) (c : ℕ) (bytes : List ℕ) → IsDecidedByBytes V t c bytes s → IsDecidedByBytes W t c bytes z
  by_bytes t c bytes (inl h) = inl (made h.0, h.1)
  by_bytes t c bytes (inr h) = inr (h.0, same (fault_status h.0.fault) (of_fault h.0.fault) h.1, h.2)

  by_task : (t : Option Task) (c : ℕ) (bytes : List ℕ) → IsDecidedByTask V t c bytes s → IsDecidedByTask W t c bytes z
  by_task None c bytes h = either 14 1 (λ e. omega (arith, e), λ e. omega (arith, e)) (λ e. omega (arith, e), λ e. omega (arith, e)) h
  by_task (Some t) c bytes h = by_bytes t c bytes h

  by_form : (t : Option Task) (c : ℕ) (form : Option (List ℕ)) → IsDecidedByForm V t c form s → IsDecidedByForm W t c form z
  by_form t c None h = either 14 1 (λ e. omega (arith, e), λ e. omega (arith, e)) (λ e. omega (arith, e), λ e. omega (arith, e)) h
  by_form t c (Some bytes) h = by_task t c bytes h

  by_left : (job : Job) (t : Task) (left : Option (List ℕ)) → IsDecidedByLeft R V job t left s → IsDecidedByLeft R W job t left z
  by_left job t None h = tt
  by_left job t (Some text) (inl h) = inl (same 3 (λ e. omega (arith, e), λ e. omega (arith, e)) h.0, h.1)
  by_left job t (Some text) (inr h) = inr (record {
    long = λ more. either 13 1 (λ e. omega (arith, e), λ e. omega (arith, e)) (λ e. omega (arith, e), λ e. omega (arith, e)) (h.long more);
    short = λ less. by_form (formed job.is_text t) job.ceiling (bytes_of job.is_text text) (h.short less);
  })

  by_input : (source : Option ℕ) (job : Job) (t : Task) (left : Option (List ℕ)) → IsDecidedByInput R V source job t left s → IsDecidedByInput R W source job t left z
  by_input None job t left h = by_left job t left h
  by_input (Some n) job t left h = by_task (formed job.is_text t) job.ceiling (generated n) h

  by_file : (k : Kind) (file : Option (List ℕ)) (P Q : Saying k → Type 0) → ((c : Saying k) → P c → Q c) → IsDecidedByFile H k file s P → IsDecidedByFile H k file z Q
  by_file k None P Q f h = tt
  by_file k (Some text) P Q f (inl h) = inl (same 12 (λ e. omega (arith, e), λ e. omega (arith, e)) h.0, h.1)
  by_file k (Some text) P Q f (inr h) = inr (record {
    long = λ more. either 13 1 (λ e. omega (arith, e), λ e. omega (arith, e)) (λ e. omega (arith, e), λ e. omega (arith, e)) (h.long more);
    none = λ less none. either 11 1 (λ e. omega (arith, e), λ e. omega (arith, e)) (λ e. omega (arith, e), λ e. omega (arith, e)) (h.none less none);
    some = λ less c is. f c (h.some less c is);
  })

  by_files : (k : Kind) (texts : Texts) (names : List (List ℕ)) (P Q : List (Saying k) → Type 0) → ((said : List (Saying k)) → P said → Q said)
      → IsDecidedByFiles H k texts names s P → IsDecidedByFiles H k texts names z Q
  by_files k texts [] P Q f h = f [] h
  by_files k texts (name ∷ names) P Q f h =
      by_file k (told_text texts name) (λ c. IsDecidedByFiles H k texts names s (λ cs. P (c ∷ cs))) (λ c. IsDecidedByFiles H k texts names z (λ cs. Q (c ∷ cs)))
      (λ c. by_files k texts names (λ cs. P (c ∷ cs)) (λ cs. Q (c ∷ cs)) (λ cs. f (c ∷ cs))) h

  pub decided_by : (job : Job) (texts : Texts) (left : Option (List ℕ)) → IsDecided H R V (Some job) texts left s → IsDecided H R W (Some job) texts left z
  decided_by job texts left h =
      by_files (says job.command) texts (files job.command) (λ said. IsDecidedByInput R V (functions job.command) job (task_of job.command said) left s)
      (λ said. IsDecidedByInput R W (functions job.command) job (task_of job.command said) left z) (λ said. by_input (functions job.command) job (task_of job.command said) left) h
