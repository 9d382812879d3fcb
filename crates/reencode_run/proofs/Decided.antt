-- Which status comes: what stands first decides.
use Rattle.std.proofs.Common.{◌≡◌, ℕ, ◌<◌, ◌≤◌, ◌⊎◌, inl, inr, true, false, Bool, Option, Some, None, List, [], ◌∷◌, ◌++◌, length, length-append, refl, sym, ap, ◌∙◌, subst, arith}
use Rattle.std.proofs.lemmas.List.{append-nil}
use Rattle.std.specs.Prelude.{MatchOption}
use Rattle.reencode_run.specs.declared.answer.ReencodingFault.{ReencodingFault}
use Rattle.reencode_run.specs.declared.answer.ReencodingFault.TheVariants as reencoding_fault
use Rattle.reencode_run.specs.declared.task.Task.{Task}
use Rattle.reencode_run.specs.Answer.{AtFile, Ends, EndsFor, FileSays, FilesSay, HasBytes, IsDecided, IsDecidedByBytes, IsDecidedByFile, IsDecidedByFiles, IsDecidedByForm, IsDecidedByInput, IsDecidedByJob, IsDecidedByLeft, IsDecidedByTask, IsMaking, IsTooLong, MadeFor, Outside, SaysNone, StopsFor, TakesFrom, Texts, Uses, Work, fault_status, told_text}
use Rattle.reencode_run.specs.Generated.{generated}
use Rattle.reencode_run.specs.Hexadecimal.{binary, bytes_of}
use Rattle.reencode_run.specs.Outside.{GaveAll, HasText, IsLonger, Rose, TookMore, WhereTold}
use Rattle.reencode_run.specs.Tasks.{Saying, IsSaying, formed, most_of, task_of}
use Rattle.reencode_run.specs.Tools.{stop}
use Rattle.reencode_run.specs.Words.{Job, Kind, of_renaming, of_order, of_module, files, functions, says}
use Rattle.reencode_run.proofs.Reports.{wants_memory}

-- ---- texts that are told

-- a source that is told gave what it told
gave_told : (most : ℕ) (new : Option (List ℕ)) (text told : List ℕ) → GaveAll most (Some told) new text → told ≡ text
gave_told most None text told h = let gave : Some told ≡ None = h.gave in absurd cc
gave_told most (Some rest) text told h =
    let none : [] ≡ rest = cc h.ended in
    let whole : told ≡ text ++ rest = cc h.gave in
    whole ∙ ap (λ (r : List ℕ). text ++ r) (sym none) ∙ append-nil text

not_long : (most : ℕ) (told text : List ℕ) → told ≡ text → length text ≤ most → most < length told → ⊥
not_long most told text e within more = absurd (omega (arith, ap length e))

took_longer : (most : ℕ) (new : Option (List ℕ)) (told : List ℕ) → TookMore most (Some told) new → most < length told
took_longer most None told h = let took : Some told ≡ None = h.2 in absurd cc
took_longer most (Some rest) told h =
    let whole : told ≡ h.0 ++ rest = cc h.2 in
    omega (arith, h.1, ap length whole ∙ length-append h.0 rest)

abbrev Wanted : Texts → List ℕ → List ℕ → Type 0
Wanted texts name text = (t : List ℕ) → told_text texts name ≡ Some t → t ≡ text

has : (texts : Texts) (name text : List ℕ) → HasText texts name text → Wanted texts name text
has None name text h t e = absurd cc
has (Some texts) name text h t e = go (texts name) refl h
  where
    go : (f : Option (List ℕ)) → texts name ≡ f → HasText (Some texts) name text → t ≡ text
    go None is h = absurd (cc (is, e))
    go (Some u) is h = let P : Option (List ℕ) → Type 0 = λ z. WhereTold z (Some text) in
        let same : Some text ≡ Some u = subst P is h in cc

same_saying : (k : Kind) (text t : List ℕ) (c d : Saying k) → t ≡ text → IsSaying k text c → IsSaying k t d → c ≡ d
same_saying of_order text t c d e h j = let j' = subst (λ (z : List ℕ). IsSaying of_order z d) e j in let both : Some c ≡ Some d = sym h.is ∙ j'.is in cc
same_saying (of_module most) text t c d e h j = h ∙ sym (j ∙ e)
same_saying of_renaming text t c d e h j = let j' = subst (λ (z : List ℕ). IsSaying of_renaming z d) e j in let both : Some c ≡ Some d = sym h.is ∙ j'.is in cc

module _ (H R W : Type 0) where
  -- H, R and W are that the shelf, the source and the sink failed

  -- ---- out of memory

  memory_bytes : (t : Task) (c : ℕ) (bytes : List ℕ) → IsDecidedByBytes W t c bytes 1
  memory_bytes t c bytes = inr (stop reencoding_fault.NoMemory None, refl, wants_memory t c bytes)

  memory_task : (t : Option Task) (c : ℕ) (bytes : List ℕ) → IsDecidedByTask W t c bytes 1
  memory_task None c bytes = inr refl
  memory_task (Some t) c bytes = memory_bytes t c bytes

  memory_form : (t : Option Task) (c : ℕ) (form : Option (List ℕ)) → IsDecidedByForm W t c form 1
  memory_form t c None = inr refl
  memory_form t c (Some bytes) = memory_task t c bytes

  memory_left : (job : Job) (t : Task) (left : Option (List ℕ)) → IsDecidedByLeft R W job t left 1
  memory_left job t None = tt
  memory_left job t (Some text) =
      inr (record { long = λ more. inr refl; short = λ less. memory_form (formed job.is_text t) job.ceiling (bytes_of job.is_text text) })

  memory_input : (source : Option ℕ) (job : Job) (t : Task) (left : Option (List ℕ)) → IsDecidedByInput R W source job t left 1
  memory_input None job t left = memory_left job t left
  memory_input (Some n) job t left = memory_task (formed job.is_text t) job.ceiling (generated n)

  memory_file : (k : Kind) (file : Option (List ℕ)) (by : Saying k → Type 0) → ((c : Saying k) → by c) → IsDecidedByFile H k file 1 by
  memory_file k None by all = tt
  memory_file k (Some text) by all = inr (record {
    long = λ more. inr refl;
    none = λ less never. inr refl;
    some = λ less c is. all c;
  })

  memory_files : (k : Kind) (texts : Texts) (names : List (List ℕ)) (by : List (Saying k) → Type 0) → ((said : List (Saying k)) → by said) → IsDecidedByFiles H k texts names 1 by
  memory_files k texts [] by all = all []
  memory_files k texts (name ∷ names) by all =
      memory_file k (told_text texts name) _ (λ c. memory_files k texts names (λ said. by (c ∷ said)) (λ said. all (c ∷ said)))

  -- ---- the input

  -- the task in the form that is asked for decides
  by_formed : (said : Option Task) (t : Task) (c : ℕ) (bytes : List ℕ) (n : ℕ) → said ≡ Some t → IsDecidedByBytes W t c bytes n → IsDecidedByTask W said c bytes n
  by_formed said t c bytes n e d = subst (λ (z : Option Task). IsDecidedByTask W z c bytes n) (sym e) d

  by_bytes : (job : Job) (said t : Task) (old new : Option (List ℕ)) (bytes : List ℕ) (n : ℕ) → HasBytes job.most job.is_text old new bytes → formed job.is_text said ≡ Some t
      → IsDecidedByBytes W t job.ceiling bytes n → IsDecidedByLeft R W job said old n
  by_bytes job said t None new bytes n h f d = tt
  by_bytes job said t (Some told) new bytes n h f d =
      let e = gave_told job.most new h.text told h.gave in
      let form : bytes_of job.is_text told ≡ Some bytes = ap (bytes_of job.is_text) e ∙ h.are in
      inr (record {
        long = λ more. absurd (not_long job.most told h.text e h.gave.within more);
        short = λ less. subst (λ (z : Option (List ℕ)). IsDecidedByForm W (formed job.is_text said) job.ceiling z n) (sym form) (by_formed (formed job.is_text said) t job.ceiling bytes n f d);
      })

  by_takes : (source : Option ℕ) (job : Job) (said t : Task) (old new : Option (List ℕ)) (bytes : List ℕ) (n : ℕ) → TakesFrom source job.most job.is_text old new bytes
      → formed job.is_text said ≡ Some t → IsDecidedByBytes W t job.ceiling bytes n → IsDecidedByInput R W source job said old n
  by_takes None job said t old new bytes n h f d = by_bytes job said t old new bytes n h f d
  by_takes (Some k) job said t old new bytes n h f d =
      subst (λ (b : List ℕ). IsDecidedByTask W (formed job.is_text said) job.ceiling b n) h (by_formed (formed job.is_text said) t job.ceiling bytes n f d)

  long_left : (job : Job) (t : Task) (old new : Option (List ℕ)) → TookMore job.most old new → IsDecidedByLeft R W job t old 13
  long_left job t None new h = tt
  long_left job t (Some told) new h =
      let more = took_longer job.most new told h in
      inr (record { long = λ m. inl refl; short = λ less. absurd (omega (arith, more, less)) })

  -- a text is no hexadecimal text, or what the files say is none
  no_form : (t : Option Task) (c : ℕ) (form : Option (List ℕ)) → (form ≡ None) ⊎ (t ≡ None) → IsDecidedByForm W t c form 14
  no_form t c None h = inl refl
  no_form t c (Some bytes) (inl h) = absurd cc
  no_form t c (Some bytes) (inr h) = subst (λ (z : Option Task). IsDecidedByTask W z c bytes 14) (sym h) (inl refl)

  -- with `-x`
  formless : (is_text : Bool) (told : List ℕ) (t : Task) → is_text ≡ true → (binary told ≡ None) ⊎ (formed true t ≡ None)
      → (bytes_of is_text told ≡ None) ⊎ (formed is_text t ≡ None)
  formless true told t is h = h
  formless false told t is h = absurd cc

  no_digits : (job : Job) (t : Task) (old new : Option (List ℕ)) (text : List ℕ) → job.is_text ≡ true → GaveAll job.most old new text
      → (binary text ≡ None) ⊎ (formed true t ≡ None) → IsDecidedByLeft R W job t old 14
  no_digits job t None new text is gave none = tt
  no_digits job t (Some told) new text is gave none =
      let e = gave_told job.most new text told gave in
      let none' = subst (λ (z : List ℕ). (binary z ≡ None) ⊎ (formed true t ≡ None)) (sym e) none in
      inr (record {
        long = λ more. absurd (not_long job.most told text e gave.within more);
        short = λ less. no_form (formed job.is_text t) job.ceiling (bytes_of job.is_text told) (formless job.is_text told t is none');
      })

  unread : (job : Job) (t : Task) (old : Option (List ℕ)) → R → IsDecidedByLeft R W job t old 3
  unread job t None r = tt
  unread job t (Some told) r = inl (refl, r)

  -- what comes of the source comes for a command that makes no module
  by_left : (job : Job) (t : Task) (old : Option (List ℕ)) (n : ℕ) → ¬ IsMaking job.command → IsDecidedByLeft R W job t old n
      → IsDecidedByInput R W (functions job.command) job t old n
  by_left job t old n never d = go (functions job.command) never
    where
      go : (source : Option ℕ) → (MatchOption source ⊥ (λ k. Unit {0}) → ⊥) → IsDecidedByInput R W source job t old n
      go None reads = d
      go (Some k) reads = absurd (reads tt)

  -- ---- the files

  by_says : (k : Kind) (name : List ℕ) (texts : Texts) (c : Saying k) (n : ℕ) (by : Saying k → Type 0) → FileSays k texts name c → by c
      → (file : Option (List ℕ)) → told_text texts name ≡ file → IsDecidedByFile H k file n by
  by_says k name texts c n by u d None e = tt
  by_says k name texts c n by u d (Some t) e =
      let same : t ≡ u.0 = has texts name u.0 u.1 t e in
      let within : length u.0 ≤ most_of k = u.2 in
      inr (record {
        long = λ more. absurd (not_long (most_of k) t u.0 same within more);
        none = λ less never. absurd (never c (subst (λ (z : List ℕ). IsSaying k z c) (sym same) u.3));
        some = λ less q is. subst by (same_saying k u.0 t c q same u.3 is) d;
      })

  by_uses : (k : Kind) (texts : Texts) (names : List (List ℕ)) (said : List (Saying k)) (n : ℕ) (by : List (Saying k) → Type 0) → FilesSay k texts names said → by said
      → IsDecidedByFiles H k texts names n by
  by_uses k texts [] [] n by f d = d
  by_uses k texts [] (c ∷ said) n by f d = absurd f
  by_uses k texts (name ∷ names) [] n by f d = absurd f
  by_uses k texts (name ∷ names) (c ∷ said) n by f d =
      by_says k name texts c n (λ q. IsDecidedByFiles H k texts names n (λ cs. by (q ∷ cs))) f.0 (by_uses k texts names said n (λ cs. by (c ∷ cs)) f.1 d) (told_text texts name) refl

  bad_file : (k : Kind) (name : List ℕ) (texts : Texts) (by : Saying k → Type 0) → SaysNone k name texts
      → (file : Option (List ℕ)) → told_text texts name ≡ file → IsDecidedByFile H k file 11 by
  bad_file k name texts by h None e = tt
  bad_file k name texts by h (Some t) e =
      let same : t ≡ h.0 = has texts name h.0 h.1 t e in
      let within : length h.0 ≤ most_of k = h.2 in
      inr (record {
        long = λ more. absurd (not_long (most_of k) t h.0 same within more);
        none = λ less n. inl refl;
        some = λ less q is. absurd (h.3 q (subst (λ (z : List ℕ). IsSaying k z q) same is));
      })

  long_file : (k : Kind) (name : List ℕ) (texts : Texts) (by : Saying k → Type 0) → IsLonger texts name (most_of k)
      → (file : Option (List ℕ)) → told_text texts name ≡ file → IsDecidedByFile H k file 13 by
  long_file k name texts by h None e = tt
  long_file k name None by h (Some t) e = absurd cc
  long_file k name (Some texts) by h (Some t) e =
      let same : Some h.0 ≡ Some t = sym h.1 ∙ e in
      let text : h.0 ≡ t = cc in
      let more : most_of k < length t = subst (λ (z : List ℕ). most_of k < length z) text h.2 in
      inr (record {
        long = λ m. inl refl;
        none = λ less n. absurd (omega (arith, more, less));
        some = λ less q is. absurd (omega (arith, more, less));
      })

  unfetched_file : (k : Kind) (file : Option (List ℕ)) (by : Saying k → Type 0) → H → IsDecidedByFile H k file 12 by
  unfetched_file k None by h = tt
  unfetched_file k (Some t) by h = inl (refl, h)

  -- what decides at one of the files, where all before it say what they are to say
  at_file : (k : Kind) (texts : Texts) (names : List (List ℕ)) (n : ℕ) {P : List ℕ → Type 0} (by : List (Saying k) → Type 0)
      → ((name : List ℕ) (later : Saying k → Type 0) → P name → IsDecidedByFile H k (told_text texts name) n later) → AtFile k texts names P → IsDecidedByFiles H k texts names n by
  at_file k texts [] n by here h = absurd h
  at_file k texts (name ∷ names) n by here (inl h) = here name _ h
  at_file k texts (name ∷ names) n by here (inr h) =
      by_says k name texts h.0.0 n (λ q. IsDecidedByFiles H k texts names n (λ cs. by (q ∷ cs))) h.0.1
      (at_file k texts names n (λ said. by (h.0.0 ∷ said)) here h.1) (told_text texts name) refl

  -- ---- the whole

  -- which status comes for a job where its files say this
  abbrev By : (job : Job) → Option (List ℕ) → ℕ → List (Saying (says job.command)) → Type 0
  By job left n said = IsDecidedByInput R W (functions job.command) job (task_of job.command said) left n

  by_task : (job : Job) (texts : Texts) (t : Task) (left : Option (List ℕ)) (n : ℕ) → Uses job.command texts t
      → IsDecidedByInput R W (functions job.command) job t left n → IsDecidedByJob H R W job texts left n
  by_task job texts t left n u d =
      by_uses (says job.command) texts (files job.command) u.0 n (By job left n) u.1
      (subst (λ (z : Task). IsDecidedByInput R W (functions job.command) job z left n) u.2 d)

  by_work : (job : Job) (texts : Texts) (old new : Option (List ℕ)) (n : ℕ) (w : Work job texts old new) → IsDecidedByBytes W w.task job.ceiling w.bytes n
      → IsDecidedByJob H R W job texts old n
  by_work job texts old new n w d =
      by_task job texts w.said old n w.uses (by_takes (functions job.command) job w.said w.task old new w.bytes n w.takes w.is_formed d)

  by_refused : (job : Job) (o : Outside) (fault : ReencodingFault) (by : Option ℕ) → StopsFor job o (stop fault by) → IsDecidedByJob H R W job o.texts o.left_old (fault_status fault)
  by_refused job o fault by h = by_work job o.texts o.left_old o.left_new (fault_status fault) h.work (inr (stop fault by, refl, h.stops))

  by_made : (job : Job) (o : Outside) (n : ℕ) → (n ≡ 0) ⊎ ((n ≡ 4) × W) → MadeFor job o → IsDecidedByJob H R W job o.texts o.left_old n
  by_made job o n s made = by_work job o.texts o.left_old o.left_new n made.work (inl (s, (made.shown, made.does)))

  at_file_of : (job : Job) (o : Outside) (n : ℕ) {P : List ℕ → Type 0}
      → ((name : List ℕ) (later : Saying (says job.command) → Type 0) → P name → IsDecidedByFile H (says job.command) (told_text o.texts name) n later)
      → AtFile (says job.command) o.texts (files job.command) P → IsDecidedByJob H R W job o.texts o.left_old n
  at_file_of job o n here h = at_file (says job.command) o.texts (files job.command) n (By job o.left_old n) here h

  by_too_long : (job : Job) (o : Outside) (U : Type 0) → IsTooLong job.command job.most o.texts o.left_old o.left_new U → IsDecidedByJob H R W job o.texts o.left_old 13
  by_too_long job o U (inl h) = at_file_of job o 13 (λ name by long. long_file (says job.command) name o.texts by long (told_text o.texts name) refl) h.0
  by_too_long job o U (inr h) =
      by_task job o.texts h.1.0 o.left_old 13 h.1.1 (by_left job h.1.0 o.left_old 13 h.0 (long_left job h.1.0 o.left_old o.left_new h.2))

  -- which status comes where these follow of what failed
  pub decided_job : (job : Job) (o : Outside) {U : Type 0} {n : ℕ} {t : List ℕ} → (Rose o.shelf_faults_old o.shelf_faults_new → H)
      → (Rose o.read_faults_old o.read_faults_new → R) → (Rose o.write_faults_old o.write_faults_new → W) → Ends job o U n t → IsDecidedByJob H R W job o.texts o.left_old n
  decided_job job o f r w (Ends.printed made told) = by_made job o 0 (inl refl) made
  decided_job job o f r w Ends.no_memory =
      memory_files (says job.command) o.texts (files job.command) (By job o.left_old 1) (λ said. memory_input (functions job.command) job (task_of job.command said) o.left_old)
  decided_job job o f r w (Ends.read_fault h) =
      by_task job o.texts h.1.0 o.left_old 3 h.1.1 (by_left job h.1.0 o.left_old 3 h.0 (unread job h.1.0 o.left_old (r h.2)))
  decided_job job o f r w (Ends.write_fault made took rose) = by_made job o 4 (inr (refl, w rose)) made
  decided_job job o f r w (Ends.parse_error at by h) = by_refused job o (reencoding_fault.ParseError at) by h
  decided_job job o f r w (Ends.refused u by h) = by_refused job o (reencoding_fault.Refused u) by h
  decided_job job o f r w (Ends.code_size by h) = by_refused job o reencoding_fault.CodeSectionSize by h
  decided_job job o f r w (Ends.component by h) = by_refused job o reencoding_fault.NonCoreModule by h
  decided_job job o f r w (Ends.core_module by h) = by_refused job o reencoding_fault.NonComponent by h
  decided_job job o f r w (Ends.too_large size ceiling by h) = by_refused job o (reencoding_fault.TooLarge size ceiling) by h
  decided_job job o f r w (Ends.uneven stated rows by h) = by_refused job o (reencoding_fault.Uneven stated rows) by h
  decided_job job o f r w (Ends.repeated id by h) = by_refused job o (reencoding_fault.Repeated id) by h
  decided_job job o f r w (Ends.not_an_order place by h) = by_refused job o (reencoding_fault.NotAnOrder place) by h
  decided_job job o f r w (Ends.dangling space index by h) = by_refused job o (reencoding_fault.Dangling space index) by h
  decided_job job o f r w (Ends.clash name by h) = by_refused job o (reencoding_fault.Clash name) by h
  decided_job job o f r w (Ends.two_starts by h) = by_refused job o reencoding_fault.TwoStarts by h
  decided_job job o f r w (Ends.bad_file h u) = at_file_of job o 11 (λ name by none. bad_file (says job.command) name o.texts by none (told_text o.texts name) refl) h
  decided_job job o f r w (Ends.unfetched h u) = at_file_of job o 12 (λ name by rose. unfetched_file (says job.command) (told_text o.texts name) by (f rose)) h
  decided_job job o {U} f r w (Ends.too_long h) = by_too_long job o U h
  decided_job job o f r w (Ends.no_digits h) =
      by_task job o.texts h.said o.left_old 14 h.uses
      (by_left job h.said o.left_old 14 h.reads (no_digits job h.said o.left_old o.left_new h.text h.asked h.gave h.none))

pub decided_of : (n : ℕ) (t : List ℕ) (j : Option Job) (o : Outside) (U F : Type 0) → EndsFor j o U F n t
    → IsDecided (Rose o.shelf_faults_old o.shelf_faults_new) (Rose o.read_faults_old o.read_faults_new) (Rose o.write_faults_old o.write_faults_new) j o.texts o.left_old n
decided_of n t None o U F h = h.0
decided_of n t (Some job) o U F h =
    decided_job (Rose o.shelf_faults_old o.shelf_faults_new) (Rose o.read_faults_old o.read_faults_new) (Rose o.write_faults_old o.write_faults_new) job o
    (λ rose. rose) (λ rose. rose) (λ rose. rose) h
