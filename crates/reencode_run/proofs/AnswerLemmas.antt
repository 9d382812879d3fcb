-- How each stage ends the program, and what a status says of how it ended.
use Rattle.std.proofs.Common.{◌≡◌, ◌≢◌, ℕ, ◌≤◌, ◌⊎◌, inl, inr, true, Bool, Option, Some, None, Result, Err, List, [], ◌∷◌, ◌++◌, codes, decimal, refl, sym, ap, ◌∙◌, subst, arith, lit<}
use Rattle.std.specs.Prelude.{Contains, MatchOption, zero, suc}
use Rattle.reencode_hooks.specs.Renamings.{Renaming}
use Rattle.reencode_run.specs.declared.answer.Answer.{Answer}
use Rattle.reencode_run.specs.declared.answer.Answer.TheVariants.{File, Input, Digits, Reencoding}
use Rattle.reencode_run.specs.declared.answer.FileFault.{FileFault}
use Rattle.reencode_run.specs.declared.answer.FileFault.TheVariants as file_fault
use Rattle.reencode_run.specs.declared.input.InputFault.{InputFault}
use Rattle.reencode_run.specs.declared.input.InputFault.TheVariants as input_fault
use Rattle.reencode_run.specs.declared.hexadecimal.TextFault.{TextFault}
use Rattle.reencode_run.specs.declared.hexadecimal.TextFault.TheVariants as digits_fault
use Rattle.wasm_shapes.specs.declared.Space.{Space}
use Rattle.wasm_shapes.specs.Names.{space_name}
use Rattle.reencode_run.specs.declared.answer.ReencodingFault.{ReencodingFault}
use Rattle.reencode_run.specs.declared.answer.ReencodingFault.TheVariants as reencoding_fault
use Rattle.reencode_run.specs.declared.renamers.Refusal.{Refusal}
use Rattle.reencode_run.specs.declared.renamers.Renamers.TheVariants.{Both}
use Rattle.reencode_run.specs.declared.task.Task.{Task}
use Rattle.reencode_run.specs.declared.task.Task.TheVariants as task
use Rattle.reencode_run.specs.Answer.{AtFile, AtPlace, Ends, EndsFor, ForJob, FileSays, HasBytes, HasNoDigits, IsBadFile, IsTooLong, IsUnfetched, IsUnread, MadeFor, Outside, RefusesDigits, RefusesFile, RefusesFrom, RefusesInput, RefusesTask, Says, StopsFor, StopsWith, Takes, TakesFrom, Texts, Uses, by_text, message, report_of, status_of, text_of}
use Rattle.reencode_run.specs.Outside.{Rose, GaveAll, TookFront, TookMore, WhereTold, followed}
use Rattle.reencode_run.specs.Hexadecimal.{binary}
use Rattle.reencode_run.specs.Renamers.{refusal_text}
use Rattle.reencode_run.specs.Tasks.{formed, strictly}
use Rattle.reencode_run.specs.Tools.{stop}
use Rattle.reencode_run.specs.Words.{Command, Job, Kind, of_renaming, files, functions, says, plain, rename, twice, generate, keep_report, renumber, prune, merge}

-- ---- the stages

-- where the shelf and the source stood and stand, and the sink however it does
abbrev pub before_output : Texts → (a b : ℕ) (left_old left_new : Option (List ℕ)) (r s : ℕ) (held_old held_new : Option (List ℕ)) (w x : ℕ) → Outside
before_output texts a b left_old left_new r s held_old held_new w x = record {
  texts = texts;
  shelf_faults_old = a;
  shelf_faults_new = b;
  left_old = left_old;
  left_new = left_new;
  read_faults_old = r;
  read_faults_new = s;
  held_old = held_old;
  held_new = held_new;
  write_faults_old = w;
  write_faults_new = x;
}

pub input_refused : {T : Type 0} (fault : InputFault) (most a b : ℕ) (old new : Option (List ℕ)) → (◌≡◌ {A = Result T InputFault} (Err fault) (Err input_fault.Failed) → Rose a b)
    → (◌≡◌ {A = Result T InputFault} (Err fault) (Err input_fault.TooLong) → TookMore most old new) → RefusesInput most a b old new fault
input_refused input_fault.Failed most a b old new failed long = failed refl
input_refused input_fault.TooLong most a b old new failed long = long refl
input_refused input_fault.NoMemory most a b old new failed long = tt

pub digits_refused : {T : Type 0} (fault : TextFault) (most : ℕ) (is_text : Bool) (text : List ℕ) (old new : Option (List ℕ)) → is_text ≡ true → GaveAll most old new text
    → (◌≡◌ {A = Result T TextFault} (Err fault) (Err digits_fault.NotHexadecimal) → binary text ≡ None) → RefusesDigits most is_text old new fault
digits_refused digits_fault.NotHexadecimal most is_text text old new is gave refused = (is, (text, gave, refused refl))
digits_refused digits_fault.NoMemory most is_text text old new is gave refused = tt

rose_from : (a b c : ℕ) → a ≤ b → Rose b c → Rose a c
rose_from a b c le (inl h) = inl (omega (arith, le, h))
rose_from a b c le (inr h) = inr h

-- what a later call of the shelf refuses counts from before an earlier one
refused_from : (k : Kind) (name : List ℕ) (texts : Texts) (a b c : ℕ) (fault : FileFault) → a ≤ b → RefusesFile k name texts b c fault → RefusesFile k name texts a c fault
refused_from k name texts a b c file_fault.Failed le h = rose_from a b c le h
refused_from k name texts a b c file_fault.TooLong le h = h
refused_from k name texts a b c file_fault.Bad le h = h
refused_from k name texts a b c file_fault.NoMemory le h = tt

-- the second of two files says nothing
pub second_refused : (strict : Bool) (first second : List ℕ) (old mid : Texts) (a b c : ℕ) (r : Renaming) (fault : FileFault) → mid ≡ old → a ≤ b → FileSays of_renaming old first r
    → RefusesFile of_renaming second mid b c fault → RefusesTask (twice strict first second) old a c fault 1
second_refused strict first second old mid a b c r fault same le says h =
    ((r, says), refused_from of_renaming second old a b c fault le (subst (λ (t : Texts). RefusesFile of_renaming second t b c fault) same h))

-- two renamings, as they are asked for
pub both_strictly : (strict : Bool) (r s : Renaming) {p q : Renaming} → p ≡ strictly strict r → q ≡ strictly strict s
    → task.Reencode (Both (record { a = p; b = q })) ≡ task.Reencode (Both (record { a = strictly strict r; b = strictly strict s }))
both_strictly strict r s {p} {q} e f =
    ap (λ (z : Renaming). task.Reencode (Both (record { a = z; b = q }))) e ∙ ap (λ (z : Renaming). task.Reencode (Both (record { a = strictly strict r; b = z }))) f

-- what holds of the file at a place holds of a file
at_file : (k : Kind) (texts : Texts) (names : List (List ℕ)) (place : ℕ) (P : List ℕ → Type 0) → AtPlace k texts names place P → AtFile k texts names P
at_file k texts [] place P h = h
at_file k texts (name ∷ names) zero P h = inl h
at_file k texts (name ∷ names) (suc place) P h = inr (h.0, at_file k texts names place P h.1)

module _ (job : Job) (o : Outside) (U : Type 0) where
  -- how an answer ends the program
  abbrev pub Stopped : Answer → Type 0
  Stopped answer = Ends job o U (status_of answer) (text_of answer)

  pub by_file : (fault : FileFault) (place : ℕ) → RefusesTask job.command o.texts o.shelf_faults_old o.shelf_faults_new fault place → U → Stopped (File fault place)
  by_file file_fault.Failed place h u = Ends.unfetched (at_file (says job.command) o.texts (files job.command) place _ h) u
  by_file file_fault.TooLong place h u = Ends.too_long (inl (at_file (says job.command) o.texts (files job.command) place _ h, u))
  by_file file_fault.Bad place h u = Ends.bad_file (at_file (says job.command) o.texts (files job.command) place _ h) u
  by_file file_fault.NoMemory place h u = Ends.no_memory

  reads : (source : Option ℕ) → source ≡ None → MatchOption source ⊥ (λ n. Unit {0}) → ⊥
  reads None e h = h
  reads (Some n) e h = cc

  by_input : (t : Task) → Uses job.command o.texts t → functions job.command ≡ None → (fault : InputFault)
      → RefusesInput job.most o.read_faults_old o.read_faults_new o.left_old o.left_new fault → Stopped (Input fault)
  by_input t uses e input_fault.Failed h = Ends.read_fault (reads (functions job.command) e, (t, uses), h)
  by_input t uses e input_fault.TooLong h = Ends.too_long (inr (reads (functions job.command) e, (t, uses), h))
  by_input t uses e input_fault.NoMemory h = Ends.no_memory

  by_digits : (t : Task) → Uses job.command o.texts t → functions job.command ≡ None → (fault : TextFault)
      → RefusesDigits job.most job.is_text o.left_old o.left_new fault → Stopped (Digits fault)
  by_digits t uses e digits_fault.NotHexadecimal h = Ends.no_digits (record {
    reads = reads (functions job.command) e;
    asked = h.0;
    said = t;
    uses = uses;
    text = h.1.0;
    gave = h.1.1;
    none = inl h.1.2;
  })
  by_digits t uses e digits_fault.NoMemory h = Ends.no_memory

  pub by_source : (t : Task) → Uses job.command o.texts t → (source : Option ℕ) → functions job.command ≡ source → (answer : Answer)
      → RefusesFrom source job.most job.is_text o.read_faults_old o.read_faults_new o.left_old o.left_new answer → Stopped answer
  by_source t uses None e (Input fault) h = by_input t uses e fault h
  by_source t uses None e (Digits fault) h = by_digits t uses e fault h
  by_source t uses None e _ h = absurd h
  by_source t uses (Some n) e answer h = subst Stopped (sym h) Ends.no_memory

  -- a command whose file has a module makes none of its own
  reads_form : (command : Command) (t : Task) → command ≡ job.command → Uses command o.texts t → formed true t ≡ None → functions command ≡ None
  reads_form plain t same uses none = refl
  reads_form (rename strict name) t same uses none = refl
  reads_form (twice strict first second) t same uses none = refl
  reads_form (generate n) t same uses none =
      let is = subst (λ (z : Task). formed true z ≡ None) uses.2 none in absurd cc
  reads_form keep_report t same uses none = refl
  reads_form (renumber name) t same uses none = refl
  reads_form prune t same uses none = refl
  reads_form (merge most name) t same uses none = refl

  given : (source : Option ℕ) (most : ℕ) (is_text : Bool) (old new : Option (List ℕ)) (bytes : List ℕ) → source ≡ None → TakesFrom source most is_text old new bytes
      → HasBytes most is_text old new bytes
  given None most is_text old new bytes e h = h
  given (Some n) most is_text old new bytes e h = absurd cc

  -- the module that a file has is not in the form that is asked for
  pub by_form : (t : Task) → Uses job.command o.texts t → (bytes : List ℕ) → Takes job.command job.most job.is_text o.left_old o.left_new bytes → (fault : TextFault)
      → (fault ≡ digits_fault.NotHexadecimal → (job.is_text ≡ true) × (formed true t ≡ None)) → Stopped (Digits fault)
  by_form t uses bytes takes digits_fault.NotHexadecimal h =
      let p = h refl in
      let none = reads_form job.command t refl uses p.1 in
      let has = given (functions job.command) job.most job.is_text o.left_old o.left_new bytes none takes in
      Ends.no_digits (record {
        reads = reads (functions job.command) none;
        asked = p.0;
        said = t;
        uses = uses;
        text = has.text;
        gave = has.gave;
        none = inr p.1;
      })
  by_form t uses bytes takes digits_fault.NoMemory h = Ends.no_memory

  pub by_reencoding : (fault : ReencodingFault) (by : Option ℕ) → StopsFor job o (stop fault by) → Stopped (Reencoding (stop fault by))
  by_reencoding (reencoding_fault.ParseError at) by h = Ends.parse_error at by h
  by_reencoding (reencoding_fault.Refused u) by h = Ends.refused u by h
  by_reencoding reencoding_fault.CodeSectionSize by h = Ends.code_size by h
  by_reencoding reencoding_fault.NonCoreModule by h = Ends.component by h
  by_reencoding reencoding_fault.NonComponent by h = Ends.core_module by h
  by_reencoding (reencoding_fault.TooLarge size ceiling) by h = Ends.too_large size ceiling by h
  by_reencoding (reencoding_fault.Uneven stated rows) by h = Ends.uneven stated rows by h
  by_reencoding (reencoding_fault.Repeated id) by h = Ends.repeated id by h
  by_reencoding (reencoding_fault.NotAnOrder place) by h = Ends.not_an_order place by h
  by_reencoding (reencoding_fault.Dangling space index) by h = Ends.dangling space index by h
  by_reencoding (reencoding_fault.Clash name) by h = Ends.clash name by h
  by_reencoding reencoding_fault.TwoStarts by h = Ends.two_starts by h
  by_reencoding reencoding_fault.NoMemory by h = Ends.no_memory

-- ---- what each status says

-- the end with a status that is that of the answer
pub at_status : (answer : Answer) (j : Option Job) (o : Outside) (U F : Type 0) (status n : ℕ) → status ≡ status_of answer → status ≡ n
    → EndsFor j o U F (status_of answer) (text_of answer) → EndsFor j o U F n (text_of answer)
at_status answer j o U F status n s e h = subst (λ (k : ℕ). EndsFor j o U F k (text_of answer)) (sym s ∙ e) h

pub not_zero : (a status n : ℕ) → status ≡ a → status ≡ n → (n ≡ 0 → ⊥) → a ≡ 0 → ⊥
not_zero a status n s e other none = other (sym e ∙ s ∙ none)

-- what a status other than 2 says
pub for_any : (n : ℕ) (t : List ℕ) (j : Option Job) (o : Outside) (U F P : Type 0) → (n ≡ 2 → ⊥) → EndsFor j o U F n t → ((job : Job) → Ends job o U n t → P) → P
for_any n t None o U F P other h f = absurd (other h.0)
for_any n t (Some job) o U F P other h f = f job h

pub for_job : (n : ℕ) (t : List ℕ) (j : Option Job) (o : Outside) (U F : Type 0) (P : Job → Type 0) → (n ≡ 2 → ⊥) → EndsFor j o U F n t
    → ((job : Job) → Ends job o U n t → P job) → ForJob j P
for_job n t None o U F P other h f = absurd (other h.0)
for_job n t (Some job) o U F P other h f = f job h

pub of_usage : (t : List ℕ) (j : Option Job) (o : Outside) (U F : Type 0) → EndsFor j o U F 2 t → (j ≡ None) × U × F
of_usage t None o U F h = (refl, h.2, h.3)
of_usage t (Some job) o U F h = elim h [ ]

-- without a job the status is 2
pub usage_of : (n : ℕ) (t : List ℕ) (j : Option Job) (o : Outside) (U F : Type 0) → EndsFor j o U F n t → j ≡ None → n ≡ 2
usage_of n t None o U F h e = h.0
usage_of n t (Some job) o U F h e = absurd cc

-- the text of an end is said as another that it is
pub said : (faults_old faults_new : ℕ) (held_old held_new : Option (List ℕ)) (t u : List ℕ) → t ≡ u → Says faults_old faults_new held_old held_new (t ++ codes "\n")
    → Says faults_old faults_new held_old held_new (u ++ codes "\n")
said faults_old faults_new held_old held_new t u e h = subst (λ (z : List ℕ). Says faults_old faults_new held_old held_new (z ++ codes "\n")) e h

pub of_printed : {job : Job} {o : Outside} {U : Type 0} {t : List ℕ} → Ends job o U 0 t → (made : MadeFor job o) × WhereTold o.held_new (followed o.held_old (report_of made))
of_printed (Ends.printed made told) = (made, told)

-- what ends however the sink stands was not printed
pub never_printed : {job : Job} {texts : Texts} {a b : ℕ} {left_old left_new : Option (List ℕ)} {r s w x : ℕ} {U : Type 0} {n : ℕ} {t : List ℕ}
    → Ends job (before_output texts a b left_old left_new r s (Some (0 ∷ [])) (Some []) w x) U n t → n ≢ 0
never_printed {job} {texts} {a} {b} {left_old} {left_new} {r} {s} {w} {x} {U} {n} {t} h e =
    let o = before_output texts a b left_old left_new r s (Some (0 ∷ [])) (Some []) w x in
    let p = of_printed (subst (λ (k : ℕ). Ends job o U k t) e h) in
    let told : Some (0 ∷ report_of p.0) ≡ Some [] = p.1 in
    absurd cc

pub of_read_fault : {job : Job} {o : Outside} {U : Type 0} {t : List ℕ} → Ends job o U 3 t → IsUnread job.command o.texts o.read_faults_old o.read_faults_new
of_read_fault (Ends.read_fault h) = h

pub of_write_fault : {job : Job} {o : Outside} {U : Type 0} {t : List ℕ} → Ends job o U 4 t → (made : MadeFor job o) × TookFront o.held_old o.held_new (report_of made)
of_write_fault (Ends.write_fault made took rose) = (made, took)

pub unwritten : {job : Job} {o : Outside} {U : Type 0} {t : List ℕ} → Ends job o U 4 t → Rose o.write_faults_old o.write_faults_new
unwritten (Ends.write_fault made took rose) = rose

pub of_bad_file : {job : Job} {o : Outside} {U : Type 0} {t : List ℕ} → Ends job o U 11 t → IsBadFile job.command o.texts × U
of_bad_file (Ends.bad_file h u) = (h, u)

pub of_unfetched : {job : Job} {o : Outside} {U : Type 0} {t : List ℕ} → Ends job o U 12 t → IsUnfetched job.command o.texts o.shelf_faults_old o.shelf_faults_new × U
of_unfetched (Ends.unfetched h u) = (h, u)

pub of_too_long : {job : Job} {o : Outside} {U : Type 0} {t : List ℕ} → Ends job o U 13 t → IsTooLong job.command job.most o.texts o.left_old o.left_new U
of_too_long (Ends.too_long h) = h

pub of_no_digits : {job : Job} {o : Outside} {U : Type 0} {t : List ℕ} → Ends job o U 14 t → HasNoDigits job o.texts o.left_old o.left_new
of_no_digits (Ends.no_digits h) = h

-- of what a command makes nothing of also the text
pub of_parse_error : (t : List ℕ) (j : Option Job) (o : Outside) (U F : Type 0) → EndsFor j o U F 5 t
    → (at : ℕ) × (by : Option ℕ) × StopsWith j o.texts o.left_old o.left_new (stop (reencoding_fault.ParseError at) by) × (t ≡ codes "parse error at " ++ decimal at ++ by_text by)
of_parse_error t None o U F h = absurd (omega (arith, h.0))
of_parse_error t (Some job) o U F (Ends.parse_error at by h) = (at, by, h, refl)

pub of_refused : (t : List ℕ) (j : Option Job) (o : Outside) (U F : Type 0) → EndsFor j o U F 6 t
    → (u : Refusal) × (by : Option ℕ) × StopsWith j o.texts o.left_old o.left_new (stop (reencoding_fault.Refused u) by) × (t ≡ refusal_text u ++ by_text by)
of_refused t None o U F h = absurd (omega (arith, h.0))
of_refused t (Some job) o U F (Ends.refused u by h) = (u, by, h, refl)

pub of_code_size : (t : List ℕ) (j : Option Job) (o : Outside) (U F : Type 0) → EndsFor j o U F 7 t
    → (by : Option ℕ) × StopsWith j o.texts o.left_old o.left_new (stop reencoding_fault.CodeSectionSize by) × (t ≡ message 7 ++ by_text by)
of_code_size t None o U F h = absurd (omega (arith, h.0))
of_code_size t (Some job) o U F (Ends.code_size by h) = (by, h, refl)

pub of_component : (t : List ℕ) (j : Option Job) (o : Outside) (U F : Type 0) → EndsFor j o U F 8 t
    → (by : Option ℕ) × StopsWith j o.texts o.left_old o.left_new (stop reencoding_fault.NonCoreModule by) × (t ≡ message 8 ++ by_text by)
of_component t None o U F h = absurd (omega (arith, h.0))
of_component t (Some job) o U F (Ends.component by h) = (by, h, refl)

pub of_core_module : (t : List ℕ) (j : Option Job) (o : Outside) (U F : Type 0) → EndsFor j o U F 9 t
    → (by : Option ℕ) × StopsWith j o.texts o.left_old o.left_new (stop reencoding_fault.NonComponent by) × (t ≡ message 9 ++ by_text by)
of_core_module t None o U F h = absurd (omega (arith, h.0))
of_core_module t (Some job) o U F (Ends.core_module by h) = (by, h, refl)

pub of_too_large : (t : List ℕ) (j : Option Job) (o : Outside) (U F : Type 0) → EndsFor j o U F 10 t
    → (size : ℕ) × (ceiling : ℕ) × (by : Option ℕ) × StopsWith j o.texts o.left_old o.left_new (stop (reencoding_fault.TooLarge size ceiling) by) × (t ≡ codes "too large: " ++ decimal size ++ codes " over " ++ decimal ceiling ++ by_text by)
of_too_large t None o U F h = absurd (omega (arith, h.0))
of_too_large t (Some job) o U F (Ends.too_large size ceiling by h) = (size, ceiling, by, h, refl)

pub of_uneven : (t : List ℕ) (j : Option Job) (o : Outside) (U F : Type 0) → EndsFor j o U F 15 t
    → (stated : ℕ) × (rows : ℕ) × (by : Option ℕ) × StopsWith j o.texts o.left_old o.left_new (stop (reencoding_fault.Uneven stated rows) by) × (t ≡ codes "uneven: " ++ decimal stated ++ codes " and " ++ decimal rows ++ by_text by)
of_uneven t None o U F h = absurd (omega (arith, h.0))
of_uneven t (Some job) o U F (Ends.uneven stated rows by h) = (stated, rows, by, h, refl)

pub of_repeated : (t : List ℕ) (j : Option Job) (o : Outside) (U F : Type 0) → EndsFor j o U F 16 t
    → (id : ℕ) × (by : Option ℕ) × StopsWith j o.texts o.left_old o.left_new (stop (reencoding_fault.Repeated id) by) × (t ≡ codes "repeated section " ++ decimal id ++ by_text by)
of_repeated t None o U F h = absurd (omega (arith, h.0))
of_repeated t (Some job) o U F (Ends.repeated id by h) = (id, by, h, refl)

pub of_not_an_order : (t : List ℕ) (j : Option Job) (o : Outside) (U F : Type 0) → EndsFor j o U F 17 t
    → (place : ℕ) × (by : Option ℕ) × StopsWith j o.texts o.left_old o.left_new (stop (reencoding_fault.NotAnOrder place) by) × (t ≡ codes "not an order at " ++ decimal place ++ by_text by)
of_not_an_order t None o U F h = absurd (omega (arith, h.0))
of_not_an_order t (Some job) o U F (Ends.not_an_order place by h) = (place, by, h, refl)

pub of_dangling : (t : List ℕ) (j : Option Job) (o : Outside) (U F : Type 0) → EndsFor j o U F 18 t
    → (space : Space) × (index : ℕ) × (by : Option ℕ) × StopsWith j o.texts o.left_old o.left_new (stop (reencoding_fault.Dangling space index) by) × (t ≡ codes "dangling " ++ space_name space ++ codes " " ++ decimal index ++ by_text by)
of_dangling t None o U F h = absurd (omega (arith, h.0))
of_dangling t (Some job) o U F (Ends.dangling space index by h) = (space, index, by, h, refl)

pub of_clash : (t : List ℕ) (j : Option Job) (o : Outside) (U F : Type 0) → EndsFor j o U F 19 t
    → (name : List ℕ) × (by : Option ℕ) × StopsWith j o.texts o.left_old o.left_new (stop (reencoding_fault.Clash name) by) × (t ≡ codes "export clash " ++ name ++ by_text by)
of_clash t None o U F h = absurd (omega (arith, h.0))
of_clash t (Some job) o U F (Ends.clash name by h) = (name, by, h, refl)

pub of_two_starts : (t : List ℕ) (j : Option Job) (o : Outside) (U F : Type 0) → EndsFor j o U F 20 t
    → (by : Option ℕ) × StopsWith j o.texts o.left_old o.left_new (stop reencoding_fault.TwoStarts by) × (t ≡ message 20 ++ by_text by)
of_two_starts t None o U F h = absurd (omega (arith, h.0))
of_two_starts t (Some job) o U F (Ends.two_starts by h) = (by, h, refl)

-- what is said of a file without its name holds where it holds of one
at_some : (k : Kind) (texts : Texts) (names : List (List ℕ)) {P : Type 0} → AtFile k texts names (λ name. P) → P
at_some k texts [] h = absurd h
at_some k texts (name ∷ names) (inl h) = h
at_some k texts (name ∷ names) (inr h) = at_some k texts names h.1

pub unfetched_rose : {job : Job} {o : Outside} {U : Type 0} {t : List ℕ} → Ends job o U 12 t → Rose o.shelf_faults_old o.shelf_faults_new
unfetched_rose {job} {o} (Ends.unfetched h u) = at_some (says job.command) o.texts (files job.command) h

-- ---- the statuses and their texts

-- the statuses that have one message each
abbrev HasOne : ℕ → Type 0
HasOne n = (n ≤ 4) ⊎ ((11 ≤ n) × (n ≤ 14))

has_none : (n : ℕ) → ((5 ≤ n) × (n ≤ 10)) ⊎ (15 ≤ n) → HasOne n → ⊥
has_none n (inl h) (inl k) = omega (arith, h.0, k)
has_none n (inl h) (inr k) = omega (arith, h.1, k.0)
has_none n (inr h) (inl k) = omega (arith, h, k)
has_none n (inr h) (inr k) = omega (arith, h, k.1)

job_message : {job : Job} {o : Outside} {U : Type 0} {n : ℕ} {t : List ℕ} → Ends job o U n t → n ≢ 0 → HasOne n → t ≡ message n
job_message (Ends.printed made told) z one = absurd (z refl)
job_message Ends.no_memory z one = refl
job_message (Ends.read_fault h) z one = refl
job_message (Ends.write_fault made took rose) z one = refl
job_message (Ends.parse_error at by h) z one = absurd (has_none 5 (inl (omega arith, omega arith)) one)
job_message (Ends.refused u by h) z one = absurd (has_none 6 (inl (omega arith, omega arith)) one)
job_message (Ends.code_size by h) z one = absurd (has_none 7 (inl (omega arith, omega arith)) one)
job_message (Ends.component by h) z one = absurd (has_none 8 (inl (omega arith, omega arith)) one)
job_message (Ends.core_module by h) z one = absurd (has_none 9 (inl (omega arith, omega arith)) one)
job_message (Ends.too_large size ceiling by h) z one = absurd (has_none 10 (inl (omega arith, omega arith)) one)
job_message (Ends.uneven stated rows by h) z one = absurd (has_none 15 (inr (omega arith)) one)
job_message (Ends.repeated id by h) z one = absurd (has_none 16 (inr (omega arith)) one)
job_message (Ends.not_an_order place by h) z one = absurd (has_none 17 (inr (omega arith)) one)
job_message (Ends.dangling space index by h) z one = absurd (has_none 18 (inr (omega arith)) one)
job_message (Ends.clash name by h) z one = absurd (has_none 19 (inr (omega arith)) one)
job_message (Ends.two_starts by h) z one = absurd (has_none 20 (inr (omega arith)) one)
job_message (Ends.bad_file h u) z one = refl
job_message (Ends.unfetched h u) z one = refl
job_message (Ends.too_long h) z one = refl
job_message (Ends.no_digits h) z one = refl

pub message_of : (n : ℕ) (t : List ℕ) (j : Option Job) (o : Outside) (U F : Type 0) → EndsFor j o U F n t → n ≢ 0 → (n ≤ 4) ⊎ ((11 ≤ n) × (n ≤ 14)) → t ≡ message n
message_of n t None o U F h z one = h.1 ∙ ap message (sym h.0)
message_of n t (Some job) o U F h z one = job_message h z one

abbrev pub IsStatus : ℕ → Type 0
IsStatus n = Contains (0 ∷ 1 ∷ 2 ∷ 3 ∷ 4 ∷ 5 ∷ 6 ∷ 7 ∷ 8 ∷ 9 ∷ 10 ∷ 11 ∷ 12 ∷ 13 ∷ 14 ∷ 15 ∷ 16 ∷ 17 ∷ 18 ∷ 19 ∷ 20 ∷ []) n

job_status : {job : Job} {o : Outside} {U : Type 0} {n : ℕ} {t : List ℕ} → Ends job o U n t → IsStatus n
job_status (Ends.printed made told) = (0, lit< tt, refl)
job_status Ends.no_memory = (1, lit< tt, refl)
job_status (Ends.read_fault h) = (3, lit< tt, refl)
job_status (Ends.write_fault made took rose) = (4, lit< tt, refl)
job_status (Ends.parse_error at by h) = (5, lit< tt, refl)
job_status (Ends.refused u by h) = (6, lit< tt, refl)
job_status (Ends.code_size by h) = (7, lit< tt, refl)
job_status (Ends.component by h) = (8, lit< tt, refl)
job_status (Ends.core_module by h) = (9, lit< tt, refl)
job_status (Ends.too_large size ceiling by h) = (10, lit< tt, refl)
job_status (Ends.uneven stated rows by h) = (15, lit< tt, refl)
job_status (Ends.repeated id by h) = (16, lit< tt, refl)
job_status (Ends.not_an_order place by h) = (17, lit< tt, refl)
job_status (Ends.dangling space index by h) = (18, lit< tt, refl)
job_status (Ends.clash name by h) = (19, lit< tt, refl)
job_status (Ends.two_starts by h) = (20, lit< tt, refl)
job_status (Ends.bad_file h u) = (11, lit< tt, refl)
job_status (Ends.unfetched h u) = (12, lit< tt, refl)
job_status (Ends.too_long h) = (13, lit< tt, refl)
job_status (Ends.no_digits h) = (14, lit< tt, refl)

pub status_among : (n : ℕ) (t : List ℕ) (j : Option Job) (o : Outside) (U F : Type 0) → EndsFor j o U F n t → IsStatus n
status_among n t None o U F h = subst IsStatus (sym h.0) (2, lit< tt, refl)
status_among n t (Some job) o U F h = job_status h
