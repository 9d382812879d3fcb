-- What a task shows, and that want of memory is always a reason for nothing.
use Rattle.std.proofs.Common.{◌≡◌, ℕ, List, None, refl, subst, Err}
use Rattle.reencode_run.specs.declared.answer.ReencodingFault.TheVariants.{NoMemory}
use Rattle.reencode_run.specs.declared.renamers.Renamers.{Renamers}
use Rattle.reencode_run.specs.declared.binary_taken.Taken.{Taken}
use Rattle.reencode_run.specs.declared.task.Task.{Task}
use Rattle.reencode_run.specs.declared.task.Task.TheVariants as task
use Rattle.reencode_run.specs.Reencoded.{IsReencoded}
use Rattle.reencode_run.specs.Report.{Shown}
use Rattle.reencode_run.specs.Tasks.{Does, Reports}
use Rattle.reencode_run.specs.Tools.{stop}
use Rattle.reencode_run.proofs.Outcomes.{plain_of}
use Rattle.reencode_run.proofs.Refusing.{no_memory_merging, no_memory_pruning, no_memory_renumbering}

-- what is shown of an output that was made
pub reports : (k : Taken) (c : ℕ) (rs : Renamers) (bytes : List ℕ) (shown : List ℕ → List (List ℕ) → Shown) (output : List ℕ) (counts : List (List ℕ)) (made : Shown)
    → IsReencoded k c rs bytes output counts → made ≡ shown output counts → Reports k c rs bytes shown made
reports k c rs bytes shown output counts made h told = record {
  output = output;
  counts = counts;
  reencoded = h;
  plain = λ none. plain_of (subst (λ (z : Renamers). IsReencoded k c z bytes output counts) none h);
  told = told;
}

pub wants_memory : (t : Task) (c : ℕ) (bytes : List ℕ) → Does t c bytes (Err (stop NoMemory None))
wants_memory (task.Reencode rs) c bytes = (refl, (tt, λ t given reading all fits. refl))
wants_memory (task.Generate n) c bytes = (refl, (tt, λ t given reading all fits. refl))
wants_memory task.KeepReport c bytes = (refl, (tt, λ t given reading all fits. refl))
wants_memory (task.Renumber order) c bytes = no_memory_renumbering order c bytes
wants_memory task.Prune c bytes = no_memory_pruning c bytes
wants_memory (task.Merge second) c bytes = no_memory_merging second c bytes
