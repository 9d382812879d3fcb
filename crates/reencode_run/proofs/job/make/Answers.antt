use Rattle.std.proofs.Common.{◌≡◌, List, ℕ, Ok, Err, option_map, refl, ap, subst}
use Rattle.reencode_run.specs.Answer.{Ends}
use Rattle.reencode_run.specs.Report.{shown}
use Rattle.reencode_run.specs.Tasks.{Does}
use Rattle.reencode_run.specs.Words.{command_seen, functions, job_seen}
use Rattle.reencode_run.proofs.AnswerLemmas.{before_output, by_file, by_form, by_reencoding, by_source}
use Rattle.reencode_run.proofs.job.make.Goals as goal

pub returns-in-Err-clause-stops : goal.returns-in-Err-clause-stops
returns-in-Err-clause-stops g c held_old held_new w x =
    by_file (job_seen c.args.job) (before_output _ _ _ _ _ _ _ held_old held_new w x) (c.args.input.now ≡ c.args.input.now) c.in-Err.fault c.in-Err.place c.in-Err.ensures.stops refl

pub returns-in-Err-bytes_of-clause-stops : goal.returns-in-Err-bytes_of-clause-stops
returns-in-Err-bytes_of-clause-stops g c held_old held_new w x =
    by_source (job_seen c.args.job) (before_output _ _ _ _ _ _ _ held_old held_new w x) _ c.in-Ok.task c.in-Ok.ensures.uses
    (functions (command_seen c.args.job.most c.args.job.command)) refl _ c.in-Err-bytes_of.ensures.stops

pub returns-in-Err-formed-clause-stops : goal.returns-in-Err-formed-clause-stops
returns-in-Err-formed-clause-stops g c held_old held_new w x =
    by_form (job_seen c.args.job) (before_output (g.F.Shelf.texts c.args.shelf.now) _ _ _ _ _ _ held_old held_new w x) _ c.in-Ok.task c.in-Ok.ensures.uses
    c.in-Ok-bytes_of.bytes.items c.in-Ok-bytes_of.ensures.takes c.in-Err-formed.fault (λ e. c.in-Err-formed.ensures.none (ap Err e))

pub returns-in-Ok-shown-clause-stops : goal.returns-in-Ok-shown-clause-stops
returns-in-Ok-shown-clause-stops g c held_old held_new w x = Ends.no_memory

pub returns-clause-stops : goal.returns-clause-stops
returns-clause-stops g c held_old held_new w x =
    let task = c.in-Ok-formed.task in
    let fault = c.in-Err-shown.fault in
    let stops = subst (λ (b : List ℕ). Does task c.args.job.ceiling b (Err fault)) c.as_slice.ensures.value c.in-Err-shown.ensures.stops in
    by_reencoding (job_seen c.args.job) (before_output (g.F.Shelf.texts c.args.shelf.now) _ _ _ _ _ _ held_old held_new w x) _ fault.fault fault.by (record {
      work = record {
        said = c.in-Ok.task;
        task = task;
        bytes = c.in-Ok-bytes_of.bytes.items;
        uses = c.in-Ok.ensures.uses;
        is_formed = c.in-Ok-formed.ensures.ok;
        takes = c.in-Ok-bytes_of.ensures.takes;
      };
      stops = stops;
    })

pub returns-in-Ok-zeros-clause-made : goal.returns-in-Ok-zeros-clause-made
returns-in-Ok-zeros-clause-made g c =
    let task = c.in-Ok-formed.task in
    let s = shown (option_map (λ v. v.items) c.in-Ok-shown.made.0) c.in-Ok-shown.made.1.items in
    let does = subst (λ (b : List ℕ). Does task c.args.job.ceiling b (Ok s)) c.as_slice.ensures.value c.in-Ok-shown.ensures.ok in (
      record {
        work = record {
          said = c.in-Ok.task;
          task = task;
          bytes = c.in-Ok-bytes_of.bytes.items;
          uses = c.in-Ok.ensures.uses;
          is_formed = c.in-Ok-formed.ensures.ok;
          takes = c.in-Ok-bytes_of.ensures.takes;
        };
        shown = s;
        does = does;
      },
      refl,
    )
