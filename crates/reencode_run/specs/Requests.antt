-- What is asked of a program over files.
use Rattle.std.specs.Prelude.{ℕ, List, false, Result, Ok, Err}
use Rattle.reencode_run.specs.declared.answer.Answer.{Answer}
use Rattle.reencode_run.specs.declared.transform.Request as of_request
use Rattle.reencode_run.specs.declared.words.Notation.TheVariants.{Binary}
use Rattle.reencode_run.specs.Answer.{name_of}
use Rattle.reencode_run.specs.Words.{Job, command_seen}

-- the job: the input is a binary, and of the output the bytes alone are written
abbrev pub job_of : of_request.Request → Job
job_of r = record { is_text = false; notation = Binary; ceiling = r.ceiling; most = r.most; command = command_seen r.most r.command }

-- the status that comes back, or 0 where an output was handed over
abbrev pub status_in : {A : Type 0} → Result A ℕ → ℕ
status_in (Ok made) = 0
status_in (Err status) = status

-- the name of the file that an end is said of
abbrev pub name_told : of_request.Request → Answer → List ℕ
name_told r answer = name_of (job_of r).command r.input.now r.output.now answer
