-- How a command ends whose output is stripped, and what is read where malformed names are ignored.
use Rattle.std.specs.Prelude.{ℕ, List, Option, Result, Err, if◌then◌else◌, ◌==◌}
use Rattle.reencode_run.specs.Outside.{GaveAll}
use Rattle.wasm_strip.specs.Sound.{IsSound}
use Rattle.wasm_reencode.specs.declared.stripped.Ended.{Ended}
use Rattle.wasm_reencode.specs.declared.stripped.Ended.TheVariants as ended
use Rattle.wasm_strip.specs.declared.fault.StripFault.{StripFault}
use Rattle.wasm_strip.specs.declared.fault.StripFault.TheVariants as fault

-- where the command made nothing, this holds of its status
abbrev pub IfCommand : {A : Type 0} → Result A Ended → (ℕ → Type 0) → Type 0
IfCommand (Err (ended.Command status)) P = P status
IfCommand _ P = Unit {0}

-- where its output was not stripped, this holds of the fault
abbrev pub IfStrip : {A : Type 0} → Result A Ended → (StripFault → Type 0) → Type 0
IfStrip (Err (ended.Strip fault)) P = P fault
IfStrip _ P = Unit {0}

-- where the sink failed, this holds
abbrev pub IfSink : {A : Type 0} → Result A Ended → Type 0 → Type 0
IfSink (Err ended.Sink) P = P
IfSink _ P = Unit {0}

-- the status of the command with the sink behind it: 0 where what it made was handed over, or was not stripped
abbrev pub status_in : {A : Type 0} → Result A Ended → ℕ
status_in (Err (ended.Command status)) = status
status_in (Err ended.Sink) = 4
status_in _ = 0

-- what comes of a status that is not 0, where all of an output that was made went to memory
abbrev pub unmade : ℕ → Ended
unmade status = if status == 4 then ended.Strip fault.NoMemory else ended.Command status

-- a source gave at most so many bytes and has no more, and these are what is read of them where malformed names are ignored
abbrev pub GaveSound : ℕ → Option (List ℕ) → Option (List ℕ) → List ℕ → Type 0
GaveSound most old new sound = (bytes : List ℕ) × GaveAll most old new bytes × IsSound bytes sound
