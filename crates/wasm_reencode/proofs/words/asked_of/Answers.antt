use Rattle.std.proofs.Common.{◌≡◌, List, ℕ, Option, None, Some, IfSome, option_map, sym}
use Rattle.clap.specs.Matches.{found_of, subcommand_name_of}
use Rattle.clap.specs.Simple.{subcommand_rows}
use Rattle.clap.specs.Walk.{rows_of}
use Rattle.clap.specs.declared.parser.matches.ArgMatches.{ArgMatches}
use Rattle.clap.specs.declared.parser.matches.ArgMatches.TheViews.{out-ArgMatches}
use Rattle.clap.specs.declared.parser.matches.Found.{Found}
use Rattle.wasm_reencode.specs.declared.words.Asked.{Asked}
use Rattle.wasm_reencode.specs.Arguments.{AsksBy, IsAsked}
use Rattle.wasm_reencode.proofs.words.asked_of.Goals as goal

asked : (m : ArgMatches) (name : List ℕ) (found : Found) (r : Option Asked) → Some name ≡ subcommand_name_of m
    → Some (rows_of found) ≡ option_map (λ p. p.1) (subcommand_rows (out-ArgMatches m).subcommand) → IfSome r (AsksBy name found) → IfSome r (IsAsked m)
asked m name found None is rows h = h
asked m name found (Some a) is rows h = record { name = name; found = found; named = sym is; arguments = sym rows; asks = h }

pub returns-in-Some-clause-some : goal.returns-in-Some-clause-some
returns-in-Some-clause-some c = asked c.args.matches.now c.in-Some.name.now (found_of c.in-Some.matches.now) c.asked_by.result c.in-Some.ensures.name c.in-Some.ensures.rows c.asked_by.ensures.some
