-- What is told of the function bodies that are kept.
use Rattle.std.specs.Prelude.{◌≡◌, ℕ, ◌+◌, ◌-◌, List, [], ◌∷◌, ◌++◌, codes, decimal, length}
use Rattle.reencode_hooks.specs.Renamings.{no_renaming}
use Rattle.reencode_core.specs.Pieces.{Range, kept_total}
use Rattle.reencode_core.specs.Kept.{Kept}
use Rattle.reencode_run.specs.declared.renamers.Renamers.TheVariants.{Alone}
use Rattle.reencode_run.specs.declared.binary_taken.Taken.TheVariants.{Modules}
use Rattle.reencode_run.specs.Plain.{IsPlain}
use Rattle.reencode_run.specs.Reencoded.{IsReencoded}
use Rattle.reencode_run.specs.Report.{tail}

-- the line of a range that is kept, with its end
abbrev pub range_line : Range → List ℕ
range_line r = codes "kept " ++ decimal r.start ++ codes " " ++ decimal r.end ++ codes "\n"

-- that of each range
abbrev pub kept_lines : List Range → List ℕ
kept_lines [] = []
kept_lines (r ∷ rs) = range_line r ++ kept_lines rs

-- how many bytes are kept, and of how many, without the line's end
abbrev pub bytes_line : ℕ → ℕ → List ℕ
bytes_line kept all = codes "bytes " ++ decimal kept ++ codes " of " ++ decimal all

-- the lines of the ranges that are kept of an output of so many bytes, how many bytes they have, and the lines of the counts
abbrev pub kept_report : List Range → ℕ → List (List ℕ) → List ℕ
kept_report ranges all counts = kept_lines ranges ++ bytes_line (kept_total ranges) all ++ tail counts

-- The text tells which function bodies of the bytes are kept where nothing is renamed. The output is the normal spelling itself.
pub record Keeps (ceiling : ℕ) (bytes text : List ℕ) : Type 0 where
  pub output : List ℕ
  pub counts : List (List ℕ)
  pub reencoded : IsReencoded Modules ceiling (Alone no_renaming) bytes output counts
  pub ranges : List Range
  pub plain : IsPlain Modules bytes output counts
  pub kept : Kept bytes reencoded.tree reencoded.answers ranges
  pub told : text ≡ kept_report ranges (length output) counts
