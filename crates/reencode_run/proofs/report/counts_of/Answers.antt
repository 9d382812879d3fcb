use Rattle.std.specs.Prelude.{slice_index}
use Rattle.std.proofs.Common.{◌≡◌, ℕ, List, [], ◌∷◌, length, refl, arith}
use Rattle.reencode_run.proofs.report.counts_of.Goals as goal

-- a list of so many numbers is these numbers
nineteen : (l : List ℕ) → length l ≡ 19 →
    (slice_index l 0 ∷ slice_index l 1 ∷ slice_index l 2 ∷ slice_index l 3 ∷ slice_index l 4 ∷ slice_index l 5 ∷ slice_index l 6 ∷ slice_index l 7 ∷ slice_index l 8 ∷ slice_index l 9 ∷ slice_index l 10 ∷ slice_index l 11 ∷ slice_index l 12 ∷ slice_index l 13 ∷ slice_index l 14 ∷ slice_index l 15 ∷ slice_index l 16 ∷ slice_index l 17 ∷ slice_index l 18 ∷ []) ≡ l
nineteen (n0 ∷ n1 ∷ n2 ∷ n3 ∷ n4 ∷ n5 ∷ n6 ∷ n7 ∷ n8 ∷ n9 ∷ n10 ∷ n11 ∷ n12 ∷ n13 ∷ n14 ∷ n15 ∷ n16 ∷ n17 ∷ n18 ∷ []) h = refl
nineteen _ h = absurd (omega arith)

pub returns : goal.returns
returns c h = let all = nineteen c.args.renamer.now.counts h in cc
