-- Numbers as texts.
use Rattle.std.specs.Prelude.{ℕ, ◌^◌, ◌&&◌, nat_eq, nat_lt, decimal, List, Option, Some, None, if◌then◌else◌}
use Rattle.std.specs.Str.Parse.{digits_value}
use Rattle.std.specs.Cmp.Lexicographic.{pointwise}

-- the number, below 2^32, whose decimal digits a text is
abbrev pub index_of : List ℕ → Option ℕ
index_of text =
    let n = digits_value 10 text in if nat_lt n (2 ^ 32) && pointwise nat_eq (decimal n) text then Some n else None
