-- Which bytes a hexadecimal text stands for.
use Rattle.std.specs.Prelude.{ℕ, ◌==◌, ◌||◌, Bool, not, filter, Option, Some, List, if◌then◌else◌}
use Rattle.std.specs.Result.{result_ok}
use Rattle.hex.specs.Hex.{decode_of}

-- space, tab, line feed and carriage return, which are left out
abbrev pub is_blank : ℕ → Bool
is_blank byte = byte == 32 || byte == 9 || byte == 10 || byte == 13

-- the text without its blanks
abbrev pub without_blanks : List ℕ → List ℕ
without_blanks text = filter (λ byte. not (is_blank byte)) text

-- the bytes of the pairs of digits that are left when the blanks are taken out, or none
abbrev pub binary : List ℕ → Option (List ℕ)
binary text = result_ok (decode_of (without_blanks text))

-- the bytes that an input is, or those that it is the hexadecimal text of
abbrev pub bytes_of : Bool → List ℕ → Option (List ℕ)
bytes_of is_text input = if is_text then binary input else Some input
