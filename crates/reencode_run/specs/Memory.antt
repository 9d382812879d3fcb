-- What sources, sinks and shelves in memory are seen as.
use Rattle.std.specs.Prelude.{ℕ, ◌+◌, ◌-◌, ◌^◌, ◌==◌, min, nat_eq, nat_le, nat_lt, not, ◌++◌, ◌&&◌, ◌||◌, Bool, true, if◌then◌else◌, Option, Some, None, List, [], ◌∷◌, length}
use Rattle.std.specs.List.{list_any}
use Rattle.std.specs.Cmp.Lexicographic.{pointwise}

-- a source: what is left of it, and how many bytes a read gives at most
pub record Reading : Type 0 where
  pub left : List ℕ
  pub most : ℕ

-- a source with the numbers of the calls that fail, how many calls there were, and how many failed
pub record FailingReading : Type 0 where
  pub left : List ℕ
  pub most : ℕ
  pub fails : List ℕ
  pub calls : ℕ
  pub faults : ℕ

-- a sink: the bytes kept, how many it keeps at most, and whether more than these were written
pub record Writing : Type 0 where
  pub kept : List ℕ
  pub room : ℕ
  pub is_past : Bool

-- a sink with how many bytes a write takes at most, the numbers of the calls that fail, how many calls there were, and how many
-- failed
pub record FailingWriting : Type 0 where
  pub kept : List ℕ
  pub room : ℕ
  pub most : ℕ
  pub fails : List ℕ
  pub calls : ℕ
  pub faults : ℕ

-- one more; 2^64 - 1 stays
abbrev pub one_more : ℕ → ℕ
one_more n = min (n + 1) (2 ^ 64 - 1)

-- whether the next call is one that fails
abbrev pub fails_next : List ℕ → ℕ → Bool
fails_next fails calls = list_any (λ n. n == one_more calls) fails

-- the bytes held, where they are told
abbrev pub told_held : Writing → Option (List ℕ)
told_held s = if s.is_past then None else Some s.kept

-- the sink behind a write of this piece
abbrev pub written : Writing → List ℕ → Writing
written s piece =
    if s.is_past || nat_lt (s.room - length s.kept) (length piece) then record s { is_past = true }
    else record s { kept = s.kept ++ piece }

-- whether there is no room for a piece
abbrev pub is_full : FailingWriting → List ℕ → Bool
is_full s piece = nat_le s.room (length s.kept) && not (nat_eq (length piece) 0)

-- a text with its name
pub record Named : Type 0 where
  pub name : List ℕ
  pub bytes : List ℕ

-- a shelf with the numbers of the calls that fail, how many calls there were, and how many failed
pub record FailingFetching : Type 0 where
  pub texts : List Named
  pub fails : List ℕ
  pub calls : ℕ
  pub faults : ℕ

-- the newest text of a name, of texts of which the newest is first
abbrev pub text_of : List Named → List ℕ → Option (List ℕ)
text_of [] name = None
text_of (t ∷ ts) name = if pointwise nat_eq t.name name then Some t.bytes else text_of ts name
