use Rattle.std.proofs.Common.{◌≡◌, ◌+◌, ◌++◌, ◌∷◌, length, drop}
use Rattle.std.specs.List.{concat}
use Rattle.reencode_c.specs.Tools.{packed, starts}
use Rattle.reencode_c.proofs.packed.packed.Given as goal

-- with where the lists that are left begin, these are the beginnings of all
abbrev pub invariant-starts : goal.invariant-starts
invariant-starts l =
    let rows = l.calls.roots ∷ l.calls.calls in
    l.list.items ++ starts l.start (drop l.place rows) ≡ l.calls.imports ∷ starts (length rows + 2) rows

-- with the lists that are left, this is the whole
abbrev pub invariant-lists : goal.invariant-lists
invariant-lists l =
    let rows = l.calls.roots ∷ l.calls.calls in
    l.list.items ++ concat (drop l.place rows) ≡ packed l.calls.imports rows
