use Rattle.std.proofs.Common.{ℕ, ◌+◌, ◌<◌, ◌++◌, ◌∷◌, List, length, drop, ap, ap₂, ◌∙◌, arith}
use Rattle.std.specs.List.{concat}
use Rattle.reencode_c.specs.Tools.{starts}
use Rattle.reencode_c.proofs.Packing.{list_more, start_more}
use Rattle.reencode_c.proofs.packed.packed.Goals as goal

pub starts-preserved : goal.starts-preserved
starts-preserved c =
    let rows = c.args.calls.now.roots ∷ c.args.calls.now.calls in
    let there : c.starts.place < length rows = omega (arith, c.starts-test.true, c.len-rows.ensures.len) in
    ap₂ (λ (xs ns : List ℕ). xs ++ starts (c.starts.start + length ns) (drop (c.starts.place + 1) rows)) c.in_ok-add-2.ensures.added c.row.ensures
    ∙ start_more c.starts.list.items rows c.starts.place there c.starts.start ∙ c.starts.invariant

pub lists-preserved : goal.lists-preserved
lists-preserved c =
    let rows = c.args.calls.now.roots ∷ c.args.calls.now.calls in
    let there : c.lists.place < length rows = omega (arith, c.lists-test.true, c.len-rows.ensures.len) in
    ap (λ (xs : List ℕ). xs ++ concat (drop (c.lists.place + 1) rows)) c.in_ok-add_all.ensures
    ∙ ap (λ (ns : List ℕ). (c.lists.list.items ++ ns) ++ concat (drop (c.lists.place + 1) rows)) c.row-in-lists.ensures
    ∙ list_more c.lists.list.items rows c.lists.place there ∙ c.lists.invariant
