use Rattle.std.proofs.Common.{◌≡◌, ◌++◌, ◌∷◌, ℕ, List, [], length, take, drop, ap, sym, refl, ◌∙◌, append-nil, length-append, arith}
use Rattle.std.proofs.lemmas.List.{drop_all, take_all}
use Rattle.reencode_core.specs.Pieces.{Grown}
use Rattle.reencode_core.specs.declared.pieces.cuts.Cut.{Cut}
use Rattle.reencode_core.proofs.kept_pieces.CutBytes.{longer_bytes, longer_is}
use Rattle.reencode_core.proofs.pieces.growing.Growing.keep_on.Goals as goal

-- as many ranges as before are all of them
all_cuts : (cuts more : List Cut) (n : ℕ) → length cuts ≡ n → length more ≡ n → take n (cuts ++ drop (length cuts) more) ≡ cuts
all_cuts cuts more n e f =
    ap (λ (z : List Cut). take n (cuts ++ z)) (drop_all (length cuts) more (omega (arith, e, f)))
    ∙ ap (take n) (append-nil cuts) ∙ take_all n cuts (omega (arith, e))

pub invariant_of-self : goal.invariant_of-self
invariant_of-self c =
    let s = c.if-stand_behind.ensures refl in
    let before = s.0 in
    let cut = s.1 in
    let cuts = s.2 in
    let here = sym c.deref.ensures.value ∙ cuts in
    let there = c.deref_mut.ensures.value ∙ here in
    let longer : Cut = record cut { end = c.args.end } in
    let new = c.lengthen_last.ensures before cut there in
    let a = ap length there ∙ length-append before (cut ∷ []) in
    let b = ap length new ∙ length-append before (longer ∷ []) in
    let d = c.deref_mut.ensures.len in
    let l = ap length c.deref_mut.ensures.value in
    let all = all_cuts c.lengthen_last.new.cuts c.self.inside.cuts.items c.self.inside.cuts.len (omega (arith, a, b, d)) (omega (arith, d, l)) ∙ new in
    let inputs = ap Grown.input c.self.view_is in
    rw all (longer_is before cut c.args.head.now c.args.start c.args.end c.self.invariant here (omega (arith, c.if-len-self.true, c.len.ensures)) s.3 s.4
    c.requires.ordered (rw inputs c.requires.within) c.in-Some-checked_add.size (omega (arith, c.in-Some.ensures, c.in-Some-checked_add.ensures)))

pub returns-then-stand_behind-clause-bytes : goal.returns-then-stand_behind-clause-bytes
returns-then-stand_behind-clause-bytes c =
    let s = c.if-stand_behind.ensures refl in
    let before = s.0 in
    let cut = s.1 in
    let cuts = s.2 in
    let here = sym c.deref.ensures.value ∙ cuts in
    let there = c.deref_mut.ensures.value ∙ here in
    let longer : Cut = record cut { end = c.args.end } in
    let new = c.lengthen_last.ensures before cut there in
    let a = ap length there ∙ length-append before (cut ∷ []) in
    let b = ap length new ∙ length-append before (longer ∷ []) in
    let d = c.deref_mut.ensures.len in
    let l = ap length c.deref_mut.ensures.value in
    let all = all_cuts c.lengthen_last.new.cuts c.self.inside.cuts.items c.self.inside.cuts.len (omega (arith, a, b, d)) (omega (arith, d, l)) ∙ new in
    let inputs = ap Grown.input c.self.view_is in
    rw (← c.self.view_is, all) (longer_bytes before cut c.args.head.now c.args.start c.args.end c.self.invariant here (omega (arith, c.if-len-self.true, c.len.ensures)) s.3 s.4
    c.requires.ordered (rw inputs c.requires.within))
