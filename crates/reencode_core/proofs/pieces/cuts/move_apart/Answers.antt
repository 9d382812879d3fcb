use Rattle.std.proofs.Common.{◌≡◌, ◌++◌, ◌+◌, ◌-◌, ℕ, List, [], ◌∷◌, length, take, drop, slice_range, subst, arith, rules}
use Rattle.reencode_core.specs.declared.pieces.cuts.Cut.{Cut}
use Rattle.reencode_core.proofs.kept_pieces.CutBytes.{AreLeft, LastFits, last_fits, left_first, left_more}
use Rattle.reencode_core.proofs.pieces.cuts.move_apart.Goals as goal

-- what the last of the ranges that are left needs
fits : {input out whole : List ℕ} {from to : ℕ} {left : List Cut} (front : List Cut) (c : Cut) → AreLeft input out whole from to left → left ≡ front ++ c ∷ [] → LastFits input from to c
fits {input} {out} {whole} {from} {to} front c p e = last_fits front c (let P : List Cut → Type 0 = λ cs. AreLeft input out whole from to cs in subst P e p)

-- once it is put, those in front of it are left
more : {input out whole : List ℕ} {from to : ℕ} {left : List Cut} (front : List Cut) (c : Cut) → AreLeft input out whole from to left → left ≡ front ++ c ∷ [] →
    AreLeft input (take (to - (length (slice_range input c.start c.end) + c.made)) out ++ (take c.made (drop (from - c.made) out) ++ (slice_range input c.start c.end ++ drop to out)))
    whole (from - c.made) (to - (length (slice_range input c.start c.end) + c.made)) front
more {input} {out} {whole} {from} {to} front c p e = left_more front c (let P : List Cut → Type 0 = λ cs. AreLeft input out whole from to cs in subst P e p)

pub cuts-init : goal.cuts-init
cuts-init c =
    let s = c.requires.shown in
    let a = s.0 in
    let b = s.1 in
    rw c.copy_within.ensures.after (left_first c.args.input.now c.args.out.now _ _ _ c.args.cuts.now c.requires.within c.requires.placed a b c.requires.sized (omega (arith, a, b)))

pub slice_bounds-kept-count : goal.slice_bounds-kept-count
slice_bounds-kept-count c = (fits _ _ c.cuts.invariant c.in-Some.ensures.cases.0).ordered

pub slice_bounds-kept-start : goal.slice_bounds-kept-start
slice_bounds-kept-start c = let a = (fits _ _ c.cuts.invariant c.in-Some.ensures.cases.0).ordered in search (rules, a)

pub slice_bounds-kept-end : goal.slice_bounds-kept-end
slice_bounds-kept-end c = let a = (fits _ _ c.cuts.invariant c.in-Some.ensures.cases.0).within in search (rules, a)

pub put_cut-requires-clause-made : goal.put_cut-requires-clause-made
put_cut-requires-clause-made c = (fits _ _ c.cuts.invariant c.in-Some.ensures.cases.0).made

pub put_cut-requires-clause-apart : goal.put_cut-requires-clause-apart
put_cut-requires-clause-apart c = (fits _ _ c.cuts.invariant c.in-Some.ensures.cases.0).apart

pub overflow_sub-from : goal.overflow_sub-from
overflow_sub-from c = (fits _ _ c.cuts.invariant c.in-Some.ensures.cases.0).made

pub overflow_sub-to-in-Some : goal.overflow_sub-to-in-Some
overflow_sub-to-in-Some c =
    let f = fits _ _ c.cuts.invariant c.in-Some.ensures.cases.0 in
    let a = f.made in
    let b = f.apart in
    omega (arith, a, b)

pub cuts-preserved : goal.cuts-preserved
cuts-preserved c = rw c.put_cut.ensures (more _ _ c.cuts.invariant c.in-Some.ensures.cases.0)
