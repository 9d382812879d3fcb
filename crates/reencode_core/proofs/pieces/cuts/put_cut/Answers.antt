use Rattle.std.proofs.Common.{◌≡◌, ◌++◌, ◌+◌, ◌-◌, ◌≤◌, ℕ, List, length, take, drop, ap, sym, ◌∙◌, arith, append_assoc, length-drop}
use Rattle.std.proofs.lemmas.List.{drop-append-le, drop-drop, drop-take, drop_at, length-take-le, take-append-le, take-take}
use lib.Seq.{paste}
use Rattle.reencode_core.proofs.pieces.cuts.put_cut.Goals as goal

-- so many bytes moved up to those that stand behind a place
moved_up : (out behind : List ℕ) (from place made gap : ℕ) → place ≤ length out → (from + gap) + made ≡ place →
    paste (take place out ++ behind) (from + gap) (drop from (take place out ++ behind)) made ≡ take (from + gap) out ++ (take made (drop from out) ++ behind)
moved_up out behind from place made gap within e =
    let t = length-take-le place out within in
    let l = length-drop from (take place out) in
    let first : take (from + gap) (take place out ++ behind) ≡ take (from + gap) out =
    take-append-le (from + gap) (take place out) behind (omega (arith, t, e)) ∙ take-take (from + gap) place out (omega (arith, e)) in
    let all : from + (gap + made) ≡ place = omega (arith, e) in
    let moved : take made (drop from (take place out ++ behind)) ≡ take made (drop from out) =
    ap (take made) (drop-append-le from (take place out) behind (omega (arith, t, e)))
    ∙ take-append-le made (drop from (take place out)) behind (omega (arith, t, e, l))
    ∙ ap (λ (n : ℕ). take made (drop from (take n out))) (sym all)
    ∙ ap (take made) (drop-take from (gap + made) out)
    ∙ take-take made (gap + made) (drop from out) (omega arith) in
    let last : drop ((from + gap) + made) (take place out ++ behind) ≡ behind = drop_at (take place out) behind ((from + gap) + made) (t ∙ sym e) in
    rw (first, moved, last) (append_assoc (take (from + gap) out) (take made (drop from out)) behind)

pub returns : goal.returns
returns c =
    let out = c.args.out.now in
    let kept = c.args.kept.now in
    let made = c.args.made in
    let place : ℕ = c.args.to - length kept in
    let from : ℕ = c.args.from - made in
    let gap : ℕ = (place - made) - from in
    let m = c.requires.made in
    let a = c.requires.apart in
    let w = c.requires.within in
    let start : place - made ≡ from + gap = omega (arith, m, a) in
    let count : c.args.from - from ≡ made = omega (arith, m) in
    let end : place + (c.args.to - place) ≡ c.args.to = omega (arith, a) in
    let behind : drop (c.args.to - place) (drop place out) ≡ drop c.args.to out = drop-drop (c.args.to - place) place out ∙ ap (λ (n : ℕ). drop n out) end in
    let whole : c.args.to - (length kept + made) ≡ from + gap = omega (arith, m, a) in
    c.copy_within.ensures.after
    ∙ rw (c.copy_from_slice.ensures.after, behind, start, count, whole) (moved_up out (kept ++ drop c.args.to out) from place made gap (omega (arith, w)) (omega (arith, m, a)))
