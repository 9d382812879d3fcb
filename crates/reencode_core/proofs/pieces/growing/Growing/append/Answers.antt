use Rattle.std.proofs.Common.{◌≡◌, ◌+◌, ◌-◌, ℕ, List, ◌++◌, length, drop, refl, ap, ap₂, sym, subst, ◌∙◌, arith, length-drop}
use Rattle.reencode_core.specs.Pieces.{AreCuts, Grown, Range, cut_bytes, cut_ranges, last_of, raised}
use Rattle.reencode_core.specs.declared.pieces.cuts.Cut.{Cut}
use Rattle.reencode_core.proofs.kept_pieces.CutBytes.{grown_bytes, grown_is, grown_ranges}
use Rattle.reencode_core.proofs.pieces.growing.Growing.append.Goals as goal

-- the ranges, by the calls that made them
cuts_are : (old all cs ds lifted : List Cut) (m k : ℕ) → all ≡ old ++ lifted → old ≡ cs → lifted ≡ raised k ds → k ≡ m → all ≡ cs ++ raised m ds
cuts_are old all cs ds lifted m k a o b e = rw (a, o, b, e) refl

pub invariant_of-self-2 : goal.invariant_of-self-2
invariant_of-self-2 c =
    let head = c.args.head.now in
    let cs = c.self.inside.cuts.items in
    let ds = c.other.inside.cuts.items in
    let made = c.self.inside.made.items in
    let input = c.self.inside.input.now in
    let rest = drop c.other.inside.front c.other.inside.made.items in
    let p = c.self.invariant in
    let q = c.other.invariant in
    let m : ℕ = (length made + length head) - c.self.inside.last in
    let a = p.shown in
    let b = q.placed in
    let d = q.shown in
    let l = length-drop c.other.inside.front c.other.inside.made.items in
    let inputs : input ≡ c.other.inside.input.now = ap Grown.input c.self.view_is ∙ sym c.requires ∙ ap Grown.input (sym c.other.view_is) in
    let within : AreCuts (length input) ds = let P : List ℕ → Type 0 = λ z. AreCuts (length z) ds in subst P (sym inputs) q.cuts_are in
    let size : c.other.inside.size ≡ length (cut_bytes input rest ds) = q.sized ∙ ap (λ (z : List ℕ). length (cut_bytes z rest ds)) (sym inputs) in
    let cuts = cuts_are _ _ cs ds _ m _ c.in-Ok-append.ensures.items c.reserve.ensures.items c.raise.ensures (omega (arith, c.len-begun.ensures)) in
    let last : c.last_behind-last.result ≡ last_of ds c.self.inside.last (length made + length head) =
    c.last_behind-last.ensures ∙ ap₂ (λ (z : List Cut) (n : ℕ). last_of z c.self.inside.last n) c.deref.ensures.value (omega (arith, c.len-begun.ensures)) in
    rw (c.in-Ok-take_over.ensures.ok, cuts, last)
    (grown_is head rest ds m c.in-Some-checked_add.size c.other.inside.size p within (omega (arith, b, d, l)) (omega (arith, a)) size (omega (arith, c.in-Some.ensures, c.in-Some-checked_add.ensures)))

pub returns-clause-ok : goal.returns-clause-ok
returns-clause-ok c =
    let head = c.args.head.now in
    let cs = c.self.inside.cuts.items in
    let ds = c.other.inside.cuts.items in
    let made = c.self.inside.made.items in
    let input = c.self.inside.input.now in
    let front = c.self.inside.front in
    let rest = drop c.other.inside.front c.other.inside.made.items in
    let p = c.self.invariant in
    let m : ℕ = (length made + length head) - c.self.inside.last in
    let a = p.shown in
    let inputs : input ≡ c.other.inside.input.now = ap Grown.input c.self.view_is ∙ sym c.requires ∙ ap Grown.input (sym c.other.view_is) in
    let cuts = cuts_are _ _ cs ds _ m _ c.in-Ok-append.ensures.items c.reserve.ensures.items c.raise.ensures (omega (arith, c.len-begun.ensures)) in
    let bytes : cut_bytes input (drop front c.take_over.new.out.items) c.append.new.self.items ≡ (cut_bytes input (drop front made) cs ++ head) ++ cut_bytes c.other.inside.input.now rest ds =
    ap₂ (λ (z : List ℕ) (k : List Cut). cut_bytes input (drop front z) k) c.in-Ok-take_over.ensures.ok cuts
    ∙ grown_bytes head rest ds m p (omega (arith, a))
    ∙ ap (λ (z : List ℕ). (cut_bytes input (drop front made) cs ++ head) ++ cut_bytes z rest ds) inputs in
    let ranges : cut_ranges c.append.new.self.items ≡ cut_ranges cs ++ cut_ranges ds = ap cut_ranges cuts ∙ grown_ranges cs ds m in
    rw (← c.self.view_is, ← c.other.view_is) (ap₂ (λ (b : List ℕ) (r : List Range). record { input = input; bytes = b; kept = r }) bytes ranges)
