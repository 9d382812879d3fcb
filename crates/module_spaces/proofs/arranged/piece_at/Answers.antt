use Rattle.std.proofs.Common.{◌≡◌, ◌+◌, ◌<◌, ℕ, suc, [], List, length, get_or, Option, None, Some, Bor, subst, sym, ap, ap₂, ◌∙◌, slice_range, arith}
use Rattle.std.specs.List.{PartBy}
use Rattle.std.specs.Option.{IfSome}
use Rattle.module_spaces.specs.Texts.{pieces}
use Rattle.module_spaces.proofs.Pieces.{piece_there}
use Rattle.module_spaces.proofs.arranged.piece_at.Goals as goal
use Rattle.module_spaces.proofs.arranged.piece_at.Goals.{After-get-3}

-- a part that is there is that from one place to the other
of_part : (R : List ℕ → Type 0) (bytes : List ℕ) (a b : ℕ) (r : Option (Bor (List ℕ))) → PartBy (λ (x : Bor (List ℕ)). x.now) bytes a b r → R (slice_range bytes a b) → IfSome r (λ x. R x.now)
of_part R bytes a b None m h = tt
of_part R bytes a b (Some x) m h = subst R (sym m.0.2) h

there : (c : After-get-3) → (c.args.place < length (pieces c.args.bytes.now c.args.bounds.now))
    × (slice_range c.args.bytes.now c.in-Some.start.now c.in-Some-get.end.now ≡ get_or (pieces c.args.bytes.now c.args.bounds.now) c.args.place [])
there c =
    let bounds = c.args.bounds.now in
    let place = c.args.place in
    let start : c.in-Some.start.now ≡ get_or bounds place 0 = c.in-Some.ensures.lookup.3.1 0 in
    let next : place + 1 ≡ suc place = omega arith in
    let end : c.in-Some-get.end.now ≡ get_or bounds (suc place) 0 = c.in-Some-get.ensures.lookup.3.1 0 ∙ ap (λ (n : ℕ). get_or bounds n 0) next in
    let piece = piece_there c.args.bytes.now bounds place (omega (arith, c.in-Some-get.ensures.lookup.3.0)) in
    (piece.0, ap₂ (λ (a b : ℕ). slice_range c.args.bytes.now a b) start end ∙ sym piece.1)

pub returns-clause-below : goal.returns-clause-below
returns-clause-below c = of_part (λ _. c.args.place < length (pieces c.args.bytes.now c.args.bounds.now)) c.args.bytes.now c.in-Some.start.now c.in-Some-get.end.now c.get-3.result c.get-3.ensures.lookup (there c).0

pub returns-clause-is : goal.returns-clause-is
returns-clause-is c = of_part (λ z. z ≡ get_or (pieces c.args.bytes.now c.args.bounds.now) c.args.place []) c.args.bytes.now c.in-Some.start.now c.in-Some-get.end.now c.get-3.result c.get-3.ensures.lookup (there c).1
