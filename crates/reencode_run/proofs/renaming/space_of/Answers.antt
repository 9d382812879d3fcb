use Rattle.std.proofs.Common.{◌≡◌, ℕ, ◌+◌, ◌<◌, nat_eq, false, List, length, drop, get_or, refl, sym, ◌∙◌, ap}
use Rattle.std.specs.Cmp.Lexicographic.{pointwise}
use Rattle.std.proofs.lemmas.List.{drop_more}
use Rattle.wasm_shapes.specs.declared.Space.{Space}
use Rattle.wasm_shapes.specs.Names.{space_name}
use Rattle.reencode_run.specs.Renamings.{space_among, spaces}
use Rattle.reencode_run.proofs.renaming.space_of.Goals as goal

-- a space of another name is passed by
passed : (ss : List Space) (i : ℕ) (d : Space) (name shown : List ℕ) → i < length ss → shown ≡ space_name (get_or ss i d) → pointwise nat_eq shown name ≡ false
    → space_among (drop (i + 1) ss) name ≡ space_among (drop i ss) name
passed ss i d name shown h is other =
    let differs : pointwise nat_eq (space_name (get_or ss i d)) name ≡ false = ap (λ (z : List ℕ). pointwise nat_eq z name) (sym is) ∙ other in
    rw (drop_more ss i d h, differs) refl

pub spaces-preserved : goal.spaces-preserved
spaces-preserved c =
    passed spaces c.spaces.i _ c.args.name.now c.name.result.now c.spaces-test.true c.name.ensures (cc (c.eq.ensures, c.if-eq.false)) ∙ c.spaces.invariant
