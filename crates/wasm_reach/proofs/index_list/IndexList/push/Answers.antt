use Rattle.std.proofs.Common.{◌≡◌, ◌<◌, ◌^◌, ◌++◌, ◌∷◌, [], ℕ, List, Result, Ok, Err, OnOk, OnErr, sym, ap, ◌∙◌, subst, arith, append-nil}
use Rattle.wasm_leb.specs.Leb.{leb}
use Rattle.wasm_leb.proofs.Shortest.{leb_spells}
use Rattle.wasm_reach.specs.Packed.{ArePacked, numbers}
use Rattle.wasm_reach.proofs.NotedSections.{on_ok}
use Rattle.wasm_reach.proofs.Packing.{numbers-push, packed-push}
use Rattle.wasm_reach.proofs.index_list.IndexList.push.Goals as goal

either : {E : Type 0} (P : List ℕ → Type 0) (r : Result (Unit {0}) E) (a b new : List ℕ) → OnOk r (new ≡ a) → OnErr r (new ≡ b) → P a → P b → P new
either P (Ok x) a b new e f p q = subst P (sym e) p
either P (Err x) a b new e f p q = subst P (sym f) q

pub invariant_of-self : goal.invariant_of-self
invariant_of-self c =
    let n = c.args.number in
    let old = c.self.inside.bytes.items in
    let low : n < 2 ^ 32 = omega (arith, c.ranges.number) in (
      either (λ z. ArePacked z (numbers z)) c.write_u32.result (old ++ leb n) old c.write_u32.new.out.items c.write_u32.ensures.ok c.write_u32.ensures.err
          (packed-push old (leb n) n c.self.invariant.0 (leb_spells n low).spelled) c.self.invariant.0,
      c.self.invariant.1,
    )

pub returns-then-self-clause-ok : goal.returns-then-self-clause-ok
returns-then-self-clause-ok c =
    let n = c.args.number in
    let bytes = c.self.inside.bytes.items in
    let words = c.self.inside.words.items in
    let low : n < 2 ^ 32 = omega (arith, c.ranges.number) in
    let none : words ≡ [] = c.self.invariant.1 c.if-self.true in
    let view : numbers bytes ≡ c.args.self.now = sym (ap (λ (z : List ℕ). numbers bytes ++ z) none ∙ append-nil (numbers bytes)) ∙ c.self.view_is in
    on_ok (λ e.
    ap (λ (z : List ℕ). numbers c.write_u32.new.out.items ++ z) none ∙ append-nil (numbers c.write_u32.new.out.items) ∙ ap numbers e
    ∙ numbers-push bytes (leb n) n c.self.invariant.0 (leb_spells n low).spelled ∙ ap (λ (z : List ℕ). z ++ n ∷ []) view) c.write_u32.result c.write_u32.ensures.ok
