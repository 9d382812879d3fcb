use Rattle.std.proofs.Common.{arith}
use Rattle.wasm_write.proofs.Fronts.{front_stays_on}
use Rattle.wasm_write.proofs.ElementRows.{unplaced_ok}
use Rattle.wasm_write.proofs.elements.UnplacedRowOfKindsElements.write.Goals as goal
use Rattle.wasm_write.proofs.elements.UnplacedRowOfKindsElements.write.Goals.{then-self, else-self}

pub returns-in-Ok-clause-spells : goal.returns-in-Ok-clause-spells
returns-in-Ok-clause-spells c =
    let row = c.args.self.now in
    unplaced_ok c.write_kinded.result row.declared row.elements.now c.have_spellings.ensures c.write_kinded.ensures.in_range
    (λ r. elim c.if-self.branch [
      | then-self w ↦ rw (c.in-Functions.is, w.if-self.true, ← c.as_slice.ensures) (omega arith, (tt, r))
      | else-self w ↦ rw (c.in-Functions.is, w.if-self.false, ← c.as_slice.ensures) (omega arith, (tt, r))
    ])

pub returns-in-Ok-clause-err : goal.returns-in-Ok-clause-err
returns-in-Ok-clause-err c = front_stays_on c.args.out.now.items _ _ c.args.out.now.ok.0 c.write_u32.new.out.ok.0 c.in-Ok.ensures.ok c.write_kinded.result c.write_kinded.ensures.err

pub returns-in-Ok-write_u32-clause-spells : goal.returns-in-Ok-write_u32-clause-spells
returns-in-Ok-write_u32-clause-spells c =
    let row = c.args.self.now in
    unplaced_ok c.write_typed.result row.declared row.elements.now c.have_spellings.ensures c.write_typed.ensures.in_range
    (λ r. elim c.if-self.branch [
      | then-self w ↦ rw (c.in-Expressions.is, w.if-self.true, ← c.as_slice-in-Ok-write_u32.ensures) (omega arith, r)
      | else-self w ↦ rw (c.in-Expressions.is, w.if-self.false, ← c.as_slice-in-Ok-write_u32.ensures) (omega arith, r)
    ])

pub returns-in-Ok-write_u32-clause-err : goal.returns-in-Ok-write_u32-clause-err
returns-in-Ok-write_u32-clause-err c = front_stays_on c.args.out.now.items _ _ c.args.out.now.ok.0 c.write_u32-in-Expressions.new.out.ok.0 c.in-Ok-write_u32.ensures.ok c.write_typed.result c.write_typed.ensures.err
