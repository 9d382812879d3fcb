use Rattle.std.proofs.Common.{◌≡◌, ◌-◌, ℕ, suc, List, Bool, Vec, Global, sym, ap, ◌∙◌, arith}
use Rattle.module_names.specs.Names.{stays}
use Rattle.module_names.proofs.KeptEntries.{KeptAhead, ahead_begins, ahead_done, ahead_more, kept_more, kept_past}
use Rattle.module_names.proofs.entries.kept_entries.Goals as goal
use Rattle.module_names.proofs.entries.kept_entries.Goals.{then-has+in-Ok, else-has}

pub entries-init : goal.entries-init
entries-init c = record { few = omega arith; kept = ahead_begins c.args.indirect (stays c.args.stay.imports c.args.stay.marks.now) c.in-Some.ensures.some c.new-out.ensures.items }

pub entries-preserved : goal.entries-preserved
entries-preserved c =
    elim c.if-has.branch [
      | then-has+in-Ok w ↦ record {
        few = omega (arith, w.count-is, c.entries.invariant.few);
        kept = at w.count-is (ap (λ (v : Vec ℕ Global). v.items) w.out-is) (ahead_more c.entries.invariant.kept fewer c.in-Some-front_entry.ensures
            (λ texts k. kept_more test texts k c.in-Some-front_u32.ensures.some (sym c.has.ensures ∙ w.if-has.true) w.in-Ok.ensures.items));
      }
      | else-has w ↦ record {
        few = omega (arith, w.count-is, c.entries.invariant.few);
        kept = at w.count-is (ap (λ (v : Vec ℕ Global). v.items) w.out-is) (ahead_more c.entries.invariant.kept fewer c.in-Some-front_entry.ensures
            (λ texts k. kept_past test texts k c.in-Some-front_u32.ensures.some (sym c.has.ensures ∙ w.if-has.false)));
      }
    ]
  where
    test : ℕ → Bool
    test = stays c.args.stay.imports c.args.stay.marks.now

    fewer : c.entries.left ≡ suc (c.entries.left - 1)
    fewer = omega arith

    at : {count : ℕ} {out : List ℕ} → c.if-has.count ≡ count → c.if-has.out.items ≡ out →
        KeptAhead c.args.indirect test c.args.body.now (c.entries.left - 1) c.in-Some-front_entry.behind.now count out →
        KeptAhead c.args.indirect test c.args.body.now (c.entries.left - 1) c.in-Some-front_entry.behind.now c.if-has.count c.if-has.out.items
    at e f h = rw (e, f) h

pub returns-clause-kept : goal.returns-clause-kept
returns-clause-kept c = ahead_done (omega arith) c.entries.invariant.kept
