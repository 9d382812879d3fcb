use Rattle.std.proofs.Common.{◌≡◌, ◌+◌, ◌<◌, ◌++◌, ℕ, Some, Option, List, length, take, drop, cond, All, slice_index_or, refl, sym, ap, ◌∙◌, subst, rules}
use Rattle.std.proofs.lemmas.List.{drop_more, length-take-le, take-append-drop, take_all}
use Rattle.std.proofs.lemmas.List.Elements.{All-more}
use Rattle.std.specs.Prelude.{◌==◌}
use Rattle.std.specs.BTreeMap.{get, is_at}
use Rattle.std.specs.Ordering.{nat_cmp}
use Rattle.reencode_c.specs.declared.outcome.Entry.{Entry}
use Rattle.reencode_c.specs.Entries.{HasSpace, entry_from, key}
use Rattle.reencode_c.proofs.Lists.{at_key, first_without}
use Rattle.reencode_c.proofs.entries.map_of.Goals as goal

abbrev no_entry : Entry
no_entry = record { space = 0; from = 0; to = 0 }

-- one entry more
one_more : (es : List Entry) (i k n : ℕ) (found now : Option ℕ) (d : Entry) → i < length es → n ≡ key (slice_index_or es i d).space (slice_index_or es i d).from →
    now ≡ cond (is_at (nat_cmp n) k) (Some (slice_index_or es i d).to) found → entry_from now (drop (i + 1) es) k ≡ entry_from found (drop i es) k
one_more es i k n found now d h is e =
    let e0 = slice_index_or es i d in
    let same : is_at (nat_cmp n) k ≡ (key e0.space e0.from == k) = at_key n k ∙ ap (λ (z : ℕ). z == k) is in
    ap (λ (o : Option ℕ). entry_from o (drop (i + 1) es) k) (e ∙ ap (λ b. cond b (Some e0.to) found) same)
    ∙ ap (λ (z : List Entry). entry_from found z k) (sym (drop_more es i d h))

pub returns-then-entry-ge16-clause-bad : goal.returns-then-entry-ge16-clause-bad
returns-then-entry-ge16-clause-bad c = first_without c.args.entries.now c.entries.place no_entry c.entries-test.true c.entries.invariant.1 c.if-entry-ge16.true

pub entries-preserved : goal.entries-preserved
entries-preserved c = (
  λ k. one_more c.args.entries.now c.entries.place k c.key.result (get nat_cmp c.entries.map k) _ no_entry c.entries-test.true c.key.ensures (c.in-Ok.ensures.updates.0 k) ∙ c.entries.invariant.0 k,
  All-more HasSpace c.args.entries.now c.entries.place no_entry c.entries-test.true c.entries.invariant.1 (search rules),
)

pub returns-clause-known : goal.returns-clause-known
returns-clause-known c k d h =
    subst (λ (es : List Entry). All HasSpace es) (take_all c.entries.place c.args.entries.now c.entries-test.false) c.entries.invariant.1 k d h
