use Rattle.std.proofs.Common.{◌≡◌, ◌<◌, ◌+◌, ◌++◌, ℕ, None, List, All, length, take, drop, slice_index_or, refl, sym, ap, ◌∙◌, subst, arith, rules}
use Rattle.std.proofs.lemmas.List.{drop_more, length-set, length-take-le, take-append-drop, take_all}
use Rattle.std.proofs.lemmas.List.Elements.{All-more}
use Rattle.std.specs.FinMap as map
use Rattle.wasm_shapes.specs.declared.Space.{Space}
use Rattle.reencode_hooks.specs.Renamings.{Renaming, entries_in, space_number}
use Rattle.reencode_c.specs.declared.outcome.Entry.{Entry}
use Rattle.reencode_c.specs.Entries.{HasSpace, entry_from, key}
use Rattle.reencode_c.proofs.Lists.{first_without}
use Rattle.reencode_c.proofs.Tables.{bare_table, number_small, table_more}
use Rattle.reencode_c.proofs.entries.renamer_of.Goals as goal

abbrev no_entry : Entry
no_entry = record { space = 0; from = 0; to = 0 }

pub entries-init : goal.entries-init
entries-init c =
    let es = c.args.entries.now in
    let P : Renaming → Type 0 = λ z. c.set_strict.new.self ≡ record z { strict = c.args.strict } in
    let made = subst P c.new-renamer.ensures c.set_strict.ensures in
    record {
      strict = ap (λ (z : Renaming). z.strict) made;
      tables = ap (λ (z : Renaming). length z.entries) made;
      found = λ p i h. ap (λ o. entry_from o es (key (space_number p) i)) (bare_table c.set_strict.new.self c.args.strict p i made);
      known = λ k d h. absurd (omega arith);
    }

pub returns-in_default-clause-bad : goal.returns-in_default-clause-bad
returns-in_default-clause-bad c = first_without c.args.entries.now c.entries.place no_entry c.entries-test.true c.entries.invariant.known (rw c.in_default.is at c.space_of.ensures.none)

pub entries-preserved : goal.entries-preserved
entries-preserved c =
    let es = c.args.entries.now in
    let n = c.entries.place in
    let inv = c.entries.invariant in
    let s = c.in-Some.space in
    let e0 = slice_index_or es n no_entry in
    let is : space_number s ≡ e0.space = rw c.in-Some.is at c.space_of.ensures.some in
    let small : space_number s < 16 = number_small s in
    let there : space_number s < length c.entries.renamer.entries = omega (arith, inv.tables, small) in
    let made = c.in-Ok.ensures.ok in
    record {
      strict = ap (λ (z : Renaming). z.strict) made ∙ inv.strict;
      tables = ap (λ (z : Renaming). length z.entries) made ∙ length-set c.entries.renamer.entries _ _ ∙ inv.tables;
      found = λ p i h.
          let P : Renaming → Type 0 = λ z. entry_from (map.get (entries_in z p) i) (drop (n + 1) es) (key (space_number p) i) ≡ entry_from None es (key (space_number p) i) in
          subst P (sym made) (table_more es n no_entry c.entries.renamer s p i c.entries-test.true is c.in-Ok.ensures.index h there ∙ inv.found p i h);
      known = All-more HasSpace es n no_entry c.entries-test.true inv.known (omega (arith, small, is));
    }

pub returns-clause-known : goal.returns-clause-known
returns-clause-known c k d h =
    subst (λ (es : List Entry). All HasSpace es) (take_all c.entries.place c.args.entries.now c.entries-test.false) c.entries.invariant.known k d h
