use Rattle.std.proofs.Common.{true, false, refl, lit<, arith}
use Rattle.wasm_shapes.specs.declared.Space.TheVariants as space
use Rattle.wasm_visits.proofs.NamesListed.{of_entries, of_other, of_text}
use Rattle.wasm_visits.proofs.names.list_subsection.Goals as goal

pub returns-in-Some : goal.returns-in-Some
returns-in-Some c = of_text c.args.end _ c.args.lister.now.visits c.in-0.is c.in-Some.ensures.some

pub returns-in-1 : goal.returns-in-1
returns-in-1 c = of_entries c.args.end c.args.body.now c.args.lister.now.visits c.list_entries.new.lister.visits c.list_entries.result 1 false space.Function (lit< tt) refl c.args.id c.in-1.is c.list_entries.ensures

pub returns-in-2 : goal.returns-in-2
returns-in-2 c = of_entries c.args.end c.args.body.now c.args.lister.now.visits c.list_entries-in-2.new.lister.visits c.list_entries-in-2.result 2 true space.Function (lit< tt) refl c.args.id c.in-2.is c.list_entries-in-2.ensures

pub returns-in-3 : goal.returns-in-3
returns-in-3 c = of_entries c.args.end c.args.body.now c.args.lister.now.visits c.list_entries-in-3.new.lister.visits c.list_entries-in-3.result 3 true space.Function (lit< tt) refl c.args.id c.in-3.is c.list_entries-in-3.ensures

pub returns-in-4 : goal.returns-in-4
returns-in-4 c = of_entries c.args.end c.args.body.now c.args.lister.now.visits c.list_entries-in-4.new.lister.visits c.list_entries-in-4.result 4 false space.Type_ (lit< tt) refl c.args.id c.in-4.is c.list_entries-in-4.ensures

pub returns-in-5 : goal.returns-in-5
returns-in-5 c = of_entries c.args.end c.args.body.now c.args.lister.now.visits c.list_entries-in-5.new.lister.visits c.list_entries-in-5.result 5 false space.Table (lit< tt) refl c.args.id c.in-5.is c.list_entries-in-5.ensures

pub returns-in-6 : goal.returns-in-6
returns-in-6 c = of_entries c.args.end c.args.body.now c.args.lister.now.visits c.list_entries-in-6.new.lister.visits c.list_entries-in-6.result 6 false space.Memory (lit< tt) refl c.args.id c.in-6.is c.list_entries-in-6.ensures

pub returns-in-7 : goal.returns-in-7
returns-in-7 c = of_entries c.args.end c.args.body.now c.args.lister.now.visits c.list_entries-in-7.new.lister.visits c.list_entries-in-7.result 7 false space.Global (lit< tt) refl c.args.id c.in-7.is c.list_entries-in-7.ensures

pub returns-in-8 : goal.returns-in-8
returns-in-8 c = of_entries c.args.end c.args.body.now c.args.lister.now.visits c.list_entries-in-8.new.lister.visits c.list_entries-in-8.result 8 false space.Element (lit< tt) refl c.args.id c.in-8.is c.list_entries-in-8.ensures

pub returns-in-9 : goal.returns-in-9
returns-in-9 c = of_entries c.args.end c.args.body.now c.args.lister.now.visits c.list_entries-in-9.new.lister.visits c.list_entries-in-9.result 9 false space.Data (lit< tt) refl c.args.id c.in-9.is c.list_entries-in-9.ensures

pub returns-in-10 : goal.returns-in-10
returns-in-10 c = of_entries c.args.end c.args.body.now c.args.lister.now.visits c.list_entries-in-10.new.lister.visits c.list_entries-in-10.result 10 true space.Type_ (lit< tt) refl c.args.id c.in-10.is c.list_entries-in-10.ensures

pub returns-in-11 : goal.returns-in-11
returns-in-11 c = of_entries c.args.end c.args.body.now c.args.lister.now.visits c.list_entries-in-11.new.lister.visits c.list_entries-in-11.result 11 false space.Tag (lit< tt) refl c.args.id c.in-11.is c.list_entries-in-11.ensures

pub returns-in_default : goal.returns-in_default
returns-in_default c = of_other c.args.end c.args.lister.now.visits (omega (arith, c.in_default))
