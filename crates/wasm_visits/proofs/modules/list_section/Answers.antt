use Rattle.std.proofs.Common.{refl}
use Rattle.wasm_shapes.specs.declared.SectionId.TheVariants as ids
use Rattle.wasm_shapes.specs.declared.Space.TheVariants as space
use Rattle.wasm_visits.proofs.ModulesListed.{of_item, of_rows}
use Rattle.wasm_visits.proofs.modules.list_section.Goals as goal

pub returns-in-Type_ : goal.returns-in-Type_
returns-in-Type_ c = of_rows c.args.end c.args.body.now c.args.lister.now.visits c.list_rows.new.lister.visits c.list_rows.result ids.Type_ refl c.args.id c.in-Type_.is c.list_rows.ensures

pub returns-in-Import : goal.returns-in-Import
returns-in-Import c = of_rows c.args.end c.args.body.now c.args.lister.now.visits c.list_rows-in-Import.new.lister.visits c.list_rows-in-Import.result ids.Import refl c.args.id c.in-Import.is c.list_rows-in-Import.ensures

pub returns-in-Function : goal.returns-in-Function
returns-in-Function c = of_rows c.args.end c.args.body.now c.args.lister.now.visits c.list_rows-in-Function.new.lister.visits c.list_rows-in-Function.result ids.Function refl c.args.id c.in-Function.is c.list_rows-in-Function.ensures

pub returns-in-Table : goal.returns-in-Table
returns-in-Table c = of_rows c.args.end c.args.body.now c.args.lister.now.visits c.list_rows-in-Table.new.lister.visits c.list_rows-in-Table.result ids.Table refl c.args.id c.in-Table.is c.list_rows-in-Table.ensures

pub returns-in-Memory : goal.returns-in-Memory
returns-in-Memory c = of_rows c.args.end c.args.body.now c.args.lister.now.visits c.list_rows-in-Memory.new.lister.visits c.list_rows-in-Memory.result ids.Memory refl c.args.id c.in-Memory.is c.list_rows-in-Memory.ensures

pub returns-in-Global : goal.returns-in-Global
returns-in-Global c = of_rows c.args.end c.args.body.now c.args.lister.now.visits c.list_rows-in-Global.new.lister.visits c.list_rows-in-Global.result ids.Global refl c.args.id c.in-Global.is c.list_rows-in-Global.ensures

pub returns-in-Export : goal.returns-in-Export
returns-in-Export c = of_rows c.args.end c.args.body.now c.args.lister.now.visits c.list_rows-in-Export.new.lister.visits c.list_rows-in-Export.result ids.Export refl c.args.id c.in-Export.is c.list_rows-in-Export.ensures

pub returns-in-Element : goal.returns-in-Element
returns-in-Element c = of_rows c.args.end c.args.body.now c.args.lister.now.visits c.list_rows-in-Element.new.lister.visits c.list_rows-in-Element.result ids.Element refl c.args.id c.in-Element.is c.list_rows-in-Element.ensures

pub returns-in-Data : goal.returns-in-Data
returns-in-Data c = of_rows c.args.end c.args.body.now c.args.lister.now.visits c.list_rows-in-Data.new.lister.visits c.list_rows-in-Data.result ids.Data refl c.args.id c.in-Data.is c.list_rows-in-Data.ensures

pub returns-in-Tag : goal.returns-in-Tag
returns-in-Tag c = of_rows c.args.end c.args.body.now c.args.lister.now.visits c.list_rows-in-Tag.new.lister.visits c.list_rows-in-Tag.result ids.Tag refl c.args.id c.in-Tag.is c.list_rows-in-Tag.ensures

pub returns-in-Code : goal.returns-in-Code
returns-in-Code c = of_rows c.args.end c.args.body.now c.args.lister.now.visits c.list_bodies.new.lister.visits c.list_bodies.result ids.Code refl c.args.id c.in-Code.is c.list_bodies.ensures

pub returns-in-Start : goal.returns-in-Start
returns-in-Start c = of_item c.args.end c.args.body.now c.args.lister.now.visits c.list_item.new.lister.visits c.list_item.result ids.Start space.Function refl c.args.id c.in-Start.is c.list_item.ensures

pub returns-in-DataCount : goal.returns-in-DataCount
returns-in-DataCount c = of_item c.args.end c.args.body.now c.args.lister.now.visits c.list_item-in-DataCount.new.lister.visits c.list_item-in-DataCount.result ids.DataCount space.DataCount refl c.args.id c.in-DataCount.is c.list_item-in-DataCount.ensures
