use Rattle.std.proofs.Common.{refl}
use Rattle.wasm_shapes.specs.declared.SectionId.TheVariants as ids
use Rattle.wasm_shapes.specs.declared.Space.TheVariants as space
use Rattle.reencode_c.proofs.ModulesPlaced.{of_item, of_kind}
use Rattle.reencode_c.proofs.modules.list_section.Goals as goal

pub returns-in-Type_ : goal.returns-in-Type_
returns-in-Type_ c = of_kind c.args.body.now c.args.lister.now c.list_rows.new.lister c.list_rows.result ids.Type_ c.args.id c.in-Type_.is c.list_rows.ensures

pub returns-in-Import : goal.returns-in-Import
returns-in-Import c = of_kind c.args.body.now c.args.lister.now c.list_rows-in-Import.new.lister c.list_rows-in-Import.result ids.Import c.args.id c.in-Import.is c.list_rows-in-Import.ensures

pub returns-in-Function : goal.returns-in-Function
returns-in-Function c = of_kind c.args.body.now c.args.lister.now c.list_rows-in-Function.new.lister c.list_rows-in-Function.result ids.Function c.args.id c.in-Function.is c.list_rows-in-Function.ensures

pub returns-in-Table : goal.returns-in-Table
returns-in-Table c = of_kind c.args.body.now c.args.lister.now c.list_rows-in-Table.new.lister c.list_rows-in-Table.result ids.Table c.args.id c.in-Table.is c.list_rows-in-Table.ensures

pub returns-in-Memory : goal.returns-in-Memory
returns-in-Memory c = of_kind c.args.body.now c.args.lister.now c.list_rows-in-Memory.new.lister c.list_rows-in-Memory.result ids.Memory c.args.id c.in-Memory.is c.list_rows-in-Memory.ensures

pub returns-in-Global : goal.returns-in-Global
returns-in-Global c = of_kind c.args.body.now c.args.lister.now c.list_rows-in-Global.new.lister c.list_rows-in-Global.result ids.Global c.args.id c.in-Global.is c.list_rows-in-Global.ensures

pub returns-in-Export : goal.returns-in-Export
returns-in-Export c = of_kind c.args.body.now c.args.lister.now c.list_rows-in-Export.new.lister c.list_rows-in-Export.result ids.Export c.args.id c.in-Export.is c.list_rows-in-Export.ensures

pub returns-in-Element : goal.returns-in-Element
returns-in-Element c = of_kind c.args.body.now c.args.lister.now c.list_rows-in-Element.new.lister c.list_rows-in-Element.result ids.Element c.args.id c.in-Element.is c.list_rows-in-Element.ensures

pub returns-in-Data : goal.returns-in-Data
returns-in-Data c = of_kind c.args.body.now c.args.lister.now c.list_rows-in-Data.new.lister c.list_rows-in-Data.result ids.Data c.args.id c.in-Data.is c.list_rows-in-Data.ensures

pub returns-in-Tag : goal.returns-in-Tag
returns-in-Tag c = of_kind c.args.body.now c.args.lister.now c.list_rows-in-Tag.new.lister c.list_rows-in-Tag.result ids.Tag c.args.id c.in-Tag.is c.list_rows-in-Tag.ensures

pub returns-in-Code : goal.returns-in-Code
returns-in-Code c = of_kind c.args.body.now c.args.lister.now c.list_bodies.new.lister c.list_bodies.result ids.Code c.args.id c.in-Code.is c.list_bodies.ensures

pub returns-in-Start : goal.returns-in-Start
returns-in-Start c = of_item c.args.body.now c.args.lister.now c.list_item.new.lister c.list_item.result ids.Start space.Function refl c.args.id c.in-Start.is c.list_item.ensures

pub returns-in-DataCount : goal.returns-in-DataCount
returns-in-DataCount c =
    of_item c.args.body.now c.args.lister.now c.list_item-in-DataCount.new.lister c.list_item-in-DataCount.result ids.DataCount space.DataCount refl c.args.id c.in-DataCount.is
    c.list_item-in-DataCount.ensures
