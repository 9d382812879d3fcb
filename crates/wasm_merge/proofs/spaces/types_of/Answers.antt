use Rattle.std.proofs.Common.{arith, lit≤}
use Rattle.std.proofs.lemmas.Option.{IfSome_then}
use Rattle.wasm_shapes.specs.declared.SectionId.TheVariants as id
use Rattle.module_spaces.specs.Spaces.{group_types}
use Rattle.wasm_merge.proofs.Numbers.{none_of, one_of}
use Rattle.wasm_merge.proofs.spaces.types_of.Goals as goal

pub returns-in-One : goal.returns-in-One
returns-in-One c = IfSome_then c.types_in.result c.types_in.ensures.some (λ n added t a single. let f = c.in-One.ensures a.0 t a.1 in one_of id.Type_ group_types (lit≤ tt) f.1 f.2 added)

pub returns-in-Missing : goal.returns-in-Missing
returns-in-Missing c = λ t a single. none_of id.Type_ group_types t (c.in-Missing.ensures a.0 t a.1)

pub returns-in-Repeated : goal.returns-in-Repeated
returns-in-Repeated c = λ t a single. absurd (omega (arith, c.in-Repeated.ensures a.0 t a.1, single id.Type_ (lit≤ tt)))
