use Rattle.module_spaces.proofs.Importing.{exact_function_adds, function_adds, global_adds, memory_adds, table_adds, tag_adds}
use Rattle.module_spaces.proofs.imports.of_type.Goals as goal

pub returns-in-Func : goal.returns-in-Func
returns-in-Func c = λ s. rw (c.none-none.ensures, c.in-Func.is) (function_adds s)

pub returns-in-FuncExact : goal.returns-in-FuncExact
returns-in-FuncExact c = λ s. rw (c.none-none.ensures, c.in-FuncExact.is) (exact_function_adds s)

pub returns-in-Table : goal.returns-in-Table
returns-in-Table c = λ s. rw (c.none-none.ensures, c.in-Table.is) (table_adds s)

pub returns-in-Memory : goal.returns-in-Memory
returns-in-Memory c = λ s. rw (c.none-none.ensures, c.in-Memory.is) (memory_adds s)

pub returns-in-Global : goal.returns-in-Global
returns-in-Global c = λ s. rw (c.none-none.ensures, c.in-Global.is) (global_adds s)

pub returns-in-Tag : goal.returns-in-Tag
returns-in-Tag c = λ s. rw (c.none-none.ensures, c.in-Tag.is) (tag_adds s)
