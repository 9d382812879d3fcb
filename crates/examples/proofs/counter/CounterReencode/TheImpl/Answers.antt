use Rattle.examples.proofs.counter.CounterReencode.TheImpl.Goals as goal

pub parse_type_section-tells : goal.parse_type_section-tells
parse_type_section-tells g c = record { kept = c.ensures.kept; default = λ never. absurd cc; after_error = λ never. absurd cc; wants = λ never. absurd cc }

pub parse_import_section-tells : goal.parse_import_section-tells
parse_import_section-tells g c = record { kept = c.ensures.kept; default = λ never. absurd cc; after_error = λ never. absurd cc; wants = λ never. absurd cc }

pub parse_function_body-tells : goal.parse_function_body-tells
parse_function_body-tells g c = record { kept = c.ensures.kept; default = λ never. absurd cc; after_error = λ never. absurd cc }
