use Rattle.std.proofs.Common.{◌≡◌, ap, length, Err, refl, rules, true}
use denote.Param.Always.{mut_by}
use Rattle.wasm_shapes.specs.Types.{is_core}
use Rattle.reencode_core.proofs.names_mapped.EachSubsection.{direct_map, direct_row, map_calls, map_stopped, map_written, no_wrap, normal_map, not_written}
use Rattle.reencode_core.proofs.names_mapped.MapCalls.{quiet_name}
use Rattle.reencode_core.proofs.subsections.parse_names.Goals as goal

pub map_names-requires : goal.map_names-requires
map_names-requires g c = mut_by _ (λ f. is_core f.1.now ≡ true) (λ f a h. search rules) (λ f a r f' h k. search rules) _ c.requires

pub returns-in-Ok-clause-default : goal.returns-in-Ok-clause-default
returns-in-Ok-clause-default g c = λ keeps n is.
    let w = c.add_names.ensures in
    (map_written g.T.ReencodeIndices (direct_map _ c.args.space (direct_row c.args.space c.requires) is) (no_wrap _) _ _ (ap length (normal_map c.args.space _)) (map_calls g.T.ReencodeIndices c.args.space (quiet_name _) _ (λ f. f.0.now) (λ f. f.0.ghost_name) (λ f. f.1.now) (λ f j r f' k. search rules) _ _ _ _ refl c.in-Ok.ensures (λ e. search rules)) _ w.ok w.fits w.err w.large _ c.written.ensures).default keeps

pub returns-in-Err-clause-default : goal.returns-in-Err-clause-default
returns-in-Err-clause-default g c = λ keeps n is.
    (map_stopped g.T.ReencodeIndices (direct_map _ c.args.space (direct_row c.args.space c.requires) is) (no_wrap _) _ (map_calls g.T.ReencodeIndices c.args.space (quiet_name _) _ (λ f. f.0.now) (λ f. f.0.ghost_name) (λ f. f.1.now) (λ f j r f' k. search rules) _ _ _ _ refl c.in-Err.ensures (λ e. search rules)) _ refl).default keeps

pub returns-in-Ok-clause-after_error : goal.returns-in-Ok-clause-after_error
returns-in-Ok-clause-after_error g c = λ keeps n is.
    let w = c.add_names.ensures in
    (map_written g.T.ReencodeIndices (direct_map _ c.args.space (direct_row c.args.space c.requires) is) (no_wrap _) _ _ (ap length (normal_map c.args.space _)) (map_calls g.T.ReencodeIndices c.args.space (quiet_name _) _ (λ f. f.0.now) (λ f. f.0.ghost_name) (λ f. f.1.now) (λ f j r f' k. search rules) _ _ _ _ refl c.in-Ok.ensures (λ e. search rules)) _ w.ok w.fits w.err w.large _ c.written.ensures).after_error keeps

pub returns-in-Err-clause-after_error : goal.returns-in-Err-clause-after_error
returns-in-Err-clause-after_error g c = λ keeps n is.
    (map_stopped g.T.ReencodeIndices (direct_map _ c.args.space (direct_row c.args.space c.requires) is) (no_wrap _) {old = c.args.names.now} _ (map_calls g.T.ReencodeIndices c.args.space (quiet_name _) _ (λ f. f.0.now) (λ f. f.0.ghost_name) (λ f. f.1.now) (λ f j r f' k. search rules) _ _ _ _ refl c.in-Err.ensures (λ e. search rules)) (Err c.in-Err.e) refl).after_error keeps

pub returns-in-Ok-clause-unchanged : goal.returns-in-Ok-clause-unchanged
returns-in-Ok-clause-unchanged g c = λ keeps. not_written _ _ _ c.add_names.ensures.err _ c.written.ensures
