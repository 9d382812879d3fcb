use Rattle.reencode_core.proofs.rows_walked.ElementWalks.{element_unlisted, active_added, active_offset_refused, active_table_refused, active_too_large, declared_added, declared_too_large, passive_added, passive_too_large}
use Rattle.reencode_core.proofs.utils.parse_element.Goals as goal

pub returns-in_err-items : goal.returns-in_err-items
returns-in_err-items g c =
    let row = c.args.element in
    let gone = c.in_err-items.ensures in
    element_unlisted g.T.ReencodeIndices _ _ row.items row.kind _ gone.default gone.after_error _ c.from_residual.ensures.1

pub returns-in_err-answer-in-Active : goal.returns-in_err-answer-in-Active
returns-in_err-answer-in-Active g c =
    let gone = c.in_err-answer-in-Active.ensures in
    let stops = rw c.asked_table.ensures at gone.answer in
    rw c.in-Active.is (active_table_refused g.T.ReencodeIndices _ _ c.args.element.items c.in_ok-items.items c.in_ok-items.ensures.default c.in-Active.table_index c.in-Active.offset_expr _ stops gone.sure _ c.from_residual-in_err-answer-in-Active.ensures.1)

pub returns-in_err-offset-in-Active : goal.returns-in_err-offset-in-Active
returns-in_err-offset-in-Active g c =
    let tabled = rw c.asked_table.ensures at c.in_ok-answer-in-Active.ensures.answer in
    let maps = rw c.in-Active.is at c.in_err-offset-in-Active.ensures.default in
    let left = rw c.in-Active.is at c.in_err-offset-in-Active.ensures.after_error in
    rw c.in-Active.is (active_offset_refused g.T.ReencodeIndices _ _ c.args.element.items c.in_ok-items.items c.in_ok-items.ensures.default c.in-Active.table_index c.in-Active.offset_expr _ tabled _ maps left _ c.from_residual-in_err-offset-in-Active.ensures.1)

pub returns-in_err-active-in-Active : goal.returns-in_err-active-in-Active
returns-in_err-active-in-Active g c =
    let tabled = rw c.asked_table.ensures at c.in_ok-answer-in-Active.ensures.answer in
    let maps = rw c.in-Active.is at c.in_ok-offset-in-Active.ensures.default in
    let gone = c.in_err-active-in-Active.ensures in
    rw c.in-Active.is (active_too_large g.T.ReencodeIndices _ _ c.args.element.items c.in_ok-items.items c.in_ok-items.ensures.default c.in-Active.table_index c.in-Active.offset_expr _ tabled c.in_ok-offset-in-Active.offset maps _ gone.err gone.large _ c.from_residual-in_err-active-in-Active.ensures.1)

pub returns-in-Active : goal.returns-in-Active
returns-in-Active g c =
    let tabled = rw c.asked_table.ensures at c.in_ok-answer-in-Active.ensures.answer in
    let maps = rw c.in-Active.is at c.in_ok-offset-in-Active.ensures.default in
    let added = rw c.answered_table-table.ensures at c.in_ok-active-in-Active.ensures.ok in
    rw c.in-Active.is (active_added g.T.ReencodeIndices _ _ c.args.element.items c.in_ok-items.items c.in_ok-items.ensures.default c.in-Active.table_index c.in-Active.offset_expr _ tabled c.in_ok-offset-in-Active.offset maps added)

pub returns-in_err-passive-in-Passive : goal.returns-in_err-passive-in-Passive
returns-in_err-passive-in-Passive g c =
    let gone = c.in_err-passive-in-Passive.ensures in
    rw c.in-Passive.is (passive_too_large g.T.ReencodeIndices _ _ c.args.element.items c.in_ok-items.items c.in_ok-items.ensures.default _ gone.err gone.large _ c.from_residual-in_err-passive-in-Passive.ensures.1)

pub returns-in-Passive : goal.returns-in-Passive
returns-in-Passive g c =
    rw c.in-Passive.is (passive_added g.T.ReencodeIndices _ _ c.args.element.items c.in_ok-items.items c.in_ok-items.ensures.default c.in_ok-passive-in-Passive.ensures.ok)

pub returns-in_err-declared-in-Declared : goal.returns-in_err-declared-in-Declared
returns-in_err-declared-in-Declared g c =
    let gone = c.in_err-declared-in-Declared.ensures in
    rw c.in-Declared.is (declared_too_large g.T.ReencodeIndices _ _ c.args.element.items c.in_ok-items.items c.in_ok-items.ensures.default _ gone.err gone.large _ c.from_residual-in_err-declared-in-Declared.ensures.1)

pub returns : goal.returns
returns g c =
    rw c.in-Declared.is (declared_added g.T.ReencodeIndices _ _ c.args.element.items c.in_ok-items.items c.in_ok-items.ensures.default c.in_ok-declared-in-Declared.ensures.ok)
