use Rattle.std.proofs.Common.{inl, inr, refl, sym, ◌∙◌, arith}
use Rattle.reencode_run.proofs.AnswerLemmas as answers
use Rattle.reencode_run.proofs.Decided.{decided_of}
use Rattle.reencode_run.proofs.tool.run.Goals as goal

pub returns-clause-printed : goal.returns-clause-printed
returns-clause-printed g c e =
    answers.for_job 0 _ _ _ _ _ _ (λ z. omega arith) (answers.at_status _ _ _ _ _ _ 0 c.status.ensures e c.perform_words-answer.ensures.ends) (λ job h. answers.of_printed h)

pub returns-clause-usage : goal.returns-clause-usage
returns-clause-usage g c = (
  λ e. (answers.of_usage _ _ _ _ _ (answers.at_status _ _ _ _ _ _ 2 c.status.ensures e c.perform_words-answer.ensures.ends)).0,
  λ e. answers.usage_of _ _ _ _ _ _ (answers.at_status _ _ _ _ _ _ _ c.status.ensures refl c.perform_words-answer.ensures.ends) e,
)

pub returns-clause-unread : goal.returns-clause-unread
returns-clause-unread g c e = (answers.of_usage _ _ _ _ _ (answers.at_status _ _ _ _ _ _ 2 c.status.ensures e c.perform_words-answer.ensures.ends)).1

pub returns-clause-unfetched : goal.returns-clause-unfetched
returns-clause-unfetched g c e = (answers.of_usage _ _ _ _ _ (answers.at_status _ _ _ _ _ _ 2 c.status.ensures e c.perform_words-answer.ensures.ends)).2

pub returns-clause-files_first : goal.returns-clause-files_first
returns-clause-files_first g c (inl e) =
    answers.for_any 11 _ _ _ _ _ _ (λ z. omega arith) (answers.at_status _ _ _ _ _ _ 11 c.status.ensures e c.perform_words-answer.ensures.ends) (λ job h. (answers.of_bad_file h).1)
returns-clause-files_first g c (inr e) =
    answers.for_any 12 _ _ _ _ _ _ (λ z. omega arith) (answers.at_status _ _ _ _ _ _ 12 c.status.ensures e c.perform_words-answer.ensures.ends) (λ job h. (answers.of_unfetched h).1)

pub returns-clause-read_fault : goal.returns-clause-read_fault
returns-clause-read_fault g c e =
    answers.for_any 3 _ _ _ _ _ _ (λ z. omega arith) (answers.at_status _ _ _ _ _ _ 3 c.status.ensures e c.perform_words-answer.ensures.ends) (λ job h. (answers.of_read_fault h).2)

pub returns-clause-input_fault : goal.returns-clause-input_fault
returns-clause-input_fault g c e =
    answers.for_job 3 _ _ _ _ _ _ (λ z. omega arith) (answers.at_status _ _ _ _ _ _ 3 c.status.ensures e c.perform_words-answer.ensures.ends) (λ job h. answers.of_read_fault h)

pub returns-clause-write_fault : goal.returns-clause-write_fault
returns-clause-write_fault g c e =
    answers.for_any 4 _ _ _ _ _ _ (λ z. omega arith) (answers.at_status _ _ _ _ _ _ 4 c.status.ensures e c.perform_words-answer.ensures.ends) (λ job h. answers.unwritten h)

pub returns-clause-front : goal.returns-clause-front
returns-clause-front g c e =
    answers.for_job 4 _ _ _ _ _ _ (λ z. omega arith) (answers.at_status _ _ _ _ _ _ 4 c.status.ensures e c.perform_words-answer.ensures.ends) (λ job h. answers.of_write_fault h)

pub returns-clause-shelf_fault : goal.returns-clause-shelf_fault
returns-clause-shelf_fault g c e =
    answers.for_any 12 _ _ _ _ _ _ (λ z. omega arith) (answers.at_status _ _ _ _ _ _ 12 c.status.ensures e c.perform_words-answer.ensures.ends) (λ job h. answers.unfetched_rose h)

pub returns-clause-file_fault : goal.returns-clause-file_fault
returns-clause-file_fault g c e =
    answers.for_job 12 _ _ _ _ _ _ (λ z. omega arith) (answers.at_status _ _ _ _ _ _ 12 c.status.ensures e c.perform_words-answer.ensures.ends) (λ job h. (answers.of_unfetched h).0)

pub returns-clause-parse_error : goal.returns-clause-parse_error
returns-clause-parse_error g c e =
    let p = answers.of_parse_error _ _ _ _ _ (answers.at_status _ _ _ _ _ _ 5 c.status.ensures e c.perform_words-answer.ensures.ends) in
    (p.0, p.1, p.2, answers.said _ _ _ _ _ _ p.3 (c.tell.ensures.says (answers.not_zero _ _ 5 c.status.ensures e (λ z. omega arith))))

pub returns-clause-refused : goal.returns-clause-refused
returns-clause-refused g c e =
    let p = answers.of_refused _ _ _ _ _ (answers.at_status _ _ _ _ _ _ 6 c.status.ensures e c.perform_words-answer.ensures.ends) in
    (p.0, p.1, p.2, answers.said _ _ _ _ _ _ p.3 (c.tell.ensures.says (answers.not_zero _ _ 6 c.status.ensures e (λ z. omega arith))))

pub returns-clause-code_size : goal.returns-clause-code_size
returns-clause-code_size g c e =
    let p = answers.of_code_size _ _ _ _ _ (answers.at_status _ _ _ _ _ _ 7 c.status.ensures e c.perform_words-answer.ensures.ends) in
    (p.0, p.1, answers.said _ _ _ _ _ _ p.2 (c.tell.ensures.says (answers.not_zero _ _ 7 c.status.ensures e (λ z. omega arith))))

pub returns-clause-component : goal.returns-clause-component
returns-clause-component g c e =
    let p = answers.of_component _ _ _ _ _ (answers.at_status _ _ _ _ _ _ 8 c.status.ensures e c.perform_words-answer.ensures.ends) in
    (p.0, p.1, answers.said _ _ _ _ _ _ p.2 (c.tell.ensures.says (answers.not_zero _ _ 8 c.status.ensures e (λ z. omega arith))))

pub returns-clause-core_module : goal.returns-clause-core_module
returns-clause-core_module g c e =
    let p = answers.of_core_module _ _ _ _ _ (answers.at_status _ _ _ _ _ _ 9 c.status.ensures e c.perform_words-answer.ensures.ends) in
    (p.0, p.1, answers.said _ _ _ _ _ _ p.2 (c.tell.ensures.says (answers.not_zero _ _ 9 c.status.ensures e (λ z. omega arith))))

pub returns-clause-too_large : goal.returns-clause-too_large
returns-clause-too_large g c e =
    let p = answers.of_too_large _ _ _ _ _ (answers.at_status _ _ _ _ _ _ 10 c.status.ensures e c.perform_words-answer.ensures.ends) in
    (p.0, p.1, p.2, p.3, answers.said _ _ _ _ _ _ p.4 (c.tell.ensures.says (answers.not_zero _ _ 10 c.status.ensures e (λ z. omega arith))))

pub returns-clause-uneven : goal.returns-clause-uneven
returns-clause-uneven g c e =
    let p = answers.of_uneven _ _ _ _ _ (answers.at_status _ _ _ _ _ _ 15 c.status.ensures e c.perform_words-answer.ensures.ends) in
    (p.0, p.1, p.2, p.3, answers.said _ _ _ _ _ _ p.4 (c.tell.ensures.says (answers.not_zero _ _ 15 c.status.ensures e (λ z. omega arith))))

pub returns-clause-repeated : goal.returns-clause-repeated
returns-clause-repeated g c e =
    let p = answers.of_repeated _ _ _ _ _ (answers.at_status _ _ _ _ _ _ 16 c.status.ensures e c.perform_words-answer.ensures.ends) in
    (p.0, p.1, p.2, answers.said _ _ _ _ _ _ p.3 (c.tell.ensures.says (answers.not_zero _ _ 16 c.status.ensures e (λ z. omega arith))))

pub returns-clause-not_an_order : goal.returns-clause-not_an_order
returns-clause-not_an_order g c e =
    let p = answers.of_not_an_order _ _ _ _ _ (answers.at_status _ _ _ _ _ _ 17 c.status.ensures e c.perform_words-answer.ensures.ends) in
    (p.0, p.1, p.2, answers.said _ _ _ _ _ _ p.3 (c.tell.ensures.says (answers.not_zero _ _ 17 c.status.ensures e (λ z. omega arith))))

pub returns-clause-dangling : goal.returns-clause-dangling
returns-clause-dangling g c e =
    let p = answers.of_dangling _ _ _ _ _ (answers.at_status _ _ _ _ _ _ 18 c.status.ensures e c.perform_words-answer.ensures.ends) in
    (p.0, p.1, p.2, p.3, answers.said _ _ _ _ _ _ p.4 (c.tell.ensures.says (answers.not_zero _ _ 18 c.status.ensures e (λ z. omega arith))))

pub returns-clause-clash : goal.returns-clause-clash
returns-clause-clash g c e =
    let p = answers.of_clash _ _ _ _ _ (answers.at_status _ _ _ _ _ _ 19 c.status.ensures e c.perform_words-answer.ensures.ends) in
    (p.0, p.1, p.2, answers.said _ _ _ _ _ _ p.3 (c.tell.ensures.says (answers.not_zero _ _ 19 c.status.ensures e (λ z. omega arith))))

pub returns-clause-two_starts : goal.returns-clause-two_starts
returns-clause-two_starts g c e =
    let p = answers.of_two_starts _ _ _ _ _ (answers.at_status _ _ _ _ _ _ 20 c.status.ensures e c.perform_words-answer.ensures.ends) in
    (p.0, p.1, answers.said _ _ _ _ _ _ p.2 (c.tell.ensures.says (answers.not_zero _ _ 20 c.status.ensures e (λ z. omega arith))))

pub returns-clause-bad_renaming : goal.returns-clause-bad_renaming
returns-clause-bad_renaming g c e =
    answers.for_job 11 _ _ _ _ _ _ (λ z. omega arith) (answers.at_status _ _ _ _ _ _ 11 c.status.ensures e c.perform_words-answer.ensures.ends) (λ job h. (answers.of_bad_file h).0)

pub returns-clause-too_long : goal.returns-clause-too_long
returns-clause-too_long g c e =
    answers.for_job 13 _ _ _ _ _ _ (λ z. omega arith) (answers.at_status _ _ _ _ _ _ 13 c.status.ensures e c.perform_words-answer.ensures.ends) (λ job h. answers.of_too_long h)

pub returns-clause-not_hexadecimal : goal.returns-clause-not_hexadecimal
returns-clause-not_hexadecimal g c e =
    answers.for_job 14 _ _ _ _ _ _ (λ z. omega arith) (answers.at_status _ _ _ _ _ _ 14 c.status.ensures e c.perform_words-answer.ensures.ends) (λ job h. answers.of_no_digits h)

pub returns-clause-decided : goal.returns-clause-decided
returns-clause-decided g c = decided_of _ _ _ _ _ _ (answers.at_status _ _ _ _ _ _ _ c.status.ensures refl c.perform_words-answer.ensures.ends)

pub returns-clause-statuses : goal.returns-clause-statuses
returns-clause-statuses g c = answers.status_among _ _ _ _ _ _ (answers.at_status _ _ _ _ _ _ _ c.status.ensures refl c.perform_words-answer.ensures.ends)

pub returns-clause-untouched : goal.returns-clause-untouched
returns-clause-untouched g c z f = c.perform_words-answer.ensures.untouched (λ s. z (c.status.ensures ∙ s)) (λ s. f (c.status.ensures ∙ s))

pub returns-clause-quiet : goal.returns-clause-quiet
returns-clause-quiet g c e = c.tell.ensures.quiet (sym c.status.ensures ∙ e)

pub returns-clause-says : goal.returns-clause-says
returns-clause-says g c n one =
    answers.said _ _ _ _ _ _ (answers.message_of _ _ _ _ _ _ (answers.at_status _ _ _ _ _ _ _ c.status.ensures refl c.perform_words-answer.ensures.ends) n one)
    (c.tell.ensures.says (λ s. n (c.status.ensures ∙ s)))
