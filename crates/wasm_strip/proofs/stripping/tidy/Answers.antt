use Rattle.std.proofs.lemmas.Result.{IfErr-weaker, IfOk-weaker}
use Rattle.wasm_strip.proofs.Unread.{none_where, tidied_binary_short}
use Rattle.wasm_strip.proofs.stripping.tidy.Goals as goal

pub returns-in-Some-clause-shorter : goal.returns-in-Some-clause-shorter
returns-in-Some-clause-shorter g c = IfOk-weaker c.tidied.result _ _ (λ out s. tidied_binary_short s) c.tidied.ensures.ok

pub returns-in-Some-clause-none : goal.returns-in-Some-clause-none
returns-in-Some-clause-none g c = IfErr-weaker c.tidied.result _ _ (none_where c.args.bytes.now) c.tidied.ensures.err

pub returns-in-Some-behind_header-clause-shorter :
    goal.returns-in-Some-behind_header-clause-shorter
returns-in-Some-behind_header-clause-shorter g c = IfOk-weaker c.tidied-in-Some-behind_header.result _ _ (λ out s. tidied_binary_short s) c.tidied-in-Some-behind_header.ensures.ok

pub returns-in-Some-behind_header-clause-none : goal.returns-in-Some-behind_header-clause-none
returns-in-Some-behind_header-clause-none g c = IfErr-weaker c.tidied-in-Some-behind_header.result _ _ (none_where c.args.bytes.now) c.tidied-in-Some-behind_header.ensures.err
