use Rattle.reencode_component.proofs.within.reencode_within.Goals as goal

pub returns-in-Some : goal.returns-in-Some
returns-in-Some g c =
    let stands = rw c.in-Some.is at c.behind_header.ensures.some in
    record { core = λ none. absurd (none c.in-Some.field-0.now stands); component = λ h. c.reencode_component.ensures }

pub returns-in-None : goal.returns-in-None
returns-in-None g c =
    let none = rw c.in-None.is at c.behind_header.ensures.none in
    record { core = λ n. c.reencode_core.ensures; component = λ h. absurd (none h.0 h.1) }
