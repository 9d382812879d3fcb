use Rattle.std.proofs.Common.{◌+◌, ◌-◌, ◌*◌, length}
use Rattle.reencode_component.proofs.sections_walked.EachComponent.{ComponentKept}
use Rattle.reencode_component.proofs.component_walk.+components.Given as goal

-- the scopes that may still be opened, and between two the order of the calls

abbrev pub decreases-parse_component_subcomponent : goal.decreases-parse_component_subcomponent
decreases-parse_component_subcomponent g l = 4 * (200 - l.depth)

abbrev pub decreases-section : goal.decreases-section
decreases-section g l = 4 * (200 - l.depth) + 1

abbrev pub decreases-parse_component_payload : goal.decreases-parse_component_payload
decreases-parse_component_payload g l = 4 * (200 - l.depth) + 2

abbrev pub decreases-parse_component : goal.decreases-parse_component
decreases-parse_component g l = 4 * (200 - l.depth) + 3

-- the sections so far are walked and added
abbrev pub invariant-parse_component-sections : goal.invariant-parse_component-sections
invariant-parse_component-sections g l =
    ComponentKept g.T.ReencodeIndices l.fn.depth l.fn.bytes l.initial.payloads l.initial.reencoder l.initial.component l.payloads l.reencoder l.component

abbrev pub decreases-parse_component-sections : goal.decreases-parse_component-sections
decreases-parse_component-sections g l = length l.payloads.rest
