-- The state that a mapped item leaves.
pub use Rattle.reencode_hooks.proofs.Leaving.{accepted_visited, first_visited, hook_visited, never_wants, none_visited, one_visited, refused_visited, second_visited, sure_visited, visited_left}
