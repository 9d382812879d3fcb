-- A row that is a head, which asks nothing, and a body in a frame.
use Rattle.std.proofs.Common.{◌≡◌, ℕ, ◌≤◌, ◌<◌, length, refl}
use Rattle.wasm_shapes.specs.Tree.{Tree, normal}
use Rattle.reencode_hooks.specs.declared.error.Error.{Error}
use Rattle.reencode_hooks.specs.declared.error.Error.TheVariants.{TooLarge}
use Rattle.reencode_hooks.specs.Run.{accepted, refused}
use Rattle.reencode_hooks.specs.Walk.{walk}
use Rattle.reencode_core.specs.Rows.{Asks}
use Rattle.reencode_core.proofs.sections_walked.KnownKind.{closed_fits, closed_large}

abbrev pub framed : ℕ → Tree → Tree → Tree
framed k head body = Tree.row k (Tree.pair head (Tree.sized body))

module _ {S E : Type 0} (asked : Asks S E) (k : ℕ) (head : Tree) (c : ℕ) (s m : S) (t : Tree) (still : walk asked c s head ≡ accepted head s) where
  pub framed_fits : (u : Tree) → walk asked c s t ≡ accepted u m → length (normal u) ≤ c → walk asked c s (framed k head t) ≡ accepted (framed k head u) m
  framed_fits u walked l = rw (still, walked, closed_fits {E = E} c u m l) refl

  pub framed_large : (u : Tree) → walk asked c s t ≡ accepted u m → c < length (normal u) → walk asked c s (framed k head t) ≡ refused (TooLarge (length (normal u))) m
  framed_large u walked l = rw (still, walked, closed_large {E = E} c u m l) refl

  pub framed_refused : (e : Error E) → walk asked c s t ≡ refused e m → walk asked c s (framed k head t) ≡ refused e m
  framed_refused e stops = rw (still, stops) refl
