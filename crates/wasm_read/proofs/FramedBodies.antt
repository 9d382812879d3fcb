-- The bodies of functions and the frames that they stand in.
use Rattle.std.proofs.Common.{◌≡◌, ℕ, List, ◌++◌, refl, sym, subst}
use Rattle.wasm_shapes.specs.Tree.{Tree}
use Rattle.wasm_shapes.specs.Spells.{Is, Spelled, Spells}
use Rattle.wasm_shapes.specs.Place.{Begins}
use Rattle.wasm_shapes.specs.Module.{body, code_row}
use Rattle.wasm_read.specs.Operations.{frame_row}
use Rattle.wasm_read.specs.Laws as statements

-- a body in its frame
pub code_begins : {bytes contents left : List ℕ} {t : Tree} → Begins frame_row bytes (Tree.sized (Tree.raw contents)) left → Spells body contents t → Begins code_row bytes (Tree.sized t) left
code_begins {t = t} there p =
    let s = there.spells.spelled in
    let P : List ℕ → Type 0 = λ z. Spelled t z in record {
      text = there.text;
      spells = record { shaped = Is.sized p.shaped; spelled = (s.0, s.1, s.2, s.3, subst P (sym s.4) p.spelled) };
      reads = there.reads;
    }

-- a frame holds what stands in it
pub frame_of : {bytes left : List ℕ} {t : Tree} → Begins code_row bytes t left →
    (contents : List ℕ) × (u : Tree) × (t ≡ Tree.sized u) × Begins frame_row bytes (Tree.sized (Tree.raw contents)) left × Spells body contents u
frame_of {bytes = bytes} {left = left} {t = t} there = go t there.text there.spells.shaped there.spells.spelled there.reads
  where
    go : (t : Tree) (x : List ℕ) → Is code_row t → Spelled t x → bytes ≡ x ++ left →
        (contents : List ℕ) × (u : Tree) × (t ≡ Tree.sized u) × Begins frame_row bytes (Tree.sized (Tree.raw contents)) left × Spells body contents u
    go t x (Is.sized {t = u} d) s e = (
      s.1,
      u,
      refl,
      record { text = x; spells = record { shaped = Is.sized Is.rest; spelled = (s.0, s.1, s.2, s.3, refl) }; reads = e },
      record { shaped = d; spelled = s.4 },
    )

pub bodies_framed : statements.AreBodiesFramed
bodies_framed = record { forth = λ bytes left t p. frame_of p; back = λ bytes contents left u there p. code_begins there p }
