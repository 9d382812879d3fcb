-- The laws of `specs/Laws.antt`.
use Rattle.std.proofs.Common.{◌≡◌, ℕ, List, [], ◌∷◌, ◌++◌, refl, ap, ◌∙◌, inl, inr}
use Rattle.wasm_shapes.specs.Tree.{Tree, fill}
use Rattle.wasm_shapes.specs.Shape.{Shape}
use Rattle.wasm_shapes.specs.Spells.{Is, Spelled, Spells}
use Rattle.wasm_shapes.specs.Module.{core_header, headed, headed_tree, sections, core_module, core_tree}
use Rattle.wasm_shapes.specs.Laws as statements
use Rattle.wasm_shapes.proofs.Unique.{unique, named_sound, named_closed}
use Rattle.wasm_shapes.proofs.ReadBack.{read_back, spelled_in_range, fill_in_range, fill_is}

pub shapes_unique : statements.IsUnique
shapes_unique s k c x y a b t u p q e = unique p.shaped q.shaped x y a b k (inl c) p.spelled q.spelled e

pub one_tree : statements.HasOneTree
one_tree s k x t u p q = (unique p.shaped q.shaped x x [] [] k (inr (refl, refl)) p.spelled q.spelled refl).1

pub filled_read_back : statements.IsReadBack
filled_read_back s x t answers small p fits = record {
  shaped = fill_is p.shaped answers;
  spelled = read_back (fill t answers) (fill_in_range t answers (spelled_in_range t x p.spelled) small) fits;
}

pub read_back_as_is : statements.IsReadBackAsIs
read_back_as_is s x t p fits = record { shaped = p.shaped; spelled = read_back t (spelled_in_range t x p.spelled) fits }

pub tables_sound : statements.AreSound
tables_sound = record {
  named = named_sound;
  ends = named_closed;
  section_sound = refl;
  section_ends = refl;
  frame_sound = refl;
  core_sound = refl;
}

-- ---- a header before a shape

pub head_forth : (hs : List ℕ) {s : Shape} {rest : List ℕ} {t : Tree} → Spells s rest t → Spells (headed hs s) (hs ++ rest) (headed_tree hs t)
head_forth [] p = p
head_forth (h ∷ hs) {rest = rest} p =
    let others = head_forth hs p in record {
      shaped = Is.seq Is.fixed others.shaped;
      spelled = (h ∷ [], hs ++ rest, refl, refl, others.spelled);
    }

pub head_back : (hs : List ℕ) (s : Shape) (bytes : List ℕ) (t : Tree) → Is (headed hs s) t → Spelled t bytes →
    (rest : List ℕ) × (u : Tree) × (bytes ≡ hs ++ rest) × (t ≡ headed_tree hs u) × Spells s rest u
head_back [] s bytes t d p = (bytes, t, refl, refl, record { shaped = d; spelled = p })
head_back (h ∷ hs) s bytes t (Is.seq {u = v} Is.fixed d) p =
    let others = head_back hs s p.1 v d p.4 in (
      others.0,
      others.1,
      p.2 ∙ ap (λ (z : List ℕ). z ++ p.1) p.3 ∙ ap (λ (z : List ℕ). h ∷ z) others.2,
      ap (λ (w : Tree). Tree.pair (Tree.fixed h) w) others.3,
      others.4,
    )

pub module_headed : statements.IsHeaded
module_headed = record {
  forth = λ bytes t r. go bytes t r.rest r.stands r.spells;
  back = λ bytes t p.
      let b = head_back core_header sections bytes t p.shaped p.spelled in
      (b.1, b.3, record { rest = b.0; stands = b.2; spells = b.4 });
}
  where
    go : (bytes : List ℕ) (t : Tree) (rest : List ℕ) → bytes ≡ core_header ++ rest → Spells sections rest t → Spells core_module bytes (core_tree t)
    go bytes t rest e p = let whole = head_forth core_header p in record { shaped = whole.shaped; spelled = rw e whole.spelled }
