-- The sections of a component and their frames.
use Rattle.std.proofs.Common.{inl, inr, ℕ, zero, suc, ◌≤◌, lit≤, List, [], ◌∷◌, refl, sym, subst, arith}
use Rattle.wasm_shapes.specs.Tree.{Tree}
use Rattle.wasm_shapes.specs.Shape.{Shape, choice}
use Rattle.wasm_shapes.specs.Spells.{Is, Spelled, Spells}
use Rattle.wasm_shapes.specs.Sections.{frame, numbered_frame, custom_frame}
use Rattle.wasm_shapes.specs.Component.{row_at, component_section_rows, component_section, component_custom, component_names_name, component_body_of, component_section_tree, unknown_component_tree}
use Rattle.wasm_shapes.specs.ComponentReadings.{ReadsComponentContents, InComponentFrame}

-- ---- a section stands in a frame

record Framed (t : Tree) (x : List ℕ) : Type 0 where
  frame : Tree
  is : InComponentFrame t frame
  spells : Spells Rattle.wasm_shapes.specs.Sections.frame x frame

-- of a known id
of_number : (id : ℕ) (u : Tree) (x : List ℕ) → 1 ≤ id → id ≤ 11 → Is (component_body_of id) u → Spelled (component_section_tree id u) x → Framed (component_section_tree id u) x
of_number id u x low high d p = record {
  frame = numbered_frame id p.4.1;
  is = InComponentFrame.of_id id u p.4.1 low high (record { shaped = d; spelled = p.4.4 });
  spells = record {
    shaped = Is.later {k = 0} (Is.first (Is.seq (Is.within low (omega (arith, high))) (Is.sized Is.rest)));
    spelled = (p.0, p.1, p.2, (p.3, omega (arith, high)), (p.4.0, p.4.1, p.4.2, p.4.3, refl));
  };
}

-- a custom one
of_custom : (u : Tree) (x : List ℕ) → Is component_custom u → Spelled (component_section_tree 0 u) x → Framed (component_section_tree 0 u) x
of_custom u x (Is.named {t = v} d) p =
    let q = p.4.4 in record {
      frame = custom_frame component_names_name q.1;
      is = InComponentFrame.of_custom component_names_name q.1 v (inl (refl, record { shaped = d; spelled = q.4 }));
      spells = record {
        shaped = Is.first (Is.seq Is.fixed (Is.sized (Is.seq Is.name Is.rest)));
        spelled = (p.0, p.1, p.2, p.3, (p.4.0, p.4.1, p.4.2, p.4.3, (q.0, q.1, q.2, q.3, refl)));
      };
    }
of_custom u x (Is.other {bs = name} other (Is.rest {bs = r})) p = record {
  frame = custom_frame name r;
  is = InComponentFrame.of_custom name r (Tree.raw r) (inr (other, refl));
  spells = record { shaped = Is.first (Is.seq Is.fixed (Is.sized (Is.seq Is.name Is.rest))); spelled = p };
}

of_unknown : (id : ℕ) (contents x : List ℕ) → 12 ≤ id → id ≤ 127 → Spelled (unknown_component_tree id contents) x → Framed (unknown_component_tree id contents) x
of_unknown id contents x low high p = record {
  frame = numbered_frame id contents;
  is = InComponentFrame.of_unknown id contents low high;
  spells = record { shaped = Is.later {k = 0} (Is.first (Is.seq (Is.within (omega (arith, low)) high) (Is.sized Is.rest))); spelled = p };
}

in_frame : (t : Tree) (x : List ℕ) → Is component_section t → Spelled t x → Framed t x
in_frame t x (Is.first (Is.seq Is.fixed (Is.sized d))) p = of_custom _ x d p
in_frame t x (Is.later (Is.first (Is.seq Is.fixed (Is.sized d)))) p = of_number 1 _ x (lit≤ tt) (lit≤ tt) d p
in_frame t x (Is.later (Is.later (Is.first (Is.seq Is.fixed (Is.sized d))))) p = of_number 2 _ x (lit≤ tt) (lit≤ tt) d p
in_frame t x (Is.later (Is.later (Is.later (Is.first (Is.seq Is.fixed (Is.sized d)))))) p = of_number 3 _ x (lit≤ tt) (lit≤ tt) d p
in_frame t x (Is.later (Is.later (Is.later (Is.later (Is.first (Is.seq Is.fixed (Is.ref (Is.sized d)))))))) p = of_number 4 _ x (lit≤ tt) (lit≤ tt) d p
in_frame t x (Is.later (Is.later (Is.later (Is.later (Is.later (Is.first (Is.seq Is.fixed (Is.sized d)))))))) p = of_number 5 _ x (lit≤ tt) (lit≤ tt) d p
in_frame t x (Is.later (Is.later (Is.later (Is.later (Is.later (Is.later (Is.first (Is.seq Is.fixed (Is.sized d))))))))) p = of_number 6 _ x (lit≤ tt) (lit≤ tt) d p
in_frame t x (Is.later (Is.later (Is.later (Is.later (Is.later (Is.later (Is.later (Is.first (Is.seq Is.fixed (Is.sized d)))))))))) p =
    of_number 7 _ x (lit≤ tt) (lit≤ tt) d p
in_frame t x (Is.later (Is.later (Is.later (Is.later (Is.later (Is.later (Is.later (Is.later (Is.first (Is.seq Is.fixed (Is.sized d))))))))))) p =
    of_number 8 _ x (lit≤ tt) (lit≤ tt) d p
in_frame t x (Is.later (Is.later (Is.later (Is.later (Is.later (Is.later (Is.later (Is.later (Is.later (Is.first (Is.seq Is.fixed (Is.sized d)))))))))))) p =
    of_number 9 _ x (lit≤ tt) (lit≤ tt) d p
in_frame t x (Is.later (Is.later (Is.later (Is.later (Is.later (Is.later (Is.later (Is.later (Is.later (Is.later (Is.first (Is.seq Is.fixed (Is.sized d))))))))))))) p =
    of_number 10 _ x (lit≤ tt) (lit≤ tt) d p
in_frame t x (Is.later (Is.later (Is.later (Is.later (Is.later (Is.later (Is.later (Is.later (Is.later (Is.later (Is.later (Is.first (Is.seq Is.fixed (Is.sized d)))))))))))))) p =
    of_number 11 _ x (lit≤ tt) (lit≤ tt) d p
in_frame t x (Is.later (Is.later (Is.later (Is.later (Is.later (Is.later (Is.later (Is.later (Is.later (Is.later (Is.later (Is.later (Is.first (Is.seq (Is.within {b = id} low high) (Is.sized (Is.rest {bs = bs})))))))))))))))) p =
    of_unknown id bs x low high p
in_frame t x (Is.later (Is.later (Is.later (Is.later (Is.later (Is.later (Is.later (Is.later (Is.later (Is.later (Is.later (Is.later (Is.later d))))))))))))) p = elim d [ ]

pub in_component_frame : (t : Tree) (x : List ℕ) → Is component_section t → Spelled t x → (f : Tree) × InComponentFrame t f × Spells frame x f
in_component_frame t x d p = let f = in_frame t x d p in (f.frame, f.is, f.spells)

-- ---- and where its frame stands, so does the section

row_is : (rows : List Shape) (k : ℕ) {t : Tree} → Is (row_at rows k) t → Is (choice rows) (Tree.row k t)
row_is [] k d = elim d [ ]
row_is (s ∷ rows) zero d = Is.first d
row_is (s ∷ rows) (suc k) d = Is.later (row_is rows k d)

-- a body in its frame is the row of its id
numbered_is : (id : ℕ) {u : Tree} → id ≤ 11 → Is (component_body_of id) u → Is (row_at component_section_rows id) (Tree.pair (Tree.fixed id) (Tree.sized u))
numbered_is zero h d = Is.seq Is.fixed (Is.sized d)
numbered_is (suc zero) h d = Is.seq Is.fixed (Is.sized d)
numbered_is (suc (suc zero)) h d = Is.seq Is.fixed (Is.sized d)
numbered_is (suc (suc (suc zero))) h d = Is.seq Is.fixed (Is.sized d)
numbered_is (suc (suc (suc (suc zero)))) h d = Is.seq Is.fixed (Is.ref (Is.sized d))
numbered_is (suc (suc (suc (suc (suc zero))))) h d = Is.seq Is.fixed (Is.sized d)
numbered_is (suc (suc (suc (suc (suc (suc zero)))))) h d = Is.seq Is.fixed (Is.sized d)
numbered_is (suc (suc (suc (suc (suc (suc (suc zero))))))) h d = Is.seq Is.fixed (Is.sized d)
numbered_is (suc (suc (suc (suc (suc (suc (suc (suc zero)))))))) h d = Is.seq Is.fixed (Is.sized d)
numbered_is (suc (suc (suc (suc (suc (suc (suc (suc (suc zero))))))))) h d = Is.seq Is.fixed (Is.sized d)
numbered_is (suc (suc (suc (suc (suc (suc (suc (suc (suc (suc zero)))))))))) h d = Is.seq Is.fixed (Is.sized d)
numbered_is (suc (suc (suc (suc (suc (suc (suc (suc (suc (suc (suc zero))))))))))) h d = Is.seq Is.fixed (Is.sized d)
numbered_is (suc (suc (suc (suc (suc (suc (suc (suc (suc (suc (suc (suc n)))))))))))) h d = absurd (omega (arith, h))

custom_is : {name contents x : List ℕ} {u : Tree} → ReadsComponentContents name contents u → Spelled (Tree.pair (Tree.name name) (Tree.raw contents)) x →
    Spells component_custom x (Tree.pair (Tree.name name) u)
custom_is {name = name} {contents = contents} {x = x} {u = u} (inl r) p =
    let N : List ℕ → Type 0 = λ z. Is component_custom (Tree.pair (Tree.name z) u) in
    let P : List ℕ → Type 0 = λ z. Spelled u z in record {
      shaped = subst N (sym r.0) (Is.named r.1.shaped);
      spelled = (p.0, p.1, p.2, p.3, subst P (sym p.4) r.1.spelled);
    }
custom_is {name = name} {contents = contents} {x = x} (inr r) p =
    let P : Tree → Type 0 = λ z. Spells component_custom x (Tree.pair (Tree.name name) z) in
    subst P (sym r.1) (record { shaped = Is.other r.0 Is.rest; spelled = p })

pub of_component_frame : {t f : Tree} {x : List ℕ} → InComponentFrame t f → Spells frame x f → Spells component_section x t
of_component_frame {x = x} (InComponentFrame.of_id id u body low high r) p =
    let q = p.spelled in
    let P : List ℕ → Type 0 = λ z. Spelled u z in record {
      shaped = row_is component_section_rows id (numbered_is id high r.shaped);
      spelled = (q.0, q.1, q.2, q.3.0, (q.4.0, q.4.1, q.4.2, q.4.3, subst P (sym q.4.4) r.spelled));
    }
of_component_frame {x = x} (InComponentFrame.of_custom name contents u r) p =
    let q = p.spelled in
    let c = custom_is r q.4.4 in record {
      shaped = Is.first (Is.seq Is.fixed (Is.sized c.shaped));
      spelled = (q.0, q.1, q.2, q.3, (q.4.0, q.4.1, q.4.2, q.4.3, c.spelled));
    }
of_component_frame {x = x} (InComponentFrame.of_unknown id contents low high) p = record {
  shaped = row_is component_section_rows 12 (Is.seq (Is.within low high) (Is.sized Is.rest));
  spelled = p.spelled;
}
