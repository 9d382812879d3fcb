-- The sections of a module that are held, and others behind them.
use Rattle.std.proofs.Common.{◌≡◌, ℕ, ◌+◌, ◌<◌, ◌^◌, List, [], ◌∷◌, ◌++◌, length, map, refl, sym, ap, ap₂, ◌∙◌, append_assoc, append-nil, length-append, subst, arith, Result, Ok, Err, OnOk, OnErr}
use Rattle.std.specs.Coded.{Coded-set, coded_ℕ, coded_list}
use mathlib.Core.Logic.{∥∥₁_elim, ∥∥₁_map, ∥∥₁_prop}
use Rattle.wasm_leb.specs.Leb.{leb}
use Rattle.wasm_leb.proofs.Shortest.{leb_spells}
use Rattle.wasm_shapes.specs.Tree.{Tree, normal}
use Rattle.wasm_shapes.specs.Spells.{Is}
use Rattle.wasm_shapes.specs.Module.{core_header}
use Rattle.wasm_shapes.specs.Types.{rows_tree}
use Rattle.wasm_write.specs.Held.{AreHeld}
use Rattle.wasm_write.specs.Sections.{AreSections, SectionRow, framed, framed_tree, module_bytes, section_bytes}
use Rattle.wasm_write.proofs.Holding.{are_none}
use Rattle.wasm_write.proofs.HoldingBodies.{many_is, many_spelled}
use Rattle.wasm_write.proofs.HoldingSections.{normal_sections}
use Rattle.reencode_core.specs.Pieces.{Grown, Range, with_bytes}
use Rattle.reencode_core.specs.Sinks.{HeldModule, HeldModule-one, ModuleGrown, held_module, with_sections}

map_append : (rows others : List SectionRow) → map framed_tree (rows ++ others) ≡ map framed_tree rows ++ map framed_tree others
map_append [] others = refl
map_append (s ∷ rows) others = ap (λ (z : List Tree). framed_tree s ∷ z) (map_append rows others)

many_normal : (xs ys : List Tree) → normal (rows_tree (xs ++ ys)) ≡ normal (rows_tree xs) ++ normal (rows_tree ys)
many_normal [] ys = refl
many_normal (u ∷ xs) ys = ap (λ (z : List ℕ). normal u ++ z) (many_normal xs ys) ∙ sym (append_assoc (normal u) (normal (rows_tree xs)) (normal (rows_tree ys)))

-- so many sections, which these bytes are
abbrev pub AreFramed : List ℕ → List SectionRow → Type 0
AreFramed text rows = AreHeld framed (length rows) text (map framed_tree rows)

both_held : {n m : ℕ} {bytes text : List ℕ} {xs ys : List Tree} → AreHeld framed n bytes xs → AreHeld framed m text ys → AreHeld framed (n + m) (bytes ++ text) (xs ++ ys)
both_held {bytes = bytes} {text = text} {xs = xs} {ys = ys} p q = record {
  shaped = many_is xs ys p.shaped q.shaped;
  counted = length-append xs ys ∙ ap₂ (λ (a b : ℕ). a + b) p.counted q.counted;
  spelled = many_spelled xs ys bytes text p.spelled q.spelled;
  normally = many_normal xs ys ∙ ap₂ (λ (a b : List ℕ). a ++ b) p.normally q.normally;
}

sections_both : (bytes text : List ℕ) (rows others : List SectionRow) → AreSections (length rows) bytes rows → AreFramed text others →
    AreSections (length (rows ++ others)) (bytes ++ text) (rows ++ others)
sections_both bytes text rows others p q = record {
  rest = p.rest ++ text;
  stands = ap (λ (z : List ℕ). z ++ text) p.stands ∙ append_assoc core_header p.rest text;
  held = rw (length-append rows others, map_append rows others) (both_held p.held q);
}

-- a section is such
pub is_framed : (id : ℕ) (body : List ℕ) → id < 256 → length body < 2 ^ 32 → AreFramed (section_bytes (record { id = id; body = body })) (record { id = id; body = body } ∷ [])
is_framed id body byte short = record {
  shaped = Is.cons (Is.seq Is.byte (Is.sized Is.rest)) Is.nil;
  counted = refl;
  spelled = (
    id ∷ (leb (length body) ++ body),
    [],
    sym (append-nil (id ∷ (leb (length body) ++ body))),
    (id ∷ [], leb (length body) ++ body, refl, (refl, byte), (leb (length body), body, refl, leb_spells (length body) short, refl)),
    refl,
  );
  normally = append-nil (id ∷ (leb (length body) ++ body));
}

module _ {bytes : List ℕ} where
  pub module_none : bytes ≡ core_header → HeldModule bytes
  module_none e = ([], ∣ rw e (record { rest = []; stands = refl; held = are_none framed }) ∣₁)

  pub module_none_is : (h : HeldModule bytes) → bytes ≡ core_header → held_module bytes h ≡ []
  unfolding held_module module_none
  module_none_is h e = HeldModule-one bytes h (module_none e)

module _ {bytes : List ℕ} (h : HeldModule bytes) where
  pub module_are : bytes ≡ module_bytes (held_module bytes h)
  unfolding held_module
  module_are =
      ∥∥₁_elim h.1 (Coded-set (coded_list coded_ℕ) bytes (module_bytes h.0)) (λ r.
      r.stands ∙ ap (λ (z : List ℕ). core_header ++ z) (sym r.held.normally ∙ normal_sections h.0))

  -- the bytes have grown by sections
  pub module_both : {new : List ℕ} (text : List ℕ) (others : List SectionRow) → new ≡ bytes ++ text → ∥ AreFramed text others ∥₁ → HeldModule new
  module_both text others e p = (h.0 ++ others, ∥∥₁_elim h.1 ∥∥₁_prop (λ r. ∥∥₁_map p (λ q. rw e (sections_both bytes text h.0 others r q))))

  pub module_both_is : {new : List ℕ} (text : List ℕ) (others : List SectionRow) (k : HeldModule new) → new ≡ bytes ++ text → ∥ AreFramed text others ∥₁ →
      held_module new k ≡ held_module bytes h ++ others
  unfolding held_module module_both
  module_both_is {new} text others k e p = HeldModule-one new k (module_both text others e p)

  -- the bytes are the same
  pub module_same_is : {new : List ℕ} (k : HeldModule new) → new ≡ bytes → held_module new k ≡ held_module bytes h
  unfolding held_module
  module_same_is {new} k e =
      let P : List ℕ → Type 0 = λ z. ∥ AreSections (length h.0) z h.0 ∥₁ in
      HeldModule-one new k (h.0, subst P (sym e) h.1)

-- the length of a section that was added, by another number
pub sized_as : {A E : Type 0} (r : Result A E) (id : ℕ) (new old body : List ℕ) (n : ℕ) → n ≡ length body → OnOk r (new ≡ old ++ (id ∷ (leb n ++ body))) → OnOk r (new ≡ old ++ (id ∷ (leb (length body) ++ body)))
sized_as (Ok a) id new old body n e h = h ∙ ap (λ (k : ℕ). old ++ (id ∷ (leb k ++ body))) e
sized_as (Err x) id new old body n e h = tt

-- ---- the whole module, as contracts see it

abbrev pub seen : ℕ → Grown → List SectionRow → ModuleGrown
seen ceiling g rows = record { input = g.input; sections = record { ceiling = ceiling; sections = rows }; kept = g.kept }

abbrev pub with_more : ModuleGrown → List SectionRow → ModuleGrown
with_more m rows = record m { sections = with_sections m.sections rows }

module _ (ceiling : ℕ) (old : Grown) (h : HeldModule old.bytes) (new : Grown) where
  pub same_seen : (k : HeldModule new.bytes) → new ≡ old → seen ceiling new (held_module new.bytes k) ≡ seen ceiling old (held_module old.bytes h)
  same_seen k e = ap₂ (seen ceiling) e (module_same_is h k (ap Grown.bytes e))

  pub added_seen : (k : HeldModule new.bytes) (text : List ℕ) (others : List SectionRow) → new ≡ with_bytes old text → ∥ AreFramed text others ∥₁ →
      seen ceiling new (held_module new.bytes k) ≡ with_more (seen ceiling old (held_module old.bytes h)) others
  added_seen k text others e p = ap₂ (seen ceiling) e (module_both_is h text others k (ap Grown.bytes e) p)

  pub added_held : {A E : Type 0} (r : Result A E) (text : List ℕ) (others : List SectionRow) → OnOk r (new ≡ with_bytes old text) → OnErr r (new ≡ old) → ∥ AreFramed text others ∥₁ → HeldModule new.bytes
  added_held (Ok a) text others ok err p = module_both h text others (ap Grown.bytes ok) p
  added_held (Err e) text others ok err p = let P : Grown → Type 0 = λ g. HeldModule g.bytes in subst P (sym err) h

  pub section_held : {A E : Type 0} (r : Result A E) (id : ℕ) (body : List ℕ) → id < 256 → length body < 2 ^ 32 → OnOk r (new.bytes ≡ old.bytes ++ section_bytes (record { id = id; body = body })) →
      OnErr r (new ≡ old) → HeldModule new.bytes
  section_held (Ok a) id body byte short ok err = module_both h (section_bytes (record { id = id; body = body })) (record { id = id; body = body } ∷ []) ok ∣ is_framed id body byte short ∣₁
  section_held (Err e) id body byte short ok err = let P : Grown → Type 0 = λ g. HeldModule g.bytes in subst P (sym err) h

  pub section_seen : (k : HeldModule new.bytes) (id : ℕ) (body : List ℕ) → id < 256 → length body < 2 ^ 32 → new.bytes ≡ old.bytes ++ section_bytes (record { id = id; body = body }) →
      held_module new.bytes k ≡ held_module old.bytes h ++ record { id = id; body = body } ∷ []
  section_seen k id body byte short e = module_both_is h (section_bytes (record { id = id; body = body })) (record { id = id; body = body } ∷ []) k e ∣ is_framed id body byte short ∣₁

  pub code_seen : (k : HeldModule new.bytes) (body : List ℕ) (kept : List Range) → length body < 2 ^ 32 → new.bytes ≡ old.bytes ++ section_bytes (record { id = 10; body = body }) →
      new.input ≡ old.input → new.kept ≡ old.kept ++ kept →
      seen ceiling new (held_module new.bytes k) ≡ record {
        input = old.input;
        sections = record { ceiling = ceiling; sections = held_module old.bytes h ++ record { id = 10; body = body } ∷ [] };
        kept = old.kept ++ kept;
      }
  code_seen k body kept short e i r = rw (section_seen k 10 body (omega arith) short e, i, r) refl
