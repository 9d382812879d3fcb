-- What stands in front in the bytes of a module: there is one such front.
use Rattle.std.proofs.Common.{◌≡◌, ℕ, zero, suc, ◌≤◌, ◌<◌, List, [], ◌∷◌, ◌++◌, length, length-append, append_assoc, append-nil, true, refl, sym, ap, ◌∙◌, subst, arith}
use Rattle.std.proofs.lemmas.List.{append_cancel_left}
use mathlib.Core.Bool.{false≢true}
use Rattle.wasm_shapes.specs.Tree.{Tree}
use Rattle.wasm_shapes.specs.Sound.{nullable}
use Rattle.wasm_shapes.specs.Spells.{Is, Spells}
use Rattle.wasm_shapes.specs.Module.{core_header, section, sections, alsos, CoreReading, Front}
use Rattle.wasm_shapes.proofs.Fronts.{nullable_sound}
use Rattle.reencode_core.specs.Faults.{HasFront, OneFront, ReadsOrFails}
use Rattle.reencode_core.proofs.sections_walked.CoreLoop.{Ahead, same, more, ahead, joined, one_section, same_sections}
use Rattle.reencode_core.proofs.weave.Weaves.{alsos-append}

-- ---- there is one

section_fills : {x : List ℕ} {t : Tree} → Spells section x t → x ≡ [] → ⊥
section_fills {x = x} p e = let never : nullable section ≡ true = nullable_sound p.shaped x p.spelled e in false≢true never

-- a section that stands there takes a byte
shorter : (rest y left : List ℕ) (t : Tree) → Spells section y t → rest ≡ y ++ left → length left < length rest
shorter rest [] left t q e = absurd (section_fills q refl)
shorter rest (a ∷ y) left t q e = let whole : length rest ≡ length ((a ∷ y) ++ left) = ap length e in omega (arith, length-append (a ∷ y) left)

front_here : (bytes start text rest : List ℕ) (before : List Tree) → bytes ≡ core_header ++ start → start ≡ text ++ rest → Spells sections text (alsos before Tree.finish) →
    ((y left : List ℕ) (t : Tree) → Spells section y t → rest ≡ y ++ left → ⊥) → Front bytes before rest
front_here bytes start text rest before stands e p further = record {
  text = text;
  spells = p;
  stands = stands ∙ ap (λ (z : List ℕ). core_header ++ z) e;
  ends = record { none = λ y left t q f. further y left t q f };
}

one_more : (before : List Tree) (x y : List ℕ) (t : Tree) → Spells sections x (alsos before Tree.finish) → Spells section y t →
    Spells sections (x ++ y) (alsos (before ++ t ∷ []) Tree.finish)
one_more before x y t p q = rw (alsos-append before (t ∷ []) Tree.finish) (joined before x y p (one_section q))

search : (deep : ℕ) (bytes start text rest : List ℕ) (before : List Tree) → length rest ≤ deep → bytes ≡ core_header ++ start → start ≡ text ++ rest →
    Spells sections text (alsos before Tree.finish) → ((ts : List Tree) (left : List ℕ) → Front bytes ts left → ⊥) → ⊥
search zero bytes start text rest before short stands e p none =
    none before rest (front_here bytes start text rest before stands e p (λ y left t q f. let less : length left < length rest = shorter rest y left t q f in absurd (omega arith)))
search (suc deep) bytes start text rest before short stands e p none =
    none before rest
    (front_here bytes start text rest before stands e p
    (λ y left t q f.
    let less : length left < length rest = shorter rest y left t q f in
    search deep bytes start (text ++ y) left (before ++ t ∷ []) (omega arith) stands (e ∙ ap (λ (z : List ℕ). text ++ z) f ∙ sym (append_assoc text y left)) (one_more before text y t p q) none))

pub has_front : HasFront
has_front bytes start stands = search (length start) bytes start [] start [] (omega arith) stands refl (record { shaped = Is.finish; spelled = refl })

-- a front behind which nothing is left is a reading
front_reads : {bytes : List ℕ} {ts : List Tree} → Front bytes ts [] → CoreReading bytes (alsos ts Tree.finish)
front_reads {ts = ts} f =
    let P : List ℕ → Type 0 = λ z. Spells sections z (alsos ts Tree.finish) in record { rest = f.text ++ []; stands = f.stands; spells = subst P (sym (append-nil f.text)) f.spells }

pub reads_or_fails : ReadsOrFails
reads_or_fails bytes start stands none fault = has_front bytes start stands (λ ts left f. go ts left f)
  where
    go : (ts : List Tree) (left : List ℕ) → Front bytes ts left → ⊥
    go ts [] f = none (alsos ts Tree.finish) (front_reads f)
    go ts (b ∷ left) f = fault ts (b ∷ left) (record { front = f; some = λ e. cc })

-- ---- there are no two

pub one_front : OneFront
one_front bytes before others rest left f g =
    let behind : f.text ++ rest ≡ g.text ++ left = append_cancel_left core_header (f.text ++ rest) (g.text ++ left) (sym f.stands ∙ g.stands) in
    go (ahead before (f.text ++ rest) f.text rest g.text left (alsos others Tree.finish) f.spells refl g.spells behind g.ends)
  where
    go : Ahead before rest (alsos others Tree.finish) left → (before ≡ others) × (rest ≡ left)
    go (same e r) = (sym (same_sections others before e), r)
    go (more t u z e b) = absurd (f.ends.none b.text z t b.spells b.reads)
