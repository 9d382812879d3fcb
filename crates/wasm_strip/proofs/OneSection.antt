-- One section: what is added for it, and its faults.
use Rattle.std.proofs.Common.{◌≡◌, ◌≢◌, ℕ, suc, ◌+◌, ◌-◌, ◌<◌, ◌^◌, List, [], ◌∷◌, ◌++◌, length, append_assoc, Bool, true, false, Some, None, refl, sym, ap, ◌∙◌, subst, arith, append-nil, length-append, if◌then◌else◌}
use Rattle.std.specs.Prelude.{nat_eq}
use Rattle.std.proofs.lemmas.Bool.{eqb-true}
use Rattle.wasm_leb.specs.declared.fault.Kind.{Kind}
use Rattle.wasm_leb.specs.declared.fault.Kind.TheVariants as kind
use Rattle.wasm_shapes.specs.Spells.{Spelled, Spells}
use Rattle.wasm_shapes.specs.Place.{BeginsNone}
use Rattle.wasm_shapes.specs.Tree.{Tree}
use Rattle.wasm_shapes.specs.Module.{custom_frame, frame, numbered_frame}
use Rattle.wasm_strip.specs.declared.fault.StripFault.{StripFault}
use Rattle.wasm_strip.specs.declared.fault.StripFault.TheVariants as fault
use Rattle.wasm_strip.specs.Binaries.{Removed, SectionList, Stands, header_of, held, holder, sized, text_of}
use Rattle.wasm_strip.specs.Faults.{Fails, LacksHeader}
use Rattle.wasm_strip.specs.Sorted.{SortsNames}
use Rattle.wasm_strip.specs.Tidied.{HasNames, Tidied}
use Rattle.wasm_strip.specs.Steps.{AddsKept, FailsBefore, FailsOr}
use Rattle.wasm_strip.proofs.Lengths.{is_sized, sized_length, tidied_short}

alone : {text : List ℕ} {t : Tree} → Spells frame text t → Stands text text t []
alone {text = text} p = record { spells = p; stands = sym (append-nil text) }

-- a custom section that is removed
pub custom_goes : {removed : Removed} {sorts : Bool} {depth : ℕ} {kind : Kind} {name contents text old : List ℕ} → Spells frame text (custom_frame name contents) → removed kind name contents →
    AddsKept removed sorts depth kind text old old
custom_goes {name = name} {contents = contents} {text = text} {old = old} p gone = record {
  parts = SectionList.custom name contents text SectionList.ended;
  left = SectionList.ended;
  are = ([], alone p, refl);
  tidied = Tidied.goes gone Tidied.nothing;
  added = sym (append-nil old);
}

-- one that stays
pub custom_stays : {removed : Removed} {sorts : Bool} {depth : ℕ} {kind : Kind} {name contents text old new : List ℕ} → Spells frame text (custom_frame name contents) → ¬ removed kind name contents →
    ¬ ((sorts ≡ true) × HasNames kind name contents) → new ≡ old ++ text → AddsKept removed sorts depth kind text old new
custom_stays {name = name} {contents = contents} {text = text} {old = old} p stays same added = record {
  parts = SectionList.custom name contents text SectionList.ended;
  left = SectionList.custom name contents text SectionList.ended;
  are = ([], alone p, refl);
  tidied = Tidied.stays stays same Tidied.nothing;
  added = added ∙ ap (λ (z : List ℕ). old ++ z) (sym (append-nil text));
}

-- one whose names are sorted
pub custom_sorted : {removed : Removed} {sorts : Bool} {depth : ℕ} {kind : Kind} {name contents text old new : List ℕ} → Spells frame text (custom_frame name contents) → ¬ removed kind name contents →
    sorts ≡ true → HasNames kind name contents → (front sorted : List ℕ) × (text ≡ front ++ contents) × SortsNames contents sorted × (new ≡ old ++ (front ++ sorted)) →
    AddsKept removed sorts depth kind text old new
custom_sorted {name = name} {contents = contents} {text = text} {old = old} p stays on names s = record {
  parts = SectionList.custom name contents text SectionList.ended;
  left = SectionList.custom name s.1 (s.0 ++ s.1) SectionList.ended;
  are = ([], alone p, refl);
  tidied = Tidied.sorted s.0 s.1 stays on names s.2 s.3 Tidied.nothing;
  added = s.4 ∙ ap (λ (z : List ℕ). old ++ z) (sym (append-nil (s.0 ++ s.1)));
}

-- what stands in front of its contents
pub in_front : {name contents text : List ℕ} → Spells frame text (custom_frame name contents) → (before : List ℕ) × (text ≡ before ++ contents)
in_front {name = name} {contents = contents} {text = text} p = go p.spelled
  where
    go : Spelled (custom_frame name contents) text → (before : List ℕ) × (text ≡ before ++ contents)
    go s =
        let size = s.4 in
        let named = size.4 in (
          s.0 ++ (size.0 ++ named.0),
          s.2 ∙ ap (λ (z : List ℕ). s.0 ++ z) (size.2 ∙ ap (λ (z : List ℕ). size.0 ++ z) (named.2 ∙ ap (λ (z : List ℕ). named.0 ++ z) named.4) ∙ sym (append_assoc size.0 named.0 contents))
              ∙ sym (append_assoc s.0 (size.0 ++ named.0) contents),
        )

-- one of another id that holds no binary
pub other_stays : {removed : Removed} {sorts : Bool} {depth id : ℕ} {kind : Kind} {body text old new : List ℕ} → Spells frame text (numbered_frame id body) → None ≡ held kind id →
    new ≡ old ++ text → AddsKept removed sorts depth kind text old new
other_stays {id = id} {body = body} {text = text} {old = old} p e added = record {
  parts = SectionList.other text SectionList.ended;
  left = SectionList.other text SectionList.ended;
  are = (id, body, [], alone p, sym e, refl);
  tidied = Tidied.unnamed Tidied.nothing;
  added = added ∙ ap (λ (z : List ℕ). old ++ z) (sym (append-nil text));
}

-- the id that a section has where it holds a binary
pub holds : (kind inside : Kind) (id : ℕ) → Some inside ≡ held kind id → id ≡ holder inside
holds kind.Module inside id e = absurd cc
holds kind.Component inside id e = first (nat_eq id 1) refl e
  where
    second : (b : Bool) → nat_eq id 4 ≡ b → Some inside ≡ (if b then Some kind.Component else None) → id ≡ holder inside
    second true t h = let same : inside ≡ kind.Component = cc in rw same (eqb-true id 4 t)
    second false t h = absurd cc

    first : (b : Bool) → nat_eq id 1 ≡ b → Some inside ≡ (if b then Some kind.Module else (if nat_eq id 4 then Some kind.Component else None)) → id ≡ holder inside
    first true t h = let same : inside ≡ kind.Module = cc in rw same (eqb-true id 1 t)
    first false t h = second (nat_eq id 4) refl h

-- one that holds a binary
pub nested_stays : {removed : Removed} {sorts : Bool} {depth below id : ℕ} {kind inside : Kind} {whole body text old inner new : List ℕ} → Spells frame text (numbered_frame id whole) → whole ≡ header_of inside ++ body →
    Some inside ≡ held kind id → depth ≡ suc below → AddsKept removed sorts below inside body (header_of inside) inner → new ≡ old ++ sized id inner → AddsKept removed sorts depth kind text old new
nested_stays {depth = depth} {below = below} {id = id} {kind = kind} {inside = inside} {body = body} {text = text} {old = old} p w e d a added =
    let S : List ℕ → Type 0 = λ z. Spells frame text (numbered_frame id z) in record {
      parts = SectionList.nested inside a.parts SectionList.ended;
      left = SectionList.nested inside a.left SectionList.ended;
      are = (id, below, text, body, [], alone (subst S w p), sym e, d, a.are, refl);
      tidied = Tidied.around a.tidied Tidied.nothing;
      added = added ∙ ap (λ (z : List ℕ). old ++ sized id z) a.added
          ∙ ap (λ (n : ℕ). old ++ sized n (header_of inside ++ text_of a.left)) (holds kind inside id e)
          ∙ ap (λ (z : List ℕ). old ++ z) (sym (append-nil (sized (holder inside) (header_of inside ++ text_of a.left))));
    }

-- what is left of it is short enough for a size
pub nested_fits : {removed : Removed} {sorts : Bool} {below id : ℕ} {inside : Kind} {whole body text inner : List ℕ} → Spells frame text (numbered_frame id whole) → whole ≡ header_of inside ++ body →
    AddsKept removed sorts below inside body (header_of inside) inner → length inner < 2 ^ 32
nested_fits {removed = removed} {sorts = sorts} {below = below} {inside = inside} {body = body} p w a =
    let few = (is_sized p).counted.fits in
    let short = tidied_short removed sorts below inside body a.are a.tidied in
    let l = ap length a.added ∙ length-append (header_of inside) (text_of a.left) in
    let m = ap length w ∙ length-append (header_of inside) body in
    omega (arith, few, short, l, m)

-- ---- faults

front : {text : List ℕ} {t : Tree} (rest : List ℕ) → Spells frame text t → Stands (text ++ rest) text t rest
front rest p = record { spells = p; stands = refl }

pub too_deep : {at depth id : ℕ} {kind inside : Kind} {body text : List ℕ} → Spells frame text (numbered_frame id body) → Some inside ≡ held kind id → depth ≡ 0 →
    (rest : List ℕ) → Fails at depth kind (text ++ rest) (fault.TooDeep at)
too_deep {at = at} {kind = kind} {text = text} p e d rest =
    let P : ℕ → Type 0 = λ n. Fails at n kind (text ++ rest) (fault.TooDeep at) in
    subst P (sym d) (Fails.deep (front rest p) (sym e))

pub no_header : {at depth below id : ℕ} {kind inside : Kind} {body text : List ℕ} → Spells frame text (numbered_frame id body) → Some inside ≡ held kind id → depth ≡ suc below → LacksHeader inside body →
    (rest : List ℕ) → Fails at depth kind (text ++ rest) (fault.Read (at + (length text - length body)))
no_header {at = at} {kind = kind} {body = body} {text = text} p e d none rest =
    let P : ℕ → Type 0 = λ n. Fails at n kind (text ++ rest) (fault.Read (at + (length text - length body))) in
    subst P (sym d) (Fails.headless (front rest p) (sym e) none)

pub fails_within : (at depth below id place : ℕ) (kind inside : Kind) (whole body text : List ℕ) (e : StripFault) → Spells frame text (numbered_frame id whole) → whole ≡ header_of inside ++ body →
    Some inside ≡ held kind id → depth ≡ suc below → place ≡ at + (length text - length whole) + length (header_of inside) → FailsOr place below inside body e → FailsBefore at depth kind text e
fails_within at depth below id place kind inside whole body text e p w h d l = go e
  where
    S : List ℕ → Type 0
    S z = Spells frame text (numbered_frame id z)

    there : place ≡ at + (length text - length body)
    there =
        let s = is_sized p in
        let long = sized_length s in
        let parts = ap length w ∙ length-append (header_of inside) body in
        omega (arith, long, parts, l)

    one : (f : StripFault) → Fails place below inside body f → (rest : List ℕ) → Fails at depth kind (text ++ rest) f
    one f fails rest =
        let P : ℕ → Type 0 = λ n. Fails at n kind (text ++ rest) f in
        let Q : ℕ → Type 0 = λ n. Fails n below inside body f in
        subst P (sym d) (Fails.within (front rest (subst S w p)) (sym h) (subst Q there fails))

    go : (f : StripFault) → FailsOr place below inside body f → FailsBefore at depth kind text f
    go (fault.Read a) = one (fault.Read a)
    go (fault.TooDeep a) = one (fault.TooDeep a)
    go fault.NoMemory = λ t. t

-- no section begins where bytes are left
pub none_begins : {at depth : ℕ} {kind : Kind} {rest : List ℕ} → rest ≢ [] → BeginsNone frame rest → Fails at depth kind rest (fault.Read at)
none_begins some none = Fails.unread some none

pub some_left : {rest : List ℕ} → nat_eq (length rest) 0 ≡ false → rest ≢ []
some_left {rest = []} e h = absurd (let never : true ≡ false = e in cc)
some_left {rest = b ∷ rest} e h = absurd cc

pub none_left : {rest : List ℕ} → nat_eq (length rest) 0 ≡ true → rest ≡ []
none_left {rest = []} e = refl
none_left {rest = b ∷ rest} e = absurd (let never = eqb-true (length (b ∷ rest)) 0 e in omega (arith, never))

-- each header has eight bytes
pub eight : (k : Kind) → 8 ≡ length (header_of k)
eight kind.Module = refl
eight kind.Component = refl
