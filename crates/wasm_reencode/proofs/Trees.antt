-- Sections as objects, one behind another.
use Rattle.std.proofs.Common.{Bool, true, if◌then◌else◌, ◌≡◌, ℕ, ◌+◌, ◌-◌, ◌<◌, ◌≤◌, false, List, [], ◌∷◌, ◌++◌, length, get_or, drop, take, map, Option, None, Some, codes, option_map, refl, sym, ap, ◌∙◌, subst, arith, append_assoc, append-nil, length-append, length-drop}
use Rattle.std.specs.List.{All}
use Rattle.std.proofs.Math.Seq.{take-length}
use Rattle.std.proofs.lemmas.List.{drop_more, map-append}
use Rattle.std.proofs.lemmas.List.Elements.{All-append, All-cons, All-nil, All-weaker}
use Rattle.serde_json.specs.Data.{Data, Items, Members, array, no_members, member, put, string}
use Rattle.serde_json.specs.View.{items_of, view}
use Rattle.serde_json.specs.Written.{has_float, items_have_float, members_have_float}
use Rattle.serde_json.specs.declared.value.Value.{Value}
use Rattle.wasm_reencode.specs.declared.sections.Section.{Section}
use Rattle.wasm_reencode.specs.Sections.{Frame, is_binary, kind_name}
use Rattle.wasm_reencode.specs.Trees.{AreHeld, AreObjects, IsObject, IsPast, IsWithin, count, inner_value, members_with, put_some, size_value, with_some}

-- members that are put one after another stand in the order of their keys
pub ordered : (s : Section) (name : Option (List ℕ)) (rows : Option ℕ) (inner : Items)
    → put_some (codes "sections") (inner_value s inner) (put_some (codes "custom_name") (option_map string name) (put_some (codes "rows") (option_map count rows)
    (put (codes "size") (size_value s.frame) (put (codes "place") (count s.start) (put (codes "name") (string (kind_name s.layer s.id)) (put (codes "id") (count s.id)
    (put (codes "number") (count s.number) no_members))))))) ≡ members_with s name rows inner
ordered s name rows inner = go name rows (inner_value s inner)
  where
    go : (name : Option (List ℕ)) (rows : Option ℕ) (in_it : Option Data)
        → put_some (codes "sections") in_it (put_some (codes "custom_name") (option_map string name) (put_some (codes "rows") (option_map count rows)
        (put (codes "size") (size_value s.frame) (put (codes "place") (count s.start) (put (codes "name") (string (kind_name s.layer s.id)) (put (codes "id") (count s.id)
        (put (codes "number") (count s.number) no_members)))))))
        ≡ with_some (codes "custom_name") (option_map string name) (member (codes "id") (count s.id) (member (codes "name") (string (kind_name s.layer s.id))
        (member (codes "number") (count s.number) (member (codes "place") (count s.start) (with_some (codes "rows") (option_map count rows)
        (with_some (codes "sections") in_it (member (codes "size") (size_value s.frame) no_members)))))))
    go None None None = refl
    go None None (Some d) = refl
    go None (Some n) None = refl
    go None (Some n) (Some d) = refl
    go (Some t) None None = refl
    go (Some t) None (Some d) = refl
    go (Some t) (Some n) None = refl
    go (Some t) (Some n) (Some d) = refl

pub put_both : (k : List ℕ) {d e : Data} {old new ms : Members} → new ≡ put k d old → d ≡ e → old ≡ ms → new ≡ put k e ms
put_both k {d} {e} {old} {new} {ms} is same before = is ∙ ap (λ (z : Data). put k z old) same ∙ ap (λ (z : Members). put k e z) before

pub put_some_both : (k : List ℕ) {d e : Option Data} {old new ms : Members} → new ≡ put_some k d old → d ≡ e → old ≡ ms → new ≡ put_some k e ms
put_some_both k {d} {e} {old} {new} {ms} is same before = is ∙ ap (λ (z : Option Data). put_some k z old) same ∙ ap (λ (z : Members). put_some k e z) before

-- what a slice has from a place on
abbrev pub from : {X : Type 0} → ℕ → List X → List X
from n xs = take (length xs - n) (drop n xs)

from_is : {X : Type 0} (n : ℕ) (xs : List X) → from n xs ≡ drop n xs
from_is n xs = rw (← length-drop n xs) (take-length (drop n xs))

behind_front : {X : Type 0} (xs ys : List X) → drop (length xs) (xs ++ ys) ≡ ys
behind_front [] ys = refl
behind_front (x ∷ xs) ys = behind_front xs ys

past_front : (holder : Option ℕ) (front behind : List Section) → IsPast holder (front ++ behind) → IsPast holder front
past_front holder [] behind h = tt
past_front holder (s ∷ front) behind h = h

-- what stands in a section stands in what holds that
within_both : (holder : Option ℕ) (s t : Section) → IsWithin holder s → IsWithin (Some s.depth) t → IsWithin holder t
within_both None s t h in_it = tt
within_both (Some depth) s t h in_it = omega (arith, h, in_it)

-- these sections at the front are held, and their objects stand before those of what is held behind them
pub record HeldSoFar (holder : Option ℕ) (sections : List Section) (count : ℕ) (objects : List Data) : Type 0 where
  pub held : List Section
  pub left : List Section
  pub split : sections ≡ held ++ left
  pub counted : length held ≡ count
  pub within : All (IsWithin holder) held
  pub goes : (more behind : List Section) (found : List Data) → left ≡ more ++ behind → AreObjects more (items_of found) → AreObjects (held ++ more) (items_of (objects ++ found))

module _ (holder : Option ℕ) (sections : List Section) where
  pub held_begin : HeldSoFar holder sections 0 []
  held_begin = record { held = []; left = sections; split = refl; counted = refl; within = All-nil (IsWithin holder); goes = λ more behind found e are. are }

  pub held_left : {count : ℕ} {objects : List Data} (so : HeldSoFar holder sections count objects) → drop count sections ≡ so.left
  held_left so = rw (so.split, ← so.counted) (behind_front so.held so.left)

  pub held_fits : {count : ℕ} {objects : List Data} → HeldSoFar holder sections count objects → count ≤ length sections
  held_fits so = omega (arith, so.counted, ap length so.split, length-append so.held so.left)

  pub held_last : {count : ℕ} {objects : List Data} → HeldSoFar holder sections count objects → IsPast holder (from count sections) → AreHeld holder sections (items_of objects) count
  held_last {count} {objects} so past =
      let P : List Section → Type 0 = λ z. AreObjects z (items_of (objects ++ [])) in
      let Q : List Data → Type 0 = λ z. AreObjects so.held (items_of z) in
      record {
        held = so.held;
        left = so.left;
        split = so.split;
        counted = so.counted;
        within = so.within;
        past = subst (IsPast holder) (from_is count sections ∙ held_left so) past;
        are = subst Q (append-nil objects) (subst P (append-nil so.held) (so.goes [] so.left [] refl AreObjects.none));
      }

  pub held_more : {count more : ℕ} {objects : List Data} (s : Section) (behind : List Section) (inner : Items) (d : Data) → HeldSoFar holder sections count objects
      → drop count sections ≡ s ∷ behind → IsWithin holder s → AreHeld (Some s.depth) behind inner more → IsObject s inner d
      → HeldSoFar holder sections (count + (1 + more)) (objects ++ d ∷ [])
  held_more {count} {more} {objects} s behind inner d so there in_it h is =
      let left : so.left ≡ s ∷ behind = sym (held_left so) ∙ there in
      record {
        held = so.held ++ s ∷ h.held;
        left = h.left;
        split = so.split ∙ ap (λ (z : List Section). so.held ++ z) (left ∙ ap (λ (z : List Section). s ∷ z) h.split) ∙ sym (append_assoc so.held (s ∷ h.held) h.left);
        counted = length-append so.held (s ∷ h.held) ∙ omega (arith, so.counted, h.counted);
        within = All-append (IsWithin holder) so.held (s ∷ h.held) so.within
            (All-cons (IsWithin holder) s h.held in_it (All-weaker (IsWithin (Some s.depth)) (IsWithin holder) (λ t. within_both holder s t in_it) h.held h.within));
        goes = λ further rest found e are.
            let P : List Section → Type 0 = λ z. AreObjects z (items_of ((objects ++ d ∷ []) ++ found)) in
            let Q : List Data → Type 0 = λ z. AreObjects (so.held ++ s ∷ (h.held ++ further)) (items_of z) in
            let past : IsPast (Some s.depth) further = past_front (Some s.depth) further rest (subst (IsPast (Some s.depth)) e h.past) in
            let whole : so.left ≡ (s ∷ (h.held ++ further)) ++ rest =
            left ∙ ap (λ (z : List Section). s ∷ z) (h.split ∙ ap (λ (z : List Section). h.held ++ z) e ∙ sym (append_assoc h.held further rest)) in
            subst P (sym (append_assoc so.held (s ∷ h.held) further))
            (subst Q (sym (append_assoc objects (d ∷ []) found)) (so.goes (s ∷ (h.held ++ further)) rest (d ∷ found) whole (AreObjects.more h.within past h.are is are)));
      }

  -- the next section is held, and those in it, of which it has the objects
  pub held_next : {count more : ℕ} (values : List Value) {all : List Value} (d : Section) (inner : Items) (value : Value) → HeldSoFar holder sections count (map view values)
      → ((s : Section) × (behind : List Section) × (from count sections ≡ s ∷ behind) × IsWithin holder s) → AreHeld (Some (get_or sections count d).depth) (from (count + 1) sections) inner more
      → IsObject (get_or sections count d) inner (view value) → all ≡ values ++ value ∷ [] → HeldSoFar holder sections (count + (1 + more)) (map view all)
  held_next {count} {more} values {all} d inner value so there h is added =
      let less : count < length sections = omega (arith, length-drop count sections, ap length (sym (from_is count sections) ∙ there.2)) in
      let next : drop count sections ≡ get_or sections count d ∷ drop (count + 1) sections = drop_more sections count d less in
      let same : there.0 ≡ get_or sections count d = cc (next, from_is count sections, there.2) in
      let grown : map view values ++ view value ∷ [] ≡ map view all = sym (map-append view values (value ∷ [])) ∙ ap (map view) (sym added) in
      let Held : List Section → Type 0 = λ z. AreHeld (Some (get_or sections count d).depth) z inner more in
      subst (HeldSoFar holder sections (count + (1 + more))) grown
      (held_more (get_or sections count d) (drop (count + 1) sections) inner (view value) so next (subst (IsWithin holder) same there.3) (subst Held (from_is (count + 1) sections) h) is)

-- all sections stand in the binary itself
pub all_held : {sections : List Section} {objects : Items} {count : ℕ} → AreHeld None sections objects count → AreObjects sections objects
all_held {sections} {objects} h = go h.left h.split h.past
  where
    go : (left : List Section) → sections ≡ h.held ++ left → IsPast None left → AreObjects sections objects
    go [] e past = subst (λ (z : List Section). AreObjects z objects) (sym (e ∙ append-nil h.held)) h.are
    go (s ∷ left) e past = absurd (past tt)

-- no number of an object is a float
some_whole : (k : List ℕ) (d : Option Data) (ms : Members) → ((x : Data) → d ≡ Some x → has_float x ≡ false) → members_have_float ms ≡ false → members_have_float (with_some k d ms) ≡ false
some_whole k None ms whole rest = rest
some_whole k (Some d) ms whole rest = rw (whole d refl) rest

size_whole : (f : Option Frame) → has_float (size_value f) ≡ false
size_whole None = refl
size_whole (Some f) = refl

inner_whole : (b : Bool) (inner : Items) (x : Data) → items_have_float inner ≡ false → (if b then Some (array inner) else None) ≡ Some x → has_float x ≡ false
inner_whole true inner x whole e = let same : array inner ≡ x = cc in subst (λ (z : Data). has_float z ≡ false) same whole
inner_whole false inner x whole e = absurd (cc)

name_whole : (name : Option (List ℕ)) (x : Data) → option_map string name ≡ Some x → has_float x ≡ false
name_whole None x e = absurd (cc)
name_whole (Some t) x e = let same : string t ≡ x = cc in subst (λ (z : Data). has_float z ≡ false) same refl

rows_whole : (rows : Option ℕ) (x : Data) → option_map count rows ≡ Some x → has_float x ≡ false
rows_whole None x e = absurd (cc)
rows_whole (Some n) x e = let same : count n ≡ x = cc in subst (λ (z : Data). has_float z ≡ false) same refl

pub no_float : {sections : List Section} {objects : Items} → AreObjects sections objects → items_have_float objects ≡ false
no_float AreObjects.none = refl
no_float (AreObjects.more {s} {inner} {behind} {within} {objects} {d} deeper past in_it is are) =
    let last : members_have_float (member (codes "size") (size_value s.frame) no_members) ≡ false = rw (size_whole s.frame) refl in
    let tail : members_have_float (with_some (codes "sections") (inner_value s within) (member (codes "size") (size_value s.frame) no_members)) ≡ false =
    some_whole (codes "sections") (inner_value s within) _ (λ x. inner_whole (is_binary s.layer s.id) within x (no_float in_it)) last in
    let rows : members_have_float (with_some (codes "rows") (option_map count is.rows) (with_some (codes "sections") (inner_value s within) (member (codes "size") (size_value s.frame) no_members))) ≡ false =
    some_whole (codes "rows") (option_map count is.rows) _ (rows_whole is.rows) tail in
    let whole : members_have_float (members_with s is.name is.rows within) ≡ false = some_whole (codes "custom_name") (option_map string is.name) _ (name_whole is.name) rows in
    let one : has_float d ≡ false = ap has_float is.is ∙ whole in
    rw one (no_float are)
