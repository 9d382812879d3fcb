-- The loop over the sections of a module that notes what each asks for, and finds that it has a reading.
use Rattle.std.proofs.Common.{◌≡◌, ◌<◌, ◌≤◌, ◌+◌, ℕ, List, [], ◌∷◌, ◌++◌, length, map, min, get_or, Option, None, Some, Result, OnOk, refl, sym, ap, ◌∙◌, subst, arith, append_assoc, append-nil, lit≤}
use Rattle.std.specs.List.{All, AllByRecursion, filter_map}
use Rattle.std.proofs.lemmas.List.{get_or_default, map-append}
use Rattle.std.proofs.lemmas.List.Elements.{All-append, All-head, All-nil, All-tail}
use Rattle.wasm_shapes.specs.declared.SectionId.{SectionId}
use Rattle.wasm_shapes.specs.declared.SectionId.TheVariants as id
use Rattle.wasm_shapes.specs.declared.Space.{Space}
use Rattle.wasm_shapes.specs.declared.Space.TheVariants as space
use Rattle.wasm_shapes.specs.declared.Visit.{Visit}
use Rattle.wasm_shapes.specs.declared.Visit.TheVariants.{Index, Outer}
use Rattle.wasm_shapes.specs.Tree.{Tree, kind, visits, visits_from}
use Rattle.wasm_shapes.specs.Spells.{Is, Spells}
use Rattle.wasm_shapes.specs.Place.{Begins}
use Rattle.wasm_shapes.specs.SectionTable.{number}
use Rattle.wasm_shapes.specs.Module.{core_header, sections, frame, numbered_frame, custom_frame, custom_tree_of, unknown_tree_of, body_of, tree_of, CoreReading, InFrame, ReadsCustom}
use Rattle.wasm_shapes.proofs.SectionLaws.{frame_id, in_frames}
use Rattle.reencode_core.specs.Sections.{ReadsAs}
use Rattle.module_spaces.specs.Sections.{rows_in, rows_of}
use Rattle.module_spaces.specs.Spaces.{number_of}
use Rattle.module_spaces.proofs.Ahead.{behind_header, none_left}
use Rattle.filled_modules.specs.Limits.{IsBelow, so_many_functions}
use Rattle.filled_modules.specs.Readings.{Reads}
use Rattle.wasm_reach.specs.declared.checks.Numbers.{Numbers}
use Rattle.wasm_reach.specs.Checks.{AreNumbers}
use Rattle.wasm_reach.specs.Notes.{calls, function_asked, functions_of, roots, section_roots}
use Rattle.wasm_reach.proofs.Asked.{asked, asked_also}
use Rattle.wasm_reach.proofs.Graphs.{IsReady}
use Rattle.wasm_reach.proofs.NotedSections.{in_kind, on_ok}

-- ---- one section

-- a section that is read is of a kind
known_kind : (k : SectionId) (body : List ℕ) (u : Tree) → Spells (body_of k) body u → 1 ≤ number k
known_kind id.Custom body u p = go u p.shaped
  where
    go : (u : Tree) → Is (body_of id.Custom) u → 1 ≤ number id.Custom
    go u d = elim d [ ]
known_kind id.Type_ body u p = lit≤ tt
known_kind id.Import body u p = lit≤ tt
known_kind id.Function body u p = lit≤ tt
known_kind id.Table body u p = lit≤ tt
known_kind id.Memory body u p = lit≤ tt
known_kind id.Global body u p = lit≤ tt
known_kind id.Export body u p = lit≤ tt
known_kind id.Start body u p = lit≤ tt
known_kind id.Element body u p = lit≤ tt
known_kind id.Code body u p = lit≤ tt
known_kind id.Data body u p = lit≤ tt
known_kind id.DataCount body u p = lit≤ tt
known_kind id.Tag body u p = lit≤ tt

pub in_its_frame : (k : SectionId) {body : List ℕ} → (t : Tree) × ReadsAs k body t → (t : Tree) × InFrame t (numbered_frame (number k) body)
in_its_frame k {body = body} r =
    let u = r.1.0 in
    (tree_of k u, InFrame.of_kind k u body (known_kind k body u r.1.2) r.1.2)

pub custom_in_its_frame : (name contents : List ℕ) → (t : Tree) × ReadsCustom name contents t → (t : Tree) × InFrame t (custom_frame name contents)
custom_in_its_frame name contents r = let u = r.1.0 in (custom_tree_of (Tree.pair (Tree.name name) u), InFrame.of_custom name contents u r.1.2)

-- what its body asks for is among so many functions, so what it asks for is
pub seen_below : (bound : ℕ) (k : SectionId) (text : List ℕ) → ((u : Tree) → Spells (body_of k) text u → All (λ i. i < bound) (functions_of u)) →
    (t : Tree) → InFrame t (numbered_frame (number k) text) → All (λ i. i < bound) (functions_of t)
seen_below bound k text each = in_kind k text functions_of (λ functions. All (λ i. i < bound) functions) each

-- the same of code, whose bodies are noted one by one
module _ {E : Type 0} (text : List ℕ) (k : SectionId) (is : k ≡ id.Code) (r : Result (Unit {0}) E) where
  pub code_read : OnOk r ((u : Tree) × Spells (body_of id.Code) text u) → OnOk r ((t : Tree) × InFrame t (numbered_frame (number k) text))
  code_read given =
      let P : SectionId → Type 0 = λ z. OnOk r ((t : Tree) × InFrame t (numbered_frame (number z) text)) in
      subst P (sym is) (on_ok (λ (p : (u : Tree) × Spells (body_of id.Code) text u). in_its_frame id.Code (tree_of id.Code p.0, (p.0, refl, p.1))) r given)

  pub code_below : (bound : ℕ) → OnOk r ((u : Tree) → Spells (body_of id.Code) text u → All (λ i. i < bound) (functions_of u)) →
      OnOk r ((t : Tree) → InFrame t (numbered_frame (number k) text) → All (λ i. i < bound) (functions_of t))
  code_below bound given =
      let P : SectionId → Type 0 = λ z. OnOk r ((t : Tree) → InFrame t (numbered_frame (number z) text) → All (λ i. i < bound) (functions_of t)) in
      subst P (sym is) (on_ok (seen_below bound id.Code text) r given)

-- ---- the loop

-- what the sections ask for
abbrev pub functions_in : Tree → List ℕ
functions_in (Tree.also t u) = functions_of t ++ functions_in u
functions_in _ = []

functions_are : (last : Option SectionId) (t : Tree) → Is sections t → asked (visits_from last t) ≡ functions_in t
functions_are last (Tree.also t u) (Is.also d d') = asked_also last t u ∙ ap (λ (z : List ℕ). functions_of t ++ z) (functions_are (kind last t) u d')
functions_are last t Is.finish = refl

-- the sections so far are noted, and the others are left; where what these ask for is among so many functions, all is
pub record SeenRest (bound : ℕ) (rest found : List ℕ) (lists : List (List ℕ)) (t : Tree) : Type 0 where
  pub others : Tree
  pub spells : Spells sections rest others
  pub below : All (λ i. i < bound) (functions_in others) → All (λ i. i < bound) (functions_in t)
  pub roots_are : roots t ≡ found ++ roots others
  pub calls_are : calls t ≡ lists ++ calls others

-- and where the others have a reading, the whole has one
pub record SeenSoFar (bound : ℕ) (bytes rest found : List ℕ) (lists : List (List ℕ)) : Type 0 where
  pub readable : (v : Tree) → Spells sections rest v → (t : Tree) × CoreReading bytes t
  pub noted : (t : Tree) → CoreReading bytes t → SeenRest bound rest found lists t

pub seen_begins : (bound : ℕ) {bytes rest found : List ℕ} {lists : List (List ℕ)} → bytes ≡ core_header ++ rest → found ≡ [] → lists ≡ [] → SeenSoFar bound bytes rest found lists
seen_begins bound {rest = rest} stands rootless empty = record {
  readable = λ v p. (v, record { rest = rest; stands = stands; spells = p });
  noted = λ t r. record {
    others = t;
    spells = behind_header stands r;
    below = λ h. h;
    roots_are = ap (λ (z : List ℕ). z ++ roots t) (sym rootless);
    calls_are = ap (λ (z : List (List ℕ)). z ++ calls t) (sym empty);
  };
}

pub seen_more : {bound : ℕ} {bytes rest left found found' : List ℕ} {lists lists' : List (List ℕ)} (f : Tree) → SeenSoFar bound bytes rest found lists → Begins frame rest f left → (u : Tree) × InFrame u f →
    ((u : Tree) → InFrame u f → All (λ i. i < bound) (functions_of u)) → ((u : Tree) → InFrame u f → found' ≡ found ++ section_roots u) →
    ((u : Tree) → InFrame u f → lists' ≡ lists ++ map functions_of (rows_in id.Code u)) → SeenSoFar bound bytes left found' lists'
seen_more {bound = bound} {rest = rest} {left = left} {found = found} {lists = lists} f so_far there one low more_roots more_calls = record {
  readable = λ v p. so_far.readable (Tree.also one.0 v) (in_frames.back rest left f one.0 v there one.1 p);
  noted = λ t r.
      let a = so_far.noted t r in
      let n = in_frames.forth rest left f a.others there a.spells in
      record {
        others = n.1;
        spells = n.4;
        below = λ h.
            let P : Tree → Type 0 = λ z. All (λ i. i < bound) (functions_in z) in
            a.below (subst P (sym n.2) (All-append (λ (i : ℕ). i < bound) (functions_of n.0) (functions_in n.1) (low n.0 n.3) h));
        roots_are =
            a.roots_are ∙ ap (λ (z : Tree). found ++ roots z) n.2 ∙ sym (append_assoc found (section_roots n.0) (roots n.1))
            ∙ ap (λ (z : List ℕ). z ++ roots n.1) (sym (more_roots n.0 n.3));
        calls_are =
            a.calls_are ∙ ap (λ (z : Tree). lists ++ calls z) n.2
            ∙ ap (λ (z : List (List ℕ)). lists ++ z) (map-append functions_of (rows_in id.Code n.0) (rows_of id.Code n.1))
            ∙ sym (append_assoc lists (map functions_of (rows_in id.Code n.0)) (calls n.1))
            ∙ ap (λ (z : List (List ℕ)). z ++ calls n.1) (sym (more_calls n.0 n.3));
      };
}

-- a custom section is no root, and has no body
pub seen_custom : {bound : ℕ} {bytes rest left name contents found : List ℕ} {lists : List (List ℕ)} → SeenSoFar bound bytes rest found lists → Begins frame rest (custom_frame name contents) left →
    (u : Tree) × InFrame u (custom_frame name contents) → ((u : Tree) → InFrame u (custom_frame name contents) → All (λ i. i < bound) (functions_of u)) → SeenSoFar bound bytes left found lists
seen_custom {name = name} {contents = contents} {found = found} {lists = lists} so_far there one low =
    seen_more (custom_frame name contents) so_far there one low
    (λ u i. sym (append-nil found) ∙ ap (λ (z : Tree). found ++ section_roots z) (sym (in_frames.of_custom name contents u i).1))
    (λ u i. sym (append-nil lists) ∙ ap (λ (z : Tree). lists ++ map functions_of (rows_in id.Code z)) (sym (in_frames.of_custom name contents u i).1))

-- nor has one of no known kind, which asks for nothing
pub seen_unknown : {bound : ℕ} {bytes rest left contents found : List ℕ} {lists : List (List ℕ)} {n : ℕ} → 14 ≤ n → SeenSoFar bound bytes rest found lists → Begins frame rest (numbered_frame n contents) left →
    SeenSoFar bound bytes left found lists
seen_unknown {bound = bound} {contents = contents} {found = found} {lists = lists} {n = n} high so_far there =
    seen_more (numbered_frame n contents) so_far there (unknown_tree_of n contents, InFrame.of_unknown n contents high (frame_id there).1)
    (λ u i.
    let P : Tree → Type 0 = λ z. All (λ i. i < bound) (functions_of z) in
    subst P (sym (in_frames.of_unknown n contents u high i)) (All-nil (λ (i : ℕ). i < bound)))
    (λ u i. sym (append-nil found) ∙ ap (λ (z : Tree). found ++ section_roots z) (sym (in_frames.of_unknown n contents u high i)))
    (λ u i. sym (append-nil lists) ∙ ap (λ (z : Tree). lists ++ map functions_of (rows_in id.Code z)) (sym (in_frames.of_unknown n contents u high i)))

module _ {bound : ℕ} {bytes rest found : List ℕ} {lists : List (List ℕ)} (so_far : SeenSoFar bound bytes rest found lists) (empty : rest ≡ []) where
  pub seen_reading : (t : Tree) × CoreReading bytes t
  seen_reading =
      let P : List ℕ → Type 0 = λ z. Spells sections z Tree.finish in
      so_far.readable Tree.finish (subst P (sym empty) (record { shaped = Is.finish; spelled = refl }))

  pub seen_functions : (t : Tree) → CoreReading bytes t → All (λ i. i < bound) (functions_of t)
  seen_functions t r =
      let a = so_far.noted t r in
      let P : Tree → Type 0 = λ z. All (λ i. i < bound) (functions_in z) in
      let Q : List ℕ → Type 0 = λ z. All (λ i. i < bound) z in
      subst Q (sym (functions_are None t r.spells.shaped)) (a.below (subst P (sym (none_left empty a.spells)) (All-nil (λ (i : ℕ). i < bound))))

  pub seen_roots : (t : Tree) → CoreReading bytes t → found ≡ roots t
  seen_roots t r = let a = so_far.noted t r in sym (a.roots_are ∙ ap (λ (z : Tree). found ++ roots z) (none_left empty a.spells) ∙ append-nil found)

  pub seen_calls : (t : Tree) → CoreReading bytes t → lists ≡ calls t
  seen_calls t r = let a = so_far.noted t r in sym (a.calls_are ∙ ap (λ (z : Tree). lists ++ calls z) (none_left empty a.spells) ∙ append-nil lists)

-- ---- each function is there

below_one : (n i j k : ℕ) (s : Space) → space.Function ≡ s → i ≡ j → so_many_functions n s ≡ Some k → i < n → j < k
below_one n i j k s p q is h =
    let here : Some n ≡ Some k = ap (so_many_functions n) p ∙ is in
    let same : n ≡ k = cc in
    omega (arith, h, q, same)

none_there : (n k : ℕ) (p s : Space) → so_many_functions n p ≡ None → p ≡ s → so_many_functions n s ≡ Some k → ⊥
none_there n k p s none same is = let e : None ≡ Some k = sym none ∙ ap (so_many_functions n) same ∙ is in absurd cc

pub known_back : (n : ℕ) (vs : List Visit) → All (λ i. i < n) (filter_map function_asked vs) → AllByRecursion (IsBelow (so_many_functions n)) vs
known_back n [] all = tt
known_back n (v ∷ vs) all = (here v all, known_back n vs (others v all))
  where
    here : (v : Visit) → All (λ i. i < n) (filter_map function_asked (v ∷ vs)) → IsBelow (so_many_functions n) v
    here (Index space.Function i) all = λ s j k asks is. below_one n i j k s asks.0 asks.1 is (All-head (λ (i : ℕ). i < n) i (filter_map function_asked vs) all)
    here (Outer space.Function c i) all = λ s j k asks is. below_one n i j k s asks.0 asks.1 is (All-head (λ (i : ℕ). i < n) i (filter_map function_asked vs) all)
    here (Index p i) all = λ s j k asks is. absurd (none_there n k p s refl asks.0 is)
    here (Outer p c i) all = λ s j k asks is. absurd (none_there n k p s refl asks.0 is)
    here _ all = λ s j k asks is. absurd asks

    others : (v : Visit) → All (λ i. i < n) (filter_map function_asked (v ∷ vs)) → All (λ i. i < n) (filter_map function_asked vs)
    others (Index space.Function i) all = All-tail (λ (i : ℕ). i < n) i (filter_map function_asked vs) all
    others (Outer space.Function c i) all = All-tail (λ (i : ℕ). i < n) i (filter_map function_asked vs) all
    others _ all = all

pub seen_ready : {bytes : List ℕ} {t : Tree} {numbers : Numbers} {bound : ℕ} → CoreReading bytes t → AreNumbers t None numbers → bound ≡ min (numbers.imports + numbers.defined) 4294967295 →
    All (λ i. i < bound) (functions_of t) → Reads bytes (IsReady numbers)
seen_ready {t = t} {numbers = numbers} {bound = bound} r n is below =
    let number : bound ≡ number_of space.Function t = omega (arith, is, n.few, n.imports, n.defined) in
    let P : ℕ → Type 0 = λ b. All (λ i. i < b) (functions_of t) in
    let known = known_back (number_of space.Function t) (visits t) (subst P number below) in
    (t, r, record { even = n.even; known = known; imports = n.imports; defined = n.defined; few = n.few })

-- all those that were looked at
pub all_below : (functions : List ℕ) (bound : ℕ) → ((k : ℕ) → k < length functions → get_or functions k 0 < bound) → All (λ i. i < bound) functions
all_below functions bound each = λ k d h. let e : get_or functions k d ≡ get_or functions k 0 = get_or_default functions k d 0 h in let low = each k h in omega (arith, e, low)
