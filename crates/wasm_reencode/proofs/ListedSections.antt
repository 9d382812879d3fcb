-- Sections that are listed, one behind another.
use Rattle.std.proofs.Common.{◌≡◌, ℕ, ◌+◌, ◌-◌, ◌<◌, ◌≤◌, List, [], ◌∷◌, ◌++◌, length, Option, None, Some, inl, inr, refl, sym, ap, ◌∙◌, subst, arith, append_assoc, append-nil, length-append}
use Rattle.wasm_shapes.specs.Place.{Begins}
use Rattle.wasm_reencode.specs.declared.sections.Layer.{Layer}
use Rattle.wasm_reencode.specs.declared.sections.Section.{Section}
use Rattle.wasm_reencode.specs.Sections.{AreListed, Frame, HasNoInner, IsFrame, IsInner, IsSection}

-- the bytes behind a section are fewer than those that it begins with
pub fewer : {l : Layer} {depth number start : ℕ} {bytes : List ℕ} {s : Section} (f : Frame) → IsSection l depth number start bytes s → s.frame ≡ Some f → length f.1.now < length bytes
fewer {bytes = bytes} {s = s} f is e =
    let P : Option Frame → Type 0 = λ z. IsFrame z is.behind in
    let there = subst P e is.framed in
    omega (arith, ap length is.stands, ap length there.reads, length-append there.text f.1.now)

-- and its body is no longer than what stands between
pub fits : {l : Layer} {depth number start : ℕ} {bytes : List ℕ} {s : Section} (f : Frame) → IsSection l depth number start bytes s → s.frame ≡ Some f → length f.0.now ≤ length bytes - length f.1.now
fits {bytes = bytes} {s = s} f is e =
    let P : Option Frame → Type 0 = λ z. IsFrame z is.behind in
    let there = subst P e is.framed in
    let sized = there.spells.spelled in
    omega (arith, ap length is.stands, ap length there.reads, length-append there.text f.1.now, ap length sized.2 ∙ length-append sized.0 sized.1, ap length sized.4)

none_left : (xs : List ℕ) → length xs ≡ 0 → xs ≡ []
none_left [] e = refl
none_left (x ∷ xs) e = absurd (omega (arith, e))

-- so far these sections are listed, and so many stand before what is left
pub record ListedSoFar (l : Layer) (depth at : ℕ) (bytes rest : List ℕ) (number : ℕ) (old all : List Section) : Type 0 where
  pub done : List Section
  pub added : all ≡ old ++ done
  pub within : length rest + number ≤ length bytes
  pub goes : (more : List Section) → AreListed l depth number (at + (length bytes - length rest)) rest more → AreListed l depth 0 at bytes (done ++ more)

module _ {l : Layer} {depth : ℕ} (at : ℕ) {bytes : List ℕ} {old : List Section} where
  pub listed_begin : ListedSoFar l depth at bytes bytes 0 old old
  listed_begin = record {
    done = [];
    added = sym (append-nil old);
    within = omega arith;
    goes = λ more a. let P : ℕ → Type 0 = λ n. AreListed l depth 0 n bytes more in let here : at + (length bytes - length bytes) ≡ at = omega arith in subst P here a;
  }

  pub listed_all : {rest : List ℕ} {number : ℕ} {all : List Section} → ListedSoFar l depth at bytes rest number old all → rest ≡ []
      → (found : List Section) × (all ≡ old ++ found) × AreListed l depth 0 at bytes found
  listed_all {number = number} s e =
      let P : List ℕ → Type 0 = λ z. AreListed l depth number (at + (length bytes - length z)) z [] in
      let Q : List Section → Type 0 = λ z. AreListed l depth 0 at bytes z in
      (s.done, s.added, subst Q (append-nil s.done) (s.goes [] (subst P (sym e) AreListed.ended)))

  -- there are as many turns as bytes
  pub listed_last : {rest : List ℕ} {number : ℕ} {all : List Section} → ListedSoFar l depth at bytes rest number old all → length bytes ≤ number
      → (found : List Section) × (all ≡ old ++ found) × AreListed l depth 0 at bytes found
  listed_last {rest = rest} s last = listed_all s (none_left rest (omega (arith, s.within)))

  -- a section follows whose size passes the end
  pub listed_cut : {rest : List ℕ} {number : ℕ} {all now : List Section} {one : Section} → ListedSoFar l depth at bytes rest number old all
      → IsSection l depth number (at + (length bytes - length rest)) rest one → one.frame ≡ None → now ≡ all ++ one ∷ []
      → (found : List Section) × (now ≡ old ++ found) × AreListed l depth 0 at bytes found
  listed_cut {one = one} s is e added =
      (s.done ++ one ∷ [], added ∙ ap (λ (z : List Section). z ++ one ∷ []) s.added ∙ append_assoc old s.done (one ∷ []), s.goes (one ∷ []) (AreListed.cut is e))

  -- a section follows, and those in it
  pub listed_more : {rest : List ℕ} {number : ℕ} {all now : List Section} {one : Section} {inner : List Section} (f : Frame) → ListedSoFar l depth at bytes rest number old all
      → IsSection l depth number (at + (length bytes - length rest)) rest one → one.frame ≡ Some f
      → IsInner l depth one.id (at + (length bytes - length rest) + (length rest - length f.1.now)) f.0.now inner → now ≡ (all ++ one ∷ []) ++ inner
      → ListedSoFar l depth at bytes f.1.now (number + 1) old now
  listed_more {rest} {number} {all} {now} {one} {inner} f s is e in_it added =
      let start = at + (length bytes - length rest) in
      let less = fewer f is e in
      record {
        done = s.done ++ one ∷ inner;
        added = added ∙ ap (λ (z : List Section). (z ++ one ∷ []) ++ inner) s.added ∙ ap (λ (z : List Section). z ++ inner) (append_assoc old s.done (one ∷ []))
            ∙ append_assoc old (s.done ++ one ∷ []) inner ∙ ap (λ (z : List Section). old ++ z) (append_assoc s.done (one ∷ []) inner);
        within = omega (arith, s.within);
        goes = λ more a.
            let place : at + (length bytes - length f.1.now) ≡ start + (length rest - length f.1.now) = omega (arith, s.within) in
            let P : ℕ → Type 0 = λ n. AreListed l depth (number + 1) n f.1.now more in
            let Q : List Section → Type 0 = λ z. AreListed l depth 0 at bytes z in
            subst Q (sym (append_assoc s.done (one ∷ inner) more)) (s.goes (one ∷ (inner ++ more)) (go more (subst P place a) in_it));
      }
    where
      go : (more : List Section) → AreListed l depth (number + 1) (at + (length bytes - length rest) + (length rest - length f.1.now)) f.1.now more
          → IsInner l depth one.id (at + (length bytes - length rest) + (length rest - length f.1.now)) f.0.now inner
          → AreListed l depth number (at + (length bytes - length rest)) rest (one ∷ (inner ++ more))
      go more behind (inl h) =
          let P : List Section → Type 0 = λ z. AreListed l depth number (at + (length bytes - length rest)) rest (one ∷ (z ++ more)) in
          subst P (sym h.0) (AreListed.plain f is e h.1 behind)
      go more behind (inr h) = AreListed.nested f h.0 h.1 is e h.2 h.3 h.4 h.5 behind
