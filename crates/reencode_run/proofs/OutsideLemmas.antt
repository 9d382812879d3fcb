-- What is told of a source and a sink, over several calls.
use Rattle.std.proofs.Common.{◌≡◌, ℕ, ◌+◌, ◌≤◌, ◌-◌, inl, inr, Option, Some, None, Result, Ok, Err, List, [], ◌∷◌, ◌++◌, length, length-drop, take, drop, refl, sym, ap, subst, ◌∙◌, append_assoc, arith}
use Rattle.std.proofs.lemmas.List.{append-nil, drop-drop, take-append-drop, take-append-le, take_all}
use Rattle.std.proofs.Math.Seq.{take-add, take-append-add, take-append_seam}
use Rattle.std.proofs.lemmas.Bool.{cases_lt}
use Rattle.std.specs.Prelude.{OnErr, OnOk}
use Rattle.hex.specs.Hex.{encode_with, encode_lower, lower_digits}
use Rattle.reencode_run.specs.Outside.{WhereTold, followed, TookFront}

pub followed-append : (o : Option (List ℕ)) (a b : List ℕ) → followed o (a ++ b) ≡ followed (followed o a) b
followed-append None a b = refl
followed-append (Some held) a b = ap Some (sym (append_assoc held a b))

pub followed-nil : (o : Option (List ℕ)) → followed o [] ≡ o
followed-nil None = refl
followed-nil (Some held) = ap Some (append-nil held)

pub WhereTold-same : (o : Option (List ℕ)) → WhereTold o o
WhereTold-same None = tt
WhereTold-same (Some told) = refl

-- nothing was taken yet
pub WhereTold-start : (o : Option (List ℕ)) → WhereTold o (followed o [])
WhereTold-start None = tt
WhereTold-start (Some told) = followed-nil (Some told)

-- two steps of a sink are one
pub WhereTold-steps : (a b c : Option (List ℕ)) (x y : List ℕ) → WhereTold b (followed a x) → WhereTold c (followed b y)
    → WhereTold c (followed a (x ++ y))
WhereTold-steps a b None x y h k = tt
WhereTold-steps a None (Some told) x y h k = cc k
WhereTold-steps a (Some middle) (Some told) x y h k =
    followed-append a x y ∙ ap (λ (o : Option (List ℕ)). followed o y) h ∙ k

-- a slice up to the end is what is left of the list
pub rest-drop : (text : List ℕ) (at : ℕ) → take (length text - at) (drop at text) ≡ drop at text
rest-drop text at = take_all (length text - at) (drop at text) (omega (arith, length-drop at text))

-- the next bytes of a text were taken
pub WhereTold-next : (a b c : Option (List ℕ)) (text : List ℕ) (at n : ℕ)
    → WhereTold b (followed a (take at text)) → WhereTold c (followed b (take n (take (length text - at) (drop at text))))
    → WhereTold c (followed a (take (at + n) text))
WhereTold-next a b c text at n h m =
    let k = subst (λ (r : List ℕ). WhereTold c (followed b (take n r))) (rest-drop text at) m in
    let e : take at text ++ take n (drop at text) ≡ take (at + n) text = sym (take-add at n text) in
    subst (λ (t : List ℕ). WhereTold c (followed a t)) e (WhereTold-steps a b c (take at text) (take n (drop at text)) h k)

-- a front of a text is a front of a longer one
pub TookFront-longer : (a b : Option (List ℕ)) (x y : List ℕ) → TookFront a b x → TookFront a b (x ++ y)
TookFront-longer a b x y h =
    elim (cases_lt h.0 (length x)) [
      | inl less ↦
          let le : h.0 ≤ length x = omega arith in
          (h.0, subst (λ (t : List ℕ). WhereTold b (followed a t)) (sym (take-append-le h.0 x y le)) h.1)
      | inr more ↦
          (length x, subst (λ (t : List ℕ). WhereTold b (followed a t)) (take_all h.0 x more ∙ sym (take-append_seam x y)) h.1)
    ]

-- a text and then a front of another
pub TookFront-behind : (a b c : Option (List ℕ)) (x y : List ℕ) → WhereTold b (followed a x) → TookFront b c y
    → TookFront a c (x ++ y)
TookFront-behind a b c x y h k =
    (length x + k.0, subst (λ (t : List ℕ). WhereTold c (followed a t)) (sym (take-append-add x y k.0)) (WhereTold-steps a b c x (take k.0 y) h k.1))

-- a text was taken and then a front of another, where the writing of that failed
pub TookFront-behind_err : {T E : Type 0} (r : Result T E) (a b c : Option (List ℕ)) (x y : List ℕ) → WhereTold b (followed a x)
    → OnErr r (TookFront b c y) → OnErr r (TookFront a c (x ++ y))
TookFront-behind_err (Ok v) a b c x y h k = k
TookFront-behind_err (Err e) a b c x y h k = TookFront-behind a b c x y h k

-- a text was taken and then another, where the writing of that succeeded
pub WhereTold-steps_ok : {T E : Type 0} (r : Result T E) (a b c : Option (List ℕ)) (x y : List ℕ) → WhereTold b (followed a x)
    → OnOk r (WhereTold c (followed b y)) → OnOk r (WhereTold c (followed a (x ++ y)))
WhereTold-steps_ok (Ok v) a b c x y h k = WhereTold-steps a b c x y h k
WhereTold-steps_ok (Err e) a b c x y h k = k

-- a text and then two more
pub WhereTold-two : {T E : Type 0} (r : Result T E) (a b c : Option (List ℕ)) (x w n : List ℕ) → WhereTold b (followed a x)
    → OnOk r (WhereTold c (followed b (w ++ n))) → OnOk r (WhereTold c (followed a (x ++ w ++ n)))
WhereTold-two r a b c x w n h k = rw (append_assoc x w n) (WhereTold-steps_ok r a b c x (w ++ n) h k)

pub TookFront-two : {T E : Type 0} (r : Result T E) (a b c : Option (List ℕ)) (x w n : List ℕ) → WhereTold b (followed a x)
    → OnErr r (TookFront b c (w ++ n)) → OnErr r (TookFront a c (x ++ w ++ n))
TookFront-two r a b c x w n h k = rw (append_assoc x w n) (TookFront-behind_err r a b c x (w ++ n) h k)

-- a text and then the three parts of a line's end
pub WhereTold-line : {T E : Type 0} (r : Result T E) (a b c : Option (List ℕ)) (x w n z : List ℕ) → WhereTold b (followed a x)
    → OnOk r (WhereTold c (followed b (w ++ n ++ z))) → OnOk r (WhereTold c (followed a (x ++ w ++ n ++ z)))
WhereTold-line r a b c x w n z h k = rw (append_assoc x w n, append_assoc x (w ++ n) z) (WhereTold-steps_ok r a b c x (w ++ n ++ z) h k)

pub TookFront-line : {T E : Type 0} (r : Result T E) (a b c : Option (List ℕ)) (x w n z : List ℕ) → WhereTold b (followed a x)
    → OnErr r (TookFront b c (w ++ n ++ z)) → OnErr r (TookFront a c (x ++ w ++ n ++ z))
TookFront-line r a b c x w n z h k = rw (append_assoc x w n, append_assoc x (w ++ n) z) (TookFront-behind_err r a b c x (w ++ n ++ z) h k)

pub TookFront-longest : (a b : Option (List ℕ)) (x w n z : List ℕ) → TookFront a b x → TookFront a b (x ++ w ++ n ++ z)
TookFront-longest a b x w n z h = TookFront-longer a b (x ++ w ++ n) z (TookFront-longer a b (x ++ w) n (TookFront-longer a b x w h))

pub encode_with-append : (t xs ys : List ℕ) → encode_with t (xs ++ ys) ≡ encode_with t xs ++ encode_with t ys
unfolding encode_with
encode_with-append t [] ys = refl
encode_with-append t (b ∷ rest) ys = let e = encode_with-append t rest ys in rw e refl

-- the next bytes of a text were taken as digits
pub WhereTold-digits : (a b c : Option (List ℕ)) (bytes : List ℕ) (at n : ℕ)
    → WhereTold b (followed a (encode_lower (take at bytes)))
    → WhereTold c (followed b (encode_lower (take n (take (length bytes - at) (drop at bytes)))))
    → WhereTold c (followed a (encode_lower (take (at + n) bytes)))
WhereTold-digits a b c bytes at n h m =
    let k = subst (λ (r : List ℕ). WhereTold c (followed b (encode_lower (take n r)))) (rest-drop bytes at) m in
    let e : encode_lower (take at bytes) ++ encode_lower (take n (drop at bytes)) ≡ encode_lower (take (at + n) bytes) =
    sym (ap encode_lower (take-add at n bytes) ∙ encode_with-append lower_digits (take at bytes) (take n (drop at bytes))) in
    subst (λ (t : List ℕ). WhereTold c (followed a t)) e (WhereTold-steps a b c _ _ h k)

-- some bytes were taken as digits, and then a front of the digits of the next
pub TookFront-digits : (a b c : Option (List ℕ)) (bytes : List ℕ) (at n : ℕ)
    → WhereTold b (followed a (encode_lower (take at bytes)))
    → TookFront b c (encode_lower (take n (take (length bytes - at) (drop at bytes))))
    → TookFront a c (encode_lower bytes)
TookFront-digits a b c bytes at n h m =
    let k = subst (λ (r : List ℕ). TookFront b c (encode_lower (take n r))) (rest-drop bytes at) m in
    let e : encode_lower (take at bytes) ++ encode_lower (drop at bytes) ≡ encode_lower bytes =
    sym (ap encode_lower (sym (take-append-drop at bytes)) ∙ encode_with-append lower_digits (take at bytes) (drop at bytes)) in
    let f : encode_lower (take n (drop at bytes)) ++ encode_lower (drop n (drop at bytes)) ≡ encode_lower (drop at bytes) =
    sym (ap encode_lower (sym (take-append-drop n (drop at bytes))) ∙ encode_with-append lower_digits (take n (drop at bytes)) (drop n (drop at bytes))) in
    let longer = subst (λ (t : List ℕ). TookFront b c t) f (TookFront-longer b c _ (encode_lower (drop n (drop at bytes))) k) in
    subst (λ (t : List ℕ). TookFront a c t) e (TookFront-behind a b c _ _ h longer)

pub encode_lower-nil : encode_lower [] ≡ []
unfolding encode_with
encode_lower-nil = refl

-- nothing was taken as digits yet
pub WhereTold-no_digits : (o : Option (List ℕ)) → WhereTold o (followed o (encode_lower []))
WhereTold-no_digits o = rw encode_lower-nil (WhereTold-start o)

-- what is left of a list is the front that is taken next, and what is left behind that
pub drop-front : (bytes view front : List ℕ) (at n : ℕ) → view ≡ bytes → front ≡ take n (take (length view - at) (drop at view))
    → drop at bytes ≡ front ++ drop (at + n) bytes
drop-front bytes view front at n same e =
    let whole : drop at bytes ≡ take n (drop at bytes) ++ drop n (drop at bytes) = sym (take-append-drop n (drop at bytes)) in
    let f : front ≡ take n (drop at bytes) =
    e ∙ ap (λ (r : List ℕ). take n r) (rest-drop view at) ∙ ap (λ (v : List ℕ). take n (drop at v)) same in
    whole ∙ ap (λ (r : List ℕ). take n (drop at bytes) ++ r) (drop-drop n at bytes) ∙ ap (λ (r : List ℕ). r ++ drop (at + n) bytes) (sym f)
