-- What the rule for indices that are there says of a module.
use Rattle.std.proofs.Common.{◌≡◌, ℕ, ◌<◌, ◌≤◌, List, [], ◌∷◌, ◌++◌, map, Bool, true, false, nat_lt, if◌then◌else◌, Option, Some, None, Result, Ok, Err, refl, sym, ap₂, ◌∙◌, subst, arith}
use Rattle.std.specs.List.{AllByRecursion}
use Rattle.std.proofs.lemmas.Bool.{ltb-true, ltb-false}
use Rattle.wasm_shapes.specs.declared.Space.{Space}
use Rattle.wasm_shapes.specs.declared.Visit.{Visit}
use Rattle.wasm_shapes.specs.declared.Visit.TheVariants.{Index, Outer}
use Rattle.wasm_shapes.specs.Tree.{Tree, visits}
use Rattle.wasm_shapes.proofs.Laws.{module_headed}
use Rattle.reencode_hooks.specs.Rules.{by_rule}
use Rattle.reencode_core.specs.Checks.{IsAccepted, IsRefused}
use Rattle.reencode_core.specs.Rules.{Refuses}
use Rattle.filled_modules.specs.declared.limits.Limits.{Limits}
use Rattle.filled_modules.specs.declared.limits.Past.{Past}
use Rattle.filled_modules.specs.Limits.{AreBelow, Asks, FirstPast, IsBelow, IsFirstPast, answer_below, below_limit, limit_of}
use Rattle.filled_modules.specs.Readings.{Reads}

-- ---- an index that has an answer is there

below_is : (s : Space) (i m n : ℕ) (limit : Option ℕ) → answer_below limit s i ≡ Ok m → limit ≡ Some n → i < n
below_is s i m n None e is = absurd cc
below_is s i m n (Some k) e is = let same : k ≡ n = cc in subst (λ (z : ℕ). i < z) same (go (nat_lt i k) refl e)
  where
    go : (b : Bool) → nat_lt i k ≡ b → ◌≡◌ {A = Result ℕ Past} (if b then Ok i else Err (record { space = s; index = i })) (Ok m) → i < k
    go true lt e = ltb-true i k lt
    go false lt e = absurd cc

-- one that has none is not
record NotBelow (limit : Option ℕ) (s : Space) (i : ℕ) (x : Past) : Type 0 where
  number : ℕ
  limited : limit ≡ Some number
  past : number ≤ i
  is : x ≡ record { space = s; index = i }

not_below : (s : Space) (i : ℕ) (x : Past) (limit : Option ℕ) → answer_below limit s i ≡ Err x → NotBelow limit s i x
not_below s i x None e = absurd cc
not_below s i x (Some n) e = go (nat_lt i n) refl e
  where
    go : (b : Bool) → nat_lt i n ≡ b → ◌≡◌ {A = Result ℕ Past} (if b then Ok i else Err (record { space = s; index = i })) (Err x) → NotBelow (Some n) s i x
    go true lt e = absurd cc
    go false lt e = record {
      number = n;
      limited = refl;
      past = ltb-false i n lt;
      is = let same : ◌≡◌ {A = Past} (record { space = s; index = i }) x = cc in sym same;
    }

module _ (l : Limits) where
  one_below : (s p : Space) (i j m n : ℕ) → below_limit l s i ≡ Ok m → s ≡ p → i ≡ j → limit_of l p ≡ Some n → j < n
  one_below s p i j m n e q r is = below_is p j m n (limit_of l p) (sym (ap₂ (λ (x : Space) (y : ℕ). below_limit l x y) q r) ∙ e) is

  below : (v : Visit) (m : ℕ) → by_rule (below_limit l) v ≡ Ok m → IsBelow (limit_of l) v
  below (Index s i) m e = λ p j n asks is. one_below s p i j m n e asks.0 asks.1 is
  below (Outer s c i) m e = λ p j n asks is. one_below s p i j m n e asks.0 asks.1 is
  below _ m e = λ p j n asks is. absurd asks

  all_below : (vs : List Visit) (answers : List ℕ) → map (by_rule (below_limit l)) vs ≡ map Ok answers → AllByRecursion (IsBelow (limit_of l)) vs
  all_below [] answers e = tt
  all_below (v ∷ vs) [] e = absurd cc
  all_below (v ∷ vs) (n ∷ ns) e =
      let one : by_rule (below_limit l) v ≡ Ok n = cc in
      let others : map (by_rule (below_limit l)) vs ≡ map Ok ns = cc in
      (below v n one, all_below vs ns others)

  record NotAsked (v : Visit) (x : Past) : Type 0 where
    asks : Asks x.space x.index v
    number : ℕ
    limited : limit_of l x.space ≡ Some number
    past : number ≤ x.index

  as_asked : (v : Visit) (s : Space) (i : ℕ) (x : Past) → Asks s i v → NotBelow (limit_of l s) s i x → NotAsked v x
  as_asked v s i x asks n = subst (λ (z : Past). NotAsked v z) (sym n.is) (record { asks = asks; number = n.number; limited = n.limited; past = n.past })

  not_asked : (v : Visit) (x : Past) → by_rule (below_limit l) v ≡ Err x → NotAsked v x
  not_asked (Index s i) x e = as_asked (Index s i) s i x (refl, refl) (not_below s i x (limit_of l s) e)
  not_asked (Outer s c i) x e = as_asked (Outer s c i) s i x (refl, refl) (not_below s i x (limit_of l s) e)
  not_asked _ x e = absurd cc

  first_refused : (t : Tree) (x : Past) → Refuses (by_rule (below_limit l)) (visits t) x → FirstPast (limit_of l) t x.space x.index
  first_refused t x r =
      let n = not_asked r.visit x r.refused in record {
        front = r.front;
        visit = r.visit;
        rest = r.rest;
        parts = r.parts;
        below = all_below r.front r.answers r.accepted;
        asks = n.asks;
        number = n.number;
        limited = n.limited;
        past = n.past;
      }

  -- ---- what a check gives

  module _ {bytes : List ℕ} where
    pub accepted_is : IsAccepted (below_limit l) bytes → Reads bytes (λ t. IsFirstPast (limit_of l) t None)
    accepted_is a =
        let h = module_headed.back bytes a.tree a.reading in
        let P : Tree → Type 0 = λ z. AllByRecursion (IsBelow (limit_of l)) (visits z) in
        (h.0, h.2, subst P h.1 (all_below (visits a.tree) a.answers a.answered))

    pub refused_is : (x : Past) → IsRefused (below_limit l) bytes x → Reads bytes (λ t. IsFirstPast (limit_of l) t (Some x))
    refused_is x a =
        let h = module_headed.back bytes a.tree a.reading in
        let P : Tree → Type 0 = λ z. Refuses (by_rule (below_limit l)) (visits z) x in
        (h.0, h.2, first_refused h.0 x (subst P h.1 a.refuses))

-- ---- where each is there, none is not

pub at_seam : {A : Type 0} (P : A → Type 0) (xs : List A) (y : A) (ys : List A) → AllByRecursion P (xs ++ y ∷ ys) → P y
at_seam P [] y ys h = h.0
at_seam P (x ∷ xs) y ys h = at_seam P xs y ys h.1

pub none_past : {limit : Space → Option ℕ} {t : Tree} {s : Space} {i : ℕ} → FirstPast limit t s i → AreBelow limit t → ⊥
none_past {limit = limit} {s = s} {i = i} f all =
    let low : i < f.number = at_seam (IsBelow limit) f.front f.visit f.rest (subst (AllByRecursion (IsBelow limit)) f.parts all) s i f.number f.asks f.limited in
    let past = f.past in
    omega (arith, low, past)
