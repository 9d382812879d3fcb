-- A code for trees, by which a struct may be seen as a list of trees.
use Rattle.std.specs.Prelude.{◌≡◌, ℕ, ℤ, pos, negsuc, zero, suc, List, [], ◌∷◌}
use Rattle.std.specs.Coded.{Coded, code_by, coded_list}
use Rattle.std.proofs.Common.{refl, ap}
use mathlib.Core.Path.{ap₂}
use base.Stored.{Gv, gnil, gnum, gcons, num}
use denote.Struct.Codes.{itself}
use Rattle.wasm_shapes.specs.declared.SectionId.{SectionId}
use Rattle.wasm_shapes.specs.declared.SectionId.TheVariants as id
use Rattle.wasm_shapes.specs.declared.Space.{Space}
use Rattle.wasm_shapes.specs.declared.Space.TheVariants as space
use Rattle.wasm_shapes.specs.Operators.{Code, plain, prefixed}
use Rattle.wasm_shapes.specs.Tree.{Tree, Listed}

abbrev pick : {A : Type 0} → A → List A → ℕ → A
pick other [] k = other
pick other (x ∷ xs) zero = x
pick other (x ∷ xs) (suc k) = pick other xs k

-- ---- what leaves hold

abbrev numbers : List ℕ → Gv
numbers [] = gnil
numbers (n ∷ ns) = gcons (gnum n) (numbers ns)

abbrev back_numbers : Gv → List ℕ
back_numbers (gcons n ns) = num n ∷ back_numbers ns
back_numbers _ = []

numbers_back : (ns : List ℕ) → back_numbers (numbers ns) ≡ ns
numbers_back [] = refl
numbers_back (n ∷ ns) = ap (λ (l : List ℕ). n ∷ l) (numbers_back ns)

abbrev whole : ℤ → Gv
whole (pos n) = gnum n
whole (negsuc n) = gcons gnil (gnum n)

abbrev back_whole : Gv → ℤ
back_whole (gcons a n) = negsuc (num n)
back_whole n = pos (num n)

whole_back : (z : ℤ) → back_whole (whole z) ≡ z
whole_back (pos n) = refl
whole_back (negsuc n) = refl

abbrev operator : Code → Gv
operator (plain b) = gnum b
operator (prefixed p n) = gcons (gnum p) (gnum n)

abbrev back_operator : Gv → Code
back_operator (gcons p n) = prefixed (num p) (num n)
back_operator b = plain (num b)

operator_back : (c : Code) → back_operator (operator c) ≡ c
operator_back (plain b) = refl
operator_back (prefixed p n) = refl

abbrev space_number : Space → ℕ
space_number space.Data = 0
space_number space.Element = 1
space_number space.Function = 2
space_number space.Global = 3
space_number space.Memory = 4
space_number space.Table = 5
space_number space.Tag = 6
space_number space.Type_ = 7
space_number space.DataCount = 8
space_number space.ComponentType = 9
space_number space.ComponentInstance = 10
space_number space.ComponentFunc = 11
space_number space.Component = 12
space_number space.Module = 13
space_number space.Instance = 14
space_number space.ComponentValue = 15

abbrev back_space : ℕ → Space
back_space k = pick space.Data
    (space.Data ∷ space.Element ∷ space.Function ∷ space.Global ∷ space.Memory ∷ space.Table ∷ space.Tag ∷ space.Type_ ∷ space.DataCount ∷ space.ComponentType ∷ space.ComponentInstance ∷ space.ComponentFunc ∷ space.Component ∷ space.Module ∷ space.Instance ∷ space.ComponentValue ∷ []) k

space_back : (v : Space) → back_space (space_number v) ≡ v
space_back space.Data = refl
space_back space.Element = refl
space_back space.Function = refl
space_back space.Global = refl
space_back space.Memory = refl
space_back space.Table = refl
space_back space.Tag = refl
space_back space.Type_ = refl
space_back space.DataCount = refl
space_back space.ComponentType = refl
space_back space.ComponentInstance = refl
space_back space.ComponentFunc = refl
space_back space.Component = refl
space_back space.Module = refl
space_back space.Instance = refl
space_back space.ComponentValue = refl

abbrev id_number : SectionId → ℕ
id_number id.Custom = 0
id_number id.Type_ = 1
id_number id.Import = 2
id_number id.Function = 3
id_number id.Table = 4
id_number id.Memory = 5
id_number id.Global = 6
id_number id.Export = 7
id_number id.Start = 8
id_number id.Element = 9
id_number id.Code = 10
id_number id.Data = 11
id_number id.DataCount = 12
id_number id.Tag = 13

abbrev back_id : ℕ → SectionId
back_id k = pick id.Custom
    (id.Custom ∷ id.Type_ ∷ id.Import ∷ id.Function ∷ id.Table ∷ id.Memory ∷ id.Global ∷ id.Export ∷ id.Start ∷ id.Element ∷ id.Code ∷ id.Data ∷ id.DataCount ∷ id.Tag ∷ []) k

id_back : (v : SectionId) → back_id (id_number v) ≡ v
id_back id.Custom = refl
id_back id.Type_ = refl
id_back id.Import = refl
id_back id.Function = refl
id_back id.Table = refl
id_back id.Memory = refl
id_back id.Global = refl
id_back id.Export = refl
id_back id.Start = refl
id_back id.Element = refl
id_back id.Code = refl
id_back id.Data = refl
id_back id.DataCount = refl
id_back id.Tag = refl

abbrev listed_number : Listed → ℕ
listed_number Listed.functions = 0
listed_number Listed.expressions = 1

abbrev back_listed : ℕ → Listed
back_listed k = pick Listed.functions
    (Listed.functions ∷ Listed.expressions ∷ []) k

listed_back : (v : Listed) → back_listed (listed_number v) ≡ v
listed_back Listed.functions = refl
listed_back Listed.expressions = refl

-- ---- trees

abbrev first : Gv → Gv
first (gcons a b) = a
first _ = gnil

abbrev second : Gv → Gv
second (gcons a b) = b
second _ = gnil

-- a constructor by its number, what its leaf holds, and two trees
abbrev node : ℕ → Gv → Gv → Gv → Gv
node k leaf a b = gcons (gnum k) (gcons leaf (gcons a b))

abbrev code : Tree → Gv
code Tree.empty = node 0 gnil gnil gnil
code (Tree.fixed b) = node 1 (gnum b) gnil gnil
code (Tree.byte b) = node 2 (gnum b) gnil gnil
code (Tree.raw bs) = node 3 (numbers bs) gnil gnil
code (Tree.u32 b) = node 4 (gnum b) gnil gnil
code (Tree.u64 b) = node 5 (gnum b) gnil gnil
code (Tree.s32 z) = node 6 (whole z) gnil gnil
code (Tree.s64 z) = node 7 (whole z) gnil gnil
code (Tree.ix s b) = node 8 (gcons (gnum (space_number s)) (gnum b)) gnil gnil
code (Tree.sx s b) = node 9 (gcons (gnum (space_number s)) (gnum b)) gnil gnil
code (Tree.outer s b c) = node 10 (gcons (gnum (space_number s)) (gcons (gnum b) (gnum c))) gnil gnil
code (Tree.name bs) = node 11 (numbers bs) gnil gnil
code (Tree.content bs) = node 12 (numbers bs) gnil gnil
code (Tree.alike b c) = node 13 (gcons (gnum b) (gnum c)) gnil gnil
code (Tree.mem b c d) = node 14 (gcons (gnum b) (gcons (gnum c) (gnum d))) gnil gnil
code (Tree.canonical b) = node 15 (gnum b) gnil gnil
code (Tree.flag b) = node 16 (gnum b) gnil gnil
code (Tree.pair t u) = node 17 gnil (code t) (code u)
code (Tree.swap t u) = node 18 gnil (code t) (code u)
code Tree.nil = node 19 gnil gnil gnil
code (Tree.cons t u) = node 20 gnil (code t) (code u)
code (Tree.vec t) = node 21 gnil (code t) gnil
code Tree.absent = node 22 gnil gnil gnil
code (Tree.present t) = node 23 gnil (code t) gnil
code (Tree.sized t) = node 24 gnil (code t) gnil
code (Tree.row b t) = node 25 (gnum b) (code t) gnil
code (Tree.scope t) = node 26 gnil (code t) gnil
code (Tree.spare b t) = node 27 (gnum b) (code t) gnil
code (Tree.kept b t) = node 28 (gnum b) (code t) gnil
code (Tree.final t u) = node 29 gnil (code t) (code u)
code (Tree.until b t) = node 30 (gnum b) (code t) gnil
code (Tree.op c t) = node 31 (operator c) (code t) gnil
code (Tree.left w t u) = node 32 (gnum (listed_number w)) (code t) (code u)
code (Tree.aimed w b t u) = node 33 (gcons (gnum (listed_number w)) (gnum b)) (code t) (code u)
code (Tree.placed b t u) = node 34 (gnum b) (code t) (code u)
code (Tree.told k t) = node 35 (gnum (id_number k)) (code t) gnil
code Tree.finish = node 36 gnil gnil gnil
code (Tree.also t u) = node 37 gnil (code t) (code u)

abbrev made : ℕ → Gv → Tree → Tree → Tree
made k leaf t u = pick Tree.empty
    (Tree.empty ∷
    Tree.fixed (num leaf) ∷
    Tree.byte (num leaf) ∷
    Tree.raw (back_numbers leaf) ∷
    Tree.u32 (num leaf) ∷
    Tree.u64 (num leaf) ∷
    Tree.s32 (back_whole leaf) ∷
    Tree.s64 (back_whole leaf) ∷
    Tree.ix (back_space (num (first leaf))) (num (second leaf)) ∷
    Tree.sx (back_space (num (first leaf))) (num (second leaf)) ∷
    Tree.outer (back_space (num (first leaf))) (num (first (second leaf))) (num (second (second leaf))) ∷
    Tree.name (back_numbers leaf) ∷
    Tree.content (back_numbers leaf) ∷
    Tree.alike (num (first leaf)) (num (second leaf)) ∷
    Tree.mem (num (first leaf)) (num (first (second leaf))) (num (second (second leaf))) ∷
    Tree.canonical (num leaf) ∷
    Tree.flag (num leaf) ∷
    Tree.pair t u ∷
    Tree.swap t u ∷
    Tree.nil ∷
    Tree.cons t u ∷
    Tree.vec t ∷
    Tree.absent ∷
    Tree.present t ∷
    Tree.sized t ∷
    Tree.row (num leaf) t ∷
    Tree.scope t ∷
    Tree.spare (num leaf) t ∷
    Tree.kept (num leaf) t ∷
    Tree.final t u ∷
    Tree.until (num leaf) t ∷
    Tree.op (back_operator leaf) t ∷
    Tree.left (back_listed (num leaf)) t u ∷
    Tree.aimed (back_listed (num (first leaf))) (num (second leaf)) t u ∷
    Tree.placed (num leaf) t u ∷
    Tree.told (back_id (num leaf)) t ∷
    Tree.finish ∷
    Tree.also t u ∷ []) k

abbrev back : Gv → Tree
back (gcons k (gcons leaf (gcons a b))) = made (num k) leaf (back a) (back b)
back _ = Tree.empty

ap₃ : {A B C D : Type 0} (f : A → B → C → D) {a a' : A} {b b' : B} {c c' : C} → a ≡ a' → b ≡ b' → c ≡ c' → f a b c ≡ f a' b' c'
ap₃ f p q r = λ i. f (p i) (q i) (r i)

pub code_back : (t : Tree) → back (code t) ≡ t
code_back Tree.empty = refl
code_back (Tree.fixed b) = refl
code_back (Tree.byte b) = refl
code_back (Tree.raw bs) = ap (λ (x0 : List ℕ). Tree.raw x0) (numbers_back bs)
code_back (Tree.u32 b) = refl
code_back (Tree.u64 b) = refl
code_back (Tree.s32 z) = ap (λ (x0 : ℤ). Tree.s32 x0) (whole_back z)
code_back (Tree.s64 z) = ap (λ (x0 : ℤ). Tree.s64 x0) (whole_back z)
code_back (Tree.ix s b) = ap (λ (x0 : Space). Tree.ix x0 b) (space_back s)
code_back (Tree.sx s b) = ap (λ (x0 : Space). Tree.sx x0 b) (space_back s)
code_back (Tree.outer s b c) = ap (λ (x0 : Space). Tree.outer x0 b c) (space_back s)
code_back (Tree.name bs) = ap (λ (x0 : List ℕ). Tree.name x0) (numbers_back bs)
code_back (Tree.content bs) = ap (λ (x0 : List ℕ). Tree.content x0) (numbers_back bs)
code_back (Tree.alike b c) = refl
code_back (Tree.mem b c d) = refl
code_back (Tree.canonical b) = refl
code_back (Tree.flag b) = refl
code_back (Tree.pair t u) = ap₂ (λ (x0 : Tree) (x1 : Tree). Tree.pair x0 x1) (code_back t) (code_back u)
code_back (Tree.swap t u) = ap₂ (λ (x0 : Tree) (x1 : Tree). Tree.swap x0 x1) (code_back t) (code_back u)
code_back Tree.nil = refl
code_back (Tree.cons t u) = ap₂ (λ (x0 : Tree) (x1 : Tree). Tree.cons x0 x1) (code_back t) (code_back u)
code_back (Tree.vec t) = ap (λ (x0 : Tree). Tree.vec x0) (code_back t)
code_back Tree.absent = refl
code_back (Tree.present t) = ap (λ (x0 : Tree). Tree.present x0) (code_back t)
code_back (Tree.sized t) = ap (λ (x0 : Tree). Tree.sized x0) (code_back t)
code_back (Tree.row b t) = ap (λ (x0 : Tree). Tree.row b x0) (code_back t)
code_back (Tree.scope t) = ap (λ (x0 : Tree). Tree.scope x0) (code_back t)
code_back (Tree.spare b t) = ap (λ (x0 : Tree). Tree.spare b x0) (code_back t)
code_back (Tree.kept b t) = ap (λ (x0 : Tree). Tree.kept b x0) (code_back t)
code_back (Tree.final t u) = ap₂ (λ (x0 : Tree) (x1 : Tree). Tree.final x0 x1) (code_back t) (code_back u)
code_back (Tree.until b t) = ap (λ (x0 : Tree). Tree.until b x0) (code_back t)
code_back (Tree.op c t) = ap₂ (λ (x0 : Code) (x1 : Tree). Tree.op x0 x1) (operator_back c) (code_back t)
code_back (Tree.left w t u) = ap₃ (λ (x0 : Listed) (x1 : Tree) (x2 : Tree). Tree.left x0 x1 x2) (listed_back w) (code_back t) (code_back u)
code_back (Tree.aimed w b t u) = ap₃ (λ (x0 : Listed) (x1 : Tree) (x2 : Tree). Tree.aimed x0 b x1 x2) (listed_back w) (code_back t) (code_back u)
code_back (Tree.placed b t u) = ap₂ (λ (x0 : Tree) (x1 : Tree). Tree.placed b x0 x1) (code_back t) (code_back u)
code_back (Tree.told k t) = ap₂ (λ (x0 : SectionId) (x1 : Tree). Tree.told x0 x1) (id_back k) (code_back t)
code_back Tree.finish = refl
code_back (Tree.also t u) = ap₂ (λ (x0 : Tree) (x1 : Tree). Tree.also x0 x1) (code_back t) (code_back u)

abbrev pub tree_code : Coded Tree
tree_code = code_by Gv itself code back code_back

abbrev pub trees_code : Coded (List Tree)
trees_code = coded_list tree_code
