-- What bytes mean: a tree whose leaves know how they are spelled (WebAssembly Core Specification 3.0, section 5). What is
-- asked of one follows the methods of the ported crate.
use Rattle.std.specs.Prelude.{ℕ, ℤ, zero, suc, ◌+◌, List, [], ◌∷◌, ◌++◌, length, drop, get_or, Option, Some, None}
use Rattle.wasm_leb.specs.Leb.{leb, signed_leb, shortest_signed}
use Rattle.wasm_shapes.specs.declared.SectionId.{SectionId}
use Rattle.wasm_shapes.specs.declared.Space.{Space}
use Rattle.wasm_shapes.specs.declared.Space.TheVariants as space
use Rattle.wasm_shapes.specs.declared.Visit.{Visit}
use Rattle.wasm_shapes.specs.declared.Visit.TheVariants.{Index, Outer, Section, Closed, Push, Pop}
use Rattle.wasm_shapes.specs.Operators.{Code, plain, prefixed}

-- what an element segment lists
pub data Listed : Type 0 where
  functions expressions : Listed

-- What bytes mean: leaves that know how they are spelled, and nodes for parts side by side (`pair`, `swap`), items (`cons`,
-- `vec`), options, sized bodies, rows of choices, scopes, operators, active segments, sections.
pub data Tree : Type 0 where
  -- ---- leaves
  empty : Tree
  fixed : ℕ → Tree
  byte : ℕ → Tree
  raw : List ℕ → Tree
  u32 : ℕ → Tree
  u64 : ℕ → Tree
  s32 : ℤ → Tree
  s64 : ℤ → Tree
  -- an index of a space, spelled without sign and with one
  ix : Space → ℕ → Tree
  sx : Space → ℕ → Tree
  -- an index of a scope further out: its space, the count of scopes, and the index
  outer : Space → ℕ → ℕ → Tree
  -- text, and bytes that are no text, behind their length
  name : List ℕ → Tree
  content : List ℕ → Tree
  -- one of two bytes that mean the same; the first is the normal one
  alike : ℕ → ℕ → Tree
  -- the alignment, the memory and the offset of a memory access; the memory may be left out where it is 0
  mem : ℕ → ℕ → ℕ → Tree
  -- an index inside a recursion group: no shape has it
  canonical : ℕ → Tree
  -- a flag that chooses a row, spelled as a number
  flag : ℕ → Tree
  -- ---- parts
  -- side by side, visited in order, and in the other order
  pair : Tree → Tree → Tree
  swap : Tree → Tree → Tree
  -- items side by side, and behind their number
  nil : Tree
  cons : Tree → Tree → Tree
  vec : Tree → Tree
  -- what a byte says is there or is not
  absent : Tree
  present : Tree → Tree
  -- what fills so many bytes
  sized : Tree → Tree
  -- which row of a choice
  row : ℕ → Tree → Tree
  -- what opens a scope
  scope : Tree → Tree
  -- behind a byte that may be left out, and behind the same byte where it may not
  spare : ℕ → Tree → Tree
  kept : ℕ → Tree → Tree
  -- behind the byte 4f and a vector of items, both of which may be left out where there are no items
  final : Tree → Tree → Tree
  -- items up to a byte
  until : ℕ → Tree → Tree
  -- an operator and its immediates
  op : Code → Tree → Tree
  -- an active element segment: its table, left out or written, its offset and what it lists
  left : Listed → Tree → Tree → Tree
  aimed : Listed → ℕ → Tree → Tree → Tree
  -- an active data segment: its memory, which may be left out where it is 0, its offset and its bytes
  placed : ℕ → Tree → Tree → Tree
  -- a section of a kind that the section hook and the closing hook are told of
  told : SectionId → Tree → Tree
  -- the sections of a module: none are left, and one and those behind it
  finish : Tree
  also : Tree → Tree → Tree

-- how many items
abbrev pub count : Tree → ℕ
count (Tree.cons t u) = suc (count u)
count _ = zero

abbrev pub code_bytes : Code → List ℕ
code_bytes (plain b) = b ∷ []
code_bytes (prefixed p n) = p ∷ leb n

-- the memory of an access is left out where it is 0; bit 6 of the flags says that it is written
abbrev pub mem_bytes : ℕ → ℕ → ℕ → List ℕ
mem_bytes a zero o = leb a ++ leb o
mem_bytes a (suc i) o = leb (a + 64) ++ (leb (suc i) ++ leb o)

-- the reference type of functions that may be null, as a tree of reference types
abbrev pub funcref : Tree
funcref = Tree.row 1 (Tree.spare 0x63 (Tree.row 0 (Tree.row 3 (Tree.fixed 0x70))))

-- what an active element segment with a written table lists, with the type of the expressions
abbrev pub typed : Listed → Tree → Tree
typed functions t = t
typed expressions t = Tree.swap funcref t

-- the flags of an active element segment, with its table left out and with its table written
abbrev pub left_flag : Listed → ℕ
left_flag functions = 0
left_flag expressions = 4

abbrev pub aimed_flag : Listed → ℕ
aimed_flag functions = 2
aimed_flag expressions = 6

-- the kind byte, where the flag 2 asks for one
abbrev pub kind_bytes : Listed → List ℕ
kind_bytes functions = 0 ∷ []
kind_bytes expressions = []

-- the number of the items and the byte before it are left out where there are none
abbrev pub final_bytes : ℕ → List ℕ → List ℕ → List ℕ
final_bytes zero x y = x ++ y
final_bytes (suc n) x y = 0x4f ∷ (leb (suc n) ++ (x ++ y))

-- the front of an active data segment
abbrev pub placed_bytes : ℕ → List ℕ
placed_bytes zero = leb 0
placed_bytes (suc i) = leb 2 ++ leb (suc i)

-- the one normal spelling: shortest numbers and sizes; what may be left out is left out, but a written table of an element
-- segment
abbrev pub normal : Tree → List ℕ
normal Tree.empty = []
normal (Tree.fixed b) = b ∷ []
normal (Tree.byte b) = b ∷ []
normal (Tree.raw bs) = bs
normal (Tree.u32 n) = leb n
normal (Tree.u64 n) = leb n
normal (Tree.s32 z) = shortest_signed z
normal (Tree.s64 z) = shortest_signed z
normal (Tree.ix s i) = leb i
normal (Tree.sx s i) = signed_leb i
normal (Tree.outer s c i) = leb c ++ leb i
normal (Tree.name bs) = leb (length bs) ++ bs
normal (Tree.content bs) = leb (length bs) ++ bs
normal (Tree.alike b c) = b ∷ []
normal (Tree.mem a i o) = mem_bytes a i o
normal (Tree.canonical i) = []
normal (Tree.flag n) = leb n
normal (Tree.pair t u) = normal t ++ normal u
normal (Tree.swap t u) = normal t ++ normal u
normal Tree.nil = []
normal (Tree.cons t u) = normal t ++ normal u
normal (Tree.vec t) = leb (count t) ++ normal t
normal Tree.absent = 0 ∷ []
normal (Tree.present t) = 1 ∷ normal t
normal (Tree.sized t) = leb (length (normal t)) ++ normal t
normal (Tree.row k t) = normal t
normal (Tree.scope t) = normal t
normal (Tree.spare b t) = normal t
normal (Tree.kept b t) = b ∷ normal t
normal (Tree.final t u) = final_bytes (count t) (normal t) (normal u)
normal (Tree.until b t) = normal t ++ (b ∷ [])
normal (Tree.op c t) = code_bytes c ++ normal t
normal (Tree.left w o t) = leb (left_flag w) ++ (normal o ++ normal t)
normal (Tree.aimed w i o t) = leb (aimed_flag w) ++ (leb i ++ (normal o ++ (kind_bytes w ++ normal t)))
normal (Tree.placed i o t) = placed_bytes i ++ (normal o ++ normal t)
normal (Tree.told k t) = normal t
normal Tree.finish = []
normal (Tree.also t u) = normal t ++ normal u

-- the lengths of the sized bodies in closing order, each before the one round it
abbrev pub frames : Tree → List ℕ
frames (Tree.pair t u) = frames t ++ frames u
frames (Tree.swap t u) = frames t ++ frames u
frames (Tree.cons t u) = frames t ++ frames u
frames (Tree.vec t) = frames t
frames (Tree.present t) = frames t
frames (Tree.sized t) = frames t ++ (length (normal t) ∷ [])
frames (Tree.row k t) = frames t
frames (Tree.scope t) = frames t
frames (Tree.spare b t) = frames t
frames (Tree.kept b t) = frames t
frames (Tree.final t u) = frames t ++ frames u
frames (Tree.until b t) = frames t
frames (Tree.op c t) = frames t
frames (Tree.left w o t) = frames o ++ frames t
frames (Tree.aimed w i o t) = frames o ++ frames t
frames (Tree.placed i o t) = frames o ++ frames t
frames (Tree.told k t) = frames t
frames (Tree.also t u) = frames t ++ frames u
frames _ = []

-- the kind of a section, or the one before it where hooks are not told of it
abbrev pub kind : Option SectionId → Tree → Option SectionId
kind last (Tree.row k t) = kind last t
kind last (Tree.told k t) = Some k
kind last _ = last

-- what the section hook is told before a section
abbrev pub before : Option SectionId → Tree → List Visit
before last (Tree.row k t) = before last t
before last (Tree.told k t) = Section last (Some k) ∷ []
before last _ = []

-- what the closing hook is told behind a section
abbrev pub behind : Tree → List Visit
behind (Tree.row k t) = behind t
behind (Tree.told k t) = Closed k ∷ []
behind _ = []

-- what is asked, in order, where this was the kind of the last section of the module so far
abbrev pub visits_from : Option SectionId → Tree → List Visit
visits_from last (Tree.ix s i) = Index s i ∷ []
visits_from last (Tree.sx s i) = Index s i ∷ []
visits_from last (Tree.outer s c i) = Outer s c i ∷ []
visits_from last (Tree.mem a i o) = Index space.Memory i ∷ []
visits_from last (Tree.pair t u) = visits_from None t ++ visits_from None u
visits_from last (Tree.swap t u) = visits_from None u ++ visits_from None t
visits_from last (Tree.cons t u) = visits_from None t ++ visits_from None u
visits_from last (Tree.vec t) = visits_from None t
visits_from last (Tree.present t) = visits_from None t
visits_from last (Tree.sized t) = visits_from None t
visits_from last (Tree.row k t) = visits_from None t
visits_from last (Tree.scope t) = Push ∷ visits_from None t ++ (Pop ∷ [])
visits_from last (Tree.spare b t) = visits_from None t
visits_from last (Tree.kept b t) = visits_from None t
visits_from last (Tree.final t u) = visits_from None t ++ visits_from None u
visits_from last (Tree.until b t) = visits_from None t
visits_from last (Tree.op c t) = visits_from None t
visits_from last (Tree.left w o t) = visits_from None t ++ (Index space.Table 0 ∷ visits_from None o)
visits_from last (Tree.aimed w i o t) = visits_from None t ++ (Index space.Table i ∷ visits_from None o)
visits_from last (Tree.placed i o t) = Index space.Memory i ∷ (visits_from None o ++ visits_from None t)
visits_from last (Tree.told k t) = visits_from None t
visits_from last Tree.finish = Section last None ∷ []
visits_from last (Tree.also t u) = before last t ++ (visits_from None t ++ (behind t ++ visits_from (kind last t) u))
visits_from last _ = []

-- what is asked, in order: an index for each index leaf; memory 0 for a left-out memory and table 0 for a left-out element
-- table; the section hook before each section of a known kind and once at the end, and the closing hook behind each; a push and
-- a pop round a scope
abbrev pub visits : Tree → List Visit
visits t = visits_from None t

-- the answers that are left after a tree's own
abbrev pub after : Tree → List ℕ → List ℕ
after t answers = drop (length (visits t)) answers

-- the answers that are left after a section's own and that of the closing hook
abbrev pub past : Tree → List ℕ → List ℕ
past t answers = drop (length (behind t)) (after t answers)

-- a table that was left out stays so at 0
abbrev pub aimed_at : Listed → ℕ → Tree → Tree → Tree
aimed_at w zero o t = Tree.left w o t
aimed_at w (suc i) o t = Tree.aimed w (suc i) o (typed w t)

-- the k-th answer in place of the k-th visit's index; a left-out table that is answered other than 0 becomes a written one
abbrev pub fill : Tree → List ℕ → Tree
fill (Tree.ix s i) answers = Tree.ix s (get_or answers 0 0)
fill (Tree.sx s i) answers = Tree.sx s (get_or answers 0 0)
fill (Tree.outer s c i) answers = Tree.outer s c (get_or answers 0 0)
fill (Tree.mem a i o) answers = Tree.mem a (get_or answers 0 0) o
fill (Tree.pair t u) answers = Tree.pair (fill t answers) (fill u (after t answers))
fill (Tree.swap t u) answers = Tree.swap (fill t (after u answers)) (fill u answers)
fill (Tree.cons t u) answers = Tree.cons (fill t answers) (fill u (after t answers))
fill (Tree.vec t) answers = Tree.vec (fill t answers)
fill (Tree.present t) answers = Tree.present (fill t answers)
fill (Tree.sized t) answers = Tree.sized (fill t answers)
fill (Tree.row k t) answers = Tree.row k (fill t answers)
fill (Tree.scope t) answers = Tree.scope (fill t (drop 1 answers))
fill (Tree.spare b t) answers = Tree.spare b (fill t answers)
fill (Tree.kept b t) answers = Tree.kept b (fill t answers)
fill (Tree.final t u) answers = Tree.final (fill t answers) (fill u (after t answers))
fill (Tree.until b t) answers = Tree.until b (fill t answers)
fill (Tree.op c t) answers = Tree.op c (fill t answers)
fill (Tree.left w o t) answers = aimed_at w (get_or (after t answers) 0 0) (fill o (drop 1 (after t answers))) (fill t answers)
fill (Tree.aimed w i o t) answers = Tree.aimed w (get_or (after t answers) 0 0) (fill o (drop 1 (after t answers))) (fill t answers)
fill (Tree.placed i o t) answers = Tree.placed (get_or answers 0 0) (fill o (drop 1 answers)) (fill t (after o (drop 1 answers)))
fill (Tree.told k t) answers = Tree.told k (fill t answers)
fill (Tree.also t u) answers =
    let own = drop (length (before None t)) answers in Tree.also (fill t own) (fill u (past t own))
fill t answers = t
