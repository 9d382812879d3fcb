-- The computed test of a table: by which bytes or flags its rows are told apart.
use Rattle.std.specs.Prelude.{ℕ, zero, suc, List, [], ◌∷◌, Bool, true, false, not, ◌&&◌, ◌||◌, nat_eq, nat_le, if◌then◌else◌}
use Rattle.wasm_shapes.specs.Operators.{Operators, one_byte_operators}
use Rattle.wasm_shapes.specs.Tree.{left_flag, aimed_flag}
use Rattle.wasm_shapes.specs.Shape.{Shape, Named, closed}
use Rattle.wasm_shapes.specs.NamedShapes.{shape_of}

-- ---- first bytes

-- The first byte of a spelling lies in one of some ranges, both ends within, or it can be any.
pub data Front : Type 0 where
  any : Front
  empty : Front
  range : ℕ → ℕ → Front
  join : Front → Front → Front

abbrev pub contains : Front → ℕ → Bool
contains Front.any b = true
contains Front.empty b = false
contains (Front.range low high) b = nat_le low b && nat_le b high
contains (Front.join f g) b = contains f b || contains g b

abbrev pub apart_from : ℕ → ℕ → Front → Bool
apart_from low high Front.any = false
apart_from low high Front.empty = true
apart_from low high (Front.range low' high') = nat_le (suc high) low' || nat_le (suc high') low
apart_from low high (Front.join f g) = apart_from low high f && apart_from low high g

-- no byte lies in both
abbrev pub apart : Front → Front → Bool
apart Front.any g = false
apart Front.empty g = true
apart (Front.range low high) g = apart_from low high g
apart (Front.join f f') g = apart f g && apart f' g

-- a shape that spells a tree by no bytes
abbrev pub nullable : Shape → Bool
nullable Shape.empty = true
nullable (Shape.bytes n) = nat_le n 0
nullable Shape.rest = true
nullable (Shape.seq a b) = nullable a && nullable b
nullable (Shape.swap a b) = nullable a && nullable b
nullable (Shape.many a) = true
nullable (Shape.or a b) = nullable a || nullable b
nullable (Shape.scope a) = nullable a
nullable (Shape.spare b a c) = nullable a
nullable (Shape.final a b) = nullable b
nullable (Shape.begun fs a) = true
nullable (Shape.told k a) = nullable a
nullable (Shape.sections a) = true
nullable _ = false

-- the numbers of a list of operators
abbrev pub operators_front : List Operators → Front
operators_front [] = Front.empty
operators_front (o ∷ os) = Front.join (Front.range o.from o.to) (operators_front os)

-- the front of a shape, from the fronts of the named ones
abbrev pub front_with : (Named → Front) → Shape → Front
front_with named Shape.empty = Front.empty
front_with named (Shape.fixed b) = Front.range b b
front_with named (Shape.bytes n) = Front.any
front_with named Shape.rest = Front.any
front_with named (Shape.sx s) = Front.join (Front.range 0 63) (Front.range 128 255)
front_with named (Shape.alike b c) = Front.join (Front.range b b) (Front.range c c)
front_with named (Shape.within low high) = Front.range low high
front_with named (Shape.seq a b) = if nullable a then Front.join (front_with named a) (front_with named b) else front_with named a
front_with named (Shape.swap a b) = if nullable a then Front.join (front_with named a) (front_with named b) else front_with named a
front_with named (Shape.many a) = front_with named a
front_with named (Shape.opt a) = Front.range 0 1
front_with named Shape.none = Front.empty
front_with named (Shape.or a b) = Front.join (front_with named a) (front_with named b)
front_with named (Shape.ref n) = named n
front_with named (Shape.scope a) = front_with named a
front_with named (Shape.spare b a c) = Front.join (Front.range b b) (front_with named a)
front_with named (Shape.final a b) = Front.join (Front.range 0x4f 0x4f) (front_with named b)
front_with named (Shape.until b a) = Front.join (front_with named a) (Front.range b b)
front_with named (Shape.op ends) = Front.join (operators_front (one_byte_operators ends)) (Front.range 0xfb 0xfe)
front_with named (Shape.begun fs a) = Front.any
front_with named (Shape.told k a) = front_with named a
front_with named (Shape.sections a) = front_with named a
front_with named _ = Front.range 0 255

-- the front of a named shape: how deep its definition is followed is bounded
abbrev pub front_of : ℕ → Named → Front
front_of zero n = Front.any
front_of (suc deep) n = front_with (front_of deep) (shape_of n)

-- named shapes are followed so deep
abbrev pub deepest : ℕ
deepest = 4

abbrev pub first_bytes : Shape → Front
first_bytes s = front_with (front_of deepest) s

-- ---- flags

-- the flags that a shape begins with
abbrev pub flag_front : Shape → Front
flag_front (Shape.flag n) = Front.range n n
flag_front (Shape.seq a b) = flag_front a
flag_front Shape.none = Front.empty
flag_front (Shape.active w a r b) = Front.join (Front.range (left_flag w) (left_flag w)) (Front.range (aimed_flag w) (aimed_flag w))
flag_front (Shape.placed a b) = Front.join (Front.range 0 0) (Front.range 2 2)
flag_front (Shape.or a b) = Front.join (flag_front a) (flag_front b)
flag_front _ = Front.any

abbrev pub is_known : Front → Bool
is_known Front.any = false
is_known (Front.join f g) = is_known f && is_known g
is_known _ = true

-- ---- the test

abbrev pub bytes_apart : Shape → Shape → Bool
bytes_apart a b = not (nullable a) && not (nullable b) && apart (first_bytes a) (first_bytes b)

abbrev pub flags_apart : Shape → Shape → Bool
flags_apart a b = is_known (flag_front a) && is_known (flag_front b) && apart (flag_front a) (flag_front b)

-- The rows of a choice are told apart by their first byte, or by their flag.
abbrev pub rows_apart : Shape → Shape → Bool
rows_apart a b = bytes_apart a b || flags_apart a b

-- A byte begins no spelling of a shape.
abbrev pub free_of : ℕ → Shape → Bool
free_of b a = not (nullable a) && apart (Front.range b b) (first_bytes a)

-- what is left of the texts that begin with a byte
abbrev pub behind_byte : ℕ → List (List ℕ) → List (List ℕ)
behind_byte b [] = []
behind_byte b ([] ∷ fs) = behind_byte b fs
behind_byte b ((c ∷ f) ∷ fs) = if nat_eq c b then f ∷ behind_byte b fs else behind_byte b fs

abbrev pub has_empty : List (List ℕ) → Bool
has_empty [] = false
has_empty ([] ∷ fs) = true
has_empty ((c ∷ f) ∷ fs) = has_empty fs

-- Each spelling of a shape begins with one of some texts.
abbrev pub led_by : List (List ℕ) → Shape → Bool
led_by fs (Shape.seq (Shape.fixed b) a) = has_empty fs || led_by (behind_byte b fs) a
led_by fs (Shape.or a b) = led_by fs a && led_by fs b
led_by fs Shape.none = true
led_by fs _ = has_empty fs

-- A shape whose bytes have one reading: what is followed by something is closed, items take a byte, and rows are apart.
abbrev pub sound : Shape → Bool
sound (Shape.seq a b) = closed a && sound a && sound b
sound (Shape.swap a b) = closed a && sound a && sound b
sound (Shape.many a) = closed a && not (nullable a) && sound a
sound (Shape.vec a) = closed a && sound a
sound (Shape.opt a) = sound a
sound (Shape.sized a) = sound a
sound (Shape.or a b) = rows_apart a b && sound a && sound b
sound (Shape.scope a) = sound a
sound (Shape.spare b a c) = free_of b a && rows_apart a c && sound a && sound c
sound (Shape.final a b) = closed a && sound a && free_of 0x4f b && sound b
sound (Shape.until b a) = closed a && free_of b a && sound a
sound (Shape.active w a r b) = closed a && sound a && closed b && sound b && closed r && sound r
sound (Shape.placed a b) = closed a && sound a && sound b
sound (Shape.by_name n a b) = sound a && sound b
sound (Shape.begun fs a) = led_by fs a && sound a
sound (Shape.told k a) = sound a
sound (Shape.sections a) = closed a && not (nullable a) && sound a
sound _ = true
