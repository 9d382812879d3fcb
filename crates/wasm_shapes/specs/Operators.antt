-- The operators: their numbers, and the kinds of their immediates (WebAssembly Core Specification 3.0, section 5.4).
use Rattle.std.specs.Prelude.{ℕ, zero, suc, Bool, true, false, nat_le, nat_eq, not, ◌&&◌, List, [], ◌∷◌, Option, Some, None, if◌then◌else◌}
use Rattle.wasm_shapes.specs.declared.Space.{Space}
use Rattle.wasm_shapes.specs.declared.Space.TheVariants as space
use Rattle.wasm_shapes.specs.declared.ImmKind.{ImmKind}
use Rattle.wasm_shapes.specs.declared.ImmKind.TheVariants as kind
use Rattle.wasm_shapes.specs.declared.Opcode.{Opcode}

-- one byte, or a prefix byte and a number
pub data Code : Type 0 where
  plain : ℕ → Code
  prefixed : ℕ → ℕ → Code

abbrev pub code_from : ℕ → ℕ → Code
code_from zero sub = plain sub
code_from (suc p) sub = prefixed (suc p) sub

-- the number that an opcode is
abbrev pub code_of : Opcode → Code
code_of op = code_from op.prefix op.sub

-- a byte that stands in front of the number of an operator
abbrev pub is_prefix : ℕ → Bool
is_prefix b = nat_le 0xfb b && nat_le b 0xfe

-- a prefix stands before a number, and never alone
abbrev pub is_code : Code → Bool
is_code (plain b) = not (is_prefix b)
is_code (prefixed p n) = is_prefix p

-- the operators from one number to another, and the kinds of their immediates
pub record Operators : Type 0 where
  pub from : ℕ
  pub to : ℕ
  pub kinds : List ImmKind

abbrev pub operators : ℕ → ℕ → List ImmKind → Operators
operators from to kinds = record { from = from; to = to; kinds = kinds }

-- one of them alone
abbrev pub operator : ℕ → List ImmKind → Operators
operator n kinds = operators n n kinds

abbrev pub index : Space → ImmKind
index s = kind.Index s

-- the operators of one byte but `end`, which closes a body or an expression
abbrev pub plain_operators : List Operators
plain_operators =
    operators 0x00 0x01 [] ∷ operator 0x05 [] ∷ operator 0x0a [] ∷ operator 0x0f [] ∷ operators 0x19 0x1b [] ∷ operators 0x45 0xc4 [] ∷ operator 0xd1 [] ∷ operators 0xd3 0xd4 [] ∷
    operators 0x02 0x04 (kind.Block ∷ []) ∷ operator 0x06 (kind.Block ∷ []) ∷
    operators 0x07 0x08 (index space.Tag ∷ []) ∷
    operator 0x09 (kind.Label ∷ []) ∷ operators 0x0c 0x0d (kind.Label ∷ []) ∷ operator 0x18 (kind.Label ∷ []) ∷ operators 0xd5 0xd6 (kind.Label ∷ []) ∷
    operator 0x0e (kind.Labels ∷ []) ∷
    operator 0x10 (index space.Function ∷ []) ∷ operator 0x12 (index space.Function ∷ []) ∷ operator 0xd2 (index space.Function ∷ []) ∷
    operator 0x11 (index space.Type_ ∷ index space.Table ∷ []) ∷ operator 0x13 (index space.Type_ ∷ index space.Table ∷ []) ∷
    operators 0x14 0x15 (index space.Type_ ∷ []) ∷
    operator 0x1c (kind.Types ∷ []) ∷
    operator 0x1f (kind.Block ∷ kind.Catches ∷ []) ∷
    operators 0x20 0x22 (kind.Local ∷ []) ∷
    operators 0x23 0x24 (index space.Global ∷ []) ∷
    operators 0x25 0x26 (index space.Table ∷ []) ∷
    operators 0x28 0x3e (kind.Mem ∷ []) ∷
    operators 0x3f 0x40 (index space.Memory ∷ []) ∷
    operator 0x41 (kind.S32 ∷ []) ∷ operator 0x42 (kind.S64 ∷ []) ∷ operator 0x43 (kind.Four ∷ []) ∷ operator 0x44 (kind.Eight ∷ []) ∷
    operator 0xd0 (kind.Heap ∷ []) ∷
    operator 0xe0 (index space.Type_ ∷ []) ∷ operator 0xe1 (index space.Type_ ∷ index space.Type_ ∷ []) ∷ operator 0xe2 (index space.Tag ∷ []) ∷
    operator 0xe3 (index space.Type_ ∷ kind.Handlers ∷ []) ∷ operator 0xe4 (index space.Type_ ∷ index space.Tag ∷ kind.Handlers ∷ []) ∷ []

-- those of structures, arrays and references
abbrev pub behind_fb : List Operators
behind_fb =
    operators 0 1 (index space.Type_ ∷ []) ∷ operators 6 7 (index space.Type_ ∷ []) ∷ operators 11 14 (index space.Type_ ∷ []) ∷ operator 16 (index space.Type_ ∷ []) ∷
    operators 2 5 (index space.Type_ ∷ kind.Field ∷ []) ∷ operator 8 (index space.Type_ ∷ kind.Size ∷ []) ∷
    operator 9 (index space.Type_ ∷ index space.Data ∷ []) ∷ operator 18 (index space.Type_ ∷ index space.Data ∷ []) ∷
    operator 10 (index space.Type_ ∷ index space.Element ∷ []) ∷ operator 19 (index space.Type_ ∷ index space.Element ∷ []) ∷
    operator 17 (index space.Type_ ∷ index space.Type_ ∷ []) ∷
    operator 15 [] ∷ operators 26 30 [] ∷
    operators 20 23 (kind.Heap ∷ []) ∷ operators 24 25 (kind.Cast ∷ []) ∷ []

-- those of saturating conversions, of memories and tables as wholes, and of wide arithmetic
abbrev pub behind_fc : List Operators
behind_fc =
    operators 0 7 [] ∷ operators 19 22 [] ∷
    operator 8 (index space.Data ∷ index space.Memory ∷ []) ∷ operator 9 (index space.Data ∷ []) ∷
    operator 10 (index space.Memory ∷ index space.Memory ∷ []) ∷ operator 11 (index space.Memory ∷ []) ∷
    operator 12 (index space.Element ∷ index space.Table ∷ []) ∷ operator 13 (index space.Element ∷ []) ∷
    operator 14 (index space.Table ∷ index space.Table ∷ []) ∷ operators 15 17 (index space.Table ∷ []) ∷ []

-- those of vectors
abbrev pub behind_fd : List Operators
behind_fd =
    operators 0 11 (kind.Mem ∷ []) ∷ operators 92 93 (kind.Mem ∷ []) ∷
    operator 12 (kind.Sixteen ∷ []) ∷ operator 13 (kind.Lanes ∷ []) ∷ operators 21 34 (kind.Lane ∷ []) ∷ operators 84 91 (kind.Mem ∷ kind.Lane ∷ []) ∷
    operators 14 20 [] ∷ operators 35 83 [] ∷ operators 94 153 [] ∷ operators 155 161 [] ∷ operators 163 164 [] ∷ operators 167 174 [] ∷ operator 177 [] ∷
    operators 181 186 [] ∷ operators 188 193 [] ∷ operators 195 196 [] ∷ operators 199 206 [] ∷ operator 209 [] ∷ operators 213 225 [] ∷
    operators 227 237 [] ∷ operators 239 275 [] ∷ []

-- those of threads
abbrev pub behind_fe : List Operators
behind_fe = operators 0 2 (kind.Mem ∷ []) ∷ operators 16 78 (kind.Mem ∷ []) ∷ operator 3 (kind.Zero ∷ []) ∷ []

-- those behind a prefix
abbrev pub prefixed_operators : ℕ → List Operators
prefixed_operators p =
    if nat_eq p 0xfb then behind_fb else if nat_eq p 0xfc then behind_fc else if nat_eq p 0xfd then behind_fd else if nat_eq p 0xfe then behind_fe else []

-- with `end` or without
abbrev pub one_byte_operators : Bool → List Operators
one_byte_operators true = operator 0x0b [] ∷ plain_operators
one_byte_operators false = plain_operators

abbrev pub look_up : List Operators → ℕ → Option (List ImmKind)
look_up [] n = None
look_up (o ∷ os) n = if nat_le o.from n && nat_le n o.to then Some o.kinds else look_up os n

-- the kinds of an operator's immediates, where `end` is an operator or is none
abbrev pub kinds_among : Bool → Code → Option (List ImmKind)
kinds_among ends (plain b) = look_up (one_byte_operators ends) b
kinds_among ends (prefixed p n) = look_up (prefixed_operators p) n

-- the kinds of the immediates of an opcode
abbrev pub kinds_of : Opcode → Option (List ImmKind)
kinds_of op = kinds_among true (code_of op)
