-- The errors of calls that keep the defaults.
use Rattle.std.specs.Prelude.{ℕ}
use Rattle.reencode_hooks.specs.declared.error.Error.{Error}
use Rattle.reencode_hooks.specs.declared.error.Error.TheVariants.{ParseError, UserError, TooLarge, NoMemory}

-- The fact about the place, where the bytes are at fault. A refusal of the reencoder, a size and `NoMemory` say
-- nothing of the bytes, and no other error comes.
abbrev pub IfParse : {E : Type 0} → Error E → (ℕ → Type 0) → Type 0
IfParse (ParseError e) P = P e.at
IfParse (UserError _) P = Unit {0}
IfParse (TooLarge _) P = Unit {0}
IfParse NoMemory P = Unit {0}
IfParse _ P = ⊥

-- The fact, where a visit was refused or a size is too large. Of a place and of `NoMemory` it says nothing.
abbrev pub IfRefused : {E : Type 0} → Error E → Type 0 → Type 0
IfRefused (UserError _) P = P
IfRefused (TooLarge _) P = P
IfRefused _ P = Unit {0}

-- an error inside a part that begins at a place, at that place
abbrev pub placed_at : {E : Type 0} → Error E → ℕ → Error E
placed_at (ParseError _) at = ParseError (record { at = at })
placed_at e at = e
