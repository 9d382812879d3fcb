-- The renamings of a command, one or two one after the other: what they answer, and how they are asked.
use Rattle.std.specs.Prelude.{◌≡◌, ◌++◌, codes, ℕ, List, [], ◌∷◌, length, map, true, None, Result}
use Rattle.wasm_shapes.specs.declared.Visit.{Visit}
use Rattle.wasm_shapes.specs.Types.{is_core}
use Rattle.reencode_hooks.specs.declared.asked.Unmapped.{Unmapped}
use Rattle.reencode_hooks.specs.declared.chain.Chain.{Chain}
use Rattle.reencode_hooks.specs.declared.chain.ChainError.{ChainError}
use Rattle.reencode_hooks.specs.declared.chain.ChainError.TheVariants.{First, Second}
use Rattle.reencode_hooks.specs.declared.error.Error.{Error}
use Rattle.reencode_hooks.specs.declared.indices.ReencodeIndices.{Ghosts}
use Rattle.reencode_hooks.specs.Chains.{chain_next, chain_reply, first_then, reindexed}
use Rattle.reencode_hooks.specs.Renamings.{Renaming, entry_of, no_renaming, renamed, renamer_next, renamer_reply, unmapped_text}
use Rattle.reencode_hooks.specs.Rules.{by_rule}
use Rattle.reencode_hooks.specs.Run.{Step, ask}
use Rattle.reencode_run.specs.Counts.{counted}
use Rattle.reencode_run.specs.declared.renamers.Refusal.{Refusal}
use Rattle.reencode_run.specs.declared.renamers.Refusal.TheVariants as refusal
use Rattle.reencode_run.specs.declared.renamers.Renamers.{Renamers}
use Rattle.reencode_run.specs.declared.renamers.Renamers.TheVariants.{Alone, Both}

-- those of some renamings: none is the one that renames nothing
abbrev pub renamers_of : List Renaming → Renamers
renamers_of [] = Alone no_renaming
renamers_of (r ∷ []) = Alone r
renamers_of (r ∷ q ∷ _) = Both (record { a = r; b = q })

-- ---- answers

-- what they refuse with: an index without an entry, and of two also which of them has none
abbrev pub Lack : Renamers → Type 0
Lack (Alone r) = Unmapped
Lack (Both c) = ChainError Unmapped Unmapped

-- What they answer to a visit. Of two it is the second one's answer to the first one's, or the refusal of the first that has none.
abbrev pub rule_of : (rs : Renamers) → Visit → Result ℕ (Lack rs)
rule_of (Alone r) v = by_rule (renamed r) v
rule_of (Both c) v = first_then (by_rule (renamed c.a) v) (λ n. by_rule (renamed c.b) (reindexed v n))

-- a renaming is strict, and has no entry for an index of a core space
pub record IsUnmapped (renaming : Renaming) (u : Unmapped) : Type 0 where
  pub strict : renaming.strict ≡ true
  pub core : is_core u.space ≡ true
  pub none : entry_of renaming u.space u.index ≡ None

-- the one renaming has no entry; or that one of the two that is named
abbrev pub IsLacking : (rs : Renamers) → Lack rs → Type 0
IsLacking (Alone r) u = IsUnmapped r u
IsLacking (Both c) (First u) = IsUnmapped c.a u
IsLacking (Both c) (Second u) = IsUnmapped c.b u

-- a lack as it is told
abbrev pub told_lack : (rs : Renamers) → Lack rs → Refusal
told_lack (Alone r) u = refusal.Alone u
told_lack (Both c) e = refusal.Both e

-- the text of a refusal: of two renamings it says which of them refused
abbrev pub refusal_text : Refusal → List ℕ
refusal_text (refusal.Alone u) = unmapped_text u
refusal_text (refusal.Both (First u)) = unmapped_text u ++ codes " by 1"
refusal_text (refusal.Both (Second u)) = unmapped_text u ++ codes " by 2"

-- ---- the reencoder

-- the state of the reencoder: a renamer, or a chain of two
abbrev pub State : Renamers → Type 0
State (Alone r) = Renaming
State (Both c) = Chain Renaming Renaming

-- what it is asked, and the state behind it
abbrev pub reply_of : (rs : Renamers) → State rs → Visit → Result ℕ (Lack rs)
reply_of (Alone r) = renamer_reply
reply_of (Both c) = chain_reply renamer_reply renamer_reply

abbrev pub next_of : (rs : Renamers) → State rs → Visit → State rs
next_of (Alone r) = renamer_next
next_of (Both c) = chain_next renamer_reply renamer_next renamer_next

abbrev pub asks_of : (rs : Renamers) → State rs → Visit → Step (State rs) (Error (Lack rs)) ℕ
asks_of rs s v = ask (reply_of rs) (next_of rs) s v

-- its meanings: it keeps every default, adds nothing, and is never out of memory
abbrev pub hooks_of : (rs : Renamers) → Ghosts (State rs) (Lack rs)
hooks_of rs = record { reply = reply_of rs; next = next_of rs; adds = λ s v. []; keeps_defaults = true; adds_nothing = true; sure = true }

-- the state in which it begins
abbrev pub begun : (rs : Renamers) → State rs
begun (Alone r) = r
begun (Both c) = c

-- ---- counts

-- the counts of each renaming
abbrev pub counts_in : Renamers → List (List ℕ)
counts_in (Alone r) = r.counts ∷ []
counts_in (Both c) = c.a.counts ∷ c.b.counts ∷ []

-- these after some visits: each renaming is asked each of them
abbrev pub all_counted : List (List ℕ) → List Visit → List (List ℕ)
all_counted counts vs = map (λ c. counted c vs) counts

-- each has a count of everything that is counted
abbrev pub AreCounts : Renamers → Type 0
AreCounts (Alone r) = length r.counts ≡ 19
AreCounts (Both c) = (length c.a.counts ≡ 19) × (length c.b.counts ≡ 19)
