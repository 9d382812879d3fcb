-- The visits of a binary as they are listed, where they stand, and answers to them in the same order.
use Rattle.std.specs.Prelude.{◌≡◌, ◌+◌, ◌-◌, ◌^◌, ◌++◌, ℕ, Bool, true, false, List, [], ◌∷◌, drop, map, min, nat_lt, replicate, slice_set, Some, None, Result, Ok, if◌then◌else◌, refl}
use Rattle.std.specs.Coded.{Coded, code_by, coded×, coded_list, coded_ℕ}
use Rattle.std.proofs.lemmas.Bool.{ltb-true}
use Rattle.wasm_shapes.specs.declared.SectionId.{SectionId}
use Rattle.wasm_shapes.specs.declared.Space.{Space}
use Rattle.wasm_shapes.specs.declared.Space.TheVariants as space
use Rattle.wasm_shapes.specs.declared.Visit.{Visit}
use Rattle.wasm_shapes.specs.declared.Visit.TheVariants.{Index, Outer, Section, Closed, Push, Pop}
use Rattle.wasm_shapes.specs.SectionTable.{number}
use Rattle.reencode_hooks.specs.declared.asked.Unmapped.{Unmapped}
use Rattle.reencode_hooks.specs.Hooks.{IsAnswer, IsGiven, IsInRange, index_of}
use Rattle.reencode_hooks.specs.Renamings.{space_number}
use Rattle.reencode_c.specs.declared.outcome.ListedVisit.{ListedVisit}
use Rattle.reencode_c.specs.declared.places.Place.{Place}

-- ---- what is asked, without a place, whose numbers are 0

-- an index of a space, one so many scopes further out, and the begin of a scope, by 2, or its end, by 3
abbrev pub listed_index : Space → ℕ → ListedVisit
listed_index p i = record { kind = 0; space = space_number p; count = 0; index = i; section = 0; row = 0 }

abbrev pub listed_outer : Space → ℕ → ℕ → ListedVisit
listed_outer p k i = record { kind = 1; space = space_number p; count = k; index = i; section = 0; row = 0 }

abbrev pub listed_scope : ℕ → ListedVisit
listed_scope kind = record { kind = kind; space = 0; count = 0; index = 0; section = 0; row = 0 }

-- a visit as it is listed, one of the section hook or the closing hook not
abbrev pub listed : Visit → List ListedVisit
listed (Index p i) = listed_index p i ∷ []
listed (Outer p k i) = listed_outer p k i ∷ []
listed Push = listed_scope 2 ∷ []
listed Pop = listed_scope 3 ∷ []
listed (Section after before) = []
listed (Closed kind) = []

-- visits as they are listed, in order
abbrev pub all_listed : List Visit → List ListedVisit
all_listed [] = []
all_listed (v ∷ vs) = listed v ++ all_listed vs

-- ---- where it stands

-- in a row of a section; in a section, and in no row that is told; and in none of a known kind
abbrev pub in_row : SectionId → ℕ → Place
in_row k n = record { section = number k; row = n }

abbrev pub in_section : SectionId → Place
in_section k = in_row k 4294967295

abbrev pub nowhere : Place
nowhere = record { section = 0; row = 4294967295 }

-- a visit at a place, and the same without it
abbrev pub at : Place → ListedVisit → ListedVisit
at p v = record v { section = p.section; row = p.row }

abbrev pub unplaced : ListedVisit → ListedVisit
unplaced v = record v { section = 0; row = 0 }

-- the place behind a visit: the hooks tell of the sections of known kinds
abbrev pub moved : Place → Visit → Place
moved p (Section after (Some k)) = in_section k
moved p (Section after None) = nowhere
moved p (Closed k) = nowhere
moved p _ = p

-- visits as they are listed, in order, the first at this place
abbrev pub placed : Place → List Visit → List ListedVisit
placed p [] = []
placed p (v ∷ vs) = map (at p) (listed v) ++ placed (moved p v) vs

-- a number as it is counted: a count stays at 2^64 - 1
abbrev pub tally : ℕ → ℕ
tally n = min n (2 ^ 64 - 1)

-- ---- the lister

-- room for a list, and how many visits were to be listed
pub record Listing : Type 0 where
  pub list : List ListedVisit
  pub count : ℕ

-- the same, and where the next one stands
pub record Placing : Type 0 where
  pub listing : Listing
  pub place : Place

-- room for so many, and nothing listed yet
abbrev pub listing_none : ℕ → Placing
listing_none room = record { listing = record { list = replicate room (listed_scope 0); count = 0 }; place = nowhere }

-- how contracts hold visits, and a lister
abbrev pub visit_code : Coded ListedVisit
visit_code =
    code_by (ℕ × (ℕ × (ℕ × (ℕ × (ℕ × ℕ))))) (coded× coded_ℕ (coded× coded_ℕ (coded× coded_ℕ (coded× coded_ℕ (coded× coded_ℕ coded_ℕ)))))
    (λ v. (v.kind, (v.space, (v.count, (v.index, (v.section, v.row))))))
    (λ p. record { kind = p.0; space = p.1.0; count = p.1.1.0; index = p.1.1.1.0; section = p.1.1.1.1.0; row = p.1.1.1.1.1 }) (λ v. refl)

abbrev pub listing_code : Coded Listing
listing_code =
    code_by (List ListedVisit × ℕ) (coded× (coded_list visit_code) coded_ℕ) (λ l. (l.list, l.count))
    (λ p. record { list = p.0; count = p.1 }) (λ l. refl)

abbrev pub place_code : Coded Place
place_code = code_by (ℕ × ℕ) (coded× coded_ℕ coded_ℕ) (λ p. (p.section, p.row)) (λ p. record { section = p.0; row = p.1 }) (λ p. refl)

abbrev pub placing_code : Coded Placing
placing_code = code_by (Listing × Place) (coded× listing_code place_code) (λ l. (l.listing, l.place)) (λ p. record { listing = p.0; place = p.1 }) (λ l. refl)

-- a visit is put in its place, where there is room, and counted
abbrev pub put : Listing → ListedVisit → Listing
put l v = record { list = slice_set l.list l.count v; count = tally (l.count + 1) }

-- visits are put in order
abbrev pub put_all : Listing → List ListedVisit → Listing
put_all l [] = l
put_all l (v ∷ vs) = put_all (put l v) vs

-- each index stays as it is
abbrev pub lister_reply : Placing → Visit → Result ℕ Unmapped
lister_reply l v = Ok (index_of v)

-- and is listed where it stands
abbrev pub lister_next : Placing → Visit → Placing
lister_next l v = record { listing = put_all l.listing (map (at l.place) (listed v)); place = moved l.place v }

-- ---- answers in order

-- the answers that are left, and how many visits were asked
pub record Answering : Type 0 where
  pub left : List ℕ
  pub count : ℕ

-- how contracts hold them
abbrev pub answering_code : Coded Answering
answering_code =
    code_by (List ℕ × ℕ) (coded× (coded_list coded_ℕ) coded_ℕ) (λ a. (a.left, a.count))
    (λ p. record { left = p.0; count = p.1 }) (λ a. refl)

-- The next answer to an index. Where none is left, the index stays as it is. (An answer of the list is below 2^32.)
abbrev pub answer_or : List ℕ → ℕ → ℕ
answer_or [] i = i
answer_or (a ∷ left) i = if nat_lt a (2 ^ 32) then a else i

-- what a visit is answered: 0 where it asks no index
abbrev pub answer_to : List ℕ → Visit → ℕ
answer_to left (Index p i) = answer_or left i
answer_to left (Outer p k i) = answer_or left i
answer_to left _ = 0

-- how many answers of the list a visit takes: each that is listed takes one
abbrev pub taken_by : Visit → ℕ
taken_by (Section after before) = 0
taken_by (Closed kind) = 0
taken_by _ = 1

-- the answer, and what is left behind it: the section hook and the closing hook take none
abbrev pub answers_reply : Answering → Visit → Result ℕ Unmapped
answers_reply a v = Ok (answer_to a.left v)

abbrev pub answers_next : Answering → Visit → Answering
answers_next a (Section after before) = a
answers_next a (Closed kind) = a
answers_next a v = record { left = drop 1 a.left; count = tally (a.count + 1) }

given_or : (left : List ℕ) (i : ℕ) → IsGiven (Index space.Data i) i → IsGiven (Index space.Data i) (answer_or left i)
given_or [] i h = h
given_or (a ∷ left) i h = go (nat_lt a (2 ^ 32)) refl
  where
    go : (b : Bool) → nat_lt a (2 ^ 32) ≡ b → IsGiven (Index space.Data i) (if b then a else i)
    go true e = ltb-true a (2 ^ 32) e
    go false e = h

pub answers_given : (a : Answering) (v : Visit) → IsInRange v → IsAnswer v (answers_reply a v)
answers_given a (Index p i) h = given_or a.left i h
answers_given a (Outer p k i) h = given_or a.left i h.1
answers_given a (Section after before) h = refl
answers_given a (Closed kind) h = refl
answers_given a Push h = refl
answers_given a Pop h = refl

-- the answers dealt to visits in order
abbrev pub dealt : List Visit → List ℕ → List ℕ
dealt [] answers = []
dealt (v ∷ vs) answers = answer_to answers v ∷ dealt vs (drop (taken_by v) answers)
