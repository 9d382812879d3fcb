-- How calls of the tools finish.
use Rattle.std.proofs.Common.{◌≡◌, ◌⊎◌, inl, inr, ◌<◌, ◌≤◌, ℕ, List, length, take, sym, ap, ap₂, ◌∙◌, subst}
use Rattle.reencode_c.specs.declared.outcome.Outcome.{Outcome}
use Rattle.reencode_c.specs.Ends.{IsPut, IsTooSmall, bare}
use Rattle.reencode_c.specs.Tools.{Finishes, FinishesIn, PutsBoth, WantsBoth}
use Rattle.reencode_c.specs.Visits.{tally}
use Rattle.wasm_reach.specs.Prune.{IsPruned}

module _ {X F : Type 0} (Done : List X → Type 0) (Refused : F → Type 0) (o : Outcome) (room : List X) where
  -- an output that is seen another way, and was put, or not
  pub put_in : (out seen : List X) → seen ≡ out → Done out → (o.status ≡ 0 → IsPut o room seen) → (o.status ≡ 16 → IsTooSmall o room (tally (length seen))) →
      (o.status ≡ 0) ⊎ (o.status ≡ 16) → FinishesIn Done Refused o room
  put_in out seen same d done small (inl e) = Finishes.put (record { out = seen; is_put = done e; is_done = subst Done (sym same) d })
  put_in out seen same d done small (inr e) = Finishes.too_small (record { out = seen; is_small = small e; is_done = subst Done (sym same) d })

-- the same of an output with its kept functions
module _ {F : Type 0} (Refused : F → Type 0) (o : Outcome) (bytes : List ℕ) (ceiling : ℕ) (room kept_room : List ℕ) where
  pub put_both_in : (out kept : List ℕ) → IsPruned bytes ceiling out kept →
      (o.status ≡ 0 → (o ≡ record (bare 0) { length = length out; count = length kept }) × (length out ≤ length room) × (take (length out) room ≡ out)
      × (length kept ≤ length kept_room) × (take (length kept) kept_room ≡ kept)) →
      (o.status ≡ 16 → (o ≡ record (bare 16) { length = length out; count = length kept }) × ((length room < length out) ⊎ (length kept_room < length kept))) →
      (o.status ≡ 0) ⊎ (o.status ≡ 16) → Finishes (PutsBoth bytes ceiling o room kept_room) (WantsBoth bytes ceiling o room kept_room) Refused
  put_both_in out kept d done small (inl e) =
      let h = done e in
      let long : o.length ≡ length out = ap (λ (x : Outcome). x.length) h.0 in
      let many : o.count ≡ length kept = ap (λ (x : Outcome). x.count) h.0 in
      Finishes.put
      (record {
        tells = h.0 ∙ ap₂ (λ (n k : ℕ). record (bare 0) { length = n; count = k }) (sym long) (sym many);
        length_is = subst (λ (n : ℕ). n ≤ length room) (sym long) h.1;
        count_is = subst (λ (n : ℕ). n ≤ length kept_room) (sym many) h.3;
        pruned = subst (λ (xs : List ℕ). IsPruned bytes ceiling xs (take o.count kept_room)) (sym (ap (λ (n : ℕ). take n room) long ∙ h.2))
            (subst (λ (ks : List ℕ). IsPruned bytes ceiling out ks) (sym (ap (λ (n : ℕ). take n kept_room) many ∙ h.4)) d);
      })
  put_both_in out kept d done small (inr e) = let h = small e in Finishes.too_small (record { out = out; kept = kept; tells = h.0; is_small = h.1; pruned = d })
