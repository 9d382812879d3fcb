use Rattle.std.proofs.Common.{ℕ, ◌≡◌, ◌+◌, ◌<◌, ◌≤◌, List, ◌++◌, get_or, length, map, drop, Bor, sym, ◌∙◌, append_assoc, arith}
use Rattle.std.proofs.lemmas.List.{append-nil, drop_all, drop_more}
use Rattle.reencode_run.specs.Report.{part, parts}
use Rattle.reencode_run.proofs.report.add_parts.Goals as goal

-- the parts that are left, from one part on
parts_step : (new line : List ℕ) (keys : List (Bor (List ℕ))) (counts : List ℕ) (i : ℕ) (key : Bor (List ℕ)) → i < length keys → i < length counts
    → new ≡ line ++ part (get_or keys i key).now (get_or counts i 0)
    → new ++ parts (map (λ k. k.now) (drop (i + 1) keys)) (drop (i + 1) counts) ≡ line ++ parts (map (λ k. k.now) (drop i keys)) (drop i counts)
parts_step new line keys counts i key h k e =
    rw (drop_more keys i key h, drop_more counts i 0 k, e) (append_assoc line _ _)

-- no part is left
parts_end : (line whole : List ℕ) (keys : List (Bor (List ℕ))) (counts : List ℕ) (i : ℕ) → length keys ≤ i
    → line ++ parts (map (λ k. k.now) (drop i keys)) (drop i counts) ≡ whole → line ≡ whole
parts_end line whole keys counts i h e =
    sym (append-nil line) ∙ rw (drop_all i keys h) at e

pub keys-preserved : goal.keys-preserved
keys-preserved c = parts_step _ _ c.args.keys.now c.args.counts.now c.keys.i _ (omega arith) c.keys-test.true (c.in_ok-add_part.ensures) ∙ c.keys.invariant

pub returns : goal.returns
returns c = parts_end _ _ c.args.keys.now c.args.counts.now c.keys.i (omega arith) c.keys.invariant
