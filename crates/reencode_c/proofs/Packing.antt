-- Lists one behind another, and where each begins.
use Rattle.std.proofs.Common.{◌≡◌, ℕ, ◌+◌, ◌<◌, List, [], ◌∷◌, ◌++◌, length, drop, slice_index_or, sym, ap, ◌∙◌}
use Rattle.std.proofs.lemmas.List.{append_assoc, drop_more}
use Rattle.std.specs.List.{concat}
use Rattle.reencode_c.specs.Tools.{starts}

module _ (list : List ℕ) (rows : List (List ℕ)) (i : ℕ) (h : i < length rows) where
  -- one beginning more
  pub start_more : (n : ℕ) → (list ++ n ∷ []) ++ starts (n + length (slice_index_or rows i [])) (drop (i + 1) rows) ≡ list ++ starts n (drop i rows)
  start_more n =
      append_assoc list (n ∷ []) (starts (n + length (slice_index_or rows i [])) (drop (i + 1) rows))
      ∙ ap (λ (z : List (List ℕ)). list ++ starts n z) (sym (drop_more rows i [] h))

  -- one list more
  pub list_more : (list ++ slice_index_or rows i []) ++ concat (drop (i + 1) rows) ≡ list ++ concat (drop i rows)
  list_more = append_assoc list (slice_index_or rows i []) (concat (drop (i + 1) rows)) ∙ ap (λ (z : List (List ℕ)). list ++ concat z) (sym (drop_more rows i [] h))
