-- Two numbers with two points between, as they are put into memory one after the other.
use Rattle.std.proofs.Common.{◌≡◌, ℕ, ◌+◌, ◌≤◌, List, [], ◌∷◌, ◌++◌, length, take, drop, set, sym, ap, ◌∙◌, append_assoc, length-append, arith}
use borrow.Rule.Slice.PartMut.{put_mid, post_of}
use Rattle.std.proofs.Math.Seq.{take-append_seam, drop-append-add}
use Rattle.std.proofs.lemmas.List.{take_more_set, drop-set-lt, drop-drop, length-drop, length-set}

module _ (low high before : List ℕ) (fits : length low + 2 + length high ≤ length before) where
  abbrev first : List ℕ
  first = low ++ drop (length low) before

  abbrev second : List ℕ
  second = set first (length low) 46

  abbrev third : List ℕ
  third = set second (length low + 1) 46

  size : length first ≡ length before
  size = length-append low (drop (length low) before) ∙ omega (arith, length-drop (length low) before)

  front : take (length low + 2) third ≡ low ++ 46 ∷ 46 ∷ []
  front =
      let n : length low + 2 ≡ length low + 1 + 1 = omega arith in
      ap (λ k. take k third) n
      ∙ take_more_set second (length low + 1) 46 (omega (arith, length-set first (length low) 46, size))
      ∙ ap (λ (xs : List ℕ). xs ++ 46 ∷ []) (take_more_set first (length low) 46 (omega (arith, size)) ∙ ap (λ (xs : List ℕ). xs ++ 46 ∷ []) (take-append_seam low (drop (length low) before)))
      ∙ append_assoc low (46 ∷ []) (46 ∷ [])

  back : (k : ℕ) → k ≡ length high → post_of (length low + 2) k third ≡ drop (length low + (2 + length high)) before
  back k e =
      let n : length low + 2 + k ≡ length low + (2 + length high) = omega (arith, e) in
      drop-drop k (length low + 2) third ∙ ap (λ j. drop j third) n
      ∙ drop-set-lt (length low + (2 + length high)) second (length low + 1) 46 (omega arith)
      ∙ drop-set-lt (length low + (2 + length high)) first (length low) 46 (omega arith)
      ∙ drop-append-add low (drop (length low) before) (2 + length high)
      ∙ drop-drop (2 + length high) (length low) before

  pub long : length (low ++ 46 ∷ 46 ∷ high) ≡ length low + 2 + length high
  long = length-append low (46 ∷ 46 ∷ high) ∙ omega arith

  pub placed : (part : List ℕ) → part ≡ high → (k : ℕ) → k ≡ length high → put_mid (length low + 2) k third part ≡ (low ++ 46 ∷ 46 ∷ high) ++ drop (length (low ++ 46 ∷ 46 ∷ high)) before
  placed part is k e =
      let rest : List ℕ = drop (length (low ++ 46 ∷ 46 ∷ high)) before in
      let n : length low + (2 + length high) ≡ length (low ++ 46 ∷ 46 ∷ high) = omega (arith, long) in
      ap (λ xs. xs ++ (part ++ post_of (length low + 2) k third)) front
      ∙ ap (λ ys. (low ++ 46 ∷ 46 ∷ []) ++ ys) (ap (λ ys. ys ++ post_of (length low + 2) k third) is ∙ ap (λ ys. high ++ ys) (back k e ∙ ap (λ j. drop j before) n))
      ∙ append_assoc low (46 ∷ 46 ∷ []) (high ++ rest) ∙ sym (append_assoc low (46 ∷ 46 ∷ high) rest)
