-- Labels of cells: one label for each pair, and for a cell and what it refers to.
use Rattle.std.proofs.Common.{List, [], ap, inl, inr, length, ℕ, ◌<◌, ◌∷◌, ◌≡◌}
use Rattle.std.proofs.lemmas.Bool.{cases_eq}
use Rattle.joining.specs.Good.{Good}
use Rattle.joining.specs.Heap.{Heap, end, refers}
use Rattle.joining.specs.Joining.{bind}
use Rattle.joining.proofs.Follow.{follow_label}
use Rattle.joining.proofs.Kept.{Apart, bind_new, bind_old}

-- the two of each pair have one label
abbrev pub Tied : {T : Type 0} → (ℕ → T) → List (ℕ × ℕ) → Type 0
Tied c [] = Unit {0}
Tied c (p ∷ ps) = (c p.0 ≡ c p.1) × Tied c ps

-- a cell has the label of the cell that it refers to
abbrev pub Labels : {K T : Type 0} → K → (ℕ → T) → Heap K → Type 0
Labels top c h = (i : ℕ) → i < h.used → c (refers top h i) ≡ c i

module _ {K T : Type 0} (top : K) (h : Heap K) (g : Good top h) (c : ℕ → T) (ls : Labels top c h) where
  pub label_end : (i : ℕ) → i < h.used → c (end top h i) ≡ c i
  label_end i l = follow_label (refers top h) h.used g.inside c ls (length h.cells) i l

module _ {K T : Type 0} (top : K) (h : Heap K) (g : Good top h) (c : ℕ → T) (a b : ℕ) (k : K) (x : Apart top h a b) where
  -- labels after two ends are bound are labels before, with one label for the two, and the other way round
  pub labels_after : c a ≡ c b → Labels top c h → Labels top c (bind top a b k h)
  labels_after e ls i l =
      elim (cases_eq i b) [
        | inl q ↦ rw (q, bind_new top h g a b k x) e
        | inr n ↦ rw (bind_old top h g a b k x i n) (ls i l)
      ]

  pub labels_two : Labels top c (bind top a b k h) → c a ≡ c b
  labels_two ls = rw (bind_new top h g a b k x) at (ls b x.second_in)

  pub labels_before : Labels top c (bind top a b k h) → Labels top c h
  labels_before ls i l = elim (cases_eq i b) [ inl q ↦ rw q (ap c x.second_end) | inr n ↦ rw (bind_old top h g a b k x i n) at (ls i l) ]
