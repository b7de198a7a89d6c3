-- Lines and sections that are taken into memory, as lines and sections of what is there.
use Rattle.std.proofs.Common.{◌≡◌, ℕ, ap, length, zero, suc, ◌+◌, ◌≤◌, Bool, true, false, cond, List, Ok, Err, Result, refl, subst}
use Rattle.std.specs.Result.{IfOk}
use Rattle.refusals.specs.declared.Refusal.{Refusal}
use Rattle.files.specs.Lines.{text_at, fed, length_at, goes_on, unfed, judged, Then, Lines}
use Rattle.files.specs.Counts.{Counts}
use Rattle.files.specs.Files.{Section}
use Rattle.files.specs.Model.{mapped}

-- only what is accepted goes on
judged_ok : (file : List ℕ) (s : ℕ) (a : Result ℕ Refusal) (p : ℕ × ℕ) → judged file s a ≡ Ok p → a ≡ Ok p.0
judged_ok file s a p h = go a (fed file s) h where
  none : {A : Type 0} {x : A} {e : Refusal} {P : Type 0} → ◌≡◌ {A = Result A Refusal} (Err e) (Ok x) → P
  none q = cc

  the_pair : {C : Type 0} {x y : C} → ◌≡◌ {A = Result C Refusal} (Ok x) (Ok y) → x ≡ y
  the_pair q = cc

  first : {A B : Type 0} {k : A} {next : B} {p : A × B} → ◌≡◌ {A = Result (A × B) Refusal} (Ok (k, next)) (Ok p) → k ≡ p.0
  first q = ap (λ x. x.0) (the_pair q)

  go : (a : Result ℕ Refusal) (b : Bool) → ◌≡◌ {A = Result (ℕ × ℕ) Refusal} (cond b (goes_on s (s + length_at file s + 1) a) (Err (unfed s (length file) a))) (Ok p) → a ≡ Ok p.0
  go (Ok k) true q = ap Ok (first q)
  go (Ok k) false q = none q
  go (Err e) true q = none q
  go (Err e) false q = none q

module _ {S U : Type 0} (Takes : S → List ℕ → S → Result ℕ Refusal → Type 0) (Gives : U → List ℕ → U → Result ℕ Refusal → Type 0) (f : S → U) (Keeps : ℕ → S → Type 0)
    (step : (n : ℕ) (x : S) (line : List ℕ) (y : S) (a : Result ℕ Refusal) → Keeps (suc n) x → Takes x line y a → Gives (f x) line (f y) a × ((k : ℕ) → a ≡ Ok k → Keeps n y))
    (file : List ℕ) where
  -- so is the end, as the lines keep it
  abbrev Ended : Result (S × ℕ) Refusal → Type 0
  Ended r = IfOk r (λ p. Keeps 0 p.0)

  lines_mapped : (n s : ℕ) (x : S) (r : Result (S × ℕ) Refusal) → Keeps n x → Lines Takes file n s x r → Lines Gives file n s (f x) (mapped f r) × Ended r
  unfolding Lines
  lines_mapped zero s x r h e = rw e (refl, h)
  lines_mapped (suc n) s x r h (y, a, t, after) =
      let (g, next) = step n x (text_at file s) y a h t in
      let (rest, end) = go (lines_mapped n) y a (judged file s a) refl next after in
      ((f y, a, g, rest), end)
    where
      go : ((s : ℕ) (x : S) (r : Result (S × ℕ) Refusal) → Keeps n x → Lines Takes file n s x r → Lines Gives file n s (f x) (mapped f r) × Ended r)
          → (y : S) (a : Result ℕ Refusal) (j : Result (ℕ × ℕ) Refusal) → judged file s a ≡ j → ((k : ℕ) → a ≡ Ok k → Keeps n y) → Then j (λ p. Lines Takes file n p.1 y r) r
          → Then j (λ p. Lines Gives file n p.1 (f y) (mapped f r)) (mapped f r) × Ended r
      go again y a (Ok p) j next h = again p.1 y r (next p.0 (judged_ok file s a p j)) h
      go again y a (Err e) j next h = rw h (refl, tt)

  pub section_mapped : (limit s : ℕ) (x : S) (r : Result (S × ℕ) Refusal) → ((n : ℕ) → n ≤ limit → Keeps n x) → Section Takes limit file s x r → Section Gives limit file s (f x) (mapped f r) × Ended r
  unfolding Section
  section_mapped limit s x r h (a, c, after) =
      let (rest, end) = go (judged file s a) refl after in
      ((a, c, rest), end)
    where
      go : (j : Result (ℕ × ℕ) Refusal) → judged file s a ≡ j → Then j (λ p. Lines Takes file p.0 p.1 x r) r
          → Then j (λ p. Lines Gives file p.0 p.1 (f x) (mapped f r)) (mapped f r) × Ended r
      go (Ok p) j after = lines_mapped p.0 p.1 x r (h p.0 (subst (Counts limit (text_at file s)) (judged_ok file s a p j) c).2) after
      go (Err e) j after = rw after (refl, tt)
