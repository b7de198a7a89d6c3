-- Entering and matching are refused before they begin, or the term is run.
use Rattle.std.proofs.Common.{◌≡◌, ℕ, ◌+◌, ◌-◌, ◌*◌, ◌≤◌, Bool, true, false, cond, List, length, nat_le, nat_lt, Ok, Err, Option, Result, refl, sym, ap, ◌∙◌, subst, ltb-false}
use Rattle.std.proofs.lemmas.Bool.{cond-false, or_parts}
use Rattle.refusals.specs.declared.Refusal.{Refusal}
use Rattle.refusals.specs.declared.Refusal.TheVariants.{Memory, Feature, Full}
use Rattle.refusals.specs.declared.Refusal.TheVariants as refusal
use Rattle.orders.specs.Meaning.{Meaning}
use Rattle.grammar.specs.declared.statement.Statement.{Statement}
use Rattle.joining.specs.declared.cell.Cell.{Cell}
use Rattle.joining.specs.Heap.{Heap}
use Rattle.instructions.specs.Law.{most_turns, enter, match_at}
use Rattle.osf.specs.Calls.{Lent, Left, too_short_for, refused, accepted, accepted_if, variables_of}
use Rattle.osf.specs.Runs.{OfTerm, after_call, enter as entered, match_rule as matched}
use Rattle.osf.proofs.Going.{law_at}
use Rattle.cases.specs.declared.case.Case.{Case}
use Rattle.cases.specs.Calls.{heap_of, enter_of, match_of}
use Rattle.cases.specs.Limits.{past, may_enter, may_match}
use Rattle.cases.specs.Law.{LawIn}
use Rattle.cases.proofs.JoinOf.{whole_cells}

module _ {K : Type 0} (m : Meaning K) (l : Lent) (case : Case) (ss : List (Statement K)) (places : List ℕ) (cells : List (Cell K)) (slots : List (Option ℕ)) where
  abbrev h : Heap K
  h = heap_of case cells slots

  -- nothing is refused before the term is run, for which the cells up to `need` are there
  pub record Fits (need size : ℕ) : Type 0 where
    pub sizes : size ≡ case.cells * case.features
    pub enough : too_short_for case.cells case.features l ≡ false
    pub listed : variables_of ss ≤ length places
    pub room : need ≤ case.cells

  -- a refusal, or what is left is y
  abbrev pub Begins : ℕ → Left K → Left K → Result ℕ Refusal → Type 0
  Begins need x y (Err e) = x ≡ refused e h places
  Begins need x y (Ok size) = Fits need size × (x ≡ y)

  in_range : (need : ℕ) (y : Left K) → too_short_for case.cells case.features l ≡ false →
      (b c : Bool) → past l case ss (variables_of ss) (length places) ≡ b → nat_lt case.cells need ≡ c →
      Begins need (cond b (refused Feature h places) (cond c (refused Full h places) y)) y (cond b (Err Feature) (cond c (Err Full) (Ok (case.cells * case.features))))
  in_range need y e true c p q = refl
  in_range need y e false true p q = refl
  in_range need y e false false p q =
      (record { sizes = refl; enough = e; listed = ltb-false _ _ (or_parts _ _ p).1; room = ltb-false _ _ q }, refl)

  in_use : (need : ℕ) (x y : Left K) (r : Result ℕ Refusal) (b : Bool) → Begins need x y r →
      Begins need (cond b (refused refusal.Cell h places) x) y (cond b (Err refusal.Cell) r)
  in_use need x y r true k = refl
  in_use need x y r false k = k

  module _ (lent_cells : l.cells ≡ length cells) (lent_slots : l.slots ≡ length slots) where
    long_enough : (need : ℕ) (inner : ℕ → Left K) (y : Left K) (r : Result ℕ Refusal) →
        (too_short_for case.cells case.features l ≡ false → Begins need (inner case.cells) y r) →
        (b : Bool) → too_short_for case.cells case.features l ≡ b →
        Begins need (cond b (refused Memory h places) (cond (too_short_for (length h.cells) case.features l) (refused Memory h places) (inner (length h.cells)))) y (cond b (Err Memory) r)
    long_enough need inner y r k true e = refl
    long_enough need inner y r k false e =
        subst (λ (n : ℕ). Begins need (cond (too_short_for n case.features l) (refused Memory h places) (inner n)) y r)
        (sym (whole_cells case cells slots l lent_cells lent_slots e))
        (subst (λ (b : Bool). Begins need (cond b (refused Memory h places) (inner case.cells)) y r) (sym e) (k e))

    pub enter_begins : Begins (case.used + variables_of ss) (enter_of m l case ss places cells slots) (accepted (enter m ss h) places)
        (may_enter l case ss (variables_of ss) (length places))
    enter_begins =
        let need = case.used + variables_of ss in
        let y = accepted (enter m ss h) places in
        long_enough need
        (λ n. cond (past l case ss (variables_of ss) (length places)) (refused Feature h places) (cond (nat_lt n need) (refused Full h places) y)) y _
        (λ e. in_range need y e _ _ refl refl) _ refl

    pub match_begins : (i : ℕ) → Begins (case.used + variables_of ss - 1) (match_of m l case ss i places cells slots)
        (accepted_if (match_at m ss (most_turns ss) h i) h places)
        (may_match l case ss (variables_of ss) i (length places))
    match_begins i =
        let need = case.used + variables_of ss - 1 in
        let y = accepted_if (match_at m ss (most_turns ss) h i) h places in
        long_enough need
        (λ n. cond (nat_le case.used i) (refused refusal.Cell h places)
        (cond (past l case ss (variables_of ss) (length places)) (refused Feature h places) (cond (nat_lt n need) (refused Full h places) y))) y _
        (λ e. in_use need _ y _ (nat_le case.used i) (in_range need y e _ _ refl refl)) _ refl

    -- the same by the statements and variables that were told
    module _ (told : List (Statement K)) (n : ℕ) (are : told ≡ ss) (many : n ≡ variables_of ss) (r : Result ℕ Refusal) where
      pub enter_told : r ≡ may_enter l case told n (length places)
          → Begins (case.used + variables_of ss) (enter_of m l case ss places cells slots) (accepted (enter m ss h) places) r
      enter_told e =
          subst (Begins _ _ _)
          (sym (e ∙ ap (λ (ts : List (Statement K)). may_enter l case ts n (length places)) are ∙ ap (λ (k : ℕ). may_enter l case ss k (length places)) many))
          enter_begins

      pub match_told : (i : ℕ) → r ≡ may_match l case told n i (length places)
          → Begins (case.used + variables_of ss - 1) (match_of m l case ss i places cells slots) (accepted_if (match_at m ss (most_turns ss) h i) h places) r
      match_told i e =
          subst (Begins _ _ _)
          (sym (e ∙ ap (λ (ts : List (Statement K)). may_match l case ts n i (length places)) are ∙ ap (λ (k : ℕ). may_match l case ss k i (length places)) many))
          (match_begins i)

  -- the law at the calls, by the heap that they leave
  pub law_entered : OfTerm ss → (g : Heap K) → (enter_of m l case ss places cells slots).heap ≡ g → LawIn m case l (entered ss) places h g
  unfolding after_call
  law_entered term g q enough =
      law_at m (record { call = entered ss; places = places; lent = l }) term h g (λ t. ap (λ (x : Left K). x.heap) (sym (cond-false _ _ _ enough)) ∙ q)

  pub law_matched : OfTerm ss → (i : ℕ) (g : Heap K) → (match_of m l case ss i places cells slots).heap ≡ g → LawIn m case l (matched ss i) places h g
  unfolding after_call
  law_matched term i g q enough =
      law_at m (record { call = matched ss i; places = places; lent = l }) term h g (λ t. ap (λ (x : Left K). x.heap) (sym (cond-false _ _ _ enough)) ∙ q)
