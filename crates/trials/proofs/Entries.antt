-- Entries tried one by one.
use Rattle.std.proofs.Common.{◌≡◌, ℕ, ◌+◌, ◌-◌, ◌*◌, ◌<◌, ◌≤◌, List, ◌++◌, map, length, get_or, drop, sym, ap, ◌∙◌, append_assoc, append-nil, length-append, arith}
use Rattle.std.proofs.lemmas.List.{drop_all}
use Rattle.orders.specs.Meaning.{Meaning}
use Rattle.grammar.specs.declared.statement.Statement.{Statement}
use Rattle.terms.specs.declared.term.Term.{Term}
use Rattle.compiler.specs.Views.{statements_in}
use Rattle.compiler.proofs.Onward.{left_more}
use Rattle.trials.specs.declared.trial.Trial.{Trial}
use Rattle.trials.specs.Trials.{numbered, outcomes, trials_from}
use Rattle.trials.proofs.Counting.{entry_length}

module _ {K : Type 0} (m : Meaning K) (features : ℕ) (rules : List (List (Statement K))) (terms : List (Term K)) (i : ℕ) where
  abbrev left : ℕ → List (List (Statement K))
  left k = map statements_in (drop k terms)

  -- all that is noted then
  abbrev pub whole : List (Trial K) → List (Trial K)
  whole start = start ++ trials_from m features 1 (map statements_in terms) rules

  pub entries_more : (term : Term K) (entry : List (Statement K)) (f : ℕ) (start before after : List (Trial K)) → i < length terms → term ≡ get_or terms i term
      → entry ≡ statements_in term → f ≡ features → after ≡ before ++ numbered (i + 1) 1 (outcomes m f entry rules)
      → before ++ trials_from m features (i + 1) (left i) rules ≡ whole start → after ++ trials_from m features (i + 1 + 1) (left (i + 1)) rules ≡ whole start
  unfolding trials_from
  entries_more term entry f start before after l here same features_are is h =
      let rest = trials_from m features (i + 1 + 1) (left (i + 1)) rules in
      ap (λ ts. ts ++ rest) is
      ∙ append_assoc before (numbered (i + 1) 1 (outcomes m f entry rules)) rest
      ∙ ap (λ f. before ++ (numbered (i + 1) 1 (outcomes m f entry rules) ++ rest)) features_are
      ∙ ap (λ ss. before ++ (numbered (i + 1) 1 (outcomes m features ss rules) ++ rest)) same
      ∙ ap (λ ts. before ++ trials_from m features (i + 1) (map statements_in ts) rules) (sym (left_more terms term i l here))
      ∙ h

  pub entries_last : (start before : List (Trial K)) → length terms ≤ i → before ++ trials_from m features (i + 1) (left i) rules ≡ whole start → before ≡ whole start
  unfolding trials_from
  entries_last start before l h =
      sym (append-nil before) ∙ ap (λ ts. before ++ trials_from m features (i + 1) (map statements_in ts) rules) (sym (drop_all i terms l)) ∙ h

  -- and there is room for the trials of those that are left
  pub room_left : (entry : List (Statement K)) (f n count len new_len capacity new_capacity : ℕ) (before after : List (Trial K)) → i < length terms
      → len ≡ length before → new_len ≡ length after → after ≡ before ++ numbered n 1 (outcomes m f entry rules) → length rules ≡ count → new_capacity ≡ capacity
      → len + (length terms - i) * count ≤ capacity → new_len + (length terms - (i + 1)) * count ≤ new_capacity
  room_left entry f n count len new_len capacity new_capacity before after l old new is many same room =
      let one : length terms - i ≡ length terms - (i + 1) + 1 = omega arith in
      omega (
        arith,
        old,
        new,
        ap length is,
        length-append before (numbered n 1 (outcomes m f entry rules)),
        entry_length m f n entry rules,
        many,
        same,
        room,
        ap (λ k. k * count) one,
      )
