-- Running codes: what is still to be run gives the outcome of the whole.
use Rattle.std.proofs.Common.{◌≡◌, ℕ, zero, suc, ◌+◌, ◌-◌, ◌<◌, ◌≤◌, List, [], ◌∷◌, ◌++◌, length, get_or, drop, Some, None, Ok, Err, Option, Result, slice_get, sym, ap, subst, ◌∙◌, add-one, arith}
use Rattle.std.specs.List.{AllByRecursion}
use Rattle.std.proofs.lemmas.List.{at_drop_more, at_drop_all}
use Rattle.std.proofs.lemmas.Option.{none-some, same_Some}
use Rattle.orders.specs.Meaning.{Meaning}
use Rattle.performing.specs.Performing.{State}
use Rattle.instructions.specs.declared.instruction.Instruction.{Instruction}
use Rattle.instructions.specs.Steps.{Machine, present_in, step, write, entered, run}

pub all_got : {X : Type 0} (P : X → Type 0) (xs : List X) (k : ℕ) (x : X) → AllByRecursion P xs → slice_get xs k ≡ Some x → P x
all_got P [] k x a e = absurd (none-some x e)
all_got P (y ∷ ys) zero x a e = subst P (same_Some y x e) a.0
all_got P (y ∷ ys) (suc k) x a e = all_got P ys k x a.1 e

-- what holds of both parts of a code holds of it
pub all_both : {X : Type 0} (P : X → Type 0) (xs ys : List X) → AllByRecursion P xs → AllByRecursion P ys → AllByRecursion P (xs ++ ys)
all_both P [] ys a b = b
all_both P (x ∷ xs) ys a b = (a.0, all_both P xs ys a.1 b)

module _ {K : Type 0} (m : Meaning K) (ks : List K) where
  -- an entry's code: one instruction more, and none
  pub entered_more : (code : List Instruction) (k : ℕ) (d : Instruction) (s t : State K) (outcome : State K) → k < length code → t ≡ write m ks (get_or code k d) s
      → entered m ks (drop k code) s ≡ outcome → entered m ks (drop (k + 1) code) t ≡ outcome
  unfolding entered
  entered_more code k d s t outcome l w q =
      ap (entered m ks (drop (k + 1) code)) w
      ∙ sym (at_drop_more (λ (is : List Instruction). entered m ks is s) code k d l)
      ∙ q

  pub entered_all : (code : List Instruction) (k : ℕ) (s : State K) (outcome : State K) → length code ≤ k → entered m ks (drop k code) s ≡ outcome → s ≡ outcome
  unfolding entered
  entered_all code k s outcome l q = sym (at_drop_all (λ (is : List Instruction). entered m ks is s) code k l) ∙ q

  module _ (reads writes : List Instruction) where
    pub no_turns : (n : ℕ) (t : Machine K) → n ≡ 0 → run m ks reads writes n t ≡ Ok t.state
    unfolding run
    no_turns n t e = ap (λ (n : ℕ). run m ks reads writes n t) e

    abbrev after_step : ℕ → Machine K → Option (Machine K) → Result (State K) ℕ
    after_step n t o = elim o [ Some u ↦ run m ks reads writes n u | None ↦ Err (suc t.at) ]

    abbrev after_fetch : ℕ → Machine K → Option Instruction → Result (State K) ℕ
    after_fetch n t o = elim o [ Some i ↦ after_step n t (step m ks i t) | None ↦ Ok t.state ]

    module _ (turns turn : ℕ) (l : turn < turns) (t : Machine K) where
      turn_taken : run m ks reads writes (turns - turn) t ≡ after_fetch (turns - (turn + 1)) t (present_in reads writes t.mode t.at)
      unfolding run
      turn_taken =
          let e : turns - turn ≡ suc (turns - (turn + 1)) = omega arith in
          ap (λ (n : ℕ). run m ks reads writes n t) e

      pub turn_over : None ≡ present_in reads writes t.mode t.at → run m ks reads writes (turns - turn) t ≡ Ok t.state
      turn_over e = turn_taken ∙ sym (ap (after_fetch (turns - (turn + 1)) t) e)

      module _ (i : Instruction) (here : Some i ≡ present_in reads writes t.mode t.at) where
        fetched : run m ks reads writes (turns - turn) t ≡ after_step (turns - (turn + 1)) t (step m ks i t)
        fetched = turn_taken ∙ sym (ap (after_fetch (turns - (turn + 1)) t) here)

        pub stepped : (u : Machine K) → step m ks i t ≡ Some u → run m ks reads writes (turns - turn) t ≡ run m ks reads writes (turns - (turn + 1)) u
        stepped u e = fetched ∙ ap (after_step (turns - (turn + 1)) t) e

        pub clashed : step m ks i t ≡ None → run m ks reads writes (turns - turn) t ≡ Err (t.at + 1)
        clashed e = fetched ∙ ap (after_step (turns - (turn + 1)) t) e ∙ ap Err (sym (add-one t.at))
