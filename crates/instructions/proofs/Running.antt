-- A turn of the codes, by what is left of them.
use Rattle.std.proofs.Common.{◌≡◌, ℕ, zero, suc, ◌<◌, ◌≤◌, List, [], ◌∷◌, drop, Some, None, Ok, Err, refl, ap, nat_le}
use Rattle.std.proofs.lemmas.Bool.{cond-true, cond-false, le-leb, lt-leb}
use Rattle.orders.specs.Meaning.{Meaning}
use Rattle.performing.specs.Performing.{State}
use Rattle.instructions.specs.declared.instruction.Instruction.{Instruction}
use Rattle.instructions.specs.declared.instruction.Instruction.TheVariants.{WriteTest}
use Rattle.instructions.specs.declared.instruction.Mode.TheVariants.{Read, Write}
use Rattle.instructions.specs.Steps.{Machine, step, present_in, run}
use Rattle.instructions.proofs.Fetching.{get_first, get_none}

abbrev pub reading : {K : Type 0} → State K → ℕ → Machine K
reading s i = record { state = s; mode = Read; at = i }

abbrev pub writing : {K : Type 0} → ℕ → State K → ℕ → Machine K
writing d s i = record { state = s; mode = Write d; at = i }

module _ {K : Type 0} (m : Meaning K) (ks : List K) (reads writes : List Instruction) where
  turn_on : (n : ℕ) (t u : Machine K) (i : Instruction) → present_in reads writes t.mode t.at ≡ Some i → step m ks i t ≡ Some u →
      run m ks reads writes (suc n) t ≡ run m ks reads writes n u
  unfolding run
  turn_on n t u i p q = rw (run, p, q)

  turn_clash : (n : ℕ) (t : Machine K) (i : Instruction) → present_in reads writes t.mode t.at ≡ Some i → step m ks i t ≡ None →
      run m ks reads writes (suc n) t ≡ Err (suc t.at)
  unfolding run
  turn_clash n t i p q = rw (run, p, q)

  -- the read code goes on
  pub reads_on : (n : ℕ) (s : State K) (at : ℕ) (i : Instruction) (is : List Instruction) (u : Machine K) → drop at reads ≡ i ∷ is →
      step m ks i (reading s at) ≡ Some u → run m ks reads writes (suc n) (reading s at) ≡ run m ks reads writes n u
  reads_on n s at i is u e q = turn_on n (reading s at) u i (get_first reads at i is e) q

  pub reads_clash : (n : ℕ) (s : State K) (at : ℕ) (i : Instruction) (is : List Instruction) → drop at reads ≡ i ∷ is →
      step m ks i (reading s at) ≡ None → run m ks reads writes (suc n) (reading s at) ≡ Err (suc at)
  reads_clash n s at i is e q = turn_clash n (reading s at) i (get_first reads at i is e) q

  -- at its end the state stands
  pub reads_end : (n : ℕ) (s : State K) (at : ℕ) → drop at reads ≡ [] → run m ks reads writes n (reading s at) ≡ Ok s
  unfolding run
  reads_end zero s at e = refl
  reads_end (suc n) s at e = rw (run, get_none reads at e)

  -- the write code goes on
  pub writes_on : (n d : ℕ) (s : State K) (at : ℕ) (i : Instruction) (is : List Instruction) (u : Machine K) → drop at writes ≡ i ∷ is →
      step m ks i (writing d s at) ≡ Some u → run m ks reads writes (suc n) (writing d s at) ≡ run m ks reads writes n u
  writes_on n d s at i is u e q = turn_on n (writing d s at) u i (get_first writes at i is e) q

  -- a test of a deeper description is passed, and any other goes back to reading
  pub test_passed : (n d e label : ℕ) (s : State K) (at : ℕ) (is : List Instruction) → drop at writes ≡ WriteTest e label ∷ is → d < e →
      run m ks reads writes (suc n) (writing d s at) ≡ run m ks reads writes n (writing d s (suc at))
  test_passed n d e label s at is w l =
      writes_on n d s at (WriteTest e label) is (writing d s (suc at)) w
      (ap Some (cond-false (nat_le e d) (reading s label) (writing d s (suc at)) (lt-leb e d l)))

  pub test_back : (n d e label : ℕ) (s : State K) (at : ℕ) (is : List Instruction) → drop at writes ≡ WriteTest e label ∷ is → e ≤ d →
      run m ks reads writes (suc n) (writing d s at) ≡ run m ks reads writes n (reading s label)
  test_back n d e label s at is w l =
      writes_on n d s at (WriteTest e label) is (reading s label) w (ap Some (cond-true (nat_le e d) (reading s label) (writing d s (suc at)) (le-leb e d l)))
