-- What may still be pushed, from one instruction to the next.
use Rattle.std.proofs.Common.{◌≡◌, ℕ, zero, suc, ◌+◌, ◌<◌, ◌≤◌, List, [], ◌∷◌, drop, Some, slice_get, ap, subst, arith}
use Rattle.std.proofs.lemmas.Option.{none-some, same_Some}
use Rattle.std.specs.List.{AllByRecursion}
use Rattle.instructions.specs.declared.instruction.Instruction.{Instruction}
use Rattle.instructions.specs.declared.instruction.Instruction.TheVariants.{PushCell, SetSort, SetFeature, IntersectSort, TestFeature, UnifyFeature, WriteTest}
use Rattle.instructions.specs.declared.instruction.Mode.TheVariants.{Read, Write}
use Rattle.cases.specs.Pushing.{pushed_by, pushes, BeginsFrom, GoesOn, Onward, Room}

all_later : {X : Type 0} (P : X → Type 0) (at : ℕ) (xs : List X) → AllByRecursion P (drop at xs) → AllByRecursion P (drop (suc at) xs)
all_later P zero [] a = tt
all_later P zero (x ∷ xs) a = a.1
all_later P (suc at) [] a = tt
all_later P (suc at) (x ∷ xs) a = all_later P at xs a

all_here : {X : Type 0} (P : X → Type 0) (at : ℕ) (xs : List X) (x : X) → slice_get xs at ≡ Some x → AllByRecursion P (drop at xs) → P x
all_here P zero [] x e a = absurd (none-some x e)
all_here P zero (y ∷ xs) x e a = subst P (same_Some y x e) a.0
all_here P (suc at) [] x e a = absurd (none-some x e)
all_here P (suc at) (y ∷ xs) x e a = all_here P at xs x e a

pub pushes_here : (at : ℕ) (is : List Instruction) (i : Instruction) → slice_get is at ≡ Some i → pushes (drop at is) ≡ pushed_by i + pushes (drop (suc at) is)
unfolding pushes
pushes_here zero [] i e = absurd (none-some i e)
pushes_here zero (j ∷ is) i e = ap (λ (k : Instruction). pushed_by k + pushes is) (same_Some j i e)
pushes_here (suc at) [] i e = absurd (none-some i e)
pushes_here (suc at) (j ∷ is) i e = pushes_here at is i e

fewer_later : (p q : ℕ) (is : List Instruction) → p ≤ q → pushes (drop q is) ≤ pushes (drop p is)
unfolding pushes
fewer_later zero zero is l = omega arith
fewer_later zero (suc q) [] l = omega arith
fewer_later zero (suc q) (i ∷ is) l = omega (arith, fewer_later zero q is (omega arith))
fewer_later (suc p) zero is l = absurd (omega arith)
fewer_later (suc p) (suc q) [] l = omega arith
fewer_later (suc p) (suc q) (i ∷ is) l = fewer_later p q is (omega arith)

onward_at : (reads : List Instruction) (p at k : ℕ) (is : List Instruction) (i : Instruction) → Onward reads p is → slice_get is at ≡ Some i → k ≡ p + at → GoesOn reads k i
unfolding Onward
onward_at reads p at k [] i o e q = absurd (none-some i e)
onward_at reads p zero k (j ∷ is) i o e q =
    let here : p ≡ k = omega (arith, q) in
    subst (λ (k : ℕ). GoesOn reads k i) here (subst (GoesOn reads p) (same_Some j i e) o.0)
onward_at reads p (suc at) k (j ∷ is) i o e q = onward_at reads (suc p) at k is i o.1 e (omega (arith, q))

-- at first all that the write code pushes may come
all_begin : (is : List Instruction) → AllByRecursion (BeginsFrom 0) is
all_begin [] = tt
all_begin (PushCell r ∷ is) = (tt, all_begin is)
all_begin (SetSort r k ∷ is) = (tt, all_begin is)
all_begin (SetFeature r f v ∷ is) = (tt, all_begin is)
all_begin (IntersectSort r k ∷ is) = (tt, all_begin is)
all_begin (TestFeature r f v depth label ∷ is) = (omega arith, all_begin is)
all_begin (UnifyFeature r f v ∷ is) = (tt, all_begin is)
all_begin (WriteTest depth label ∷ is) = (tt, all_begin is)

module _ (reads writes : List Instruction) (n at used : ℕ) where
  pub room_first : used + pushes writes ≤ n → Room reads writes n Read 0 used
  room_first l = (0, l, all_begin reads)

  pub read_on : Room reads writes n Read at used → Room reads writes n Read (suc at) used
  read_on (p, l, a) = (p, l, all_later (BeginsFrom p) at reads a)

  pub read_write : (r f v d label : ℕ) → slice_get reads at ≡ Some (TestFeature r f v d label) → Room reads writes n Read at used → Room reads writes n (Write d) label used
  read_write r f v d label e (p, l, a) =
      omega (arith, l, fewer_later p label writes (all_here (BeginsFrom p) at reads (TestFeature r f v d label) e a))

  module _ (d : ℕ) (room : Room reads writes n (Write d) at used) where
    pub write_on : (i : Instruction) (u : ℕ) → slice_get writes at ≡ Some i → u ≡ pushed_by i + used → Room reads writes n (Write d) (suc at) u
    write_on i u e q = omega (arith, room, pushes_here at writes i e, q)

    pub may_push : (r : ℕ) → slice_get writes at ≡ Some (PushCell r) → used < n
    may_push r e = omega (arith, room, pushes_here at writes (PushCell r) e)

    pub write_read : (e label : ℕ) → slice_get writes at ≡ Some (WriteTest e label) → Onward reads 0 writes → Room reads writes n Read label used
    write_read e label is o = (suc at, omega (arith, room, pushes_here at writes (WriteTest e label) is), onward_at reads 0 at at writes (WriteTest e label) o is (omega arith))
