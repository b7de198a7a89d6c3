-- How many variables statements have met, and that the variables of statements that fit are among them.
use Rattle.std.proofs.Common.{◌≡◌, ℕ, suc, ◌<◌, ◌≤◌, Bool, true, false, cond, List, [], ◌∷◌, arith, ◌==◌, refl}
use Rattle.std.proofs.lemmas.Bool.{eqb-false}
use Rattle.std.specs.List.{AllByRecursion}
use Rattle.grammar.specs.declared.statement.Statement.{Statement}
use Rattle.grammar.specs.declared.statement.Statement.TheVariants.{Kind, Feature}
use Rattle.performing.specs.Following.{Fits, AllFit, met_after, met_by}
use Rattle.performing.proofs.Onward.{Within}

more_if : (b : Bool) (p : ℕ) → p ≤ cond b (suc p) p
more_if true p = omega arith
more_if false p = omega arith

pub met_more : {K : Type 0} (p : ℕ) (t : Statement K) → p ≤ met_after p t
met_more p (Kind x k) = omega arith
met_more p (Feature x f y) = more_if (y == p) p

pub met_most : {K : Type 0} (p : ℕ) (ts : List (Statement K)) → p ≤ met_by p ts
unfolding met_by
met_most p [] = omega arith
met_most p (t ∷ ts) = omega (arith, met_more p t, met_most (met_after p t) ts)

-- the variables of a statement that fits are met after it
pub fits_within : {K : Type 0} (features p : ℕ) (t : Statement K) → Fits features p t → Within (met_after p t) t
fits_within features p (Kind x k) h = h
fits_within features p (Feature x f y) h = (omega (arith, more_if (y == p) p, h.0), go (y == p) refl) where
  go : (b : Bool) → (y == p) ≡ b → y < cond b (suc p) p
  go true e = omega (arith, h.2)
  go false e = omega (arith, h.2, eqb-false y p e)

pub within_more : {K : Type 0} (p q : ℕ) → p ≤ q → (t : Statement K) → Within p t → Within q t
within_more p q l (Kind x k) w = omega (arith, l, w)
within_more p q l (Feature x f y) w = (omega (arith, l, w.0), omega (arith, l, w.1))

pub all_within : {K : Type 0} (features p : ℕ) (ts : List (Statement K)) → AllFit features p ts → AllByRecursion (Within (met_by p ts)) ts
unfolding AllFit met_by
all_within features p [] f = tt
all_within features p (t ∷ ts) f =
    (within_more (met_after p t) (met_by (met_after p t) ts) (met_most (met_after p t) ts) t (fits_within features p t f.0), all_within features (met_after p t) ts f.1)
