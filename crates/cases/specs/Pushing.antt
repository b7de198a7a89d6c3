-- How many cells the codes of a rule may still push. A middle layer: no contract of a public call cites it.
use Rattle.std.specs.Prelude.{ℕ, suc, ◌+◌, ◌<◌, ◌≤◌, List, [], ◌∷◌, drop}
use Rattle.std.specs.List.{AllByRecursion}
use Rattle.instructions.specs.declared.instruction.Instruction.{Instruction}
use Rattle.instructions.specs.declared.instruction.Instruction.TheVariants.{PushCell, SetSort, SetFeature, IntersectSort, TestFeature, UnifyFeature, WriteTest}
use Rattle.instructions.specs.declared.instruction.Mode.{Mode}
use Rattle.instructions.specs.declared.instruction.Mode.TheVariants.{Read, Write}

-- how many cells an instruction pushes, and how many a code
abbrev pub pushed_by : Instruction → ℕ
pushed_by (PushCell r) = 1
pushed_by (SetSort r k) = 0
pushed_by (SetFeature r f v) = 0
pushed_by (IntersectSort r k) = 0
pushed_by (TestFeature r f v depth label) = 0
pushed_by (UnifyFeature r f v) = 0
pushed_by (WriteTest depth label) = 0

unfoldable pub pushes : List Instruction → ℕ
pushes [] = 0
pushes (i ∷ is) = pushed_by i + pushes is

-- a test begins to write at p or later
abbrev pub BeginsFrom : ℕ → Instruction → Type 0
BeginsFrom p (PushCell r) = Unit {0}
BeginsFrom p (SetSort r k) = Unit {0}
BeginsFrom p (SetFeature r f v) = Unit {0}
BeginsFrom p (IntersectSort r k) = Unit {0}
BeginsFrom p (TestFeature r f v depth label) = p ≤ label
BeginsFrom p (UnifyFeature r f v) = Unit {0}
BeginsFrom p (WriteTest depth label) = Unit {0}

-- the feature of an instruction is below f
abbrev pub Uses : ℕ → Instruction → Type 0
Uses f (PushCell r) = Unit {0}
Uses f (SetSort r k) = Unit {0}
Uses f (SetFeature r g v) = g < f
Uses f (IntersectSort r k) = Unit {0}
Uses f (TestFeature r g v depth label) = g < f
Uses f (UnifyFeature r g v) = g < f
Uses f (WriteTest depth label) = Unit {0}

module _ (reads : List Instruction) where
  -- what goes back to reading at p begins to write after p only
  abbrev pub GoesOn : ℕ → Instruction → Type 0
  GoesOn p (PushCell r) = Unit {0}
  GoesOn p (SetSort r k) = Unit {0}
  GoesOn p (SetFeature r f v) = Unit {0}
  GoesOn p (IntersectSort r k) = Unit {0}
  GoesOn p (TestFeature r f v depth label) = Unit {0}
  GoesOn p (UnifyFeature r f v) = Unit {0}
  GoesOn p (WriteTest depth label) = AllByRecursion (BeginsFrom (suc p)) (drop label reads)

  -- and so from p on
  unfoldable pub Onward : ℕ → List Instruction → Type 0
  Onward p [] = Unit {0}
  Onward p (i ∷ is) = GoesOn p i × Onward (suc p) is

module _ (reads writes : List Instruction) where
  -- codes over so many features, of which nothing is written twice
  pub record Codes (features : ℕ) : Type 0 where
    pub onward : Onward reads 0 writes
    pub reads_use : AllByRecursion (Uses features) reads
    pub writes_use : AllByRecursion (Uses features) writes

  -- with so many cells in use, what may still be pushed is below n
  abbrev pub Room : ℕ → Mode → ℕ → ℕ → Type 0
  Room n Read at used = (p : ℕ) × (used + pushes (drop p writes) ≤ n) × AllByRecursion (BeginsFrom p) (drop at reads)
  Room n (Write depth) at used = used + pushes (drop at writes) ≤ n
