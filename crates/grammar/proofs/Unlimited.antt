-- A tree within the limits is lawful without them.
use Rattle.std.proofs.Common.{ℕ, suc, List, Some, None, Option, refl}
use Rattle.grammar.specs.Trees.{Tree, Items, bare, described, none, item, no_limits, limits, LawfulLabel, LawfulTree, LawfulList, LawfulItems}

unlimited_label : (o : Option (List ℕ)) → LawfulLabel limits o → LawfulLabel no_limits o
unlimited_label (Some n) l = (l.0, refl)
unlimited_label None l = tt

mutual
  unfolding LawfulTree

  pub lawful_unlimited : (d : ℕ) (t : Tree) → LawfulTree limits d t → LawfulTree no_limits d t
  lawful_unlimited d (bare n) l = (l.0, refl)
  lawful_unlimited d (described o k items) l = (unlimited_label o l.0, l.1, unlimited_list d items l.2)

  unlimited_list : (d : ℕ) (items : Items) → LawfulList limits d items → LawfulList no_limits d items
  unlimited_list d none l = tt
  unlimited_list d (item f t rest) l = (refl, l.1, refl, lawful_unlimited (suc d) t l.3, unlimited_items (suc d) rest l.4)

  unlimited_items : (d : ℕ) (rest : Items) → LawfulItems limits d rest → LawfulItems no_limits d rest
  unlimited_items d none l = tt
  unlimited_items d (item f t rest) l = (l.0, refl, lawful_unlimited d t l.2, unlimited_items d rest l.3)
