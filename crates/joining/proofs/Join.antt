-- The law of joining.
use Rattle.std.proofs.Common.{None, Option, Some, T, [], ap₂, arith, sym, ℕ, ◌*◌, ◌<◌, ◌∙◌, ◌∷◌, ◌≡◌}
use Rattle.orders.specs.Meaning.{Meaning}
use Rattle.joining.specs.Good.{Good}
use Rattle.joining.specs.Heap.{Heap}
use Rattle.joining.specs.Interpretation.{Sound, Structure}
use Rattle.joining.specs.Joining.{Work, join, most_pairs}
use Rattle.joining.specs.Law.{JoinLaw, Outcome}
use Rattle.joining.proofs.Budget.{settles}
use Rattle.joining.proofs.Enough.{Enough, at}
use Rattle.joining.proofs.Extends.{extends, joined_one}
use Rattle.joining.proofs.Grown.{grows_bind}
use Rattle.joining.proofs.Grows.{Grows, grows_none, grows_on, grows_same}
use Rattle.joining.proofs.Ready.{Ready}
use Rattle.joining.proofs.Run.{Ends, run}
use Rattle.joining.proofs.Truth.{Truth, truth_bind, truth_clash, truth_same}

module _ {K : Type 0} (m : Meaning K) (h : Heap K) (a b : ℕ) (good : Good m.widest h) (la : a < h.used) (lb : b < h.used) where
  abbrev first : Work K
  first = at h ((a, b) ∷ [])

  ready : Ready m.widest first
  ready = record { good = good; inside = (la, lb, tt) }

  enough : Enough m.widest (most_pairs h) first
  enough = omega arith

  grown : Ends m (most_pairs h) (Grows m first) (join m a b h)
  grown =
      run m (most_pairs h) (Grows m first)
      (λ g p ps r x e. grows_on m first (at g (p ∷ ps)) (at g ps) x (grows_same m g p ps r e))
      (λ g p ps i j k z x. grows_on m first (at g (p ∷ ps)) _ x (grows_bind m (most_pairs h) g p ps i j k z))
      (most_pairs h) ((a, b) ∷ []) h (omega arith) ready (grows_none m first) enough

  module _ {T : Type 0} (s : Structure K T) (thing : ℕ → T) (t : Sound m s thing h) (e : thing a ≡ thing b) where
    true_still : Ends m (most_pairs h) (Truth m s thing) (join m a b h)
    true_still =
        run m (most_pairs h) (Truth m s thing)
        (λ g p ps r x q. truth_same m s thing g p ps x)
        (λ g p ps i j k z x. truth_bind m s thing (most_pairs h) g p ps i j k z x)
        (most_pairs h) ((a, b) ∷ []) h (omega arith) ready (record { sound = t; tied = (e, tt) }) enough

  module _ (T : Type 0) where
    outcome : (o : Option (Heap K)) → Ends m (most_pairs h) (Grows m first) o
        → ((s : Structure K T) (thing : ℕ → T) → Sound m s thing h → thing a ≡ thing b → Ends m (most_pairs h) (Truth m s thing) o)
        → Outcome T m a b h o
    outcome (Some g) (r, x) t = record {
      good = r.good;
      used = x.used;
      features = x.features;
      cells = x.cells;
      slots = r.good.size ∙ ap₂ ◌*◌ x.cells x.features ∙ sym good.size;
      one = joined_one m a b h g good r.good x;
      extends = extends m a b h g good r.good x;
      sound = λ s thing u e. (t s thing u e).1.sound;
    }
    outcome None x t = λ s thing u e. truth_clash m s thing (most_pairs h) (t s thing u e)

pub join_law : {K : Type 0} (T : Type 0) (m : Meaning K) → JoinLaw T m
join_law T m h a b g la lb = (
  outcome m h a b g la lb T (join m a b h) (grown m h a b g la lb) (λ s thing t e. true_still m h a b g la lb s thing t e),
  λ more longer. settles m (most_pairs h) more (most_pairs h) longer ((a, b) ∷ []) h (omega arith) (ready m h a b g la lb) (enough m h a b g la lb),
)
