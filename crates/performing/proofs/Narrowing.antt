-- A kind statement: the end of its variable gets the common kind, or it is true nowhere.
use Rattle.std.proofs.Common.{None, Option, Some, [], length, refl, slice_index, ℕ, ◌<◌, ◌∷◌, ◌≡◌}
use Rattle.orders.specs.Meaning.{IsCommon, Meaning}
use Rattle.grammar.specs.declared.statement.Statement.TheVariants.{Kind}
use Rattle.joining.specs.Heap.{Heap, end, kind, set_kind}
use Rattle.joining.specs.Interpretation.{Structure}
use Rattle.joining.proofs.Extending.{extends_set_kind}
use Rattle.joining.proofs.Kept.{end_in}
use Rattle.joining.proofs.KindSet.{good_set_kind, set_kind_end, set_kind_here, set_kind_length}
use Rattle.joining.proofs.Sounding.{sound_end, sound_kind, sound_set_kind}
use Rattle.performing.specs.Following.{Follows, InOrder, KeepsSound, NeverTrue, Performed, SoundFor, Step, met_by}
use Rattle.performing.specs.Performing.{State, narrowed, perform, with_heap}
use Rattle.performing.proofs.Places.{follows_heap}

module _ {K : Type 0} (m : Meaning K) (T : Type 0) (s : State K) (o : InOrder m s) (x : ℕ) (k : K) (lx : x < length s.places) where
  abbrev cell : ℕ
  cell = slice_index s.places x

  abbrev e : ℕ
  e = end m.widest s.heap cell

  in_use : e < s.heap.used
  in_use = end_in m.widest s.heap o.good cell (o.placed x lx)

  -- what the variable's thing is, the kind at the end says too
  kinds : (r : Structure K T) (thing value : ℕ → T) → SoundFor m r thing value s → m.under (r.kind_of (value x)) (kind m.widest s.heap e)
  kinds r thing value f = rw (f.values x lx) at (sound_kind m r thing s.heap o.good f.sound cell (o.placed x lx))

  never : m.common (kind m.widest s.heap e) k ≡ None → NeverTrue m T (Kind x k ∷ []) s
  never n r thing value f says = (rw n at (m.common_is (kind m.widest s.heap e) k)) (r.kind_of (value x)) (kinds r thing value f) says.0

  module _ (c : K) (meet : m.common (kind m.widest s.heap e) k ≡ Some c) where
    common : IsCommon m.under (kind m.widest s.heap e) k (Some c)
    common = rw meet at (m.common_is (kind m.widest s.heap e) k)

    abbrev g : Heap K
    g = set_kind m.widest s.heap e c

    follows : Follows m s (with_heap s g)
    follows =
        follows_heap m s o g
        (record {
          good = good_set_kind m.widest s.heap o.good e c in_use;
          features = refl;
          cells = set_kind_length m.widest s.heap o.good e c in_use;
          slots = refl;
          extends = extends_set_kind m s.heap o.good e c in_use common.0;
        })
        refl

    true_of : m.under (kind m.widest g (end m.widest g cell)) k
    true_of = rw (set_kind_end m.widest s.heap o.good e c in_use cell, set_kind_here m.widest s.heap o.good e c in_use) common.1

    keeps : KeepsSound m T (Kind x k ∷ []) s (with_heap s g)
    keeps r thing value f says =
        let one = sound_end m r thing s.heap o.good f.sound cell (o.placed x lx) in
        let under : m.under (r.kind_of (thing e)) c = rw (one, f.values x lx) (common.2 (r.kind_of (value x)) (kinds r thing value f) says.0) in
        (thing, λ j l. refl, record { sound = sound_set_kind m r thing s.heap o.good f.sound e c in_use under; values = f.values })

    performed : Performed m T (Kind x k ∷ []) s (with_heap s g)
    unfolding met_by
    performed = record { follows = follows; count = refl; true_of = (true_of, tt); keeps = keeps }

  narrowed_step : (c : Option K) → m.common (kind m.widest s.heap e) k ≡ c → Step m T (Kind x k) s (narrowed m e c s)
  unfolding narrowed
  narrowed_step None n = never n
  narrowed_step (Some c) n = performed c n

  pub narrowing : Step m T (Kind x k) s (perform m (Kind x k) s)
  unfolding perform
  narrowing = narrowed_step _ refl
