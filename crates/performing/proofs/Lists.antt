-- Performing a list of statements: what one statement does, as often as there are statements.
use Rattle.std.proofs.Common.{◌≡◌, ℕ, suc, ◌+◌, ◌<◌, ◌≤◌, List, [], ◌∷◌, length, Some, None, Ok, Err, Option, Result, take, refl, sym, ap, ◌∙◌, subst, arith, slice_index, inl, inr}
use Rattle.std.proofs.lemmas.Bool.{cases_lt}
use Rattle.orders.specs.Meaning.{Meaning}
use Rattle.grammar.specs.declared.statement.Statement.{Statement}
use Rattle.grammar.specs.declared.statement.Statement.TheVariants.{Kind, Feature}
use Rattle.joining.specs.Heap.{end}
use Rattle.joining.specs.Interpretation.{Structure}
use Rattle.performing.specs.Performing.{State, end_of, perform, perform_from}
use Rattle.performing.specs.Structures.{structure_of, Says}
use Rattle.performing.specs.Following.{Fits, AllFit, met_after, met_by, InOrder, Follows, NeverTrue, Performed, Step, StepLaw}
use Rattle.joining.proofs.Extending.{extends_on}
use Rattle.performing.proofs.Onward.{still_says, Within}
use Rattle.performing.proofs.Variables.{fits_within, met_most}

-- what is performed of a list where n statements came before: all of it, or the first k, after which the next is true nowhere
abbrev pub AllPerformed : {K : Type 0} → Meaning K → (T : Type 0) → ℕ → List (Statement K) → State K → Result (State K) ℕ → Type 0
AllPerformed m T n ts s (Ok u) = Performed m T ts s u
AllPerformed {K} m T n ts s (Err c) =
    (k : ℕ) × (c ≡ suc (n + k)) × (k < length ts) × (u : State K) × Performed m T (take k ts) s u × NeverTrue m T (take (suc k) ts) s

module _ {K : Type 0} (m : Meaning K) where
  pub follows_none : (s : State K) → InOrder m s → Follows m s s
  follows_none s o =
      record {
        in_order = o;
        used = omega arith;
        features = refl;
        cells = refl;
        slots = refl;
        met = omega arith;
        room = omega arith;
        places = λ x l. refl;
        pushed = λ j a b. absurd (omega (arith, a, b));
        extends = record { ends = λ x y a b q. q; kinds = λ x l. m.itself _; leads = λ x f j l g q. (j, q, refl) };
      }

  pub follows_then : (s u w : State K) → InOrder m s → Follows m s u → Follows m u w → Follows m s w
  follows_then s u w o a b =
      record {
        in_order = b.in_order;
        used = omega (arith, a.used, b.used);
        features = b.features ∙ a.features;
        cells = b.cells ∙ a.cells;
        slots = b.slots ∙ a.slots;
        met = omega (arith, a.met, b.met);
        room = omega (arith, a.room, b.room);
        places = λ x l. b.places x (omega (arith, a.met, l)) ∙ a.places x l;
        pushed = pushed_by;
        extends = extends_on m s.heap u.heap w.heap o.good a.in_order.good a.used a.features a.extends b.extends;
      }
    where
      early : (j : ℕ) → s.heap.used ≤ j → j < u.heap.used → (x : ℕ) × (length s.places ≤ x) × (x < length w.places) × (slice_index w.places x ≡ j)
      early j l g =
          let (x, p, q, e) = a.pushed j l g in
          (x, p, omega (arith, q, b.met), b.places x q ∙ e)

      late : (j : ℕ) → u.heap.used ≤ j → j < w.heap.used → (x : ℕ) × (length s.places ≤ x) × (x < length w.places) × (slice_index w.places x ≡ j)
      late j l g =
          let (x, p, q, e) = b.pushed j l g in
          (x, omega (arith, p, a.met), q, e)

      pushed_by : (j : ℕ) → s.heap.used ≤ j → j < w.heap.used → (x : ℕ) × (length s.places ≤ x) × (x < length w.places) × (slice_index w.places x ≡ j)
      pushed_by j l g = elim (cases_lt j u.heap.used) [ inl h ↦ early j l h | inr h ↦ late j h g ]

  -- what a statement says of things depends on the things of its variables only
  pub says_same : {T : Type 0} (r : Structure K T) (v w : ℕ → T) (p : ℕ) → ((x : ℕ) → x < p → v x ≡ w x) → (t : Statement K) → Within p t → Says m r v t → Says m r w t
  says_same r v w p same (Kind x k) b q = subst (λ z. m.under (r.kind_of z) k) (same x b) q
  says_same r v w p same (Feature x f y) b q = ap (r.feature f) (sym (same x b.0)) ∙ q ∙ ap Some (same y b.1)

  pub follows_says : (u w : State K) → InOrder m u → Follows m u w → (t : Statement K) → Within (length u.places) t
      → Says m (structure_of m u.heap) (end_of m u) t → Says m (structure_of m w.heap) (end_of m w) t
  follows_says u w o f t b q =
      says_same (structure_of m w.heap) (λ x. end m.widest w.heap (slice_index u.places x)) (end_of m w) (length u.places)
      (λ x l. ap (end m.widest w.heap) (sym (f.places x l))) t b
      (still_says m u.heap w.heap o.good f.used f.features f.extends (slice_index u.places) (length u.places) o.placed t b q)

  module _ (T : Type 0) where
    pub performed_none : (s : State K) → InOrder m s → Performed m T [] s s
    unfolding met_by
    performed_none s o = record { follows = follows_none s o; count = refl; true_of = tt; keeps = λ r thing value h q. (thing, λ j l. refl, h) }

    pub performed_then : (t : Statement K) (ts : List (Statement K)) (s u w : State K) → InOrder m s → Fits s.heap.features (length s.places) t
        → Performed m T (t ∷ []) s u → Performed m T ts u w → Performed m T (t ∷ ts) s w
    unfolding met_by
    performed_then t ts s u w o f a b =
        record {
          follows = follows_then s u w o a.follows b.follows;
          count = b.count ∙ ap (λ p. met_by p ts) a.count;
          true_of = (follows_says u w a.follows.in_order b.follows t (subst (λ p. Within p t) (sym a.count) (fits_within _ _ t f)) a.true_of.0, b.true_of);
          keeps = λ r thing value h q.
              let (new, same, g) = a.keeps r thing value h (q.0, tt) in
              let (last, agree, k) = b.keeps r new value g q.1 in
              (last, λ j l. agree j (omega (arith, a.follows.used, l)) ∙ same j l, k);
        }

    never_then : (t : Statement K) (ts : List (Statement K)) (s u : State K) → Performed m T (t ∷ []) s u → NeverTrue m T ts u → NeverTrue m T (t ∷ ts) s
    never_then t ts s u a b r thing value h q =
        let (new, same, g) = a.keeps r thing value h (q.0, tt) in b r new value g q.1

    never_one : (t : Statement K) (ts : List (Statement K)) (s : State K) → NeverTrue m T (t ∷ []) s → NeverTrue m T (t ∷ ts) s
    never_one t ts s a r thing value h q = a r thing value h (q.0, tt)

    module _ (law : StepLaw m T) where
      -- all statements, by what is so of one
      pub performs : (n : ℕ) (ts : List (Statement K)) (s : State K) → InOrder m s → AllFit s.heap.features (length s.places) ts
          → s.heap.used + met_by (length s.places) ts ≤ length s.heap.cells + length s.places → AllPerformed m T n ts s (perform_from m n ts s)
      unfolding perform_from AllFit met_by
      performs n [] s o f l = performed_none s o
      performs n (t ∷ ts) s o f l =
          go (perform m t s) (law t s o f.0 (omega (arith, l, met_most (met_after (length s.places) t) ts)))
          (λ u p.
          performs (suc n) ts u p.follows.in_order (rw (p.follows.features, p.count) f.1)
          (omega (arith, l, p.follows.room, p.follows.cells, ap (λ c. met_by c ts) p.count, p.count)))
        where
          after : (u : State K) → Performed m T (t ∷ []) s u → (r : Result (State K) ℕ) → AllPerformed m T (suc n) ts u r → AllPerformed m T n (t ∷ ts) s r
          after u p (Ok w) q = performed_then t ts s u w o f.0 p q
          after u p (Err c) (k, e, b, w, q, never) =
              (suc k, omega (arith, e), omega (arith, b), w, performed_then t (take k ts) s u w o f.0 p q, never_then t (take (suc k) ts) s u p never)

          go : (v : Option (State K)) → Step m T t s v → ((u : State K) → Performed m T (t ∷ []) s u → AllPerformed m T (suc n) ts u (perform_from m (suc n) ts u))
              → AllPerformed m T n (t ∷ ts) s (elim v [ Some u ↦ perform_from m (suc n) ts u | None ↦ Err (suc n) ])
          go (Some u) p rest = after u p (perform_from m (suc n) ts u) (rest u p)
          go None never rest = (0, omega arith, omega arith, s, performed_none s o, never_one t [] s never)
