-- Setting the kind of a variable that writing pushed is narrowing it.
use Rattle.std.proofs.Common.{◌≡◌, ℕ, ◌<◌, ◌≤◌, true, false, List, length, get_or, Some, sym, refl, ap, ◌∙◌, arith}
use Rattle.std.proofs.lemmas.Bool.{both_ways}
use Rattle.orders.specs.Meaning.{Meaning}
use Rattle.grammar.specs.declared.statement.Statement.TheVariants.{Kind}
use Rattle.grammar.specs.Lawful.{Open, may_come, after}
use Rattle.joining.specs.Heap.{kind, set_kind}
use Rattle.joining.proofs.Writes.{put_kind_refers}
use Rattle.performing.specs.Performing.{State, with_heap, narrowed, perform}
use Rattle.instructions.specs.declared.instruction.Instruction.TheVariants.{SetSort}
use Rattle.instructions.specs.Steps.{place, write}
use Rattle.instructions.proofs.Agreeing.{kind_innermost}
use Rattle.instructions.proofs.Stretches.{Ready, Stretch, common_widest, stretch_end}

module _ {K : Type 0} (m : Meaning K) (ks : List K) (n v base : ℕ) (o : Open) (s : State K) (r : Ready m n o s) (a : Stretch m n v base o s)
    (x j : ℕ) (k : K) (numbered : get_or ks j m.widest ≡ k) (may : may_come n (Kind x k) o ≡ true) (l : v ≤ x) (u : x < o.count) where
  abbrev here : ℕ
  here = place s x

  abbrev pub kind_set : State K
  kind_set = write m ks (SetSort x j) s

  pub kind_performed : perform m (Kind x k) s ≡ Some kind_set
  unfolding perform narrowed
  kind_performed =
      let new = kind_innermost n x k o may in
      ap (λ e. narrowed m e (m.common (kind m.widest s.heap e) k) s) (stretch_end m n v base o s a x l u)
      ∙ ap (λ c. narrowed m here (m.common c k) s) (a.widest x l u new.0 new.1)
      ∙ ap (λ c. narrowed m here c s) (common_widest m k)
      ∙ ap (λ c. Some (with_heap s (set_kind m.widest s.heap here c))) (sym numbered)

  pub kind_stretch : Stretch m n v base (after (Kind x k) o) kind_set
  kind_stretch =
      let within : here < length s.heap.cells = omega (arith, r.in_order.placed x (omega (arith, r.met)), r.in_order.good.room) in
      record {
        used = a.used;
        places = a.places;
        own = λ i b. put_kind_refers m.widest s.heap.cells here _ i within ∙ a.own i b;
        untold = a.untold;
        widest = λ z b c e i. absurd (both_ways false refl e);
      }
