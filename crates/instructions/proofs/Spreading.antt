-- A stretch of writing goes on over a feature that is set.
use Rattle.std.proofs.Common.{◌≡◌, ℕ, suc, ◌+◌, ◌<◌, ◌≤◌, false, ◌⊎◌, List, [], ◌∷◌, ◌++◌, length, None, Option, sym, refl, ap, ◌∙◌, arith, inl, inr, ◌≢◌}
use Rattle.std.specs.Prelude.{slice_index}
use Rattle.std.proofs.lemmas.Bool.{both_ways, cases_eq, eq-eqb, eqb-true, ne_eqb}
use Rattle.std.proofs.lemmas.List.{get_or_append_left, get_or_push}
use Rattle.orders.specs.Meaning.{Meaning}
use Rattle.grammar.specs.declared.statement.Statement.TheVariants.{Feature}
use Rattle.grammar.specs.Lawful.{Open, has, after}
use Rattle.joining.specs.Heap.{slot, slot_in, put_slot, push}
use Rattle.joining.specs.Good.{Good}
use Rattle.joining.proofs.Kept.{end_in}
use Rattle.joining.proofs.Writes.{put_slot_there}
use Rattle.performing.specs.Performing.{State, end_of}
use Rattle.instructions.specs.Steps.{place}
use Rattle.joining.proofs.Pushed.{push_refers, push_kind, push_slot}
use Rattle.instructions.proofs.Stretches.{Ready, Stretch, has_before, has_last}
use Rattle.instructions.proofs.WrittenFeatures.{new_set, old_set}

module _ {K : Type 0} (m : Meaning K) (ks : List K) (n v base : ℕ) (o : Open) (s : State K) (r : Ready m n o s) (a : Stretch m n v base o s)
    (x f y : ℕ) (known : f < n) (u : x < o.count) (apart : (z : ℕ) → v ≤ z → z < o.count → place s z ≡ end_of m s x → z ≡ x) where
  abbrev there : ℕ
  there = end_of m s x

  -- a slot that is not told of is another than the one that is filled
  other_slot : (z g : ℕ) → v ≤ z → z < o.count → has z g ((x, f) ∷ o.features) ≡ false → (place s z ≢ there) ⊎ (g ≢ f)
  other_slot z g l lz e = elim (cases_eq (place s z) there) [ inl q ↦ inr (has_last z g x f o.features e (apart z l lz q)) | inr q ↦ inl q ]

  kept_empty : (slots : List (Option ℕ)) (c z g : ℕ) → v ≤ z → z < o.count → g < n → has z g ((x, f) ∷ o.features) ≡ false →
      slot_in slots s.heap.features (place s z) g ≡ slot s.heap (place s z) g →
      slot_in (put_slot slots s.heap.features there f c) s.heap.features (place s z) g ≡ None
  kept_empty slots c z g l lz lg e same =
      let features = r.features in
      put_slot_there slots s.heap.features there f c (omega arith) (place s z) g (omega arith) (other_slot z g l lz e)
      ∙ same ∙ a.untold z g l lz lg (has_before z g x f o.features e)

  pub old_stretch : y ≢ o.count → Stretch m n v base (after {K = K} (Feature x f y) o) (old_set m s x f y)
  old_stretch old =
      let p = ne_eqb y o.count old in
      record {
        used = rw p a.used;
        places = λ z l lz. a.places z l (rw p at lz);
        own = a.own;
        untold = λ z g l lz lg e. kept_empty s.heap.slots (place s y) z g l (rw p at lz) lg e refl;
        widest = λ z l lz e i. absurd (both_ways _ p e);
      }

  module _ (new : y ≡ o.count) (low : v ≤ o.count) (room : s.heap.used < length s.heap.cells) where
    good : Good m.widest s.heap
    good = r.in_order.good

    abbrev ps : List ℕ
    ps = s.places ++ s.heap.used ∷ []

    -- the variables that were met before, and the new one
    cases : (z : ℕ) → z < suc o.count → ((z < o.count) × (slice_index ps z ≡ place s z)) ⊎ ((z ≡ o.count) × (slice_index ps z ≡ s.heap.used))
    cases z l =
        let met = r.met in
        elim (cases_eq z o.count) [
          | inl e ↦ inr (e, get_or_push s.places s.heap.used 0 z (met ∙ sym e))
          | inr ne ↦ inl (omega arith, get_or_append_left s.places (s.heap.used ∷ []) 0 z (omega arith))
        ]

    new_empty : (z g : ℕ) → v ≤ z → z < suc o.count → g < n → has z g ((x, f) ∷ o.features) ≡ false → slot (new_set m s x f).heap (slice_index ps z) g ≡ None
    new_empty z g l lz lg e =
        let met = r.met in
        let features = r.features in
        let slots = (push m.widest s.heap).slots in
        let below : there < s.heap.used = end_in m.widest s.heap good (place s x) (r.in_order.placed x (omega arith)) in
        elim (cases z lz) [
          | inl (b, q) ↦ rw q (kept_empty slots s.heap.used z g l b lg e (push_slot m.widest s.heap good room (place s z) g (omega arith)))
          | inr (b, q) ↦
              rw q
              (put_slot_there slots s.heap.features there f s.heap.used (omega arith) s.heap.used g (omega arith) (inl (λ e. omega arith))
              ∙ push_slot m.widest s.heap good room s.heap.used g (omega arith) ∙ good.fresh_slot s.heap.used g (omega arith) (omega arith))
        ]

    new_place : (z : ℕ) → v ≤ z → z < suc o.count → slice_index ps z + v ≡ base + z
    new_place z l lz = elim (cases z lz) [ inl (b, q) ↦ rw q (a.places z l b) | inr (b, q) ↦ rw q (a.used ∙ ap (λ c. base + c) (sym b)) ]

    pub new_stretch : Stretch m n v base (after {K = K} (Feature x f y) o) (new_set m s x f)
    new_stretch =
        let p = eq-eqb y o.count new in
        record {
          used = rw p (omega (arith, a.used));
          places = λ z l lz. new_place z l (rw p at lz);
          own = λ i b. push_refers m.widest s.heap good room i ∙ a.own i b;
          untold = λ z g l lz lg e. new_empty z g l (rw p at lz) lg e;
          widest = λ z l lz e i.
              let is : z ≡ y = eqb-true z y (rw p at i) in
              let at : slice_index ps z ≡ s.heap.used = get_or_push s.places s.heap.used 0 z (r.met ∙ sym new ∙ sym is) in
              rw at (push_kind m.widest s.heap good room s.heap.used ∙ good.fresh_kind s.heap.used (omega arith));
        }
