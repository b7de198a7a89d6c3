-- A step that binds two ends only adds.
use Rattle.std.proofs.Common.{List, Some, ap, inl, inr, refl, sym, ℕ, ◌<◌, ◌∙◌, ◌∷◌, ◌≡◌, ◌≢◌}
use Rattle.std.proofs.lemmas.Bool.{cases_eq}
use Rattle.orders.specs.Meaning.{Meaning}
use Rattle.joining.specs.Good.{Good}
use Rattle.joining.specs.Heap.{Heap, kind, refers}
use Rattle.joining.specs.Joining.{Carried, Work, bind, carry}
use Rattle.joining.proofs.Enough.{at, start}
use Rattle.joining.proofs.Grows.{GoesOn, Grows, Suits}
use Rattle.joining.proofs.Kept.{Apart, bind_kind, bind_kinds, bind_length, bind_old, good_bind}
use Rattle.joining.proofs.Moved.{Moved, moved}
use Rattle.joining.proofs.Run.{Bound, Met, after_bind}
use Rattle.joining.proofs.Tied.{Labels, label_end, labels_before, labels_two}

module _ {K : Type 0} (m : Meaning K) (room : ℕ) (h : Heap K) (p : ℕ × ℕ) (ps : List (ℕ × ℕ)) (a b : ℕ) (k : K) (z : Bound m room h p ps a b k) where
  abbrev bound : Heap K
  bound = bind m.widest a b k h

  abbrev after : Work K
  after = after_bind m room h ps a b k

  abbrev good : Good m.widest h
  good = z.ready.good

  abbrev x : Met m h p a b (Some k)
  x = z.ends

  abbrev two : Apart m.widest h a b
  two = z.ends.two

  abbrev carried : Carried
  carried = carry room h.features a b h.features (start bound ps)

  moves : Moved m.widest bound room a b two.first_in two.second_in two.apart (start bound ps) z.fits h.features carried
  moves =
      moved m.widest bound room a b two.first_in two.second_in two.apart (start bound ps) z.fits
      (record { good = good_bind m.widest h good a b k two; inside = z.ready.inside.2 })

  old : (i : ℕ) → i ≢ b → refers m.widest bound i ≡ refers m.widest h i
  old = bind_old m.widest h good a b k two

  under_each : m.under k (kind m.widest h a) × m.under k (kind m.widest h b)
  under_each = let u = rw x.meet at (m.common_is (kind m.widest h a) (kind m.widest h b)) in (u.0, u.1)

  kind_bound : kind m.widest bound a ≡ k
  kind_bound = bind_kind m.widest h good a b k two

  module _ (c : ℕ → ℕ) (s : Suits m c after) where
    labels_h : Labels m.widest c h
    labels_h = labels_before m.widest h good c a b k two s.0

    one_label : c a ≡ c b
    one_label = labels_two m.widest h good c a b k two s.0

    pair_tied : c p.0 ≡ c p.1
    pair_tied =
        sym (label_end m.widest h good c labels_h p.0 z.ready.inside.0) ∙ ap c x.first ∙ one_label ∙ sym (ap c x.second)
        ∙ label_end m.widest h good c labels_h p.1 z.ready.inside.1

    labels_all : Suits m c (at h (p ∷ ps))
    labels_all = (labels_h, (pair_tied, moves.tied c s.1))

    goes_first : GoesOn m c h after.heap a
    goes_first = record {
      root = a;
      root_in = two.first_in;
      root_end = old a two.apart ∙ two.first_end;
      label = refl;
      kinds = rw kind_bound under_each.0;
      leads = λ f j lf q. (j, moves.kept a f j lf q, refl);
    }

    goes_second : GoesOn m c h after.heap b
    goes_second = record {
      root = a;
      root_in = two.first_in;
      root_end = old a two.apart ∙ two.first_end;
      label = one_label;
      kinds = rw kind_bound under_each.1;
      leads = λ f j lf q. let (i, e, t) = moves.done f j lf lf q in (i, e, t c s.1);
    }

    goes_other : (i : ℕ) → i < h.used → refers m.widest h i ≡ i → i ≢ a → i ≢ b → GoesOn m c h after.heap i
    goes_other i l e na nb = record {
      root = i;
      root_in = l;
      root_end = old i nb ∙ e;
      label = refl;
      kinds = rw (bind_kinds m.widest h good a b k two i na) (m.itself (kind m.widest h i));
      leads = λ f j lf q. (j, moves.kept i f j lf q, refl);
    }

    goes : (i : ℕ) → i < h.used → refers m.widest h i ≡ i → GoesOn m c h after.heap i
    goes i l e =
        elim (cases_eq i a) [
          | inl q ↦ rw q goes_first
          | inr na ↦ elim (cases_eq i b) [ inl q ↦ rw q goes_second | inr nb ↦ goes_other i l e na nb ]
        ]

  pub grows_bind : Grows m (at h (p ∷ ps)) after
  grows_bind = record {
    used = refl;
    features = refl;
    cells = bind_length m.widest a b k h;
    labels = labels_all;
    goes_on = goes;
  }
