-- Joining says only what is true: of a structure where the two are one thing, all that is said stays true, and kinds do not clash.
use Rattle.std.proofs.Common.{List, None, Option, Some, ap, inl, inr, length, sym, ℕ, ◌+◌, ◌<◌, ◌∙◌, ◌∷◌, ◌≡◌, ◌≢◌, ◌≤◌, ◌⊎◌}
use Rattle.std.proofs.lemmas.Bool.{cases_eq}
use Rattle.orders.specs.Meaning.{Meaning}
use Rattle.joining.specs.Good.{Good}
use Rattle.joining.specs.Heap.{Heap, fill, kind, slot, slot_in}
use Rattle.joining.specs.Interpretation.{Sound, Structure}
use Rattle.joining.specs.Joining.{Carried, Work, bind, carry, work}
use Rattle.joining.proofs.Enough.{at, start}
use Rattle.joining.proofs.Kept.{Apart, bind_kind, bind_kinds, fill_here, fill_there, good_bind}
use Rattle.joining.proofs.Ready.{Carries, Ready, carries_with}
use Rattle.joining.proofs.Run.{Bound, Clashes, Met, after_bind}
use Rattle.joining.proofs.Tied.{Tied, label_end, labels_after}

module _ {K T : Type 0} (m : Meaning K) (s : Structure K T) (thing : ℕ → T) where
  -- a heap and its pending pairs say only what is true
  pub record Truth (w : Work K) : Type 0 where
    pub sound : Sound m s thing w.heap
    pub tied : Tied thing w.pending

  -- the things at the ends of a pair are one
  one_thing : (h : Heap K) (p : ℕ × ℕ) (ps : List (ℕ × ℕ)) (a b : ℕ) (o : Option K) → Ready m.widest (at h (p ∷ ps)) → Truth (at h (p ∷ ps))
      → Met m h p a b o → thing a ≡ thing b
  one_thing h p ps a b o r t x =
      ap thing (sym x.first) ∙ label_end m.widest h r.good thing t.sound.one p.0 r.inside.0 ∙ t.tied.0
      ∙ sym (label_end m.widest h r.good thing t.sound.one p.1 r.inside.1) ∙ ap thing x.second

  pub truth_same : (h : Heap K) (p : ℕ × ℕ) (ps : List (ℕ × ℕ)) → Truth (at h (p ∷ ps)) → Truth (at h ps)
  truth_same h p ps t = record { sound = t.sound; tied = t.tied.1 }

  module _ (h : Heap K) (g : Good m.widest h) (t : Sound m s thing h) (a b : ℕ) (x : Apart m.widest h a b) (e : thing a ≡ thing b) where
    -- what stands at a is of a kind under both
    under_both : m.under (s.kind_of (thing a)) (kind m.widest h b)
    under_both = rw e (t.kinds b x.second_in)

    no_clash : m.common (kind m.widest h a) (kind m.widest h b) ≡ None → ⊥
    no_clash n = (rw n at (m.common_is (kind m.widest h a) (kind m.widest h b))) (s.kind_of (thing a)) (t.kinds a x.first_in) under_both

    module _ (k : K) (meet : m.common (kind m.widest h a) (kind m.widest h b) ≡ Some k) where
      under_common : m.under (s.kind_of (thing a)) k
      under_common = (rw meet at (m.common_is (kind m.widest h a) (kind m.widest h b))).2 (s.kind_of (thing a)) (t.kinds a x.first_in) under_both

      sound_bind : Sound m s thing (bind m.widest a b k h)
      sound_bind = record {
        one = labels_after m.widest h g thing a b k x e t.one;
        kinds = λ i l.
            elim (cases_eq i a) [
              | inl q ↦ rw (q, bind_kind m.widest h g a b k x) under_common
              | inr n ↦ rw (bind_kinds m.widest h g a b k x i n) (t.kinds i l)
            ];
        leads = t.leads;
      }

  -- a slot is filled with what the feature leads to
  module _ (h : Heap K) (g : Good m.widest h) (t : Sound m s thing h) (a f j : ℕ) (la : a < h.used) (lf : f < h.features)
      (y : s.feature f (thing a) ≡ Some (thing j)) where
    leads_fill : (i n k : ℕ) → i < h.used → n < h.features → slot (fill h a f j) i n ≡ Some k → s.feature n (thing i) ≡ Some (thing k)
    leads_fill i n k l ln q =
        let keeps : (i ≢ a) ⊎ (n ≢ f) → s.feature n (thing i) ≡ Some (thing k) = λ ne. t.leads i n k l ln (sym (fill_there m.widest h g a f j la lf i n ln ne) ∙ q) in
        let here : i ≡ a → n ≡ f → s.feature n (thing i) ≡ Some (thing k) = λ u v. let x : j ≡ k = cc (fill_here m.widest h g a f j la lf) in rw (u, v, ← x) y in
        elim (cases_eq i a) [ inl u ↦ elim (cases_eq n f) [ inl v ↦ here u v | inr v ↦ keeps (inr v) ] | inr u ↦ keeps (inl u) ]

    pub sound_fill : Sound m s thing (fill h a f j)
    sound_fill = record { one = t.one; kinds = t.kinds; leads = leads_fill }

  module _ (room : ℕ) (h : Heap K) (a b : ℕ) (la : a < h.used) (lb : b < h.used) (e : thing a ≡ thing b) (w : Carried)
      (fits : h.features + length w.pending ≤ room) where
    -- what a slot of b has is what the feature of a leads to
    leads_too : (f j n : ℕ) (v : Carried) → f < h.features → Carries m.widest h w n v → Truth (work h v) → slot_in v.slots h.features b f ≡ Some j
        → s.feature f (thing a) ≡ Some (thing j)
    leads_too f j n v l c t y = rw e (t.sound.leads b f j lb l y)

    truth_carry : Ready m.widest (work h w) → Truth (work h w) → Truth (work h (carry room h.features a b h.features w))
    truth_carry r t =
        (carries_with m.widest h room a b la lb w fits (λ n v. Truth (work h v))
        (λ f v l c q y. q)
        (λ f j v l c q x y. record { sound = sound_fill (work h v).heap c.ready.good q.sound a f j la l (leads_too f j f v l c q y); tied = q.tied })
        (λ f i j v l c q x y. let mine = q.sound.leads a f i la l x in let other = leads_too f j f v l c q y in record { sound = q.sound; tied = (cc, q.tied) })
        r t).1

  pub truth_bind : (room : ℕ) (h : Heap K) (p : ℕ × ℕ) (ps : List (ℕ × ℕ)) (a b : ℕ) (k : K) → Bound m room h p ps a b k → Truth (at h (p ∷ ps))
      → Truth (after_bind m room h ps a b k)
  truth_bind room h p ps a b k z t =
      let x = z.ends in
      let r = z.ready in
      let e = one_thing h p ps a b (Some k) r t x in
      truth_carry room (bind m.widest a b k h) a b x.two.first_in x.two.second_in e (start (bind m.widest a b k h) ps) z.fits
      (record { good = good_bind m.widest h r.good a b k x.two; inside = r.inside.2 })
      (record { sound = sound_bind h r.good t.sound a b x.two e k x.meet; tied = t.tied.1 })

  pub truth_clash : (room : ℕ) → Clashes m room Truth → ⊥
  truth_clash room c =
      let one = one_thing c.heap c.pair c.rest c.first c.second None c.ready c.kept c.ends in
      no_clash c.heap c.ready.good c.kept.sound c.first c.second c.ends.two one c.ends.meet
