-- The turns and the room that a join has are enough: with more of them the outcome is the same.
use Rattle.std.proofs.Common.{List, None, Option, Some, [], ap, arith, inl, inr, length, refl, suc, suc-add, zero, zero-add, ℕ, ◌+◌, ◌<◌, ◌==◌, ◌∙◌, ◌∷◌, ◌≡◌, ◌≤◌}
use Rattle.std.proofs.lemmas.Bool.{cases_Bool}
use Rattle.orders.specs.Meaning.{Meaning}
use Rattle.joining.specs.Heap.{Heap, end}
use Rattle.joining.specs.Joining.{Carried, Work, bind, carry, carry_one, join_all, join_ends, join_pair, work}
use Rattle.joining.proofs.Carry.{add_pair_fits}
use Rattle.joining.proofs.Enough.{Enough, at, bind_fits, bind_ready, none_pending, start}
use Rattle.joining.proofs.Ready.{Ready, carries_with}
use Rattle.joining.proofs.Run.{After, Met, after_pair, met_ends}

-- the features are carried as with more room
carry_same : {K : Type 0} (room more : ℕ) (top : K) (h : Heap K) (a b : ℕ) → a < h.used → b < h.used → (w : Carried)
    → h.features + length w.pending ≤ room
    → Ready top (work h w) → carry (room + more) h.features a b h.features w ≡ carry room h.features a b h.features w
unfolding carry carry_one
carry_same room more top h a b la lb w fits r =
    (carries_with top h room a b la lb w fits (λ n v. carry (room + more) h.features a b n w ≡ v)
    (λ f v l c q y. rw (q, y) refl)
    (λ f j v l c q x y. rw (q, x, y) refl)
    (λ f i j v l c q x y. rw (q, x, y, add_pair_fits (room + more) (i, j) v.pending (omega (arith, c.few))) refl)
    r refl).1

module _ {K : Type 0} (m : Meaning K) (room more : ℕ) where
  none_left : (n longer : ℕ) (h : Heap K) → join_all m (room + more) (n + longer) [] h ≡ join_all m room n [] h
  unfolding join_all
  none_left zero zero h = refl
  none_left zero (suc longer) h = rw zero-add refl
  none_left (suc n) longer h = rw suc-add refl

  abbrev Any : Work K → Type 0
  Any w = Unit {0}

  module _ (n : ℕ) (turns : suc n ≤ room) (h : Heap K) (p : ℕ × ℕ) (ps : List (ℕ × ℕ)) (r : Ready m.widest (at h (p ∷ ps)))
      (e : Enough m.widest (suc n) (at h (p ∷ ps))) where
    ends_same : (a b : ℕ) (o : Option K) → Met m h p a b o → join_ends m (room + more) a b o (at h ps) ≡ join_ends m room a b o (at h ps)
    unfolding join_ends
    ends_same a b None x = refl
    ends_same a b (Some k) x =
        ap (λ v. Some (work (bind m.widest a b k h) v))
        (carry_same room more m.widest (bind m.widest a b k h) a b x.two.first_in x.two.second_in (start (bind m.widest a b k h) ps)
        (bind_fits m.widest n h p ps room turns r a b k x.two e)
        (bind_ready m.widest n h p ps room turns r a b k x.two))

    pair_same : join_pair m (room + more) p (at h ps) ≡ join_pair m room p (at h ps)
    unfolding join_pair
    pair_same =
        elim (cases_Bool (end m.widest h p.0 == end m.widest h p.1)) [
          | inl t ↦ rw t refl
          | inr f ↦ rw f (ends_same _ _ _ (met_ends m h p ps r f))
        ]

    after : After m room Any n (join_pair m room p (at h ps))
    after = after_pair m room Any (λ h p ps r q e. tt) (λ h p ps a b k z q. tt) n turns h p ps r tt e

  -- the rest of a join with more turns and more room
  abbrev elsewhere : ℕ → ℕ → Option (Work K) → Option (Heap K)
  elsewhere n longer s = elim s [ Some w ↦ join_all m (room + more) (n + longer) w.pending w.heap | None ↦ None ]

  pub settles : (n longer : ℕ) (ps : List (ℕ × ℕ)) (h : Heap K) → n ≤ room → Ready m.widest (at h ps) → Enough m.widest n (at h ps)
      → join_all m (room + more) (n + longer) ps h ≡ join_all m room n ps h
  unfolding join_all
  settles zero longer [] h l r e = none_left zero longer h
  settles zero longer (p ∷ ps) h l r e = absurd (none_pending m.widest h p ps r.good e)
  settles (suc n) longer [] h l r e = none_left (suc n) longer h
  settles (suc n) longer (p ∷ ps) h l r e =
      rw suc-add
      (ap (elsewhere n longer) (pair_same n l h p ps r e)
      ∙ (elim (join_pair m room p (at h ps)) as (λ s. After m room Any n s → elsewhere n longer s ≡ (elim s [ Some w ↦ join_all m room n w.pending w.heap | None ↦ None ]))
      [ Some w ↦ λ x. settles n longer w.pending w.heap (omega arith) x.0 x.2 | None ↦ λ x. refl ])
      (after n l h p ps r e))
