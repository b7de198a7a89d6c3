-- Orders whose texts have no solidus: the text is what stands before the first stop.
use Rattle.std.proofs.Common.{◌≡◌, ℕ, true, false, List, [], ◌∷◌, ◌++◌, length, take, drop, Some, None, Option, sym, refl, ap, ◌∙◌, arith}
use Rattle.std.specs.List.{AllByRecursion}
use Rattle.std.proofs.lemmas.List.{take-append-drop, length-take-le}
use Rattle.std.proofs.lemmas.Bool.{false≢true}
use Rattle.orders.specs.Texts.{Texts, Stops, Stopped, stops, Stands}
use Rattle.orders.proofs.Fronts.{Ends, front_is}

-- r is the one kind whose text this is
abbrev pub ReadsWhole : {K : Type 0} → Texts K → List ℕ → Option K → Type 0
ReadsWhole {K} m t r = (k : K) → (m.text k ≡ Some t → r ≡ Some k) × (r ≡ Some k → m.text k ≡ Some t)

stops-ends : (bs : List ℕ) → Stops bs → Ends (λ b. stops b ≡ true) bs
stops-ends [] h = tt
stops-ends (b ∷ bs) h = h

module _ {K : Type 0} (m : Texts K) (single : (k : K) (t : List ℕ) → m.text k ≡ Some t → AllByRecursion (λ b. stops b ≡ false) t) (bytes : List ℕ) (n : ℕ) (s : Stopped bytes n) where
  -- a text that stands first is what stands before the stop
  text_is : (k : K) (t rest : List ℕ) → m.text k ≡ Some t → Stops rest → bytes ≡ t ++ rest → take n bytes ≡ t
  text_is k t rest e stop whole =
      front_is (λ c. stops c ≡ false) (λ c. stops c ≡ true) (λ c p q. false≢true (sym p ∙ q)) bytes n s.before (stops-ends _ s.after) t rest (single k t e) (stops-ends _ stop) whole

  pub none_back : ReadsWhole m (take n bytes) None → (k : K) (t rest : List ℕ) → m.text k ≡ Some t → Stops rest → bytes ≡ t ++ rest → ◌≡◌ {A = Option (K × ℕ)} None (Some (k, length t))
  none_back r k t rest e stop whole =
      let none : ◌≡◌ {A = Option K} None (Some k) = (r k).0 (e ∙ ap Some (sym (text_is k t rest e stop whole))) in
      let z : ◌≡◌ {A = ℕ} 0 1 = cc in
      absurd (omega arith)

  pub some_back : (kind : K) → ReadsWhole m (take n bytes) (Some kind) → (k : K) (t rest : List ℕ) → m.text k ≡ Some t → Stops rest → bytes ≡ t ++ rest → ◌≡◌ {A = Option (K × ℕ)} (Some (kind, n)) (Some (k, length t))
  some_back kind r k t rest e stop whole =
      let front = text_is k t rest e stop whole in
      let f : Some kind ≡ Some k = (r k).0 (e ∙ ap Some (sym front)) in
      let same : kind ≡ k = cc in
      let count : n ≡ length t = sym (length-take-le n bytes s.within) ∙ ap length front in
      λ i. Some (same i, count i)

  pub some_taken : (kind : K) → ReadsWhole m (take n bytes) (Some kind) → Stands m bytes kind n
  some_taken kind r =
      record {
        front = take n bytes;
        rest = drop n bytes;
        text = (r kind).1 refl;
        stop = s.after;
        whole = sym (take-append-drop n bytes);
        count = sym (length-take-le n bytes s.within);
      }
