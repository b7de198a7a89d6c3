-- Two orders as one.
use Rattle.std.specs.Prelude.{◌≡◌, ℕ, true, List, ◌∷◌, ◌++◌, Some, None, Option, refl}
use Rattle.std.proofs.Common.{subst, arith, length-append}
use Rattle.std.proofs.ByRecursion.{All-append}
use Rattle.std.proofs.lemmas.Option.{none-some}
use Rattle.orders.specs.declared.pair.Both.{Both}
use Rattle.orders.specs.Meaning.{Meaning, IsCommon}
use Rattle.orders.specs.Texts.{Texts, IsText, text_byte}

-- a common kind of both parts, or none
abbrev pub both : {K L : Type 0} → Option K → Option L → Option (Both K L)
both (Some k) (Some l) = Some (record { first = k; second = l })
both (Some k) None = None
both None (Some l) = None
both None None = None

pub both_is : {K L : Type 0} (under : K → K → Type 0) (below : L → L → Type 0) (a b : K) (c d : L) (o : Option K) (p : Option L) → IsCommon under a b o → IsCommon below c d p → IsCommon (λ (x y : Both K L). under x.first y.first × below x.second y.second) (record { first = a; second = c }) (record { first = b; second = d }) (both o p)
both_is under below a b c d (Some k) (Some l) h g =
    ((h.0, g.0), (h.1, g.1), λ x u v. (h.2 x.first u.0 v.0, g.2 x.second u.1 v.1))
both_is under below a b c d (Some k) None h g = λ x u v. g x.second u.1 v.1
both_is under below a b c d None (Some l) h g = λ x u v. h x.first u.0 v.0
both_is under below a b c d None None h g = λ x u v. h x.first u.0 v.0

-- a pair's kinds are compared part by part
abbrev pub paired : {K L : Type 0} → Meaning K → Meaning L → Meaning (Both K L)
paired m n =
    record {
      under = λ x y. m.under x.first y.first × n.under x.second y.second;
      widest = record { first = m.widest; second = n.widest };
      common = λ x y. both (m.common x.first y.first) (n.common x.second y.second);
      itself = λ x. (m.itself x.first, n.itself x.second);
      widest_is = λ x. (m.widest_is x.first, n.widest_is x.second);
      through = λ x y z u v. (m.through _ _ _ u.0 v.0, n.through _ _ _ u.1 v.1);
      same = λ x y u v i. record { first = m.same _ _ u.0 v.0 i; second = n.same _ _ u.1 v.1 i };
      common_is = λ x y. both_is m.under n.under _ _ _ _ _ _ (m.common_is x.first y.first) (n.common_is x.second y.second);
    }

-- the first text, a solidus and the second text
abbrev pub joined : Option (List ℕ) → Option (List ℕ) → Option (List ℕ)
joined (Some t) (Some u) = Some (t ++ 47 ∷ u)
joined (Some t) None = None
joined None (Some u) = None
joined None None = None

joined_text : (t u : List ℕ) → IsText t → IsText u → IsText (t ++ 47 ∷ u)
joined_text t u h g = (omega (arith, length-append t (47 ∷ u)), All-append (λ b. text_byte b ≡ true) t (47 ∷ u) h.1 (refl, g.1))

pub joined_lawful : (o p : Option (List ℕ)) → ((t : List ℕ) → o ≡ Some t → IsText t) → ((u : List ℕ) → p ≡ Some u → IsText u) → (s : List ℕ) → joined o p ≡ Some s → IsText s
joined_lawful (Some t) (Some u) h g s e =
    let is : t ++ 47 ∷ u ≡ s = cc in subst IsText is (joined_text t u (h t refl) (g u refl))
joined_lawful (Some t) None h g s e = absurd (none-some s e)
joined_lawful None (Some u) h g s e = absurd (none-some s e)
joined_lawful None None h g s e = absurd (none-some s e)

abbrev pub pair_texts : {K L : Type 0} → Texts K → Texts L → Texts (Both K L)
pair_texts m n =
    record {
      text = λ x. joined (m.text x.first) (n.text x.second);
      lawful = λ x. joined_lawful _ _ (m.lawful x.first) (n.lawful x.second);
    }
