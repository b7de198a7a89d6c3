-- From what is still to come after a byte, what is still to come before it.
use Rattle.std.proofs.Common.{◌≡◌, ℕ, suc, eqb, List, [], ◌∷◌, length, Some, None, sym, refl, ap, subst, inl, inr}
use Rattle.std.proofs.lemmas.Bool.{and_from}
use Rattle.std.proofs.lemmas.Option.{none-some}
use Rattle.declarations.specs.Names.{letter, name_byte}
use Rattle.orders.specs.Texts.{text_byte}
use Rattle.grammar.specs.Words.{capital, name_letter, all_by}
use Rattle.grammar.specs.Trees.{none, item, written, Limits, LawfulTree}
use Rattle.grammar.specs.Scanner.{begin, in_name, colon, in_kind, comma, in_feature, equals, closed, State, state, kept_if, closing, step}
use Rattle.grammar.proofs.Remaining.{BeforeTerm, Rest, kept_is, by_cond, first_is, is_at, back_item, back_closing, term_of_text, term_of_name, one_more, one_first, no_more}

pub back : (L : Limits) (s : State) (b : ℕ) (bs : List ℕ) (q : State) → step L s b ≡ Some q → Rest L q bs → Rest L s (b ∷ bs)
unfolding written LawfulTree all_by
back L (state begin d) b bs q e r =
    elim (by_cond (capital b) (kept_if (L.word 1) (state (in_name 1) d)) _ q e) [
      | inl h ↦
          let (one, is) = kept_is (L.word 1) (state (in_name 1) d) q h.1 in
          let (w, cs, a, f, at, end) = subst (λ x. Rest L x bs) (sym is) r one in
          subst (BeforeTerm L d) (ap (λ x. b ∷ x) (sym at)) (term_of_name L d (b ∷ w) cs (and_from _ _ h.0 a) (one_first L (length w) f) end)
      | inr m ↦
          elim (by_cond (text_byte b) (Some (state in_kind d)) None q m.1) [
            | inl h ↦
                let (k, cs, a, at, end) = is_at L (state in_kind d) bs q h.1 r in
                subst (BeforeTerm L d) (ap (λ x. b ∷ x) (sym at)) (term_of_text L d (b ∷ k) cs (and_from _ _ h.0 a) end)
            | inr h ↦ absurd (none-some q h.1)
          ]
    ]
back L (state (in_name n) d) b bs q e r =
    elim (by_cond (name_letter b) (kept_if (L.word (suc n)) (state (in_name (suc n)) d)) _ q e) [
      | inl h ↦
          let (one, is) = kept_is (L.word (suc n)) (state (in_name (suc n)) d) q h.1 in
          let (w, cs, a, f, at, end) = subst (λ x. Rest L x bs) (sym is) r one in
          λ g. (b ∷ w, cs, and_from _ _ h.0 a, one_more L n (length w) f, ap (λ x. b ∷ x) at, end)
      | inr m ↦
          elim (by_cond (eqb b 58) (Some (state colon d)) (closing d b) q m.1) [
            | inl h ↦ λ g. ([], b ∷ bs, refl, no_more L n g, refl, inr (bs, first_is b 58 bs bs h.0 refl, is_at L (state colon d) bs q h.1 r))
            | inr h ↦ λ g. ([], b ∷ bs, refl, no_more L n g, refl, inl (back_closing L d b bs q h.1 r))
          ]
    ]
back L (state colon d) b bs q e r =
    elim (by_cond (text_byte b) (Some (state in_kind d)) None q e) [
      | inl h ↦
          let (k, cs, a, at, end) = is_at L (state in_kind d) bs q h.1 r in
          (b ∷ k, cs, and_from _ _ h.0 a, ap (λ x. b ∷ x) at, end)
      | inr h ↦ absurd (none-some q h.1)
    ]
back L (state in_kind d) b bs q e r =
    elim (by_cond (text_byte b) (Some (state in_kind d)) _ q e) [
      | inl h ↦
          let (k, cs, a, at, end) = is_at L (state in_kind d) bs q h.1 r in
          (b ∷ k, cs, and_from _ _ h.0 a, ap (λ x. b ∷ x) at, end)
      | inr m ↦
          elim (by_cond (eqb b 40) (kept_if (L.open_at (suc d)) (state comma (suc d))) (closing d b) q m.1) [
            | inl h ↦
                let (may, is) = kept_is (L.open_at (suc d)) (state comma (suc d)) q h.1 in
                let (f, t, rest, after, v, w, lt, lr, at, out) = back_item L d bs (subst (λ x. Rest L x bs) (sym is) r) in
                ([], b ∷ bs, refl, refl, (item f t rest, after, (may, v, w, lt, lr), first_is b 40 _ _ h.0 at, out))
            | inr h ↦ ([], b ∷ bs, refl, refl, (none, b ∷ bs, tt, refl, back_closing L d b bs q h.1 r))
          ]
    ]
back L (state comma d) b bs q e r =
    elim (by_cond (letter b) (kept_if (L.word 1) (state (in_feature 1) d)) None q e) [
      | inl h ↦
          let (one, is) = kept_is (L.word 1) (state (in_feature 1) d) q h.1 in
          let (w, cs, a, f, at, term) = subst (λ x. Rest L x bs) (sym is) r one in
          (b ∷ w, cs, and_from _ _ h.0 a, one_first L (length w) f, ap (λ x. b ∷ x) at, term)
      | inr h ↦ absurd (none-some q h.1)
    ]
back L (state (in_feature n) d) b bs q e r =
    elim (by_cond (name_byte b) (kept_if (L.word (suc n)) (state (in_feature (suc n)) d)) _ q e) [
      | inl h ↦
          let (one, is) = kept_is (L.word (suc n)) (state (in_feature (suc n)) d) q h.1 in
          let (w, cs, a, f, at, term) = subst (λ x. Rest L x bs) (sym is) r one in
          λ g. (b ∷ w, cs, and_from _ _ h.0 a, one_more L n (length w) f, ap (λ x. b ∷ x) at, term)
      | inr m ↦
          elim (by_cond (eqb b 61) (Some (state equals d)) None q m.1) [
            | inl h ↦
                let (cs, at, term) = is_at L (state equals d) bs q h.1 r in
                λ g. ([], cs, refl, no_more L n g, first_is b 61 _ _ h.0 at, term)
            | inr h ↦ absurd (none-some q h.1)
          ]
    ]
back L (state equals d) b bs q e r =
    elim (by_cond (eqb b 62) (Some (state begin d)) None q e) [
      | inl h ↦ (bs, first_is b 62 bs bs h.0 refl, is_at L (state begin d) bs q h.1 r)
      | inr h ↦ absurd (none-some q h.1)
    ]
back L (state closed d) b bs q e r = back_closing L d b bs q e r
