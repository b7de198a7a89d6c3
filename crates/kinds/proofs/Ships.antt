-- The shipped lines are accepted one after the other, and close.
use Rattle.std.proofs.Common.{◌≡◌, ℕ, zero, suc, ◌+◌, ◌<◌, true, List, [], ◌∷◌, ◌++◌, get_or, take, Ok, Err, codes, Result, sym, refl, ap, ◌∙◌, subst, arith}
use lib.Count.{count_trailing_zeros}
use Rattle.std.proofs.lemmas.List.{take_more}
use Rattle.refusals.specs.declared.Refusal.{Refusal}
use Rattle.declarations.specs.Names.{all_name, listed}
use Rattle.declarations.specs.Declarations.{Declaration, stray, all_below, follow_on, sound}
use Rattle.declarations.specs.Lines.{tail, Accepts, Declares}
use Rattle.declarations.specs.Rows.{rows_of, add_rows, mask_of, meets_all, closed_to, closed}
use Rattle.declarations.proofs.Determined.{all-names, all_listed, accepts_is, accepted}
use Rattle.declarations.proofs.Grown.{rows_right}
use Rattle.declarations.proofs.Ordered.{common_holds, common_not}
use Rattle.kinds.specs.declared.list.List as closed_list
use Rattle.kinds.specs.Lists.{listing, Closes}
use Rattle.kinds.specs.Shipped.{shipped, shipped_lines}

-- each line declares the next kind
line_accepted : (i : ℕ) → i < 9 → Accepts 64 (take (i + 1) shipped) (get_or shipped_lines i []) (get_or shipped (i + 1) stray)
unfolding tail listed all_name all-names all_listed
line_accepted zero l = accepts_is 64 _ (codes "credit") (codes "any" ∷ []) refl
line_accepted (suc zero) l = accepts_is 64 _ (codes "debit") (codes "any" ∷ []) refl
line_accepted (suc (suc zero)) l = accepts_is 64 _ (codes "by_dd") (codes "any" ∷ []) refl
line_accepted (suc (suc (suc zero))) l = accepts_is 64 _ (codes "receipt") (codes "credit" ∷ []) refl
line_accepted (suc (suc (suc (suc zero)))) l = accepts_is 64 _ (codes "rent") (codes "receipt" ∷ []) refl
line_accepted (suc (suc (suc (suc (suc zero))))) l = accepts_is 64 _ (codes "returned") (codes "debit" ∷ []) refl
line_accepted (suc (suc (suc (suc (suc (suc zero)))))) l = accepts_is 64 _ (codes "returned_dd") (codes "returned" ∷ codes "by_dd" ∷ []) refl
line_accepted (suc (suc (suc (suc (suc (suc (suc zero))))))) l = accepts_is 64 _ (codes "rent_dd") (codes "rent" ∷ codes "by_dd" ∷ []) refl
line_accepted (suc (suc (suc (suc (suc (suc (suc (suc zero)))))))) l = accepts_is 64 _ (codes "fee") (codes "debit" ∷ []) refl
line_accepted (suc (suc (suc (suc (suc (suc (suc (suc (suc i))))))))) l = absurd (omega arith)

module _ (i : ℕ) (l : i < 9) (ds : List Declaration) (line : List ℕ) (is : ds ≡ take (i + 1) shipped) (lines : line ≡ get_or shipped_lines i []) where
  accepts_here : Accepts 64 ds line (get_or shipped (i + 1) stray)
  accepts_here = subst (λ x. Accepts 64 ds x (get_or shipped (i + 1) stray)) (sym lines) (subst (λ x. Accepts 64 x (get_or shipped_lines i []) (get_or shipped (i + 1) stray)) (sym is) (line_accepted i l))

  pub declared : (after : List Declaration) (r : Result ℕ Refusal) → Declares 64 ds line after r → after ≡ take (i + 1 + 1) shipped
  declared after r h =
      (accepted 64 ds line (get_or shipped (i + 1) stray) accepts_here after r h).1
      ∙ ap (λ x. x ++ get_or shipped (i + 1) stray ∷ []) is ∙ sym (take_more shipped (i + 1) stray (omega arith))

  pub not_err : (after : List Declaration) (r : Result ℕ Refusal) (e : Refusal) → Declares 64 ds line after r → r ≡ Err e → ⊥
  not_err after r e h err =
      let ok = (accepted 64 ds line (get_or shipped (i + 1) stray) accepts_here after r h).0 in
      let z : ◌≡◌ {A = ℕ} 0 1 = cc in
      omega arith

shipped-sound : sound shipped ≡ true
unfolding follow_on all_below all_name listed
shipped-sound = refl

shipped-closed : closed 64 (rows_of shipped) ≡ true
unfolding add_rows mask_of meets_all closed_to count_trailing_zeros
shipped-closed = refl

-- the shipped kinds close
pub closes : (before after : closed_list.List) (r : Result (Unit {0}) Refusal) → Closes shipped before after r → (r ≡ Ok tt) × (listing after ≡ shipped)
closes before after (Ok u) h = (refl, h.0)
closes before after (Err e) h =
    let (a, b, f, is) = h.0 in
    absurd (common_not shipped a b _ (common_holds 64 shipped (rows_of shipped) shipped-sound (rows_right shipped shipped-sound) (omega arith) shipped-closed a b) f.apart)
