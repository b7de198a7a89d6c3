-- A refusal is known by its row.
use Rattle.std.proofs.Common.{◌≡◌, ℕ, cond, eqb, [], ◌∷◌, get_or, sym, refl, ap, ◌∙◌}
use Rattle.refusals.specs.declared.Refusal.{Refusal}
use Rattle.refusals.specs.declared.Refusal.TheVariants.{Limit, Grammar, Word, Kind, NoWidest, Memory, Cell, Feature, Full, Clash}
use Rattle.refusals.specs.Table.{Row, row}

abbrev refusal : Row → Refusal
refusal r =
    let a = get_or r.values 0 0 in
    cond (eqb r.number 1) (Limit a) (cond (eqb r.number 2) (Grammar a) (cond (eqb r.number 3) (Word a) (cond (eqb r.number 4) (Kind a)
    (cond (eqb r.number 5) (NoWidest a (get_or r.values 1 0)) (cond (eqb r.number 6) Memory (cond (eqb r.number 7) Cell
    (cond (eqb r.number 8) Feature (cond (eqb r.number 9) Full (Clash a)))))))))

row_back : (e : Refusal) → refusal (row e) ≡ e
row_back (Limit p) = refl
row_back (Grammar p) = refl
row_back (Word p) = refl
row_back (Kind p) = refl
row_back (NoWidest p q) = refl
row_back Memory = refl
row_back Cell = refl
row_back Feature = refl
row_back Full = refl
row_back (Clash p) = refl

pub same_row : (e f : Refusal) → row f ≡ row e → f ≡ e
same_row e f h = sym (row_back f) ∙ ap refusal h ∙ row_back e

-- refusals with one number and one place
pub same_refusal : (e f : Refusal) (n p q : ℕ) → row e ≡ record { number = n; values = p ∷ [] } → row f ≡ record { number = n; values = q ∷ [] } → p ≡ q → f ≡ e
same_refusal e f n p q a b s = same_row e f (b ∙ ap (λ x. record { number = n; values = x ∷ [] }) (sym s) ∙ sym a)
