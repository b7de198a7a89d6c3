-- What stands open after a feature statement.
use Rattle.std.proofs.Common.{◌≡◌, ℕ, suc, ◌<◌, ◌≤◌, true, List, ◌∷◌, length, sym, refl, ap, ◌∙◌, inl, inr, arith}
use Rattle.std.proofs.lemmas.Bool.{cases_eq, cond-true, cond-false, eq-eqb, ne_eqb}
use Rattle.declarations.specs.Declarations.{among}
use Rattle.grammar.specs.declared.statement.Statement.TheVariants.{Feature}
use Rattle.grammar.specs.Lawful.{Open, path_to, innermost, has, after}
use Rattle.grammar.proofs.Saying.{NewOrOld}
use Rattle.grammar.proofs.Opens.{Falling, falling_among, falling_to, among-to, to-to, to_other, among-behind, has_cases}

-- the open path falls from the count, and features are told of variables that are met
pub record Well (o : Open) : Type 0 where
  pub falls : Falling o.count o.path
  pub known : (y g : ℕ) → has y g o.features ≡ true → y < o.count

-- a variable that is met just now
pub record Fresh (y : ℕ) (o : Open) : Type 0 where
  pub fresh : o.fresh ≡ true
  pub inner : innermost y o.path ≡ true
  pub unsaid : (g : ℕ) → has y g o.features ≡ true → ⊥

-- after a feature statement of x that may come
module _ (o : Open) (x f y : ℕ) (w : Well o) (on : among x o.path ≡ true) where
  abbrev pub next : Open
  next = after {K = List ℕ} (Feature x f y) o

  pub below : x < o.count
  below = falling_among x o.count o.path w.falls on

  count_new : y ≡ o.count → next.count ≡ suc o.count
  count_new e = cond-true _ (suc o.count) o.count (eq-eqb y o.count e)

  path_new : y ≡ o.count → next.path ≡ y ∷ path_to x o.path
  path_new e = cond-true _ (y ∷ path_to x o.path) (path_to x o.path) (eq-eqb y o.count e)

  count_old : (y ≡ o.count → ⊥) → next.count ≡ o.count
  count_old ne = cond-false _ (suc o.count) o.count (ne_eqb y o.count ne)

  path_old : (y ≡ o.count → ⊥) → next.path ≡ path_to x o.path
  path_old ne = cond-false _ (y ∷ path_to x o.path) (path_to x o.path) (ne_eqb y o.count ne)

  next_falls : Falling next.count next.path
  next_falls =
      elim (cases_eq y o.count) [
        | inl e ↦
            let r = falling_to x o.count o.path w.falls in
            rw (count_new e, path_new e) (omega arith, rw e r)
        | inr ne ↦ rw (count_old ne, path_old ne) (falling_to x o.count o.path w.falls)
      ]

  count-more : o.count ≤ next.count
  count-more =
      elim (cases_eq y o.count) [
        | inl e ↦ omega (arith, count_new e)
        | inr ne ↦ omega (arith, count_old ne)
      ]

  pub next_well : Well next
  next_well = record {
    falls = next_falls;
    known = λ z g h. elim (has_cases z g x f o.features h) [
      | inl e ↦ omega (arith, e.0, below, count-more)
      | inr r ↦ omega (arith, w.known z g r, count-more)
    ];
  }

  pub next_among : among x next.path ≡ true
  next_among =
      let r : among x (path_to x o.path) ≡ true = among-to x o.path ∙ on in
      elim (cases_eq y o.count) [
        | inl e ↦ rw (path_new e) (among-behind x y _ r)
        | inr ne ↦ rw (path_old ne) r
      ]

  pub next_path : (z : ℕ) → z ≤ x → path_to z next.path ≡ path_to z o.path
  next_path z l =
      let r = to-to z x o.count o.path l w.falls on in
      elim (cases_eq y o.count) [
        | inl e ↦ ap (path_to z) (path_new e) ∙ to_other z y _ (λ s. omega (arith, below)) ∙ r
        | inr ne ↦ ap (path_to z) (path_old ne) ∙ r
      ]

  pub next_fresh : y ≡ o.count → Fresh y next
  next_fresh e = record {
    fresh = eq-eqb y o.count e;
    inner = rw (path_new e) (eq-eqb y y refl);
    unsaid = λ g h. elim (has_cases y g x f o.features h) [
      | inl s ↦ omega (arith, s.0, below)
      | inr r ↦ omega (arith, w.known y g r)
    ];
  }

  -- the count goes on as the names do
  pub next_count : (ns ms : List (List ℕ)) → o.count ≡ length ns → NewOrOld y ns ms → next.count ≡ length ms
  next_count ns ms e c =
      elim c.cases [
        | inl h ↦ omega (arith, count_new (h.0 ∙ sym e), h.1)
        | inr h ↦ count_old (λ s. omega (arith, h.0)) ∙ e ∙ ap length (sym h.1)
      ]
