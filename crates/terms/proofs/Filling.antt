-- Statements that are put into memory one by one, with their kinds and the depths of their variables.
use Rattle.std.proofs.Common.{◌≡◌, ℕ, suc, ◌+◌, ◌≤◌, Bool, true, false, cond, eqb, List, [], ◌∷◌, ◌++◌, length, get_or, sym, ap, ◌∙◌, inl, inr, add-one, arith}
use Rattle.std.proofs.lemmas.List.{get_or_append_left, get_or_past, get_or_push, map_push, length_push}
use Rattle.std.proofs.lemmas.Bool.{cases_lt, cond-true, cond-false, eq-eqb, ne_eqb}
use Rattle.grammar.specs.declared.statement.Statement.{Statement}
use Rattle.grammar.specs.declared.statement.Statement.TheVariants.{Kind, Feature}
use Rattle.grammar.specs.declared.statement.Said.{Said}
use Rattle.grammar.specs.Lawful.{depths_from, depths, statements}
use Rattle.grammar.proofs.Depths.{deeper, depths-none, depths_kind, depths_feature, depths_snoc_kind, depths_snoc_feature}

-- all are at most n
abbrev Low : ℕ → List ℕ → Type 0
Low n ds = (z : ℕ) → get_or ds z 0 ≤ n

low_push : (n : ℕ) (ds : List ℕ) (d : ℕ) → Low n ds → d ≤ n → Low n (ds ++ d ∷ [])
low_push n ds d low l z =
    elim (cases_lt z (length ds)) [
      | inl h ↦ omega (arith, get_or_append_left ds (d ∷ []) 0 z h, low z)
      | inr h ↦ elim (cases_lt (length ds) z) [
        | inl b ↦ omega (arith, get_or_past (ds ++ d ∷ []) z 0 (omega (arith, length_push ds d)))
        | inr b ↦ omega (arith, get_or_push ds d 0 z (omega arith))
      ]
    ]

low_deeper : (n : ℕ) (ds : List ℕ) (x y : ℕ) → Low n ds → Low (n + 1) (deeper ds x y)
low_deeper n ds x y low = step (eqb y (length ds))
  where
    step : (b : Bool) → Low (n + 1) (cond b (ds ++ suc (get_or ds x 0) ∷ []) ds)
    step true = low_push (n + 1) ds (suc (get_or ds x 0)) (λ z. omega (arith, low z)) (omega (arith, low x))
    step false = λ z. omega (arith, low z)

module _ {K : Type 0} where
  low_from : (n : ℕ) (ds : List ℕ) (ss : List (Statement K)) → Low n ds → Low (n + length ss) (depths_from ds ss)
  low_from n ds [] low z = omega (arith, low z, ap (λ es. get_or es z 0) (depths-none K ds))
  low_from n ds (Kind x k ∷ ss) low z = omega (arith, low_from n ds ss low z, ap (λ es. get_or es z 0) (depths_kind ds x k ss))
  low_from n ds (Feature x f y ∷ ss) low z =
      omega (arith, low_from (n + 1) (deeper ds x y) ss (low_deeper n ds x y low) z, ap (λ es. get_or es z 0) (depths_feature ds x f y ss))

  -- a variable is no deeper than there are statements
  pub depth_few : (ss : List (Statement K)) (z : ℕ) → get_or (depths ss) z 0 ≤ length ss
  depth_few ss z = omega (arith, low_from 0 (0 ∷ []) ss (low_push 0 [] 0 (λ y. omega (arith, get_or_past {X = ℕ} [] y 0 (omega arith))) (omega arith)) z)

  -- one statement more
  deep_kind : (us : List (Said K)) (u : Said K) (x : ℕ) (k : K) → u.statement ≡ Kind x k →
      depths (statements (us ++ u ∷ [])) ≡ depths (statements us)
  deep_kind us u x k e =
      ap depths (map_push (λ (s : Said K). s.statement) us u ∙ ap (λ s. statements us ++ s ∷ []) e) ∙ depths_snoc_kind (statements us) x k

  deep_feature : (us : List (Said K)) (u : Said K) (x f y : ℕ) → u.statement ≡ Feature x f y →
      depths (statements (us ++ u ∷ [])) ≡ deeper (depths (statements us)) x y
  deep_feature us u x f y e =
      ap depths (map_push (λ (s : Said K). s.statement) us u ∙ ap (λ s. statements us ++ s ∷ []) e) ∙ depths_snoc_feature (statements us) x f y

  pub kept_kind : (us vs : List (Said K)) (u : Said K) (x : ℕ) (k : K) (ds : List ℕ) → u.statement ≡ Kind x k → vs ≡ us ++ u ∷ [] →
      ds ≡ depths (statements us) → ds ≡ depths (statements vs)
  kept_kind us vs u x k ds e v d = d ∙ sym (ap (λ ws. depths (statements ws)) v ∙ deep_kind us u x k e)

  pub kept_feature : (us vs : List (Said K)) (u : Said K) (x f y : ℕ) (ds : List ℕ) → u.statement ≡ Feature x f y → vs ≡ us ++ u ∷ [] →
      ds ≡ depths (statements us) → (y ≡ length ds → ⊥) → ds ≡ depths (statements vs)
  kept_feature us vs u x f y ds e v d n =
      let same : deeper ds x y ≡ ds = cond-false (eqb y (length ds)) (ds ++ suc (get_or ds x 0) ∷ []) ds (ne_eqb y (length ds) n) in
      sym (ap (λ ws. depths (statements ws)) v ∙ deep_feature us u x f y e ∙ ap (λ es. deeper es x y) (sym d) ∙ same)

  pub next_feature : (us vs : List (Said K)) (u : Said K) (x f y d : ℕ) (ds es : List ℕ) → u.statement ≡ Feature x f y → vs ≡ us ++ u ∷ [] →
      ds ≡ depths (statements us) → y ≡ length ds → d ≡ get_or ds x 0 → es ≡ ds ++ (d + 1) ∷ [] → es ≡ depths (statements vs)
  next_feature us vs u x f y d ds es e v h n g p =
      let more : deeper ds x y ≡ ds ++ suc (get_or ds x 0) ∷ [] =
      cond-true (eqb y (length ds)) (ds ++ suc (get_or ds x 0) ∷ []) ds (eq-eqb y (length ds) n) in
      p ∙ ap (λ k. ds ++ k ∷ []) (add-one d ∙ ap suc g)
      ∙ sym (ap (λ ws. depths (statements ws)) v ∙ deep_feature us u x f y e ∙ ap (λ es. deeper es x y) (sym h) ∙ more)
