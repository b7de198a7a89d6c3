-- What is added to notes in memory.
use Rattle.std.proofs.Common.{◌≡◌, ℕ, ◌+◌, ◌-◌, ◌≤◌, min, Bool, true, false, cond, List, [], ◌∷◌, ◌++◌, map, length, take, drop, Some, None, Option, sym, ap, ◌∙◌, inl, inr, arith}
use Rattle.std.proofs.lemmas.List.{drop_all, take_all, length-drop}
use Rattle.std.proofs.lemmas.Bool.{cases_Bool, cases_lt, cond-true, cond-false}
use Rattle.std.proofs.lemmas.Option.{none-some}
use Rattle.features.specs.Model.{number_of}
use Rattle.grammar.proofs.Searching.{number_position, unlisted_past}
use Rattle.declarations.specs.Names.{listed}
use Rattle.grammar.specs.Told.{Told, meet, index, mark, introduce}
use Rattle.reading.specs.declared.span.Span.{Span}
use Rattle.reading.specs.declared.reader.Link.{Link}
use Rattle.reading.specs.Links.{linked}
use Rattle.reading.specs.Notes.{part, first_named, with_name, Named}

-- the search of the code answers the number
pub number_found : (line w : List ℕ) (names : List Span) → first_named line w names ≡ number_of w (map (part line) names)
unfolding first_named
number_found line w names = number_position (part line) w names

short_take : (n m : ℕ) (xs : List ℕ) → m ≡ min n (length xs) → take m xs ≡ take n xs
short_take n m xs e =
    elim (cases_lt (length xs) n) [
      | inl l ↦ take_all m xs (omega arith) ∙ sym (take_all n xs (omega arith))
      | inr l ↦ let q : m ≡ n = omega arith in ap (λ k. take k xs) q
    ]

take_past : (n m : ℕ) (xs : List ℕ) → length xs ≤ m → take n (drop m xs) ≡ []
take_past n m xs l = ap (take n) (drop_all m xs l) ∙ take_all n [] (omega arith)

-- the bytes of a part, also where the line ends before it does
pub part_cut : (line : List ℕ) (s : Span) (start len : ℕ) → start ≡ min s.place (length line) → len ≡ min s.len (length line - start) → take (start + len - start) (drop start line) ≡ part line s
part_cut line s start len a b =
    let e : start + len - start ≡ len = omega arith in
    ap (λ k. take k (drop start line)) e
    ∙ elim (cases_lt (length line) s.place) [
      | inl l ↦ take_past len start line (omega arith) ∙ sym (take_past s.len s.place line (omega arith))
      | inr l ↦
          let q : start ≡ s.place = omega arith in
          let m = length-drop start line in
          short_take s.len len (drop start line) (b ∙ ap (min s.len) (sym m)) ∙ ap (λ k. take s.len (drop k line)) q
    ]

-- a name that is not met before, and one that is
module _ (t : Told) (w : List ℕ) where
  old_name : (v : ℕ) → Some v ≡ number_of w t.names → (v ≡ index w t.names) × (true ≡ listed w t.names)
  old_name v e =
      elim (cases_Bool (listed w t.names)) [
        | inl h ↦
            let n : number_of w t.names ≡ Some (index w t.names) = cond-true (listed w t.names) _ _ h in
            (cc, sym h)
        | inr h ↦
            let n : number_of w t.names ≡ None = cond-false (listed w t.names) _ _ h in
            absurd (none-some v (sym n ∙ sym e))
      ]

  new_name : None ≡ number_of w t.names → (length t.names ≡ index w t.names) × (false ≡ listed w t.names)
  new_name e =
      elim (cases_Bool (listed w t.names)) [
        | inl h ↦
            let n : number_of w t.names ≡ Some (index w t.names) = cond-true (listed w t.names) _ _ h in
            absurd (none-some (index w t.names) (e ∙ n))
        | inr h ↦ (sym (unlisted_past t.names w h), sym h)
      ]

  pub old_meets : (v : ℕ) → Some v ≡ number_of w t.names → Named w t.names (record { variable = v; known = true })
  old_meets v e = old_name v e

  pub old_told : (v : ℕ) → Some v ≡ number_of w t.names → t ≡ meet w t
  old_told v e =
      let n : t.names ≡ cond (listed w t.names) t.names (t.names ++ w ∷ []) = sym (cond-true _ _ _ (sym (old_name v e).1)) in
      λ j. record { names = n j; said = t.said; wrong = t.wrong }

  pub new_number : None ≡ number_of w t.names → length t.names ≡ index w t.names
  new_number e = (new_name e).0

  pub new_unknown : None ≡ number_of w t.names → false ≡ listed w t.names
  new_unknown e = (new_name e).1

  pub new_told : None ≡ number_of w t.names → with_name w t ≡ meet w t
  new_told e =
      let n : t.names ++ w ∷ [] ≡ cond (listed w t.names) t.names (t.names ++ w ∷ []) = sym (cond-false _ _ _ (sym (new_name e).1)) in
      λ j. record { names = n j; said = t.said; wrong = t.wrong }

-- what a name adds: its variable, the link to it, and that it is wrong where it was met before
module _ (from : Option Link) (v : ℕ) (known : Bool) (p w : List ℕ) (same : p ≡ w) (t0 t1 t2 : Told) (met : t1 ≡ meet p t0) (said : t2 ≡ linked from v t1) (number : v ≡ index p t0.names) (is_Known : known ≡ listed p t0.names) where
  pub name-number : v ≡ index w t0.names
  name-number = number ∙ ap (λ x. index x t0.names) same

  linked_met : t2 ≡ meet w (linked from v t0)
  linked_met = said ∙ ap (linked from v) (met ∙ ap (λ x. meet x t0) same)

  pub name-told : t2 ≡ meet w (linked from (index w t0.names) t0)
  name-told = linked_met ∙ ap (λ y. meet w (linked from y t0)) name-number

  pub name_marked : (i : ℕ) (t3 : Told) → t3 ≡ mark known i t2 → t3 ≡ introduce (Some w) i (linked from v t0)
  name_marked i t3 m =
      m ∙ ap (λ b. mark b i t2) (is_Known ∙ ap (λ x. listed x t0.names) same) ∙ ap (mark (listed w t0.names) i) linked_met
