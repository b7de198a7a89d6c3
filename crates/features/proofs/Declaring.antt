-- Declaring a line: which refusal it has, or that it is accepted; and that it has one outcome.
use Rattle.std.proofs.Common.{◌≡◌, ℕ, ◌+◌, ◌<◌, ◌≤◌, Bool, true, false, cond, ◌==◌, ◌||◌, nat_lt, ◌⊎◌, List, [], ◌∷◌, ◌++◌, length, take, drop, Some, Ok, Err, Option, Result, sym, refl, ap, ◌∙◌, subst, inl, inr, arith}
use Rattle.std.specs.Option.{is_some}
use Rattle.std.proofs.lemmas.List.{take-append-drop, length-take-le, take_all, append-nil}
use Rattle.std.proofs.lemmas.Bool.{and_parts, and_from, both_ways, cases_lt, eqb-true, eqb-false, ltb-true, ltb-false}
use Rattle.refusals.specs.declared.Refusal.{Refusal}
use Rattle.refusals.specs.declared.Refusal.TheVariants.{Limit, Grammar, Word}
use Rattle.refusals.specs.Places.{GoesOn, Breaks}
use Rattle.refusals.proofs.Broken.{breaks-apart, breaks-same}
use Rattle.refusals.proofs.Known.{same_refusal}
use Rattle.declarations.specs.declared.name.Name.{Name}
use Rattle.declarations.specs.Held.{name_bytes, Holds}
use Rattle.declarations.specs.Names.{is_name, letter, name_byte, all_name}
use Rattle.declarations.specs.Lines.{LongName, NameEnd}
use Rattle.declarations.proofs.Words.{name-some}
use Rattle.features.specs.Model.{number_of, ReadsLine}
use Rattle.features.proofs.Held.{known_number}
use Rattle.features.specs.Lines.{Lawful, TooMuch, Refuses, Accepts, Declares}

all-front : (xs ys : List ℕ) → all_name (xs ++ ys) ≡ true → all_name xs ≡ true
unfolding all_name
all-front [] ys a = refl
all-front (x ∷ xs) ys a = let p = and_parts (name_byte x) _ a in and_from _ _ p.0 (all-front xs ys p.1)

-- a front of a name that is not empty is a name
pub name-front : (xs ys : List ℕ) → 0 < length xs → is_name (xs ++ ys) ≡ true → is_name xs ≡ true
name-front [] ys l n = absurd (omega arith)
name-front (x ∷ xs) ys l n = let p = and_parts (letter x) _ n in and_from _ _ p.0 (all-front xs ys p.1)

-- where the longest name at a line's front ends, the line goes on no more, or is over
module _ (line : List ℕ) (end : ℕ) (n : NameEnd line end) where
  end-length : length (take end line) ≡ end
  end-length = length-take-le end line n.within

  pub long-name : 24 < length (take end line) → LongName line
  long-name l =
      record {
        name = take end line;
        rest = drop end line;
        named = n.name (omega (arith, end-length));
        long = l;
        whole = sym (take-append-drop end line);
      }

  pub refuses_long : (features : List (List ℕ)) → 24 < length (take end line) → Refuses features line (Limit 0)
  refuses_long features l = inl (inr (inl (long-name l)), refl)

  front_goes_on : GoesOn Lawful (take end line)
  unfolding all_name
  front_goes_on =
      elim (cases_lt 0 end) [
        | inl h ↦ ([], subst Lawful (sym (append-nil (take end line))) (n.name h))
        | inr h ↦ let e : end ≡ 0 = omega arith in (97 ∷ [], subst (λ k. Lawful (take k line ++ 97 ∷ [])) (sym e) refl)
      ]

  no_further : end < length line → GoesOn Lawful (take (end + 1) line) → ⊥
  no_further l g =
      let size = length-take-le (end + 1) line (omega arith) in
      let named = name-front (take (end + 1) line) g.0 (omega arith) g.1 in
      omega (arith, size, n.most (take (end + 1) line) (drop (end + 1) line) named (sym (take-append-drop (end + 1) line)))

  pub stops : (end ≡ 0) ⊎ (end < length line) → Breaks Lawful line end
  stops (inr l) = (front_goes_on, inl (l, no_further l))
  stops (inl z) = (
    front_goes_on,
    elim (cases_lt end (length line)) [
      | inl l ↦ inl (l, no_further l)
      | inr l ↦
          let w = n.within in
          let e : end ≡ length line = omega arith in
          inr (e, λ h. omega (arith, name-some line h))
    ],
  )

  pub lawful : 0 < end → length line ≤ end → Lawful line
  lawful h l = subst Lawful (take_all end line l) (n.name h)

-- what is known once the name at the line's front is held
module _ (features : List (List ℕ)) (line : List ℕ) (end : ℕ) (n : NameEnd line end) (fits : length line ≤ 1000)
    (name : Name) (held : Holds (take end line) (Some name)) where
  short : end ≤ 24
  short = omega (arith, held.0, end-length line end n)

  -- no reason of the first kind
  not_much : (Lawful line → length features < 16) → TooMuch features line → ⊥
  not_much f (inl h) = omega arith
  not_much f (inr (inl h)) = omega (arith, short, n.most h.name h.rest h.named h.whole, h.long)
  not_much f (inr (inr h)) = omega (arith, f h.0, h.1)

  pub refuses_grammar : (end ≡ 0) ⊎ ((end ≡ 0 → ⊥) × (end < length line)) → Refuses features line (Grammar end)
  refuses_grammar s =
      let b = stops line end n (elim s [ inl z ↦ inl z | inr h ↦ inr h.1 ]) in
      inr (inl (not_much (λ l. absurd (breaks-apart Lawful line end b l)), end, b, refl))

  module _ (some : 0 < end) (whole : length line ≤ end) where
    law : Lawful line
    law = lawful line end n some whole

    pub refuses_full : 16 ≤ length features → Refuses features line (Limit 0)
    refuses_full l = inl (inr (inr (law, l)), refl)

    module _ (room : length features < 16) (o : Option ℕ) (found : o ≡ number_of line features) where
      pub refuses_known : is_some o ≡ true → Refuses features line (Word 0)
      refuses_known k = inr (inr (not_much (λ _. room), law, known_number line features o found ∙ k, refl))

      pub line_accepted : is_some o ≡ false → Accepts features line
      line_accepted u =
          record { lawful = law; within = not_much (λ _. room); fresh = known_number line features o found ∙ u }

    pub name_is : name_bytes name ≡ line
    name_is = held.1 ∙ take_all end line whole

-- whether a word of so many bytes is the whole line
pub not_whole : (end n : ℕ) (e : Refusal) → ◌≡◌ {A = Result (Unit {0}) Refusal} (Err e) (cond (end == 0 || nat_lt end n) (Err (Grammar end)) (Ok tt)) → ((end ≡ 0) ⊎ ((end ≡ 0 → ⊥) × (end < n))) × (e ≡ Grammar end)
not_whole end n e q = go (end == 0) refl (nat_lt end n) refl q where
  not_ok : ◌≡◌ {A = Result (Unit {0}) Refusal} (Err e) (Ok tt) → ⊥
  not_ok q = let z : ◌≡◌ {A = ℕ} 0 1 = cc in omega (arith, z)

  go : (b : Bool) → (end == 0) ≡ b → (c : Bool) → nat_lt end n ≡ c → ◌≡◌ {A = Result (Unit {0}) Refusal} (Err e) (cond (b || c) (Err (Grammar end)) (Ok tt)) → ((end ≡ 0) ⊎ ((end ≡ 0 → ⊥) × (end < n))) × (e ≡ Grammar end)
  go true h c k q = (inl (eqb-true end 0 h), cc)
  go false h true k q = (inr (eqb-false end 0 h, ltb-true end n k), cc)
  go false h false k q = absurd (not_ok q)

pub is_whole : (end n : ℕ) {u : Unit {0}} → Ok u ≡ cond (end == 0 || nat_lt end n) (Err (Grammar end)) (Ok tt) → (0 < end) × (n ≤ end)
is_whole end n {u} q = go (end == 0) refl (nat_lt end n) refl q where
  not_err : ◌≡◌ {A = Result (Unit {0}) Refusal} (Ok u) (Err (Grammar end)) → ⊥
  not_err q = let z : ◌≡◌ {A = ℕ} 0 1 = cc in omega (arith, z)

  go : (b : Bool) → (end == 0) ≡ b → (c : Bool) → nat_lt end n ≡ c → Ok u ≡ cond (b || c) (Err (Grammar end)) (Ok tt) → (0 < end) × (n ≤ end)
  go true h c k q = absurd (not_err q)
  go false h true k q = absurd (not_err q)
  go false h false k q = (omega (arith, eqb-false end 0 h), omega (arith, ltb-false end n k))

-- the name of a line, unless it is known
pub name_read : (features : List (List ℕ)) (line : List ℕ) (name : Name) (o : Option ℕ) (b : Bool) → is_some o ≡ b → length features < 16 → (is_some o ≡ true → Refuses features line (Word 0))
    → (is_some o ≡ false → Accepts features line) → name_bytes name ≡ line → ReadsLine features line (cond b (Err (Word 0)) (Ok name))
name_read features line name o true e few r a is = r e
name_read features line name o false e few r a is = (a e, is, few)

-- a line has one outcome
module _ (features : List (List ℕ)) (line : List ℕ) where
  not_refused : (e : Refusal) → Accepts features line → Refuses features line e → ⊥
  not_refused e a (inl h) = a.within h.0
  not_refused e a (inr (inl h)) = breaks-apart Lawful line h.1 h.2 a.lawful
  not_refused e a (inr (inr h)) = both_ways _ a.fresh h.2

  same_refused : (e f : Refusal) → Refuses features line e → Refuses features line f → f ≡ e
  same_refused e f (inl h) (inl g) = same_refusal e f 1 0 0 h.1 g.1 refl
  same_refused e f (inl h) (inr (inl g)) = absurd (g.0 h.0)
  same_refused e f (inl h) (inr (inr g)) = absurd (g.0 h.0)
  same_refused e f (inr (inl h)) (inl g) = absurd (h.0 g.0)
  same_refused e f (inr (inl h)) (inr (inl g)) =
      same_refusal e f 2 h.1 g.1 h.3 g.3 (breaks-same Lawful line h.1 g.1 h.2 g.2)
  same_refused e f (inr (inl h)) (inr (inr g)) = absurd (breaks-apart Lawful line h.1 h.2 g.1)
  same_refused e f (inr (inr h)) (inl g) = absurd (h.0 g.0)
  same_refused e f (inr (inr h)) (inr (inl g)) = absurd (breaks-apart Lawful line g.1 g.2 h.1)
  same_refused e f (inr (inr h)) (inr (inr g)) = same_refusal e f 3 0 0 h.3 g.3 refl

  pub one_outcome : (after other : List (List ℕ)) (r s : Result ℕ Refusal) → Declares features line after r → Declares features line other s → s ≡ r
  one_outcome after other (Ok k) (Ok m) h g = ap Ok (g.1 ∙ sym h.1)
  one_outcome after other (Ok k) (Err f) h g = absurd (not_refused f h.0 g.0)
  one_outcome after other (Err e) (Ok m) h g = absurd (not_refused e g.0 h.0)
  one_outcome after other (Err e) (Err f) h g = ap Err (same_refused e f h.0 g.0)
