-- Notes whose kinds are read: what the line is answered, and what the term keeps.
use Rattle.std.proofs.Common.{◌≡◌, ℕ, ◌<◌, ◌≤◌, true, List, length, is_ok, Ok, Err, Result, sym, refl, ap, ◌∙◌, subst, inl, inr, arith}
use Rattle.std.proofs.lemmas.Bool.{cases_lt, both_ways}
use Rattle.refusals.specs.declared.Refusal.{Refusal}
use Rattle.refusals.specs.declared.Refusal.TheVariants.{Kind, Memory}
use Rattle.orders.specs.Texts.{Texts}
use Rattle.grammar.specs.declared.statement.Said.{Said}
use Rattle.grammar.specs.Told.{told}
use Rattle.grammar.specs.Lawful.{lawful, depths, statements}
use Rattle.grammar.specs.Lines.{Reads, WrongKind, Accepts, Refuses, Answers}
use Rattle.grammar.specs.Trees.{written}
use Rattle.grammar.proofs.Counting.{few_names_and_statements}
use Rattle.grammar.proofs.Determined.{only_refusal, only_answer}
use Rattle.grammar.proofs.Keeping.{told-lawful}
use Rattle.grammar.specs.Only.{OnlyReads}
use Rattle.grammar.proofs.OnlyKinds.{only_reads}
use Rattle.grammar.proofs.SameKinds.{same-lawful, same_depths, same_length}
use Rattle.grammar.proofs.Variables.{told-variables}
use Rattle.reading.specs.declared.notes.Notes.{Notes}
use Rattle.reading.specs.Notes.{noted}
use Rattle.terms.specs.Kinds.{Found}
use Rattle.reading.specs.Reading.{NotesOf}

-- what an answer settles: every answer is this one
abbrev Settled : {K : Type 0} → Texts K → List (List ℕ) → ℕ → List ℕ → List (Said K) → Result (Unit {0}) Refusal → Type 0
Settled {K} m F room line us r =
    (s : Result (Unit {0}) Refusal) (vs : List (Said K)) → Answers m F room line vs s → (s ≡ r) × (is_ok r ≡ true → vs ≡ us)

module _ {K : Type 0} (m : Texts K) (F : List (List ℕ)) (features : ℕ) (line : List ℕ) (notes : Notes) (f : Found F features line notes) where
  told-said : (noted line notes).said ≡ (told F f.words.tree).said
  told-said = ap (λ t. t.said) f.same

  -- a text that no kind has
  pub refused_kind : (room p : ℕ) → WrongKind m (noted line notes).said p → Refuses m F room line (Kind p)
  refused_kind room p w = inr (inr (inr (inl (f.words, f.right, p, subst (λ ss. WrongKind m ss p) told-said w, refl))))

  module _ (us : List (Said K)) (o : OnlyReads m (noted line notes).said us) where
    only_told : OnlyReads m (told F f.words.tree).said us
    only_told = subst (λ ss. OnlyReads m ss us) told-said o

    reads_told : Reads m (told F f.words.tree).said us
    reads_told = only_reads m _ us only_told

    pub refused_memory : (room : ℕ) → room < length us → Refuses m F room line Memory
    refused_memory room l = inr (inr (inr (inr (f.words, f.right, us, reads_told, l, refl))))

    pub accepted : (room : ℕ) → length us ≤ room → Accepts m F room line us
    accepted room l =
        record {
          words = f.words;
          right = f.right;
          said = reads_told;
          fits = l;
          variables = ap length (same_depths m _ us reads_told) ∙ told-variables F f.words.tree;
        }

    pub lawful-read : lawful features (statements us) ≡ true
    lawful-read = ap (λ n. lawful n (statements us)) (sym f.many) ∙ same-lawful m _ us (length F) reads_told ∙ told-lawful F f.words.tree f.right

    short : length (written f.words.tree) ≤ 1000
    short =
        elim (cases_lt 1000 (length line)) [
          | inl l ↦ absurd (f.words.within (inl l))
          | inr l ↦ omega (arith, ap length f.words.whole)
        ]

    pub few_read : (length us ≤ 399) × (length (depths (statements us)) ≤ 200)
    few_read =
        let few = few_names_and_statements F f.words.tree f.words.lawful short in (
          omega (arith, few.1, same_length m _ us reads_told),
          omega (arith, few.0, ap length (same_depths m _ us reads_told), told-variables F f.words.tree),
        )

    pub settled : (room : ℕ) → length us ≤ room → Settled m F room line us (Ok tt)
    unfolding accepted
    settled room l s vs a = let p = only_answer m F room line us (accepted room l) only_told s vs a in (p.0, λ k. p.1)

  pub settled_refusal : (room : ℕ) (e : Refusal) (us : List (Said K)) → Refuses m F room line e → Settled m F room line us (Err e)
  settled_refusal room e us r s vs a = (only_refusal m F room line e r s vs a, λ k. absurd (both_ways _ refl k))

-- a line that is refused before its kinds are looked at
pub refused_early : {K : Type 0} (m : Texts K) (features : List (List ℕ)) (room : ℕ) (line : List ℕ) (e : Refusal) → NotesOf features line (Err e) → Refuses m features room line e
refused_early m features room line e n =
    elim n [
      | inl h ↦ inl h
      | inr h ↦ elim h [ inl g ↦ inr (inl g) | inr g ↦ inr (inr (inl g)) ]
    ]
