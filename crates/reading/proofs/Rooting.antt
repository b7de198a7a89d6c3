-- The whole line, as the term that it is.
use Rattle.std.proofs.Common.{◌≡◌, ℕ, ◌<◌, ◌≤◌, List, length, Some, None, Ok, Err, sym, refl, ap, ◌∙◌, inl, inr, arith}
use Rattle.std.proofs.lemmas.List.{take_all, length-map}
use Rattle.refusals.specs.declared.Refusal.{Refusal}
use Rattle.refusals.specs.declared.Refusal.TheVariants.{Grammar, Word}
use Rattle.grammar.specs.Lines.{PastLimits, TooMuch, Line}
use Rattle.grammar.specs.Trees.{no_limits}
use Rattle.grammar.specs.Told.{nothing, tell, told, variable}
use Rattle.grammar.proofs.Breaking.{lawful-within}
use Rattle.grammar.proofs.Unlimited.{lawful_unlimited}
use Rattle.reading.specs.declared.notes.Notes.{Notes}
use Rattle.reading.specs.Links.{linked}
use Rattle.reading.specs.Notes.{noted, part, said_in, variables, statements}
use Rattle.reading.specs.Reading.{Fails, TermRead, RootRead, NotesOf}
use Rattle.reading.proofs.Failing.{fails_here}

-- where nothing is noted nothing is held
pub noted_nothing : (line : List ℕ) (n : Notes) → noted line n ≡ nothing → (variables n ≡ 0) × (statements n ≡ 0)
noted_nothing line n e = (
  sym (length-map n.names.items (part line)) ∙ ap (λ t. length t.names) e,
  sym (length-map n.said.items (said_in line)) ∙ ap (λ t. length t.said) e,
)

module _ (features : List (List ℕ)) (line : List ℕ) (n m : Notes) (e : ℕ) (g : TermRead features line None 0 0 n m (Ok e)) where
  pub behind : e < length line → Fails line (Grammar e)
  behind l = let (t, lawful, spans, ended, said, room) = g in fails_here line e _ l ended.state_is (ended.closes no_limits l)

  pub whole_line : length line ≤ e → RootRead features line (noted line n) (noted line m) (Ok tt)
  whole_line l =
      let (t, lawful, spans, ended, said, room) = g in
      (t, lawful, sym spans.bytes ∙ take_all e line l, said)

-- from the root to the notes of a line
module _ (features : List (List ℕ)) (line : List ℕ) (short : length line ≤ 1000) where
  within : (PastLimits line → ⊥) → TooMuch line → ⊥
  within p t = elim t [ inl l ↦ omega arith | inr q ↦ p q ]

  pub root_fails : (e : Refusal) → Fails line e → NotesOf features line (Err e)
  root_fails e f =
      elim f [
        | inl h ↦ inl (inr h.0, h.1)
        | inr h ↦ inr (inl (within h.0, h.1, h.2, h.3))
      ]

  module _ (n m : Notes) (fresh : noted line n ≡ nothing) (r : RootRead features line (noted line n) (noted line m) (Ok tt)) where
    abbrev line_of : Line line
    line_of =
        record {
          tree = r.0;
          lawful = lawful_unlimited 0 r.0 r.1;
          whole = r.2;
          within = within (lawful-within line r.0 r.1 r.2);
        }

    says : noted line m ≡ told features r.0
    says = r.3 ∙ ap (λ s. tell features r.0 0 (linked None (variable r.0 s) s)) fresh

    pub root-wrong : (p : ℕ) → m.wrong ≡ Some p → NotesOf features line (Err (Word p))
    root-wrong p w = inr (inr (line_of, p, sym (ap (λ s. s.wrong) says) ∙ w, refl))

    pub root-right : m.wrong ≡ None → NotesOf features line (Ok m)
    root-right w = (line_of, says, sym (ap (λ s. s.wrong) says) ∙ w)
